use Rattle.std.proofs.Common.{◌≡◌, map, take}
use Rattle.lus_syntax.specs.View.{kind_seen}
use Rattle.lus_warnings.specs.Uses.{word_of}
use Rattle.lus_warnings.proofs.table.words_of.Given as goal

abbrev pub invariant-loop-token : goal.invariant-loop-token
invariant-loop-token l = map (λ w. w.now) l.words.items ≡ map (λ t. word_of (kind_seen t.kind)) (take l.token-index l.tokens)
