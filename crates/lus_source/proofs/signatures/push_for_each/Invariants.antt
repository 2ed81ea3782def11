use Rattle.std.proofs.Common.{◌≡◌, ◌++◌, map, take}
use Rattle.lus_syntax.specs.View.{names_seen}
use Rattle.lus_source.specs.Tables.{each_of}
use Rattle.lus_source.proofs.signatures.push_for_each.Given as goal

abbrev pub invariant-loop-name : goal.invariant-loop-name
invariant-loop-name l = l.kinds.items ≡ l.fn.kinds.items ++ map (λ e. e.1) (each_of (names_seen (take l._name-index l.names)) l.kind)
