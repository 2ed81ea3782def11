-- The words so far are those of the cells so far.
use Rattle.std.proofs.Common.{◌≡◌, map, string_bytes, take}
use Rattle.lus_test.specs.Findings.{word_of}
use Rattle.lus_test.proofs.finding.words_of.Given as goal

abbrev pub invariant-loop-cell : goal.invariant-loop-cell
invariant-loop-cell l = map string_bytes l.words.items ≡ map word_of (map string_bytes (take l.cell-index l.cells))
