-- The old text is a beginning of what stands.
use Rattle.std.proofs.Common.{string_bytes}
use Rattle.lus_values.specs.Text.{Begins}
use Rattle.lus_windows.proofs.faults.push_way.Given as goal

abbrev pub invariant-loop-number : goal.invariant-loop-number
invariant-loop-number l = Begins (string_bytes l.fn.text) (string_bytes l.text)
