-- What was shown so far is of the characters so far.
use Rattle.std.proofs.Common.{◌≡◌, flat_map, string_bytes}
use Rattle.lus_printable.specs.Printable.{shown}
use Rattle.lus_printable.proofs.showing.printable.Given as goal

abbrev pub invariant-loop-letter : goal.invariant-loop-letter
invariant-loop-letter l = string_bytes l.text ≡ flat_map shown l.yielded
