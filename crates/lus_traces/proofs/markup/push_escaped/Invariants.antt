-- The characters so far stand escaped behind the old text.
use Rattle.std.proofs.Common.{◌≡◌, ◌++◌, flat_map, string_bytes}
use Rattle.lus_traces.specs.Markup.{escape}
use Rattle.lus_traces.proofs.markup.push_escaped.Given as goal

abbrev pub invariant-loop-letter : goal.invariant-loop-letter
invariant-loop-letter l = string_bytes l.out ≡ string_bytes l.initial.out ++ flat_map escape l.yielded
