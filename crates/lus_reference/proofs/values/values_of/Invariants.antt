-- The stack has the values of the outermost of the parts that were gone through.
use Rattle.std.proofs.Common.{◌≡◌, ◌-◌, drop, length, map}
use Rattle.lus_values.specs.View.{entry_of}
use Rattle.lus_program.specs.View.{program_seen}
use Rattle.lus_streams.specs.Streams.{Instant, World, row_of}
use Rattle.lus_parts.specs.Nested.{AreNested}
use Rattle.lus_parts.specs.Parts.{part_of}
use Rattle.lus_reference.specs.Kept.{AreRowsFrom, Keeps}
use Rattle.lus_reference.specs.Made.{roots, stack_of, value_in}
use Rattle.lus_reference.proofs.values.values_of.Given as goal

abbrev pub invariant-loop-behind : goal.invariant-loop-behind
invariant-loop-behind l =
    let p = program_seen l.program in
    let es = map part_of l.parts in
    (now : Instant) (past : World) → row_of now ≡ map entry_of l.row → AreRowsFrom now 0 l.rows → Keeps p past es (map entry_of l.kept) → AreNested p es
    → stack_of l.stack.items ≡ map (value_in p now past) (roots (map part_of (drop (length l.parts - l.behind) l.parts)))
