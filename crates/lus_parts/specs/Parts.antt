-- The parts of a text that the code holds, and the clocks that it puts operands on.
use Rattle.std.specs.Prelude.{ℕ}
use Rattle.lus_program.specs.Programs.{Operands, numbered, Program, node_at}
use Rattle.lus_program.specs.View.{expression_of}
use Rattle.lus_streams.specs.Clocks.{Clock, Part, at, formal_clock, base_of, branch_clock}
use Rattle.lus_parts.specs.declared.part.Part.{Part as StoredPart}
use Rattle.lus_parts.specs.declared.under.Under.{Under}
use Rattle.lus_parts.specs.declared.under.Under.TheVariants as stands

abbrev pub part_of : StoredPart → Part
part_of e = at e.clock.items (numbered e.number (expression_of e.expr.now))

-- the clocks of operands by their places: those of an operator are on its clock
abbrev pub operand_clock : Program → Under → Operands → Clock → ℕ → Clock
operand_clock p stands.Operator es k = λ m. k
operand_clock p (stands.Merge x) es k = branch_clock x k
operand_clock p (stands.Call g) es k = formal_clock (node_at p g) es (base_of (node_at p g) k)
