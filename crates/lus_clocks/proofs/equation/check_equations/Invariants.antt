-- The rest is on clocks where the whole is.
use Rattle.std.proofs.Common.{◌≡◌, drop}
use Rattle.lus_program.specs.View.{node_of, program_seen}
use Rattle.lus_clocks.specs.Fitting.{equations_fit}
use Rattle.lus_clocks.proofs.equation.check_equations.Given as goal

abbrev pub invariant-loop-equation : goal.invariant-loop-equation
invariant-loop-equation l =
    equations_fit (program_seen l.program) (node_of l.node) (drop l.equation-index l.node.equations.items) ≡ equations_fit (program_seen l.program) (node_of l.node) l.node.equations.items
