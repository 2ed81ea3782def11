-- The rest is lawful where the whole is.
use Rattle.std.proofs.Common.{◌≡◌, drop, map}
use Rattle.lus_program.specs.View.{node_of, variable_of}
use Rattle.lus_clocks.specs.Fitting.{are_declared}
use Rattle.lus_clocks.proofs.declared.check_declared.Given as goal

abbrev pub invariant-loop-index : goal.invariant-loop-index
invariant-loop-index l =
    are_declared (node_of l.node) l.index (map variable_of (drop l.index l.node.variables.items)) ≡ are_declared (node_of l.node) 0 (map variable_of l.node.variables.items)
