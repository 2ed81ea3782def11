-- The branch is one of those that are left.
use Rattle.std.proofs.Common.{◌≡◌, drop, map, None}
use Rattle.lus_values.specs.Lists.{item}
use Rattle.lus_values.specs.View.{entry_of}
use Rattle.lus_reference.specs.Made.{held}
use Rattle.lus_reference.proofs.value.held.Given as goal

abbrev pub invariant-loop-constructor : goal.invariant-loop-constructor
invariant-loop-constructor l =
    let x = item None (map entry_of l.row) l.variable in
    held (map entry_of (drop l.constructor l.branches)) x l.constructor ≡ held (map entry_of l.branches) x 0
