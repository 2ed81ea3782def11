-- The rows so far come before those of the pairs that are left.
use Rattle.std.proofs.Common.{◌≡◌, ◌++◌}
use Rattle.std.specs.Iterator.Adapters.{zip_first, zip_second}
use Rattle.std.specs.Slice.Iter.{iter_rest}
use Rattle.lus_diagrams.specs.Columns.{paired}
use Rattle.lus_diagrams.proofs.given.paired.Given as goal

abbrev pub invariant-loop-input : goal.invariant-loop-input
invariant-loop-input l =
    l.rows.items ++ paired (iter_rest (zip_first l.input-iterator)) (iter_rest (zip_second l.input-iterator)) ≡ paired l.inputs l.outputs
