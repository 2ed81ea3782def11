use Rattle.std.proofs.Common.{arith}
use Rattle.lus_leaves.proofs.Writes.{written-over, written-count, written-length}
use Rattle.lus_leaves.proofs.writing.write_row.Goals as goal

pub returns-clause-written : goal.returns-clause-written
returns-clause-written c = written-over _ _ _ _ (omega arith) c.write_entries.ensures

pub returns-clause-count : goal.returns-clause-count
returns-clause-count c = written-count _ _ _ _ c.write_entries.ensures

pub returns-clause-length : goal.returns-clause-length
returns-clause-length c = written-length _ _ _ _ _ (omega arith) c.write_entries.ensures
