use Rattle.std.proofs.Common.{sym}
use Rattle.lus_program.specs.View.{program_seen}
use Rattle.lus_eval.proofs.TypedRows.{entries_fit-lengths}
use Rattle.lus_eval.proofs.shape.row_fits.Goals as goal

pub returns-then-entries-variables : goal.returns-then-entries-variables
returns-then-entries-variables c = sym (entries_fit-lengths (program_seen c.args.program.now) c.args.variables.now c.args.entries.now c.if-entries-variables.true)
