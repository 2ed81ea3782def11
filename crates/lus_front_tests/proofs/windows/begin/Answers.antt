-- What a resolved program within the limits has.
use Rattle.lus_program.specs.View.{program_seen}
use Rattle.lus_streams.proofs.NeedsResolved.{resolved_needs_are_variables}
use Rattle.lus_order.proofs.Narrow.{few_are_narrow}
use Rattle.lus_front_tests.proofs.windows.begin.Goals as goal

pub new-requires-clause-resolved : goal.new-requires-clause-resolved
new-requires-clause-resolved c = c.program-program.ensures.resolved

pub new-requires-clause-needs : goal.new-requires-clause-needs
new-requires-clause-needs c = resolved_needs_are_variables (program_seen c.program-program.result.now) c.program-program.ensures.resolved

pub new-requires-clause-narrow : goal.new-requires-clause-narrow
new-requires-clause-narrow c = few_are_narrow (program_seen c.program-program.result.now).nodes c.program-program.ensures.limited.variables
