-- A line that tells no entry has no reason.
use Rattle.lus_cli.specs.MachineSpecs.Constructors.{names_of}
use Rattle.lus_audit.proofs.reasons.ExplainedObserver.pass.Goals as goal

pub returns : goal.returns
returns c = λ p f h told. (told.0, told.1, c.pass.ensures p f (names_of p) told.0 told.1 h told.2)
