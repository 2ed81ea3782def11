use Rattle.std.proofs.Common.{subst}
use Rattle.lus_shared.specs.MachineSpecs.Acceptance.{IsRefused}
use Rattle.lus_c.specs.Refusals.{TellsRefusal}
use Rattle.lus_c.proofs.compiling.lus_raw_compile.Goals as goal

pub returns-in-Ok-clause-refused : goal.returns-in-Ok-clause-refused
returns-in-Ok-clause-refused c = λ e. subst IsRefused c.in-Ok.ensures.cases.0 (c.compile_in.ensures.refused e)

pub returns-in-Ok-clause-told : goal.returns-in-Ok-clause-told
returns-in-Ok-clause-told c = λ e. subst (λ t. TellsRefusal t c.compile_in.new.refused) c.in-Ok.ensures.cases.0 (c.compile_in.ensures.told e)
