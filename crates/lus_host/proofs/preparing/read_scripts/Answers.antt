-- The clauses of reading, in the words of a run.
use Rattle.std.proofs.Common.{◌∙◌, ap, sym, subst, IfErr}
use Rattle.lus_program.specs.Programs.{Program}
use Rattle.lus_program.specs.View.{program_seen}
use Rattle.lus_callers.specs.MachineSpecs.Constructors.{names_of}
use Rattle.lus_host.specs.ScriptRefusals.{AreRefused}
use Rattle.lus_host.proofs.ScriptErrors.{read_refused}
use Rattle.lus_host.proofs.preparing.read_scripts.Goals as goal

pub returns-clause-refused : goal.returns-clause-refused
returns-clause-refused c =
    subst (λ (p : Program). IfErr c.read_scripts.result (λ e. AreRefused p c.args.bytes.now e)) c.source.ensures.same
    (read_refused (program_seen c.source.result.now) c.args.bytes.now c.names.result.now (c.names.ensures ∙ ap names_of (sym c.source.ensures.same)) c.read_scripts.result
    c.read_scripts.ensures.long c.read_scripts.ensures.json c.read_scripts.ensures.refused)
