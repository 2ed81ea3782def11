-- What holds of the bytes that were read holds of the file's.
use Rattle.std.proofs.Common.{◌+◌, refl, subst}
use Rattle.std.proofs.lemmas.Result.{IfErr-weaker, IfOk-weaker}
use Rattle.lus_syntax.specs.Limits.{most_bytes}
use Rattle.lus_host.specs.CodeSpecs.Codes.{program_of}
use Rattle.lus_host.specs.MachineSpecs.Acceptance.{Accepted}
use Rattle.lus_cli.specs.Ends.{ReadFails}
use Rattle.lus_cli.specs.Programs.{IsCompileFault}
use Rattle.lus_cli.proofs.ProgramLemmas.{accepted, compile_fault}
use Rattle.lus_cli.proofs.program.read_program.Goals as goal

pub returns-clause-accepted : goal.returns-clause-accepted
returns-clause-accepted g c =
    IfOk-weaker c.compiled.result _ _ (λ p a. accepted (g.D.Folder.known c.args.folder.now c.args.name.now) most_bytes (most_bytes + 1) refl refl
    c.in_ok-bytes.bytes.items c.in_ok-bytes.ensures.bytes (program_of p) (subst (λ bs. Accepted bs (program_of p)) c.deref.ensures.value a))
    c.compiled.ensures.accepted

pub returns-clause-fault : goal.returns-clause-fault
returns-clause-fault g c =
    IfErr-weaker c.compiled.result _ _ (λ f cause. compile_fault (g.D.Folder.known c.args.folder.now c.args.name.now) most_bytes (most_bytes + 1)
    refl refl c.in_ok-bytes.bytes.items c.in_ok-bytes.ensures.bytes (ReadFails g.row.D-File.Denot g.D.File.Source.left g.D.File.Source.failures)
    f (subst (λ bs. IsCompileFault bs f) c.deref.ensures.value cause)) c.compiled.ensures.fault
