-- What holds of the bytes that were read holds of those that were left.
use Rattle.std.proofs.Common.{refl, subst, ◌+◌}
use Rattle.std.proofs.lemmas.Option.{IfSome_then}
use Rattle.lus_syntax.specs.Limits.{most_bytes}
use Rattle.lus_host.specs.Sources.{ProgramRefused}
use Rattle.lus_host.proofs.Sources.{refused_left, short_left}
use Rattle.lus_callers.specs.CodeSpecs.Codes.{program_of}
use Rattle.lus_callers.specs.MachineSpecs.Acceptance.{Accepted}
use Rattle.lus_host.proofs.program.read_program.Goals as goal

pub returns-in-Ok-clause-ok : goal.returns-in-Ok-clause-ok
returns-in-Ok-clause-ok g c =
    let p = program_of c.in-Ok.program in
    let bytes = c.in_ok-bytes.bytes.items in
    let accepted : Accepted bytes p = subst (λ bs. Accepted bs p) c.deref.ensures.value c.in-Ok.ensures.ok in
    IfSome_then (g.P.Source.left c.args.source.now) c.in_ok-bytes.ensures.bytes (λ left e. short_left most_bytes (most_bytes + 1) refl bytes left e accepted.size (λ bs. Accepted bs p) accepted)

pub returns-clause-refused : goal.returns-clause-refused
returns-clause-refused g c = λ h.
    let e = c.in-Err.refusal in
    let bytes = c.in_ok-bytes.bytes.items in
    let refused : ProgramRefused bytes e = subst (λ bs. ProgramRefused bs e) c.deref.ensures.value (c.in-Err.ensures.refused h) in
    IfSome_then (g.P.Source.left c.args.source.now) c.in_ok-bytes.ensures.bytes (λ left read. refused_left most_bytes (most_bytes + 1) refl refl bytes left e read refused)
