-- What holds of the bytes that were read holds of those that were left.
use Rattle.std.proofs.Common.{◌+◌, refl, sym, subst, take, IfSome, ◌≡◌}
use Rattle.std.proofs.lemmas.Option.{IfSome_then}
use Rattle.lus_syntax.specs.Limits.{most_bytes}
use Rattle.lus_callers.specs.CodeSpecs.Codes.{program_of}
use Rattle.lus_scripts.specs.View.{scripts_seen}
use Rattle.lus_host.proofs.ScriptErrors.{error_left, scripts_left}
use Rattle.lus_host.proofs.preparing.scripts_for.Goals as goal

pub returns-in-Ok-read_scripts-clause-ok : goal.returns-in-Ok-read_scripts-clause-ok
returns-in-Ok-read_scripts-clause-ok g c =
    let p = program_of c.args.program.now in
    let bytes = c.deref.result.now in
    let left = g.S.Source.left c.args.source.now in
    let read : IfSome left (λ bs. bytes ≡ take (most_bytes + 1) bs) =
    subst (λ v. IfSome left (λ bs. v ≡ take (most_bytes + 1) bs)) (sym c.deref.ensures.value) c.in-Ok.ensures.bytes in
    IfSome_then left read (λ bs same. scripts_left most_bytes (most_bytes + 1) refl refl p bytes bs same (scripts_seen c.in-Ok-read_scripts.scripts) c.in-Ok-read_scripts.ensures.ok)

pub returns-in-Ok-clause-refused : goal.returns-in-Ok-clause-refused
returns-in-Ok-clause-refused g c =
    let p = program_of c.args.program.now in
    let bytes = c.deref.result.now in
    let left = g.S.Source.left c.args.source.now in
    let read : IfSome left (λ bs. bytes ≡ take (most_bytes + 1) bs) =
    subst (λ v. IfSome left (λ bs. v ≡ take (most_bytes + 1) bs)) (sym c.deref.ensures.value) c.in-Ok.ensures.bytes in
    IfSome_then left read (λ bs same. error_left most_bytes (most_bytes + 1) refl refl p bytes bs same c.in-Err.refusal c.in-Err.ensures.refused)
