-- The entry was explained by what is kept of its instance.
use Rattle.std.proofs.Common.{rules, refl}
use Rattle.std.proofs.lemmas.Map.Text.{hash_map_updates_text}
use Rattle.std.proofs.lemmas.Result.{on_ok_weaker}
use Rattle.lus_cli.specs.CodeSpecs.Codes.{program_of}
use Rattle.lus_audit.specs.declared.log_reasons.Explanations.{Explanations}
use Rattle.lus_audit.proofs.LogLaws.{explained_next}
use Rattle.lus_audit.proofs.log_reasons.Explanations.follow.Goals as goal

pub returns-in-Some : goal.returns-in-Some
returns-in-Some c =
    let old = c.args.self.now in
    let key = c.as_str.result.now in
    let after = c.explain.new.self in
    let new : Explanations = record old { followed = c.get_mut.follows.lender after; text = c.explain.new.text } in
    let updates = hash_map_updates_text key old.followed (c.get_mut.follows.lender after) _ ((c.get_mut.follows.holds after).3 (search rules)) in
    on_ok_weaker c.explain.result
    (λ explains f lines l number is has.
    explained_next (program_of c.args.program.now) f lines old has _ _ new l c.args.named.now c.args.line key c.in-Some.explainer.now after
    c.source-source.ensures.same c.names-names.ensures number is c.as_str.ensures.value c.in-Some.ensures.value updates refl refl explains)
    c.explain.ensures
