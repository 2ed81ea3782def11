-- By whether the instance is followed.
use Rattle.std.proofs.Common.{◌≡◌, ◌∙◌, false, Option, Some, None, is_some, ap, refl, sym, true≢false}
use Rattle.std.proofs.lemmas.Result.{on_ok_weaker}
use Rattle.indexmap.specs.IndexMap.{get_by_text}
use Rattle.lus_audit.proofs.log_reasons.Explanations.go_on.Goals as goal

absent : {X : Type 0} (o : Option X) → is_some o ≡ false → o ≡ None
absent None none = refl
absent (Some x) none = absurd (true≢false none)

pub returns-then-contains_key : goal.returns-then-contains_key
returns-then-contains_key c = on_ok_weaker c.follow.result (λ follows lines l number is has. follows c.args.node.0 lines l number is has) c.follow.ensures

pub returns-else-contains_key : goal.returns-else-contains_key
returns-else-contains_key c =
    let followed = get_by_text c.args.self.now.followed in
    on_ok_weaker c.pass_over.result
    (λ passes lines l number is has.
    passes lines l is (ap followed (sym (c.as_str.ensures.value ∙ is.0)) ∙ absent _ (sym c.contains_key.ensures ∙ c.if-contains_key.false)) has)
    c.pass_over.ensures
