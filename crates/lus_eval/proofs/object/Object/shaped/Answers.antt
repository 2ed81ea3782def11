use Rattle.std.proofs.Common.{sym, subst}
use Rattle.lus_eval.specs.Objects.{IsObjectOf}
use Rattle.lus_eval.proofs.KeptRows.{shaped_in_code, instance_shaped}
use Rattle.lus_eval.proofs.object.Object.shaped.Goals as goal

pub returns : goal.returns
returns c =
    let code = c.args.code.now in
    let o = c.self.inside.instance in
    let on = c.running.result in
    let same = c.running.ensures.classes in
    let coded = c.running.ensures.emitted in (
      λ yes. subst (IsObjectOf code) c.self.view_is (shaped_in_code code on.classes.now on.emitted.now same coded o c.running.ensures.correct (c.is_shaped.ensures.0 yes)),
      λ s. c.is_shaped.ensures.1 (instance_shaped code on.classes.now on.emitted.now same coded o c.self.invariant (subst (IsObjectOf code) (sym c.self.view_is) s)),
    )
