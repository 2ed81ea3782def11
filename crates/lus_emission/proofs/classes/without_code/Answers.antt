use Rattle.std.proofs.Common.{◌∙◌, ◌+◌, ◌∷◌, List, [], length, length-append, refl, sym, ap, subst}
use Rattle.lus_orders.specs.declared.class.Class.{Class}
use Rattle.lus_emission.specs.Made.{AreBlank}
use Rattle.lus_emission.proofs.Rooms.{blank_more, blank_none}
use Rattle.lus_emission.proofs.classes.without_code.Goals as goal

pub loop-class-init : goal.loop-class-init
loop-class-init c =
    let none = c.in_ok-emitted.ensures.items in
    record { many = ap (λ (es : List Class). length es) none; blank = subst AreBlank (sym none) blank_none }

pub loop-class-preserved : goal.loop-class-preserved
loop-class-preserved c =
    let l = c.loop-class in
    let es = l.emitted.items in
    let e : Class = record { variables = 0; own = 0; behind = 0; cells = 0; code = c.new.result; others = c.new-in-loop-class.result; calls = c.new-in-loop-class-2.result } in
    let more = c.in_ok-push.ensures.items in
    record {
      many = ap (λ (all : List Class). length all) more ∙ length-append es (e ∷ []) ∙ ap (λ n. n + 1) l.invariant.many;
      blank = subst AreBlank (sym more) (blank_more es e refl refl l.invariant.blank);
    }
