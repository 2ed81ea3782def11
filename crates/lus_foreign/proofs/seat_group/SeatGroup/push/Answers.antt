use Rattle.std.proofs.Common.{◌≡◌, Bool, true, false, List, [], ◌∷◌, ◌++◌, is_ok, sym, subst}
use Rattle.std.specs.Prelude.{if◌then◌else◌}
use Rattle.std.proofs.lemmas.List.Elements.{All-nil, All-push}
use Rattle.lus_foreign.specs.Seated.{Seated, AreMates, Together, Belongs}
use Rattle.lus_foreign.proofs.seat_group.SeatGroup.push.Goals as goal

with_one : (ss : List Seated) (t : Seated) → Together ss → Belongs ss t → Together (ss ++ t ∷ [])
with_one [] t h b = All-nil _
with_one (s ∷ ss) t h b = All-push (AreMates s) ss t h b

grown : (b : Bool) (olds news : List Seated) (t : Seated) → news ≡ (if b then olds ++ t ∷ [] else olds) → Together olds → Belongs olds t → Together news
grown true olds news t e h b = subst Together (sym e) (with_one olds t h b)
grown false olds news t e h b = subst Together (sym e) h

pub invariant_of-self : goal.invariant_of-self
invariant_of-self c = grown (is_ok c.push.result) c.self.inside.seats.items c.push.new.self.items c.args.seat c.push.ensures.items c.self.invariant
    (subst (λ (ss : List Seated). Belongs ss c.args.seat) (sym c.self.view_is) c.requires)
