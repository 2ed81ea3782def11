use Rattle.std.proofs.Common.{◌≡◌, ◌∙◌, Bool, true, false, not, List, [], ◌∷◌, ◌++◌, reverse, refl, sym, ap, IsTrue, Some}
use Rattle.std.proofs.lemmas.List.{append_assoc, reverse-append}
use Rattle.std.proofs.lemmas.List.Elements.{All-nil, All-pop, All-push}
use Rattle.lus_shared.specs.Knowledge.{Standing}
use Rattle.lus_foreign.specs.Seated.{Seated, standings}
use Rattle.lus_foreign.proofs.Gathers.{at_one}
use Rattle.lus_foreign.proofs.seat_group.SeatGroup.close.Goals as goal

pub loop-place-init : goal.loop-place-init
loop-place-init c =
    let a = at_one c.self.inside.seats.items c.self.invariant in
    let none = c.in-Ok.ensures.items in
    record {
      at_one = (a.0, a.1, a.1, rw none (All-nil _), tt);
      order = ap (λ (ss : List Standing). ss ++ standings (reverse c.self.inside.seats.items)) (sym none);
    }

is_so : (b : Bool) → not b ≡ false → IsTrue b
is_so true e = refl
is_so false e = sym e

-- the last of the seats goes behind those that went before
moved : (all seats news : List Standing) (places rest : List Seated) (p : Seated) → all ≡ seats ++ standings (reverse places) → places ≡ rest ++ p ∷ [] → news ≡ seats ++ p.standing ∷ [] → all ≡ news ++ standings (reverse rest)
moved all seats news places rest p e a b =
    e ∙ ap (λ (l : List Seated). seats ++ standings l) (ap reverse a ∙ reverse-append rest (p ∷ [])) ∙ sym (append_assoc seats (p.standing ∷ []) (standings (reverse rest))) ∙ ap (λ (l : List Standing). l ++ standings (reverse rest)) (sym b)

pub loop-place-preserved : goal.loop-place-preserved
loop-place-preserved c =
    let inv = c.loop-place.invariant.at_one in let i = inv.0 in
    let own = All-pop (λ (p : Seated). p.standing.instance ≡ i) c.loop-place.places.items c.pop.new.self.items (Some c.in-Some.place) c.in-Some.ensures.items inv.2 in
    let pushed = c.part-parted.ensures.seats (is_so _ c.if-not-parted.false) in
    record {
      at_one = (i, inv.1, own.0, rw pushed (All-push (λ (s : Standing). s.instance ≡ i) c.loop-place.seats.items _ inv.3 own.1), c.part-parted.ensures.found i own.1 inv.4);
      order = moved _ c.loop-place.seats.items _ c.loop-place.places.items c.pop.new.self.items c.in-Some.place c.loop-place.invariant.order c.in-Some.ensures.items pushed;
    }
