-- `a fby b`, which is `a -> pre b`, is a at the first instant of its clock, and b at the last instant at all later ones.
use Rattle.std.proofs.Common.{◌≡◌, Bool, true, false, [], ◌∷◌, Some, refl, sym}
use Rattle.lus_values.specs.Values.{nil}
use Rattle.lus_program.specs.Programs.{Expression, fby, Program}
use Rattle.lus_streams.specs.Clocks.{Clock}
use Rattle.lus_streams.specs.Streams.{Instant, World, is_on, at_last, value}

module _ {X : Type 0} (k : Clock) (e : X) (f : Instant → World → X) where
  abbrev either : Bool → X → X → X
  either b x y = elim b [ true ↦ x | false ↦ y ]

  last_or : (b : Bool) (i : Instant) (past : World) (d : X) → at_last k past d f ≡ at_last k past d (λ _ _. at_last k past e f)
      → either b (f i past) (at_last k past d f) ≡ either b (either b (f i past) (at_last k past e f)) (at_last k past d (λ _ _. either b (f i past) (at_last k past e f)))
  last_or true i past d h = refl
  last_or false i past d h = h

  -- what f gives at the last instant is what it gives there, whatever stands without one
  pub last_of_last : (past : World) (d : X) → at_last k past d f ≡ at_last k past d (λ _ _. at_last k past e f)
  last_of_last [] d = refl
  last_of_last (i ∷ past) d = last_or (is_on k i) i past d (last_of_last past d)

pub fby_is_last : (p : Program) (a b : Expression) (k : Clock) (now : Instant) (past : World)
    → value p (fby a b) k now past ≡ at_last k past (value p a k now past) (λ i before. value p b k i before)
fby_is_last p a b k now past = sym (last_of_last k (Some nil) (λ i before. value p b k i before) past (value p a k now past))
