-- A call that ran has an instant at its place.
use Rattle.std.proofs.Common.{◌≡◌, ℕ, zero, suc, true, List, [], ◌∷◌, Option, Some, is_some, length, refl, ap, ◌∙◌, subst, slice_get, arith}
use Rattle.std.proofs.lemmas.Option.{slice_get_read}
use Rattle.lus_worlds.specs.declared.moment.Moment.{Moment}
use Rattle.lus_worlds.specs.Finding.{has_run}
use Rattle.lus_worlds.proofs.finding.Found.has.Goals as goal

ran_at : (os : List (Option Moment)) (c : ℕ) (o : Option Moment) → slice_get os c ≡ Some o → is_some o ≡ true → has_run os c ≡ true
ran_at [] c o e h = refl
ran_at (v ∷ os) zero o e h = let same : v ≡ o = cc in ap is_some same ∙ h
ran_at (v ∷ os) (suc c) o e h = ran_at os c o e h

pub returns-in-Some-Some : goal.returns-in-Some-Some
returns-in-Some-Some c =
    let os = c.args.self.now.called.items in
    let n = c.args.call in
    let o = c.in-Some-Some.field-0.now in
    let slot : slice_get c.deref.result.now n ≡ Some o = slice_get_read c.deref.result.now (length c.deref.result.now) n o refl (omega (arith, c.in-Some-Some.ensures.lookup.3.0)) c.in-Some-Some.ensures.lookup.1 in
    let there : slice_get os n ≡ Some o = subst (λ l. slice_get l n ≡ Some o) c.deref.ensures.value slot in
    λ t. ran_at os n o there (ap is_some c.in-Some-Some.field-0-is)
