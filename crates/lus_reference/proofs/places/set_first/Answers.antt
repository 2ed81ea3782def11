-- A place that is there, none yet, and past the last.
use Rattle.std.proofs.Common.{◌≡◌, ◌∙◌, ◌≤◌, length, Some, refl, ap, subst, slice_get, arith, rules}
use Rattle.std.proofs.lemmas.Grind.{common_steps}
use Rattle.std.proofs.lemmas.Option.{slice_get_read}
use Rattle.lus_reference.proofs.Placed.{first_set, first_stays, none_past}
use Rattle.lus_reference.proofs.places.set_first.Goals as goal

pub returns-in-Some-None : goal.returns-in-Some-None
returns-in-Some-None c =
    let os = c.args.places.now.items in
    let n = c.args.variable in
    let o = c.in-Some-None.field-0.now in
    let slot : slice_get c.deref.result.now n ≡ Some o = slice_get_read c.deref.result.now (length c.deref.result.now) n o refl (omega (arith, c.in-Some-None.ensures.lookup.3.0)) c.in-Some-None.ensures.lookup.1 in
    let there : slice_get os n ≡ Some o = subst (λ l. slice_get l n ≡ Some o) c.deref.ensures.value slot in
    first_set os n c.args.place (there ∙ ap Some c.in-Some-None.field-0-is)

pub returns-in-Some-Some : goal.returns-in-Some-Some
returns-in-Some-Some c =
    let os = c.args.places.now.items in
    let n = c.args.variable in
    let o = c.in-Some-Some.field-0.now in
    let slot : slice_get c.deref.result.now n ≡ Some o = slice_get_read c.deref.result.now (length c.deref.result.now) n o refl (omega (arith, c.in-Some-Some.ensures.lookup.3.0)) c.in-Some-Some.ensures.lookup.1 in
    let there : slice_get os n ≡ Some o = subst (λ l. slice_get l n ≡ Some o) c.deref.ensures.value slot in
    first_stays os n c.args.place _ (there ∙ ap Some c.in-Some-Some.field-0-is)

pub returns-in-None : goal.returns-in-None
returns-in-None c =
    let os = c.args.places.now.items in
    let n = c.args.variable in
    let past : length c.deref.result.now ≤ n = first_of (search (rules, c.in-None.ensures.lookup), grind (arith, common_steps)) in
    none_past os n c.args.place (subst (λ l. length l ≤ n) c.deref.ensures.value past)
