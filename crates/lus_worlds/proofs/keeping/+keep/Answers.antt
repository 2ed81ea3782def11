-- What a copy keeps is what the instant keeps, and what its calls keep.
use Rattle.std.proofs.Common.{◌≡◌, ◌∙◌, None, false, map, sym, ap, arith, rules}
use Rattle.std.proofs.lemmas.Grind.{common_steps}
use Rattle.lus_worlds.specs.declared.moment.Moment.{Moment, roll-Moment, the_lemmas}
use Rattle.lus_worlds.specs.Moments.{kept_by, kept_in, kept_of, kept_with, moments_in}
use Rattle.lus_worlds.proofs.Moments.{kept_seen, kept_alike}
use Rattle.lus_worlds.proofs.keeping.+keep.Goals as goal

pub keep-returns : goal.keep-returns
keep-returns t c =
    let m = c.args.moment.now in
    let ms = c.in_ok-called.called.items in
    let made : Moment = roll-Moment (record { present = false; row = c.new-2.result; kept = c.in_ok-kept.kept; fault = None; called = c.in_ok-called.called }) in
    let ek : c.in_ok-kept.kept ≡ kept_in made = search (rules, the_lemmas) in
    let em : ms ≡ moments_in made = search (rules, the_lemmas) in
    let own : kept_in made ≡ kept_in m = sym ek ∙ c.in_ok-kept.ensures in
    let below : kept_by (moments_in made) ≡ kept_by (moments_in m) = ap kept_by (sym em) ∙ c.in_ok-called.ensures ∙ ap kept_by c.deref.ensures.value in
    kept_seen made ∙ (λ j. kept_with (own j) (below j)) ∙ sym (kept_seen m)

pub keep_all-returns : goal.keep_all-returns
keep_all-returns t c =
    let same : map kept_of c.loop-moment.copies.items ≡ map kept_of c.args.moments.now = grind (arith, common_steps) in
    kept_alike c.loop-moment.copies.items c.args.moments.now same
