-- The instant that a way leads to, call by call.
use Rattle.std.proofs.Common.{◌≡◌, ◌∙◌, ◌≤◌, Some, None, length, get_or, slice_get, refl, sym, ap, subst, arith}
use Rattle.std.proofs.lemmas.Option.{slice_get_read}
use Rattle.std.proofs.lemmas.Result.{IfOk-weaker}
use Rattle.lus_values.specs.Lists.{item}
use Rattle.lus_streams.specs.Streams.{entry}
use Rattle.lus_worlds.specs.Moments.{moments_in}
use Rattle.lus_windows.proofs.Walks.{arrives, walks_on, walks_off}
use Rattle.lus_windows.proofs.picks.+entry_behind.Goals as goal

pub returns-in-empty : goal.returns-in-empty
returns-in-empty t c =
    let x = c.args.variable in
    let here = arrives c.args.way.now c.args.moment.now x c.in-empty.len_below in
    IfOk-weaker c.entry_at.result _ _ (λ e h. h ∙ ap (λ r. item None r x) c.items.ensures ∙ sym here) c.entry_at.ensures

pub returns-in-Some : goal.returns-in-Some
returns-in-Some t c =
    let way = c.args.way.now in
    let m = c.args.moment.now in
    let x = c.args.variable in
    let k = c.in-Some.called.now in
    let n = get_or way 0 0 in
    let slot : slice_get c.deref.result.now n ≡ Some k = slice_get_read c.deref.result.now (length c.deref.result.now) n k refl (omega (arith, c.in-Some.ensures.lookup.3.0)) c.in-Some.ensures.lookup.1 in
    let there : slice_get (moments_in m) n ≡ Some k = subst (λ l. slice_get l n ≡ Some k) c.deref.ensures.value slot in
    let on = walks_on way m k c.in-len1-up.len_at_least there in
    IfOk-weaker c.entry_behind.result _ _ (λ e h. h ∙ ap (λ i. entry i x) (sym on)) c.entry_behind.ensures

pub returns-in-None : goal.returns-in-None
returns-in-None t c =
    let way = c.args.way.now in
    let past : length c.deref.result.now ≤ get_or way 0 0 = omega (arith, c.in-None.ensures.lookup) in
    let gone : length (moments_in c.args.moment.now) ≤ get_or way 0 0 = subst (λ l. length l ≤ get_or way 0 0) c.deref.ensures.value past in
    sym (walks_off way c.args.moment.now c.args.variable c.in-len1-up.len_at_least gone)
