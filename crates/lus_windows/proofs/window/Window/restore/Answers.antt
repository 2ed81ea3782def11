-- What a slot saves is what it holds.
use Rattle.std.proofs.Common.{◌≡◌, length, refl, Some, slice_get, arith, subst}
use Rattle.std.proofs.lemmas.Option.{slice_get_read}
use Rattle.lus_windows.proofs.Following.{restores}
use Rattle.lus_windows.proofs.window.Window.restore.Goals as goal

pub returns-in_ok-reached-in-Some-Some : goal.returns-in_ok-reached-in-Some-Some
returns-in_ok-reached-in-Some-Some c =
    let n = c.args.slot in
    let s = c.in-Some-Some.field-0.now in
    let saved = c.deref.result.now in
    let there : slice_get saved n ≡ Some s = slice_get_read saved (length saved) n s refl (omega (arith, c.in-Some-Some.ensures.lookup.3.0)) c.in-Some-Some.ensures.lookup.1 in
    let slot = subst (λ xs. slice_get xs n ≡ Some s) c.deref.ensures.value there in
    λ sure p f past slots k. restores sure p f past c.args.self.now n s c.in-Some-Some.reached c.in_ok-reached-in-Some-Some.reached slot c.in-Some-Some.field-0-is (c.in_ok-reached-in-Some-Some.ensures sure p f) k
