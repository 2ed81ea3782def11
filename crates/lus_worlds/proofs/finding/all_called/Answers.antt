-- The call at which the loop stops did not run.
use Rattle.std.proofs.Common.{◌≡◌, ◌∙◌, ℕ, zero, suc, ◌<◌, false, List, [], ◌∷◌, Option, None, is_some, length, get_or, ap, sym, arith, not-suc-le-zero}
use Rattle.std.proofs.lemmas.Iterator.Adapters.{YieldsList-from_vec}
use Rattle.std.proofs.lemmas.Iterator.Consumers.{YieldsList-turn}
use Rattle.lus_worlds.specs.declared.moment.Moment.{Moment}
use Rattle.lus_worlds.specs.Finding.{has_run}
use Rattle.lus_worlds.proofs.finding.all_called.Goals as goal

blank_at : (os : List (Option Moment)) (c : ℕ) (o : Option Moment) → c < length os → o ≡ get_or os c o → o ≡ None → has_run os c ≡ false
blank_at [] c o lt e h = absurd (not-suc-le-zero lt)
blank_at (v ∷ os) zero o lt e h = ap is_some (sym e ∙ h)
blank_at (v ∷ os) (suc c) o lt e h = blank_at os c o (omega (arith, lt)) e h

pub returns-in-None-moment : goal.returns-in-None-moment
returns-in-None-moment c =
    let os = c.args.called.items in
    let gives = c.into_iter-moment-iterator.ensures.into_iter_gives in
    let t = YieldsList-turn (YieldsList-from_vec {s = c.into_iter-moment-iterator.result} os gives.0 (gives.1 ∙ c.args.called.ok.0)) c.loop-moment.yielded c.loop-moment.moment-iterator c.loop-moment.yielded_by c.next.result c.next.new.self c.in-Some.moment c.in-Some.is c.next.ensures.steps in
    (length c.loop-moment.yielded, blank_at os (length c.loop-moment.yielded) c.in-Some.moment t.0 t.1 c.in-None-moment.is)
