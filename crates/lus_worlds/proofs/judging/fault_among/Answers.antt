-- The fault of an instant, behind its number; or none has one.
use Rattle.std.proofs.Common.{◌≡◌, ◌≤◌, [], drop, drop_of_length-le, length, Some, subst, sym, slice_get, arith}
use Rattle.lus_worlds.specs.Judging.{EachFaultless}
use Rattle.lus_worlds.proofs.Moments.{get_there}
use Rattle.lus_worlds.proofs.judging.fault_among.Goals as goal

pub returns-in-Some : goal.returns-in-Some
returns-in-Some c =
    let m = c.moment-item.result in
    let ms = c.args.called.now in
    let here : slice_get ms c.loop-moment.moment-index ≡ Some m = get_there ms c.loop-moment.moment-index m c.loop-moment-test.true c.moment-item.is in
    record {
      number = c.loop-moment.number;
      moment = m;
      there = subst (λ n. slice_get ms n ≡ Some m) (sym c.loop-moment.invariant.number) here;
      fault = c.in-Some.fault.now;
      said = rw c.in-Some.is at c.fault_of.ensures;
      way = c.in_ok-found.ensures.way;
      place = c.in_ok-found.ensures.place;
      cause = c.in_ok-found.ensures.cause;
    }

pub returns : goal.returns
returns c =
    let ms = c.args.called.now in
    let done : drop c.loop-moment.moment-index ms ≡ [] = drop_of_length-le ms (let le : length ms ≤ c.loop-moment.moment-index = omega (arith, c.loop-moment-test.false) in le) in
    λ w. c.loop-moment.invariant.none w (subst EachFaultless (sym done) tt)
