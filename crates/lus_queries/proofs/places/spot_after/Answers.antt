-- A byte is passed.
use Rattle.std.proofs.Common.{◌≡◌, ◌∙◌, ◌+◌, ◌-◌, ap, sym, length, arith}
use Rattle.lus_queries.specs.declared.places.Spot.{Spot}
use Rattle.lus_queries.specs.Spots.{spot_after}
use Rattle.lus_queries.proofs.SpotLaws.{character_past, line_past, walked_on}
use Rattle.lus_queries.proofs.places.spot_after.Goals as goal

pub loop-passed-preserved : goal.loop-passed-preserved
loop-passed-preserved c =
    let s = c.loop-passed.spot in
    let behind = c.in-Some.behind.now in
    let left = c.args.count - (c.loop-passed._passed + 1) in
    let begins = c.in-Some.ensures.cases.0 in
    let long = ap length begins in
    let is = c.past-spot.ensures (omega (arith, c.loop-passed.invariant.1, long)) (omega (arith, c.loop-passed.invariant.2, long)) in
    let line = ap (λ (t : Spot). t.line) is in
    let character = ap (λ (t : Spot). t.character) is in (
      c.loop-passed.invariant.0
          ∙ walked_on s c.in-Some.byte.now (c.args.count - c.loop-passed._passed) left behind c.loop-passed.rest.now begins
          (omega (arith, c.loop-passed-test.true))
          ∙ ap (λ t. spot_after t left behind) (sym is),
      omega (arith, c.loop-passed.invariant.1, long, line, line_past s c.in-Some.byte.now behind),
      omega (arith, c.loop-passed.invariant.2, long, character, character_past s c.in-Some.byte.now behind),
    )
