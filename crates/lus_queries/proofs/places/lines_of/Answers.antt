-- What is left is no longer than the text.
use Rattle.std.proofs.Common.{rules, ◌<◌, ◌^◌, length, arith}
use Rattle.lus_queries.proofs.places.lines_of.Goals as goal

pub spot_after-requires-clause-line : goal.spot_after-requires-clause-line
spot_after-requires-clause-line c =
    let small : length c.args.text.now < 2 ^ 63 = search rules in
    omega (arith, c.loop-rest.invariant, small)

pub spot_after-requires-clause-character : goal.spot_after-requires-clause-character
spot_after-requires-clause-character c =
    let small : length c.args.text.now < 2 ^ 63 = search rules in
    omega (arith, c.loop-rest.invariant, small)
