-- Calls go down. What is kept of the calls so far and of the rest is kept of all.
use Rattle.std.proofs.Common.{◌+◌, ◌*◌, List, [], ◌++◌, drop, map}
use Rattle.lus_program.specs.View.{program_seen}
use Rattle.lus_streams.specs.Equations.{sites_in}
use Rattle.lus_parts.specs.Parts.{part_of}
use Rattle.lus_worlds.specs.declared.moment.Moment.{Moment}
use Rattle.lus_worlds.specs.Moments.{EachKeeps}
use Rattle.lus_worlds.proofs.beginning.+start.Given as goal

abbrev pub decreases-start_within : goal.decreases-start_within
decreases-start_within l = 3 * l.depth

abbrev pub decreases-start_calls : goal.decreases-start_calls
decreases-start_calls l = 3 * l.depth + 2

abbrev pub decreases-start_call : goal.decreases-start_call
decreases-start_call l = 3 * l.depth + 1

abbrev pub invariant-start_calls-loop-part : goal.invariant-start_calls-loop-part
invariant-start_calls-loop-part l =
    let p = program_seen l.program in
    (later : List Moment) → EachKeeps p later (sites_in p (map part_of (drop l.part-index l.parts))) [] → EachKeeps p (l.called.items ++ later) (sites_in p (map part_of l.parts)) []
