-- Calls go down along what is kept, and a node's calls come behind it. What was found so far is what is sought.
use Rattle.std.proofs.Common.{◌≡◌, ◌+◌, ◌*◌, drop, length, map, take}
use Rattle.lus_program.specs.View.{node_of, program_seen}
use Rattle.lus_worlds.specs.declared.finding.Found.{Found}
use Rattle.lus_worlds.specs.declared.moment.Moment.{size-Moment}
use Rattle.lus_worlds.specs.Finding.{RunsInTurn}
use Rattle.lus_worlds.specs.Moments.{moments_in}
use Rattle.lus_worlds.proofs.InOrder.{FindsSoFar}
use Rattle.lus_worlds.proofs.running.+attempt.Given as goal

abbrev pub decreases-attempt : goal.decreases-attempt
decreases-attempt l = 5 * size-Moment l.old.now + 5

abbrev pub decreases-find : goal.decreases-find
decreases-find l = 5 * size-Moment l.old.now + 4

abbrev pub decreases-run_calls : goal.decreases-run_calls
decreases-run_calls l = 5 * size-Moment l.old.now + 3

abbrev pub decreases-run_call : goal.decreases-run_call
decreases-run_call l = 5 * size-Moment l.old.now + 2

abbrev pub decreases-run_node : goal.decreases-run_node
decreases-run_node l = 5 * size-Moment l.old.now + 1

abbrev pub invariant-find-loop-variable : goal.invariant-find-loop-variable
invariant-find-loop-variable l =
    let p = program_seen l.program in
    record {
      count : length l.found.called.items ≡ length (moments_in l.old);
      found : FindsSoFar p (map (λ order. order.items) l.orders) l.present l.old (node_of l.node) l.order (take l.variable-index l.order) l.initial.found l.found;
    }

abbrev pub invariant-run_calls-loop-call : goal.invariant-run_calls-loop-call
invariant-run_calls-loop-call l =
    let p = program_seen l.program in
    let orders = map (λ order. order.items) l.orders in
    record {
      count : length l.found.called.items ≡ length (moments_in l.old);
      runs : (found : Found) → RunsInTurn p orders l.present l.old l.parts (drop l.call-index l.calls) l.found found → RunsInTurn p orders l.present l.old l.parts l.calls l.initial.found found;
    }
