-- The calls so far and those of the operands that are left are those of all.
use Rattle.std.proofs.Common.{◌≡◌, ◌+◌, ◌++◌, drop}
use Rattle.lus_program.specs.Programs.{all_calls, all_numbered}
use Rattle.lus_program.specs.View.{operands_of}
use Rattle.lus_worlds.specs.Finding.{unless}
use Rattle.lus_worlds.specs.Turns.{all_calls_in_turn}
use Rattle.lus_worlds.proofs.finding.+calls.Given as goal

abbrev pub invariant-push_all_calls-loop-operand : goal.invariant-push_all_calls-loop-operand
invariant-push_all_calls-loop-operand l =
    let es = operands_of l.operands in
    let rest = operands_of (drop l.operand-index l.operands) in
    record {
      next : l.next + all_calls rest ≡ l.number + all_calls es;
      found : l.found.items ++ unless l.held (all_calls_in_turn (all_numbered l.next rest)) ≡ l.initial.found.items ++ unless l.held (all_calls_in_turn (all_numbered l.number es));
    }
