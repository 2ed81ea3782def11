use Rattle.std.proofs.Common.{◌≡◌, map, drop}
use Rattle.lus_program.specs.View.{operands_of}
use Rattle.lus_streams.specs.Clocks.{branch_clock}
use Rattle.lus_translation.specs.Firsts.{with_all}
use Rattle.lus_translation.specs.Forms.{all_kept_firsts, one_clock}
use Rattle.lus_translation.specs.Newest.{newest}
use Rattle.lus_translation.proofs.firsts.+firsts.Given as goal

abbrev pub invariant-add_of_operands-loop-operand : goal.invariant-add_of_operands-loop-operand
invariant-add_of_operands-loop-operand l =
    let ks = one_clock l.clock in
    with_all l.firsts (map newest (all_kept_firsts (operands_of (drop l.operand-index l.operands)) ks l.operand-index))
    ≡ with_all l.initial.firsts (map newest (all_kept_firsts (operands_of l.operands) ks 0))

abbrev pub invariant-add_of_branches-loop-constructor : goal.invariant-add_of_branches-loop-constructor
invariant-add_of_branches-loop-constructor l =
    let ks = branch_clock l.variable l.clock in
    with_all l.firsts (map newest (all_kept_firsts (operands_of (drop l.constructor l.branches)) ks l.constructor))
    ≡ with_all l.initial.firsts (map newest (all_kept_firsts (operands_of l.branches) ks 0))
