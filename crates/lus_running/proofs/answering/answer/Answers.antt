use Rattle.std.proofs.Common.{◌∙◌, length, map, sym, ap, arith}
use Rattle.lus_values.specs.View.{entry_of}
use Rattle.lus_orders.specs.Classes.{begun}
use Rattle.lus_running.proofs.Telling.{answers_not, answers_with}
use Rattle.lus_running.proofs.answering.answer.Goals as goal

pub split_at_mut-own-requires : goal.split_at_mut-own-requires
split_at_mut-own-requires g c = omega (arith, c.requires.long.row)

pub copy_alike-requires : goal.copy_alike-requires
copy_alike-requires g c = c.requires.long.cells ∙ sym c.requires.long.next_cells

pub follow_class-requires-clause-room : goal.follow_class-requires-clause-room
follow_class-requires-clause-room g c =
    let long = c.requires.long in
    let split = c.split_at_mut-own.ensures in
    record {
      cells = long.cells;
      next = c.copy_alike.auto.copies ∙ long.next_cells;
      own = c.begin.auto.own ∙ split.front_len;
      behind = omega (arith, split.back_len, long.row);
    }

pub outputs_in-requires : goal.outputs_in-requires
outputs_in-requires g c =
    let own = c.follow_class.auto.own ∙ c.begin.auto.own ∙ c.split_at_mut-own.ensures.front_len in
    omega (arith, own, c.requires.outputs)

pub returns-then-not-made : goal.returns-then-not-made
returns-then-not-made g c =
    let s = c.args.on.now in
    let i = map entry_of c.args.inputs.now in
    answers_not g.T.Held.entry s i c.args.cells.now c.copy_alike.new.copies c.begin.new.own c.follow_class.new.next c.follow_class.new.own c.in_ok-made.made
    c.in_ok-copy_alike.ensures (c.in_ok-begin.ensures ∙ ap (λ n. begun n i) c.split_at_mut-own.ensures.front_len) c.in_ok-made.ensures c.if-not-made.true

pub returns : goal.returns
returns g c =
    let s = c.args.on.now in
    let i = map entry_of c.args.inputs.now in
    answers_with g.T.Held.entry s i c.args.cells.now c.copy_alike.new.copies c.begin.new.own c.follow_class.new.next c.follow_class.new.own c.in_ok-made.made
    c.in_ok-copy_alike.ensures (c.in_ok-begin.ensures ∙ ap (λ n. begun n i) c.split_at_mut-own.ensures.front_len) c.in_ok-made.ensures c.if-not-made.false
    (length c.args.inputs.now) c.args.outputs c.in_ok-found.found c.in_ok-found.ensures
