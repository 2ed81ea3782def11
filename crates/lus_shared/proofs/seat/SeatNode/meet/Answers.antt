use Rattle.std.proofs.Common.{ap, sym, ◌∙◌, arith}
use Rattle.atomic_table.specs.Table.{Me}
use Rattle.lus_machine.specs.Machines.{Told}
use Rattle.lus_shared.specs.Knowledge.{Sight, Standing, Instance}
use Rattle.lus_shared.proofs.Keeps.{joins, looks, splits}
use Rattle.lus_shared.proofs.seat.SeatNode.meet.Goals as goal

pub join_seat-requires : goal.join_seat-requires
join_seat-requires c =
    let node = sym (ap (λ (i : Instance). i.table) c.self.view_is) in
    let first = ap (λ (s : Standing). s.instance.table) c.first.view_is ∙ (ap (λ (i : Instance). i.table) c.requires.0 ∙ node) in
    let second = ap (λ (s : Standing). s.instance.table) c.second.view_is ∙ (ap (λ (i : Instance). i.table) c.requires.1 ∙ node) in
    let free = ap (λ (m : Me Told Sight). m.0.taker) c.first.invariant.alone in
    let free' = ap (λ (m : Me Told Sight). m.0.taker) c.second.invariant.alone in
    (first, second, ap (λ (m : Me Told Sight). m.1) c.second.invariant.alone, omega (arith, c.self.invariant.0), joins _ _ _ _ _ free free')

pub load-requires : goal.load-requires
load-requires c =
    let node = sym (ap (λ (i : Instance). i.table) c.self.view_is) in
    let first = ap (λ (s : Standing). s.instance.table) c.first.view_is ∙ (ap (λ (i : Instance). i.table) c.requires.0 ∙ node) in
    (c.join_seat.ensures.0 ∙ first, omega (arith, c.self.invariant.0), looks _ _ _ _)

pub split_seat-place-requires : goal.split_seat-place-requires
split_seat-place-requires c =
    let node = sym (ap (λ (i : Instance). i.table) c.self.view_is) in
    let first = ap (λ (s : Standing). s.instance.table) c.first.view_is ∙ (ap (λ (i : Instance). i.table) c.requires.0 ∙ node) in
    let told = c.load.ensures.2 in
    let free = ap (λ (m : Me Told Sight). m.0.taker) told.3 ∙ ap (λ (m : Me Told Sight). m.0.taker) c.join_seat.ensures.2 in
    (c.load.ensures.0 ∙ (c.join_seat.ensures.0 ∙ first), omega (arith, c.self.invariant.0), splits _ _ _ free)
