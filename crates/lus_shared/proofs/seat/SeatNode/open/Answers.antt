use Rattle.std.proofs.Common.{map, ◌≡◌, ℕ, ◌+◌, ◌∷◌, ◌++◌, [], List, length, false, ap, sym, ◌∙◌, subst, arith}
use Rattle.atomic_table.specs.Seated.{TableId}
use Rattle.atomic_table.specs.Table.{Me}
use Rattle.lus_machine.specs.Machines.{Told, IsLegal}
use Rattle.lus_shared.specs.Knowledge.{machine_at, Facts, Sight, Instance, Standing}
use Rattle.std.specs.List.{All, range_with_len}
use Rattle.lus_shared.proofs.Numbers.{fresh_numbers, fresh_none}
use Rattle.lus_shared.specs.Plays.{cut_first, cut_others, first_of}
use Rattle.lus_shared.specs.Views.{standing_of, facts_of, fresh_seats}
use Rattle.lus_shared.specs.Key.{origin_of}
use Rattle.lus_shared.proofs.Lists.{fresh_more, fresh_next, fresh_length, fresh_belong}
use Rattle.lus_shared.proofs.Keeps.{is_alone, starts, splits}
use Rattle.lus_shared.proofs.seat.SeatNode.open.Goals as goal

pub new-requires : goal.new-requires
new-requires c =
    let machine : Told = c.args.machine in
    let slots : c.push_reserved.new.self.items ≡ machine ∷ [] = c.push_reserved.ensures.items ∙ ap (λ (l : List Told). l ++ machine ∷ []) c.in_ok-slots.ensures.items in
    let same : machine ≡ machine_at (origin_of record { machine = c.of.result; callers = c.args.callers }) [] =
    λ i. record { program = (sym c.of.ensures i).program; node = (sym c.of.ensures i).node; history = c.requires i } in
    starts _ _ (slots ∙ ap (λ (m : Told). m ∷ []) same) (subst IsLegal same c.history.ensures.legal)

pub split_seat-place-requires : goal.split_seat-place-requires
split_seat-place-requires c =
    let free = ap (λ (m : Me Told Sight). m.0.taker) c.loop-number.invariant.rest in
    (c.loop-number.invariant.table, omega (arith, c.in-Ok.ensures.ok.0), splits _ _ _ free)

pub push_reserved-requires-in-loop-number : goal.push_reserved-requires-in-loop-number
push_reserved-requires-in-loop-number c =
    let count = ap (λ (l : List Standing). length l) c.loop-number.invariant.items ∙ fresh_length record { table = c.in-Ok.table.shared.table_id; origin = origin_of c.in-Ok.table.shared.key } 0 c.loop-number.number in
    omega (arith, c.loop-number.seats.ok.0, count, c.loop-number.invariant.room)

pub loop-number-preserved : goal.loop-number-preserved
loop-number-preserved c =
    let k = c.loop-number.number in
    let o = origin_of c.in-Ok.table.shared.key in
    let next = c.loop-number.invariant.rest ∙ ap (λ (fs : List Facts). let m : Me Told Sight = (record { taker = false; seats = fs }, []) in m) (fresh_next o k c.args.callers c.loop-number-test.true) in
    let seats = ap (λ (m : Me Told Sight). m.0.seats) c.split_seat-place.ensures.4 ∙ ap (λ (m : Me Told Sight). first_of m.0.seats) next in
    let table = c.split_seat-place.ensures.3 ∙ c.loop-number.invariant.table in
    let seat : standing_of c.split_seat-place.result.table_id (facts_of c.split_seat-place.result.me.0.seats) ≡ record { instance = record { table = c.in-Ok.table.shared.table_id; origin = o }; number = 0 + k; seen = []; mine = [] }
    = (λ i. standing_of (table i) (facts_of (seats i))) ∙ ap (λ (n : ℕ). let s : Standing = record { instance = record { table = c.in-Ok.table.shared.table_id; origin = o }; number = n; seen = []; mine = [] } in s) (omega arith) in
    record {
      table = c.split_seat-place.ensures.0 ∙ c.loop-number.invariant.table;
      rest = c.split_seat-place.ensures.2 ∙ ap (λ (m : Me Told Sight). let n : Me Told Sight = (cut_others m.0, m.1) in n) next;
      items = c.push_reserved-in-loop-number.ensures.items ∙ ((λ i. c.loop-number.invariant.items i ++ seat i ∷ []) ∙ sym (fresh_more _ 0 k));
      room = omega (arith, c.push_reserved-in-loop-number.ensures.capacity, c.loop-number.invariant.room);
    }

pub returns-clause-belong : goal.returns-clause-belong
returns-clause-belong c =
    let i : Instance = record { table = c.in-Ok.table.shared.table_id; origin = origin_of c.in-Ok.table.shared.key } in
    subst (All (λ (s : Standing). s.instance ≡ i)) (sym c.loop-number.invariant.items) (fresh_belong i 0 c.loop-number.number)

pub returns-clause-numbers : goal.returns-clause-numbers
returns-clause-numbers c =
    let i : Instance = record { table = c.in-Ok.table.shared.table_id; origin = origin_of c.in-Ok.table.shared.key } in
    ap (map (λ (s : Standing). s.number)) c.loop-number.invariant.items ∙ (fresh_numbers i 0 c.loop-number.number ∙ ap (range_with_len 0) (omega (arith, c.loop-number-test.false, c.loop-number.auto.number-end)))

pub returns-clause-none_made : goal.returns-clause-none_made
returns-clause-none_made c =
    let i : Instance = record { table = c.in-Ok.table.shared.table_id; origin = origin_of c.in-Ok.table.shared.key } in
    subst (All (λ (s : Standing). length s.mine ≡ 0)) (sym c.loop-number.invariant.items) (fresh_none i 0 c.loop-number.number)

pub invariant_of-push_reserved : goal.invariant_of-push_reserved
invariant_of-push_reserved c =
    let k = c.loop-number.number in
    let o = origin_of c.in-Ok.table.shared.key in
    let first : Facts = record { origin = o; number = k; seen = []; mine = [] } in
    let next = c.loop-number.invariant.rest ∙ ap (λ (fs : List Facts). let m : Me Told Sight = (record { taker = false; seats = fs }, []) in m) (fresh_next o k c.args.callers c.loop-number-test.true) in
    let me = c.split_seat-place.ensures.4 ∙ ap (λ (m : Me Told Sight). let n : Me Told Sight = (cut_first m.0, []) in n) next in
    let table = c.split_seat-place.ensures.3 ∙ c.loop-number.invariant.table in
    let slots = c.push_reserved.ensures.items ∙ ap (λ (l : List Told). l ++ c.args.machine ∷ []) c.in_ok-slots.ensures.items in
    record {
      words = ap (λ (t : TableId). t.words) table ∙ c.in-Ok.ensures.ok.0;
      slots = ap (λ (t : TableId). t.slots) table ∙ (c.in-Ok.ensures.ok.1 ∙ ap (λ (l : List Told). length l) slots);
      alone = is_alone c.split_seat-place.result.me first me;
      number_is = ap (λ (m : Me Told Sight). (facts_of m.0.seats).number) me;
      share_is = ap (λ (m : Me Told Sight). length (facts_of m.0.seats).mine) me;
    }

pub returns-clause-seats : goal.returns-clause-seats
returns-clause-seats c =
    let i : Instance = record { table = c.in-Ok.table.shared.table_id; origin = origin_of c.in-Ok.table.shared.key } in
    c.loop-number.invariant.items ∙ ap (fresh_seats i 0) (omega (arith, c.loop-number-test.false, c.loop-number.auto.number-end))
