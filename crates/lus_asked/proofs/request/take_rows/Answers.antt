-- The rows are those that the text has, one by one.
use Rattle.std.proofs.Common.{◌≡◌, ◌++◌, ◌∷◌, [], codes, rules, Some, None}
use Rattle.lus_asked.specs.Reading.{after, row_at, rows_at}
use Rattle.lus_asked.proofs.Lists.{begun_list, empty_list, last_item, more_item, none_item, spent_item, stuck_item}
use Rattle.lus_asked.proofs.request.take_rows.Goals as goal

pub returns-in-Some : goal.returns-in-Some
unfolding rows_at
returns-in-Some c = empty_list _ (row_at c.args.names.now) (codes ")") (codes ", ") c.args.text.now c.in-Some.rest.now (c.new-rows.result.items) (c.new-rows.ensures.items) c.in-Some.ensures

pub loop-init : goal.loop-init
unfolding rows_at
loop-init c =
    let none : None ≡ after (codes ")") c.args.text.now = search rules in
    begun_list _ (row_at c.args.names.now) (codes ")") (codes ", ") c.args.text.now (c.new-rows.result.items) (c.new-rows.ensures.items) none

pub returns-in_default-2 : goal.returns-in_default-2
returns-in_default-2 c =
    let none : None ≡ row_at c.args.names.now c.loop.left.now = search rules in
    none_item _ (row_at c.args.names.now) (codes ")") (codes ", ") _ (c.loop.rows.items) c.loop.left.now _ none c.loop.invariant

pub returns-in-End : goal.returns-in-End
returns-in-End c =
    let some : Some (c.in-Some-2.row, c.in-Some-2.behind.now) ≡ row_at c.args.names.now c.loop.left.now = search rules in
    let pushed : c.push.new.self.items ≡ c.loop.rows.items ++ c.in-Some-2.row ∷ [] = c.in_ok-push.ensures.items in
    last_item _ (row_at c.args.names.now) (codes ")") (codes ", ") _ _ (c.loop.rows.items) (c.push.new.self.items) (c.in-Some-2.row) c.loop.left.now c.in-Some-2.behind.now c.in-End.rest.now _ c.loop-test.true pushed some c.in-End.ensures c.loop.invariant

pub returns-in-Neither : goal.returns-in-Neither
returns-in-Neither c =
    let some : Some (c.in-Some-2.row, c.in-Some-2.behind.now) ≡ row_at c.args.names.now c.loop.left.now = search rules in
    stuck_item _ (row_at c.args.names.now) (codes ")") (codes ", ") _ (c.loop.rows.items) (c.in-Some-2.row) c.loop.left.now c.in-Some-2.behind.now _ some c.in-Neither.ensures c.loop.invariant

pub loop-preserved : goal.loop-preserved
loop-preserved c =
    let some : Some (c.in-Some-2.row, c.in-Some-2.behind.now) ≡ row_at c.args.names.now c.loop.left.now = search rules in
    let pushed : c.push.new.self.items ≡ c.loop.rows.items ++ c.in-Some-2.row ∷ [] = c.in_ok-push.ensures.items in
    more_item _ (row_at c.args.names.now) (codes ")") (codes ", ") _ _ (c.loop.rows.items) (c.push.new.self.items) (c.in-Some-2.row) c.loop.left.now c.in-Some-2.behind.now c.in-Item.later.now _ c.loop-test.true pushed some c.in-Item.ensures c.loop.invariant

pub returns : goal.returns
returns c = spent_item _ (row_at c.args.names.now) (codes ")") (codes ", ") _ _ (c.loop.rows.items) c.loop.left.now _ c.loop-test.false c.loop.invariant
