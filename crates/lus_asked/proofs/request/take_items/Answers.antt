-- The items are those that the text has, one by one.
use Rattle.std.proofs.Common.{◌≡◌, ◌++◌, ◌∷◌, [], ap, map, codes, rules, Some, None}
use Rattle.std.proofs.lemmas.List.{map_push}
use Rattle.lus_values.specs.View.{entry_of}
use Rattle.lus_asked.specs.Reading.{after, inner_row_at, item_at}
use Rattle.lus_asked.proofs.Lists.{begun_list, empty_list, last_item, more_item, none_item, spent_item, stuck_item}
use Rattle.lus_asked.proofs.request.take_items.Goals as goal

pub returns-in-Some : goal.returns-in-Some
unfolding inner_row_at
returns-in-Some c = empty_list _ (item_at c.args.names.now) (codes ")") (codes ", ") c.args.text.now c.in-Some.rest.now (map entry_of c.new-items.result.items) (ap (map entry_of) c.new-items.ensures.items) c.in-Some.ensures

pub loop-init : goal.loop-init
unfolding inner_row_at
loop-init c =
    let none : None ≡ after (codes ")") c.args.text.now = search rules in
    begun_list _ (item_at c.args.names.now) (codes ")") (codes ", ") c.args.text.now (map entry_of c.new-items.result.items) (ap (map entry_of) c.new-items.ensures.items) none

pub returns-in_default-2 : goal.returns-in_default-2
returns-in_default-2 c =
    let none : None ≡ item_at c.args.names.now c.loop.left.now = search rules in
    none_item _ (item_at c.args.names.now) (codes ")") (codes ", ") _ (map entry_of c.loop.items.items) c.loop.left.now _ none c.loop.invariant

pub returns-in-End : goal.returns-in-End
returns-in-End c =
    let some : Some (entry_of c.in-Some-2.item, c.in-Some-2.behind.now) ≡ item_at c.args.names.now c.loop.left.now = search rules in
    let pushed : map entry_of c.push.new.self.items ≡ map entry_of c.loop.items.items ++ entry_of c.in-Some-2.item ∷ [] = rw c.in_ok-push.ensures.items (map_push entry_of c.loop.items.items c.in-Some-2.item) in
    last_item _ (item_at c.args.names.now) (codes ")") (codes ", ") _ _ (map entry_of c.loop.items.items) (map entry_of c.push.new.self.items) (entry_of c.in-Some-2.item) c.loop.left.now c.in-Some-2.behind.now c.in-End.rest.now _ c.loop-test.true pushed some c.in-End.ensures c.loop.invariant

pub returns-in-Neither : goal.returns-in-Neither
returns-in-Neither c =
    let some : Some (entry_of c.in-Some-2.item, c.in-Some-2.behind.now) ≡ item_at c.args.names.now c.loop.left.now = search rules in
    stuck_item _ (item_at c.args.names.now) (codes ")") (codes ", ") _ (map entry_of c.loop.items.items) (entry_of c.in-Some-2.item) c.loop.left.now c.in-Some-2.behind.now _ some c.in-Neither.ensures c.loop.invariant

pub loop-preserved : goal.loop-preserved
loop-preserved c =
    let some : Some (entry_of c.in-Some-2.item, c.in-Some-2.behind.now) ≡ item_at c.args.names.now c.loop.left.now = search rules in
    let pushed : map entry_of c.push.new.self.items ≡ map entry_of c.loop.items.items ++ entry_of c.in-Some-2.item ∷ [] = rw c.in_ok-push.ensures.items (map_push entry_of c.loop.items.items c.in-Some-2.item) in
    more_item _ (item_at c.args.names.now) (codes ")") (codes ", ") _ _ (map entry_of c.loop.items.items) (map entry_of c.push.new.self.items) (entry_of c.in-Some-2.item) c.loop.left.now c.in-Some-2.behind.now c.in-Item.later.now _ c.loop-test.true pushed some c.in-Item.ensures c.loop.invariant

pub returns : goal.returns
returns c = spent_item _ (item_at c.args.names.now) (codes ")") (codes ", ") _ _ (map entry_of c.loop.items.items) c.loop.left.now _ c.loop-test.false c.loop.invariant
