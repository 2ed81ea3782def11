use Rattle.std.proofs.Common.{rules, ◌≡◌, ◌∙◌, ◌+◌, ◌&&◌, ap, drop, false, sym, true}
use Rattle.std.specs.Prelude.{is_none}
use Rattle.std.specs.List.{list_all}
use Rattle.lus_source.proofs.Lookups.{drop_step}
use Rattle.lus_source.specs.NameView.{known_seen}
use Rattle.lus_source.proofs.using.first_unknown.Goals as goal

pub loop-thing-preserved : goal.loop-thing-preserved
loop-thing-preserved g c =
    let known = g.T.Using.known (known_seen c.args.names.now) in
    let rest = list_all known (drop (c.loop-thing.thing-index + 1) c.args.things.now) in
    let split = ap (list_all known) (drop_step c.args.things.now c.loop-thing.thing-index c.thing-item.result c.loop-thing-test.true c.thing-item.is) in
    let none : is_none c.unknown.result ≡ true = search rules in
    sym (split ∙ ap (λ b. b && rest) (sym c.unknown.ensures ∙ none)) ∙ c.loop-thing.invariant

pub returns-in-Some : goal.returns-in-Some
returns-in-Some g c =
    let known = g.T.Using.known (known_seen c.args.names.now) in
    let rest = list_all known (drop (c.loop-thing.thing-index + 1) c.args.things.now) in
    let split = ap (list_all known) (drop_step c.args.things.now c.loop-thing.thing-index c.thing-item.result c.loop-thing-test.true c.thing-item.is) in
    let some : is_none c.unknown.result ≡ false = search rules in
    sym (sym c.loop-thing.invariant ∙ split ∙ ap (λ b. b && rest) (sym c.unknown.ensures ∙ some))
