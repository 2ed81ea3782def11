use Rattle.std.proofs.Common.{rules, ◌≡◌, ◌∙◌, ◌&&◌, ◌+◌, ap, drop, flat_map, sym, true}
use Rattle.std.specs.Prelude.{is_none}
use Rattle.std.specs.List.{list_all}
use Rattle.std.proofs.lemmas.List.Folds.{list_all-append}
use Rattle.lus_syntax.specs.Lexemes.{Text}
use Rattle.lus_source.specs.Named.{is_in}
use Rattle.lus_source.proofs.Lookups.{drop_step}
use Rattle.lus_source.specs.NameView.{differs, texts}
use Rattle.lus_source.proofs.naming.first.Goals as goal

pub loop-thing-preserved : goal.loop-thing-preserved
loop-thing-preserved g c =
    let named = g.T.Naming.named in
    let passes = λ (n : Text). differs c.args.among (is_in (texts c.args.table.now.keys) n) in
    let passes' = list_all passes in
    let rest = flat_map named (drop (c.loop-thing.thing-index + 1) c.args.things.now) in
    let split = ap (flat_map named) (drop_step c.args.things.now c.loop-thing.thing-index c.thing-item.result c.loop-thing-test.true c.thing-item.is) in
    let none : is_none c.first_name.result ≡ true = search rules in
    let passed : passes' (named c.thing-item.result) ≡ true = ap passes' (sym c.names.ensures) ∙ sym c.first_name.ensures ∙ none in
    sym (ap passes' split ∙ list_all-append passes (named c.thing-item.result) rest ∙ ap (λ b. b && passes' rest) passed) ∙ c.loop-thing.invariant
