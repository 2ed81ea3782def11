-- An unknown name in a constant breaks the rule of constants.
use Rattle.std.proofs.Common.{◌≡◌, ◌∙◌, sym, true}
use Rattle.std.specs.Prelude.{is_none}
use Rattle.std.proofs.lemmas.List.Folds.{list_all-map}
use Rattle.lus_syntax.specs.View.{constant_seen}
use Rattle.lus_source.specs.Named.{constant_known}
use Rattle.lus_source.specs.NameView.{known_seen}
use Rattle.lus_source.proofs.Faults.{judged_by, passed_on}
use Rattle.lus_source.proofs.named.check_uses.Goals as goal

pub returns-in_err-refuse-clause-known : goal.returns-in_err-refuse-clause-known
returns-in_err-refuse-clause-known c =
    let tree = c.tree-tree.ensures.same in
    let is = rw (c.deref-2.ensures.value, tree) at c.first_unknown.ensures in
    passed_on _ (λ some uses.
    let none : is_none c.first_unknown.result ≡ true = is ∙ sym (list_all-map (constant_known (known_seen c.args.names.now)) constant_seen c.args.counted.now.constants.items) ∙ uses.constants in
    cc) c.from_residual-in_err-refuse.result c.in_err-refuse.field-0.0 c.from_residual-in_err-refuse.ensures.1 c.in_err-refuse.ensures

pub returns-clause-known : goal.returns-clause-known
returns-clause-known c =
    let tree = c.tree-tree.ensures.same in
    let is = rw (c.deref-2.ensures.value, tree) at c.first_unknown.ensures in
    let nodes = rw (c.deref-3.ensures.value, tree) at c.check_nodes.ensures.named in
    judged_by (λ named. record {
      definitions = rw (c.deref.ensures.value, tree) at c.in_ok-check_definitions.ensures;
      constants = list_all-map (constant_known (known_seen c.args.names.now)) constant_seen c.args.counted.now.constants.items ∙ sym is ∙ c.in_ok-refuse.ensures;
      nodes = named;
    }) (λ wrong uses. wrong uses.nodes) c.check_nodes.result nodes
