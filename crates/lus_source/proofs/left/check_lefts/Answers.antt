-- Of distinct variables none that is defined is doubled.
use Rattle.std.proofs.Common.{rules, ◌≡◌, ◌∙◌, ◌++◌, [], List, ap, true}
use Rattle.std.specs.List.{list_all}
use Rattle.lus_syntax.specs.Lexemes.{Text}
use Rattle.lus_syntax.specs.View.{node_seen}
use Rattle.lus_source.specs.Named.{all_new, defined_names, is_in, left_names}
use Rattle.lus_source.specs.NameView.{texts}
use Rattle.lus_source.proofs.Faults.{passed_on}
use Rattle.lus_source.proofs.DeclaredNames.{defined_distinct}
use Rattle.lus_source.proofs.left.check_lefts.Goals as goal

pub returns-in_err-check_defined-clause-refused : goal.returns-in_err-check_defined-clause-refused
returns-in_err-check_defined-clause-refused c =
    let f = node_seen c.args.node.now in
    let table = texts c.clear.new.self.keys in
    let empty : table ≡ [] = search rules in
    passed_on _ (λ wrong distinct named.
    let new : all_new table (defined_names f) ≡ true = ap (λ (t : List Text). all_new t (defined_names f)) empty ∙ defined_distinct c.args.node.now distinct in
    let within : list_all (is_in (table ++ defined_names f)) (left_names f) ≡ true = ap (λ (t : List Text). list_all (is_in (t ++ defined_names f)) (left_names f)) empty ∙ named.defined in
    wrong new within) c.from_residual-in_err-check_defined.result c.in_err-check_defined.field-0.0 c.from_residual-in_err-check_defined.ensures.1 c.in_err-check_defined.ensures.refused
