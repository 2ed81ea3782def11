-- The rules of a node's names, from what the parts are checked for.
use Rattle.std.proofs.Common.{◌≡◌, ◌∙◌, refl, ap, ap₂, sym, Bool, true, false, ◌&&◌, List, [], ◌∷◌, ◌++◌, Option, IsTrue, map}
use Rattle.std.specs.Prelude.{is_none}
use Rattle.std.specs.List.{list_all}
use Rattle.std.specs.Option.{option_or}
use Rattle.std.proofs.lemmas.List.Folds.{list_all-append, list_all-map}
use Rattle.lus_syntax.specs.declared.tree.Node.{Node as StoredNode}
use Rattle.lus_syntax.specs.declared.token.Place.{Place}
use Rattle.lus_syntax.specs.Lexemes.{Text}
use Rattle.lus_syntax.specs.Trees.{Equation, Group, Node}
use Rattle.lus_syntax.specs.View.{equation_seen, expression_seen, group_seen, node_seen}
use Rattle.lus_source.specs.Tables.{groups}
use Rattle.lus_source.specs.Named.{Distinct, Known, NodeNamed, knows, names_in, test_known, type_known}
use Rattle.lus_values.proofs.Equalities.{and_left, and_right}
use Rattle.lus_source.specs.Parts.{LeftsNamed, group_known, in_node, node_known}
use Rattle.lus_source.proofs.AppendedNames.{none_or}

and_across : (a b c d : Bool) → (a && b) && (c && d) ≡ (a && c) && (b && d)
and_across false b c d = refl
and_across true false false d = refl
and_across true false true d = refl
and_across true true c d = refl

groups_known : (k : Known) (gs : List Group) → list_all (group_known k) gs ≡ (list_all (λ g. type_known k.types g.type_name) gs && list_all (λ g. test_known k g.test) gs)
groups_known k [] = refl
groups_known k (g ∷ gs) = ap (λ b. group_known k g && b) (groups_known k gs) ∙ and_across (type_known k.types g.type_name) (test_known k g.test) _ _

-- what is unknown in a node is found list by list
pub found_unknown : (k : Known) (f : StoredNode) (i o l q : Option Place)
    → is_none i ≡ list_all (λ g. group_known k (group_seen g)) f.inputs.items → is_none o ≡ list_all (λ g. group_known k (group_seen g)) f.outputs.items
    → is_none l ≡ list_all (λ g. group_known k (group_seen g)) f.locals.items → is_none q ≡ list_all (λ e. knows k (expression_seen e.right)) f.equations.items
    → is_none (option_or (option_or (option_or i o) l) q) ≡ node_known k (node_seen f)
found_unknown k f i o l q inputs outputs locals rights =
    let is = map group_seen f.inputs.items in
    let os = map group_seen f.outputs.items in
    let ls = map group_seen f.locals.items in
    let all : list_all (group_known k) (groups (node_seen f)) ≡ (is_none i && (is_none o && is_none l)) =
    list_all-append (group_known k) is (os ++ ls)
    ∙ ap₂ (λ (x : Bool) y. x && y) (list_all-map (group_known k) group_seen f.inputs.items ∙ sym inputs)
    (list_all-append (group_known k) os ls ∙ ap₂ (λ (x : Bool) y. x && y) (list_all-map (group_known k) group_seen f.outputs.items ∙ sym outputs) (list_all-map (group_known k) group_seen f.locals.items ∙ sym locals)) in
    let lefts : is_none (option_or (option_or i o) l) ≡ (is_none i && (is_none o && is_none l)) =
    none_or (option_or i o) l ∙ ap (λ b. b && is_none l) (none_or i o) ∙ and_joined (is_none i) (is_none o) (is_none l) in
    none_or (option_or (option_or i o) l) q
    ∙ ap₂ (λ (x : Bool) y. x && y) (lefts ∙ sym all) (rights ∙ sym (list_all-map (λ (e : Equation). knows k e.right) equation_seen f.equations.items))
  where
    and_joined : (a b c : Bool) → ((a && b) && c) ≡ (a && (b && c))
    and_joined true b c = refl
    and_joined false b c = refl

pub node_named : (k : Known) (f : Node) → Distinct k.variables → node_known k f ≡ true → LeftsNamed f → NodeNamed k f
node_named k f distinct known lefts =
    let declared : IsTrue (list_all (group_known k) (groups f)) = and_left (list_all (group_known k) (groups f)) (list_all (λ q. knows k q.right) f.equations) known in
    let both = sym (groups_known k (groups f)) ∙ declared in
    record {
      distinct = distinct;
      types = and_left (list_all (λ g. type_known k.types g.type_name) (groups f)) _ both;
      tests = and_right (list_all (λ g. type_known k.types g.type_name) (groups f)) _ both;
      left_distinct = lefts.distinct;
      left_defined = lefts.defined;
      left_whole = lefts.whole;
      left_some = lefts.some;
      rights = and_right (list_all (group_known k) (groups f)) _ known;
    }

pub lefts_named : {k : Known} {f : Node} → NodeNamed k f → LeftsNamed f
lefts_named named = record { distinct = named.left_distinct; defined = named.left_defined; whole = named.left_whole; some = named.left_some }

pub unknown_part : (k : Known) (f : Node) → node_known k f ≡ false → NodeNamed k f → ⊥
unknown_part k f unknown named =
    let types : list_all (λ g. type_known k.types g.type_name) (groups f) ≡ true = named.types in
    let tests : list_all (λ g. test_known k g.test) (groups f) ≡ true = named.tests in
    let rights : list_all (λ q. knows k q.right) f.equations ≡ true = named.rights in
    let all : node_known k f ≡ true = rw (groups_known k (groups f), types, tests, rights) refl in
    cc

module _ (k : Known) (variables : List Text) (f : Node) (found : Option Place) (its_own : variables ≡ names_in (groups f)) (is : is_none found ≡ node_known (record k { variables = variables }) f) where
  here : is_none found ≡ node_known (in_node k f) f
  here = is ∙ ap (λ vs. node_known (record k { variables = vs }) f) its_own

  pub part_unknown : is_none found ≡ false → NodeNamed (in_node k f) f → ⊥
  part_unknown some = unknown_part (in_node k f) f (sym here ∙ some)

  pub parts_named : Distinct (names_in (groups f)) → is_none found ≡ true → LeftsNamed f → NodeNamed (in_node k f) f
  parts_named distinct none = node_named (in_node k f) f distinct (sym here ∙ none)
