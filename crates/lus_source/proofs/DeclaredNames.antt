-- The names that a source and its nodes declare, as they come into tables.
use Rattle.std.proofs.Common.{◌≡◌, ◌∙◌, refl, ap, ap₂, sym, Bool, true, false, not, List, [], ◌∷◌, ◌++◌, map, flat_map, ◌&&◌}
use Rattle.std.specs.List.{list_all}
use Rattle.std.proofs.lemmas.List.Folds.{flat_map-map, list_all-append}
use Rattle.lus_syntax.specs.declared.tree.Tree.{Tree as StoredTree}
use Rattle.lus_syntax.specs.Lexemes.{Text}
use Rattle.lus_syntax.specs.Trees.{Constant, TypeDeclaration, Equation, Group}
use Rattle.lus_syntax.specs.View.{constant_seen, definition_seen, tree_seen, type_seen, equation_seen, group_seen, node_seen}
use Rattle.lus_source.specs.Named.{Distinct, all_new, constructor_names, is_in, known, defined_names, left_names, names_in}
use Rattle.lus_source.specs.Parts.{AreDistinct}
use Rattle.lus_source.proofs.AppendedNames.{apart, distinct_apart, first_doubled, from_empty, last_doubled, new_from_empty, not_apart, Remaining, last_distinct}
use Rattle.std.proofs.lemmas.List.Concat.{flat_map-append}
use Rattle.lus_syntax.specs.declared.tree.Equation.{Equation as StoredEquation}
use Rattle.lus_syntax.specs.declared.tree.Group.{Group as StoredGroup}
use Rattle.lus_syntax.specs.declared.tree.Node.{Node as StoredNode}
use Rattle.lus_source.specs.Tables.{groups, text_of}

-- things that have one name each
module _ {X Y : Type 0} (name : Y → Text) (seen : X → Y) where
  abbrev pub own : List X → List Text
  own xs = flat_map (λ x. name (seen x) ∷ []) xs

  pub one_each : (xs : List X) → own xs ≡ map name (map seen xs)
  one_each [] = refl
  one_each (x ∷ xs) = ap (λ l. name (seen x) ∷ l) (one_each xs)

  module _ (xs : List X) (before : List Text) (empty : before ≡ []) where
    pub one_twice : all_new before (own xs) ≡ false → Distinct (map name (map seen xs)) → ⊥
    one_twice doubled distinct =
        let doubled : all_new [] (map name (map seen xs)) ≡ false = ap (all_new []) (sym (one_each xs)) ∙ sym (ap (λ b. all_new b (own xs)) empty) ∙ doubled in
        cc

    pub each_there : (table : List Text) → table ≡ before ++ own xs → table ≡ map name (map seen xs)
    each_there table grown = from_empty before (own xs) table empty grown ∙ one_each xs

    pub each_distinct : all_new before (own xs) ≡ true → Distinct (map name (map seen xs))
    each_distinct new = ap (all_new []) (sym (one_each xs)) ∙ new_from_empty before (own xs) empty new

-- constants and constructors
module _ (t : StoredTree) where
  abbrev pub constants : List Text
  constants = own (λ (c : Constant). c.name.text) constant_seen t.constants.items

  abbrev pub constructors : List Text
  constructors = flat_map (λ d. constructor_names (definition_seen d.definition)) t.types.items

  pub constructors_are : constructors ≡ (known (tree_seen t) []).constructors
  constructors_are = sym (flat_map-map (λ (d : TypeDeclaration). constructor_names d.definition) type_seen t.types.items)

  values_are : constants ++ constructors ≡ (known (tree_seen t) []).constants ++ (known (tree_seen t) []).constructors
  values_are = ap₂ (λ (ns : List Text) ms. ns ++ ms) (one_each (λ (c : Constant). c.name.text) constant_seen t.constants.items) constructors_are

  module _ (before : List Text) (empty : before ≡ []) where
    pub constant_twice : all_new before constants ≡ false → AreDistinct (tree_seen t) → ⊥
    constant_twice doubled distinct = first_doubled constants constructors before empty doubled (ap (all_new []) values_are ∙ distinct.values)

    pub constructor_twice : all_new before constructors ≡ false → AreDistinct (tree_seen t) → ⊥
    constructor_twice doubled distinct = last_doubled constants constructors before empty doubled (ap (all_new []) values_are ∙ distinct.values)

    module _ (table : List Text) (b : Bool) (grown : table ≡ before ++ constants) (is : b ≡ list_all (λ n. not (is_in table n)) constructors) where
      separate : b ≡ list_all (λ n. not (is_in constants n)) constructors
      separate = apart constants constructors before table b empty grown is

      pub value_twice : b ≡ false → AreDistinct (tree_seen t) → ⊥
      value_twice clash distinct = not_apart constants constructors b separate clash (ap (all_new []) values_are ∙ distinct.values)

      pub values_distinct : (other : List Text) → other ≡ [] → all_new before constants ≡ true → all_new other constructors ≡ true → b ≡ true
          → Distinct ((known (tree_seen t) []).constants ++ (known (tree_seen t) []).constructors)
      values_distinct other empty_too one two none =
          ap (all_new []) (sym values_are)
          ∙ distinct_apart constants constructors b (new_from_empty before constants empty one) (new_from_empty other constructors empty_too two) separate none

-- as they are stored
abbrev pub named : List StoredGroup → List Text
named gs = flat_map (λ g. map text_of (group_seen g).names) gs

abbrev pub lefts : List StoredEquation → List Text
lefts qs = flat_map (λ q. map text_of (equation_seen q).left) qs

named_are : (gs : List StoredGroup) → named gs ≡ names_in (map group_seen gs)
named_are gs = sym (flat_map-map (λ (g : Group). map text_of g.names) group_seen gs)

lefts_are : (qs : List StoredEquation) → lefts qs ≡ flat_map (λ q. map text_of q.left) (map equation_seen qs)
lefts_are qs = sym (flat_map-map (λ (q : Equation). map text_of q.left) equation_seen qs)

module _ (f : StoredNode) where
  defined_are : named f.outputs.items ++ named f.locals.items ≡ defined_names (node_seen f)
  defined_are =
      ap₂ (λ (o : List Text) l. o ++ l) (named_are f.outputs.items) (named_are f.locals.items)
      ∙ sym (flat_map-append (λ (g : Group). map text_of g.names) (map group_seen f.outputs.items) (map group_seen f.locals.items))

  variables_are : named f.inputs.items ++ defined_names (node_seen f) ≡ names_in (groups (node_seen f))
  variables_are =
      ap (λ ns. ns ++ defined_names (node_seen f)) (named_are f.inputs.items)
      ∙ sym (flat_map-append (λ (g : Group). map text_of g.names) (map group_seen f.inputs.items) (map group_seen f.outputs.items ++ map group_seen f.locals.items))

  -- what is defined is among distinct variables
  pub defined_distinct : Distinct (names_in (groups (node_seen f))) → Distinct (defined_names (node_seen f))
  defined_distinct distinct = last_distinct (named f.inputs.items) (defined_names (node_seen f)) (ap (all_new []) variables_are ∙ distinct)

  module _ (before : List Text) where
    -- before the names of the groups one behind another
    pub variables_remain : Remaining before (named f.inputs.items ++ defined_names (node_seen f)) before (names_in (groups (node_seen f)))
    variables_remain = record { kept = ap (λ ns. before ++ ns) variables_are; same = ap (all_new before) variables_are }

    pub defined_remain : Remaining before (named f.outputs.items ++ named f.locals.items) before (defined_names (node_seen f))
    defined_remain = record { kept = ap (λ ns. before ++ ns) defined_are; same = ap (all_new before) defined_are }

    pub left_new : (b : Bool) → all_new before (lefts f.equations.items) ≡ b → all_new before (left_names (node_seen f)) ≡ b
    left_new b new = sym (ap (all_new before) (lefts_are f.equations.items)) ∙ new

    -- left sides in a table with what is defined
    pub lefts_defined : (table : List Text) (b : Bool) → table ≡ before ++ defined_names (node_seen f) → b ≡ list_all (is_in table) (lefts f.equations.items) → b ≡ list_all (is_in (before ++ defined_names (node_seen f))) (left_names (node_seen f))
    lefts_defined table b grown is = is ∙ ap₂ (λ (t : List Text) ns. list_all (is_in t) ns) grown (lefts_are f.equations.items)

    -- what is defined in a table with the left sides
    pub defined_whole : (table : List Text) (b d : Bool) → table ≡ before ++ lefts f.equations.items → b ≡ list_all (is_in table) (named f.outputs.items) → d ≡ list_all (is_in table) (named f.locals.items)
        → (b && d) ≡ list_all (is_in (before ++ left_names (node_seen f))) (defined_names (node_seen f))
    defined_whole table b d grown outputs locals =
        ap₂ (λ (x : Bool) y. x && y) outputs locals
        ∙ sym (list_all-append (is_in table) (named f.outputs.items) (named f.locals.items))
        ∙ ap₂ (λ (t : List Text) ns. list_all (is_in t) ns) (grown ∙ ap (λ ns. before ++ ns) (lefts_are f.equations.items)) defined_are
