-- An expression that has a type has the type that is found without its tests.
use Rattle.std.proofs.Common.{◌≡◌, ◌∙◌, ap, sym, refl, ℕ, zero, suc, true, List, [], ◌∷◌, Some, map, take, drop}
use Rattle.std.specs.Prelude.{option_map, slice_get, unwrap_or}
use Rattle.std.specs.List.{list_all}
use Rattle.std.specs.Option.{option_and_then}
use Rattle.std.proofs.lemmas.Option.{get_or_from_slice_get}
use Rattle.lus_values.specs.declared.operator.Operator.{Operator}
use Rattle.lus_values.specs.declared.operator.Operator.TheVariants as operators
use Rattle.lus_values.specs.Lists.{item}
use Rattle.lus_values.specs.Operators.{shape}
use Rattle.lus_program.specs.declared.types.Kind.{Kind}
use Rattle.lus_program.specs.declared.types.Kind.TheVariants as kinds
use Rattle.lus_program.specs.Programs.{Expression, literal, variable, operate, pre, arrow, when, merge, call, Operands, none, more, Node, Program, Variable, no_variable, empty_node, node_at}
use Rattle.lus_values.proofs.Equalities.{and_left, and_right}
use Rattle.lus_program.specs.Kinds.{same, all_same, where_true, alike, common_kind, the_one}
use Rattle.lus_program.specs.Resolved.{takes, operation_kind, if_kind, operator_kind, projected, field_kinds, input_kinds, output_kinds, call_results, results, kind_of_variable, test_fits, merged, kind_in, kinds_in}
use Rattle.lus_program.proofs.Options.{and_then_gives, map_gives, where_true_gives, same_is}
use Rattle.lus_program.specs.Given.{variable_given, output_given, operator_given, given, last_given}

some_same : {X : Type 0} {x y : X} → Some x ≡ Some y → x ≡ y
some_same e = cc

-- the last of a list, k where there is none
abbrev last_of : Kind → List Kind → Kind
last_of k [] = k
last_of k (l ∷ ls) = last_of l ls

-- a choice gives what its last operand is
if_gives : (ks : List Kind) (k : Kind) → if_kind ks ≡ Some k → last_of kinds.Bool ks ≡ k
if_gives (c ∷ a ∷ b ∷ []) k h =
    let alikes = where_true_gives (same kinds.Bool c) (alike a b) k h in
    let one = where_true_gives (same a b) (Some a) k alikes.1 in
    sym (same_is a b one.0) ∙ some_same one.1
if_gives ks k h = cc

last_same : (k : Kind) (ks : List Kind) → list_all (same k) ks ≡ true → last_of k ks ≡ k
last_same k [] h = refl
last_same k (l ∷ ls) h =
    let first : k ≡ l = same_is k l (and_left (same k l) (list_all (same k) ls) h) in
    ap (λ m. last_of m ls) (sym first) ∙ last_same k ls (and_right (same k l) (list_all (same k) ls) h)

-- branches of one type give what the last is
common_gives : (ks : List Kind) (k : Kind) → common_kind ks ≡ Some k → last_of kinds.Bool ks ≡ k
common_gives [] k h = cc
common_gives (l ∷ ls) k h = let one = where_true_gives (list_all (same l) ls) (Some l) k h in last_same l ls one.0 ∙ some_same one.1

-- the one of the first n from m on
first_from : (n m : ℕ) (vs : List Variable) (k : Kind) → the_one (map (λ v. v.kind) (take n (drop m vs))) ≡ Some k → (item no_variable vs m).kind ≡ k
first_from (suc zero) zero (v ∷ vs) k h = some_same h
first_from (suc (suc n)) zero (v ∷ []) k h = some_same h
first_from (suc n) (suc m) (v ∷ vs) k h = first_from (suc n) m vs k h
first_from n m vs k h = cc

module _ (p : Program) where
  field_gives : (n : ℕ) (ks : List Kind) (k : Kind) → projected p n ks ≡ Some k → item kinds.Bool (field_kinds p (last_of kinds.Bool ks)) n ≡ k
  field_gives n (s ∷ []) k h = get_or_from_slice_get (field_kinds p s) n k kinds.Bool h
  field_gives n ks k h = cc

  operator_gives : (o : Operator) (ks : List Kind) (k : Kind) → operator_kind p o ks ≡ Some k → operator_given p o (last_of kinds.Bool ks) ≡ k
  operator_gives (operators.Compute op) ks k h = some_same (where_true_gives (takes (shape op) ks) (Some (operation_kind op)) k h).1
  operator_gives operators.If ks k h = if_gives ks k h
  operator_gives (operators.Structure t) ks k h = some_same (where_true_gives (all_same (field_kinds p (kinds.Struct t)) ks) (Some (kinds.Struct t)) k h).1
  operator_gives (operators.Field n) ks k h = field_gives n ks k h

  -- a call of a node with one output gives what this is
  output_gives : (g : ℕ) (ks : List Kind) (k : Kind) → option_and_then the_one (results p g ks) ≡ Some k → output_given p g ≡ k
  output_gives g ks k h =
      let one = and_then_gives the_one (results p g ks) k h in
      let found = and_then_gives (call_results p ks) (slice_get p.nodes g) one.0 one.1 in
      let f = found.0 in
      let fits = where_true_gives (all_same (input_kinds f) ks) (Some (output_kinds f)) one.0 found.2 in
      let is : output_kinds f ≡ one.0 = some_same fits.1 in
      let node : node_at p g ≡ f = get_or_from_slice_get p.nodes g f empty_node found.1 in
      ap (λ d. variable_given d d.inputs) node ∙ first_from f.outputs f.inputs f.variables k (ap the_one is ∙ one.2)

  module _ (f : Node) where
    variable_gives : (x : ℕ) (k : Kind) → kind_of_variable p f x ≡ Some k → variable_given f x ≡ k
    variable_gives x k h =
        let found = map_gives (λ v. v.kind) (slice_get f.variables x) k h in
        ap (λ v. v.kind) (get_or_from_slice_get f.variables x found.0 no_variable found.1) ∙ found.2

    -- of `->`
    first_gives : (a b : Expression) (k : Kind) → ((l : Kind) → kind_in p f a ≡ Some l → given p f a ≡ l) → kind_in p f (arrow a b) ≡ Some k → given p f a ≡ k
    first_gives a b k is h =
        let first = and_then_gives (λ l. option_and_then (alike l) (kind_in p f b)) (kind_in p f a) k h in
        let later = and_then_gives (alike first.0) (kind_in p f b) k first.2 in
        is first.0 first.1 ∙ some_same (where_true_gives (same first.0 later.0) (Some first.0) k later.2).1

    mutual
      pub given_is : (e : Expression) (k : Kind) → kind_in p f e ≡ Some k → given p f e ≡ k
      given_is (literal v) k h = ap (λ o. unwrap_or o kinds.Bool) h
      given_is (variable x) k h = variable_gives x k h
      given_is (operate o es) k h =
          let all = and_then_gives (operator_kind p o) (kinds_in p f es) k h in
          ap (operator_given p o) (last_is kinds.Bool es all.0 all.1) ∙ operator_gives o all.0 k all.2
      given_is (pre a) k h = given_is a k h
      given_is (arrow a b) k h = first_gives a b k (given_is a) h
      given_is (when t a) k h =
          let one = and_then_gives (λ l. where_true (test_fits p f t) (Some l)) (kind_in p f a) k h in
          given_is a one.0 one.1 ∙ some_same (where_true_gives (test_fits p f t) (Some one.0) k one.2).1
      given_is (merge x bs) k h =
          let all = and_then_gives (λ ks. option_and_then (merged p f ks) (kind_of_variable p f x)) (kinds_in p f bs) k h in
          let tested = and_then_gives (merged p f all.0) (kind_of_variable p f x) k all.2 in
          last_is kinds.Bool bs all.0 all.1 ∙ common_gives all.0 k (where_true_gives _ (common_kind all.0) k tested.2).1
      given_is (call g c es) k h = let all = and_then_gives (λ ks. option_and_then the_one (results p g ks)) (kinds_in p f es) k h in output_gives g all.0 k all.2

      last_is : (d : Kind) (es : Operands) (ks : List Kind) → kinds_in p f es ≡ Some ks → last_given p f d es ≡ last_of d ks
      last_is d none ks h = let is : [] ≡ ks = some_same h in ap (last_of d) is
      last_is d (more e es) ks h =
          let first = and_then_gives (λ k. option_map (λ ls. k ∷ ls) (kinds_in p f es)) (kind_in p f e) ks h in
          let rest = map_gives (λ ls. first.0 ∷ ls) (kinds_in p f es) ks first.2 in
          last_is (given p f e) es rest.0 rest.1 ∙ ap (λ k. last_of k rest.0) (given_is e first.0 first.1) ∙ ap (last_of d) rest.2
