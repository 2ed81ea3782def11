-- The types that equations give: to each part of their text, and to the variables on their left.
use Rattle.std.proofs.Common.{arith, ◌≡◌, ◌∙◌, ℕ, zero, suc, ◌+◌, nat_eq, Bool, true, false, List, [], ◌∷◌, map, take, drop, Option, Some, None, refl, sym, ap, subst, if◌then◌else◌}
use Rattle.std.proofs.lemmas.Bool.{eqb-true}
use Rattle.std.proofs.lemmas.Option.{get_or_from_slice_get}
use Rattle.std.specs.Option.{option_and_then}
use Rattle.std.specs.Prelude.{option_map, slice_get}
use Rattle.lus_values.specs.Lists.{item, Each}
use Rattle.lus_values.proofs.Lists.{each_append}
use Rattle.lus_program.specs.declared.types.Kind.{Kind}
use Rattle.lus_program.specs.Programs.{Expression, literal, variable, operate, pre, arrow, when, merge, call, Operands, none, more, Variable, Equation, Node, Program, no_variable, empty_node, node_at}
use Rattle.lus_program.specs.Kinds.{all_same}
use Rattle.lus_program.specs.Given.{variable_given, given}
use Rattle.lus_program.specs.Resolved.{kind_of_variable, kind_in, kinds_in, kinds_given_in, EquationFits, input_kinds, output_kinds, call_results, results}
use Rattle.lus_program.proofs.Options.{and_then_gives, map_gives, where_true_gives, all_same_is}
use Rattle.lus_program.proofs.KindsGiven.{given_is}
use Rattle.lus_program.proofs.TypedParts.{HasKind, HaveKinds, operate_typed, both_typed, when_typed, merge_typed, more_typed, call_typed, whole_call, whole_typed}
use Rattle.lus_streams.specs.Clocks.{Clock, Part, at, formal_clock, base_of, branch_clock, parts, all_parts}
use Rattle.lus_streams.specs.Equations.{Definition, given_by, place_in, equation_clock, definition_in, equation_parts}
use Rattle.lus_typed_streams.proofs.Operators.{some_same}

-- the type of a variable among the first
taken_kind : (n : ℕ) (vs : List Variable) (i : ℕ) (k : Kind) → slice_get (map (λ v. v.kind) (take n vs)) i ≡ Some k → (item no_variable vs i).kind ≡ k
taken_kind zero vs i k e = cc
taken_kind (suc n) [] i k e = cc
taken_kind (suc n) (v ∷ vs) zero k e = some_same e
taken_kind (suc n) (v ∷ vs) (suc i) k e = taken_kind n vs i k e

-- and among those behind the first m
dropped_kind : (m n : ℕ) (vs : List Variable) (i : ℕ) (k : Kind) → slice_get (map (λ v. v.kind) (take n (drop m vs))) i ≡ Some k → (item no_variable vs (m + i)).kind ≡ k
dropped_kind zero n vs i k e = let same : 0 + i ≡ i = omega arith in ap (λ j. (item no_variable vs j).kind) same ∙ taken_kind n vs i k e
dropped_kind (suc m) zero [] i k e = cc
dropped_kind (suc m) (suc n) [] i k e = cc
dropped_kind (suc m) n (v ∷ vs) i k e = let same : suc m + i ≡ suc (m + i) = omega arith in ap (λ j. (item no_variable (v ∷ vs) j).kind) same ∙ dropped_kind m n vs i k e

module _ (p : Program) where
  -- a call's results are the outputs of the called node, and its arguments' types those of the inputs
  pub output_kind : (g : ℕ) (ks ls : List Kind) (n : ℕ) (k : Kind) → results p g ks ≡ Some ls → slice_get ls n ≡ Some k → variable_given (node_at p g) ((node_at p g).inputs + n) ≡ k
  output_kind g ks ls n k h e =
      let found = and_then_gives (call_results p ks) (slice_get p.nodes g) ls h in
      let f = found.0 in
      let fits = where_true_gives (all_same (input_kinds f) ks) (Some (output_kinds f)) ls found.2 in
      let is : node_at p g ≡ f = get_or_from_slice_get p.nodes g f empty_node found.1 in
      let outputs : output_kinds f ≡ ls = some_same fits.1 in
      ap (λ d. variable_given d (d.inputs + n)) is ∙ dropped_kind f.inputs f.outputs f.variables n k (ap (λ l. slice_get l n) outputs ∙ e)

  pub argument_kinds : (g : ℕ) (ks ls : List Kind) → results p g ks ≡ Some ls → ks ≡ input_kinds (node_at p g)
  argument_kinds g ks ls h =
      let found = and_then_gives (call_results p ks) (slice_get p.nodes g) ls h in
      let f = found.0 in
      let fits = where_true_gives (all_same (input_kinds f) ks) (Some (output_kinds f)) ls found.2 in
      let is : node_at p g ≡ f = get_or_from_slice_get p.nodes g f empty_node found.1 in
      sym (all_same_is (input_kinds f) ks fits.0) ∙ ap input_kinds (sym is)

  module _ (f : Node) where
    -- the first operand has a type, and the others have
    pub record AreMore (e : Expression) (es : Operands) (ks : List Kind) : Type 0 where
      pub first : Kind
      pub others : List Kind
      pub first_has : kind_in p f e ≡ Some first
      pub others_have : kinds_in p f es ≡ Some others
      pub whole : first ∷ others ≡ ks

    pub are_more : (e : Expression) (es : Operands) (ks : List Kind) → kinds_in p f (more e es) ≡ Some ks → AreMore e es ks
    are_more e es ks h =
        let one = and_then_gives (λ k. option_map (λ ls. k ∷ ls) (kinds_in p f es)) (kind_in p f e) ks h in
        let rest = map_gives (λ ls. one.0 ∷ ls) (kinds_in p f es) ks one.2 in
        record { first = one.0; others = rest.0; first_has = one.1; others_have = rest.1; whole = rest.2 }

    -- a part has the types of a right side: one, or those of a call's outputs
    abbrev pub PartHasKinds : Part → Type 0
    PartHasKinds (at k e) = (ls : List Kind) × (kinds_given_in p f e ≡ Some ls)

    have_kinds : (e : Expression) (k : Clock) → HasKind p f e → PartHasKinds (at k e)
    have_kinds (call g c es) k h = let made = call_typed p f g c es h in (made.0, ap (option_and_then (results p g)) made.2.have ∙ made.2.gives)
    have_kinds e k h = (h.0 ∷ [], ap (option_map (λ l. l ∷ [])) h.1)

    mutual
      parts_have_kinds : (e : Expression) (k : Clock) → HasKind p f e → Each PartHasKinds (parts p e k)
      parts_have_kinds (literal v) k h = (have_kinds (literal v) k h, tt)
      parts_have_kinds (variable x) k h = (have_kinds (variable x) k h, tt)
      parts_have_kinds (operate o es) k h = (have_kinds (operate o es) k h, all_have_kinds es (λ m. k) 0 (operate_typed p f o es h))
      parts_have_kinds (pre a) k h = (have_kinds (pre a) k h, parts_have_kinds a k h)
      parts_have_kinds (arrow a b) k h =
          let both = both_typed p f a b h in
          (have_kinds (arrow a b) k h, each_append PartHasKinds (parts p a k) (parts p b k) (parts_have_kinds a k both.0) (parts_have_kinds b k both.1))
      parts_have_kinds (when t a) k h = (have_kinds (when t a) k h, parts_have_kinds a (drop 1 k) (when_typed p f t a h).1)
      parts_have_kinds (merge x bs) k h = (have_kinds (merge x bs) k h, all_have_kinds bs (branch_clock x k) 0 (merge_typed p f x bs h).1)
      parts_have_kinds (call g c es) k h =
          let made = call_typed p f g c es h in
          (have_kinds (call g c es) k h, all_have_kinds es (formal_clock (node_at p g) es (base_of (node_at p g) k)) 0 (made.2.arguments, made.2.have))

      all_have_kinds : (es : Operands) (ks : ℕ → Clock) (m : ℕ) → HaveKinds p f es → Each PartHasKinds (all_parts p es ks m)
      all_have_kinds none ks m h = tt
      all_have_kinds (more e es) ks m h =
          let both = more_typed p f e es h in
          each_append PartHasKinds (parts p e (ks m)) (all_parts p es ks (suc m)) (parts_have_kinds e (ks m) both.0) (all_have_kinds es ks (suc m) both.1)

    right_has_kinds : (e : Expression) (k : Clock) → PartHasKinds (at k e) → Each PartHasKinds (parts p e k)
    right_has_kinds (call g c es) k h = let made = whole_call p f g c es h.0 h.1 in (h, all_have_kinds es (formal_clock (node_at p g) es (base_of (node_at p g) k)) 0 (made.arguments, made.have))
    right_has_kinds e k h = parts_have_kinds e k (whole_typed p f e h.0 h.1)

    pub equations_have_kinds : (qs : List Equation) → Each (EquationFits p f) qs → Each PartHasKinds (equation_parts p f qs)
    equations_have_kinds [] h = tt
    equations_have_kinds (q ∷ qs) h =
        let kinds = map_gives (map Some) (kinds_given_in p f q.right) (map (kind_of_variable p f) q.targets) h.0 in
        each_append PartHasKinds (parts p q.right (equation_clock f q)) (equation_parts p f qs) (right_has_kinds q.right (equation_clock f q) (kinds.0, kinds.1)) (equations_have_kinds qs h.1)

    -- the right side gives a variable on the left its type
    abbrev pub GivesKind : ℕ → Option Definition → Type 0
    GivesKind x None = Unit {0}
    GivesKind x (Some (given_by (call g c args) n xs k)) = variable_given (node_at p g) ((node_at p g).inputs + n) ≡ variable_given f x
    GivesKind x (Some (given_by e n xs k)) = given p f e ≡ variable_given f x

    module _ (x : ℕ) where
      -- a place on the left with the type there
      abbrev IsPlaced : List Kind → ℕ → ℕ → Type 0
      IsPlaced ls m n = (i : ℕ) × (n ≡ m + i) × (slice_get ls i ≡ Some (variable_given f x))

      placed_or : (l : Kind) (ls : List Kind) (y : ℕ) (ys : List ℕ) (m n : ℕ) (b : Bool) → nat_eq x y ≡ b → Some l ≡ kind_of_variable p f y
          → (place_in x ys (suc m) ≡ Some n → IsPlaced ls (suc m) n) → (if b then Some m else place_in x ys (suc m)) ≡ Some n → IsPlaced (l ∷ ls) m n
      placed_or l ls y ys m n true t e rest h =
          let here : m ≡ n = some_same h in
          let same : y ≡ x = sym (eqb-true x y t) in
          (0, omega (arith, here), ap Some (sym (given_is p f (variable x) l (subst (λ z. kind_of_variable p f z ≡ Some l) same (sym e)))))
      placed_or l ls y ys m n false t e rest h = let r = rest h in let at : n ≡ suc m + r.0 = r.1 in (suc r.0, omega (arith, at), r.2)

      placed : (ls : List Kind) (ys : List ℕ) (m n : ℕ) → map Some ls ≡ map (kind_of_variable p f) ys → place_in x ys m ≡ Some n → IsPlaced ls m n
      placed ls [] m n e h = cc
      placed [] (y ∷ ys) m n e h = cc
      placed (l ∷ ls) (y ∷ ys) m n e h =
          let first : Some l ≡ kind_of_variable p f y = ap (λ ks. item None ks 0) e in
          let rest : map Some ls ≡ map (kind_of_variable p f) ys = ap (drop 1) e in
          placed_or l ls y ys m n (nat_eq x y) refl first (placed ls ys (suc m) n rest) h

      only_one : (l k : Kind) (n : ℕ) → slice_get (l ∷ []) n ≡ Some k → l ≡ k
      only_one l k zero e = some_same e
      only_one l k (suc n) e = cc

      one_kind : (e : Expression) (ls : List Kind) (n : ℕ) → option_map (λ k. k ∷ []) (kind_in p f e) ≡ Some ls → slice_get ls n ≡ Some (variable_given f x) → given p f e ≡ variable_given f x
      one_kind e ls n h there =
          let one = map_gives (λ k. k ∷ []) (kind_in p f e) ls h in
          given_is p f e one.0 one.1 ∙ only_one one.0 (variable_given f x) n (ap (λ l. slice_get l n) one.2 ∙ there)

      right_kind : (e : Expression) (ls : List Kind) (n : ℕ) (xs : List ℕ) (k : Clock) → kinds_given_in p f e ≡ Some ls → slice_get ls n ≡ Some (variable_given f x) → GivesKind x (Some (given_by e n xs k))
      right_kind (call g c args) ls n xs k h there = let made = whole_call p f g c args ls h in output_kind g made.arguments ls n (variable_given f x) made.gives there
      right_kind e ls n xs k h there = one_kind e ls n h there

      equation_kind : (q : Equation) (n : ℕ) → EquationFits p f q → place_in x q.targets 0 ≡ Some n → GivesKind x (Some (given_by q.right n q.targets (equation_clock f q)))
      equation_kind q n h e =
          let kinds = map_gives (map Some) (kinds_given_in p f q.right) (map (kind_of_variable p f) q.targets) h in
          let found = placed kinds.0 q.targets 0 n kinds.2 e in
          let same : found.0 ≡ n = let at : n ≡ 0 + found.0 = found.1 in omega (arith, at) in
          right_kind q.right kinds.0 n q.targets (equation_clock f q) kinds.1 (subst (λ i. slice_get kinds.0 i ≡ Some (variable_given f x)) same found.2)

      kind_or : (q : Equation) (o : Option ℕ) (rest : Option Definition) → ((n : ℕ) → o ≡ Some n → GivesKind x (Some (given_by q.right n q.targets (equation_clock f q)))) → GivesKind x rest
          → GivesKind x (elim o [ None ↦ rest | Some n ↦ Some (given_by q.right n q.targets (equation_clock f q)) ])
      kind_or q None rest h k = k
      kind_or q (Some n) rest h k = h n refl

      pub definition_kind : (qs : List Equation) → Each (EquationFits p f) qs → GivesKind x (definition_in f qs x)
      definition_kind [] h = tt
      definition_kind (q ∷ qs) h = kind_or q (place_in x q.targets 0) (definition_in f qs x) (λ n e. equation_kind q n h.0 e) (definition_kind qs h.1)
