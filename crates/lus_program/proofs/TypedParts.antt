-- The parts of an expression of a program that has a type have types.
use Rattle.std.proofs.Common.{arith, ◌≡◌, ◌∙◌, sym, ap, ℕ, ◌<◌, true, List, [], ◌∷◌, length, map, Some}
use Rattle.std.proofs.Math.ListN.{length-map}
use Rattle.std.specs.Prelude.{option_map}
use Rattle.std.specs.Option.{option_and_then}
use Rattle.lus_values.specs.declared.operator.Operator.{Operator}
use Rattle.lus_values.specs.declared.test.Test.{Test}
use Rattle.lus_program.specs.declared.types.Kind.{Kind}
use Rattle.lus_program.specs.Programs.{Expression, variable, operate, arrow, when, merge, call, Operands, more, Equation, Node, Program}
use Rattle.lus_program.specs.Kinds.{where_true, alike, the_one}
use Rattle.lus_program.specs.Resolved.{operator_kind, results, kind_of_variable, test_fits, merged, kind_in, kinds_in, kinds_given_in, EquationFits}
use Rattle.lus_program.proofs.Options.{and_then_gives, map_gives, where_true_gives}

one_some : (ks : List Kind) (k : Kind) → the_one ks ≡ Some k → 0 < length ks
one_some [] k e = cc
one_some (l ∷ ks) k e = omega arith

module _ (p : Program) (f : Node) where
  abbrev pub HasKind : Expression → Type 0
  HasKind e = (k : Kind) × (kind_in p f e ≡ Some k)

  abbrev pub HaveKinds : Operands → Type 0
  HaveKinds es = (ks : List Kind) × (kinds_in p f es ≡ Some ks)

  -- a call of node g that gives these types
  pub record IsCall (g : ℕ) (es : Operands) (ls : List Kind) : Type 0 where
    pub arguments : List Kind
    pub have : kinds_in p f es ≡ Some arguments
    pub gives : results p g arguments ≡ Some ls

  pub operate_typed : (o : Operator) (es : Operands) → HasKind (operate o es) → HaveKinds es
  operate_typed o es h = let given = and_then_gives (operator_kind p o) (kinds_in p f es) h.0 h.1 in (given.0, given.1)

  -- of `->`
  pub both_typed : (a b : Expression) → HasKind (arrow a b) → HasKind a × HasKind b
  both_typed a b h =
      let first = and_then_gives (λ k. option_and_then (alike k) (kind_in p f b)) (kind_in p f a) h.0 h.1 in
      let last = and_then_gives (alike first.0) (kind_in p f b) h.0 first.2 in
      ((first.0, first.1), (last.0, last.1))

  pub when_typed : (t : Test) (a : Expression) → HasKind (when t a) → (test_fits p f t ≡ true) × HasKind a
  when_typed t a h =
      let given = and_then_gives (λ k. where_true (test_fits p f t) (Some k)) (kind_in p f a) h.0 h.1 in
      let fits = where_true_gives (test_fits p f t) (Some given.0) h.0 given.2 in
      (fits.0, (given.0, given.1))

  pub merge_typed : (x : ℕ) (bs : Operands) → HasKind (merge x bs) → HasKind (variable x) × HaveKinds bs
  merge_typed x bs h =
      let given = and_then_gives (λ ks. option_and_then (merged p f ks) (kind_of_variable p f x)) (kinds_in p f bs) h.0 h.1 in
      let tested = and_then_gives (merged p f given.0) (kind_of_variable p f x) h.0 given.2 in
      ((tested.0, tested.1), (given.0, given.1))

  -- a call among others gives one type
  pub call_typed : (g c : ℕ) (es : Operands) → HasKind (call g c es) → (ls : List Kind) × (0 < length ls) × IsCall g es ls
  call_typed g c es h =
      let given = and_then_gives (λ ks. option_and_then the_one (results p g ks)) (kinds_in p f es) h.0 h.1 in
      let one = and_then_gives the_one (results p g given.0) h.0 given.2 in
      (one.0, one_some one.0 h.0 one.2, record { arguments = given.0; have = given.1; gives = one.1 })

  pub more_typed : (e : Expression) (es : Operands) → HaveKinds (more e es) → HasKind e × HaveKinds es
  more_typed e es h =
      let first = and_then_gives (λ k. option_map (λ ks. k ∷ ks) (kinds_in p f es)) (kind_in p f e) h.0 h.1 in
      let rest = map_gives (λ ks. first.0 ∷ ks) (kinds_in p f es) h.0 first.2 in
      ((first.0, first.1), (rest.0, rest.1))

  -- whole right sides
  pub whole_call : (g c : ℕ) (es : Operands) (ls : List Kind) → kinds_given_in p f (call g c es) ≡ Some ls → IsCall g es ls
  whole_call g c es ls h = let given = and_then_gives (results p g) (kinds_in p f es) ls h in record { arguments = given.0; have = given.1; gives = given.2 }

  pub whole_typed : (e : Expression) (ls : List Kind) → option_map (λ k. k ∷ []) (kind_in p f e) ≡ Some ls → HasKind e
  whole_typed e ls h = let given = map_gives (λ k. k ∷ []) (kind_in p f e) ls h in (given.0, given.1)

  -- the types that a right side gives, one for each variable on the left
  pub record HasGiven (q : Equation) : Type 0 where
    pub kinds : List Kind
    pub given : kinds_given_in p f q.right ≡ Some kinds
    pub size : length kinds ≡ length q.targets

  pub fits_given : (q : Equation) → EquationFits p f q → HasGiven q
  fits_given q h =
      let given = map_gives (map Some) (kinds_given_in p f q.right) (map (kind_of_variable p f) q.targets) h in
      record {
        kinds = given.0;
        given = given.1;
        size = sym (length-map given.0 Some) ∙ ap length given.2 ∙ length-map q.targets (kind_of_variable p f);
      }
