-- Programs that declare the same types and whose nodes take and give the same, with nodes whose variables have the same types, give each
-- expression the same type.
use Rattle.std.proofs.Common.{◌≡◌, ◌∙◌, refl, sym, ap, ℕ, false, List, [], ◌∷◌, length, nat_eq, map, Option, Some, None, IsTrue}
use Rattle.std.proofs.lemmas.Option.{slice_get-map}
use Rattle.std.specs.Prelude.{nat_lt, option_map, slice_get}
use Rattle.std.specs.Option.{option_and_then}
use Rattle.lus_values.specs.declared.operator.Operator.{Operator}
use Rattle.lus_values.specs.declared.test.Test.{Test}
use Rattle.lus_program.specs.declared.types.Kind.{Kind}
use Rattle.lus_program.specs.Programs.{Expression, literal, variable, operate, pre, arrow, when, merge, call, Operands, none, more, Node, Program}
use Rattle.lus_program.specs.Kinds.{all_same, where_true, alike, common_kind, the_one}
use Rattle.lus_program.specs.Resolved.{values_of, operator_kind, input_kinds, output_kinds, call_results, results, kind_of_variable, test_fits, kind_in, kinds_in, kinds_given_in, VariableFits, EquationFits}

-- the types of what a node takes and gives
abbrev pub taken_and_given : Node → List Kind × List Kind
taken_and_given f = (input_kinds f, output_kinds f)

pub record AreAlike (p q : Program) (f g : Node) : Type 0 where
  pub types : p.types ≡ q.types
  pub nodes : map taken_and_given p.nodes ≡ map taken_and_given q.nodes
  pub variables : map (λ v. v.kind) f.variables ≡ map (λ v. v.kind) g.variables

-- what a node of these types gives for arguments of those
abbrev called : List Kind → List Kind × List Kind → Option (List Kind)
called ks n = where_true (all_same n.0 ks) (Some n.1)

called_by : (p : Program) (ks : List Kind) (o : Option Node) → option_and_then (call_results p ks) o ≡ option_and_then (called ks) (option_map taken_and_given o)
called_by p ks None = refl
called_by p ks (Some g) = refl

results_by : (p : Program) (n : ℕ) (ks : List Kind) → results p n ks ≡ option_and_then (called ks) (slice_get (map taken_and_given p.nodes) n)
results_by p n ks = called_by p ks (slice_get p.nodes n) ∙ ap (option_and_then (called ks)) (sym (slice_get-map taken_and_given p.nodes n))

module _ (p q : Program) (f g : Node) (same : AreAlike p q f g) where
  values_alike : (k : Kind) → values_of p k ≡ values_of q k
  values_alike k = ap (λ ts. values_of (record { types = ts; nodes = [] }) k) same.types

  operator_alike : (o : Operator) → operator_kind p o ≡ operator_kind q o
  operator_alike o = ap (λ ts. operator_kind (record { types = ts; nodes = [] }) o) same.types

  results_alike : (n : ℕ) → results p n ≡ results q n
  results_alike n = λ i ks. (results_by p n ks ∙ ap (λ ns. option_and_then (called ks) (slice_get ns n)) same.nodes ∙ sym (results_by q n ks)) i

  variable_alike : (x : ℕ) → kind_of_variable p f x ≡ kind_of_variable q g x
  variable_alike x = sym (slice_get-map (λ v. v.kind) f.variables x) ∙ ap (λ ks. slice_get ks x) same.variables ∙ slice_get-map (λ v. v.kind) g.variables x

  test_alike : (t : Test) → test_fits p f t ≡ test_fits q g t
  test_alike t = λ i. elim (variable_alike t.variable i) [ Some k ↦ nat_lt t.constructor (values_alike k i) | None ↦ false ]

  mutual
    kind_alike : (e : Expression) → kind_in p f e ≡ kind_in q g e
    kind_alike (literal v) = refl
    kind_alike (variable x) = variable_alike x
    kind_alike (operate o es) = λ i. option_and_then (operator_alike o i) (kinds_alike es i)
    kind_alike (pre a) = kind_alike a
    kind_alike (arrow a b) = λ i. option_and_then (λ k. option_and_then (alike k) (kind_alike b i)) (kind_alike a i)
    kind_alike (when t a) = λ i. option_and_then (λ k. where_true (test_alike t i) (Some k)) (kind_alike a i)
    kind_alike (merge x bs) = λ i. option_and_then (λ ks. option_and_then (λ k. where_true (nat_eq (length ks) (values_alike k i)) (common_kind ks)) (variable_alike x i)) (kinds_alike bs i)
    kind_alike (call n c es) = λ i. option_and_then (λ ks. option_and_then the_one (results_alike n i ks)) (kinds_alike es i)

    kinds_alike : (es : Operands) → kinds_in p f es ≡ kinds_in q g es
    kinds_alike none = refl
    kinds_alike (more e es) = λ i. option_and_then (λ k. option_map (λ ks. k ∷ ks) (kinds_alike es i)) (kind_alike e i)

  given_alike : (e : Expression) → kinds_given_in p f e ≡ kinds_given_in q g e
  given_alike (call n c es) = λ i. option_and_then (results_alike n i) (kinds_alike es i)
  given_alike e = ap (option_map (λ k. k ∷ [])) (kind_alike e)

  pub equations_alike : EquationFits p f ≡ EquationFits q g
  equations_alike = λ i e. option_map (map Some) (given_alike e.right i) ≡ Some (map (λ x. variable_alike x i) e.targets)

  pub variables_alike : VariableFits p f ≡ VariableFits q g
  variables_alike = λ i v. elim v.test [ None ↦ Unit {0} | Some t ↦ IsTrue (test_alike t i) ]
