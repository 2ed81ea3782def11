-- Streams of a resolved program for inputs of its types.
use Rattle.std.proofs.Common.{◌≡◌, ℕ, true, nat_eq, List, [], ◌∷◌, map, take, Option, Some, None, refl, sym, subst, IsTrue, true≢false}
use Rattle.lus_values.specs.Lists.{Each}
use Rattle.lus_values.specs.Values.{Value, bool, int, enum, struct, Fields, end, field, Row}
use Rattle.lus_values.proofs.Equalities.{and_left, and_right, and_true}
use Rattle.lus_program.specs.declared.types.Kind.{Kind}
use Rattle.lus_program.specs.declared.types.Kind.TheVariants as kinds
use Rattle.lus_program.specs.Programs.{Expression, literal, Node, Program, node_at}
use Rattle.lus_program.specs.Resolved.{EquationFits, NodeResolved, Resolved, field_kinds, input_kinds, kind_in}
use Rattle.lus_program.proofs.KindsGiven.{given_is}
use Rattle.lus_streams.specs.Clocks.{Clock, Part, at}
use Rattle.lus_streams.specs.Equations.{node_parts}
use Rattle.lus_streams.specs.Order.{IsCausal}
use Rattle.lus_streams.specs.Streams.{Instant, World, row_of, value, Streams}
use Rattle.lus_streams.proofs.Lists.{each_all, each_implies}
use Rattle.lus_typed_streams.specs.Types.{Constructors, declares, any_number, is_of_type, are_of_types, HasType, HaveTypes, entry_fits, row_fits, has_shape}
use Rattle.lus_typed_streams.specs.Laws.{IsLiteralOf, HasLiteralsOf, PartHasType, TypesHoldOver, InputsHaveTypes, StreamsHaveTypes, StreamsHaveDeclaredTypes}
use Rattle.lus_typed_streams.proofs.Operators.{of_type}
use Rattle.lus_typed_streams.proofs.LiteralParts.{declared_literals}
use Rattle.lus_typed_streams.proofs.Worlds.{values_have_types}

-- where all declared constructors count
module _ (p : Program) (constructors : Constructors) (all : (t c : ℕ) → declares p t c ≡ true → constructors t c ≡ true) where
  mutual
    is_still : (k : Kind) (v : Value) → is_of_type p (declares p) k v ≡ true → is_of_type p constructors k v ≡ true
    is_still kinds.Bool (bool b) h = h
    is_still kinds.Int (int z) h = h
    is_still (kinds.Enum t) (enum u c) h = and_true (nat_eq u t) (constructors t c) (and_left (nat_eq u t) (declares p t c) h) (all t c (and_right (nat_eq u t) (declares p t c) h))
    is_still (kinds.Struct t) (struct fs) h = are_still (field_kinds p (kinds.Struct t)) fs h
    is_still _ _ h = h

    are_still : (ks : List Kind) (fs : Fields) → are_of_types p (declares p) ks fs ≡ true → are_of_types p constructors ks fs ≡ true
    are_still [] end h = h
    are_still (k ∷ ks) (field v fs) h =
        and_true (is_of_type p constructors k v) (are_of_types p constructors ks fs)
        (is_still k v (and_left (is_of_type p (declares p) k v) (are_of_types p (declares p) ks fs) h))
        (are_still ks fs (and_right (is_of_type p (declares p) k v) (are_of_types p (declares p) ks fs) h))
    are_still _ _ h = h

  entry_typed : (k : Kind) (e : Option Value) → entry_fits p k e ≡ true → HasType p constructors k e
  entry_typed k None h = tt
  entry_typed k (Some v) h = of_type p constructors k v (is_still k v h)

  -- a row that fits has the types
  pub row_typed : (ks : List Kind) (r : Row) → row_fits p ks r ≡ true → HaveTypes p constructors ks r
  row_typed [] [] h = tt
  row_typed [] (e ∷ r) h = absurd (true≢false (sym h))
  row_typed (k ∷ ks) [] h = absurd (true≢false (sym h))
  row_typed (k ∷ ks) (e ∷ r) h = (entry_typed k e (and_left (entry_fits p k e) (row_fits p ks r) h), row_typed ks r (and_right (entry_fits p k e) (row_fits p ks r) h))

  pub inputs_typed : (f : ℕ) (w : World) → Each (λ r. IsTrue (has_shape p f r)) (map (λ i. take (node_at p f).inputs (row_of i)) w) → Each (InputsHaveTypes p constructors f) w
  inputs_typed f [] h = tt
  inputs_typed f (i ∷ w) h = (row_typed (input_kinds (node_at p f)) (take (node_at p f).inputs (row_of i)) h.0, inputs_typed f w h.1)

  streams_typed : Resolved p → IsCausal p → HasLiteralsOf p constructors → (f : ℕ) (lineage : List Row) (w : World) → Streams p f lineage w → Each (λ r. IsTrue (has_shape p f r)) lineage → TypesHoldOver p constructors f w
  streams_typed resolved causal literals f lineage w s shapes =
      values_have_types p constructors (each_implies (NodeResolved p) (λ g. Each (EquationFits p g) g.equations) (λ g r. r.equations) p.nodes resolved.nodes) literals causal f w s.satisfied
      (inputs_typed f w (subst (Each (λ r. IsTrue (has_shape p f r))) (sym s.rows) shapes))

any_literal : (e : Part) → IsLiteralOf any_number e
any_literal (at k (literal (enum t c))) = refl
any_literal (at k _) = tt

-- any number will do for each program
pub any_literals : (p : Program) → HasLiteralsOf p any_number
any_literals p = each_all (λ f. Each (IsLiteralOf any_number) (node_parts p f)) (λ f. each_all (IsLiteralOf any_number) any_literal (node_parts p f)) p.nodes

pub streams_have_types : StreamsHaveTypes
streams_have_types p resolved causal = streams_typed p any_number (λ t c e. refl) resolved causal (any_literals p)

pub streams_have_declared_types : StreamsHaveDeclaredTypes
streams_have_declared_types p resolved literals causal = streams_typed p (declares p) (λ t c e. e) resolved causal (declared_literals p literals)

-- what has a kind by the tests of types has that type
pub kind_typed : (p : Program) (constructors : Constructors) (f : Node) (now : Instant) (past : World) (e : Expression) (k : Clock) (l : Kind) → kind_in p f e ≡ Some l → PartHasType p constructors f now past (at k e)
    → HasType p constructors l (value p e k now past)
kind_typed p constructors f now past e k l h typed = subst (λ m. HasType p constructors m (value p e k now past)) (given_is p f e l h) typed
