-- Operators give values of their types on operands of theirs.
use Rattle.std.proofs.Common.{◌≡◌, ℕ, zero, suc, Bool, true, false, cond, List, [], ◌∷◌, Option, Some, None, refl, sym, subst, IsTrue, true≢false, if◌then◌else◌}
use Rattle.std.specs.Option.{option_and_then, option_map}
use Rattle.std.specs.Prelude.{slice_get}
use Rattle.lus_values.specs.declared.operator.Operator.{Operator}
use Rattle.lus_values.specs.declared.operator.Operator.TheVariants as operators
use Rattle.lus_values.specs.Values.{Value, bool, int, enum, struct, nil, Fields, end, field, fields_of}
use Rattle.lus_values.specs.Operators.{one_int, two_ints, one_bool, two_bools, two_values, count_true, Rule, of_int, of_ints, comparing, of_bool, of_bools, of_alike, counting, rule, computed, shape_of, shape, choose, field_at, project, is_nil, any_nil, give, apply}
use Rattle.lus_values.proofs.Equalities.{and_left, and_right, and_true}
use Rattle.lus_program.specs.declared.types.Kind.{Kind}
use Rattle.lus_program.specs.declared.types.Kind.TheVariants as kinds
use Rattle.lus_program.specs.Programs.{Program}
use Rattle.lus_program.specs.Kinds.{same, all_same, alike}
use Rattle.lus_program.specs.Resolved.{takes, shape_kind, operation_kind, if_kind, field_kinds, projected, operator_kind}
use Rattle.lus_program.proofs.Options.{where_true_gives, same_is, all_same_is}
use Rattle.lus_typed_streams.specs.Types.{Constructors, is_of_type, are_of_types, HasType}

pub some_same : {X : Type 0} {x y : X} → Some x ≡ Some y → x ≡ y
some_same e = cc

module _ (p : Program) (constructors : Constructors) where
  -- operands of these types, of which none is nil
  abbrev AreOf : List Kind → List Value → Type 0
  AreOf [] [] = Unit {0}
  AreOf (k ∷ ks) (v ∷ vs) = IsTrue (is_of_type p constructors k v) × AreOf ks vs
  AreOf _ _ = ⊥

  -- operands of these types, or nil
  abbrev pub HaveOperandTypes : List Kind → List Value → Type 0
  HaveOperandTypes [] [] = Unit {0}
  HaveOperandTypes (k ∷ ks) (v ∷ vs) = HasType p constructors k (Some v) × HaveOperandTypes ks vs
  HaveOperandTypes _ _ = ⊥

  pub of_type : (k : Kind) (v : Value) → is_of_type p constructors k v ≡ true → HasType p constructors k (Some v)
  of_type k nil h = refl
  of_type k (bool b) h = h
  of_type k (int z) h = h
  of_type k (enum t c) h = h
  of_type k (struct fs) h = h

  then_typed : {A : Type 0} (k : Kind) (f : A → Option Value) → ((a : A) → HasType p constructors k (f a)) → (o : Option A) → HasType p constructors k (option_and_then f o)
  then_typed k f h None = tt
  then_typed k f h (Some a) = h a

  map_typed : {A : Type 0} (k : Kind) (f : A → Value) → ((a : A) → HasType p constructors k (Some (f a))) → (o : Option A) → HasType p constructors k (option_map f o)
  map_typed k f h None = tt
  map_typed k f h (Some a) = h a

  computed_typed : (r : Rule) (vs : List Value) → HasType p constructors (shape_kind (shape_of r)) (computed r vs)
  computed_typed (of_int f) vs = then_typed kinds.Int (λ a. option_map int (f a)) (λ a. map_typed kinds.Int int (λ z. refl) (f a)) (one_int vs)
  computed_typed (of_ints f) vs = then_typed kinds.Int (λ q. option_map int (f q.0 q.1)) (λ q. map_typed kinds.Int int (λ z. refl) (f q.0 q.1)) (two_ints vs)
  computed_typed (comparing f) vs = map_typed kinds.Bool (λ q. bool (f q.0 q.1)) (λ q. refl) (two_ints vs)
  computed_typed (of_bool f) vs = map_typed kinds.Bool (λ a. bool (f a)) (λ a. refl) (one_bool vs)
  computed_typed (of_bools f) vs = map_typed kinds.Bool (λ q. bool (f q.0 q.1)) (λ q. refl) (two_bools vs)
  computed_typed (of_alike f) vs = map_typed kinds.Bool (λ q. bool (f q.0 q.1)) (λ q. refl) (two_values vs)
  computed_typed (counting f) vs = map_typed kinds.Bool (λ n. bool (f n)) (λ n. refl) (count_true vs)

  if_typed : (b : Bool) (k : Kind) (v w : Value) → HasType p constructors k (Some v) → HasType p constructors k (Some w) → HasType p constructors k (Some (if b then v else w))
  if_typed true k v w h i = h
  if_typed false k v w h i = i

  choose_typed : (ks : List Kind) (k : Kind) (vs : List Value) → if_kind ks ≡ Some k → AreOf ks vs → HasType p constructors k (choose vs)
  choose_typed (c ∷ k ∷ l ∷ []) m (bool b ∷ v ∷ w ∷ []) e h =
      let alikes = where_true_gives (same kinds.Bool c) (alike k l) m e in
      let one = where_true_gives (same k l) (Some k) m alikes.1 in
      let first : k ≡ m = some_same one.1 in
      let both : k ≡ l = same_is k l one.0 in
      subst (λ n. HasType p constructors n (Some (if b then v else w))) first
      (if_typed b k v w (of_type k v h.1.0) (subst (λ n. HasType p constructors n (Some w)) (sym both) (of_type l w h.1.1.0)))
  choose_typed (c ∷ k ∷ l ∷ []) m _ e h = tt
  choose_typed [] m vs e h = cc
  choose_typed (c ∷ []) m vs e h = cc
  choose_typed (c ∷ k ∷ []) m vs e h = cc
  choose_typed (c ∷ k ∷ l ∷ n ∷ ks) m vs e h = cc

  fields_typed : (ks : List Kind) (vs : List Value) → AreOf ks vs → are_of_types p constructors ks (fields_of vs) ≡ true
  fields_typed [] [] h = refl
  fields_typed [] (v ∷ vs) h = absurd h
  fields_typed (k ∷ ks) [] h = absurd h
  fields_typed (k ∷ ks) (v ∷ vs) h = and_true (is_of_type p constructors k v) (are_of_types p constructors ks (fields_of vs)) h.0 (fields_typed ks vs h.1)

  field_typed : (ks : List Kind) (fs : Fields) (n : ℕ) (k : Kind) → are_of_types p constructors ks fs ≡ true → slice_get ks n ≡ Some k → HasType p constructors k (field_at fs n)
  field_typed [] fs n k h e = cc
  field_typed (l ∷ ks) end n k h e = tt
  field_typed (l ∷ ks) (field v fs) zero k h e = of_type k v (subst (λ m. is_of_type p constructors m v ≡ true) (some_same e) (and_left (is_of_type p constructors l v) (are_of_types p constructors ks fs) h))
  field_typed (l ∷ ks) (field v fs) (suc n) k h e = field_typed ks fs n k (and_right (is_of_type p constructors l v) (are_of_types p constructors ks fs) h) e

  structure_typed : (l : Kind) (fs : Fields) (n : ℕ) (k : Kind) → is_of_type p constructors l (struct fs) ≡ true → slice_get (field_kinds p l) n ≡ Some k → HasType p constructors k (field_at fs n)
  structure_typed (kinds.Struct t) fs n k h e = field_typed (field_kinds p (kinds.Struct t)) fs n k h e
  structure_typed _ fs n k h e = absurd (true≢false (sym h))

  project_typed : (n : ℕ) (ks : List Kind) (k : Kind) (vs : List Value) → projected p n ks ≡ Some k → AreOf ks vs → HasType p constructors k (project n vs)
  project_typed n (l ∷ []) k (struct fs ∷ []) e h = structure_typed l fs n k h.0 e
  project_typed n (l ∷ []) k _ e h = tt
  project_typed n [] k vs e h = cc
  project_typed n (l ∷ m ∷ ks) k vs e h = cc

  give_typed : (o : Operator) (ks : List Kind) (k : Kind) (vs : List Value) → operator_kind p o ks ≡ Some k → AreOf ks vs → HasType p constructors k (give o vs)
  give_typed (operators.Compute op) ks k vs e h =
      subst (λ l. HasType p constructors l (computed (rule op) vs)) (some_same (where_true_gives (takes (shape op) ks) (Some (operation_kind op)) k e).1) (computed_typed (rule op) vs)
  give_typed operators.If ks k vs e h = choose_typed ks k vs e h
  give_typed (operators.Structure t) ks k vs e h =
      let made = where_true_gives (all_same (field_kinds p (kinds.Struct t)) ks) (Some (kinds.Struct t)) k e in
      let are : field_kinds p (kinds.Struct t) ≡ ks = all_same_is (field_kinds p (kinds.Struct t)) ks made.0 in
      subst (λ l. HasType p constructors l (Some (struct (fields_of vs)))) (some_same made.1)
      (subst (λ ls. are_of_types p constructors ls (fields_of vs) ≡ true) (sym are) (fields_typed ks vs h))
  give_typed (operators.Field n) ks k vs e h = project_typed n ks k vs e h

  not_nil : (k : Kind) (v : Value) → is_nil v ≡ false → HasType p constructors k (Some v) → is_of_type p constructors k v ≡ true
  not_nil k nil e h = absurd (true≢false e)
  not_nil k (bool b) e h = h
  not_nil k (int z) e h = h
  not_nil k (enum t c) e h = h
  not_nil k (struct fs) e h = h

  none_nil : (v : Value) (vs : List Value) → any_nil (v ∷ vs) ≡ false → (is_nil v ≡ false) × (any_nil vs ≡ false)
  none_nil nil vs e = absurd (true≢false e)
  none_nil (bool b) vs e = (refl, e)
  none_nil (int z) vs e = (refl, e)
  none_nil (enum t c) vs e = (refl, e)
  none_nil (struct fs) vs e = (refl, e)

  are_of : (ks : List Kind) (vs : List Value) → any_nil vs ≡ false → HaveOperandTypes ks vs → AreOf ks vs
  are_of [] [] e h = tt
  are_of [] (v ∷ vs) e h = h
  are_of (k ∷ ks) [] e h = h
  are_of (k ∷ ks) (v ∷ vs) e h = let none = none_nil v vs e in (not_nil k v none.0 h.0, are_of ks vs none.1 h.1)

  either_typed : (b : Bool) (o : Operator) (k : Kind) (vs : List Value) → (b ≡ false → HasType p constructors k (give o vs)) → HasType p constructors k (cond b (Some nil) (give o vs))
  either_typed true o k vs h = refl
  either_typed false o k vs h = h refl

  -- nil where an operand is
  pub apply_typed : (o : Operator) (ks : List Kind) (k : Kind) (vs : List Value) → operator_kind p o ks ≡ Some k → HaveOperandTypes ks vs → HasType p constructors k (apply o vs)
  apply_typed o ks k vs e h = either_typed (any_nil vs) o k vs (λ none. give_typed o ks k vs e (are_of ks vs none h))
