-- Equality and `if` of structures, word by word.
use Rattle.std.proofs.Common.{None, List, arith, ◌≡◌, ◌∙◌, refl, sym, ap, ap₂, subst, ℕ, zero, suc, ◌≤◌, Bool, true, false, ◌||◌, [], ◌∷◌, length, replicate, Option, Some, if◌then◌else◌, true≢false, ◌+◌, ◌++◌, map, option_map}
use Rattle.std.proofs.lemmas.List.{length-append}
use Rattle.lus_values.proofs.Equalities.{same_tells}
use Rattle.lus_values.proofs.Lists.{each_append}
use Rattle.lus_words.proofs.Slices.{structures_are_joined}
use Rattle.lus_program.specs.Resolved.{field_kinds}
use Rattle.lus_values.specs.Lists.{Each, item}
use Rattle.lus_values.specs.Operators.{is_nil, give, apply, any_nil}
use Rattle.lus_values.specs.Values.{Value, bool, int, enum, struct, nil, Row}
use Rattle.lus_values.specs.declared.operator.Op.TheVariants as ops
use Rattle.lus_values.specs.declared.operator.Operator.{Operator}
use Rattle.lus_values.specs.declared.operator.Operator.TheVariants as operators
use Rattle.lus_program.specs.declared.types.Kind.{Kind}
use Rattle.lus_program.specs.declared.types.Kind.TheVariants as kinds
use Rattle.lus_program.specs.Programs.{Program}
use Rattle.lus_streams.proofs.Lists.{each_implies}
use Rattle.lus_typed_streams.specs.Types.{Constructors, is_of_type, HasType, HaveTypes}
use Rattle.lus_words.specs.Encoded.{words, encode, same_entry, same_words, joined}
use Rattle.lus_words.specs.Layouts.{Layout, size, IsLayout, Layouts, done, next, sizes, AreLayouts}
use Rattle.lus_words.specs.Operations.{both, either, each_either, all_equal, EqualByWords, IfByWords, firsts, HavePlaces, StructuresByWords}
use Rattle.lus_words.proofs.Alike.{same_as_words}
use Rattle.lus_words.proofs.Sizes.{words_long}
use Rattle.lus_words.proofs.Typed.{IsReal, no_nil, of_entry, words_nil, words_real}

abbrev HasSome : Option Value → Type 0
HasSome e = (v : Value) × (e ≡ Some v)

real_some : (r : Row) → Each IsReal r → Each HasSome r
real_some r h = each_implies IsReal HasSome (λ e g. (g.value, g.is)) r h

nil_some : (n : ℕ) → Each HasSome (replicate n (Some nil))
nil_some zero = tt
nil_some (suc n) = ((nil, refl), nil_some n)

-- two values that aren't nil
two_real : (o : Operator) (a b : Value) → is_nil a ≡ false → is_nil b ≡ false → apply o (a ∷ b ∷ []) ≡ give o (a ∷ b ∷ [])
two_real o a b h k = ap (λ n. if n || (is_nil b || false) then Some nil else give o (a ∷ b ∷ [])) h ∙ ap (λ n. if n || false then Some nil else give o (a ∷ b ∷ [])) k

last_nil : (o : Operator) (a : Value) → is_nil a ≡ false → apply o (a ∷ nil ∷ []) ≡ Some nil
last_nil o a h = ap (λ n. if n || true then Some nil else give o (a ∷ nil ∷ [])) h

three_real : (c : Bool) (a b : Value) → is_nil a ≡ false → is_nil b ≡ false → apply operators.If (bool c ∷ a ∷ b ∷ []) ≡ Some (if c then a else b)
three_real c a b h k =
    ap (λ n. if n || (is_nil b || false) then Some nil else Some (if c then a else b)) h ∙ ap (λ n. if n || false then Some nil else Some (if c then a else b)) k

three_last_nil : (c : Bool) (a : Value) → is_nil a ≡ false → apply operators.If (bool c ∷ a ∷ nil ∷ []) ≡ Some nil
three_last_nil c a h = ap (λ n. if n || true then Some nil else Some (if c then a else nil)) h

-- equality

equal_real : (x y : Option Value) → IsReal x → IsReal y → both (operators.Compute ops.Equal) x y ≡ Some (bool (same_entry x y))
equal_real x y h k =
    ap₂ (both (operators.Compute ops.Equal)) h.is k.is ∙ two_real (operators.Compute ops.Equal) h.value k.value h.real k.real ∙ ap (λ b. Some (bool b)) (sym (ap₂ same_entry h.is k.is))

all_equal_real : (r t : Row) → Each IsReal r → Each IsReal t → length r ≡ length t → all_equal r t ≡ Some (bool (same_words r t))
all_equal_real [] [] h k e = refl
all_equal_real [] (y ∷ t) h k e = absurd (omega (arith, e))
all_equal_real (x ∷ r) [] h k e = absurd (omega (arith, e))
all_equal_real (x ∷ r) (y ∷ t) h k e = ap₂ (both (operators.Compute ops.And)) (equal_real x y h.0 k.0) (all_equal_real r t h.1 k.1 (omega (arith, e)))

-- where the first is nil, or only the second
nil_and : (o : Option Value) → HasSome o → both (operators.Compute ops.And) (Some nil) o ≡ Some nil
nil_and o h = ap (both (operators.Compute ops.And) (Some nil)) h.1

equal_nil : (y : Option Value) → HasSome y → both (operators.Compute ops.Equal) (Some nil) y ≡ Some nil
equal_nil y h = ap (both (operators.Compute ops.Equal) (Some nil)) h.1

all_equal_nil : (n : ℕ) (t : Row) → length t ≡ n → Each HasSome t → HasSome (all_equal (replicate n (Some nil)) t) × (1 ≤ n → all_equal (replicate n (Some nil)) t ≡ Some nil)
all_equal_nil zero [] e h = ((bool true, refl), λ some. absurd (omega (arith, some)))
all_equal_nil zero (y ∷ t) e h = absurd (omega (arith, e))
all_equal_nil (suc n) [] e h = absurd (omega (arith, e))
all_equal_nil (suc n) (y ∷ t) e h =
    let rest = all_equal_nil n t (omega (arith, e)) h.1 in
    let is = ap (λ o. both (operators.Compute ops.And) o (all_equal (replicate n (Some nil)) t)) (equal_nil y h.0) ∙ nil_and (all_equal (replicate n (Some nil)) t) rest.0 in
    ((nil, is), λ some. is)

last_equal_nil : (x : Option Value) → IsReal x → both (operators.Compute ops.Equal) x (Some nil) ≡ Some nil
last_equal_nil x h = ap (λ o. both (operators.Compute ops.Equal) o (Some nil)) h.is ∙ last_nil (operators.Compute ops.Equal) h.value h.real

all_last_nil : (n : ℕ) (r : Row) → length r ≡ n → Each IsReal r → HasSome (all_equal r (replicate n (Some nil))) × (1 ≤ n → all_equal r (replicate n (Some nil)) ≡ Some nil)
all_last_nil zero [] e h = ((bool true, refl), λ some. absurd (omega (arith, some)))
all_last_nil zero (x ∷ r) e h = absurd (omega (arith, e))
all_last_nil (suc n) [] e h = absurd (omega (arith, e))
all_last_nil (suc n) (x ∷ r) e h =
    let rest = all_last_nil n r (omega (arith, e)) h.1 in
    let is = ap (λ o. both (operators.Compute ops.And) o (all_equal r (replicate n (Some nil)))) (last_equal_nil x h.0) ∙ nil_and (all_equal r (replicate n (Some nil))) rest.0 in
    ((nil, is), λ some. is)

-- `if`

either_nil : (x y : Option Value) → HasSome x → HasSome y → either nil x y ≡ Some nil
either_nil x y h k = ap₂ (either nil) h.1 k.1

each_nil : (n : ℕ) (r t : Row) → length r ≡ n → length t ≡ n → Each HasSome r → Each HasSome t → each_either nil r t ≡ replicate n (Some nil)
each_nil zero [] t e d h k = refl
each_nil zero (x ∷ r) t e d h k = absurd (omega (arith, e))
each_nil (suc n) [] t e d h k = absurd (omega (arith, e))
each_nil (suc n) (x ∷ r) [] e d h k = absurd (omega (arith, d))
each_nil (suc n) (x ∷ r) (y ∷ t) e d h k = ap₂ ◌∷◌ (either_nil x y h.0 k.0) (each_nil n r t (omega (arith, e)) (omega (arith, d)) h.1 k.1)

each_first_nil : (c : Bool) (n : ℕ) (t : Row) → length t ≡ n → Each HasSome t → each_either (bool c) (replicate n (Some nil)) t ≡ replicate n (Some nil)
each_first_nil c zero t e h = refl
each_first_nil c (suc n) [] e h = absurd (omega (arith, e))
each_first_nil c (suc n) (y ∷ t) e h = ap₂ ◌∷◌ (ap (either (bool c) (Some nil)) h.0.1) (each_first_nil c n t (omega (arith, e)) h.1)

each_last_nil : (c : Bool) (n : ℕ) (r : Row) → length r ≡ n → Each IsReal r → each_either (bool c) r (replicate n (Some nil)) ≡ replicate n (Some nil)
each_last_nil c zero [] e h = refl
each_last_nil c zero (x ∷ r) e h = absurd (omega (arith, e))
each_last_nil c (suc n) [] e h = absurd (omega (arith, e))
each_last_nil c (suc n) (x ∷ r) e h =
    ap₂ ◌∷◌ (ap (λ o. either (bool c) o (Some nil)) h.0.is ∙ three_last_nil c h.0.value h.0.real) (each_last_nil c n r (omega (arith, e)) h.1)

either_real : (c : Bool) (x y : Option Value) → IsReal x → IsReal y → either (bool c) x y ≡ (if c then x else y)
either_real true x y h k = ap₂ (either (bool true)) h.is k.is ∙ three_real true h.value k.value h.real k.real ∙ sym h.is
either_real false x y h k = ap₂ (either (bool false)) h.is k.is ∙ three_real false h.value k.value h.real k.real ∙ sym k.is

each_real : (c : Bool) (r t : Row) → length r ≡ length t → Each IsReal r → Each IsReal t → each_either (bool c) r t ≡ (if c then r else t)
each_real true [] [] e h k = refl
each_real false [] [] e h k = refl
each_real c [] (y ∷ t) e h k = absurd (omega (arith, e))
each_real c (x ∷ r) [] e h k = absurd (omega (arith, e))
each_real true (x ∷ r) (y ∷ t) e h k = ap₂ ◌∷◌ (either_real true x y h.0 k.0) (each_real true r t (omega (arith, e)) h.1 k.1)
each_real false (x ∷ r) (y ∷ t) e h k = ap₂ ◌∷◌ (either_real false x y h.0 k.0) (each_real false r t (omega (arith, e)) h.1 k.1)

module _ (p : Program) (constructors : Constructors) (k : Kind) (l : Layout) (is : IsLayout p k l) where
  of_words : (v : Value) → HasType p constructors k (Some v) → Each HasSome (words l v)
  of_words v h = of_entry p constructors (λ u. Each HasSome (words l u)) k (subst (Each HasSome) (sym (words_nil l)) (nil_some (size l))) (λ u of. real_some (words l u) (words_real p constructors k l is u of)) v h

  equal_words : 1 ≤ size l → (v w : Value) → HasType p constructors k (Some v) → HasType p constructors k (Some w) → apply (operators.Compute ops.Equal) (v ∷ w ∷ []) ≡ all_equal (words l v) (words l w)
  equal_words some v w h g =
      of_entry p constructors (λ u. apply (operators.Compute ops.Equal) (u ∷ w ∷ []) ≡ all_equal (words l u) (words l w)) k
      (sym (ap (λ r. all_equal r (words l w)) (words_nil l) ∙ (all_equal_nil (size l) (words l w) (words_long l w) (of_words w g)).1 some))
      (λ u of. of_entry p constructors (λ y. apply (operators.Compute ops.Equal) (u ∷ y ∷ []) ≡ all_equal (words l u) (words l y)) k
      (last_nil (operators.Compute ops.Equal) u (no_nil p constructors k u of) ∙ sym (ap (all_equal (words l u)) (words_nil l) ∙ (all_last_nil (size l) (words l u) (words_long l u) (words_real p constructors k l is u of)).1 some))
      (λ y also. two_real (operators.Compute ops.Equal) u y (no_nil p constructors k u of) (no_nil p constructors k y also) ∙ ap (λ b. Some (bool b)) (same_as_words p constructors k l is u y of also)
      ∙ sym (all_equal_real (words l u) (words l y) (words_real p constructors k l is u of) (words_real p constructors k l is y also) (words_long l u ∙ sym (words_long l y))))
      w g)
      v h

  chosen_words : (c : Bool) (v w : Value) → words l (if c then v else w) ≡ (if c then words l v else words l w)
  chosen_words true v w = refl
  chosen_words false v w = refl

  if_words : (c : Bool) (v w : Value) → HasType p constructors k (Some v) → HasType p constructors k (Some w) → encode l (apply operators.If (bool c ∷ v ∷ w ∷ [])) ≡ each_either (bool c) (words l v) (words l w)
  if_words c v w h g =
      of_entry p constructors (λ u. encode l (apply operators.If (bool c ∷ u ∷ w ∷ [])) ≡ each_either (bool c) (words l u) (words l w)) k
      (words_nil l ∙ sym (ap (λ r. each_either (bool c) r (words l w)) (words_nil l) ∙ each_first_nil c (size l) (words l w) (words_long l w) (of_words w g)))
      (λ u of. of_entry p constructors (λ y. encode l (apply operators.If (bool c ∷ u ∷ y ∷ [])) ≡ each_either (bool c) (words l u) (words l y)) k
      (ap (encode l) (three_last_nil c u (no_nil p constructors k u of)) ∙ words_nil l
      ∙ sym (ap (each_either (bool c) (words l u)) (words_nil l) ∙ each_last_nil c (size l) (words l u) (words_long l u) (words_real p constructors k l is u of)))
      (λ y also. ap (encode l) (three_real c u y (no_nil p constructors k u of) (no_nil p constructors k y also)) ∙ chosen_words c u y
      ∙ sym (each_real c (words l u) (words l y) (words_long l u ∙ sym (words_long l y)) (words_real p constructors k l is u of) (words_real p constructors k l is y also)))
      w g)
      v h

  any_if : (c v w : Value) → HasType p constructors kinds.Bool (Some c) → HasType p constructors k (Some v) → HasType p constructors k (Some w) → encode l (apply operators.If (c ∷ v ∷ w ∷ [])) ≡ each_either c (words l v) (words l w)
  any_if (bool c) v w t h g = if_words c v w h g
  any_if nil v w t h g = words_nil l ∙ sym (each_nil (size l) (words l v) (words l w) (words_long l v) (words_long l w) (of_words v h) (of_words w g))
  any_if (int z) v w t h g = absurd (true≢false (sym t))
  any_if (enum u c) v w t h g = absurd (true≢false (sym t))
  any_if (struct fs) v w t h g = absurd (true≢false (sym t))

pub equal_by_words : (p : Program) (constructors : Constructors) → EqualByWords p constructors
equal_by_words p constructors k l is some v w h g = equal_words p constructors k l is some v w h g

pub if_by_words : (p : Program) (constructors : Constructors) → IfByWords p constructors
if_by_words p constructors k l is c v w t h g = any_if p constructors k l is c v w t h g

-- structures

first_same : (n : ℕ) (e : Option Value) → 1 ≤ n → item None (replicate n e) 0 ≡ e
first_same zero e some = absurd (omega (arith, some))
first_same (suc n) e some = refl

head_real : (r : Row) → 1 ≤ length r → Each IsReal r → IsReal (item None r 0)
head_real [] some h = absurd (omega (arith, some))
head_real (e ∷ r) some h = h.0

self_real : (x : Option Value) → IsReal x → both (operators.Compute ops.Equal) x x ≡ Some (bool true)
self_real x h = equal_real x x h h ∙ ap (λ b. Some (bool b)) (ap₂ same_entry h.is h.is ∙ (same_tells h.value h.value).1 refl)

true_and : (b : Bool) → both (operators.Compute ops.And) (Some (bool true)) (Some (if b then nil else bool true)) ≡ Some (if b then nil else bool true)
true_and true = refl
true_and false = refl

module _ (p : Program) (constructors : Constructors) where
  -- the first words tell whether one is nil
  whole : (ks : List Kind) (ls : Layouts) → AreLayouts p ks ls → HavePlaces ls → (vs : List Value) → HaveTypes p constructors ks (map Some vs)
      → all_equal (firsts ls vs) (firsts ls vs) ≡ Some (if any_nil vs then nil else bool true)
  whole [] done is some [] h = refl
  whole [] done is some (v ∷ vs) h = absurd h
  whole [] (next l ls) is some vs h = absurd is
  whole (k ∷ ks) done is some vs h = absurd is
  whole (k ∷ ks) (next l ls) is some [] h = absurd h
  whole (k ∷ ks) (next l ls) is some (v ∷ vs) h =
      let rest = firsts ls vs in
      let later = whole ks ls is.1 some.1 vs h.1 in
      of_entry p constructors (λ u. all_equal (item None (words l u) 0 ∷ rest) (item None (words l u) 0 ∷ rest) ≡ Some (if is_nil u || any_nil vs then nil else bool true)) k
      (ap (λ x. all_equal (x ∷ rest) (x ∷ rest)) (ap (λ r. item None r 0) (words_nil l) ∙ first_same (size l) (Some nil) some.0) ∙ nil_and (all_equal rest rest) (_, later))
      (λ u of.
      let long = words_long l u in
      let enough = some.0 in
      let real = head_real (words l u) (omega (arith, long, enough)) (words_real p constructors k l is.0 u of) in
      ap₂ (both (operators.Compute ops.And)) (self_real (item None (words l u) 0) real) later
      ∙ true_and (any_nil vs)
      ∙ ap (λ n. Some (if n || any_nil vs then nil else bool true)) (sym (no_nil p constructors k u of)))
      v h.0

  joined_long : (ks : List Kind) (ls : Layouts) → AreLayouts p ks ls → (vs : List Value) → HaveTypes p constructors ks (map Some vs) → length (joined ls vs) ≡ sizes ls
  joined_long [] done is vs h = refl
  joined_long [] (next l ls) is vs h = absurd is
  joined_long (k ∷ ks) done is vs h = absurd is
  joined_long (k ∷ ks) (next l ls) is [] h = absurd h
  joined_long (k ∷ ks) (next l ls) is (v ∷ vs) h = length-append (words l v) (joined ls vs) ∙ ap₂ ◌+◌ (words_long l v) (joined_long ks ls is.1 vs h.1)

  joined_some : (ks : List Kind) (ls : Layouts) → AreLayouts p ks ls → (vs : List Value) → HaveTypes p constructors ks (map Some vs) → Each HasSome (joined ls vs)
  joined_some [] done is vs h = tt
  joined_some [] (next l ls) is vs h = absurd is
  joined_some (k ∷ ks) done is vs h = absurd is
  joined_some (k ∷ ks) (next l ls) is [] h = absurd h
  joined_some (k ∷ ks) (next l ls) is (v ∷ vs) h = each_append HasSome (words l v) (joined ls vs) (of_words p constructors k l is.0 v h.0) (joined_some ks ls is.1 vs h.1)

  joined_real : (ks : List Kind) (ls : Layouts) → AreLayouts p ks ls → (vs : List Value) → HaveTypes p constructors ks (map Some vs) → any_nil vs ≡ false → Each IsReal (joined ls vs)
  joined_real [] done is vs h n = tt
  joined_real [] (next l ls) is vs h n = absurd is
  joined_real (k ∷ ks) done is vs h n = absurd is
  joined_real (k ∷ ks) (next l ls) is [] h n = absurd h
  joined_real (k ∷ ks) (next l ls) is (v ∷ vs) h n =
      of_entry p constructors (λ u. (is_nil u || any_nil vs) ≡ false → Each IsReal (words l u ++ joined ls vs)) k
      (λ m. absurd (true≢false m))
      (λ u of m. each_append IsReal (words l u) (joined ls vs) (words_real p constructors k l is.0 u of) (joined_real ks ls is.1 vs h.1 (ap (λ b. b || any_nil vs) (sym (no_nil p constructors k u of)) ∙ m)))
      v h.0 n

pub structures_by_words : (p : Program) (constructors : Constructors) → StructuresByWords p constructors
structures_by_words p constructors t ls is some vs h =
    let ks = field_kinds p (kinds.Struct t) in
    let r = joined ls vs in
    ap (option_map (λ c. each_either c r r)) (whole p constructors ks ls is some vs h) ∙ ap Some (by (any_nil vs) refl ∙ sym (structures_are_joined p constructors t ls is vs h))
  where
    by : (b : Bool) → any_nil vs ≡ b → each_either (if b then nil else bool true) (joined ls vs) (joined ls vs) ≡ (if b then replicate (sizes ls) (Some nil) else joined ls vs)
    by true n =
        let ks = field_kinds p (kinds.Struct t) in
        each_nil (sizes ls) (joined ls vs) (joined ls vs) (joined_long p constructors ks ls is vs h) (joined_long p constructors ks ls is vs h) (joined_some p constructors ks ls is vs h) (joined_some p constructors ks ls is vs h)
    by false n =
        let ks = field_kinds p (kinds.Struct t) in
        each_real true (joined ls vs) (joined ls vs) refl (joined_real p constructors ks ls is vs h n) (joined_real p constructors ks ls is vs h n)
