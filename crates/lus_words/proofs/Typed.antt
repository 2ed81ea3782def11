-- Words of entries of a type: each has its place's type, and the entry is read back from them.
use Rattle.std.proofs.Common.{arith, ◌≡◌, ◌∙◌, refl, sym, ap, ap₂, subst, ℕ, zero, suc, ◌≤◌, true, false, List, [], ◌∷◌, ◌++◌, length, drop, replicate, Option, Some, None, true≢false}
use Rattle.std.proofs.lemmas.List.{append_assoc, drop_at}
use Rattle.lus_values.specs.Lists.{item, Each}
use Rattle.lus_values.specs.Operators.{is_nil}
use Rattle.lus_values.specs.Values.{Value, bool, int, enum, struct, nil, Fields, end, field, Row}
use Rattle.lus_values.proofs.Equalities.{and_left, and_right}
use Rattle.lus_values.proofs.Lists.{each_append}
use Rattle.lus_program.specs.declared.types.Kind.{Kind}
use Rattle.lus_program.specs.declared.types.Kind.TheVariants as kinds
use Rattle.lus_program.specs.Programs.{Program}
use Rattle.lus_program.specs.Resolved.{field_kinds}
use Rattle.lus_typed_streams.specs.Types.{Constructors, is_of_type, are_of_types, HasType, HaveTypes}
use Rattle.lus_words.specs.Encoded.{words, all_words, read, all_read, decode}
use Rattle.lus_words.specs.Fitting.{IsWord, Fits, AllFit}
use Rattle.lus_words.specs.Laws.{WordsHaveTypes, DecodesEncoded, EntriesFit}
use Rattle.lus_words.specs.Layouts.{Layout, word, parts, Layouts, done, next, size, places, all_places, IsLayout, AreLayouts}
use Rattle.lus_words.proofs.Sizes.{words_long, places_long, is_word}

-- an entry that has a value, which isn't nil
pub record IsReal (e : Option Value) : Type 0 where
  pub value : Value
  pub is : e ≡ Some value
  pub real : is_nil value ≡ false

first_real : (r behind : Row) → 1 ≤ length r → Each IsReal r → IsReal (item None (r ++ behind) 0)
first_real [] behind some h = absurd (omega (arith, some))
first_real (e ∷ r) behind some h = h.0

first_of : (n : ℕ) (e : Option Value) (behind : Row) → 1 ≤ n → item None (replicate n e ++ behind) 0 ≡ e
first_of zero e behind some = absurd (omega (arith, some))
first_of (suc n) e behind some = refl

decodes_nil : (l : Layout) (r : Row) → item None r 0 ≡ Some nil → decode l r ≡ Some nil
decodes_nil l r h = rw (decode, h) refl

decodes_real : (l : Layout) (r : Row) → (e : IsReal (item None r 0)) → decode l r ≡ Some (read l r)
decodes_real l r e = let is = e.is in let real = e.real in rw (decode, is) (rw real refl)

decodes_absent : (l : Layout) (r : Row) → item None r 0 ≡ None → decode l r ≡ None
decodes_absent l r h = rw (decode, h) refl

pub words_nil : (l : Layout) → words l nil ≡ replicate (size l) (Some nil)
words_nil (word k) = refl
words_nil (parts ls) = refl

module _ (p : Program) (constructors : Constructors) where
  abbrev IsOf : Kind → Value → Type 0
  IsOf k v = is_of_type p constructors k v ≡ true

  abbrev AreOf : List Kind → Fields → Type 0
  AreOf ks fs = are_of_types p constructors ks fs ≡ true

  pub no_nil : (k : Kind) (v : Value) → IsOf k v → is_nil v ≡ false
  no_nil kinds.Bool nil h = absurd (true≢false (sym h))
  no_nil kinds.Int nil h = absurd (true≢false (sym h))
  no_nil (kinds.Enum t) nil h = absurd (true≢false (sym h))
  no_nil (kinds.Struct t) nil h = absurd (true≢false (sym h))
  no_nil k (bool b) h = refl
  no_nil k (int z) h = refl
  no_nil k (enum t c) h = refl
  no_nil k (struct fs) h = refl

  pub first_is : (k : Kind) (ks : List Kind) (v : Value) (fs : Fields) → AreOf (k ∷ ks) (field v fs) → IsOf k v
  first_is k ks v fs h = and_left (is_of_type p constructors k v) (are_of_types p constructors ks fs) h

  pub others_are : (k : Kind) (ks : List Kind) (v : Value) (fs : Fields) → AreOf (k ∷ ks) (field v fs) → AreOf ks fs
  others_are k ks v fs h = and_right (is_of_type p constructors k v) (are_of_types p constructors ks fs) h

  -- a structure by its fields, where each other value is none of its type
  module _ (P : Value → Type 0) (t : ℕ) (each : (fs : Fields) → AreOf (field_kinds p (kinds.Struct t)) fs → P (struct fs)) where
    pub of_structure : (v : Value) → IsOf (kinds.Struct t) v → P v
    of_structure (struct fs) h = each fs h
    of_structure (bool b) h = absurd (true≢false (sym h))
    of_structure (int z) h = absurd (true≢false (sym h))
    of_structure (enum u c) h = absurd (true≢false (sym h))
    of_structure nil h = absurd (true≢false (sym h))

  -- fields by their types and layouts
  mutual
    pub words_real : (k : Kind) (l : Layout) → IsLayout p k l → (v : Value) → IsOf k v → Each IsReal (words l v)
    words_real k (word j) is v h = (record { value = v; is = refl; real = no_nil k v h }, tt)
    words_real (kinds.Struct t) (parts ls) is v h = of_structure (λ w. Each IsReal (words (parts ls) w)) t (λ fs each. all_real (field_kinds p (kinds.Struct t)) ls is fs each) v h
    words_real kinds.Bool (parts ls) is v h = absurd is
    words_real kinds.Int (parts ls) is v h = absurd is
    words_real (kinds.Enum t) (parts ls) is v h = absurd is

    all_real : (ks : List Kind) (ls : Layouts) → AreLayouts p ks ls → (fs : Fields) → AreOf ks fs → Each IsReal (all_words ls fs)
    all_real [] done is fs h = tt
    all_real [] (next l ls) is fs h = absurd is
    all_real (k ∷ ks) done is fs h = absurd is
    all_real (k ∷ ks) (next l ls) is end h = absurd (true≢false (sym h))
    all_real (k ∷ ks) (next l ls) is (field v fs) h =
        each_append IsReal (words l v) (all_words ls fs) (words_real k l is.0 v (first_is k ks v fs h)) (all_real ks ls is.1 fs (others_are k ks v fs h))

  mutual
    pub read_words : (k : Kind) (l : Layout) → IsLayout p k l → (v : Value) → IsOf k v → (behind : Row) → read l (words l v ++ behind) ≡ v
    read_words k (word j) is v h behind = refl
    read_words (kinds.Struct t) (parts ls) is v h behind =
        of_structure (λ w. read (parts ls) (words (parts ls) w ++ behind) ≡ w) t (λ fs each. ap struct (read_all (field_kinds p (kinds.Struct t)) ls is fs each behind)) v h
    read_words kinds.Bool (parts ls) is v h behind = absurd is
    read_words kinds.Int (parts ls) is v h behind = absurd is
    read_words (kinds.Enum t) (parts ls) is v h behind = absurd is

    read_all : (ks : List Kind) (ls : Layouts) → AreLayouts p ks ls → (fs : Fields) → AreOf ks fs → (behind : Row) → all_read ls (all_words ls fs ++ behind) ≡ fs
    read_all [] done is end h behind = refl
    read_all [] done is (field v fs) h behind = absurd (true≢false (sym h))
    read_all [] (next l ls) is fs h behind = absurd is
    read_all (k ∷ ks) done is fs h behind = absurd is
    read_all (k ∷ ks) (next l ls) is end h behind = absurd (true≢false (sym h))
    read_all (k ∷ ks) (next l ls) is (field v fs) h behind =
        let rest = all_words ls fs ++ behind in
        let cut = append_assoc (words l v) (all_words ls fs) behind in
        let first = ap (read l) cut ∙ read_words k l is.0 v (first_is k ks v fs h) rest in
        let later = ap (drop (size l)) cut ∙ drop_at (words l v) rest (size l) (words_long l v) in
        ap₂ field first (ap (all_read ls) later ∙ read_all ks ls is.1 fs (others_are k ks v fs h) behind)

  value_decoded : (k : Kind) (l : Layout) → IsLayout p k l → 1 ≤ size l → (v : Value) → IsOf k v → (behind : Row) → decode l (words l v ++ behind) ≡ Some v
  value_decoded k l is some v h behind =
      let real = first_real (words l v) behind (let long = words_long l v in omega (arith, some, long)) (words_real k l is v h) in
      decodes_real l (words l v ++ behind) real ∙ ap Some (read_words k l is v h behind)

  -- an entry of a type that has a value is nil or a value of the type
  module _ (P : Value → Type 0) (k : Kind) (at_nil : P nil) (of : (v : Value) → IsOf k v → P v) where
    pub of_entry : (v : Value) → HasType p constructors k (Some v) → P v
    of_entry nil h = at_nil
    of_entry (bool b) h = of (bool b) h
    of_entry (int z) h = of (int z) h
    of_entry (enum t c) h = of (enum t c) h
    of_entry (struct fs) h = of (struct fs) h

  pub decodes_encoded : DecodesEncoded p constructors
  decodes_encoded k l is some None h behind = decodes_absent l (replicate (size l) None ++ behind) (first_of (size l) None behind some)
  decodes_encoded k l is some (Some v) h behind =
      of_entry (λ w. decode l (words l w ++ behind) ≡ Some w) k
      (decodes_nil l (words l nil ++ behind) (ap (λ r. item None (r ++ behind) 0) (words_nil l) ∙ first_of (size l) (Some nil) behind some))
      (λ w of. value_decoded k l is some w of behind) v h

  -- types of words

  have_append : (ks js : List Kind) (r t : Row) → HaveTypes p constructors ks r → HaveTypes p constructors js t → HaveTypes p constructors (ks ++ js) (r ++ t)
  have_append [] js [] t h g = g
  have_append [] js (e ∷ r) t h g = absurd h
  have_append (k ∷ ks) js [] t h g = absurd h
  have_append (k ∷ ks) js (e ∷ r) t h g = (h.0, have_append ks js r t h.1 g)

  have_same : (e : Option Value) → ((k : Kind) → HasType p constructors k e) → (ks : List Kind) (n : ℕ) → length ks ≡ n → HaveTypes p constructors ks (replicate n e)
  have_same e h [] zero is = tt
  have_same e h [] (suc n) is = absurd (omega (arith, is))
  have_same e h (k ∷ ks) zero is = absurd (omega (arith, is))
  have_same e h (k ∷ ks) (suc n) is = (h k, have_same e h ks n (omega (arith, is)))

  of_type : (k : Kind) (v : Value) → IsOf k v → HasType p constructors k (Some v)
  of_type k nil h = refl
  of_type k (bool b) h = h
  of_type k (int z) h = h
  of_type k (enum t c) h = h
  of_type k (struct fs) h = h

  mutual
    words_typed : (k : Kind) (l : Layout) → IsLayout p k l → (v : Value) → IsOf k v → HaveTypes p constructors (places l) (words l v)
    words_typed k (word j) is v h = (subst (λ i. HasType p constructors i (Some v)) (is_word p k j is) (of_type k v h), tt)
    words_typed (kinds.Struct t) (parts ls) is v h =
        of_structure (λ w. HaveTypes p constructors (all_places ls) (words (parts ls) w)) t (λ fs each. all_typed (field_kinds p (kinds.Struct t)) ls is fs each) v h
    words_typed kinds.Bool (parts ls) is v h = absurd is
    words_typed kinds.Int (parts ls) is v h = absurd is
    words_typed (kinds.Enum t) (parts ls) is v h = absurd is

    all_typed : (ks : List Kind) (ls : Layouts) → AreLayouts p ks ls → (fs : Fields) → AreOf ks fs → HaveTypes p constructors (all_places ls) (all_words ls fs)
    all_typed [] done is fs h = tt
    all_typed [] (next l ls) is fs h = absurd is
    all_typed (k ∷ ks) done is fs h = absurd is
    all_typed (k ∷ ks) (next l ls) is end h = absurd (true≢false (sym h))
    all_typed (k ∷ ks) (next l ls) is (field v fs) h =
        have_append (places l) (all_places ls) (words l v) (all_words ls fs) (words_typed k l is.0 v (first_is k ks v fs h)) (all_typed ks ls is.1 fs (others_are k ks v fs h))

  pub words_have_types : WordsHaveTypes p constructors
  words_have_types k l is None h = have_same None (λ j. tt) (places l) (size l) (places_long l)
  words_have_types k l is (Some v) h =
      of_entry (λ w. HaveTypes p constructors (places l) (words l w)) k
      (subst (HaveTypes p constructors (places l)) (sym (words_nil l)) (have_same (Some nil) (λ j. refl) (places l) (size l) (places_long l)))
      (λ w of. words_typed k l is w of) v h

  -- what fits

  fits_word : (k j : Kind) (v : Value) → IsLayout p k (word j) → IsOf k v → IsWord v
  fits_word k j (bool b) is h = tt
  fits_word k j (int z) is h = tt
  fits_word k j (enum t c) is h = tt
  fits_word k j nil is h = tt
  fits_word kinds.Bool j (struct fs) is h = absurd (true≢false (sym h))
  fits_word kinds.Int j (struct fs) is h = absurd (true≢false (sym h))
  fits_word (kinds.Enum t) j (struct fs) is h = absurd (true≢false (sym h))
  fits_word (kinds.Struct t) j (struct fs) is h = absurd is

  mutual
    fits : (k : Kind) (l : Layout) → IsLayout p k l → (v : Value) → IsOf k v → Fits l v
    fits k (word j) is v h = fits_word k j v is h
    fits (kinds.Struct t) (parts ls) is v h = of_structure (λ w. Fits (parts ls) w) t (λ fs each. all_fit (field_kinds p (kinds.Struct t)) ls is fs each) v h
    fits kinds.Bool (parts ls) is v h = absurd is
    fits kinds.Int (parts ls) is v h = absurd is
    fits (kinds.Enum t) (parts ls) is v h = absurd is

    all_fit : (ks : List Kind) (ls : Layouts) → AreLayouts p ks ls → (fs : Fields) → AreOf ks fs → AllFit ls fs
    all_fit [] done is end h = tt
    all_fit [] done is (field v fs) h = absurd (true≢false (sym h))
    all_fit [] (next l ls) is fs h = absurd is
    all_fit (k ∷ ks) done is fs h = absurd is
    all_fit (k ∷ ks) (next l ls) is end h = absurd (true≢false (sym h))
    all_fit (k ∷ ks) (next l ls) is (field v fs) h = (fits k l is.0 v (first_is k ks v fs h), all_fit ks ls is.1 fs (others_are k ks v fs h))

  nil_fits : (l : Layout) → Fits l nil
  nil_fits (word k) = tt
  nil_fits (parts ls) = tt

  pub entries_fit : EntriesFit p constructors
  entries_fit k l is None h = tt
  entries_fit k l is (Some v) h = of_entry (λ w. Fits l w) k (nil_fits l) (λ w of. fits k l is w of) v h
