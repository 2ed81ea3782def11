-- Fields of entries are slices of their words, and structures are made of the words of their fields.
use Rattle.std.proofs.Common.{arith, ◌≡◌, ◌∙◌, refl, sym, ap, ℕ, zero, suc, ◌+◌, ◌-◌, ◌≤◌, Bool, true, false, List, [], ◌∷◌, ◌++◌, map, drop, take, replicate, Option, Some, None, if◌then◌else◌, true≢false}
use Rattle.std.proofs.lemmas.List.{drop-drop, drop_at, drop-replicate, take-replicate}
use Rattle.std.proofs.Math.Seq.{take-append_seam}
use Rattle.lus_values.specs.Operators.{any_nil, field_at}
use Rattle.lus_values.specs.Values.{Value, struct, nil, Fields, end, field, fields_of, Row}
use Rattle.lus_program.specs.declared.types.Kind.{Kind}
use Rattle.lus_program.specs.declared.types.Kind.TheVariants as kinds
use Rattle.lus_program.specs.Programs.{Program}
use Rattle.lus_program.specs.Resolved.{field_kinds}
use Rattle.lus_typed_streams.specs.Types.{Constructors, are_of_types, HaveTypes}
use Rattle.lus_words.specs.Encoded.{words, all_words, encode, joined}
use Rattle.lus_words.specs.Laws.{FieldsAreSlices, StructuresAreJoined, field_of_entry}
use Rattle.lus_words.specs.Layouts.{parts, Layouts, done, next, size, sizes, layout_at, offset, AreLayouts}
use Rattle.lus_words.proofs.Sizes.{words_long}
use Rattle.lus_words.proofs.Typed.{words_nil, others_are, of_structure, of_entry}

abbrev slice : Layouts → ℕ → Row → Row
slice ls n r = take (size (layout_at ls n)) (drop (offset ls n) r)

within_sizes : (ls : Layouts) (n : ℕ) → offset ls n + size (layout_at ls n) ≤ sizes ls
within_sizes done n = omega arith
within_sizes (next l ls) zero = omega arith
within_sizes (next l ls) (suc n) = omega (arith, within_sizes ls n)

slice_same : (ls : Layouts) (n : ℕ) (e : Option Value) → slice ls n (replicate (sizes ls) e) ≡ replicate (size (layout_at ls n)) e
slice_same ls n e =
    let few : size (layout_at ls n) ≤ sizes ls - offset ls n = omega (arith, within_sizes ls n) in
    ap (take (size (layout_at ls n))) (drop-replicate (offset ls n) (sizes ls) e) ∙ take-replicate (size (layout_at ls n)) (sizes ls - offset ls n) e few

module _ (p : Program) (constructors : Constructors) where
  slice_fields : (ks : List Kind) (ls : Layouts) → AreLayouts p ks ls → (fs : Fields) → are_of_types p constructors ks fs ≡ true → (n : ℕ) → slice ls n (all_words ls fs) ≡ encode (layout_at ls n) (field_at fs n)
  slice_fields [] done is end h n = refl
  slice_fields [] done is (field v fs) h n = absurd (true≢false (sym h))
  slice_fields [] (next l ls) is fs h n = absurd is
  slice_fields (k ∷ ks) done is fs h n = absurd is
  slice_fields (k ∷ ks) (next l ls) is end h n = absurd (true≢false (sym h))
  slice_fields (k ∷ ks) (next l ls) is (field v fs) h zero =
      ap (λ m. take m (words l v ++ all_words ls fs)) (sym (words_long l v)) ∙ take-append_seam (words l v) (all_words ls fs)
  slice_fields (k ∷ ks) (next l ls) is (field v fs) h (suc n) =
      ap (take (size (layout_at ls n)))
      (sym (drop-drop (offset ls n) (size l) (words l v ++ all_words ls fs)) ∙ ap (drop (offset ls n)) (drop_at (words l v) (all_words ls fs) (size l) (words_long l v)))
      ∙ slice_fields ks ls is.1 fs (others_are p constructors k ks v fs h) n

  pub fields_are_slices : FieldsAreSlices p constructors
  fields_are_slices t ls is None h n = slice_same ls n None
  fields_are_slices t ls is (Some v) h n =
      of_entry p constructors (λ w. slice ls n (words (parts ls) w) ≡ encode (layout_at ls n) (field_of_entry n (Some w))) (kinds.Struct t)
      (slice_same ls n (Some nil) ∙ sym (words_nil (layout_at ls n)))
      (λ w of. of_structure p constructors (λ u. slice ls n (words (parts ls) u) ≡ encode (layout_at ls n) (field_of_entry n (Some u))) t
      (λ fs each. slice_fields (field_kinds p (kinds.Struct t)) ls is fs each n) w of)
      v h

  all_joined : (ks : List Kind) (ls : Layouts) → AreLayouts p ks ls → (vs : List Value) → HaveTypes p constructors ks (map Some vs) → all_words ls (fields_of vs) ≡ joined ls vs
  all_joined [] done is vs h = refl
  all_joined [] (next l ls) is vs h = absurd is
  all_joined (k ∷ ks) done is vs h = absurd is
  all_joined (k ∷ ks) (next l ls) is [] h = absurd h
  all_joined (k ∷ ks) (next l ls) is (v ∷ vs) h = ap (λ r. words l v ++ r) (all_joined ks ls is.1 vs h.1)

  pub structures_are_joined : StructuresAreJoined p constructors
  structures_are_joined t ls is vs h = by (any_nil vs)
    where
      by : (b : Bool) → encode (parts ls) (if b then Some nil else Some (struct (fields_of vs))) ≡ (if b then replicate (sizes ls) (Some nil) else joined ls vs)
      by true = refl
      by false = all_joined (field_kinds p (kinds.Struct t)) ls is vs h
