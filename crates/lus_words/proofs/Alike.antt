-- Values of one type are the same where their words are.
use Rattle.std.proofs.Common.{arith, ◌≡◌, ◌∙◌, refl, sym, ap, ap₂, true, ◌&&◌, List, [], ◌∷◌, ◌++◌, length, true≢false}
use Rattle.std.proofs.Math.Bool.{and-true, and_assoc}
use Rattle.lus_values.specs.Equality.{same, same_fields}
use Rattle.lus_values.specs.Values.{Value, struct, Fields, end, field, Row}
use Rattle.lus_program.specs.declared.types.Kind.{Kind}
use Rattle.lus_program.specs.declared.types.Kind.TheVariants as kinds
use Rattle.lus_program.specs.Programs.{Program}
use Rattle.lus_program.specs.Resolved.{field_kinds}
use Rattle.lus_typed_streams.specs.Types.{Constructors, is_of_type, are_of_types}
use Rattle.lus_words.specs.Encoded.{words, all_words, same_entry, same_words}
use Rattle.lus_words.specs.Laws.{SameAsWords}
use Rattle.lus_words.specs.Layouts.{Layout, word, parts, Layouts, done, next, IsLayout, AreLayouts}
use Rattle.lus_words.proofs.Sizes.{words_long}
use Rattle.lus_words.proofs.Typed.{first_is, others_are, of_structure}

same_append : (r t : Row) (r' t' : Row) → length r ≡ length t → same_words (r ++ r') (t ++ t') ≡ (same_words r t && same_words r' t')
same_append [] [] r' t' e = refl
same_append [] (y ∷ t) r' t' e = absurd (omega (arith, e))
same_append (x ∷ r) [] r' t' e = absurd (omega (arith, e))
same_append (x ∷ r) (y ∷ t) r' t' e = ap (λ b. same_entry x y && b) (same_append r t r' t' (omega (arith, e))) ∙ sym (and_assoc (same_entry x y) (same_words r t) (same_words r' t'))

module _ (p : Program) (constructors : Constructors) where
  mutual
    same_value : (k : Kind) (l : Layout) → IsLayout p k l → (v w : Value) → is_of_type p constructors k v ≡ true → is_of_type p constructors k w ≡ true → same v w ≡ same_words (words l v) (words l w)
    same_value k (word j) is v w h g = sym (and-true (same v w))
    same_value (kinds.Struct t) (parts ls) is v w h g =
        of_structure p constructors (λ u. same u w ≡ same_words (words (parts ls) u) (words (parts ls) w)) t
        (λ fs each. of_structure p constructors (λ u. same (struct fs) u ≡ same_words (all_words ls fs) (words (parts ls) u)) t
        (λ gs all. same_all (field_kinds p (kinds.Struct t)) ls is fs gs each all) w g)
        v h
    same_value kinds.Bool (parts ls) is v w h g = absurd is
    same_value kinds.Int (parts ls) is v w h g = absurd is
    same_value (kinds.Enum t) (parts ls) is v w h g = absurd is

    same_all : (ks : List Kind) (ls : Layouts) → AreLayouts p ks ls → (fs gs : Fields) → are_of_types p constructors ks fs ≡ true → are_of_types p constructors ks gs ≡ true
        → same_fields fs gs ≡ same_words (all_words ls fs) (all_words ls gs)
    same_all [] done is end end h g = refl
    same_all [] done is end (field w gs) h g = absurd (true≢false (sym g))
    same_all [] done is (field v fs) gs h g = absurd (true≢false (sym h))
    same_all [] (next l ls) is fs gs h g = absurd is
    same_all (k ∷ ks) done is fs gs h g = absurd is
    same_all (k ∷ ks) (next l ls) is end gs h g = absurd (true≢false (sym h))
    same_all (k ∷ ks) (next l ls) is (field v fs) end h g = absurd (true≢false (sym g))
    same_all (k ∷ ks) (next l ls) is (field v fs) (field w gs) h g =
        ap₂ ◌&&◌ (same_value k l is.0 v w (first_is p constructors k ks v fs h) (first_is p constructors k ks w gs g)) (same_all ks ls is.1 fs gs (others_are p constructors k ks v fs h) (others_are p constructors k ks w gs g))
        ∙ sym (same_append (words l v) (words l w) (all_words ls fs) (all_words ls gs) (words_long l v ∙ sym (words_long l w)))

  pub same_as_words : SameAsWords p constructors
  same_as_words = same_value
