-- The layouts of fields, one by one.
use Rattle.std.proofs.Common.{arith, ◌≡◌, sym, subst, ℕ, zero, suc, ◌+◌, ◌<◌, ◌≤◌, List, [], ◌∷◌, ◌++◌, length, get_or, map, take, option_map, Option, Some, None, Vec, Global}
use Rattle.std.proofs.lemmas.Grind.{common_steps}
use Rattle.lus_program.specs.declared.types.Field.{Field as StoredField}
use Rattle.lus_program.specs.declared.types.Kind.{Kind}
use Rattle.lus_program.specs.declared.types.Kind.TheVariants as kinds
use Rattle.lus_program.specs.Kinds.{fields_in}
use Rattle.lus_program.specs.Programs.{Program, Field}
use Rattle.lus_program.specs.Resolved.{declared_in}
use Rattle.lus_program.specs.View.{field_of}
use Rattle.lus_words.specs.Depths.{depth, depths, IsLaidOut, AreLaidOut}
use Rattle.lus_words.specs.Layouts.{Layout, parts, Layouts, done, next, IsLayout, AreLayouts}
use Rattle.lus_words.specs.View.{layout_of}
use Rattle.lus_words.specs.declared.layout.Layout.{Layout as StoredLayout, Parts}
use Rattle.lus_words.proofs.Falling.{seen}
use Rattle.lus_words.proofs.Views.{seen_parts}

abbrev pub kinds_of : List StoredField → List Kind
kinds_of fs = map (λ f. f.kind) (map field_of fs)

take_step : {X : Type 0} (xs : List X) (i : ℕ) (x : X) → i < length xs → x ≡ get_or xs i x → take (i + 1) xs ≡ take i xs ++ x ∷ []
take_step xs i x lt is = grind (arith, common_steps)

module _ (p : Program) where
  are_more : (gs : List StoredField) (ls : List StoredLayout) (g : StoredField) (l : StoredLayout) → AreLayouts p (kinds_of gs) (seen ls) → IsLayout p g.kind (layout_of l) → AreLayouts p (kinds_of (gs ++ g ∷ [])) (seen (ls ++ l ∷ []))
  are_more [] [] g l h k = (k, tt)
  are_more [] (m ∷ ls) g l h k = absurd h
  are_more (f ∷ gs) [] g l h k = absurd h
  are_more (f ∷ gs) (m ∷ ls) g l h k = (h.0, are_more gs ls g l h.1 k)

  pub laid_more : (fs : List StoredField) (i : ℕ) (x : StoredField) → i < length fs → x ≡ get_or fs i x → (old new : List StoredLayout) (l : StoredLayout) → new ≡ old ++ l ∷ []
      → IsLayout p x.kind (layout_of l) → AreLayouts p (kinds_of (take i fs)) (seen old) → AreLayouts p (kinds_of (take (i + 1) fs)) (seen new)
  laid_more fs i x lt is old new l made one before =
      subst (λ gs. AreLayouts p (kinds_of gs) (seen new)) (sym (take_step fs i x lt is))
      (subst (λ ls. AreLayouts p (kinds_of (take i fs ++ x ∷ [])) (seen ls)) (sym made) (are_more (take i fs) old x l before one))

  -- where one has none, no layouts are those of all
  pub none_laid : (deep : ℕ) (fs : List StoredField) (i : ℕ) (x : StoredField) → i < length fs → x ≡ get_or fs i x → ((l : Layout) → IsLayout p x.kind l → depth l ≤ deep → ⊥)
      → (ls : Layouts) → AreLayouts p (kinds_of fs) ls → depths ls ≤ deep → ⊥
  none_laid deep [] i x lt is none ls h few = absurd (omega (arith, lt))
  none_laid deep (f ∷ fs) i x lt is none done h few = absurd h
  none_laid deep (f ∷ fs) zero x lt is none (next l ls) h few = none l (subst (λ (g : StoredField). IsLayout p g.kind l) (sym is) h.0) (omega (arith, few))
  none_laid deep (f ∷ fs) (suc i) x lt is none (next l ls) h few = none_laid deep fs i x (omega (arith, lt)) is none ls h.1 (omega (arith, few))

  pub one_of : (k : Kind) (deep : ℕ) (found : Option StoredLayout) (l : StoredLayout) → found ≡ Some l → IsLaidOut p k deep found → IsLayout p k (layout_of l)
  one_of k deep found l is h = let told : IsLaidOut p k deep (Some l) = subst (IsLaidOut p k deep) is h in told

  pub none_of : (k : Kind) (deep : ℕ) (found : Option StoredLayout) → found ≡ None → IsLaidOut p k deep found → (l : Layout) → IsLayout p k l → depth l ≤ deep → ⊥
  none_of k deep found is h = let told : IsLaidOut p k deep None = subst (IsLaidOut p k deep) is h in told

  pub structure_of : (k : Kind) (t deep : ℕ) (fs : List StoredField) (found : Option (Vec StoredLayout Global)) (v : Vec StoredLayout Global) → k ≡ kinds.Struct t → map field_of fs ≡ fields_in (declared_in p t) → found ≡ Some v
      → AreLaidOut p (kinds_of fs) deep (option_map (λ ls. ls.items) found) → IsLayout p k (layout_of (Parts v))
  structure_of k t deep fs found v kind fields is h =
      let told : AreLaidOut p (kinds_of fs) deep (Some v.items) = subst (λ o. AreLaidOut p (kinds_of fs) deep (option_map (λ ls. ls.items) o)) is h in
      subst (IsLayout p k) (sym (seen_parts v))
      (subst (λ j. IsLayout p j (parts (seen v.items))) (sym kind)
      (subst (λ (gs : List Field). AreLayouts p (map (λ g. g.kind) gs) (seen v.items)) fields told))
