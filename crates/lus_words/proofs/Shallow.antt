-- Where types can be ordered by what they use, structures stand in one another no deeper than there are types, and one.
use Rattle.std.proofs.Common.{arith, ◌≡◌, refl, sym, subst, ℕ, suc, ◌≤◌, List, [], ◌∷◌, length, map, flat_map, Contains, ⊎_elim}
use Rattle.std.proofs.lemmas.Bool.{cases_lt}
use Rattle.std.proofs.lemmas.List.{get_or_past, length-map}
use Rattle.std.proofs.lemmas.List.Elements.{Contains-append_cases, Contains-append_left, Contains-append_right}
use Rattle.std.proofs.Math.ListN.{get_or-map as get_or_any-map}
use Rattle.lus_graph.specs.Ways.{used, IsOrdered, empty, next as follow}
use Rattle.lus_graph.proofs.Steps.{more_length, no_item, one_item}
use Rattle.lus_program.specs.declared.types.Kind.{Kind}
use Rattle.lus_program.specs.declared.types.Kind.TheVariants as kinds
use Rattle.lus_program.specs.Kinds.{fields_in, nothing_declared}
use Rattle.lus_program.specs.Programs.{Declared, alias, enumeration, structure, Field, Program}
use Rattle.lus_program.specs.Resolved.{declared_in}
use Rattle.lus_program.specs.Sound.{structures_in, declared_uses, type_uses}
use Rattle.lus_words.specs.Depths.{depth, depths}
use Rattle.lus_words.specs.Laws.{LayoutsAreShallow}
use Rattle.lus_words.specs.Layouts.{Layout, word, parts, Layouts, done, next, IsLayout, AreLayouts}

module _ (p : Program) where
  -- each layout of a structure is no deeper than n
  abbrev Shallow : ℕ → ℕ → Type 0
  Shallow n t = (l : Layout) → IsLayout p (kinds.Struct t) l → depth l ≤ n

  kind_shallow : (n : ℕ) (k : Kind) → ((t : ℕ) → Contains (structures_in k) t → Shallow n t) → (l : Layout) → IsLayout p k l → depth l ≤ n
  kind_shallow n (kinds.Struct t) h l is = h t (0, omega arith, refl) l is
  kind_shallow n k h (word j) is = omega arith
  kind_shallow n kinds.Bool h (parts ls) is = absurd is
  kind_shallow n kinds.Int h (parts ls) is = absurd is
  kind_shallow n (kinds.Enum t) h (parts ls) is = absurd is

  fields_shallow : (n : ℕ) (fs : List Field) → ((t : ℕ) → Contains (flat_map (λ g. structures_in g.kind) fs) t → Shallow n t) → (ls : Layouts) → AreLayouts p (map (λ g. g.kind) fs) ls → depths ls ≤ n
  fields_shallow n [] h done is = omega arith
  fields_shallow n [] h (next l ls) is = absurd is
  fields_shallow n (g ∷ fs) h done is = absurd is
  fields_shallow n (g ∷ fs) h (next l ls) is =
      let rest = flat_map (λ (f : Field). structures_in f.kind) fs in
      let first = kind_shallow n g.kind (λ t among. h t (Contains-append_left (structures_in g.kind) rest t among)) l is.0 in
      let later = fields_shallow n fs (λ t among. h t (Contains-append_right (structures_in g.kind) rest t among)) ls is.1 in
      omega (arith, first, later)

  declared_shallow : (n : ℕ) (d : Declared) → ((t : ℕ) → Contains (declared_uses d) t → Shallow n t) → (ls : Layouts) → AreLayouts p (map (λ g. g.kind) (fields_in d)) ls → depths ls ≤ n
  declared_shallow n (structure fs) h ls is = fields_shallow n fs h ls is
  declared_shallow n d h done is = omega arith
  declared_shallow n (alias k) h (next l ls) is = absurd is
  declared_shallow n (enumeration cs) h (next l ls) is = absurd is

  structure_shallow : (n t : ℕ) → ((s : ℕ) → Contains (used (type_uses p) t) s → Shallow n s) → Shallow (suc n) t
  structure_shallow n t h (word j) is = absurd is
  structure_shallow n t h (parts ls) is =
      let all = declared_shallow n (declared_in p t) (λ s among. h s (subst (λ us. Contains us s) (sym (get_or_any-map declared_uses p.types t nothing_declared)) among)) ls is in
      omega (arith, all)

  past_shallow : (n t : ℕ) → length (type_uses p) ≤ t → Shallow (suc n) t
  past_shallow n t past = structure_shallow n t (λ s among.
      let none : used (type_uses p) t ≡ [] = get_or_past (type_uses p) t [] past in
      let f : Contains [] s = rw none at among in
      elim (no_item f.0 f.1) [ ])

  ordered_shallow : (xs : List ℕ) → IsOrdered (type_uses p) xs → (t : ℕ) → Contains xs t → Shallow (suc (length xs)) t
  ordered_shallow xs empty t among l is = elim (no_item among.0 among.1) [ ]
  ordered_shallow xs (follow {before = before} {x = z} ordered fresh all) t among l is =
      let more = more_length before z in
      ⊎_elim
      (λ old. let few = ordered_shallow before ordered t old l is in omega (arith, few, more))
      (λ last.
      let same : z ≡ t = one_item z t last in
      let here : Shallow (suc (suc (length before))) z = structure_shallow (suc (length before)) z (λ s in_uses. ⊎_elim
      (λ lt. ordered_shallow before ordered s (all s lt in_uses))
      (λ past. past_shallow (length before) s past)
      (cases_lt s (length (type_uses p)))) in
      let few : depth l ≤ suc (suc (length before)) = here l (subst (λ u. IsLayout p (kinds.Struct u) l) (sym same) is) in
      omega (arith, few, more))
      (Contains-append_cases before (z ∷ []) t among)

pub layouts_are_shallow : LayoutsAreShallow
layouts_are_shallow p ordered k = kind_shallow p (suc (length p.types)) k (λ t among l is. ⊎_elim
    (λ lt. let few = ordered_shallow p ordered.0 ordered.1.ordered t (ordered.1.whole t lt) l is in omega (arith, few, ordered.1.size, length-map p.types declared_uses))
    (λ past. past_shallow p (length p.types) t past l is)
    (cases_lt t (length (type_uses p))))
