-- How many words entries have, and that each type has one layout, of as many words as it has leaves.
use Rattle.std.proofs.Common.{⊎_elim, subst, ◌≡◌, ◌∙◌, refl, sym, ap, ap₂, ℕ, ◌+◌, List, [], ◌∷◌, length, map, sum_by, Some, None}
use Rattle.std.proofs.lemmas.Bool.{cases_lt}
use Rattle.std.proofs.lemmas.List.{get_or_past, length-append, length-replicate}
use Rattle.lus_values.proofs.Lists.{each_at}
use Rattle.std.proofs.lemmas.List.Sums.{sum_by-cons}
use Rattle.lus_values.specs.Lists.{item, Each}
use Rattle.lus_values.specs.Values.{Value, struct, nil, Fields, end, field}
use Rattle.lus_program.specs.declared.types.Kind.{Kind}
use Rattle.lus_program.specs.declared.types.Kind.TheVariants as kinds
use Rattle.lus_program.specs.Kinds.{fields_in, nothing_declared}
use Rattle.lus_program.specs.NamedKinds.{IsStructure, IsNamedRight, KindsAreNamedRight}
use Rattle.lus_program.specs.Leaves.{kind_leaves, declared_leaves, AreLeaves}
use Rattle.lus_program.specs.Programs.{Declared, alias, enumeration, structure, Program, Field}
use Rattle.lus_program.specs.Resolved.{declared_in, field_kinds}
use Rattle.lus_words.specs.Encoded.{words, all_words}
use Rattle.lus_words.specs.Laws.{LayoutsAreUnique, SizesAreLeaves, WordsAreAllTheSize}
use Rattle.lus_words.specs.Layouts.{Layout, word, parts, Layouts, done, next, size, sizes, places, all_places, IsLayout, AreLayouts}

-- words

mutual
  pub words_long : (l : Layout) (v : Value) → length (words l v) ≡ size l
  words_long (word k) v = refl
  words_long (parts ls) (struct fs) = all_words_long ls fs
  words_long (parts ls) v = length-replicate (sizes ls) (Some nil)

  pub all_words_long : (ls : Layouts) (fs : Fields) → length (all_words ls fs) ≡ sizes ls
  all_words_long done fs = refl
  all_words_long (next l ls) end = length-replicate (size l + sizes ls) (Some nil)
  all_words_long (next l ls) (field v fs) = length-append (words l v) (all_words ls fs) ∙ ap₂ ◌+◌ (words_long l v) (all_words_long ls fs)

pub words_are_all_the_size : WordsAreAllTheSize
words_are_all_the_size l None = length-replicate (size l) None
words_are_all_the_size l (Some v) = words_long l v

mutual
  pub places_long : (l : Layout) → length (places l) ≡ size l
  places_long (word k) = refl
  places_long (parts ls) = all_places_long ls

  all_places_long : (ls : Layouts) → length (all_places ls) ≡ sizes ls
  all_places_long done = refl
  all_places_long (next l ls) = length-append (places l) (all_places ls) ∙ ap₂ ◌+◌ (places_long l) (all_places_long ls)

-- layouts

own_fields : (d : Declared) → IsStructure d → d ≡ structure (fields_in d)
own_fields (structure fs) h = refl
own_fields (alias k) h = absurd h
own_fields (enumeration cs) h = absurd h

module _ (p : Program) where
  pub is_word : (k j : Kind) → IsLayout p k (word j) → k ≡ j
  is_word kinds.Bool j h = h
  is_word kinds.Int j h = h
  is_word (kinds.Enum t) j h = h
  is_word (kinds.Struct t) j h = absurd h

  mutual
    one_layout : (k : Kind) (l m : Layout) → IsLayout p k l → IsLayout p k m → l ≡ m
    one_layout k (word a) (word b) h g = ap word (sym (is_word k a h) ∙ is_word k b g)
    one_layout (kinds.Struct t) (parts ls) (parts ms) h g = ap parts (one_list (field_kinds p (kinds.Struct t)) ls ms h g)
    one_layout kinds.Bool (parts ls) m h g = absurd h
    one_layout kinds.Int (parts ls) m h g = absurd h
    one_layout (kinds.Enum t) (parts ls) m h g = absurd h
    one_layout kinds.Bool l (parts ms) h g = absurd g
    one_layout kinds.Int l (parts ms) h g = absurd g
    one_layout (kinds.Enum t) l (parts ms) h g = absurd g
    one_layout (kinds.Struct t) (word a) m h g = absurd h
    one_layout (kinds.Struct t) l (word b) h g = absurd g

    one_list : (ks : List Kind) (ls ms : Layouts) → AreLayouts p ks ls → AreLayouts p ks ms → ls ≡ ms
    one_list [] done done h g = refl
    one_list [] done (next m ms) h g = absurd g
    one_list [] (next l ls) ms h g = absurd h
    one_list (k ∷ ks) done ms h g = absurd h
    one_list (k ∷ ks) (next l ls) done h g = absurd g
    one_list (k ∷ ks) (next l ls) (next m ms) h g = ap₂ next (one_layout k l m h.0 g.0) (one_list ks ls ms h.1 g.1)

  module _ (at : ℕ → ℕ) (are : AreLeaves p at) (named : (t : ℕ) → Each (IsNamedRight p) (field_kinds p (kinds.Struct t))) where
    mutual
      leaves_are : (k : Kind) (l : Layout) → IsNamedRight p k → IsLayout p k l → size l ≡ kind_leaves at k
      leaves_are kinds.Bool (word j) n h = refl
      leaves_are kinds.Int (word j) n h = refl
      leaves_are (kinds.Enum t) (word j) n h = refl
      leaves_are (kinds.Struct t) (word j) n h = absurd h
      leaves_are (kinds.Struct t) (parts ls) n h = fields_are (fields_in (declared_in p t)) ls (named t) h ∙ sym (are t ∙ ap (declared_leaves at) (own_fields (declared_in p t) n))
      leaves_are kinds.Bool (parts ls) n h = absurd h
      leaves_are kinds.Int (parts ls) n h = absurd h
      leaves_are (kinds.Enum t) (parts ls) n h = absurd h

      fields_are : (fs : List Field) (ls : Layouts) → Each (IsNamedRight p) (map (λ f. f.kind) fs) → AreLayouts p (map (λ f. f.kind) fs) ls → sizes ls ≡ sum_by (λ f. kind_leaves at f.kind) fs
      fields_are [] done n h = refl
      fields_are [] (next l ls) n h = absurd h
      fields_are (f ∷ fs) done n h = absurd h
      fields_are (f ∷ fs) (next l ls) n h = ap₂ ◌+◌ (leaves_are f.kind l n.0 h.0) (fields_are fs ls n.1 h.1) ∙ sym (sum_by-cons (λ (g : Field). kind_leaves at g.kind) f fs)

  kinds_each : (fs : List Field) → Each (λ g. IsNamedRight p g.kind) fs → Each (IsNamedRight p) (map (λ f. f.kind) fs)
  kinds_each [] h = tt
  kinds_each (f ∷ fs) h = (h.0, kinds_each fs h.1)

  fields_named : KindsAreNamedRight p → (t : ℕ) → Each (IsNamedRight p) (field_kinds p (kinds.Struct t))
  fields_named h t = kinds_each (fields_in (declared_in p t)) (⊎_elim
      (λ lt. each_at (λ d. Each (λ g. IsNamedRight p g.kind) (fields_in d)) p.types t nothing_declared lt h.fields)
      (λ le. subst (λ d. Each (λ g. IsNamedRight p g.kind) (fields_in d)) (sym (get_or_past p.types t nothing_declared le)) tt)
      (cases_lt t (length p.types)))

pub layouts_are_unique : LayoutsAreUnique
layouts_are_unique = one_layout

pub sizes_are_leaves : SizesAreLeaves
sizes_are_leaves p table the named = leaves_are p (item 1 table) the.are (fields_named p named)
