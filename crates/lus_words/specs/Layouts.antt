-- How a value lies in words: one of bool, of int or of an enumeration is one word, a structure its fields, one behind another.
use Rattle.std.specs.Prelude.{◌≡◌, ◌+◌, ◌++◌, ℕ, zero, suc, List, [], ◌∷◌}
use Rattle.lus_program.specs.declared.types.Kind.{Kind}
use Rattle.lus_program.specs.declared.types.Kind.TheVariants as kinds
use Rattle.lus_program.specs.Programs.{Program}
use Rattle.lus_program.specs.Resolved.{field_kinds}

mutual
  pub data Layout : Type 0 where
    word : Kind → Layout
    parts : Layouts → Layout

  pub data Layouts : Type 0 where
    done : Layouts
    next : Layout → Layouts → Layouts

abbrev pub layouts_of : List Layout → Layouts
layouts_of [] = done
layouts_of (l ∷ ls) = next l (layouts_of ls)

-- how many words: its leaves
abbrev mutual
  pub size : Layout → ℕ
  size (word k) = 1
  size (parts ls) = sizes ls

  pub sizes : Layouts → ℕ
  sizes done = 0
  sizes (next l ls) = size l + sizes ls

-- the type of each word
abbrev mutual
  pub places : Layout → List Kind
  places (word k) = k ∷ []
  places (parts ls) = all_places ls

  pub all_places : Layouts → List Kind
  all_places done = []
  all_places (next l ls) = places l ++ all_places ls

-- the layout of the field at a place, and its first word; nothing past the end
abbrev pub layout_at : Layouts → ℕ → Layout
layout_at done n = parts done
layout_at (next l ls) zero = l
layout_at (next l ls) (suc n) = layout_at ls n

abbrev pub offset : Layouts → ℕ → ℕ
offset done n = 0
offset (next l ls) zero = 0
offset (next l ls) (suc n) = size l + offset ls n

module _ (p : Program) where
  -- the layout of a type: no type has two
  abbrev mutual
    pub IsLayout : Kind → Layout → Type 0
    IsLayout (kinds.Struct t) (word l) = ⊥
    IsLayout k (word l) = k ≡ l
    IsLayout (kinds.Struct t) (parts ls) = AreLayouts (field_kinds p (kinds.Struct t)) ls
    IsLayout k (parts ls) = ⊥

    pub AreLayouts : List Kind → Layouts → Type 0
    AreLayouts [] done = Unit {0}
    AreLayouts (k ∷ ks) (next l ls) = IsLayout k l × AreLayouts ks ls
    AreLayouts _ _ = ⊥
