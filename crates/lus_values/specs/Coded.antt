-- A value as a list of marks that gives it back, by which the logic tells values apart.
use Rattle.std.specs.Prelude.{◌≡◌, ◌⊎◌, ℕ, zero, suc, ℤ, Bool, List, [], ◌∷◌}
use Rattle.std.specs.Coded.{Coded, code_by, coded×, coded⊎, coded_ℕ, coded_ℤ, coded_bool, coded_list, coded_option}
use mathlib.Core.Logic.{inl, inr}
use mathlib.Core.Path.{refl, ◌∙◌, ap}
use Rattle.lus_values.specs.Values.{Value, bool, int, enum, struct, nil, Fields, end, field, Row}

-- the marks of a value stand after those of its parts
abbrev Mark : Type 0
Mark = Bool ⊎ (ℤ ⊎ ((ℕ × ℕ) ⊎ ℕ))

abbrev mark : ℕ → Mark
mark n = inr (inr (inr n))

abbrev mutual
  marks : Value → List Mark → List Mark
  marks (bool b) rest = inl b ∷ rest
  marks (int z) rest = inr (inl z) ∷ rest
  marks (enum t c) rest = inr (inr (inl (t, c))) ∷ rest
  marks (struct fs) rest = marks_all fs (mark 0 ∷ rest)
  marks nil rest = mark 3 ∷ rest

  marks_all : Fields → List Mark → List Mark
  marks_all end rest = mark 1 ∷ rest
  marks_all (field v fs) rest = marks v (marks_all fs (mark 2 ∷ rest))

-- what was read so far, the newest first
abbrev Parts : Type 0
Parts = List (Value ⊎ Fields)

abbrev mutual
  read : List Mark → Parts → Parts
  read [] parts = parts
  read (inl b ∷ rest) parts = read rest (inl (bool b) ∷ parts)
  read (inr (inl z) ∷ rest) parts = read rest (inl (int z) ∷ parts)
  read (inr (inr (inl (t, c))) ∷ rest) parts = read rest (inl (enum t c) ∷ parts)
  read (inr (inr (inr zero)) ∷ rest) (inr fs ∷ parts) = read rest (inl (struct fs) ∷ parts)
  read (inr (inr (inr (suc zero))) ∷ rest) parts = read rest (inr end ∷ parts)
  read (inr (inr (inr (suc (suc zero)))) ∷ rest) (inr fs ∷ inl v ∷ parts) = read rest (inr (field v fs) ∷ parts)
  read (inr (inr (inr _)) ∷ rest) parts = read rest (inl nil ∷ parts)

mutual
  read_marks : (v : Value) (rest : List Mark) (parts : Parts) → read (marks v rest) parts ≡ read rest (inl v ∷ parts)
  read_marks (bool b) rest parts = refl
  read_marks (int z) rest parts = refl
  read_marks (enum t c) rest parts = refl
  read_marks (struct fs) rest parts = read_marks_all fs (mark 0 ∷ rest) parts
  read_marks nil rest parts = refl

  read_marks_all : (fs : Fields) (rest : List Mark) (parts : Parts) → read (marks_all fs rest) parts ≡ read rest (inr fs ∷ parts)
  read_marks_all end rest parts = refl
  read_marks_all (field v fs) rest parts = read_marks v (marks_all fs (mark 2 ∷ rest)) parts ∙ read_marks_all fs (mark 2 ∷ rest) (inl v ∷ parts)

abbrev first : Parts → Value
first (inl v ∷ parts) = v
first _ = nil

pub back : (v : Value) → first (read (marks v []) []) ≡ v
back v = ap first (read_marks v [] [])

abbrev pub coded_value : Coded Value
coded_value = code_by (List Mark) (coded_list (coded⊎ coded_bool (coded⊎ coded_ℤ (coded⊎ (coded× coded_ℕ coded_ℕ) coded_ℕ)))) (λ v. marks v []) (λ ms. first (read ms [])) back

abbrev pub coded_row : Coded Row
coded_row = coded_list (coded_option coded_value)
