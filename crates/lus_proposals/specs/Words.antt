-- The words of a text: its operators, numbers, names, keywords and marks, each as its bytes.
use Rattle.std.specs.Prelude.{ℕ, ◌+◌, Bool, false, ◌||◌, cond, List, [], ◌∷◌, map, codes}
use Rattle.std.specs.Borrow.{Bor}
use Rattle.std.specs.Str.{bytes_eq}

abbrev pub Word : Type 0
Word = List ℕ

-- a list of words of the code
abbrev pub texts : List (Bor (List ℕ)) → List Word
texts ws = map (λ w. w.now) ws

-- what groups and separates others, and means nothing by itself
abbrev pub marks : List Word
marks = codes "(" ∷ codes ")" ∷ codes "{" ∷ codes "}" ∷ codes "," ∷ codes ";" ∷ codes ":" ∷ []

-- whether a word is one of some
abbrev pub is_among : Word → List Word → Bool
is_among w [] = false
is_among w (x ∷ xs) = bytes_eq x w || is_among w xs

-- how often a word stands among some
abbrev pub times : Word → List Word → ℕ
times w [] = 0
times w (x ∷ xs) = cond (bytes_eq x w) 1 0 + times w xs
