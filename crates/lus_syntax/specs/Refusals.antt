-- Out of memory, and the text of a refusal.
use Rattle.std.specs.Prelude.{ℕ, List, [], ◌∷◌, ◌++◌, codes, refl}
use Rattle.std.specs.Fmt.{decimal}
use Rattle.std.specs.List.{flat_map}
use Rattle.lus_syntax.specs.declared.refusal.RefusalNumber.{RefusalNumber}
use Rattle.lus_syntax.specs.declared.refusal.RefusalNumber.TheVariants as numbers
use Rattle.lus_syntax.specs.declared.refusal.Refusal.{Refusal}

-- the refusal that says out of memory
abbrev pub out_of_memory : Refusal
out_of_memory = record { number = numbers.Memory; line = 0; column = 0; cycle = []; cycle_only = λ _. refl; memory_nowhere = λ _. (refl, refl) }

abbrev pub number_text : RefusalNumber → List ℕ
number_text numbers.Lexical = codes "E1"
number_text numbers.Syntax = codes "E2"
number_text numbers.Unsupported = codes "E3"
number_text numbers.Name = codes "E4"
number_text numbers.Type = codes "E5"
number_text numbers.Clock = codes "E6"
number_text numbers.Cycle = codes "E7"
number_text numbers.Nil = codes "E8"
number_text numbers.Recursion = codes "E9"
number_text numbers.Limit = codes "E10"
number_text numbers.Memory = codes "E11"

-- the word and the names, each behind a space; nothing for no names
abbrev pub cycle_text : List (List ℕ) → List ℕ
cycle_text [] = []
cycle_text (name ∷ names) = codes "cycle" ++ flat_map (λ n. 32 ∷ n) (name ∷ names)

-- behind a space where there is a cycle
abbrev pub cycle_behind : List (List ℕ) → List ℕ
cycle_behind [] = []
cycle_behind (name ∷ names) = 32 ∷ cycle_text (name ∷ names)

abbrev pub place_text : RefusalNumber → ℕ → ℕ → List (List ℕ) → List ℕ
place_text numbers.Memory line column cycle = number_text numbers.Memory
place_text number line column cycle =
    number_text number ++ codes " line " ++ decimal line ++ codes " column " ++ decimal column ++ cycle_behind cycle

-- the number, the place and the cycle; out of memory has no place
abbrev pub refusal_text : Refusal → List ℕ
refusal_text r = place_text r.number r.line r.column r.cycle
