-- Expressions and proposals, worked out by hand.
use Rattle.std.specs.Prelude.{◌≡◌, ℕ, true, false, List, [], ◌∷◌, Some, None, codes, refl}
use Rattle.lus_proposals.specs.declared.binding.Operator.{Operator}
use Rattle.lus_proposals.specs.Words.{Word}
use Rattle.lus_proposals.specs.Kept.{keeps, rearranges}
use Rattle.lus_proposals.specs.Binding.{groups, operators}

abbrev joining : ℕ → Operator
joining n = record { strength = n; is_prefix = false }

abbrev leading : ℕ → Operator
leading n = record { strength = n; is_prefix = true }

-- a and b xor d
abbrev mixed : List Word
mixed = codes "a" ∷ codes "and" ∷ codes "b" ∷ codes "xor" ∷ codes "d" ∷ []

mixed_operators : operators 0 false false mixed ≡ joining 4 ∷ joining 3 ∷ []
mixed_operators = refl

-- - f(a + b) when not c: what stands in parentheses, and the `not` of a clock, are left aside
called_operators :
    operators 0 false false (codes "-" ∷ codes "f" ∷ codes "(" ∷ codes "a" ∷ codes "+" ∷ codes "b" ∷ codes ")" ∷ codes "when"
    ∷ codes "not" ∷ codes "c" ∷ [])
    ≡ leading 10 ∷ []
called_operators = refl

-- if a = b then x + 1 else y + 1: the operators of the last operand alone stand in no parentheses
choice_operators :
    operators 0 false false (codes "if" ∷ codes "a" ∷ codes "=" ∷ codes "b" ∷ codes "then" ∷ codes "x" ∷ codes "else" ∷ codes "y"
    ∷ codes "+" ∷ codes "1" ∷ [])
    ≡ leading 0 ∷ joining 8 ∷ []
choice_operators = refl

-- (a and b xor d) or a
whole_chain : groups None (joining 4 ∷ joining 3 ∷ []) (Some (joining 3)) ≡ true
whole_chain = refl

-- a and (b xor d) or a
cut_chain : groups (Some (joining 4)) (joining 3 ∷ []) (Some (joining 3)) ≡ false
cut_chain = refl

-- a => (b => c), and (a => b) => c
right_implication : groups (Some (joining 2)) (joining 2 ∷ []) None ≡ true
right_implication = refl

left_implication : groups None (joining 2 ∷ []) (Some (joining 2)) ≡ false
left_implication = refl

-- (a or b) xor c, and a or (b xor c)
left_disjunction : groups None (joining 3 ∷ []) (Some (joining 3)) ≡ true
left_disjunction = refl

right_disjunction : groups (Some (joining 3)) (joining 3 ∷ []) None ≡ false
right_disjunction = refl

-- (a = b) = c, and a = (b = c): comparisons don't group
left_comparison : groups None (joining 6 ∷ []) (Some (joining 6)) ≡ false
left_comparison = refl

right_comparison : groups (Some (joining 6)) (joining 6 ∷ []) None ≡ false
right_comparison = refl

-- not (a = b) and c, and (not a) = b
negated_comparison : groups (Some (leading 5)) (joining 6 ∷ []) (Some (joining 4)) ≡ true
negated_comparison = refl

compared_negation : groups None (leading 5 ∷ []) (Some (joining 6)) ≡ false
compared_negation = refl

-- 1 * (if c then a else b + 2), and 1 * (- a + b)
product_of_choice : groups (Some (joining 9)) (leading 0 ∷ joining 8 ∷ []) None ≡ true
product_of_choice = refl

product_of_sum : groups (Some (joining 9)) (leading 10 ∷ joining 8 ∷ []) None ≡ false
product_of_sum = refl

-- 0 pre -> x and 0 -> x: a word is left out
without_pre : keeps (codes "0" ∷ codes "pre" ∷ codes "->" ∷ codes "x" ∷ []) (codes "0" ∷ codes "->" ∷ codes "x" ∷ []) [] [] ≡ false
without_pre = refl

-- x * .25 and x * 25: so is a point
without_point : keeps (codes "x" ∷ codes "*" ∷ codes "." ∷ codes "25" ∷ []) (codes "x" ∷ codes "*" ∷ codes "25" ∷ []) [] [] ≡ false
without_point = refl

-- a && b and a and b, where a rule is about `&&` and `and`; and where another `and` is left out beside
with_word :
    keeps (codes "a" ∷ codes "&&" ∷ codes "b" ∷ []) (codes "a" ∷ codes "and" ∷ codes "b" ∷ []) (codes "&&" ∷ []) (codes "and" ∷ []) ≡ true
with_word = refl

with_word_less :
    keeps (codes "a" ∷ codes "&&" ∷ codes "b" ∷ codes "and" ∷ codes "c" ∷ []) (codes "a" ∷ codes "and" ∷ codes "b" ∷ codes "c" ∷ [])
    (codes "&&" ∷ []) (codes "and" ∷ []) ≡ false
with_word_less = refl

-- (a + b and a + b): marks don't count
with_mark : keeps (codes "(" ∷ codes "a" ∷ []) (codes "(" ∷ codes "a" ∷ codes ")" ∷ []) [] [] ≡ true
with_mark = refl

-- int x and x: int are the same words in another order
turned : keeps (codes "int" ∷ codes "x" ∷ []) (codes "x" ∷ codes ":" ∷ codes "int" ∷ []) [] [] ≡ false
turned = refl

rearranged : rearranges (codes "int" ∷ codes "x" ∷ []) (codes "x" ∷ codes ":" ∷ codes "int" ∷ []) [] [] ≡ true
rearranged = refl
