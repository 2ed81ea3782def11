-- Expressions of operators between operands as trees, which say where parentheses would stand. The reading of an expression is the tree in
-- which each operator keeps its operands: those of its left operand take theirs before it does, and so do those of its right operand.
use Rattle.std.specs.Prelude.{◌≡◌, ◌⊎◌, ℕ, ◌<◌, ◌≤◌, false, IsTrue, List, [], ◌∷◌, ◌++◌, map, Option, Some, None, option_map}
use Rattle.lus_proposals.specs.declared.binding.Operator.{Operator}
use Rattle.lus_proposals.specs.Binding.{groups_left, groups_right}

pub data Tree : Type 0 where
  Operand : Tree
  Joined : ℕ → Tree → Tree → Tree

-- how strongly its operators bind, from left to right
abbrev pub strengths : Tree → List ℕ
strengths Operand = []
strengths (Joined n s t) = strengths s ++ n ∷ strengths t

-- an operator takes the operand between it and one behind it, and between it and one before it
abbrev pub TakesLast : ℕ → ℕ → Type 0
TakesLast behind n = (behind < n) ⊎ ((n ≡ behind) × IsTrue (groups_left n))

abbrev pub TakesFirst : ℕ → ℕ → Type 0
TakesFirst before n = (before < n) ⊎ ((n ≡ before) × IsTrue (groups_right n))

abbrev pub TakeLast : ℕ → List ℕ → Type 0
TakeLast behind [] = Unit {0}
TakeLast behind (n ∷ ns) = TakesLast behind n × TakeLast behind ns

abbrev pub TakeFirst : ℕ → List ℕ → Type 0
TakeFirst before [] = Unit {0}
TakeFirst before (n ∷ ns) = TakesFirst before n × TakeFirst before ns

-- each operator stands outside of those that bind more strongly
abbrev pub IsReading : Tree → Type 0
IsReading Operand = Unit {0}
IsReading (Joined n s t) = IsReading s × IsReading t × TakeLast n (strengths s) × TakeFirst n (strengths t)

-- a tree round a place: from the place outwards, the operators of which it is the left or the right operand, with the other one
pub data Context : Type 0 where
  Whole : Context
  Left : ℕ → Tree → Context → Context
  Right : ℕ → Tree → Context → Context

abbrev pub plug : Context → Tree → Tree
plug Whole s = s
plug (Left n t c) s = plug c (Joined n s t)
plug (Right n t c) s = plug c (Joined n t s)

-- the operators right before the place and right behind it
abbrev pub before_place : Context → Option ℕ
before_place Whole = None
before_place (Left n t c) = before_place c
before_place (Right n t c) = Some n

abbrev pub behind_place : Context → Option ℕ
behind_place Whole = None
behind_place (Left n t c) = Some n
behind_place (Right n t c) = behind_place c

abbrev pub joining : ℕ → Operator
joining n = record { strength = n; is_prefix = false }

abbrev pub AreBytes : List ℕ → Type 0
AreBytes [] = Unit {0}
AreBytes (n ∷ ns) = (n ≤ 255) × AreBytes ns

-- the reading of these operators, put in the place of an operand between those two, is a part of the reading of the whole expression:
-- parentheses round it change nothing
abbrev pub KeepsReading : Option Operator → List Operator → Option Operator → Type 0
KeepsReading before inside behind =
    (c : Context) (s t : Tree) → AreBytes (strengths s) → map joining (strengths s) ≡ inside
    → option_map joining (before_place c) ≡ before → option_map joining (behind_place c) ≡ behind
    → IsReading (plug c t) → IsReading s → IsReading (plug c s)
