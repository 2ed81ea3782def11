-- How strongly operators bind, and when parentheses round a part of an expression leave it as the operators group it: an operand between
-- two operators is taken by the one that binds more strongly; of two that bind as strongly, by the left one (sums, products, `and`, `or`,
-- `xor`), by the right one (`=>`, `->`, `fby`), or by neither (comparisons).
use Rattle.std.specs.Prelude.{ℕ, suc, ◌-◌, Bool, true, false, not, ◌&&◌, ◌||◌, ◌==◌, nat_lt, min, List, [], ◌∷◌, ◌++◌, codes}
use Rattle.std.specs.Prelude.{Option, Some, None, is_none, is_some, map, if◌then◌else◌}
use Rattle.std.specs.Borrow.{Bor}
use Rattle.std.specs.Str.{bytes_eq}
use Rattle.lus_proposals.specs.declared.binding.Operator.{Operator}
use Rattle.lus_proposals.specs.Words.{Word, is_among}

-- ---- operators

-- how strongly operators between operands bind: the more, the stronger
abbrev pub between : List (Word × ℕ)
between =
    (codes "*", 9) ∷ (codes "/", 9) ∷ (codes "div", 9) ∷ (codes "mod", 9) ∷ (codes "+", 8) ∷ (codes "-", 8)
    ∷ (codes "<", 7) ∷ (codes "<=", 7) ∷ (codes ">", 7) ∷ (codes ">=", 7) ∷ (codes "=", 6) ∷ (codes "<>", 6)
    ∷ (codes "and", 4) ∷ (codes "or", 3) ∷ (codes "xor", 3) ∷ (codes "=>", 2) ∷ (codes "->", 1) ∷ (codes "fby", 1) ∷ []

-- likewise those before their operand; `else` stands before the last one of an `if`
abbrev pub before_operand : List (Word × ℕ)
before_operand = (codes "pre", 10) ∷ (codes "-", 10) ∷ (codes "not", 5) ∷ (codes "if", 0) ∷ (codes "else", 0) ∷ []

-- what an operand may stand behind, besides operators: nothing, and what opens or separates
abbrev pub openings : List Word
openings = codes "" ∷ codes "(" ∷ codes "{" ∷ codes "," ∷ codes ";" ∷ codes "then" ∷ codes "when" ∷ []

abbrev pub rows : List (Bor (List ℕ) × ℕ) → List (Word × ℕ)
rows es = map (λ e. (e.0.now, e.1)) es

-- the strength of a word in a table
abbrev pub strength_in : Word → List (Word × ℕ) → Option ℕ
strength_in w [] = None
strength_in w (e ∷ es) = if bytes_eq e.0 w then Some e.1 else strength_in w es

-- what chooses and samples, and the point before a field
abbrev pub others : List Word
others = codes "when" ∷ codes "merge" ∷ codes "then" ∷ codes "." ∷ []

-- whether a word computes, chooses or samples
abbrev pub is_operator : Word → Bool
is_operator w = is_some (strength_in w between) || is_some (strength_in w before_operand) || is_among w others

-- whether an operand may end with a word
abbrev pub ends_operand : Word → Bool
ends_operand w = is_none (strength_in w between) && is_none (strength_in w before_operand) && not (is_among w openings)

abbrev pub operator_of : Bool → Option ℕ → Option Operator
operator_of is_prefix None = None
operator_of is_prefix (Some n) = Some (record { strength = n; is_prefix = is_prefix })

-- the operator that a word is: behind an operand one between operands, else one before its operand
abbrev pub operator_at : Bool → Word → Option Operator
operator_at true w = operator_of false (strength_in w between)
operator_at false w = operator_of true (strength_in w before_operand)

-- how deep a word leaves the parentheses that it stands in; an `if` opens what its `else` closes
abbrev pub deeper : List Word
deeper = codes "(" ∷ codes "{" ∷ codes "if" ∷ []

abbrev pub higher : List Word
higher = codes ")" ∷ codes "}" ∷ codes "else" ∷ []

abbrev pub depth_behind : Word → ℕ → ℕ
depth_behind w depth = if is_among w deeper then suc depth else (if is_among w higher then depth - 1 else depth)

abbrev pub listed : Option Operator → List Operator
listed None = []
listed (Some o) = o ∷ []

abbrev pub shown : Bool → Bool → Word → List Operator
shown true is_behind w = listed (operator_at is_behind w)
shown false is_behind w = []

abbrev pub stands_free : ℕ → Bool → Bool
stands_free depth is_sampled = depth == 0 && not is_sampled

-- the operators that stand in no parentheses, from a depth on, behind an operand or not, behind a `when` or not: the `not` of a clock is
-- none
abbrev pub operators : ℕ → Bool → Bool → List Word → List Operator
operators depth is_behind is_sampled [] = []
operators depth is_behind is_sampled (w ∷ ws) =
    shown (stands_free depth is_sampled) is_behind w
    ++ operators (depth_behind w depth) (ends_operand w) (is_among w (codes "when" ∷ [])) ws

-- ---- groups

-- of two operators of a strength, the left one takes the operand between them, or the right one
abbrev pub groups_left : ℕ → Bool
groups_left n = n == 3 || n == 4 || n == 8 || n == 9

abbrev pub groups_right : ℕ → Bool
groups_right n = nat_lt n 3

-- each operator of a group takes its last operand before the one behind the group does
abbrev pub holds_behind : ℕ → List Operator → Bool
holds_behind behind [] = true
holds_behind behind (o ∷ os) =
    (nat_lt behind o.strength || o.strength == behind && groups_left o.strength) && holds_behind behind os

-- each operator between operands of a group takes its left one before the operator before the group does, unless it binds more strongly
-- than one before its operand to the left, whose operand it is then in: the weakest of these is given
abbrev pub holds_before : ℕ → ℕ → List Operator → Bool
holds_before before weakest [] = true
holds_before before weakest (o ∷ os) =
    if o.is_prefix then holds_before before (min weakest o.strength) os
    else ((nat_lt weakest o.strength || nat_lt before o.strength || o.strength == before && groups_right o.strength)
    && holds_before before weakest os)

abbrev pub is_held_before : Option Operator → List Operator → Bool
is_held_before None os = true
is_held_before (Some o) os = holds_before o.strength 255 os

abbrev pub is_held_behind : Option Operator → List Operator → Bool
is_held_behind None os = true
is_held_behind (Some o) os = holds_behind o.strength os

-- parentheses round operators leave the expression as it is, between the operators before and behind
abbrev pub groups : Option Operator → List Operator → Option Operator → Bool
groups before inside behind = is_held_before before inside && is_held_behind behind inside
