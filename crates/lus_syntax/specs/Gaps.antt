-- What stands between tokens: blanks and comments (Lustre V6 reference manual, "Lexical aspects", comments).
use Rattle.std.specs.Prelude.{◌≡◌, ℕ, Bool, true, false, not, ◌||◌, ◌&&◌, ◌==◌, List, [], ◌∷◌, ◌++◌}
use Rattle.std.specs.List.{list_all}
use Rattle.lus_syntax.specs.declared.token.Place.{Place}
use Rattle.lus_syntax.specs.Places.{is_feed, past}

-- space, tab, line feed, carriage return, form feed
abbrev pub is_blank : ℕ → Bool
is_blank b = b == 32 || (b == 9 || (b == 10 || (b == 13 || b == 12)))

-- no line feed
abbrev pub IsLine : List ℕ → Type 0
IsLine body = list_all (λ b. not (is_feed b)) body ≡ true

-- a line's end: a line feed, or the text's end
abbrev pub EndsLine : List ℕ → Type 0
EndsLine [] = Unit {0}
EndsLine (b ∷ bs) = is_feed b ≡ true

-- nowhere a star and then close
abbrev pub Lacks : ℕ → List ℕ → Type 0
Lacks close body = (front rest : List ℕ) → body ≡ front ++ 42 ∷ close ∷ rest → ⊥

-- a blank, or a comment with its end, and what stands behind it
pub data Piece : List ℕ → List ℕ → Type 0 where
  blank : {b : ℕ} {rest : List ℕ} → is_blank b ≡ true → Piece (b ∷ []) rest
  -- -- to the line's end
  line : {body rest : List ℕ} → IsLine body → EndsLine rest → Piece (45 ∷ 45 ∷ body) rest
  -- /* to the next */
  slash : {body rest : List ℕ} → Lacks 47 body → Piece (47 ∷ 42 ∷ (body ++ 42 ∷ 47 ∷ [])) rest
  -- (* to the next *)
  round : {body rest : List ℕ} → Lacks 41 body → Piece (40 ∷ 42 ∷ (body ++ 42 ∷ 41 ∷ [])) rest

-- /* or (* and no end
pub data Unclosed : List ℕ → Type 0 where
  slash_open : {body : List ℕ} → Lacks 47 body → Unclosed (47 ∷ 42 ∷ body)
  round_open : {body : List ℕ} → Lacks 41 body → Unclosed (40 ∷ 42 ∷ body)

-- --, /* or (*
abbrev pub opens : ℕ → List ℕ → Bool
opens b [] = false
opens b (c ∷ rest) = (b == 45 && c == 45) || ((b == 47 && c == 42) || (b == 40 && c == 42))

-- neither a blank nor a comment's opening stands here
abbrev pub IsPlain : List ℕ → Type 0
IsPlain [] = Unit {0}
IsPlain (b ∷ bs) = (is_blank b || opens b bs) ≡ false

-- these pieces lead from text at one place to rest at another
abbrev pub Gap : List (List ℕ) → Place → List ℕ → Place → List ℕ → Type 0
Gap [] at text to rest = (at ≡ to) × (text ≡ rest)
Gap (piece ∷ pieces) at text to rest =
    (after : List ℕ) × (text ≡ piece ++ after) × Piece piece after × Gap pieces (past at piece) after to rest

-- some pieces, or none
abbrev pub IsGap : Place → List ℕ → Place → List ℕ → Type 0
IsGap at text to rest = (pieces : List (List ℕ)) × Gap pieces at text to rest
