-- Spots, byte by byte.
use Rattle.std.proofs.Common.{◌≡◌, ◌∙◌, ◌++◌, ◌+◌, ◌*◌, ◌≤◌, ℕ, zero, suc, Bool, true, false, refl, ap, sym, subst, [], ◌∷◌, length, arith, if◌then◌else◌, nat_lt}
use Rattle.lus_syntax.specs.Lexemes.{Text}
use Rattle.lus_queries.specs.declared.places.Spot.{Spot}
use Rattle.lus_queries.specs.Spots.{ends_line, past, spot_after, units_at}

pub walked_on : (s : Spot) (b k m : ℕ) (bs rest : Text) → rest ≡ b ∷ bs → k ≡ suc m → spot_after s k rest ≡ spot_after (past s b bs) m bs
walked_on s b k m bs rest begins counted = subst (λ j. spot_after s j rest ≡ spot_after (past s b bs) m bs) (sym counted)
    (subst (λ (t : Text). spot_after s (suc m) t ≡ spot_after (past s b bs) m bs) (sym begins) refl)

pub walked_out : (s : Spot) (k : ℕ) (rest : Text) → length rest ≡ 0 → spot_after s k rest ≡ s
walked_out s zero rest none = refl
walked_out s (suc k) [] none = refl
walked_out s (suc k) (b ∷ bs) none = absurd (omega (arith, none))

pub walked_enough : (s : Spot) (k : ℕ) (rest : Text) → k ≡ 0 → spot_after s k rest ≡ s
walked_enough s zero rest none = refl
walked_enough s (suc k) rest none = absurd (omega (arith, none))

abbrev either : Bool → Spot → Spot → Spot
either t one other = if t then one else other

pub line_past : (s : Spot) (b : ℕ) (bs : Text) → (past s b bs).line ≤ s.line + 1
line_past s b bs = go (ends_line b bs)
  where
    go : (t : Bool) → (either t (record { line = s.line + 1; character = 0 }) (record { line = s.line; character = s.character + units_at b })).line ≤ s.line + 1
    go true = omega arith
    go false = omega arith

few_units : (b : ℕ) → units_at b ≤ 2
few_units b = go (nat_lt b 128) (nat_lt b 192) (nat_lt b 240)
  where
    go : (p q r : Bool) → (if p then 1 else (if q then 0 else (if r then 1 else 2))) ≤ 2
    go true q r = omega arith
    go false true r = omega arith
    go false false true = omega arith
    go false false false = omega arith

pub character_past : (s : Spot) (b : ℕ) (bs : Text) → (past s b bs).character ≤ s.character + 2
character_past s b bs = go (ends_line b bs)
  where
    go : (t : Bool) → (either t (record { line = s.line + 1; character = 0 }) (record { line = s.line; character = s.character + units_at b })).character ≤ s.character + 2
    go true = omega arith
    go false = omega (arith, few_units b)

pub line_after : (s : Spot) (n : ℕ) (bs : Text) → (spot_after s n bs).line ≤ s.line + n
line_after s zero bs = omega arith
line_after s (suc n) [] = omega arith
line_after s (suc n) (b ∷ bs) = omega (arith, line_after (past s b bs) n bs, line_past s b bs)

pub character_after : (s : Spot) (n : ℕ) (bs : Text) → (spot_after s n bs).character ≤ s.character + 2 * n
character_after s zero bs = omega arith
character_after s (suc n) [] = omega arith
character_after s (suc n) (b ∷ bs) = omega (arith, character_after (past s b bs) n bs, character_past s b bs)

-- as many bytes on, and then some more
pub spot_further : (s : Spot) (n : ℕ) (before rest : Text)
    → spot_after s (length before + n) (before ++ rest) ≡ spot_after (spot_after s (length before) (before ++ rest)) n rest
spot_further s n [] rest = ap (λ k. spot_after s k rest) (omega arith)
spot_further s n (b ∷ bs) rest =
    walked_on s b (length (b ∷ bs) + n) (length bs + n) (bs ++ rest) (b ∷ (bs ++ rest)) refl (omega arith)
    ∙ spot_further (past s b (bs ++ rest)) n bs rest
    ∙ ap (λ t. spot_after t n rest) (sym (walked_on s b (length (b ∷ bs)) (length bs) (bs ++ rest) (b ∷ (bs ++ rest)) refl (omega arith)))
