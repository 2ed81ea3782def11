-- A text that is written in pieces, until the device fails.
use Rattle.std.proofs.Common.{arith, ◌≡◌, ◌≢◌, ◌∙◌, ℕ, ◌+◌, ◌<◌, inl, inr, refl, sym, ap, true, false, List, [], ◌∷◌, ◌++◌, drop, flat_map, get_or, length, take, append-nil, append_assoc, map, codes, OnOk, OnErr, Option, Result, Ok, Err, IsErr}
use Rattle.std.specs.Fmt.{decimal}
use Rattle.std.proofs.lemmas.List.{drop_more, take-append-drop, take_more}
use Rattle.std.proofs.lemmas.List.Concat.{flat_map-append}
use Rattle.lus_devices.specs.Devices.{Bytes, WritesBeginning, one_more, with_text}
use Rattle.lus_devices.proofs.Laws.{reaches_began, reaches_start, with_text-more}
use Rattle.lus_syntax.specs.Refusals.{cycle_behind, number_text, place_text}
use Rattle.lus_syntax.specs.declared.refusal.RefusalNumber.{RefusalNumber}
use Rattle.lus_syntax.specs.declared.refusal.RefusalNumber.TheVariants as numbers
use Rattle.lus_cli.specs.Changes.{Writes, change}
use Rattle.lus_cli.specs.Faults.{Told}

module _ (start now : Option Bytes) (count before : Option ℕ) (first : Bytes) (written : now ≡ with_text start first) (sound : before ≡ count) where
  -- the first piece was written whole, and then the rest so far as it went
  pub writes_on : {A E : Type 0} (r : Result A E) (next : Option Bytes) (after : Option ℕ) (rest : Bytes)
      → Writes r rest (change now next before after) → Writes r (first ++ rest) (change start next count after)
  writes_on (Ok done) next after rest w = (w.0 ∙ ap (λ o. with_text o rest) written ∙ with_text-more start first rest, w.1 ∙ sound)
  writes_on (Err e) next after rest w =
      (reaches_began start now next (first ++ rest) rest [] (first, written, ap (λ t. first ++ t) (sym (append-nil rest))) w.0, w.1 ∙ ap one_more sound)

  -- the first piece was written whole, and then the device failed in the next one
  pub writes_cut : {A E : Type 0} (r : Result A E) → IsErr r → (next : Option Bytes) (after : Option ℕ) (piece rest whole : Bytes)
      → whole ≡ first ++ (piece ++ rest) → WritesBeginning now next piece → after ≡ one_more before → Writes r whole (change start next count after)
  writes_cut (Ok done) err next after piece rest whole is began failed = let no : false ≡ true = err in cc
  writes_cut (Err e) err next after piece rest whole is began failed = rw is (
    reaches_began start now next (first ++ (piece ++ rest)) piece rest (first, written, refl) began,
    failed ∙ ap one_more sound,
  )

-- where a piece failed, so did the text that begins with it
pub writes_short : {A E : Type 0} (r : Result A E) → IsErr r → (start next : Option Bytes) (count after : Option ℕ) (first rest whole : Bytes)
    → whole ≡ first ++ rest → WritesBeginning start next first → after ≡ one_more count → Writes r whole (change start next count after)
writes_short (Ok done) err start next count after first rest whole is began failed = let no : false ≡ true = err in cc
writes_short (Err e) err start next count after first rest whole is began failed =
    rw is (reaches_began start start next (first ++ rest) first rest (reaches_start start (first ++ rest)) began, failed)

pub pieces_more : {A : Type 0} (f : A → Bytes) (xs : List A) (i : ℕ) (d : A) (piece : Bytes) → piece ≡ f (get_or xs i d) → i < length xs
    → flat_map f (take (i + 1) xs) ≡ flat_map f (take i xs) ++ piece
pieces_more f xs i d piece is within =
    ap (flat_map f) (take_more xs i d within) ∙ flat_map-append f (take i xs) (get_or xs i d ∷ [])
    ∙ ap (λ t. flat_map f (take i xs) ++ t) (append-nil (f (get_or xs i d)) ∙ sym is)

-- a list of pieces, cut at one of them
pub pieces_cut : {A : Type 0} (f : A → Bytes) (xs : List A) (i : ℕ) (d : A) (piece : Bytes) → piece ≡ f (get_or xs i d) → i < length xs
    → flat_map f xs ≡ flat_map f (take i xs) ++ (piece ++ flat_map f (drop (i + 1) xs))
pieces_cut f xs i d piece is within =
    sym (ap (flat_map f) (take-append-drop i xs)) ∙ flat_map-append f (take i xs) (drop i xs)
    ∙ ap (λ ys. flat_map f (take i xs) ++ flat_map f ys) (drop_more xs i d within)
    ∙ ap (λ p. flat_map f (take i xs) ++ (p ++ flat_map f (drop (i + 1) xs))) (sym is)

-- a line that was written so is told
pub told : {A E : Type 0} (r : Result A E) (line : Bytes) (start next : Option Bytes) (count after : Option ℕ)
    → Writes r line (change start next count after) → Told line (change start next count after)
told (Ok done) line start next count after w = inl w
told (Err e) line start next count after w = inr w

-- what `write_all` promises
pub all_written : {A E : Type 0} (r : Result A E) (text : Bytes) (start next : Option Bytes) (count after : Option ℕ)
    → OnOk r (next ≡ with_text start text) → OnOk r (after ≡ count) → OnErr r (WritesBeginning start next text) → OnErr r (after ≡ one_more count)
    → Writes r text (change start next count after)
all_written (Ok done) text start next count after whole quiet beginning failed = (whole, quiet)
all_written (Err e) text start next count after whole quiet beginning failed = (beginning, failed)

flat_map-map : {A B : Type 0} (f : A → B) (g : B → Bytes) (xs : List A) → flat_map g (map f xs) ≡ flat_map (λ x. g (f x)) xs
flat_map-map f g [] = refl
flat_map-map f g (x ∷ xs) = ap (λ t. g (f x) ++ t) (flat_map-map f g xs)

-- a cycle of names, behind a space
pub cycle_is : {A : Type 0} (name : A → Bytes) (xs : List A) (cycle : List Bytes) → map name xs ≡ cycle → 0 < length xs
    → cycle_behind cycle ≡ codes " cycle" ++ flat_map (λ x. 32 ∷ name x) xs
cycle_is name [] cycle is some = absurd (omega arith)
cycle_is name (x ∷ xs) cycle is some = rw (← is) (ap (λ t. codes " cycle" ++ (32 ∷ (name x ++ t))) (flat_map-map name (λ n. 32 ∷ n) xs))

-- what stands last, behind the pieces
piece_last : (n a l b c rest : Bytes) → n ++ a ++ l ++ b ++ c ++ rest ≡ (n ++ (a ++ (l ++ (b ++ (c ++ []))))) ++ rest
piece_last n a l b c rest = simp (append_assoc, append-nil)

-- a refusal other than out of memory has its place behind its number, and then the cycle
pub place_is : (n : RefusalNumber) (line column : Bytes) (l c : ℕ) (cycle : List Bytes) → n ≢ numbers.Memory → line ≡ decimal l → column ≡ decimal c
    → place_text n l c cycle ≡ (number_text n ++ (codes " line " ++ (line ++ (codes " column " ++ (column ++ []))))) ++ cycle_behind cycle
place_is numbers.Memory line column l c cycle other is_line is_column = absurd (other refl)
place_is n line column l c cycle other is_line is_column =
    rw (is_line, is_column) (piece_last (number_text n) (codes " line ") (decimal l) (codes " column ") (decimal c) (cycle_behind cycle))
