-- Comments, one behind the other.
use Rattle.std.proofs.Common.{◌≡◌, ℕ, ◌<◌, List, [], ◌∷◌, ◌++◌, length, take, drop, refl, sym, ap, ◌∙◌, subst, arith, take-append-drop, append_assoc}
use Rattle.std.specs.Str.{IsTrimAsciiEnd}
use Rattle.std.proofs.lemmas.List.{append-nil}
use Rattle.std.proofs.lemmas.Str.Ascii.{trim_ascii_end_is}
use Rattle.lus_syntax.specs.Lexemes.{Text}
use Rattle.lus_syntax.specs.Reading.{Skips}
use Rattle.lus_edits.specs.Kept.{ArePieces, HasComments, note, said, without_end}

empty_note : (w : Text) → length w ≡ 0 → (others : List Text) → others ≡ others ++ note w []
empty_note [] e others = sym (append-nil others)
empty_note (b ∷ bs) e others = absurd (omega (arith, e))

some_note : (w : Text) → 0 < length w → (others : List Text) → others ++ w ∷ [] ≡ others ++ note w []
some_note [] lt others = absurd (omega (arith, lt))
some_note (b ∷ bs) lt others = refl

-- what is empty without the blanks at its end says nothing
pub says_nothing : (others : List Text) (piece text : Text) → IsTrimAsciiEnd piece text → length text ≡ 0 → others ≡ others ++ said (piece ∷ [])
says_nothing others piece text trims e = empty_note (without_end piece) (ap length (sym (trim_ascii_end_is piece text trims)) ∙ e) others

-- anything else is a comment
pub says_text : (others : List Text) (piece text : Text) → IsTrimAsciiEnd piece text → 0 < length text → others ++ text ∷ [] ≡ others ++ said (piece ∷ [])
says_text others piece text trims lt =
    let is = trim_ascii_end_is piece text trims in
    ap (λ (t : Text). others ++ t ∷ []) is ∙ some_note (without_end piece) (subst (λ (t : Text). 0 < length t) is lt) others

note_more : (w : Text) (later : List Text) → note w [] ++ later ≡ note w later
note_more [] later = refl
note_more (b ∷ bs) later = refl

-- a piece more
pub one_more : (gap rest after : Text) (n : ℕ) (piece : Text) (found now later : List Text) → Skips rest n → piece ≡ take n rest → after ≡ drop n rest → now ≡ found ++ said (piece ∷ [])
    → ((more : List Text) → HasComments rest more → HasComments gap (found ++ more)) → HasComments after later → HasComments gap (now ++ later)
one_more gap rest after n piece found now later skips is_piece is_after pushed so_far h =
    let w = without_end (take n rest) in
    let parts : ArePieces h.pieces (drop n rest) = subst (ArePieces h.pieces) is_after h.parts in
    let here : HasComments rest (note w later) = record {
      pieces = take n rest ∷ h.pieces;
      parts = (drop n rest, sym (take-append-drop n rest), skips.piece, parts);
      are = ap (note w) h.are;
    } in
    let same : found ++ note w later ≡ now ++ later =
    ap (λ l. found ++ l) (sym (note_more w later)) ∙ sym (append_assoc found (note w []) later)
    ∙ ap (λ (p : Text). (found ++ said (p ∷ [])) ++ later) (sym is_piece) ∙ ap (λ (l : List Text). l ++ later) (sym pushed) in
    subst (HasComments gap) same (so_far (note w later) here)

-- nothing is left
pub none_left : (gap rest : Text) (found : List Text) → length rest ≡ 0 → ((more : List Text) → HasComments rest more → HasComments gap (found ++ more)) → HasComments gap found
none_left gap [] found e so_far = subst (HasComments gap) (append-nil found) (so_far [] (record { pieces = []; parts = refl; are = refl }))
none_left gap (b ∷ bs) found e so_far = absurd (omega (arith, e))
