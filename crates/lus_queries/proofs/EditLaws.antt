-- Changes as they are appended.
use Rattle.std.proofs.Common.{◌≡◌, ◌∙◌, ◌++◌, ◌+◌, ◌<◌, ℕ, List, [], ◌∷◌, ap, append_assoc, append-nil, arith, flat_map, get_or, length, sym, take}
use Rattle.std.proofs.lemmas.List.{take_more}
use Rattle.std.proofs.lemmas.List.Concat.{flat_map-append}
use Rattle.lus_syntax.specs.Lexemes.{Text}
use Rattle.lus_queries.specs.declared.changes.Change.{Change}
use Rattle.lus_queries.specs.Edits.{edit_text, edits_text, other_edit_text}

pub pushed_on : (old more most : Text) {new newest : Text} → new ≡ old ++ more → newest ≡ new ++ most → newest ≡ old ++ (more ++ most)
pushed_on old more most first second = second ∙ (ap (λ t. t ++ most) first ∙ append_assoc old more most)

-- the next of some changes was appended
pub pushed_next : (old mid new : Text) (cs : List Change) (i : ℕ) (d : Change) → i < length cs
    → mid ≡ old ++ flat_map other_edit_text (take i cs) → new ≡ mid ++ other_edit_text (get_or cs i d)
    → new ≡ old ++ flat_map other_edit_text (take (i + 1) cs)
pushed_next old mid new cs i d within before pushed =
    pushed_on old (flat_map other_edit_text (take i cs)) (other_edit_text (get_or cs i d)) before pushed
    ∙ ap (λ t. old ++ t) (sym (flat_map_next cs i d within))
  where
    flat_map_next : (cs : List Change) (i : ℕ) (d : Change) → i < length cs
        → flat_map other_edit_text (take (i + 1) cs) ≡ flat_map other_edit_text (take i cs) ++ other_edit_text (get_or cs i d)
    flat_map_next cs i d within =
        ap (flat_map other_edit_text) (take_more cs i d within)
        ∙ flat_map-append other_edit_text (take i cs) (get_or cs i d ∷ [])
        ∙ ap (λ t. flat_map other_edit_text (take i cs) ++ t) (append-nil (other_edit_text (get_or cs i d)))

pub no_edits : (text : Text) (cs : List Change) → length cs ≡ 0 → text ≡ text ++ edits_text cs
no_edits text [] none = sym (append-nil text)
no_edits text (c ∷ cs) none = absurd (omega (arith, none))

pub some_edits : (old new newest : Text) (c : Change) (cs others : List Change) → cs ≡ c ∷ others → new ≡ old ++ edit_text c
    → newest ≡ new ++ flat_map other_edit_text others → newest ≡ old ++ edits_text cs
some_edits old new newest c cs others begins first rest =
    pushed_on old (edit_text c) (flat_map other_edit_text others) first rest ∙ ap (λ ds. old ++ edits_text ds) (sym begins)
