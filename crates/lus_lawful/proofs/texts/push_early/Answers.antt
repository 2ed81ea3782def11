-- The pieces, one behind another.
use Rattle.std.proofs.Common.{◌≡◌, ◌∙◌, ◌++◌, ap, append_assoc}
use Rattle.lus_values.specs.Names.{Text}
use Rattle.lus_printable.specs.Printable.{printable}
use Rattle.lus_lawful.proofs.texts.push_early.Goals as goal

pieces : (r i l d end a b first second third last : Text) → first ≡ r ++ a → a ≡ i → second ≡ first ++ l → third ≡ second ++ b → b ≡ d
    → last ≡ third ++ end → last ≡ r ++ (((i ++ l) ++ d) ++ end)
pieces r i l d end a b first second third last one name two three number four =
    let named = one ∙ ap (λ t. r ++ t) name in
    let said = two ∙ ap (λ t. t ++ l) named ∙ append_assoc r i l in
    let numbered = three ∙ ap (λ t. second ++ t) number ∙ ap (λ t. t ++ d) said ∙ append_assoc r (i ++ l) d in
    four ∙ ap (λ t. t ++ end) numbered ∙ append_assoc r ((i ++ l) ++ d) end

pub returns : goal.returns
returns c =
    pieces _ _ _ _ _ _ _ _ _ _ _ c.in_ok-push_printable.ensures (ap printable c.as_bytes.ensures.value) c.in_ok-extend_from_slice.ensures.items
    c.in_ok-extend_from_slice-2.ensures.items (c.as_bytes-2.ensures.value ∙ c.format.ensures.text) c.in_ok-extend_from_slice-3.ensures.items
