-- No pairs are left.
use Rattle.std.proofs.Common.{◌≡◌, ◌∙◌, ◌++◌, ◌⊎◌, inl, inr, ap, sym, refl, List, [], ◌∷◌, append-nil}
use Rattle.std.proofs.lemmas.Slice.Zip.{either_empty_from_Zip}
use Rattle.lus_values.specs.Values.{Row}
use Rattle.lus_diagrams.specs.Columns.{paired}
use Rattle.lus_diagrams.proofs.given.paired.Goals as goal

unpaired : (is : List Row) → paired is [] ≡ []
unpaired [] = refl
unpaired (i ∷ is) = refl

none_left : (is os rows want : List Row) → (is ≡ []) ⊎ (os ≡ []) → rows ++ paired is os ≡ want → rows ≡ want
none_left is os rows want (inl e) h = sym (append-nil rows) ∙ ap (λ js. rows ++ paired js os) (sym e) ∙ h
none_left is os rows want (inr e) h = sym (append-nil rows) ∙ ap (λ t. rows ++ t) (sym (unpaired is)) ∙ ap (λ ps. rows ++ paired is ps) (sym e) ∙ h

pub returns : goal.returns
returns c = none_left _ _ c.loop-input.rows.items _ (either_empty_from_Zip c.loop-input.input-iterator c.next.new.self _ c.in-None.is c.next.ensures.steps) c.loop-input.invariant
