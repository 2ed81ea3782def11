-- By what `starts_with` says.
use Rattle.std.proofs.Common.{◌∙◌, ◌++◌, ap, drop, inl, inr, length, sym}
use Rattle.std.proofs.lemmas.Bool.{true≢false}
use Rattle.std.proofs.lemmas.Bool.Decides.{Decides-eqb}
use Rattle.std.proofs.lemmas.Slice.Eq.{starts_is}
use Rattle.lus_lawful.proofs.head.begins_journals.Goals as goal

pub returns-then-starts_with : goal.returns-then-starts_with
returns-then-starts_with c =
    let word = c.as_slice-word.result.now in
    let first = starts_is Decides-eqb c.args.bytes.now word c.starts_with.result c.starts_with.ensures.value in
    let rest = drop (length word) c.args.bytes.now in
    (λ t. inl (rest, first.0 t ∙ ap (λ p. p ++ rest) c.as_slice-word.ensures), λ begins. c.if-starts_with.true)

pub returns-else-starts_with : goal.returns-else-starts_with
returns-else-starts_with c =
    let bytes = c.args.bytes.now in
    let word = c.as_slice-word.result.now in
    let first = starts_is Decides-eqb bytes word c.starts_with.result c.starts_with.ensures.value in
    let second = starts_is Decides-eqb word bytes c.starts_with-else-starts_with.result c.starts_with-else-starts_with.ensures.value in (
      λ t. inr (drop (length bytes) word, sym c.as_slice-word.ensures ∙ second.0 t),
      λ begins.
          elim begins [
            | inl b ↦ absurd (true≢false (sym (first.1 b.0 (b.1 ∙ ap (λ p. p ++ b.0) (sym c.as_slice-word.ensures))) ∙ c.if-starts_with.false))
            | inr b ↦ second.1 b.0 (c.as_slice-word.ensures ∙ b.1)
          ],
    )
