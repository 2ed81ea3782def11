-- Nothing is said of text and waves, and a page isn't asked for.
use Rattle.std.proofs.Common.{◌≡◌, false, subst}
use Rattle.std.proofs.lemmas.Bool.{true≢false}
use Rattle.lus_draw.specs.Drawings.{is_page}
use Rattle.lus_draw.specs.declared.words.Format.TheVariants as formats
use Rattle.lus_draw.proofs.Drawn.{as_is, if_ok}
use Rattle.lus_draw.proofs.drawing.written.Goals as goal

pub returns-in-Waves : goal.returns-in-Waves
returns-in-Waves c = if_ok c.waves.result _ (λ s. as_is c.args.wanted.format formats.Waves _ c.in-Waves.is tt)

pub returns-in-Text : goal.returns-in-Text
returns-in-Text c = if_ok c.text.result _ (λ s. as_is c.args.wanted.format formats.Text _ c.in-Text.is tt)

pub unreachable-requires : goal.unreachable-requires
unreachable-requires c = true≢false (subst (λ f. is_page f ≡ false) c.in-Html.is c.requires)
