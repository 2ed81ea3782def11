-- By what `starts_with` says.
use Rattle.std.proofs.Common.{◌++◌, ◌∙◌, ap, drop, length, sym}
use Rattle.std.proofs.lemmas.Bool.Decides.{Decides-eqb}
use Rattle.std.proofs.lemmas.Slice.Eq.{starts_is}
use Rattle.lus_replay.proofs.replaying.begins_journal.Goals as goal

pub returns : goal.returns
returns c =
    let starts = starts_is Decides-eqb c.args.line.now c.as_slice.result.now c.starts_with.result c.starts_with.ensures.value in
    let rest = drop (length c.as_slice.result.now) c.args.line.now in (
      λ t. (rest, starts.0 t ∙ ap (λ p. p ++ rest) c.as_slice.ensures),
      λ begins. starts.1 begins.0 (begins.1 ∙ ap (λ p. p ++ begins.0) (sym c.as_slice.ensures)),
    )
