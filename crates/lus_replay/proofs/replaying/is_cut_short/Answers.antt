-- By what `ends_with` says.
use Rattle.std.proofs.Common.{◌-◌, ◌++◌, ◌∙◌, ap, length, sym, take}
use Rattle.std.proofs.lemmas.Bool.Decides.{Decides-eqb}
use Rattle.std.proofs.lemmas.Slice.Eq.{ends_is}
use Rattle.lus_replay.proofs.replaying.is_cut_short.Goals as goal

pub returns : goal.returns
returns c =
    let ends = ends_is Decides-eqb c.args.line.now c.as_slice.result.now c.ends_with.result c.ends_with.ensures.value in
    let tail = take (length c.args.line.now - length c.as_slice.result.now) c.args.line.now in (
      λ t. (tail, ends.0 t ∙ ap (λ p. tail ++ p) c.as_slice.ensures),
      λ cut. ends.1 cut.0 (cut.1 ∙ ap (λ p. cut.0 ++ p) (sym c.as_slice.ensures)),
    )
