-- A taker is alone.
use Rattle.std.proofs.Common.{◌≡◌, ap, sym, arith}
use Rattle.std.specs.Prelude.{cond}
use mathlib.Core.Logic.{dite}
use native.Mathlib.Decide.{ℕ_discrete}
use Rattle.lus_shared.specs.Laws.{TakersAreAlone}
use Rattle.lus_shared.proofs.Keeps.{bit}
use Rattle.lus_shared.proofs.Lists.{sum_at, sum_two}

pub takers_are_alone : TakersAreAlone
takers_are_alone o s sound place v at is =
    let one : bit v ≡ 1 = ap (λ b. cond b 1 0) is in
    let facts = (sound.seats place v at).taker is in (
      (facts.0, facts.1, sym facts.2),
      omega (arith, sound.word, sound.at_most_one, sum_at bit s.views place v at),
      λ other w at' is'. dite (ℕ_discrete other place)
          (λ same. same)
          (λ apart. let also : bit w ≡ 1 = ap (λ b. cond b 1 0) is' in absurd (omega (arith, sound.at_most_one, sum_two bit s.views place other v w apart at at'))),
    )
