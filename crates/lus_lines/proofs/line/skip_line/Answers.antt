-- The byte that was read is plain.
use Rattle.std.proofs.Common.{rules, nat_eq, false, ◌≡◌, ◌∙◌, ◌++◌, ◌∷◌, [], ap, refl, get_or}
use Rattle.lus_devices.specs.Devices.{with_front}
use Rattle.lus_lines.proofs.LineLaws.{begun_byte, one_byte}
use Rattle.lus_lines.proofs.line.skip_line.Goals as goal

pub loop-skipped-preserved : goal.loop-skipped-preserved
loop-skipped-preserved g c =
    let front = one_byte c.in_ok-given.given c.read.new.buffer (c.read.auto.buffer ∙ c.loop-skipped.invariant.0) c.in_ok-given.ensures.within c.if-given-eq0.false in
    let other : nat_eq (get_or c.read.new.buffer 0 0) 10 ≡ false = search rules in
    let given = c.in_ok-given.ensures.given ∙ ap (λ bs. with_front bs (g.S.Source.left c.read.new.self)) front in (
      c.read.auto.buffer ∙ c.loop-skipped.invariant.0,
      (
        c.loop-skipped.invariant.1.0 ++ get_or c.read.new.buffer 0 0 ∷ [],
        begun_byte _ _ _ _ _ _ c.loop-skipped.invariant.1.1 given other refl,
      ),
    )
