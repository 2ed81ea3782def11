-- A read failed once more, or none did.
use Rattle.std.proofs.Common.{◌≡◌, ◌∙◌, ap, subst}
use Rattle.lus_devices.specs.Devices.{one_more}
use Rattle.lus_draw.specs.Reading.{failures_since}
use Rattle.lus_draw.proofs.reading.OpenedSource.read.Goals as goal

pub invariant_of-self-in_default : goal.invariant_of-self-in_default
invariant_of-self-in_default g c =
    let before = subst (λ b. g.S.Source.failures c.args.self.now.source ≡ failures_since b g.K.Selects.failures) c.if-self.false c.args.self.now.counted in
    record { counted = c.in_default.ensures.failed ∙ ap one_more before }
