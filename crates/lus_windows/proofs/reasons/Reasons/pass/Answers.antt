-- The next line has the next number.
use Rattle.std.proofs.Common.{refl}
use Rattle.lus_windows.specs.declared.reasons.Reasons.{Reasons}
use Rattle.lus_windows.proofs.Noted.{passed}
use Rattle.lus_windows.proofs.reasons.Reasons.pass.Goals as goal

pub returns : goal.returns
returns c =
    let old = c.args.self.now in
    let new : Reasons = record old { line = c.saturating_add-self.result } in
    λ p f names instance first h k. passed p f names instance first h old new refl refl c.saturating_add-self.ensures k
