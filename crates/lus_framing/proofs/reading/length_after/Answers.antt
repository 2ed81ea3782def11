-- The line says it, or lines before do.
use Rattle.std.proofs.Common.{Some, None, refl}
use Rattle.lus_framing.proofs.reading.length_after.Goals as goal

pub returns-in-Some : goal.returns-in-Some
returns-in-Some c = (Some c.in-Some.length, c.in-Some.ensures, refl)

pub returns-in-None : goal.returns-in-None
returns-in-None c = (None, tt, refl)
