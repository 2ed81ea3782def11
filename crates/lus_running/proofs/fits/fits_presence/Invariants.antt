use Rattle.std.proofs.Common.{ℕ, ◌<◌, map}
use Rattle.lus_values.specs.View.{entry_of}
use Rattle.lus_running.specs.Fits.{FitsLook}
use Rattle.lus_running.proofs.fits.fits_presence.Given as goal

abbrev pub invariant-loop-variable : goal.invariant-loop-variable
invariant-loop-variable l = (x : ℕ) → x < l.variable → FitsLook l.class (map entry_of l.inputs) x
