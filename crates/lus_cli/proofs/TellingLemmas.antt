-- A fault that is told behind what was said before.
use Rattle.std.proofs.Common.{◌≡◌, ℕ, refl, subst, Option}
use Rattle.lus_devices.specs.Devices.{Bytes}
use Rattle.lus_cli.specs.Changes.{IsUntouched, change}
use Rattle.lus_cli.specs.Faults.{IsQuiet, IsToldAlone, IsToldBy}
use Rattle.lus_cli.specs.declared.fault.Fault.{Fault}
use Rattle.lus_cli.specs.declared.fault.Fault.TheVariants as faults

-- a fault is told behind what was said before
module _ (status : ℕ) (old mid new : Option Bytes) (before between after : Option ℕ) where
  same_told : (f : Fault) → IsUntouched (change old mid before between) → IsToldBy status f (change mid new between after)
      → IsToldBy status f (change old new before after)
  same_told f same told =
      subst (λ o. IsToldBy status f (change o new before after)) same.0
      (subst (λ n. IsToldBy status f (change mid new n after)) same.1 told)

  pub told_alone : (f : Fault) → IsQuiet f (change old mid before between) → IsToldBy status f (change mid new between after)
      → IsToldAlone status f (change old new before after)
  told_alone (faults.Journal n) quiet told = (mid, between, told)
  told_alone (faults.Program e) quiet told = same_told (faults.Program e) quiet told
  told_alone (faults.Signal n) quiet told = same_told (faults.Signal n) quiet told
  told_alone (faults.Scripts e) quiet told = (mid, between, told)
  told_alone faults.Words quiet told = same_told faults.Words quiet told
  told_alone faults.File quiet told = same_told faults.File quiet told
  told_alone faults.Output quiet told = same_told faults.Output quiet told
  told_alone faults.Memory quiet told = same_told faults.Memory quiet told
  told_alone faults.Start quiet told = same_told faults.Start quiet told
