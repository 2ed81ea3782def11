-- A device that is read until it fails.
use Rattle.std.specs.Prelude.{ℕ, Bool, Option, if◌then◌else◌}
use Rattle.lus_devices.specs.Devices.{one_more}

-- how often it has failed, where it has failed since it was opened or not, and so often before
abbrev pub failures_since : Bool → Option ℕ → Option ℕ
failures_since has_failed before = if has_failed then one_more before else before
