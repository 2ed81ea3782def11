-- What the threads of callers leave.
use Rattle.std.specs.Prelude.{ℕ, Bool, List}
use Rattle.std.specs.List.{AllZip}
use Rattle.lus_shared.specs.Knowledge.{Standing}
use Rattle.lus_callers.specs.declared.caller.Ended.{Ended}
use Rattle.lus_callers.specs.declared.threads.Job.{Job}
use Rattle.lus_callers.specs.Fronts.{IsDone}

-- each job is done, and left this
abbrev pub AreDone : {N S : Type 0} → (N → S → Type 0) → (S → ℕ) → (S → ℕ) → (S → Standing) → Bool → List N → List (Job S) → List (Ended S) → Type 0
AreDone belongs number made standing tells nodes jobs ends =
    AllZip (λ j e. IsDone belongs number made standing tells nodes j.calls.now j.seats.items e.want e.seats.items) jobs ends
