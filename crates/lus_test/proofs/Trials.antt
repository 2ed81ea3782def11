-- Runs in which a claim fails, and those in which it doesn't.
use Rattle.std.proofs.Common.{◌≡◌, ◌∙◌, ◌+◌, ℕ, ap, subst, sym, length, map, None, Some}
use Rattle.std.proofs.lemmas.List.{length-map}
use Rattle.csv.specs.Records.{fields_of}
use Rattle.lus_program.specs.Programs.{Program}
use Rattle.lus_test.specs.Claims.{HaveHeld as HaveHeldIn}
use Rattle.lus_test.specs.Ends.{HoldsIn}
use Rattle.lus_test.specs.Named.{IsClaim, IsNodeNamed}
use Rattle.lus_test.specs.Options.{Wanted}
use Rattle.lus_test.specs.Trials.{HaveHeld, IsFailure, IsSubjectOf, IsTrialOf, names_in, program_in}
use Rattle.lus_test.specs.declared.claims.Claim.{Claim}
use Rattle.lus_test.specs.declared.failing.Failure.{Failure}
use Rattle.lus_test.specs.declared.trial.Subject.{Subject}
use Rattle.lus_test.specs.declared.trial.Trial.{Trial}
use Rattle.lus_test.proofs.Held.{none_yet, one_more, trial_held}

-- it is what came of a run of the node
abbrev pub IsTrialHere : Subject → Trial → Type 0
IsTrialHere s t = IsTrialOf s (map fields_of t.rows.items) t.steps.items t.replies.items t.broken

pub failure_is : (s : Subject) (f : Failure) (t : Trial) → f.trial ≡ t → IsTrialHere s t → t.broken ≡ Some f.row → IsFailure s f
failure_is s f t same trial broken = record {
  trial = subst (IsTrialHere s) (sym same) trial;
  broken = ap (λ (u : Trial). u.broken) same ∙ broken;
}

pub held_none : (s : Subject) (count : ℕ) → HaveHeld s 0 count
held_none s count = none_yet (program_in s) s.node.0 s.claim count

pub held_more : (s : Subject) (t : Trial) (runs count : ℕ) → HaveHeld s runs count → IsTrialHere s t → length t.rows.items ≡ count → t.broken ≡ None
    → HaveHeld s (runs + 1) count
held_more s t runs count before trial long none =
    one_more (program_in s) s.node.0 s.claim runs count t.steps.items before
    (trial_held (program_in s) s.node.0 (names_in s) s.claim count (map fields_of t.rows.items) t.steps.items t.replies.items t.broken trial
    (length-map t.rows.items fields_of ∙ long) none)

-- a claim of a program holds where it does of the node that is tried
pub holds_in : (p : Program) (w : Wanted) (c : Claim) (s : Subject) → IsNodeNamed p w.node c.node.0 → IsClaim p w.claim c → IsSubjectOf p c s
    → HaveHeld s w.runs w.steps → HoldsIn p w
holds_in p w c s named claim same held = record {
  claim = c;
  named = named;
  is_claim = claim;
  held = subst (λ q. HaveHeldIn q c.node.0 c.place w.runs w.steps) same.program
      (subst (λ n. HaveHeldIn (program_in s) n.0 c.place w.runs w.steps) same.node
      (subst (λ k. HaveHeldIn (program_in s) s.node.0 k w.runs w.steps) same.claim held));
}
