-- How a host of many instances ends, by how its parts do.
use Rattle.std.proofs.Common.{◌≡◌, ◌∙◌, ℕ, Bool, true, false, ap, inl, inr, refl, subst, sym, List, [], Option, Some, None, Result, Ok, Err, IfErr, IfOk, OnErr}
use Rattle.lus_program.specs.Programs.{Program}
use Rattle.lus_devices.specs.Devices.{Bytes}
use Rattle.lus_devices.specs.Folders.{Holds, Known}
use Rattle.lus_bursts.specs.Syncs.{Safety}
use Rattle.lus_hosting.specs.LiveSpecs.MachineSpecs.Constructors.{names_of}
use Rattle.lus_hosting.specs.Logs.{Logged}
use Rattle.lus_hosting.specs.Recoveries.{HasRecovered}
use Rattle.lus_hosting.specs.Recoveries.{IsRecovered as IsReplayed}
use Rattle.lus_hosting.specs.Spellings.{Spelling, log_spelling, no_spelling}
use Rattle.lus_hosting.specs.Turns.{AreSafe, HasHosted, HasHostedSome, Reads, StopsBy, calls, everything}
use Rattle.lus_hosting.specs.declared.recovering.Recovered.{Recovered}
use Rattle.lus_cli.specs.Changes.{Change, change}
use Rattle.lus_cli.specs.CommandLine.{Text}
use Rattle.lus_cli.specs.MachineSpecs.Formals.{node_named}
use Rattle.lus_cli.specs.Programs.{IsOfFile, IsProgramFault}
use Rattle.lus_cli.specs.declared.fault.Fault.{Fault}
use Rattle.lus_cli.specs.declared.fault.Fault.TheVariants as faults
use Rattle.lus_cli.proofs.ProgramLemmas.{file_then}
use Rattle.lus_live.specs.Ends.{IsRecoveryFault}
use Rattle.lus_live.specs.declared.limits.Limits.{Limits}
use Rattle.lus_many.specs.CommandLine.{Asked, Session}
use Rattle.lus_many.specs.Ends.{AsksSession, CutsTail, GoesOn, HasGoneOn, HasRunIn, HostFails, Hosted, HostedOn, IsRecovered, IsSessionFault, LogStays, Ran, Readies, StaysIn, TaskEnds, spelling_of}
use Rattle.lus_many.specs.Objects.{node_spelling}

-- what was hosted, whether to the end or not
pub hosted : (is_json : Bool) (p : Program) (f : ℕ) (left end : Option Bytes) (ran : Ran) (output : Change)
    → IfOk ran (λ score. HasHosted everything p f no_spelling (spelling_of is_json p f) [] left end None None output.old output.new score)
    → OnErr ran (HasHostedSome everything p f no_spelling (spelling_of is_json p f) [] left None None output.old output.new)
    → Hosted is_json p f left end ran output
hosted is_json p f left end (Ok score) output all begun = all
hosted is_json p f left end (Err e) output all begun = begun

-- the form that is asked for
pub spelled_json : (is_json : Bool) (p : Program) (f : ℕ) (s : Spelling) → is_json ≡ true → s ≡ node_spelling p f → s ≡ spelling_of is_json p f
spelled_json is_json p f s is same = same ∙ ap (λ b. spelling_of b p f) (sym is)

pub spelled_log : (is_json : Bool) (p : Program) (f : ℕ) (s : Spelling) → is_json ≡ false → s ≡ log_spelling (names_of p) → s ≡ spelling_of is_json p f
spelled_log is_json p f s is same = same ∙ ap (λ b. spelling_of b p f) (sym is)

-- what was hosted, behind what a log has
hosted_on : (reads : Reads) (j : Spelling) (is_json : Bool) (p : Program) (f : ℕ) (before : List Logged) (left end : Option Bytes) (log : Change) (ran : Ran)
    (output : Change)
    → IfOk ran (λ score. HasHosted reads p f j (spelling_of is_json p f) before left end log.old log.new output.old output.new score)
    → OnErr ran (HasHostedSome reads p f j (spelling_of is_json p f) before left log.old log.new output.old output.new)
    → IfErr ran (StopsBy reads) → HostedOn reads j is_json p f before left end log ran output
hosted_on reads j is_json p f before left end log (Ok score) output all begun lasts = all
hosted_on reads j is_json p f before left end log (Err e) output all begun lasts = (begun, lasts)

-- what was recovered of a file that was opened is recovered of its bytes
pub recovered_file : (p : Program) (f : ℕ) (known : Known) (left ahead : Option Bytes) (r : Recovered) → Holds known left → ahead ≡ left
    → IsReplayed p f ahead r → IsRecovered known p f r
recovered_file p f known left ahead r holds same replayed =
    let has = replayed.1 in (
      replayed.0,
      file_then known (λ bytes. left ≡ Some bytes) (λ bytes. HasRecovered p f (Some bytes) replayed.0 r)
          (λ bytes is. subst (λ o. HasRecovered p f o replayed.0 r) (same ∙ is) has) holds,
      has.keeps,
    )

-- where the log's device was this before it was opened and its end was cut
pub gone_on : (p : Program) (f : ℕ) (known : Known) (readies : Option ℕ → ℕ → Type 0) (is_safe : Safety) (is_json : Bool) (session : Session)
    (left end : Option Bytes) (log : Change) (l : Option Bytes) (ran : Ran) (output : Change) (r : Recovered) → l ≡ log.old
    → (recovered : IsRecovered known p f r) → readies r.cut r.bytes
    → IfOk ran (λ score. HasHosted (calls session.caller) p f (log_spelling (names_of p)) (spelling_of is_json p f) recovered.0 left end l log.new output.old output.new score)
    → OnErr ran (HasHostedSome (calls session.caller) p f (log_spelling (names_of p)) (spelling_of is_json p f) recovered.0 left l log.new output.old output.new)
    → IfErr ran (StopsBy (calls session.caller))
    → (session.is_synced ≡ true
    → AreSafe (calls session.caller) p f (log_spelling (names_of p)) (spelling_of is_json p f) recovered.0 is_safe left l log.new output.old output.new)
    → HasGoneOn known readies is_safe is_json session p f left end log ran output
gone_on p f known readies is_safe is_json session left end log l ran output r same recovered readied all begun lasts safe = record {
  recovered = r;
  before = recovered.0;
  replayed = recovered.1;
  readied = readied;
  hosted = hosted_on (calls session.caller) (log_spelling (names_of p)) is_json p f recovered.0 left end log ran output
      (subst (λ k. IfOk ran (λ score. HasHosted (calls session.caller) p f (log_spelling (names_of p)) (spelling_of is_json p f) recovered.0 left end k log.new output.old output.new score)) same all)
      (subst (λ k. OnErr ran (HasHostedSome (calls session.caller) p f (log_spelling (names_of p)) (spelling_of is_json p f) recovered.0 left k log.new output.old output.new)) same begun)
      lasts;
  safe = λ is. subst (λ k. AreSafe (calls session.caller) p f (log_spelling (names_of p)) (spelling_of is_json p f) recovered.0 is_safe left k log.new output.old output.new) same (safe is);
}

-- nothing was cut, or what stood behind so many bytes
pub cut_none : {L : Type 0} → (cuts : L → ℕ → L → Type 0) (cut : Option ℕ) (bytes : ℕ) (log : L) → cut ≡ None → CutsTail cuts cut bytes log log
cut_none cuts cut bytes log is = subst (λ o. CutsTail cuts o bytes log log) (sym is) refl

pub cut_some : {L : Type 0} → (cuts : L → ℕ → L → Type 0) (cut : Option ℕ) (bytes line : ℕ) (log new : L) → cut ≡ Some line → cuts log bytes new
    → CutsTail cuts cut bytes log new
cut_some cuts cut bytes line log new is taken = subst (λ o. CutsTail cuts o bytes log new) (sym is) taken

-- a fault of the program
pub program_fails : (read_fails : Known → Type 0) (limits : Limits) (file : Known) (name : Text) (session : Option Session) (f : Fault) → IsProgramFault read_fails file f
    → HostFails read_fails limits file name session f
program_fails read_fails limits file name session faults.File lost = inl lost
program_fails read_fails limits file name session (faults.Program e) refused = refused
program_fails read_fails limits file name session faults.Memory memory = tt
program_fails read_fails limits file name session (faults.Journal n) never = absurd never
program_fails read_fails limits file name session (faults.Signal n) never = absurd never
program_fails read_fails limits file name session (faults.Scripts e) never = absurd never
program_fails read_fails limits file name session faults.Words never = absurd never
program_fails read_fails limits file name session faults.Output never = absurd never
program_fails read_fails limits file name session faults.Start never = absurd never

-- a fault of a log, of a node that the program has
log_fails : (read_fails : Known → Type 0) (limits : Limits) (file : Known) (name : Text) (session : Option Session) (f : Fault) → AsksSession file name session → IsRecoveryFault f
    → HostFails read_fails limits file name session f
log_fails read_fails limits file name session faults.File asks is = inr asks
log_fails read_fails limits file name session (faults.Program e) asks never = absurd never
log_fails read_fails limits file name session faults.Memory asks is = tt
log_fails read_fails limits file name session (faults.Journal n) asks is = asks
log_fails read_fails limits file name session (faults.Signal n) asks never = absurd never
log_fails read_fails limits file name session (faults.Scripts e) asks never = absurd never
log_fails read_fails limits file name session faults.Words asks never = absurd never
log_fails read_fails limits file name session faults.Output asks never = absurd never
log_fails read_fails limits file name session faults.Start asks never = absurd never

session_fails : (read_fails : Known → Type 0) (limits : Limits) (file : Known) (name : Text) (session : Option Session) (f : Fault) → AsksSession file name session
    → IsSessionFault f → HostFails read_fails limits file name session f
session_fails read_fails limits file name session f asks fault =
    elim fault [
      | inl is ↦ log_fails read_fails limits file name session f asks is
      | inr is ↦ subst (HostFails read_fails limits file name session) (sym is) asks
    ]

module _ (read_fails : Known → Type 0) (known : Text → Known) (readies : Readies) (is_safe : Safety) (left end : Option Bytes) (log : Change) (asked : Asked)
    (p : Program) (node : ℕ) (output : Change) (accepted : IsOfFile (known asked.program) p) (named : node_named p asked.node ≡ Some node) where
  -- with a log or without one
  pub task_ran : (session : Option Session) (ran : Ran) → asked.session ≡ session
      → HasRunIn known readies is_safe asked.is_json session p node left end log ran output → TaskEnds read_fails known readies is_safe left end log asked (Ok ran) output
  task_ran session ran is hosted = record {
    program = p;
    accepted = accepted;
    node = node;
    named = named;
    hosted = subst (λ k. HasRunIn known readies is_safe asked.is_json k p node left end log ran output) (sym is) hosted;
  }

  pub task_goes : (session : Session) (result : Result Ran Fault) → asked.session ≡ Some session
      → GoesOn (known session.log) (readies session.log) is_safe asked.is_json session p node left end log result output
      → TaskEnds read_fails known readies is_safe left end log asked result output
  task_goes session (Ok ran) is goes = task_ran (Some session) ran is goes
  task_goes session (Err f) is goes = (
    session_fails read_fails asked.limits (known asked.program) asked.node asked.session f
        (subst (AsksSession (known asked.program) asked.node) (sym is) (p, node, accepted, named)) goes.0,
    goes.1,
    goes.2,
    goes.3,
  )

-- a log that is left alone
pub still_stays : (asked : Option Asked) (w : Option Bytes) (n : Option ℕ) → LogStays asked (change w w n n)
still_stays None w n = (refl, refl)
still_stays (Some asked) w n = go asked.session
  where
    go : (session : Option Session) → StaysIn session (change w w n n)
    go None = (refl, refl)
    go (Some session) = tt

-- one that a session goes on in
pub session_stays : (o : Option Session) (session : Session) (log : Change) → o ≡ Some session → StaysIn o log
session_stays o session log is = subst (λ k. StaysIn k log) (sym is) tt
