-- What `run` promises of devices, as the end of a run of files.
use Rattle.std.proofs.Common.{◌≡◌, ◌∙◌, ◌≢◌, ◌⊎◌, inl, inr, sym, subst, refl, Bool, true, false, Option, Some, None, Result, Ok, Err, IfOk, IfErr, IfSome}
use Rattle.std.proofs.lemmas.Option.{IfSome_then}
use Rattle.lus_host.specs.CallersSpecs.declared.threads.HostError.TheVariants as hosts
use Rattle.lus_syntax.specs.declared.refusal.Refusal.{Refusal}
use Rattle.lus_syntax.specs.declared.refusal.RefusalNumber.{RefusalNumber}
use Rattle.lus_syntax.specs.declared.refusal.RefusalNumber.TheVariants as numbers
use Rattle.lus_program.specs.Programs.{Program}
use Rattle.lus_devices.specs.Devices.{Bytes}
use Rattle.lus_devices.specs.Folders.{Holds, Known, WithFile}
use Rattle.lus_scripts.specs.declared.refusal.ScriptRefusal.{ScriptRefusal}
use Rattle.lus_scripts.specs.declared.refusal.ScriptRefusal.TheVariants as refusals
use Rattle.lus_host.specs.declared.error.RunError.{RunError}
use Rattle.lus_host.specs.declared.error.RunError.TheVariants as runs
use Rattle.lus_host.specs.Errors.{IsRunError}
use Rattle.lus_host.specs.Runs.{BeginsRun, WritesRun}
use Rattle.lus_host.specs.ScriptRefusals.{AreRefused, ScriptsRefused}
use Rattle.lus_host.specs.Sources.{ProgramRefused}
use Rattle.lus_cli.specs.Changes.{Change, HasFailed, IsSound}
use Rattle.lus_cli.specs.Ends.{RefusesScripts, RunEnds, WithFiles}
use Rattle.lus_cli.specs.Faults.{program_fault, run_outcome, scripts_fault}
use Rattle.lus_cli.specs.declared.fault.Fault.{Fault}
use Rattle.lus_cli.specs.declared.fault.Fault.TheVariants as faults

-- what holds of the bytes that an opened file has left holds of those that are known
by_file : (known : Known) (left : Option Bytes) (P : Bytes → Type 0) → Holds known left → IfSome left P → WithFile known P
by_file None left P holds p = tt
by_file (Some None) left P holds p = absurd holds
by_file (Some (Some bytes)) left P holds p = subst (λ l. IfSome l P) holds p

opened : (known : Known) (left : Option Bytes) (P : Type 0) → Holds known left → P → WithFile known (λ bytes. P)
opened None left P holds p = tt
opened (Some None) left P holds p = absurd holds
opened (Some (Some bytes)) left P holds p = p

-- a refusal of a program is told as such, or as out of memory
by_number : (T : Fault → Type 0) (e : Refusal) (n : RefusalNumber) → e.number ≡ n → T faults.Memory
    → (e.number ≢ numbers.Memory → T (faults.Program e)) → T (program_fault n e)
by_number T e numbers.Memory is memory refused = memory
by_number T e n is memory refused = refused (λ same. let no : n ≡ numbers.Memory = sym is ∙ same in cc)

-- and so is one of scripts
by_script : (T : Fault → Type 0) (e : ScriptRefusal) → T faults.Memory → (e ≢ refusals.Memory → T (faults.Scripts e)) → T (scripts_fault e)
by_script T refusals.Memory memory refused = memory
by_script T e memory refused = refused (λ same. cc)

refused_scripts : (p : Program) (bytes : Bytes) (e : ScriptRefusal) → e ≢ refusals.Memory → AreRefused p bytes e → ScriptsRefused p bytes e
refused_scripts p bytes refusals.Memory other refused = absurd (other refl)
refused_scripts p bytes e other refused = refused

module _ (read_fails : Known → Type 0) (program scripts : Known) (text bytes : Option Bytes) (output : Change)
    (has_program : Holds program text) (has_scripts : Holds scripts bytes) where
  by_files : (P : Bytes → Bytes → Type 0) → IfSome text (λ t. IfSome bytes (λ b. P t b)) → WithFiles program scripts P
  by_files P p = by_file program text (λ t. WithFile scripts (λ b. P t b)) has_program
      (IfSome_then text p (λ t q. by_file scripts bytes (λ b. P t b) has_scripts q))

  by_program : (P : Bytes → Type 0) → IfSome text P → WithFiles program scripts (λ t b. P t)
  by_program P p = by_file program text (λ t. WithFile scripts (λ b. P t)) has_program
      (IfSome_then text p (λ t q. opened scripts bytes (P t) has_scripts q))

  by_scripts : (e : ScriptRefusal) → e ≢ refusals.Memory → IsRunError text bytes (runs.Scripts e) → WithFiles program scripts (RefusesScripts e)
  by_scripts e other cause = by_files (RefusesScripts e)
      (IfSome_then text cause (λ t q. IfSome_then bytes q.2 (λ b r. (q.0, q.1, refused_scripts q.0 b e other r))))

  pub run_ended : (r : Result Bool RunError)
      → IfOk r (λ done. IfSome text (λ t. IfSome bytes (λ b. WritesRun t b done output.old output.new)))
      → IfErr r (λ e. IsRunError text bytes e)
      → (r ≡ Err runs.Write → IfSome text (λ t. IfSome bytes (λ b. BeginsRun t b output.old output.new)))
      → IfErr r (λ e. e ≢ runs.Write → e ≢ runs.Memory → output.new ≡ output.old)
      → (r ≡ Err runs.Memory → (output.new ≡ output.old) ⊎ IfSome text (λ t. IfSome bytes (λ b. BeginsRun t b output.old output.new)))
      → ((r ≡ Err runs.Write → ⊥) → IsSound output)
      → (r ≡ Err runs.Write → HasFailed output)
      → (r ≡ Err runs.Read → read_fails program ⊎ read_fails scripts)
      → RunEnds read_fails program scripts (run_outcome r) output
  run_ended (Ok true) ok cause begins kept cut sound failed read =
      (by_files (λ t b. WritesRun t b true output.old output.new) ok, sound (λ same. cc))
  run_ended (Ok false) ok cause begins kept cut sound failed read =
      (inr (inr (by_files (λ t b. WritesRun t b false output.old output.new) ok)), sound (λ same. cc))
  run_ended (Err (runs.Program e)) ok cause begins kept cut sound failed read =
      let same : output.new ≡ output.old = kept (λ same. cc) (λ same. cc) in
      let sound : IsSound output = sound (λ same. cc) in
      by_number (λ f. RunEnds read_fails program scripts (Err f) output) e e.number refl (inl same, sound)
      (λ other. (by_program (λ t. ProgramRefused t e) (cause other), (same, sound)))
  run_ended (Err (runs.Scripts e)) ok cause begins kept cut sound failed read =
      let same : output.new ≡ output.old = kept (λ same. cc) (λ same. cc) in
      let sound : IsSound output = sound (λ same. cc) in
      by_script (λ f. RunEnds read_fails program scripts (Err f) output) e (inl same, sound)
      (λ other. (by_scripts e other cause, (same, sound)))
  run_ended (Err runs.Read) ok cause begins kept cut sound failed read =
      (elim (read refl) [ inl failed ↦ inl (inr failed) | inr failed ↦ inr (inr failed) ], (kept (λ same. cc) (λ same. cc), sound (λ same. cc)))
  run_ended (Err runs.Write) ok cause begins kept cut sound failed read =
      (by_files (λ t b. BeginsRun t b output.old output.new) (begins refl), failed refl)
  run_ended (Err (runs.Host hosts.Memory)) ok cause begins kept cut sound failed read = (inl (kept (λ same. cc) (λ same. cc)), sound (λ same. cc))
  run_ended (Err (runs.Host hosts.Start)) ok cause begins kept cut sound failed read = (kept (λ same. cc) (λ same. cc), sound (λ same. cc))
  run_ended (Err (runs.Host hosts.Seats)) ok cause begins kept cut sound failed read = absurd cause
  run_ended (Err runs.Memory) ok cause begins kept cut sound failed read =
      (elim (cut refl) [ inl same ↦ inl same | inr began ↦ inr (inl (by_files (λ t b. BeginsRun t b output.old output.new) began)) ], sound (λ same. cc))
