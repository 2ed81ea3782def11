-- When all tables pass.
use Rattle.std.proofs.Common.{◌≡◌, ◌∙◌, ◌≤◌, ◌+◌, ℕ, Bool, true, false, refl, sym, subst, ap, List, ◌∷◌, length, take, Option, Some, None}
use Rattle.std.proofs.Common.{arith}
use Rattle.std.proofs.lemmas.List.{length-take, take_all}
use Rattle.lus_values.specs.Names.{Text}
use Rattle.lus_program.specs.Programs.{Program}
use Rattle.lus_requests.specs.declared.request.Reply.{Reply}
use Rattle.lus_devices.specs.Devices.{Bytes}
use Rattle.lus_devices.specs.Folders.{Known, WithFile}
use Rattle.lus_cli.specs.Faults.{fault_status}
use Rattle.lus_cli.specs.MachineSpecs.Formals.{node_named}
use Rattle.lus_cli.specs.declared.fault.Fault.{Fault}
use Rattle.lus_cli.specs.declared.fault.Fault.TheVariants as faults
use Rattle.lus_cli.proofs.ProgramLemmas.{file_then}
use Rattle.lus_test.specs.Ends.{FilePasses, HasRecords, IsNamed, IsPassed, TablePasses, has_objects}
use Rattle.lus_test.specs.Tables.{AreRecordsOf}
use Rattle.lus_test.specs.Tests.{HasTested, Passes}
use Rattle.lus_test.specs.declared.finding.Finding.{Finding}
use Rattle.lus_test.specs.declared.finding.Finding.TheVariants.{Passed, Refused, Differs}

-- no fault has status 0
pub fault_fails : (f : Fault) → fault_status f ≡ 0 → ⊥
fault_fails (faults.Program r) is = omega arith
fault_fails (faults.Scripts r) is = omega arith
fault_fails (faults.Journal n) is = omega arith
fault_fails (faults.Signal n) is = omega arith
fault_fails faults.Words is = omega arith
fault_fails faults.File is = omega arith
fault_fails faults.Output is = omega arith
fault_fails faults.Memory is = omega arith
fault_fails faults.Start is = omega arith

pub passed_is : (f : Finding) → IsPassed f → f ≡ Passed
passed_is Passed is = refl
passed_is (Refused row) is = absurd is
passed_is (Differs row cell) is = absurd is

pub passed_so : (f : Finding) → f ≡ Passed → IsPassed f
passed_so f is = subst IsPassed (sym is) tt

-- the records of the bytes that were read are those of the file, where they are all of its bytes
whole : (most : ℕ) (bytes items : Bytes) → items ≡ take (most + 1) bytes → length items ≤ most → items ≡ bytes
whole most bytes items is few = is ∙ take_all (most + 1) bytes (omega (arith, ap length is, length-take (most + 1) bytes))

pub text_file : (most : ℕ) (items : Bytes) (file : Known) → WithFile file (λ bytes. items ≡ take (most + 1) bytes) → length items ≤ most
    → WithFile file (λ bytes. items ≡ bytes)
text_file most items file read few =
    file_then file (λ bytes. items ≡ take (most + 1) bytes) (λ bytes. items ≡ bytes) (λ bytes is. whole most bytes items is few) read

-- records that were tested pass, and those of a file
pub tested_file : (p : Program) (f : ℕ) (name : Text) (objects : Bool) (file : Known) (records : List (List Text)) (names : List Text)
    (rows : List (List Text)) (replies : List Reply) (finding : Finding) → records ≡ names ∷ rows
    → node_named p name ≡ Some f → HasRecords objects file records → HasTested p f names rows replies finding → finding ≡ Passed
    → FilePasses p name objects file
tested_file p f name true file records names rows replies finding parts named those tested is =
    (f, named, records, (names, rows, replies, parts, subst (HasTested p f names rows replies) is tested))
tested_file p f name false file records names rows replies finding parts named those tested is = (
  f,
  named,
  file_then file (λ text. AreRecordsOf text records) (Passes p f)
      (λ text are. (names, rows, replies, subst (AreRecordsOf text) parts are, subst (HasTested p f names rows replies) is tested)) those,
)

pub table_passes : (known : Text → Known) (p : Program) (given : Option Text) (name file : Text) → IsNamed given name
    → FilePasses p name (has_objects file) (known file) → TablePasses known p given file
table_passes known p None name file is passes = (name, passes)
table_passes known p (Some given) name file is passes = subst (λ n. FilePasses p n (has_objects file) (known file)) is passes
