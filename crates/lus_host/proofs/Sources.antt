-- Bytes that are read up to one more than a program may have are refused for the reason for which those left are.
use Rattle.std.proofs.Common.{◌≡◌, ◌∙◌, ap, subst, ℕ, ◌+◌, ◌<◌, ◌≤◌, length, take, arith}
use Rattle.std.proofs.lemmas.List.{take_all, length-take}
use Rattle.lus_syntax.specs.declared.refusal.Refusal.{Refusal}
use Rattle.lus_program.specs.Programs.{Program}
use Rattle.lus_devices.specs.Devices.{Bytes}
use Rattle.lus_syntax.specs.Limits.{most_bytes}
use Rattle.lus_callers.specs.MachineSpecs.Acceptance.{Accepted}
use Rattle.lus_host.specs.Sources.{IsNoText, too_long, no_utf8, ProgramRefused, is_no_text, is_refused}

-- where fewer bytes than n were read of those left, they are all
pub read_whole : (n : ℕ) (bytes left : Bytes) → bytes ≡ take n left → length bytes < n → bytes ≡ left
read_whole n bytes left e less =
    let size : length bytes ≡ length (take n left) = ap length e in
    let within : length left ≤ n = omega (arith, length-take n left) in
    e ∙ take_all n left within

pub read_part : (n : ℕ) (bytes left : Bytes) → bytes ≡ take n left → length bytes ≤ length left
read_part n bytes left e =
    let size : length bytes ≡ length (take n left) = ap length e in
    omega (arith, length-take n left)

-- m bytes are allowed, and one more is read
module _ (m n : ℕ) (is : m ≡ most_bytes) (next : n ≡ m + 1) (bytes left : Bytes) (e : Refusal) (read : bytes ≡ take n left) where
  whole : length bytes ≤ most_bytes → bytes ≡ left
  whole short = read_whole n bytes left read (omega arith)

  no_text_left : IsNoText bytes e → IsNoText left e
  no_text_left (too_long long at) = too_long (omega (arith, read_part n bytes left read)) at
  no_text_left (no_utf8 short wrong at) = subst (λ bs. IsNoText bs e) (whole short) (no_utf8 short wrong at)

  pub refused_left : ProgramRefused bytes e → ProgramRefused left e
  refused_left (is_no_text none) = is_no_text (no_text_left none)
  refused_left (is_refused short with) = subst (λ bs. ProgramRefused bs e) (whole short) (is_refused short with)

-- what holds of few enough bytes holds of those left
pub short_left : (m n : ℕ) → n ≡ m + 1 → (bytes left : Bytes) → bytes ≡ take n left → length bytes ≤ m → (P : Bytes → Type 0) → P bytes → P left
short_left m n next bytes left e short P a = subst P (read_whole n bytes left e (omega arith)) a

pub accepted_left : (m n : ℕ) → n ≡ m + 1 → (bytes left : Bytes) (p : Program) → bytes ≡ take n left → length bytes ≤ m → Accepted bytes p → Accepted left p
accepted_left m n next bytes left p e short a = short_left m n next bytes left e short (λ bs. Accepted bs p) a
