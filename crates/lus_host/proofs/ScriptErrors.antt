-- Bytes of scripts that are read up to one more than there may be are taken and refused as those left are.
use Rattle.std.proofs.Common.{◌≡◌, ◌∙◌, ◌⊎◌, inl, inr, sym, ap, subst, ℕ, ◌+◌, ◌<◌, ◌≤◌, length, take, arith, Some, None, Result, Ok, Err, IfOk, IfErr, IsUtf8}
use Rattle.std.proofs.lemmas.Bool.Decides.{leb_tells}
use Rattle.serde_json.specs.Data.{Data}
use Rattle.serde_json.specs.Read.{read}
use Rattle.lus_values.specs.Names.{Names}
use Rattle.lus_program.specs.Programs.{Program}
use Rattle.lus_syntax.specs.Limits.{most_bytes}
use Rattle.lus_callers.specs.MachineSpecs.Constructors.{names_of}
use Rattle.lus_devices.specs.Devices.{Bytes}
use Rattle.lus_host.specs.ScriptRefusals.{AreRefused, AreScripts, ScriptsRefused, are_too_long, are_no_json, are_refused}
use Rattle.lus_scripts.specs.Scripts.{Scripts, scripts_of}
use Rattle.lus_scripts.specs.declared.refusal.ScriptRefusal.{ScriptRefusal}
use Rattle.lus_scripts.specs.declared.refusal.ScriptRefusal.TheVariants as refusals
use Rattle.lus_host.proofs.Sources.{read_whole, read_part}

long_or_short : (m n : ℕ) → (m < n) ⊎ (n ≤ m)
long_or_short m n = elim (leb_tells n m) [ inl short ↦ inr short.1 | inr long ↦ inl long.1 ]

module _ (p : Program) (bytes : Bytes) where
  refused_is : (e : ScriptRefusal) → ScriptsRefused p bytes e → AreRefused p bytes e
  refused_is refusals.Json h = h
  refused_is refusals.Form h = h
  refused_is refusals.Unknown h = h
  refused_is refusals.Double h = h
  refused_is refusals.Limit h = h
  refused_is refusals.Memory h = tt

  -- why a refusal is right, by the clauses of reading
  pub unread : (e : ScriptRefusal)
      → (most_bytes < length bytes → e ≡ refusals.Limit)
      → (e ≡ refusals.Json → IsUtf8 bytes → read bytes ≡ None)
      → (length bytes ≤ most_bytes → (e ≡ refusals.Memory) ⊎ ((e ≡ refusals.Json)
      ⊎ (IsUtf8 bytes × (d : Data) × (read bytes ≡ Some d) × (scripts_of p (names_of p) d ≡ Err e))))
      → AreRefused p bytes e
  unread e long json refused = sized (long_or_short most_bytes (length bytes))
    where
      why : length bytes ≤ most_bytes → (e ≡ refusals.Memory) ⊎ ((e ≡ refusals.Json)
          ⊎ (IsUtf8 bytes × (d : Data) × (read bytes ≡ Some d) × (scripts_of p (names_of p) d ≡ Err e))) → AreRefused p bytes e
      why short (inl is) = subst (AreRefused p bytes) (sym is) tt
      why short (inr (inl is)) = subst (AreRefused p bytes) (sym is) (are_no_json short (json is))
      why short (inr (inr r)) = refused_is e (are_refused short r.0 r.1 r.2 r.3)

      sized : (most_bytes < length bytes) ⊎ (length bytes ≤ most_bytes) → AreRefused p bytes e
      sized (inl lt) = subst (AreRefused p bytes) (sym (long lt)) (are_too_long lt)
      sized (inr short) = why short (refused short)

-- what the clauses of reading say of bytes
module _ (p : Program) (bytes : Bytes) (names : Names) (named : names ≡ names_of p) where
  pub read_are : {X : Type 0} (r : Result X ScriptRefusal) (seen : X → Scripts) → IfOk r (λ s. length bytes ≤ most_bytes) → IfOk r (λ s. IsUtf8 bytes)
      → IfOk r (λ s. (d : Data) × (read bytes ≡ Some d) × (scripts_of p names d ≡ Ok (seen s))) → IfOk r (λ s. AreScripts p bytes (seen s))
  read_are (Ok s) seen short utf8 ok =
      record { size = short; utf8 = utf8; json = ok.0; reads = ok.1; means = ap (λ ns. scripts_of p ns ok.0) (sym named) ∙ ok.2 }
  read_are (Err e) seen short utf8 ok = tt

  pub read_refused : {X : Type 0} (r : Result X ScriptRefusal) → (most_bytes < length bytes → r ≡ Err refusals.Limit)
      → (r ≡ Err refusals.Json → IsUtf8 bytes → read bytes ≡ None)
      → (length bytes ≤ most_bytes → IfErr r (λ e. (e ≡ refusals.Memory) ⊎ ((e ≡ refusals.Json)
      ⊎ (IsUtf8 bytes × (d : Data) × (read bytes ≡ Some d) × (scripts_of p names d ≡ Err e)))))
      → IfErr r (λ e. AreRefused p bytes e)
  read_refused (Ok s) long json refused = tt
  read_refused (Err e) long json refused =
      unread p bytes e (λ more. let same = long more in cc) (λ same. json (ap (λ x. Err x) same)) (λ short. go (refused short))
    where
      go : (e ≡ refusals.Memory) ⊎ ((e ≡ refusals.Json) ⊎ (IsUtf8 bytes × (d : Data) × (read bytes ≡ Some d) × (scripts_of p names d ≡ Err e)))
          → (e ≡ refusals.Memory) ⊎ ((e ≡ refusals.Json) ⊎ (IsUtf8 bytes × (d : Data) × (read bytes ≡ Some d) × (scripts_of p (names_of p) d ≡ Err e)))
      go (inl memory) = inl memory
      go (inr (inl same)) = inr (inl same)
      go (inr (inr r)) = inr (inr (r.0, r.1, r.2, ap (λ ns. scripts_of p ns r.1) (sym named) ∙ r.3))

-- n bytes are read at most, one more than there may be
module _ (m n : ℕ) (is : m ≡ most_bytes) (next : n ≡ m + 1) (p : Program) (bytes left : Bytes) (same : bytes ≡ take n left) where
  whole : length bytes ≤ most_bytes → bytes ≡ left
  whole short = let less : length bytes < n = omega arith in read_whole n bytes left same less

  pub scripts_left : (s : Scripts) → AreScripts p bytes s → AreScripts p left s
  scripts_left s a = subst (λ bs. AreScripts p bs s) (whole a.size) a

  left_refused : (e : ScriptRefusal) → ScriptsRefused p bytes e → ScriptsRefused p left e
  left_refused e (are_too_long long) = are_too_long (omega (arith, read_part n bytes left same))
  left_refused e (are_no_json short none) = subst (λ bs. ScriptsRefused p bs e) (whole short) (are_no_json short none)
  left_refused e (are_refused short utf8 d reads refused) = subst (λ bs. ScriptsRefused p bs e) (whole short) (are_refused short utf8 d reads refused)

  pub error_left : (e : ScriptRefusal) → AreRefused p bytes e → AreRefused p left e
  error_left refusals.Json h = left_refused refusals.Json h
  error_left refusals.Form h = left_refused refusals.Form h
  error_left refusals.Unknown h = left_refused refusals.Unknown h
  error_left refusals.Double h = left_refused refusals.Double h
  error_left refusals.Limit h = left_refused refusals.Limit h
  error_left refusals.Memory h = tt
