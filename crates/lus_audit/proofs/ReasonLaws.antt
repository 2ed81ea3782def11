-- Reasons of entries, of journals and of reports.
use Rattle.std.proofs.Common.{arith, ◌≡◌, ◌∙◌, ◌++◌, ◌==◌, ℕ, Bool, false, true, true≢false, refl, ap, ap₂, sym, subst, List, [], ◌∷◌, length, codes, Option, Some, append_assoc, append-nil}
use Rattle.std.proofs.lemmas.Bool.{eqb-true}
use Rattle.std.specs.Prelude.{is_none, string_bytes}
use Rattle.std.specs.List.{AllZip, concat}
use Rattle.lus_values.specs.Names.{Names, Text}
use Rattle.lus_program.specs.Programs.{Program}
use Rattle.lus_requests.specs.declared.request.Entry.{Entry}
use Rattle.lus_requests.specs.declared.request.Reply.{Reply}
use Rattle.lus_requests.specs.declared.request.Request.{Request}
use Rattle.lus_devices.specs.Devices.{Bytes}
use Rattle.lus_windows.specs.Reasons.{HasNoted}
use Rattle.lus_windows.specs.Windows.{entry_by}
use Rattle.lus_windows.specs.declared.reasons.Reasons.{Reasons}
use Rattle.lus_cli.specs.MachineSpecs.Constructors.{names_of}
use Rattle.lus_cli.specs.MachineSpecs.Formals.{node_named}
use Rattle.lus_hosting.specs.LawfulSpecs.Audits.{Gathers, HasAudited}
use Rattle.lus_hosting.specs.LawfulSpecs.Findings.{FindsAll}
use Rattle.lus_hosting.specs.LawfulSpecs.Journals.{Journal, entries_of}
use Rattle.lus_hosting.proofs.LawfulProofs.AuditLaws.{audited_so}
use Rattle.lus_audit.specs.Ends.{IsReported, shown}
use Rattle.lus_audit.specs.Reasons.{AreReasons, IsTold, TellsJournal, TellsJournals}

-- ---- entries

-- none was seen yet
pub told_new : (p q : Program) (f : ℕ) (instance : Text) (first : ℕ) (r : Reasons) → q ≡ p
    → ((names : Names) → HasNoted q f names instance first [] r) → IsTold p f [] r
told_new p q f instance first r same notes =
    (instance, first, subst (λ (x : Program). HasNoted x f (names_of p) instance first [] r) same (notes (names_of p)))

-- one more was seen
pub told_more : (p q : Program) (names : Names) (f : ℕ) (h : List Entry) (request : Request) (reply : Reply) (r s : Reasons) → q ≡ p → names ≡ names_of p
    → ((g : ℕ) (instance : Text) (first : ℕ) (k : List Entry) (c : ℕ) → HasNoted q g names instance first k r
    → HasNoted q g names instance first (k ++ entry_by c request reply ∷ []) s)
    → IsTold p f h r → IsTold p f (h ++ entry_by 0 request reply ∷ []) s
told_more p q names f h request reply r s same named notes told =
    let before = subst (λ (x : Program). HasNoted x f (names_of p) told.0 told.1 h r) (sym same) told.2 in
    let noted = notes f told.0 told.1 h 0 (subst (λ n. HasNoted q f n told.0 told.1 h r) (sym named) before) in
    let after = subst (λ n. HasNoted q f n told.0 told.1 (h ++ entry_by 0 request reply ∷ []) s) named noted in
    (told.0, told.1, subst (λ (x : Program). HasNoted x f (names_of p) told.0 told.1 (h ++ entry_by 0 request reply ∷ []) s) same after)

-- ---- journals

zip_push : (p : Program) (js : List Journal) (ts : List Text) (j : Journal) (t : Text) → AllZip (TellsJournal p) js ts → TellsJournal p j t
    → AllZip (TellsJournal p) (js ++ j ∷ []) (ts ++ t ∷ [])
zip_push p [] [] j t all last = (last, tt)
zip_push p [] (u ∷ ts) j t all last = absurd all
zip_push p (k ∷ js) [] j t all last = absurd all
zip_push p (k ∷ js) (u ∷ ts) j t all last = (all.0, zip_push p js ts j t all.1 last)

concat_push : (ts : List Text) (t : Text) → concat (ts ++ t ∷ []) ≡ concat ts ++ t
concat_push [] t = append-nil t
concat_push (u ∷ ts) t = ap (λ x. u ++ x) (concat_push ts t) ∙ sym (append_assoc u (concat ts) t)

pub tells_more : (p : Program) (js : List Journal) (j : Journal) (f : ℕ) (r : Reasons) (old new piece : Text) → node_named p j.node ≡ Some f
    → IsTold p f (entries_of j) r → piece ≡ string_bytes r.text → new ≡ old ++ piece → TellsJournals p js old → TellsJournals p (js ++ j ∷ []) new
tells_more p js j f r old new piece named told is added so_far =
    let t = string_bytes r.text in
    let one : TellsJournal p j t = record {
      node = f;
      named = named;
      instance = told.0;
      first = told.1;
      last = r.line;
      tells = told.2.tells;
    } in
    (so_far.0 ++ t ∷ [], zip_push p js so_far.0 j t so_far.1 one, added ∙ ap₂ (λ x y. x ++ y) so_far.2 is ∙ sym (concat_push so_far.0 t))

-- ---- reports

module _ (p : Program) (wrong : Option ℕ) (left : Option Bytes) (found : Text) where
  -- with the reasons of the journals
  pub explained : (old reasons report : Text) (r : Option ℕ) → old ≡ [] → r ≡ wrong
      → HasAudited p (Gathers (λ js. TellsJournals p js old) (λ js. TellsJournals p js reasons)) wrong left found
      → FindsAll p (is_none wrong) left found → report ≡ shown found ++ reasons → IsReported p true (is_none r) left report
  explained old reasons report r none same sound complete reported = record {
    found = found;
    reasons = reasons;
    wrong = r;
    status = refl;
    sound = subst (λ w. HasAudited p (AreReasons true p reasons) w left found) (sym same)
        (audited_so p (Gathers (λ js. TellsJournals p js old) (λ js. TellsJournals p js reasons)) (AreReasons true p reasons) wrong left found
        (λ js gathers. gathers.behind [] ([], tt, none)) sound);
    complete = subst (λ w. FindsAll p (is_none w) left found) (sym same) complete;
    reported = reported;
  }

  -- or without
  pub plain : (Gathered : List Journal → Type 0) (report : Text) (r : Option ℕ) → r ≡ wrong → HasAudited p Gathered wrong left found
      → FindsAll p (is_none wrong) left found → report ≡ shown found → IsReported p false (is_none r) left report
  plain Gathered report r same sound complete reported = record {
    found = found;
    reasons = [];
    wrong = r;
    status = refl;
    sound = subst (λ w. HasAudited p (AreReasons false p []) w left found) (sym same)
        (audited_so p Gathered (AreReasons false p []) wrong left found (λ js gathered. refl) sound);
    complete = subst (λ w. FindsAll p (is_none w) left found) (sym same) complete;
    reported = reported ∙ sym (append-nil (shown found));
  }

-- what isn't empty is shown as it is
pub shown_some : (found : Text) (b : Bool) → b ≡ (length found == 0) → b ≡ false → found ≡ shown found
shown_some [] b is some = absurd (true≢false (sym is ∙ some))
shown_some (x ∷ found) b is some = refl

-- and what is says so
pub shown_none : (found text : Text) (b : Bool) → b ≡ (length found == 0) → b ≡ true → text ≡ found ++ codes "no journal\n" → text ≡ shown found
shown_none [] text b is empty grown = grown
shown_none (x ∷ found) text b is empty grown = absurd (omega (arith, eqb-true (length (x ∷ found)) 0 (sym is ∙ empty)))
