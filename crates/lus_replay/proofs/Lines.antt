-- Lines that begin as the line of a request does, and lines that are compared with the right one.
use Rattle.std.proofs.Common.{◌≡◌, ◌∙◌, ◌-◌, ◌++◌, ℕ, Bool, ap, sym, subst, true, List, [], ◌∷◌, length, take, drop, Some, Result, Ok, Err, IfOk, Bor, append_assoc, codes, ◌+◌}
use Rattle.std.specs.Bool.{Decides}
use Rattle.std.proofs.lemmas.List.{append_cancel_right}
use Rattle.std.proofs.Math.Dec.{eqb}
use Rattle.std.specs.Cmp.Lexicographic.{pointwise}
use Rattle.std.proofs.lemmas.Bool.Decides.{Decides-eqb}
use Rattle.std.proofs.lemmas.Slice.Eq.{strip_suffix_is}
use Rattle.lus_values.specs.Names.{Text, Names}
use Rattle.lus_requests.specs.declared.request.Request.{Request}
use Rattle.lus_requests.specs.declared.request.Reply.{Reply}
use Rattle.lus_requests.specs.declared.request.Reply.TheVariants.{Done}
use Rattle.lus_requests.specs.declared.request.Entry.{Entry}
use Rattle.lus_play.specs.Plays.{entry_of}
use Rattle.lus_replay.specs.declared.line.Verdict.{Verdict}
use Rattle.lus_replay.specs.declared.line.Verdict.TheVariants as verdicts
use Rattle.lus_asked.specs.Asked.{asked_text}
use Rattle.lus_replay.specs.Replays.{AsksOnly, BeginsAs, BeginsAsked, IsCompared, IsJudged, line_of}

done_line : (names : Names) (caller : Text) (n : ℕ) (r : Request) → line_of names caller n (entry_of r Done) ≡ asked_text names caller n r ++ codes "done\n"
done_line names caller n r = append_assoc (asked_text names caller n r) (codes "done") (codes "\n")

-- a line begins as one of a request exactly where it begins as that with the reply `done`
pub begins_asked : (names : Names) (caller : Text) (n : ℕ) (r : Request) (line done : Text) (b : Bool) → done ≡ line_of names caller n (entry_of r Done)
    → Decides b (BeginsAs line done) → Decides b (BeginsAsked names caller n r line)
begins_asked names caller n r line done b is decides = (
  λ t.
      (let begins = decides.0 t in
      let same : begins.front ≡ asked_text names caller n r =
      append_cancel_right begins.front (asked_text names caller n r) (codes "done\n") (sym begins.spelled ∙ is ∙ done_line names caller n r) in
      (begins.given, begins.begins ∙ ap (λ x. x ++ begins.given) same)),
  λ asked. decides.1
      (record { front = asked_text names caller n r; given = asked.0; spelled = is ∙ done_line names caller n r; begins = asked.1 }),
)

-- a line that was compared with the right one, whose entry is new
pub judged : (names : Names) (caller : Text) (n : ℕ) (r : Request) (a : Reply) (line right here : Text) (h h' : List Entry) (v : Verdict)
    → AsksOnly names n line caller r → IsCompared v names caller n r line here → here ≡ right → right ≡ line_of names caller n (entry_of r a)
    → h' ≡ h ++ entry_of r a ∷ [] → IsJudged v names n line right h h'
judged names caller n r a line right here h h' verdicts.Right only is same spelled entered =
    record { said = record { caller = caller; request = r; reply = a }; only = only; spelled = is ∙ same ∙ spelled; entered = entered }
judged names caller n r a line right here h h' verdicts.Wrong only is same spelled entered =
    record {
      said = record { caller = caller; request = r; reply = a };
      asked = is.0;
      only = only;
      differs = λ e. is.1 (e ∙ sym same);
      spelled = spelled;
      entered = entered;
    }
judged names caller n r a line right here h h' verdicts.NoEntry only is same spelled entered =
    λ c q is_caller is_spelled begins.
    (let same = only c q is_caller is_spelled begins in
    is (subst (λ x. BeginsAsked names x n r line) (sym same.0) (subst (λ x. BeginsAsked names c n x line) (sym same.1) begins)))

pub judged_ok : {E : Type 0} (names : Names) (caller : Text) (n : ℕ) (r : Request) (a : Reply) (line right here : Text) (h h' : List Entry) (result : Result Verdict E)
    → AsksOnly names n line caller r → IfOk result (λ v. IsCompared v names caller n r line here) → here ≡ right
    → right ≡ line_of names caller n (entry_of r a) → h' ≡ h ++ entry_of r a ∷ [] → IfOk result (λ v. IsJudged v names n line right h h')
judged_ok names caller n r a line right here h h' (Ok v) only is same spelled entered = judged names caller n r a line right here h h' v only is same spelled entered
judged_ok names caller n r a line right here h h' (Err e) only is same spelled entered = tt

-- what is left of a text without such an end
pub ends_done : (done p : Text) (x : Bor Text) → p ≡ codes "done\n"
    → (pointwise eqb (drop (length done - length p) done) p ≡ true) × (x.now ≡ take (length done - length p) done) × (length x.now + length p ≡ length done)
    → done ≡ x.now ++ codes "done\n"
ends_done done p x is cases = strip_suffix_is Decides-eqb done p (Some x) cases ∙ ap (λ t. x.now ++ t) is
