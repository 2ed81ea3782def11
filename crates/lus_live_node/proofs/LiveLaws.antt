-- An instance with one more entry, and lines that were tried on it.
use Rattle.std.proofs.Common.{◌≡◌, ◌∙◌, ◌+◌, ◌++◌, ℕ, List, [], ◌∷◌, length, Option, None, refl, ap, sym, subst, length-append}
use Rattle.lus_program.specs.Programs.{Program}
use Rattle.lus_requests.specs.declared.request.Entry.{Entry}
use Rattle.lus_machine.specs.Machines.{Told}
use Rattle.lus_replay.specs.Replays.{IsJudged, entry_said}
use Rattle.lus_replay.specs.declared.line.Verdict.{Verdict}
use Rattle.lus_replay.specs.declared.line.Verdict.TheVariants as verdicts
use Rattle.lus_machine.specs.Constructors.{names_of}
use Rattle.lus_values.specs.Names.{Text, Names}
use Rattle.lus_live_instance.specs.Lives.{IsLive}
use Rattle.lus_live_node.specs.LiveNodes.{IsNext, Live, IsTried, Keeps}

one_more : (h h' : List Entry) (e : Entry) (n : ℕ) → n ≡ length h → h' ≡ h ++ e ∷ [] → n + 1 ≡ length h'
one_more h h' e n counted is =
    let long : length (h ++ e ∷ []) ≡ length h + 1 = length-append {A = Entry} h (e ∷ []) in
    ap (λ k. k + 1) counted ∙ sym long ∙ sym (ap length is)

-- the entry of a right line is counted
pub replayed : (v : Verdict) (p : Program) (n : ℕ) (line : Text) (l : Live) (m m' : Told) (last : Option Entry) → Keeps p n m last
    → record { instance = m; last = last } ≡ l → IsTried v line l.instance m' → v ≡ verdicts.Right → Keeps p (n + 1) m' None
replayed v p n line l m m' last keeps view tried right =
    let next : IsNext line l.instance m' = subst (λ w. IsTried w line l.instance m') right tried in
    let here : IsNext line m m' = subst (λ k. IsNext line k m') (sym (ap (λ (x : Live). x.instance) view)) next in
    record {
      program = here.of.program ∙ keeps.program;
      lawful = here.of.lawful;
      counted = one_more m.history m'.history (entry_said here.right.said) n keeps.counted here.right.entered;
      ends = tt;
    }

-- what was judged behind the history of an instance
judged_at : (v : Verdict) (line right : Text) (m m' : Told)
    → IsJudged v (names_of m.program) (length m.history + 1) line right m.history m'.history → IsLive m.program m.node m' → IsTried v line m m'
judged_at verdicts.Right line right m m' judged of = record { of = of; right = judged }
judged_at verdicts.Wrong line right m m' judged of = record { next = m'; of = of; right = right; wrong = judged }
judged_at verdicts.NoEntry line right m m' judged of = judged

-- a line was tried on a copy of an instance
pub tried : (v : Verdict) (p : Program) (n : ℕ) (names : Names) (line right : Text) (l : Live) (m copy m' : Told) (last : Option Entry)
    → Keeps p n m last → record { instance = m; last = last } ≡ l → copy ≡ m → names ≡ names_of p
    → IsJudged v names (n + 1) line right copy.history m'.history → ((q : Program) (f : ℕ) → IsLive q f copy → IsLive q f m')
    → IsTried v line l.instance m'
tried v p n names line right l m copy m' last keeps view copied named judged same =
    let kept : Keeps p n copy last = subst (λ k. Keeps p n k last) (sym copied) keeps in
    let here : names ≡ names_of copy.program = named ∙ sym (ap names_of kept.program) in
    let numbered : IsJudged v names (length copy.history + 1) line right copy.history m'.history =
    subst (λ k. IsJudged v names (k + 1) line right copy.history m'.history) kept.counted judged in
    let at : IsJudged v (names_of copy.program) (length copy.history + 1) line right copy.history m'.history =
    subst (λ ns. IsJudged v ns (length copy.history + 1) line right copy.history m'.history) here numbered in
    let of : IsLive copy.program copy.node m' = same copy.program copy.node (record { program = refl; node = refl; lawful = kept.lawful }) in
    subst (λ k. IsTried v line k m') (copied ∙ ap (λ (x : Live). x.instance) view) (judged_at v line right copy m' at of)
