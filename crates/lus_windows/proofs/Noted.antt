-- One entry more, and its reason where it was refused.
use Rattle.std.proofs.Common.{◌≡◌, ◌∙◌, ◌++◌, ℕ, Bool, List, [], ◌∷◌, string_bytes, sym, ap, subst}
use Rattle.lus_values.specs.Names.{Names, Text}
use Rattle.lus_program.specs.Programs.{Program}
use Rattle.lus_streams.specs.OnClock.{ProgramOnClocks}
use Rattle.lus_requests.specs.declared.request.Request.{Request}
use Rattle.lus_requests.specs.declared.request.Reply.{Reply}
use Rattle.lus_requests.specs.declared.request.Entry.{Entry}
use Rattle.lus_simulation.specs.Lineages.{Lineage}
use Rattle.lus_history.specs.Pasts.{lineage, past_of}
use Rattle.lus_worlds.specs.Finding.{IsReady}
use Rattle.lus_windows.specs.declared.reasons.Explainer.{Explainer}
use Rattle.lus_windows.specs.declared.reasons.Reasons.{Reasons}
use Rattle.lus_windows.specs.Reasons.{Explains, ExplainsNext, TellsEntry, Tells, passes, notes, HasNoted, next_line}
use Rattle.lus_windows.specs.Windows.{IsReached, HasFollowed, entry_by, have_slots, orders_in}
use Rattle.lus_windows.proofs.Following.{ready}

-- an entry was told by what was kept, and is followed
pub explained : (p : Program) (f : ℕ) (names : Names) (instance : Text) (line : ℕ) (h : List Entry) (old new : Explainer) (before text : Text) (c : ℕ)
    (r : Request) (a : Reply) → ProgramOnClocks p → new.instance ≡ old.instance
    → ((sure : Bool) (l : Lineage) → IsReady p (orders_in old.window) old.window.node → IsReached sure p old.window.node l old.window.reached
    → TellsEntry p old.window.node names (string_bytes old.instance) line sure l r a before text)
    → (HasFollowed p f h old.window → HasFollowed p f (h ++ entry_by c r a ∷ []) new.window)
    → Explains p f instance h old → ExplainsNext p f names instance line h (entry_by c r a) before text new
explained p f names instance line h old new before text c r a clocks named tells follows k =
    let node = k.followed.node in
    let here = tells (have_slots h) (lineage h) (ready p clocks (have_slots h) f (past_of h) old.window k.followed) (subst (λ g. IsReached (have_slots h) p g (lineage h) old.window.reached) (sym node) k.followed.keeps.now) in
    let own : TellsEntry p f names (string_bytes old.instance) line (have_slots h) (lineage h) r a before text =
    subst (λ g. TellsEntry p g names (string_bytes old.instance) line (have_slots h) (lineage h) r a before text) node here
    in
    record {
      explains = record { followed = follows k.followed; named = ap string_bytes named ∙ k.named };
      tells = subst (λ i. TellsEntry p f names i line (have_slots h) (lineage h) r a before text) k.named own;
    }

module _ (p : Program) (f : ℕ) (names : Names) (instance : Text) (first : ℕ) (h : List Entry) (old new : Reasons) where
  -- a line that is no entry
  pub passed : new.explainer ≡ old.explainer → new.text ≡ old.text → new.line ≡ next_line old.line → HasNoted p f names instance first h old → HasNoted p f names instance first h new
  passed explainer text line k = record {
    explains = subst (Explains p f instance h) (sym explainer) k.explains;
    tells = subst (λ n. Tells p f names instance first h n (string_bytes new.text)) (sym line)
        (subst (λ t. Tells p f names instance first h (next_line old.line) (string_bytes t)) (sym text) (passes h old.line (string_bytes old.text) k.tells));
  }

  -- an entry
  pub noted : (e : Entry) → new.line ≡ next_line old.line
      → (Explains p f instance h old.explainer → ExplainsNext p f names instance (next_line old.line) h e (string_bytes old.text) (string_bytes new.text) new.explainer)
      → HasNoted p f names instance first h old → HasNoted p f names instance first (h ++ e ∷ []) new
  noted e line explains k =
      let next = explains k.explains in
      record {
        explains = next.explains;
        tells = subst (λ n. Tells p f names instance first (h ++ e ∷ []) n (string_bytes new.text)) (sym line)
            (notes h e old.line (string_bytes old.text) (string_bytes new.text) k.tells next.tells);
      }
