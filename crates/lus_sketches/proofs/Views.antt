-- The cells that a followed window gives.
use Rattle.std.proofs.Common.{◌≡◌, ◌∙◌, ◌++◌, ◌∷◌, ℕ, true, false, List, [], Some, None, refl, ap, subst, sym}
use Rattle.lus_values.specs.Values.{Row}
use Rattle.lus_program.specs.Programs.{Program}
use Rattle.lus_requests.specs.declared.request.Entry.{Entry}
use Rattle.lus_requests.specs.declared.request.Reply.{Reply}
use Rattle.lus_requests.specs.declared.request.Request.{Request}
use Rattle.lus_history.specs.Pasts.{lineage}
use Rattle.lus_windows.specs.Picks.{AppendsPicked, ArePicked, accepted}
use Rattle.lus_windows.specs.Windows.{HasFollowed, entry_by, is_lost}
use Rattle.lus_windows.specs.declared.picks.Pick.{Pick}
use Rattle.lus_windows.proofs.Following.{lost_behind}
use Rattle.lus_windows.specs.declared.window.Window.{Window}
use Rattle.lus_sketches.specs.Sketches.{GivesCells}
use Rattle.lus_sketches.specs.declared.sketches.View.{View}

module _ (p : Program) (q : Request) (r : Reply) (v : View) (w : Window)
    (on : (f : ℕ) (h : List Entry) (c : ℕ) → HasFollowed p f h v.window → HasFollowed p f (h ++ entry_by c q r ∷ []) w) where
  -- where nothing is kept any more
  pub lost_cells : is_lost w ≡ true → GivesCells p q r (Some v) (Some (record { picks = v.picks; window = w })) None
  lost_cells lost = record {
    picks = refl;
    followed = λ f h k. on f h 0 k;
    cells = (refl, λ f h k. lost_behind p f (h ++ entry_by 0 q r ∷ []) w lost (on f h 0 k));
  }

  -- where a row was picked of each instant
  pub picked_cells : (ks : List Pick) → ks ≡ v.picks.items → (before after : List Row) → before ≡ [] → AppendsPicked p v.window w q r ks before after → is_lost w ≡ false
      → GivesCells p q r (Some v) (Some (record { picks = v.picks; window = w })) (Some after)
  picked_cells ks same before after none appends here =
      let rows_are : after ≡ appends.picked = appends.appended ∙ ap (λ l. l ++ appends.picked) none in
      record {
        picks = refl;
        followed = λ f h k. on f h 0 k;
        cells = λ f h k. subst (λ l. ArePicked p f (lineage h) (accepted q r) l after) same
            (subst (λ rows. ArePicked p f (lineage h) (accepted q r) ks rows) (sym rows_are) (appends.are here f h k));
      }
