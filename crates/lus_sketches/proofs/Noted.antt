-- One entry more.
use Rattle.std.proofs.Common.{◌++◌, ℕ, List, [], ◌∷◌, Option, refl, subst, sym, append_assoc, append-nil}
use Rattle.lus_values.specs.Values.{Row}
use Rattle.lus_program.specs.Programs.{Program}
use Rattle.lus_requests.specs.declared.request.Entry.{Entry}
use Rattle.lus_diagrams.specs.Columns.{Noted, noted}
use Rattle.lus_windows.specs.declared.picks.Pick.{Pick}
use Rattle.lus_sketches.specs.Sketches.{AreCells, AreNoted}

module _ (p : Program) (f : ℕ) where
  -- one entry more, with its cells
  pub noted_next : (picks : Option (List Pick)) (before h : List Entry) (e : Entry) (ns : List Noted) (rows : List Row) → AreNoted p f picks before h ns
      → AreCells p f picks (before ++ h) e rows → AreNoted p f picks before (h ++ e ∷ []) (ns ++ noted e.request e.reply rows ∷ [])
  noted_next picks before [] e [] rows t cells = ((rows, subst (λ b. AreCells p f picks b e rows) (append-nil before) cells, refl), tt)
  noted_next picks before (d ∷ h) e (n ∷ ns) rows (first, rest) cells =
      (first, noted_next picks (before ++ d ∷ []) h e ns rows rest (subst (λ b. AreCells p f picks b e rows) (sym (append_assoc before (d ∷ []) h)) cells))
  noted_next picks before _ e _ rows never cells = absurd never
