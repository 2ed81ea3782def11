-- Rows that take over what an instant left, if it was made.
use Rattle.std.proofs.Common.{◌≡◌, ◌∙◌, ℕ, List, length, map, Option, None, Some, Result, Ok, Err, Vec, refl, sym, ap}
use Rattle.std.specs.Global.{Global}
use Rattle.std.proofs.lemmas.List.{length-map}
use Rattle.lus_values.specs.Values.{Value, Row}
use Rattle.lus_instructions.specs.Followed.{cell_of}
use Rattle.lus_instructions.specs.declared.stop.Stop.{Stop}
use Rattle.lus_orders.specs.declared.setting.Setting.{Setting}
use Rattle.lus_running.specs.declared.rows.Rows.{Rows}
use Rattle.lus_running.specs.Answering.{AnswersTo, left_by}
use Rattle.lus_running.specs.Instances.{IsLong, MakesStep, exchanged, rows_seen}

-- rows whose next cells and row were written, and which keep what they kept
module _ {H : Type 0} (entry : H → Option Value) (s : Setting) (i : Row) (count : ℕ) (o mid : Rows H) (long : IsLong s.class.now (rows_seen entry 0 o))
    (kept : mid.cells ≡ o.cells) (next : length mid.next.items ≡ length o.next.items) (row : length mid.row.items ≡ length o.row.items) where
  abbrev Answered : Result (Option Row) Stop → List Value → Type 0
  Answered u vs = AnswersTo (left_by s (map (cell_of entry) o.cells.items) i) (length i) count u vs

  same : map (cell_of entry) mid.cells.items ≡ map (cell_of entry) o.cells.items
  same = ap (λ (v : Vec H Global). map (cell_of entry) v.items) kept

  next_long : length (map (cell_of entry) mid.next.items) ≡ s.class.now.cells
  next_long = length-map mid.next.items (cell_of entry) ∙ next ∙ sym (length-map o.next.items (cell_of entry)) ∙ long.next_cells

  cells_long : length (map (cell_of entry) mid.cells.items) ≡ s.class.now.cells
  cells_long = ap length same ∙ long.cells

  stays : IsLong s.class.now (rows_seen entry 0 mid)
  stays = record { cells = cells_long; next_cells = next_long; row = row ∙ long.row }

  pub made : (outputs : Row) → Answered (Ok (Some outputs)) (map (cell_of entry) mid.next.items)
      → MakesStep s i count (rows_seen entry 0 o) (Ok (Some outputs)) (rows_seen entry 0 (exchanged mid))
  made outputs told = record {
    step = told;
    long = record { cells = next_long; next_cells = cells_long; row = row ∙ long.row };
    kept = record { cells = same };
  }

  pub faulted : Answered (Ok None) (map (cell_of entry) mid.next.items) → MakesStep s i count (rows_seen entry 0 o) (Ok None) (rows_seen entry 0 mid)
  faulted told = record { step = told; long = stays; kept = record { node = refl; cells = same; row = row } }

  pub stopped : (stop : Stop) → MakesStep s i count (rows_seen entry 0 o) (Err stop) (rows_seen entry 0 mid)
  stopped stop = record { step = tt; long = stays; kept = record { node = refl; cells = same; row = row } }
