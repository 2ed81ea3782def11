-- One more cell is read.
use Rattle.std.proofs.Common.{◌≡◌, ◌∙◌, ◌<◌, ◌++◌, ◌∷◌, [], ap, sym, arith, length, map, take}
use Rattle.std.proofs.lemmas.List.{map_push}
use Rattle.csv.specs.Records.{fields_of}
use Rattle.lus_records.proofs.CellLaws.{more_cells}
use Rattle.lus_records.proofs.cells.cells_of.Goals as goal

pub loop-place-preserved : goal.loop-place-preserved
loop-place-preserved c =
    let fields = fields_of c.args.line_record.now in
    let place = c.loop-place.place in
    let within : place < length fields = omega (arith, c.len-place-end.ensures) in
    let pushed : map (λ t. t.now) c.push.new.self.items ≡ map (λ t. t.now) c.loop-place.cells.items ++ c.cell_at.result.now ∷ [] =
    rw c.in_ok-push.ensures.items (map_push (λ t. t.now) c.loop-place.cells.items c.cell_at.result) in
    pushed
    ∙ ap (λ cells. cells ++ c.cell_at.result.now ∷ []) c.loop-place.invariant
    ∙ ap (λ cell. take place fields ++ cell ∷ []) c.cell_at.ensures
    ∙ sym (more_cells fields place within)
