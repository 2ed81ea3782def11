use Rattle.std.proofs.Common.{◌∙◌, ◌<◌, ap, map, length, slice_set, add-one, arith}
use Rattle.std.proofs.lemmas.List.{map-set, length-map}
use Rattle.std.specs.Option.{unwrap_or}
use Rattle.lus_values.specs.Values.{nil}
use Rattle.lus_instructions.specs.Followed.{cell_of}
use Rattle.lus_running.proofs.Writing.{next_back}
use Rattle.lus_running.proofs.filling.empty_all.Goals as goal

pub loop-place-preserved : goal.loop-place-preserved
loop-place-preserved g c =
    let i = c.loop-place.place in
    let vs = map (cell_of g.T.Held.entry) c.args.cells.now in
    let lt : i < length vs = rw (length-map c.args.cells.now (cell_of g.T.Held.entry)) (omega arith) in
    rw add-one
    (map-set (cell_of g.T.Held.entry) c.loop-place.cells i c.of_word.result
    ∙ ap (slice_set (map (cell_of g.T.Held.entry) c.loop-place.cells) i) (ap (λ o. unwrap_or o nil) c.of_word.ensures)
    ∙ ap (λ l. slice_set l i nil) c.loop-place.invariant
    ∙ next_back nil vs i lt)
