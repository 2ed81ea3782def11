use Rattle.std.proofs.Common.{◌≡◌, ◌∙◌, sym, ap, map, ◌<◌, ◌≤◌, ◌++◌, take, drop, length, slice_set, slice_index_or, add-one, arith}
use Rattle.std.proofs.lemmas.List.{map-set, length-map, get_or-map}
use Rattle.lus_instructions.specs.Followed.{cell_of}
use Rattle.lus_orders.proofs.Lists.{next_same}
use Rattle.lus_running.proofs.Writing.{none_behind}
use Rattle.lus_running.proofs.Cells.{cell_same}
use Rattle.lus_running.proofs.copying.copy_cells.Goals as goal

pub loop-place-preserved : goal.loop-place-preserved
loop-place-preserved g c =
    let held = cell_of g.T.Held.entry in
    let copied = cell_of g.U.Held.entry in
    let i = c.loop-place.place in
    let vs = map held c.args.cells.now in
    let ns = map copied c.args.copies.now in
    let v = c.index-cells-place.result in
    let u = c.in_ok-cell_copy.cell_copy in
    let lt : i < length c.args.cells.now = c.loop-place-test.true in
    let lv : i < length vs = rw (length-map c.args.cells.now held) lt in
    let ln : i < length ns = rw (length-map c.args.copies.now copied) (omega (arith, c.requires)) in
    let ev : held v ≡ slice_index_or vs i (held v) = sym (get_or-map held c.args.cells.now i v (held v) lt ∙ ap held (sym c.index-cells-place.is)) in
    rw add-one
    (map-set copied c.loop-place.copies i u
    ∙ ap (λ l. slice_set l i (copied u)) c.loop-place.invariant
    ∙ ap (slice_set (take i vs ++ drop i ns) i) (cell_same g.U.Held.entry g.T.Held.entry u v (c.in_ok-cell_copy.ensures ∙ c.see.ensures))
    ∙ next_same vs ns i (held v) lv ln ev)

pub returns : goal.returns
returns g c =
    let vs = map (cell_of g.T.Held.entry) c.args.cells.now in
    let ns = map (cell_of g.U.Held.entry) c.args.copies.now in
    let i = c.loop-place.place in
    let past : length vs ≤ i = rw (length-map c.args.cells.now (cell_of g.T.Held.entry)) c.loop-place-test.false in
    let long : length ns ≤ i = rw (length-map c.args.copies.now (cell_of g.U.Held.entry), sym c.requires) c.loop-place-test.false in
    c.loop-place.invariant ∙ none_behind (λ l. l) vs ns i past long
