-- So many parts from a place on, as contracts see them.
use Rattle.std.proofs.Common.{◌≡◌, ◌∙◌, IfOk, drop, take, map, ap, subst}
use Rattle.lus_clocks.proofs.Lookups.{map-take}
use Rattle.lus_values.specs.View.{entry_of}
use Rattle.lus_program.specs.View.{program_seen}
use Rattle.lus_parts.specs.Parts.{part_of}
use Rattle.lus_reference.specs.Made.{AreValues}
use Rattle.lus_reference.proofs.Drops.{dropped_map}
use Rattle.lus_reference.proofs.values.values_at.Goals as goal

pub returns : goal.returns
returns c =
    let p = program_seen c.args.program.now in
    let row = map entry_of c.args.row.now in
    let rows = c.args.rows.now in
    let n = c.args.count in
    let m = c.args.place in
    let qs = c.args.parts.now in
    let own : map part_of c.parts_at-own.result.now ≡ take n (drop m (map part_of qs)) = ap (map part_of) c.parts_at-own.ensures ∙ map-take part_of n (drop m qs) ∙ ap (take n) (dropped_map part_of m qs) in
    let behind : map entry_of c.entries_from.result.now ≡ drop m (map entry_of c.args.kept.now) = ap (map entry_of) c.entries_from.ensures ∙ dropped_map entry_of m c.args.kept.now in
    subst (λ l. IfOk c.values_of.result (λ vs. AreValues p row rows l (drop m (map entry_of c.args.kept.now)) (map entry_of vs.items))) own
    (subst (λ k. IfOk c.values_of.result (λ vs. AreValues p row rows (map part_of c.parts_at-own.result.now) k (map entry_of vs.items))) behind c.values_of.ensures)
