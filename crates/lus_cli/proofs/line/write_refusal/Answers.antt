-- The place and then the cycle; where the place fails, a beginning of it is written.
use Rattle.std.proofs.Common.{rules, ◌≢◌, ◌∙◌, ◌++◌, [], ap, codes, subst, sym}
use Rattle.lus_devices.specs.Devices.{Bytes, WritesBeginning, with_text}
use Rattle.lus_syntax.specs.Refusals.{cycle_behind, number_text, refusal_text}
use Rattle.lus_syntax.specs.declared.refusal.RefusalNumber.TheVariants.{Memory}
use Rattle.lus_cli.specs.Changes.{Writes, change}
use Rattle.lus_cli.proofs.Pieces.{place_is, writes_on, writes_short}
use Rattle.lus_cli.proofs.line.write_refusal.Goals as goal

abbrev place : Bytes → Bytes → Bytes → Bytes
place number line column = number ++ (codes " line " ++ (line ++ (codes " column " ++ (column ++ []))))

pub returns-in_err-write_pieces : goal.returns-in_err-write_pieces
returns-in_err-write_pieces g c =
    let r = c.args.refusal.now in
    let other : r.number ≢ Memory = search rules in
    let written = g.F.Sink.written in
    let failures = g.F.Sink.failures in
    let text = place (number_text r.number) c.format.result.now c.format-2.result.now in
    writes_short c.from_residual.result c.from_residual.ensures.0 (written c.args.faults.now) (written c.write_pieces-2.new.faults)
    (failures c.args.faults.now) (failures c.write_pieces-2.new.faults) text (cycle_behind r.cycle) (refusal_text r)
    (place_is r.number c.format.result.now c.format-2.result.now r.line r.column r.cycle other c.format.ensures.text c.format-2.ensures.text)
    (subst (λ n. WritesBeginning (written c.args.faults.now) (written c.write_pieces-2.new.faults) (place n c.format.result.now c.format-2.result.now))
    c.as_str-number.ensures c.in_err-write_pieces.ensures.0)
    c.in_err-write_pieces.ensures.1

pub returns : goal.returns
returns g c =
    let r = c.args.refusal.now in
    let other : r.number ≢ Memory = search rules in
    let written = g.F.Sink.written in
    let failures = g.F.Sink.failures in
    let text = place (number_text r.number) c.format.result.now c.format-2.result.now in
    subst (λ t. Writes c.write_cycle.result t (change (written c.args.faults.now) (written c.write_cycle.new.faults) (failures c.args.faults.now)
    (failures c.write_cycle.new.faults)))
    (sym (place_is r.number c.format.result.now c.format-2.result.now r.line r.column r.cycle other c.format.ensures.text c.format-2.ensures.text))
    (writes_on (written c.args.faults.now) (written c.write_pieces-2.new.faults) (failures c.args.faults.now) (failures c.write_pieces-2.new.faults)
    text (c.in_ok-write_pieces.ensures.0
    ∙ ap (λ n. with_text (written c.args.faults.now) (place n c.format.result.now c.format-2.result.now)) c.as_str-number.ensures)
    c.in_ok-write_pieces.ensures.1 c.write_cycle.result (written c.write_cycle.new.faults) (failures c.write_cycle.new.faults)
    (cycle_behind r.cycle) c.write_cycle.ensures)
