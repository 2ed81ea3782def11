-- The word and then the names; where the word fails, a beginning of it is written.
use Rattle.std.proofs.Common.{rules, ◌<◌, ◌∷◌, codes, flat_map, length, string_bytes, subst, sym}
use Rattle.lus_syntax.specs.Refusals.{cycle_behind}
use Rattle.lus_cli.specs.Changes.{Writes, change}
use Rattle.lus_cli.proofs.Pieces.{cycle_is, writes_on, writes_short}
use Rattle.lus_cli.proofs.line.write_cycle.Goals as goal

pub returns-in_err-write_pieces : goal.returns-in_err-write_pieces
returns-in_err-write_pieces g c =
    let names = c.names-names.result.now in
    let some : 0 < length names = search rules in
    writes_short c.from_residual.result c.from_residual.ensures.0 (g.F.Sink.written c.args.faults.now) (g.F.Sink.written c.write_pieces.new.faults)
    (g.F.Sink.failures c.args.faults.now) (g.F.Sink.failures c.write_pieces.new.faults) (codes " cycle") (flat_map (λ n. 32 ∷ string_bytes n) names)
    (cycle_behind c.args.cycle.now) (cycle_is string_bytes names c.args.cycle.now c.names-names.ensures some)
    c.in_err-write_pieces.ensures.0 c.in_err-write_pieces.ensures.1

pub returns : goal.returns
returns g c =
    let names = c.names-names.result.now in
    let some : 0 < length names = search rules in
    let written = g.F.Sink.written in
    let failures = g.F.Sink.failures in
    subst (λ t. Writes c.write_names.result t (change (written c.args.faults.now) (written c.write_names.new.faults) (failures c.args.faults.now)
    (failures c.write_names.new.faults))) (sym (cycle_is string_bytes names c.args.cycle.now c.names-names.ensures some))
    (writes_on (written c.args.faults.now) (written c.write_pieces.new.faults) (failures c.args.faults.now) (failures c.write_pieces.new.faults)
    (codes " cycle") c.in_ok-write_pieces.ensures.0 c.in_ok-write_pieces.ensures.1 c.write_names.result (written c.write_names.new.faults)
    (failures c.write_names.new.faults) (flat_map (λ n. 32 ∷ string_bytes n) names) c.write_names.ensures)
