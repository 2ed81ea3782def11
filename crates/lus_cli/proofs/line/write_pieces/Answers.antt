-- Where a piece fails, a beginning of all is written.
use Rattle.std.proofs.Common.{rules, ◌+◌, drop, flat_map, take}
use Rattle.lus_cli.proofs.Pieces.{pieces_cut, writes_cut}
use Rattle.lus_cli.proofs.line.write_pieces.Goals as goal

pub returns-in_err-write_all : goal.returns-in_err-write_all
returns-in_err-write_all g c =
    let pieces = c.args.pieces.now in
    let i = c.loop-piece.piece-index in
    writes_cut (g.F.Sink.written c.args.faults.now) (g.F.Sink.written c.loop-piece.faults) (g.F.Sink.failures c.args.faults.now)
    (g.F.Sink.failures c.loop-piece.faults) (flat_map (λ p. p.now) (take i pieces)) c.loop-piece.invariant.0 c.loop-piece.invariant.1
    c.from_residual.result c.from_residual.ensures.0 (g.F.Sink.written c.write_all.new.sink) (g.F.Sink.failures c.write_all.new.sink)
    c.as_bytes.result.now (flat_map (λ p. p.now) (drop (i + 1) pieces)) (flat_map (λ p. p.now) pieces)
    (pieces_cut (λ p. p.now) pieces i _ c.as_bytes.result.now c.as_bytes.ensures.value (search rules))
    c.in_err-write_all.ensures.beginning c.in_err-write_all.ensures.failed
