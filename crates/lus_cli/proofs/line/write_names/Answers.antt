-- A name is written behind a space; where that fails, a beginning of all is written.
use Rattle.std.proofs.Common.{rules, ◌≡◌, ◌∙◌, ◌+◌, ◌∷◌, ◌++◌, [], ap, subst, sym, append-nil, drop, flat_map, string_bytes, take}
use Rattle.lus_devices.specs.Devices.{WritesBeginning, with_text}
use Rattle.lus_devices.proofs.Laws.{with_text-more}
use Rattle.lus_cli.proofs.Pieces.{pieces_cut, pieces_more, writes_cut}
use Rattle.lus_cli.proofs.line.write_names.Goals as goal

pub returns-in_err-write_pieces : goal.returns-in_err-write_pieces
returns-in_err-write_pieces g c =
    let names = c.args.names.now in
    let i = c.loop-name.name-index in
    let name = c.name-item.result in
    let written = g.F.Sink.written in
    let failures = g.F.Sink.failures in
    let piece : 32 ∷ (c.as_str.result.now ++ []) ≡ 32 ∷ string_bytes name = ap (λ t. 32 ∷ t) (append-nil c.as_str.result.now ∙ c.as_str.ensures.value) in
    writes_cut (written c.args.faults.now) (written c.loop-name.faults) (failures c.args.faults.now) (failures c.loop-name.faults)
    (flat_map (λ n. 32 ∷ string_bytes n) (take i names)) c.loop-name.invariant.0 c.loop-name.invariant.1 c.from_residual.result c.from_residual.ensures.0
    (written c.write_pieces.new.faults) (failures c.write_pieces.new.faults) (32 ∷ string_bytes name) (flat_map (λ n. 32 ∷ string_bytes n) (drop (i + 1) names)) (flat_map (λ n. 32 ∷ string_bytes n) names)
    (pieces_cut (λ n. 32 ∷ string_bytes n) names i _ (32 ∷ string_bytes name) (ap (λ n. 32 ∷ string_bytes n) c.name-item.is) (search rules))
    (subst (WritesBeginning (written c.loop-name.faults) (written c.write_pieces.new.faults)) piece c.in_err-write_pieces.ensures.0)
    c.in_err-write_pieces.ensures.1

pub loop-name-preserved : goal.loop-name-preserved
loop-name-preserved g c =
    let names = c.args.names.now in
    let i = c.loop-name.name-index in
    let name = c.name-item.result in
    let written = g.F.Sink.written in
    let piece : 32 ∷ (c.as_str.result.now ++ []) ≡ 32 ∷ string_bytes name = ap (λ t. 32 ∷ t) (append-nil c.as_str.result.now ∙ c.as_str.ensures.value) in (
      c.in_ok-write_pieces.ensures.0 ∙ ap (with_text (written c.loop-name.faults)) piece
          ∙ ap (λ o. with_text o (32 ∷ string_bytes name)) c.loop-name.invariant.0
          ∙ with_text-more (written c.args.faults.now) (flat_map (λ n. 32 ∷ string_bytes n) (take i names)) (32 ∷ string_bytes name)
          ∙ ap (with_text (written c.args.faults.now)) (sym (pieces_more (λ n. 32 ∷ string_bytes n) names i _ (32 ∷ string_bytes name) (ap (λ n. 32 ∷ string_bytes n) c.name-item.is) (search rules))),
      c.in_ok-write_pieces.ensures.1 ∙ c.loop-name.invariant.1,
    )
