use Rattle.std.proofs.Common.{◌≡◌, get_or, take, sym, ap, ◌∙◌, arith}
use Rattle.std.proofs.lemmas.List.{take_more, take_all}
use Rattle.lus_syntax.specs.declared.token.Place.{Place}
use Rattle.lus_syntax.specs.Places.{past, past_one}
use Rattle.lus_syntax.proofs.Places.{past_push, past_one_byte, past_one_line, past_one_column}
use Rattle.lus_syntax.proofs.place.past.Goals as goal

pub loop-b-preserved : goal.loop-b-preserved
loop-b-preserved c =
    let bs = c.args.bytes.now in
    let b = get_or bs c.loop-b.b-index 0 in
    let e : c.past_one-place.result ≡ past_one c.loop-b.place b = c.past_one-place.ensures in
    record {
      so_far = e ∙ ap (λ (p : Place). past_one p b) c.loop-b.invariant.so_far ∙ sym (ap (past c.args.at) (take_more bs c.loop-b.b-index 0 (omega arith)) ∙ past_push c.args.at (take c.loop-b.b-index bs) b);
      byte = omega (arith, past_one_byte c.loop-b.place b, ap (λ (p : Place). p.byte) e, c.loop-b.invariant.byte);
      line = omega (arith, past_one_line c.loop-b.place b, ap (λ (p : Place). p.line) e, c.loop-b.invariant.line);
      column = omega (arith, past_one_column c.loop-b.place b, ap (λ (p : Place). p.column) e, c.loop-b.invariant.column);
    }

pub returns : goal.returns
returns c = c.loop-b.invariant.so_far ∙ ap (past c.args.at) (take_all c.loop-b.b-index c.args.bytes.now (omega arith))
