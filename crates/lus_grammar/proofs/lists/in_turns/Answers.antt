-- The loop over turns reads what the definition reads.
use Rattle.std.proofs.Common.{◌≡◌, suc, ◌+◌, ◌-◌, length, ap, sym, arith}
use Rattle.std.proofs.lemmas.Result.{err_from_is_err_and}
use Rattle.lus_syntax.specs.View.{tokens_seen}
use Rattle.lus_spelling.specs.ReadingDeclarations.{repeat_at}
use Rattle.lus_grammar.proofs.Items.{seen_length}
use Rattle.lus_grammar.proofs.Turns.{ended, turn_fails, goes_on, runs_out}
use Rattle.lus_grammar.proofs.lists.in_turns.Goals as goal

pub loop-init : goal.loop-init
loop-init g c =
    let ts = c.args.tokens.now in
    let same = seen_length ts in
    let count : length ts + 1 - 0 ≡ suc (length (tokens_seen ts)) = omega (arith, same) in
    rw c.begun-found.ensures (ap (λ n. repeat_at g.T.Turns.begins g.T.Turns.turn n (g.T.Turns.seen c.args.found) (tokens_seen ts)) count)

pub returns-in_default : goal.returns-in_default
returns-in_default g c = ended _ _ _ _ _ _ _ c.loop.invariant c.loop-test.true (sym c.in_default.ensures)

pub returns-in_err-more : goal.returns-in_err-more
returns-in_err-more g c =
    let p = err_from_is_err_and c.from_residual.result c.from_residual.ensures.1 in
    rw (p.1, p.2) (turn_fails _ _ _ _ _ _ _ c.loop.invariant _ _ c.loop-test.true (sym c.in-Some.ensures) c.in_err-more.ensures)

pub loop-preserved : goal.loop-preserved
loop-preserved g c = goes_on _ _ _ _ _ _ _ c.loop.invariant _ _ _ c.loop-test.true (sym c.in-Some.ensures) c.in_ok-more.ensures

pub returns : goal.returns
returns g c = runs_out _ _ _ _ _ _ _ c.loop.invariant c.loop-test.false
