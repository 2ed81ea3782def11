-- The loop over fields after an expression reads what the definition reads.
use Rattle.std.proofs.Common.{◌+◌, sym, refl, arith, add-one}
use Rattle.std.proofs.lemmas.Bool.{lt-ltb, le-ltb}
use Rattle.std.proofs.lemmas.Result.{err_from_is_err_and}
use Rattle.lus_grammar.specs.declared.fault.ParseError.TheVariants as errors
use Rattle.lus_syntax.specs.View.{expression_seen, tokens_seen}
use Rattle.lus_spelling.specs.Reading.{found, identifier_at}
use Rattle.lus_grammar.proofs.Steps.{bind_fails}
use Rattle.lus_grammar.proofs.Depths.{is_done, dots_end, field_fails, field_read}
use Rattle.lus_grammar.proofs.primaries.dots.Goals as goal

pub returns-then-depth-limit-clause-exact : goal.returns-then-depth-limit-clause-exact
returns-then-depth-limit-clause-exact c = field_fails c.args.limit _ _ _ (sym c.in-Some.ensures) (errors.Deep 0) c.loop-after.invariant.remains (rw (c.in_ok-name.ensures, lt-ltb _ _ c.if-depth-limit.true) refl)

pub returns-in_err-name-clause-exact : goal.returns-in_err-name-clause-exact
returns-in_err-name-clause-exact c =
    let p = err_from_is_err_and c.from_residual.result c.from_residual.ensures.1 in
    rw (p.1, p.2) (field_fails c.args.limit _ _ _ (sym c.in-Some.ensures) _ c.loop-after.invariant.remains (bind_fails _ (identifier_at (tokens_seen c.in-Some.after.now)) _ c.in_err-name.ensures))

pub loop-after-preserved : goal.loop-after-preserved
loop-after-preserved c =
    record {
      within = omega (arith, c.if-depth-limit.false);
      remains = field_read c.args.limit _ _ _ (sym c.in-Some.ensures) (found (expression_seen c.in_ok-left.left.value) (c.loop-after.depth + 1) (tokens_seen c.in_ok-name.after.now)) c.loop-after.invariant.remains (rw (c.in_ok-name.ensures, le-ltb _ _ c.if-depth-limit.false, c.in_ok-left.ensures, add-one c.loop-after.depth) refl) (omega arith);
    }

pub returns-clause-exact : goal.returns-clause-exact
returns-clause-exact c = is_done _ c.args.limit _ _ c.loop-after.invariant.remains (dots_end c.args.limit _ (sym c.in_default.ensures))
