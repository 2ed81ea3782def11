-- The test decides: a program that passes is on clocks, and one that fails isn't.
use Rattle.std.proofs.Common.{is_ok, sym, ap, ◌∙◌}
use Rattle.lus_clocks.proofs.Whole.{on_clocks, off_clocks}
use Rattle.lus_clocks.proofs.checking.judge_program.Goals as goal

pub returns-in-Ok-clause-ok : goal.returns-in-Ok-clause-ok
returns-in-Ok-clause-ok c = on_clocks c.args.program.now (sym c.check_program.ensures ∙ ap is_ok c.in-Ok.is)

pub returns-in-Err-clause-err : goal.returns-in-Err-clause-err
returns-in-Err-clause-err c = off_clocks c.args.program.now (sym c.check_program.ensures ∙ ap is_ok c.in-Err.is)
