use Rattle.lus_source.proofs.Measures.{found_fit, past_refused}
use Rattle.lus_source.proofs.sizes.measured.Goals as goal

pub returns-in-Ok-clause-fit : goal.returns-in-Ok-clause-fit
returns-in-Ok-clause-fit g c = found_fit c.requires.measure c.args.order.now c.requires.order (g.R.Rule.fits c.args.rule.now) c.in-Ok.table.items c.in-Ok.ensures.found

pub returns-in-Err-clause-fit : goal.returns-in-Err-clause-fit
returns-in-Err-clause-fit g c =
    past_refused c.requires.measure c.args.order.now c.requires.order (g.R.Rule.fits c.args.rule.now) c.in-Err.thing c.in-Err.ensures.refused.0 c.in-Err.ensures.refused.1
