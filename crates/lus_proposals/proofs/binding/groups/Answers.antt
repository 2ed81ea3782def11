use Rattle.std.proofs.Common.{◌∙◌, sym}
use Rattle.lus_proposals.proofs.Readings.{keeps_reading}
use Rattle.lus_proposals.proofs.binding.groups.Goals as goal

pub returns-clause-reading : goal.returns-clause-reading
returns-clause-reading c e = keeps_reading c.args.before c.args.inside.now c.args.behind (sym c.are_held.ensures ∙ e)
