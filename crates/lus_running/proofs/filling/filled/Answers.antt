use Rattle.std.proofs.Common.{◌∙◌, ◌++◌, map, ap}
use Rattle.std.specs.Prelude.{replicate}
use Rattle.lus_instructions.specs.Words.{entry_in}
use Rattle.lus_running.proofs.filling.filled.Goals as goal

pub returns : goal.returns
returns g c = c.in_ok-fill.ensures ∙ ap (λ l. map g.T.Held.entry l ++ replicate c.args.count (entry_in c.args.word)) c.new-row.ensures.items
