-- The table goes on by a line.
use Rattle.lus_sketches.specs.Sketches.{IsFailure}
use Rattle.lus_sketches.proofs.Sketched.{drawn_as}
use Rattle.lus_sketches.proofs.sketches.Sketch.pass.Goals as goal

pub returns-clause-sketched : goal.returns-clause-sketched
returns-clause-sketched c =
    λ s p f h columns. drawn_as (IsFailure s p f h) c.args.self.now.failure (λ i. record {
      noted = i.noted;
      signals = i.signals;
      cells = i.cells;
      table = c.pass.ensures.noted columns i.noted i.table;
      followed = i.followed;
    })
