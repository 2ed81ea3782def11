-- There is one taker at most, and it has seen the whole history.
use Rattle.lus_shared.proofs.Takers.{takers_are_alone}
use Rattle.lus_shared.proofs.laws.takers_are_alone.Goals as goal

pub returns : goal.returns
returns c = takers_are_alone
