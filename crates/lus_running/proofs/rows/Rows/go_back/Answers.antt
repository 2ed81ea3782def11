use Rattle.std.proofs.Common.{refl}
use Rattle.lus_running.proofs.rows.Rows.go_back.Goals as goal

pub returns : goal.returns
returns g c = λ n. rw c.exchange.ensures (record { node = refl; cells = refl; next_cells = refl; row = refl })
