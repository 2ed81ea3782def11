use Rattle.std.proofs.Common.{◌∙◌}
use Rattle.std.proofs.lemmas.List.{map-id}
use Rattle.lus_shared.proofs.Later.{ok_implies}
use Rattle.lus_shared.proofs.seated.SeatNodeShared.open.Goals as goal

pub returns-clause-seats : goal.returns-clause-seats
returns-clause-seats c tells = ok_implies _ _ (λ r same. map-id r.1.items ∙ same) c.open.result c.open.ensures.seats
