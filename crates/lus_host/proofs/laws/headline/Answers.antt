-- Streams of an accepted program are unique.
use Rattle.lus_host.proofs.Headlines.{headline}
use Rattle.lus_host.proofs.laws.headline.Goals as goal

pub returns : goal.returns
returns c =
    headline (λ text p accepted f l o o' one other.
    c.accepted_programs.ensures.unique text p accepted f l one.world other.world one.streams other.streams)
