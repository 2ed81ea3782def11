-- No instance has been made.
use Rattle.std.proofs.Common.{[]}
use Rattle.lus_hosting.proofs.HostLaws.{none_kept, none_named}
use Rattle.lus_hosting.proofs.hosting.host_many.Goals as goal

pub returns-clause-all : goal.returns-clause-all
returns-clause-all g c =
    c.host_lines.ensures.all [] (none_kept _ _ _ (none_named c.no_instances-instances.result c.no_instances-instances.ensures))

pub returns-clause-begun : goal.returns-clause-begun
returns-clause-begun g c =
    c.host_lines.ensures.begun [] (none_kept _ _ _ (none_named c.no_instances-instances.result c.no_instances-instances.ensures))
