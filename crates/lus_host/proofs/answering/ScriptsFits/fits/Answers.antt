-- The stored instances and those of scripts have the same places.
use Rattle.std.proofs.Common.{◌<◌, subst, List, length, IsTrue}
use Rattle.std.specs.List.{All}
use mathlib.Core.Logic.{◌↔◌}
use Rattle.lus_callers.specs.CodeSpecs.Codes.{program_of}
use Rattle.lus_scripts.specs.declared.scripts.Instance.{Instance}
use Rattle.lus_host.proofs.Histories.{kept_nodes, stored_nodes}
use Rattle.lus_host.proofs.answering.ScriptsFits.fits.Goals as goal

pub returns : goal.returns
returns c =
    let n = length (program_of c.args.program.now).nodes in
    let is = c.args.self.now.instances.items in
    let all : IsTrue c.have_nodes.result ↔ All (λ (i : Instance). i.id.0 < n) is =
    subst (λ (v : List Instance). IsTrue c.have_nodes.result ↔ All (λ (i : Instance). i.id.0 < n) v) c.deref.ensures.value c.have_nodes.ensures in
    ((λ h. kept_nodes n is (all.0 h)), λ h. all.1 (stored_nodes n is h))
