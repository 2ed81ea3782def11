use Rattle.lus_source.proofs.TypesMeant.{definition_here}
use Rattle.lus_source.proofs.types.KindsRuleKind.find.Goals as goal

pub returns : goal.returns
returns c =
    let here = definition_here c.args.self.now.source.now c.args.thing c.index.result.now c.requires (rw c.tree.ensures.same at c.index.ensures) in
    (rw (c.type_names-types.ensures, ← here) at c.kind_of.ensures, tt)
