-- An object that is set back, and what it has lived through then.
use Rattle.std.proofs.Common.{[], subst}
use Rattle.lus_eval.specs.Objects.{Kept, kept_by, IsObjectOf, IsReset, ObjectLived}
use Rattle.lus_eval.proofs.KeptRows.{reset_kept, reset_lived, reset_starts}
use Rattle.lus_eval.proofs.object.Object.reset.Goals as goal

pub returns-clause-back : goal.returns-clause-back
returns-clause-back c = subst (λ (k : Kept). IsReset k (kept_by c.reset.new.self)) c.self.view_is (reset_kept c.self.inside.instance c.reset.new.self c.reset.ensures)

pub returns-clause-lived : goal.returns-clause-lived
returns-clause-lived c = λ code f lineage.
    reset_lived code f c.args.self.now (kept_by c.reset.new.self) lineage
    (subst (λ (k : Kept). IsReset k (kept_by c.reset.new.self)) c.self.view_is (reset_kept c.self.inside.instance c.reset.new.self c.reset.ensures))

pub returns-clause-fits : goal.returns-clause-fits
returns-clause-fits c = λ code correct shaped.
    let o = c.self.inside.instance in
    let starts = reset_starts code correct o c.reset.new.self c.reset.ensures in
    subst (λ (k : Kept). IsObjectOf code k → ObjectLived code k.node (kept_by c.reset.new.self) []) c.self.view_is starts shaped
