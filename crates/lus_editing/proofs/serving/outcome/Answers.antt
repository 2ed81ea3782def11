-- A rename is answered, or nothing is owed.
use Rattle.std.proofs.Common.{◌∙◌, Bool, IfOk, option_map, string_bytes, subst, sym}
use Rattle.serde_json.specs.View.{view}
use Rattle.lus_editing.specs.Renames.{Gives}
use Rattle.lus_editing.proofs.ServingLaws.{nothing_given}
use Rattle.lus_editing.proofs.serving.outcome.Goals as goal

pub returns-then-eq : goal.returns-then-eq
returns-then-eq g c =
    let parameters = option_map (λ v. view v.now) c.args.parameters in
    subst (λ (b : Bool). IfOk c.renamed.result (λ r. IfOk r (λ t. Gives g.C.Compiler.renames c.args.server.now b parameters (string_bytes t))))
    (sym c.if-eq.true ∙ c.eq.ensures) c.renamed.ensures

pub returns-else-eq : goal.returns-else-eq
returns-else-eq g c =
    let parameters = option_map (λ v. view v.now) c.args.parameters in
    subst (λ (b : Bool). IfOk c.outcome_otherwise.result (λ r. IfOk r (λ t. Gives g.C.Compiler.renames c.args.server.now b parameters (string_bytes t))))
    (sym c.if-eq.false ∙ c.eq.ensures) (nothing_given c.outcome_otherwise.result)
