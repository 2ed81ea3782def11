-- The changes between both texts are sent.
use Rattle.std.proofs.Common.{◌∙◌, ap}
use Rattle.std.proofs.lemmas.Result.{IfOk-weaker}
use Rattle.lus_queries.specs.Edits.{workspace_text}
use Rattle.lus_queries.proofs.renames.edits.Goals as goal

pub returns : goal.returns
returns c =
    IfOk-weaker c.workspace_edit.result _ _
    (λ t is. record {
      changes = c.in_ok-changes.changes.items;
      make = c.in_ok-changes.ensures;
      sent_as = is ∙ ap (workspace_text c.args.uri.now) c.deref.ensures.value;
    })
    c.workspace_edit.ensures
