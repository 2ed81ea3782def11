-- A text is heard, or nothing is owed.
use Rattle.std.proofs.Common.{IfOk, Option, Some, option_map, string_bytes, subst}
use Rattle.lus_editing.specs.Messages.{SentText}
use Rattle.lus_editing.specs.Serving.{IsNotified}
use Rattle.lus_editing.proofs.ServingLaws.{nothing_owed}
use Rattle.lus_editing.proofs.serving.notify.Goals as goal

pub returns-in_ok-said-in-Some : goal.returns-in_ok-said-in-Some
returns-in_ok-said-in-Some g c =
    subst (λ (o : Option SentText). IsNotified o (Some (string_bytes c.in_ok-said-in-Some.said)))
    c.in-Some.ensures tt

pub returns-in-None : goal.returns-in-None
returns-in-None g c =
    subst (λ (o : Option SentText). IfOk c.heed.result (λ s. IsNotified o (option_map string_bytes s)))
    c.in-None.ensures (nothing_owed c.heed.result)
