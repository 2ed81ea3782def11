-- A live instance isn't answered as if it weren't one.
use Rattle.std.proofs.Common.{Some, sym, subst}
use Rattle.lus_foreign.specs.declared.content.Content.{Content as ContentType}
use Rattle.lus_c.specs.Lives.{OfHeldLive}
use Rattle.lus_c.specs.Queries.{IsHandle}
use Rattle.lus_c.proofs.live.call_in.Goals as goal

pub returns-in-Live-clause-handle : goal.returns-in-Live-clause-handle
returns-in-Live-clause-handle c =
    subst (λ (a : ContentType). OfHeldLive (Some a) c.call_spelled.result (λ l. IsHandle c.call_spelled.result → ⊥)) (sym c.in-Live.is) c.call_spelled.ensures.handle
