-- What isn't the next entry of the live instance isn't that of the content, and where it is live it isn't answered as if it weren't.
use Rattle.std.proofs.Common.{Some, sym, subst}
use Rattle.lus_live_node.specs.LiveNodes.{IsNone as IsNoEntry}
use Rattle.lus_foreign.specs.declared.content.Content.{Content as ContentType}
use Rattle.lus_c.specs.Lives.{OfHeldLive}
use Rattle.lus_c.specs.Queries.{IsHandle}
use Rattle.lus_c.proofs.live.replay_in.Goals as goal

pub returns-in-Live-clause-none : goal.returns-in-Live-clause-none
returns-in-Live-clause-none c = λ yes.
    subst (λ (a : ContentType). OfHeldLive (Some a) c.replay_at.result (λ l. IsNoEntry c.args.line.now l.instance)) (sym c.in-Live.is) (c.replay_at.ensures.none yes)

pub returns-in-Live-clause-handle : goal.returns-in-Live-clause-handle
returns-in-Live-clause-handle c =
    subst (λ (a : ContentType). OfHeldLive (Some a) c.replay_at.result (λ l. IsHandle c.replay_at.result → ⊥)) (sym c.in-Live.is) c.replay_at.ensures.handle
