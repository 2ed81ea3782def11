-- What is recalled is the entry of this call.
use Rattle.std.proofs.Common.{◌≡◌, ◌∙◌, ◌++◌, ap, subst, sym, List, [], ◌∷◌, Option, Some, None}
use Rattle.std.specs.Prelude.{IfSome}
use Rattle.lus_requests.specs.declared.request.Entry.{Entry}
use Rattle.lus_hosting.specs.LastEntries.{IsLast}
use Rattle.lus_hosting.proofs.hosted.HostedReacts.call.Goals as goal

last_recalled : (o : Option Entry) (h now : List Entry) (e : Entry) → now ≡ h ++ e ∷ [] → IfSome o (λ x. x ≡ e) → IsLast o now
last_recalled None h now e grown is = tt
last_recalled (Some x) h now e grown is = (h, grown ∙ ap (λ y. h ++ y ∷ []) (sym is))

pub returns-in_err-reply-clause-same : goal.returns-in_err-reply-clause-same
returns-in_err-reply-clause-same c = λ p f was.
    (c.call.ensures.same p f was.0, subst (IsLast c.args.self.now.last) (sym c.in_err-reply.ensures.err) was.1)

pub returns-clause-same : goal.returns-clause-same
returns-clause-same c = λ p f was. (c.call.ensures.same p f was.0, last_recalled _ _ _ _ c.in_ok-reply.ensures.ok c.recall.ensures)
