-- One number more.
use Rattle.std.proofs.Common.{◌≡◌, ◌∙◌, suc, ◌+◌, ◌-◌, [], ◌∷◌, ◌++◌, sym, ap, append_assoc, append-nil, arith}
use Rattle.lus_worlds.specs.Turns.{below}
use Rattle.lus_worlds.proofs.finding.last_first.Goals as goal

pub loop-behind-preserved : goal.loop-behind-preserved
loop-behind-preserved c =
    let n = c.args.count in
    let i = c.loop-behind.behind in
    let cs = c.loop-behind.calls.items in
    let k = n - 1 - i in
    let here : n - i ≡ suc k = omega (arith, c.loop-behind-test.true) in
    let left : n - (i + 1) ≡ k = omega (arith, c.loop-behind-test.true) in
    (λ j. c.in_ok-push.ensures.items j ++ below (left j))
    ∙ append_assoc cs (k ∷ []) (below k)
    ∙ ap (λ m. cs ++ below m) (sym here)
    ∙ c.loop-behind.invariant

pub returns : goal.returns
returns c =
    let cs = c.loop-behind.calls.items in
    let none : c.args.count - c.loop-behind.behind ≡ 0 = omega (arith, c.loop-behind-test.false) in
    sym (append-nil cs) ∙ ap (λ m. cs ++ below m) (sym none) ∙ c.loop-behind.invariant
