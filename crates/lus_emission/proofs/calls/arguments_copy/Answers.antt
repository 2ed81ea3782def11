use Rattle.std.proofs.Common.{◌≡◌, ◌∙◌, map, ap}
use Rattle.std.proofs.lemmas.List.{take_all}
use Rattle.lus_instructions.specs.declared.class.Argument.{Argument}
use Rattle.lus_emission.specs.Calls.{seen_argument}
use Rattle.lus_emission.proofs.Adding.{made_next}
use Rattle.lus_emission.proofs.calls.arguments_copy.Goals as goal

pub loop-argument-preserved : goal.loop-argument-preserved
loop-argument-preserved c =
    let l = c.loop-argument in
    let a = c.argument-item.result in
    let copied : Argument = record { test = a.test; atom = c.in_ok-atom.atom } in
    let same : seen_argument copied ≡ seen_argument a = ap (λ atom. (a.test, atom)) c.in_ok-atom.ensures in
    made_next seen_argument seen_argument c.args.arguments.now l.argument-index a l.all.items c.push.new.self.items copied c.loop-argument-test.true c.argument-item.is l.invariant same
    c.in_ok-push.ensures.items

pub returns : goal.returns
returns c =
    let l = c.loop-argument in
    l.invariant ∙ ap (map seen_argument) (take_all l.argument-index c.args.arguments.now c.loop-argument-test.false)
