use Rattle.std.proofs.Common.{List, sym, subst, []}
use Rattle.lus_classes.specs.States.{State}
use Rattle.lus_instructions.specs.declared.class.Class.{Class}
use Rattle.lus_orders.specs.declared.class.Class.{Class as Emitted}
use Rattle.lus_code.specs.SimulationSpecs.Lineages.{HasLived}
use Rattle.lus_code.specs.SimulationSpecs.Nesting.{depth_of}
use Rattle.lus_code.specs.Codes.{plain_classes, program_of}
use Rattle.lus_running.specs.Instances.{IsFresh, seen}
use Rattle.lus_eval.proofs.KeptRows.{shaped_in_code}
use Rattle.lus_eval.proofs.object.Object.fresh.Goals as goal

pub returns : goal.returns
returns c =
    let code = c.args.code.now in
    let p = program_of code in
    let f = c.args.node.0 in
    let on = c.running.result in
    let correct = c.running.ensures.correct in
    let o = seen c.in_ok-instance.instance in
    let start = subst (λ (l : List Class). IsFresh l code.emitted f o) c.running.ensures.classes
    (subst (λ (l : List Emitted). IsFresh on.classes.now l f o) c.running.ensures.emitted c.in_ok-instance.ensures.start) in
    record {
      node = c.in_ok-instance.ensures.node;
      shaped = shaped_in_code code on.classes.now on.emitted.now c.running.ensures.classes c.running.ensures.emitted c.in_ok-instance.instance correct c.in_ok-instance.ensures.shaped;
      lived = subst (λ (s : State). HasLived p (plain_classes code) s f []) (sym (start (depth_of p) (correct.nested f))) (correct.starts f);
    }
