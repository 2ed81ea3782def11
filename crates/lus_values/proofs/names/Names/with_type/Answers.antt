use Rattle.std.proofs.Common.{rules, arith}
use Rattle.std.proofs.lemmas.Grind.{common_steps}
use Rattle.lus_values.proofs.Places.{found-next, found-all}
use Rattle.lus_values.proofs.names.Names.with_type.Goals as goal

pub loop-constructor-preserved : goal.loop-constructor-preserved
loop-constructor-preserved c = record {
  copied = grind (arith, common_steps);
  found = λ text.
      found-next _ _ _ c.len-enumeration.result _ c.loop-constructor.constructor c.index-constructors-constructor.result text
      (c.in_ok-declare.ensures text) (c.loop-constructor.invariant.found text) c.loop-constructor-test.true c.index-constructors-constructor.is;
}

pub invariant_of-result : goal.invariant_of-result
invariant_of-result c = λ text.
    found-all _ c.self.inside.types.items _ c.loop-constructor.names _ c.len-enumeration.result c.loop-constructor.constructor text
    (c.loop-constructor.invariant.found text) (search rules) c.loop-constructor.invariant.copied c.in_ok-push-2.ensures.items
