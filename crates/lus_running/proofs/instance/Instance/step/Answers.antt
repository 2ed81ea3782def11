use Rattle.std.proofs.Common.{ap, get_or, None, Some, refl, arith}
use Rattle.std.proofs.lemmas.Option.{slice_get_within}
use Rattle.lus_running.specs.Instances.{seen, seen_in}
use Rattle.lus_running.proofs.Seeing.{can_follow, found_at, known, long_of, still_shaped, wide_enough}
use Rattle.lus_running.proofs.StepStates.{answers_none, answers_ok}
use Rattle.lus_running.proofs.instance.Instance.step.Goals as goal

pub bounds-on-self : goal.bounds-on-self
bounds-on-self c = slice_get_within c.args.on.now.emitted.now c.args.self.now.node c.requires.shaped.code c.requires.shaped.coded

pub step-requires : goal.step-requires
step-requires c =
    let on = c.args.on.now in
    let xs = on.emitted.now in
    let o = c.args.self.now in
    let s = c.requires.shaped in
    let f = get_or xs o.node c.index-on-self.result in
    let coded = found_at xs o.node s.code f s.coded (ap (get_or xs o.node) c.index-on-self.is) in
    let formals = c.requires.formals s.class s.found in
    let wide = wide_enough on.classes.now xs c.requires.code o.node f coded s.class s.found in
    record {
      follow = can_follow on.classes.now xs c.requires.code o.node f coded on.depth c.requires.depth;
      long = long_of on.classes.now xs (seen o) f coded s;
      outputs = (let inputs = formals.0 in let outputs = formals.1 in omega (arith, inputs, outputs, wide));
    }

pub returns-in-Ok-Some-clause-step : goal.returns-in-Ok-Some-clause-step
returns-in-Ok-Some-clause-step c =
    let on = c.args.on.now in
    let xs = on.emitted.now in
    let o = c.args.self.now in
    let s = c.requires.shaped in
    let f = get_or xs o.node c.index-on-self.result in
    let coded = found_at xs o.node s.code f s.coded (ap (get_or xs o.node) c.index-on-self.is) in
    λ z fz.
    answers_ok on.classes.now xs c.requires.code on.depth (seen o) s c.requires.depth c.args.inputs.now f coded z fz (c.requires.formals z fz).0 (c.requires.presence z fz)
    c.args.outputs c.in-Ok-Some.found (seen_in o.node c.step.new.self).cells (c.requires.formals z fz).1
    (known c.in-Ok-Some.field-0 (Some c.in-Ok-Some.found) c.in-Ok-Some.field-0-is c.in-Ok-Some.ensures).step

pub returns-in-Ok-None-clause-step : goal.returns-in-Ok-None-clause-step
returns-in-Ok-None-clause-step c =
    let on = c.args.on.now in
    let xs = on.emitted.now in
    let o = c.args.self.now in
    let s = c.requires.shaped in
    let f = get_or xs o.node c.index-on-self.result in
    let coded = found_at xs o.node s.code f s.coded (ap (get_or xs o.node) c.index-on-self.is) in
    λ z fz.
    answers_none on.classes.now xs c.requires.code on.depth (seen o) s c.requires.depth c.args.inputs.now f coded z fz (c.requires.formals z fz).0 (c.requires.presence z fz)
    (known c.in-Ok-None.field-0 None c.in-Ok-None.field-0-is c.in-Ok-None.ensures).step

pub returns-in-Ok-Some-clause-shaped : goal.returns-in-Ok-Some-clause-shaped
returns-in-Ok-Some-clause-shaped c =
    let on = c.args.on.now in
    let xs = on.emitted.now in
    let o = c.args.self.now in
    let s = c.requires.shaped in
    let f = get_or xs o.node c.index-on-self.result in
    let coded = found_at xs o.node s.code f s.coded (ap (get_or xs o.node) c.index-on-self.is) in
    still_shaped on.classes.now xs (seen o) (seen_in o.node c.step.new.self) s refl f coded c.step.ensures.long

pub returns-in-Ok-None-clause-shaped : goal.returns-in-Ok-None-clause-shaped
returns-in-Ok-None-clause-shaped c =
    let on = c.args.on.now in
    let xs = on.emitted.now in
    let o = c.args.self.now in
    let s = c.requires.shaped in
    let f = get_or xs o.node c.index-on-self.result in
    let coded = found_at xs o.node s.code f s.coded (ap (get_or xs o.node) c.index-on-self.is) in
    still_shaped on.classes.now xs (seen o) (seen_in o.node c.step.new.self) s refl f coded c.step.ensures.long

pub returns-in-Err-clause-shaped : goal.returns-in-Err-clause-shaped
returns-in-Err-clause-shaped c =
    let on = c.args.on.now in
    let xs = on.emitted.now in
    let o = c.args.self.now in
    let s = c.requires.shaped in
    let f = get_or xs o.node c.index-on-self.result in
    let coded = found_at xs o.node s.code f s.coded (ap (get_or xs o.node) c.index-on-self.is) in
    still_shaped on.classes.now xs (seen o) (seen_in o.node c.step.new.self) s refl f coded c.step.ensures.long

pub returns-in-Ok-Some-clause-behind : goal.returns-in-Ok-Some-clause-behind
returns-in-Ok-Some-clause-behind c = record { cells = (known c.in-Ok-Some.field-0 (Some c.in-Ok-Some.found) c.in-Ok-Some.field-0-is c.in-Ok-Some.ensures).kept.cells }

pub returns-in-Ok-None-clause-err : goal.returns-in-Ok-None-clause-err
returns-in-Ok-None-clause-err c =
    let kept = (known c.in-Ok-None.field-0 None c.in-Ok-None.field-0-is c.in-Ok-None.ensures).kept in
    record { node = refl; cells = kept.cells; row = kept.row }

pub returns-in-Err-clause-err : goal.returns-in-Err-clause-err
returns-in-Err-clause-err c =
    let kept = c.in-Err.ensures.kept in
    record { node = refl; cells = kept.cells; row = kept.row }
