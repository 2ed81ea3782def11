use Rattle.std.proofs.Common.{◌≡◌, ℕ, suc, ◌+◌, List, length, sym, ap, subst, arith}
use Rattle.lus_classes.specs.States.{WithinDepth}
use Rattle.lus_classes.specs.View.{classes_of}
use Rattle.lus_instructions.specs.declared.class.Class.{Class}
use Rattle.lus_orders.specs.declared.class.Class.{Class as Emitted}
use Rattle.lus_code.specs.Codes.{plain_classes, program_of}
use Rattle.lus_code.specs.SimulationSpecs.Nesting.{depth_of}
use Rattle.lus_running.specs.Settings.{RunsClasses}
use Rattle.lus_eval.proofs.KeptRows.{runs_correct}
use Rattle.lus_eval.proofs.running.running.Goals as goal

-- calls are nested one deeper than there are classes
deep_enough : (c : goal.After-emitted) → suc (length c.classes-classes.result.now + 1) ≡ depth_of (program_of c.args.code.now)
deep_enough c =
    let size = c.classes-classes.ensures.correct.size in
    let same = ap length c.classes-classes.ensures.same in
    omega (arith, size, same)

pub returns-clause-runs : goal.returns-clause-runs
returns-clause-runs c =
    let code = c.args.code.now in
    subst (λ (l : List Class). RunsClasses l c.emitted.result.now) (sym c.classes-classes.ensures.same)
    (subst (λ (l : List Emitted). RunsClasses code.classes l) (sym c.emitted.ensures) (runs_correct code c.classes-classes.ensures.correct))

pub returns-clause-deep : goal.returns-clause-deep
returns-clause-deep c = deep_enough c

pub returns-clause-nested : goal.returns-clause-nested
returns-clause-nested c = λ g.
    let code = c.args.code.now in
    subst (λ (l : List Class). WithinDepth (classes_of l) (suc (length c.classes-classes.result.now + 1)) g) (sym c.classes-classes.ensures.same)
    (subst (λ (d : ℕ). WithinDepth (plain_classes code) d g) (sym (deep_enough c)) (c.classes-classes.ensures.correct.nested g))
