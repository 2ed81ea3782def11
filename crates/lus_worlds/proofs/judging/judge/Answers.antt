-- The fault here, or one below.
use Rattle.std.proofs.Common.{inl, inr, map, subst, sym, ⊎_elim}
use Rattle.lus_program.specs.View.{program_seen}
use Rattle.lus_values.specs.View.{entry_of}
use Rattle.lus_worlds.specs.Judging.{IsFaultHere}
use Rattle.lus_worlds.proofs.judging.judge.Goals as goal

pub returns-in_ok-cause_of-in-Some : goal.returns-in_ok-cause_of-in-Some
returns-in_ok-cause_of-in-Some c =
    let p = program_seen c.args.program.now in
    let row = map entry_of c.args.row.now in
    let kept = map entry_of c.args.kept.now in
    let here = rw c.in-Some.is at c.fault_here-here.ensures in
    ⊎_elim
    (λ same. inl (subst (IsFaultHere p c.args.present row c.args.parts.now kept c.args.called.now) (sym same) here))
    (λ below. inr below)
    c.in_ok-cause_of-in-Some.ensures
