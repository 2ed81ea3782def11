-- No entry is noted yet.
use Rattle.std.proofs.Common.{[], sym, subst}
use Rattle.lus_program.specs.View.{program_seen}
use Rattle.lus_windows.specs.Reasons.{Tells, begins}
use Rattle.lus_windows.proofs.reasons.Reasons.new.Goals as goal

pub returns : goal.returns
returns c =
    let p = program_seen c.args.program.now in
    let f = c.args.node in
    let line = c.args.line in
    λ names.
    record {
      explains = c.in_ok-new.ensures;
      tells = subst (λ t. Tells p f names c.args.instance.now line [] line t) (sym c.new-2.ensures.bytes) begins;
    }
