-- The refusal has the number.
use Rattle.std.proofs.Common.{rules, ◌≡◌}
use Rattle.lus_rename.proofs.keeping.is_refused_by.Goals as goal

pub returns : goal.returns
returns c holds =
    let same : c.in_default.other ≡ c.args.number = search rules in
    let number : c.in-Err.refusal.number ≡ c.args.number = cc (same, c.in_default.other-is) in
    (c.in-Err.refusal, number, c.in_default.not-Memory, c.in-Err.ensures.first c.in_default.not-Memory)
