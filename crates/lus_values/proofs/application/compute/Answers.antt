use Rattle.std.proofs.Common.{rules}
use Rattle.lus_values.proofs.Remainders.{remainder-int_rem}
use Rattle.lus_values.proofs.application.compute.Goals as goal

pub returns-in_ok-a-in-Remainder : goal.returns-in_ok-a-in-Remainder
returns-in_ok-a-in-Remainder c =
    search (rules, remainder-int_rem)
