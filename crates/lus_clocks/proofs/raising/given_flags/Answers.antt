-- What the equations give over false flags.
use Rattle.std.proofs.Common.{sym, subst}
use Rattle.lus_clocks.specs.Raising.{AreGiven}
use Rattle.lus_clocks.proofs.Rising.{all_given_are}
use Rattle.lus_clocks.proofs.raising.given_flags.Goals as goal

pub returns : goal.returns
returns c =
    let flags = c.args.flags.now in
    let equations = c.args.equations.now in
    subst (AreGiven equations flags) (sym c.give_all.ensures) (all_given_are equations flags c.in_ok-given.given.items c.in_ok-given.ensures)
