-- The first byte is a brace, or it isn't.
use Rattle.lus_many.proofs.ObjectLaws.{behind_brace, no_brace}
use Rattle.lus_many.proofs.objects.members_of.Goals as goal

pub returns-in-Some : goal.returns-in-Some
returns-in-Some c =
    let found = c.in-Some.ensures.cases in
    behind_brace c.args.object.now c.in-Some.members.now found.0 found.1.1 found.2

pub returns-in-None : goal.returns-in-None
returns-in-None c = no_brace c.args.object.now c.in-None.ensures.cases
