-- The first token of the text is the text.
use Rattle.lus_rename.proofs.Standing.{stands_in_source}
use Rattle.lus_rename.proofs.naming.is_name.Goals as goal

pub returns-in-Ok : goal.returns-in-Ok
returns-in-Ok c holds =
    stands_in_source c.args.text.now c.deref.result.now 0 c.args.text.now (rw c.deref.ensures.value c.in-Ok.ensures.found) (c.begin_with.ensures holds)
