-- Each of the three is kept.
use Rattle.std.proofs.Common.{rules}
use Rattle.lus_rename.proofs.renaming.keeps.Goals as goal

pub returns : goal.returns
returns c holds =
    (c.in_ok-renames_tokens.ensures (search rules), c.in_ok-keeps_comments.ensures (search rules), c.in_ok-are_same_but_for_names.ensures holds)
