use Rattle.lus_syntax.proofs.Meanings.{is_ok}
use Rattle.lus_syntax.proofs.kind.kind_of.Goals as goal

pub unwrap-requires : goal.unwrap-requires
unwrap-requires c = is_ok _ _ c.args.bytes.now c.from_utf8.result c.from_utf8.ensures.cases c.requires
