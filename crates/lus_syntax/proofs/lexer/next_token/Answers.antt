use Rattle.lus_syntax.proofs.Runs.{is_gap_room, open_breaks}
use Rattle.lus_syntax.proofs.lexer.next_token.Goals as goal

pub token_at-requires-clause-room : goal.token_at-requires-clause-room
token_at-requires-clause-room c = is_gap_room c.args.at c.args.bytes.now _ _ c.in-Ok.ensures.0 c.requires

pub returns-in-Err : goal.returns-in-Err
returns-in-Err c = open_breaks c.args.at c.args.bytes.now c.in-Err.open c.in-Err.ensures
