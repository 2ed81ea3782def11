-- A word is within its text.
use Rattle.std.proofs.Common.{arith}
use Rattle.lus_asked.proofs.Pieces.{word_within}
use Rattle.lus_asked.proofs.piece.split_word.Goals as goal

pub split_at-requires : goal.split_at-requires
split_at-requires c = omega (arith, c.word_len.ensures, word_within c.args.text.now)
