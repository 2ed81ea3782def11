-- Bytes of ASCII are text.
use Rattle.std.proofs.Common.{◌∙◌, ap, sym, option_map}
use Rattle.lus_asked.proofs.Pieces.{ascii_text}
use Rattle.lus_asked.proofs.piece.ascii.Goals as goal

pub returns-then-is_ascii : goal.returns-then-is_ascii
returns-then-is_ascii c =
    ap (option_map (λ t. t.now)) c.ok.ensures.value
    ∙ ascii_text _ c.args.text.now c.from_utf8.result (sym c.is_ascii.ensures ∙ c.if-is_ascii.true) c.from_utf8.ensures.cases
