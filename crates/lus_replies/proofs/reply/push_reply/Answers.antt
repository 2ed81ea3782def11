-- The object is appended in three pieces.
use Rattle.std.proofs.Common.{◌∙◌, ◌++◌, ap, string_bytes}
use Rattle.lus_replies.proofs.Texts.{three_pieces}
use Rattle.lus_replies.proofs.reply.push_reply.Goals as goal

pub returns-in_ok-push_str-in-Outputs-2 : goal.returns-in_ok-push_str-in-Outputs-2
returns-in_ok-push_str-in-Outputs-2 c =
    rw c.in-Outputs.is (three_pieces _ _ _ _ _ _ _ c.in_ok-push_str-in-Outputs.ensures.bytes c.in_ok-push_row-in-Outputs.ensures
    c.in_ok-push_str-in-Outputs-2.ensures.bytes)

pub returns-in_ok-push_str-in-Refused-3 : goal.returns-in_ok-push_str-in-Refused-3
returns-in_ok-push_str-in-Refused-3 c =
    rw c.in-Refused.is (three_pieces _ _ _ _ _ _ _ c.in_ok-push_str-in-Refused.ensures.bytes
    (c.in_ok-push_str-in-Refused-2.ensures.bytes ∙ ap (λ t. string_bytes c.push_str-in-Refused.new.self ++ t) c.why_word.ensures)
    c.in_ok-push_str-in-Refused-3.ensures.bytes)
