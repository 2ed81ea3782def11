-- A frame that was written alone is read as its message.
use Rattle.std.proofs.Common.{rules, ◌∙◌, ◌++◌, ◌<◌, ◌^◌, ap, length}
use Rattle.std.proofs.lemmas.Result.{IfOk-weaker}
use Rattle.lus_framing.specs.Frames.{frame_text}
use Rattle.lus_framing.proofs.ReadBack.{read_own}
use Rattle.lus_framing.proofs.laws.read_back.Goals as goal

pub returns : goal.returns
returns c =
    let message = c.args.message.now in
    let small : length c.args.message.now < 2 ^ 64 = search rules in
    let text =
    c.as_bytes-source.ensures.value ∙ c.in_ok-push_frame.ensures ∙ ap (λ t. t ++ frame_text c.args.message.now) c.new-frame.ensures.bytes in
    IfOk-weaker c.read_frame.result _ _ (λ o is. read_own message _ _ _ small text is) c.read_frame.ensures
