-- A line more was read.
use Rattle.std.proofs.Common.{◌∙◌, sym, subst, IfSome}
use Rattle.lus_devices.specs.Devices.{Bytes}
use Rattle.lus_framing.specs.Frames.{SaysLength}
use Rattle.lus_framing.proofs.FrameLaws.{begun_more, head_read, line_read}
use Rattle.lus_framing.proofs.reading.read_head.Goals as goal

pub returns-in-Some : goal.returns-in-Some
returns-in-Some g c =
    head_read _ _ _ _ _ _ _ c.loop-number.invariant c.in-Some.is (line_read _ _ _ _ c.in-Line.is c.in_ok-read_line.ensures)
    (sym c.deref.ensures.value ∙ c.if-is_blank.ensures {u = tt})

pub loop-number-preserved : goal.loop-number-preserved
loop-number-preserved g c =
    let said = c.length_after-length.ensures in
    begun_more _ _ _ _ _ _ _ _ c.loop-number.invariant (line_read _ _ _ _ c.in-Line.is c.in_ok-read_line.ensures)
    (λ h. c.if-is_blank.ensures {u = tt} (c.deref.ensures.value ∙ h))
    (subst (λ (l : Bytes). IfSome said.0 (λ n. SaysLength l n)) c.deref-in-loop-number.ensures.value said.1) said.2
