-- A line too long was begun, and then its rest was skipped.
use Rattle.std.proofs.Common.{◌<◌, arith, length}
use Rattle.lus_lines.specs.Lines.{most_line_bytes}
use Rattle.lus_lines.proofs.LineLaws.{long_reads}
use Rattle.lus_lines.proofs.line.read_line.Goals as goal

pub returns : goal.returns
returns g c =
    let long : most_line_bytes < length c.loop-byte.line.items = omega arith in
    long_reads _ _ _ _ _ _ c.loop-byte.invariant.1 c.in_ok-ended.ensures long c.long_reading.ensures
