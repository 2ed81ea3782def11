-- What was gathered of lawful journals is written.
use Rattle.std.proofs.Common.{◌≡◌, false, map, string_bytes, subst, sym}
use Rattle.std.specs.Prelude.{⊤}
use Rattle.std.specs.Arc.{arc_value}
use Rattle.lus_devices.specs.Devices.{one_more}
use Rattle.lus_cli.specs.CodeSpecs.Codes.{program_of}
use Rattle.lus_cli.specs.MachineSpecs.Constructors.{names_of}
use Rattle.lus_traces.specs.Tables.{joined}
use Rattle.lus_draw.specs.CommandLine.{Drawing}
use Rattle.lus_draw.specs.Drawings.{IsDrawingFault, IsGathered, is_page}
use Rattle.lus_draw.specs.Gatherings.{AsCsv}
use Rattle.lus_draw.specs.Reading.{failures_since}
use Rattle.lus_draw.proofs.Audited.{drawn_of, ended_is, shown_of}
use Rattle.lus_draw.proofs.drawing.drawing.Goals as goal

pub returns-in-Ok-written-clause-drawn : goal.returns-in-Ok-written-clause-drawn
returns-in-Ok-written-clause-drawn g c =
    let d = g.K.Selects.wanted in
    let p = program_of (arc_value c.args.program.now) in
    let left = g.S.Source.left c.args.file in
    let tables = map string_bytes c.in-Ok.found.tables.items in
    let written = string_bytes c.in-Ok-written.written in
    let format : is_page d.format ≡ false = subst (λ (w : Drawing). is_page w.format ≡ false) c.requires.wanted c.requires.format in
    let found = subst (λ bytes. IsGathered p d bytes tables) c.new-file.ensures c.in-Ok.ensures.drawn in
    let shown = subst (λ (w : Drawing). AsCsv w.format (written ≡ joined tables)) c.requires.wanted c.in-Ok-written.ensures in
    drawn_of d p left tables written found (shown_of d.format (names_of p) left tables written format shown)

pub returns-in-Err-clause-fault : goal.returns-in-Err-clause-fault
returns-in-Err-clause-fault g c =
    let d = g.K.Selects.wanted in
    let p = program_of (arc_value c.args.program.now) in
    let left = g.S.Source.left c.args.file in
    let after = c.streamed.new.file in
    let Failed : Type 0 = (f : g.row.S.Denot) × (g.S.Source.failures f ≡ one_more g.K.Selects.failures) in
    let so = subst (λ bytes. IsDrawingFault d.selection p ⊤ bytes c.in-Err.fault) c.new-file.ensures c.in-Err.ensures.fault in
    subst (IsDrawingFault d.selection p Failed left) (sym c.ended.ensures)
    (ended_is d p left Failed c.in-Err.fault after.has_failed
    (λ failed. (after.source, subst (λ b. g.S.Source.failures after.source ≡ failures_since b g.K.Selects.failures) failed after.counted)) so)
