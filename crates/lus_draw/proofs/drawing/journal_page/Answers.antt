-- What was gathered of lawful journals is drawn on a page.
use Rattle.std.proofs.Common.{◌≡◌, map, string_bytes, subst, sym, true, false, Some}
use Rattle.std.proofs.lemmas.Bool.{true≢false}
use Rattle.std.specs.Arc.{arc_value}
use Rattle.lus_cli.specs.CodeSpecs.Codes.{program_of}
use Rattle.lus_cli.specs.MachineSpecs.Constructors.{names_of}
use Rattle.lus_draw.specs.CommandLine.{Drawing}
use Rattle.lus_draw.specs.Drawings.{IsDrawingFault, is_page}
use Rattle.lus_draw.proofs.Audited.{drawn_of, ended_is, page_of}
use Rattle.lus_draw.proofs.drawing.journal_page.Goals as goal

pub returns-in-Ok-page-clause-drawn : goal.returns-in-Ok-page-clause-drawn
returns-in-Ok-page-clause-drawn g c =
    let d = g.K.Selects.wanted in
    let p = program_of (arc_value c.args.program.now) in
    let bytes = c.args.bytes.now in
    let text = c.text_in.result.now in
    let written = string_bytes c.in-Ok-page.page in
    let page : is_page d.format ≡ true = subst (λ (w : Drawing). is_page w.format ≡ true) c.requires.wanted c.requires.page in
    drawn_of d p (Some bytes) (map string_bytes c.in-Ok.found.tables.items) written c.in-Ok.ensures.drawn
    (λ ts are. page_of d.format (names_of p) bytes text ts written page c.text_in.ensures c.in-Ok-page.ensures)

pub returns-in-Err-clause-fault : goal.returns-in-Err-clause-fault
returns-in-Err-clause-fault g c =
    let d = g.K.Selects.wanted in
    let p = program_of (arc_value c.args.program.now) in
    let left = Some c.args.bytes.now in
    subst (IsDrawingFault d.selection p ⊥ left) (sym c.ended.ensures)
    (ended_is d p left ⊥ c.in-Err.fault false (λ failed. true≢false (sym failed)) c.in-Err.ensures.fault)
