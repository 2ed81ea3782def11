use Rattle.lus_program.specs.View.{program_seen}
use Rattle.lus_words.proofs.Laid.{laid_more, none_laid, none_of, one_of, structure_of}
use Rattle.lus_words.proofs.laying.+lay.Goals as goal

pub layout_within-returns-in-Some : goal.layout_within-returns-in-Some
layout_within-returns-in-Some t c =
    structure_of (program_seen c.args.program.now) c.args.kind c.in-Struct.number _ c.fields_at.result.now c.in_ok-parts.field-0 c.in-Some.parts c.in-Struct.is c.fields_at.ensures c.in-Some.is c.in_ok-parts.ensures

pub layouts_within-returns-in-None : goal.layouts_within-returns-in-None
layouts_within-returns-in-None t c =
    none_laid (program_seen c.args.program.now) c.args.deep c.args.fields.now c.loop-field.field-index c.field-item.result c.loop-field-test.true c.field-item.is
    (none_of (program_seen c.args.program.now) c.field-item.result.kind c.args.deep c.in_ok-part.field-0 c.in-None.is c.in_ok-part.ensures)

pub layouts_within-loop-field-preserved : goal.layouts_within-loop-field-preserved
layouts_within-loop-field-preserved t c =
    laid_more (program_seen c.args.program.now) c.args.fields.now c.loop-field.field-index c.field-item.result c.loop-field-test.true c.field-item.is
    c.loop-field.parts.items c.push.new.self.items c.in-Some.part c.in_ok-push-in-Some.ensures.items
    (one_of (program_seen c.args.program.now) c.field-item.result.kind c.args.deep c.in_ok-part.field-0 c.in-Some.part c.in-Some.is c.in_ok-part.ensures)
    c.loop-field.invariant
