-- By what `parse` says.
use Rattle.std.proofs.Common.{◌∙◌, ◌^◌, ap, sym}
use Rattle.lus_asked.specs.Reading.{begins_number}
use Rattle.lus_asked.proofs.Numbers.{natural_none, natural_parsed}
use Rattle.lus_test.proofs.options.number.Goals as goal

pub returns-then-begins_number : goal.returns-then-begins_number
returns-then-begins_number c =
    c.ok.ensures.value
    ∙ natural_parsed c.args.text.now c.parse.result
    (ap begins_number (sym c.as_bytes.ensures.value) ∙ sym c.begins_number.ensures ∙ c.if-begins_number.true) c.parse.ensures.value.0

pub returns-else-begins_number : goal.returns-else-begins_number
returns-else-begins_number c =
    natural_none (2 ^ 64) c.args.text.now
    (ap begins_number (sym c.as_bytes.ensures.value) ∙ sym c.begins_number.ensures ∙ c.if-begins_number.false)
