use Rattle.std.proofs.Common.{◌≡◌, Some, sym, ap, ◌∙◌, length, arith}
use Rattle.lus_syntax.specs.Texts.{symbols, look_up, of_symbol}
use Rattle.lus_syntax.proofs.Meanings.{text_nonempty, number_first, symbol_meaning}
use Rattle.lus_syntax.proofs.kind.kind_of_text.Goals as goal

pub bounds-as_bytes-0 : goal.bounds-as_bytes-0
bounds-as_bytes-0 c = omega (arith, ap length c.as_bytes.ensures.value, text_nonempty c.args.text.now c.requires)

pub number_of-requires : goal.number_of-requires
number_of-requires c = number_first c.args.text.now c.requires
    (rw c.as_bytes.ensures.value at (sym c.begins_name.ensures ∙ c.if-begins_name.false))
    (rw c.as_bytes.ensures.value at (sym c.is_ascii_digit.ensures.value ∙ c.if-is_ascii_digit.true))

pub returns-in-Some-symbol_of : goal.returns-in-Some-symbol_of
returns-in-Some-symbol_of c =
    let e : look_up c.args.text.now symbols ≡ Some c.in-Some-symbol_of.symbol = cc in
    symbol_meaning c.args.text.now c.requires
    (rw c.as_bytes.ensures.value at (sym c.begins_name.ensures ∙ c.if-begins_name.false))
    (rw c.as_bytes.ensures.value at (sym c.is_ascii_digit.ensures.value ∙ c.if-is_ascii_digit.false))
    ∙ ap of_symbol e
