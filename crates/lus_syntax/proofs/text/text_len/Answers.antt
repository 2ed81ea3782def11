use Rattle.std.proofs.Common.{sym, ◌∙◌, arith}
use Rattle.lus_syntax.proofs.Longest.{name_at, number_at, symbol_at, nothing_at, symbol_within}
use Rattle.std.proofs.lemmas.List.Sums.{prefix_len-le-length}
use Rattle.std.specs.Char.{is_ascii_digit}
use Rattle.lus_syntax.specs.Texts.{continues_name}
use Rattle.lus_syntax.proofs.text.text_len.Goals as goal

pub returns-in_err-first-clause-longest : goal.returns-in_err-first-clause-longest
returns-in_err-first-clause-longest c = nothing_at c.args.bytes.now _ c.in_err-first.ensures.value c.from_residual.ensures

pub returns-then-begins_name-clause-longest : goal.returns-then-begins_name-clause-longest
returns-then-begins_name-clause-longest c = name_at c.args.bytes.now _ _ c.in_ok-first.ensures.value (sym c.begins_name.ensures ∙ c.if-begins_name.true) c.name_len.ensures

pub returns-then-is_ascii_digit-clause-longest : goal.returns-then-is_ascii_digit-clause-longest
returns-then-is_ascii_digit-clause-longest c = number_at c.args.bytes.now _ _ c.in_ok-first.ensures.value (sym c.is_ascii_digit.ensures.value ∙ c.if-is_ascii_digit.true) c.number_len.ensures

pub returns-else-is_ascii_digit-clause-longest : goal.returns-else-is_ascii_digit-clause-longest
returns-else-is_ascii_digit-clause-longest c = symbol_at c.args.bytes.now _ _ c.in_ok-first.ensures.value (sym c.begins_name.ensures ∙ c.if-begins_name.false) (sym c.is_ascii_digit.ensures.value ∙ c.if-is_ascii_digit.false) c.symbol_len.ensures

pub returns-then-begins_name-clause-within : goal.returns-then-begins_name-clause-within
returns-then-begins_name-clause-within c = omega (arith, c.name_len.ensures, prefix_len-le-length continues_name c.args.bytes.now)

pub returns-then-is_ascii_digit-clause-within : goal.returns-then-is_ascii_digit-clause-within
returns-then-is_ascii_digit-clause-within c = omega (arith, c.number_len.ensures, prefix_len-le-length is_ascii_digit c.args.bytes.now)

pub returns-else-is_ascii_digit-clause-within : goal.returns-else-is_ascii_digit-clause-within
returns-else-is_ascii_digit-clause-within c = symbol_within c.args.bytes.now c.symbol_len.result c.symbol_len.ensures
