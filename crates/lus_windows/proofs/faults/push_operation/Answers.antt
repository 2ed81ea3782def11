-- Two operands stand about the sign, others behind it.
use Rattle.std.proofs.Common.{◌≡◌, ◌∙◌, ◌++◌, [], ◌∷◌, length, map, string_bytes, sym, ap, inl, inr, arith}
use Rattle.std.proofs.lemmas.Result.{on_ok_weaker}
use Rattle.lus_values.specs.View.{value_of}
use Rattle.lus_windows.specs.Words.{listed_text}
use Rattle.lus_windows.proofs.Rows.{two_items}
use Rattle.lus_windows.proofs.faults.push_operation.Goals as goal

pub returns-in-len2 : goal.returns-in-len2
returns-in-len2 c =
    let sign = c.sign_of-sign.result.now in
    let a = c.left-item.result in
    let b = c.right-item.result in
    let xs = c.as_slice.result.now in
    let long : length xs ≡ 2 = omega (arith, c.in-len2.len_at_least, c.in-len2.len_below) in
    let two : xs ≡ a ∷ b ∷ [] = two_items xs a b long c.left-item.is c.right-item.is in
    let all : c.args.operation.now.operands.items ≡ a ∷ b ∷ [] = sym c.as_slice.ensures.value ∙ two in
    on_ok_weaker c.push_infix.result (λ e. inl (sign, value_of a, value_of b, ap (map value_of) all, e)) c.push_infix.ensures

pub returns-in_default : goal.returns-in_default
returns-in_default c =
    let sign = c.sign_of-sign.result.now in
    let names = c.args.names.now in
    let old = string_bytes c.args.text.now in
    on_ok_weaker c.push_listed.result (λ e. inr (sign, e ∙ ap (λ l. old ++ listed_text names sign (map value_of l)) c.as_slice.ensures.value)) c.push_listed.ensures
