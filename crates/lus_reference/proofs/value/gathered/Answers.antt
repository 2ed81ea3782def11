-- One operand more.
use Rattle.std.proofs.Common.{◌≡◌, ◌∙◌, sym, ap, suc, ◌+◌, List, [], ◌∷◌, ◌++◌, drop, drop-cons, map, Option, Some, None, refl, append_assoc, arith, rules}
use Rattle.std.proofs.lemmas.Grind.{common_steps}
use Rattle.std.specs.Option.{option_map}
use Rattle.lus_values.specs.Values.{Value}
use Rattle.lus_values.specs.View.{entry_of, value_of}
use Rattle.lus_values.specs.Entries.{with_operand}
use Rattle.lus_reference.specs.Made.{gathered}
use Rattle.lus_reference.proofs.value.gathered.Goals as goal

joined : (vs : List Value) (v : Value) (o : Option (List Value)) → option_map (λ ws. (vs ++ v ∷ []) ++ ws) o ≡ option_map (λ ws. vs ++ ws) (with_operand (Some v) o)
joined vs v None = refl
joined vs v (Some ws) = ap Some (append_assoc vs (v ∷ []) ws)

pub loop-operand-preserved : goal.loop-operand-preserved
loop-operand-preserved c =
    let xs = c.args.operands.now in
    let i = c.loop-operand.operand-index in
    let x = c.operand-item.result in
    let vs = map value_of c.loop-operand.values.items in
    let v = value_of c.in-Some.value in
    let next : i + 1 ≡ suc i = omega arith in
    let rest : drop i xs ≡ x ∷ drop (suc i) xs = drop-cons xs i x c.loop-operand-test.true ∙ (λ j. sym c.operand-item.is j ∷ drop (suc i) xs) in
    let here : entry_of x ≡ Some v = first_of (search rules, grind (arith, common_steps)) in
    let pushed : map value_of c.push.new.self.items ≡ vs ++ v ∷ [] = first_of (search rules, grind (arith, common_steps)) in
    let later = gathered (map entry_of (drop (suc i) xs)) in
    (λ j. option_map (λ ws. pushed j ++ ws) (gathered (map entry_of (drop (next j) xs))))
    ∙ joined vs v later
    ∙ ap (λ o. option_map (λ ws. vs ++ ws) (with_operand o later)) (sym here)
    ∙ ap (λ l. option_map (λ ws. vs ++ ws) (gathered (map entry_of l))) (sym rest)
    ∙ c.loop-operand.invariant
