use Rattle.std.proofs.Common.{arith, ◌≡◌, ◌∙◌, ◌+◌, ◌++◌, ◌∷◌, [], List, ℕ, ap, append-nil, flat_map, map, sym, take}
use Rattle.std.proofs.lemmas.Grind.{common_steps}
use Rattle.std.proofs.lemmas.List.{map_more}
use Rattle.std.proofs.lemmas.List.Concat.{flat_map-append}
use Rattle.lus_syntax.specs.Trees.{Equation}
use Rattle.lus_syntax.specs.View.{equation_seen}
use Rattle.lus_source.specs.Loopless.{called}
use Rattle.lus_source.proofs.uses.node_calls.Goals as goal

pub loop-equation-preserved : goal.loop-equation-preserved
loop-equation-preserved c =
    let all = c.deref-equation-items.result.now in
    let i = c.loop-equation.equation-index in
    let x = c.equation-item.result in
    let calls = λ (q : Equation). called c.args.nodes.now q.right in
    let before = map equation_seen (take i all) in
    let grown : map equation_seen (take (i + 1) all) ≡ before ++ equation_seen x ∷ [] = map_more equation_seen all i x c.loop-equation-test.true ∙ ap (λ y. before ++ equation_seen y ∷ []) (sym c.equation-item.is) in
    let more : flat_map calls (map equation_seen (take (i + 1) all)) ≡ flat_map calls before ++ calls (equation_seen x) =
    ap (flat_map calls) grown ∙ flat_map-append calls before (equation_seen x ∷ []) ∙ ap (λ (l : List ℕ). flat_map calls before ++ l) (append-nil (calls (equation_seen x))) in
    c.in_ok-push_called.ensures ∙ ap (λ (l : List ℕ). l ++ calls (equation_seen x)) c.loop-equation.invariant ∙ sym more

pub returns : goal.returns
returns c = grind (arith, common_steps)
