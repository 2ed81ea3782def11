use Rattle.std.proofs.Common.{◌≡◌, ◌∙◌, ◌+◌, ◌<◌, ◌++◌, ◌∷◌, [], suc, map, drop, length, get_or, sym, ap, subst, arith, append-nil, drop-cons}
use Rattle.lus_program.specs.View.{expression_of}
use Rattle.lus_classes.specs.View.{steps_of}
use Rattle.lus_instructions.specs.declared.class.Step.TheVariants as variants
use Rattle.lus_values.specs.Lists.{Each}
use Rattle.lus_streams.proofs.Lists.{each_append}
use Rattle.lus_translation.specs.Making.{GivesAny, calls_made}
use Rattle.lus_translation.specs.Forms.{given_cells, given_steps, kept_cells}
use Rattle.lus_translation.specs.Newest.{cell_seen, tested_memory}
use Rattle.lus_translation.proofs.Giving.{given_next, kept_long, kept_next, made_pushed, steps_pushed}
use Rattle.lus_translation.proofs.steps.give_right.Goals as goal

pub loop-variable-preserved : goal.loop-variable-preserved
loop-variable-preserved c =
    let e = expression_of c.args.right.now in
    let k = c.args.clock.now in
    let xs = c.args.variables.now in
    let i = c.loop-variable.variable-index in
    let x = get_or xs i 0 in
    let cells = map cell_seen c.loop-variable.built.cells.items in
    let fs = c.args.firsts.now in
    let ss = c.loop-variable.built.steps.items in
    let next : i + 1 ≡ suc i = omega arith in
    let lt : i < length xs = omega (arith, c.loop-variable-test.true) in
    let rest : drop i xs ≡ x ∷ drop (i + 1) xs = drop-cons xs i 0 lt ∙ ap (λ n. x ∷ drop n xs) (sym next) in
    let more_cells = c.in_ok-code.ensures.cells in
    let m' = kept_long tested_memory cells _ (kept_cells e k) more_cells in
    let pushed = ap steps_of c.in_ok-push.ensures.items ∙ steps_pushed ss (variants.Give x c.in_ok-code.code) in
    let before = ap (λ l. steps_of ss ++ given_steps (length cells) fs e k l) (sym rest) ∙ c.loop-variable.invariant.steps in
    record {
      steps =
          ap (λ l. l ++ given_steps (length (map cell_seen c.code_of.new.cells.items)) fs e k (drop (i + 1) xs)) pushed
          ∙ given_next (steps_of ss) _ _ (length cells) _ fs e k x (drop (i + 1) xs) c.in_ok-code.ensures.code m' before;
      cells =
          kept_next tested_memory cells _ _ (kept_cells e k) (given_cells e k (drop (i + 1) xs)) more_cells
          (ap (λ l. cells ++ map tested_memory (given_cells e k l)) (sym rest) ∙ c.loop-variable.invariant.cells);
      given = λ first. subst (Each GivesAny) (sym c.in_ok-push.ensures.items) (each_append GivesAny ss (variants.Give x c.in_ok-code.code ∷ []) (c.loop-variable.invariant.given first) (tt, tt));
      made = ap calls_made c.in_ok-push.ensures.items ∙ made_pushed ss (variants.Give x c.in_ok-code.code) ∙ append-nil (calls_made ss) ∙ c.loop-variable.invariant.made;
    }
