-- Codes of operands that are made one behind another.
use Rattle.std.proofs.Common.{◌≡◌, ◌∙◌, ℕ, suc, ◌+◌, ◌<◌, List, [], ◌∷◌, ◌++◌, length, map, drop, drop-cons, get_or, add-one, refl, sym, ap, append_assoc, Option}
use Rattle.std.proofs.lemmas.List.{map-append}
use Rattle.lus_program.specs.declared.expr.Expr.{Expr}
use Rattle.lus_program.specs.Programs.{Expression, Operands, more}
use Rattle.lus_program.specs.View.{expression_of, operands_of}
use Rattle.lus_streams.specs.Clocks.{Clock}
use Rattle.lus_instructions.specs.declared.formula.Formula.{Formula}
use Rattle.lus_classes.specs.Classes.{Code, also_code}
use Rattle.lus_classes.specs.View.{code_of, codes_of}
use Rattle.lus_instructions.specs.declared.class.Cell.{Cell}
use Rattle.lus_values.specs.declared.test.Test.{Test}
use Rattle.lus_translation.specs.Forms.{all_kept_cells, code_list, codes_form, kept_cells}
use Rattle.lus_translation.specs.Building.{IsCodeFrom, KeepsCells, next_cell}
use Rattle.lus_translation.specs.Newest.{cell_seen, tested_memory}
use Rattle.lus_translation.proofs.Giving.{kept_long, kept_next}

pub codes_listed : (ds : List Formula) → codes_of ds ≡ code_list (map code_of ds)
codes_listed [] = refl
codes_listed (d ∷ ds) = ap (also_code (code_of d)) (codes_listed ds)

-- the codes of the first operands were made, with what they keep
pub record CodesMade (old now : List Cell) (fs : List (Option Test)) (es : List Expr) (ks : ℕ → Clock) (ds : List Formula) (l : ℕ) : Type 0 where
  pub code : map code_of ds ++ codes_form (next_cell now) fs (operands_of (drop l es)) ks l ≡ codes_form (next_cell old) fs (operands_of es) ks 0
  pub cells : map cell_seen now ++ map tested_memory (all_kept_cells (operands_of (drop l es)) ks l) ≡ map cell_seen old ++ map tested_memory (all_kept_cells (operands_of es) ks 0)

pub one_more_made : (old now next : List Cell) (fs : List (Option Test)) (es : List Expr) (ks : ℕ → Clock) (ds made : List Formula) (l : ℕ) (e : Expr) (d : Formula) → l < length es → e ≡ get_or es l e
    → IsCodeFrom now fs (expression_of e) (ks l) d → KeepsCells now next (kept_cells (expression_of e) (ks l))
    → made ≡ ds ++ d ∷ [] → CodesMade old now fs es ks ds l → CodesMade old next fs es ks made (l + 1)
one_more_made old now next fs es ks ds made l e d lt is code cells pushed so_far =
    let x : Expression = expression_of e in
    let done : List Code = map code_of ds in
    let rest : Operands = operands_of (drop (suc l) es) in
    let behind : List Code = codes_form (next_cell next) fs rest ks (suc l) in
    let all : operands_of (drop l es) ≡ more x rest = ap operands_of (drop-cons es l e lt ∙ ap (λ z. z ∷ drop (suc l) es) (sym is)) in
    let m = kept_long tested_memory (map cell_seen now) _ (kept_cells x (ks l)) cells in
    rw add-one (record {
      code =
          ap (λ g. g ++ behind) (ap (map code_of) pushed ∙ map-append code_of ds (d ∷ [])) ∙ append_assoc done (code_of d ∷ []) behind
          ∙ (λ j. done ++ code j ∷ codes_form (m j) fs rest ks (suc l))
          ∙ ap (λ o. done ++ codes_form (next_cell now) fs o ks l) (sym all) ∙ so_far.code;
      cells =
          kept_next tested_memory (map cell_seen now) _ _ (kept_cells x (ks l)) (all_kept_cells rest ks (suc l)) cells
          (ap (λ o. map cell_seen now ++ map tested_memory (all_kept_cells o ks l)) (sym all) ∙ so_far.cells);
    })
