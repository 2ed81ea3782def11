-- The codes in a code are seen as the list of what each is.
use Rattle.std.proofs.Common.{◌≡◌, ℕ, refl, ap, rules, Box, Vec, Global}
use Rattle.lus_values.specs.declared.operator.Operator.{Operator}
use Rattle.lus_instructions.specs.declared.formula.Formula.{Formula, Row_of-Formula, end_of-Formula, more_of-Formula, items-the_row-Formula, the_lemmas}
use Rattle.lus_instructions.specs.declared.formula.Formula.TheVariants as formulas
use Rattle.lus_classes.specs.Classes.{compute, choose, select, also_code}
use Rattle.lus_classes.specs.View.{code_of, codes_in, codes_of}

pub row_is : {m : _} (k : Row_of-Formula m) → codes_in k ≡ codes_of (items-the_row-Formula m k)
row_is end_of-Formula = refl
row_is (more_of-Formula d rest) = ap (also_code (code_of d)) (row_is rest)

pub seen_compute : (o : Operator) (v : Vec Formula Global) → code_of (formulas.Compute o v) ≡ compute o (codes_of v.items)
seen_compute o v = search (rules, the_lemmas, row_is)

pub seen_select : (x : ℕ) (v : Vec Formula Global) → code_of (formulas.Select x v) ≡ select x (codes_of v.items)
seen_select x v = search (rules, the_lemmas, row_is)

pub seen_choose : (j : ℕ) (a b : Box Formula Global) → code_of (formulas.Choose j a b) ≡ choose j (code_of a.value) (code_of b.value)
seen_choose j a b = search (rules, the_lemmas)
