-- Operands put in order have the parts that they had.
use Rattle.std.proofs.Common.{arith, refl, ◌≡◌, ◌∙◌, sym, ℕ, true, List, length}
use Rattle.lus_program.specs.Programs.{Operands, none, more}
use Rattle.lus_program.specs.Parts.{parts, parts_all}
use Rattle.lus_source.specs.Labels.{each_once}
use Rattle.lus_source.specs.Meaning.{in_order}
use Rattle.lus_types.proofs.Ordered.{operand_count, total, total_ordered}

total_parts : (es : Operands) → total parts es ≡ parts_all es
total_parts none = refl
total_parts (more e es) = omega (arith, total_parts es)

pub ordered_parts : (n : ℕ) (ns : List ℕ) (es : Operands) → operand_count es ≡ length ns → each_once n ns ≡ true → parts_all (in_order n ns es) ≡ parts_all es
ordered_parts n ns es long once = sym (total_parts (in_order n ns es)) ∙ total_ordered parts n ns es long once ∙ total_parts es
