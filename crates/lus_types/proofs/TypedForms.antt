-- Operands with types, taken one by one; and operands without, in whichever order.
use Rattle.std.proofs.Common.{◌≡◌, ◌∙◌, sym, ap, refl, ℕ, ◌+◌, List, ◌∷◌, length, Some, None, Option, true, false, nat_eq, arith}
use Rattle.std.specs.Prelude.{is_some, option_map}
use Rattle.std.specs.Option.{option_and_then}
use Rattle.std.proofs.lemmas.Bool.Decides.{nat_tests}
use Rattle.lus_program.specs.declared.types.Kind.{Kind}
use Rattle.lus_program.specs.Programs.{Expression, Operands, none, more}
use Rattle.lus_source.specs.Scopes.{Scope}
use Rattle.lus_source.specs.Heads.{kind_by, kinds_by}
use Rattle.lus_source.specs.Labels.{each_once}
use Rattle.lus_source.specs.Meaning.{in_order}
use Rattle.lus_types.proofs.Ordered.{operand_count, total, total_ordered}

-- in whichever order

abbrev untyped : Scope → Expression → ℕ
untyped s e = elim (kind_by s e) [ None ↦ 1 | Some k ↦ 0 ]

kinds_where : (o : Option Kind) (r : Option (List Kind)) (n : ℕ) → nat_eq n 0 ≡ is_some r
    → nat_eq (elim o [ None ↦ 1 | Some k ↦ 0 ] + n) 0 ≡ is_some (option_and_then (λ k. option_map (λ ks. k ∷ ks) r) o)
kinds_where None r n rest = grind (arith, nat_tests)
kinds_where (Some k) None n rest = grind (arith, nat_tests)
kinds_where (Some k) (Some ks) n rest = grind (arith, nat_tests)

all_typed : (s : Scope) (es : Operands) → nat_eq (total (untyped s) es) 0 ≡ is_some (kinds_by s es)
all_typed s none = refl
all_typed s (more e es) = kinds_where (kind_by s e) (kinds_by s es) (total (untyped s) es) (all_typed s es)

is_none : {X : Type 0} (r : Option X) → is_some r ≡ false → r ≡ None
is_none None e = refl
is_none (Some x) e = cc

-- operands of which one has no type
pub ordered_untyped : (s : Scope) (n : ℕ) (ns : List ℕ) (es : Operands) → operand_count es ≡ length ns → each_once n ns ≡ true
    → kinds_by s es ≡ None → kinds_by s (in_order n ns es) ≡ None
ordered_untyped s n ns es long once e =
    let same = ap (λ t. nat_eq t 0) (total_ordered (untyped s) n ns es long once) in
    is_none (kinds_by s (in_order n ns es)) (sym (all_typed s (in_order n ns es)) ∙ same ∙ all_typed s es ∙ ap is_some e)
