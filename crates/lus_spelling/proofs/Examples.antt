-- Which tokens spell which tree, at small right sides, by computation.
use Rattle.std.proofs.Common.{arith, ◌≡◌, ◌∙◌, refl, sym, ap, subst, ℕ, true, false, cond, List, [], ◌∷◌, leb, Ok, Err, codes}
use Rattle.std.proofs.lemmas.List.{append-nil}
use Rattle.std.specs.Prelude.{pos}
use Rattle.lus_values.specs.declared.operator.Op.TheVariants as ops
use Rattle.lus_syntax.specs.declared.token.Span.{Span}
use Rattle.lus_syntax.specs.declared.token.Symbol.{Symbol}
use Rattle.lus_syntax.specs.declared.token.Symbol.TheVariants as symbols
use Rattle.lus_syntax.specs.declared.token.Word.{Word}
use Rattle.lus_syntax.specs.declared.token.Word.TheVariants as words
use Rattle.lus_syntax.specs.declared.tree.Infix.{Infix}
use Rattle.lus_syntax.specs.declared.tree.Infix.TheVariants as infixes
use Rattle.lus_syntax.specs.declared.tree.ListOperator.TheVariants as list_operators
use Rattle.lus_syntax.specs.declared.tree.Prefix.TheVariants as prefixes
use Rattle.lus_syntax.specs.Lexemes.{Number, Sign, Keyword, Lexeme, tok}
use Rattle.lus_syntax.specs.Places.{start}
use Rattle.lus_syntax.specs.Trees.{Named, named, Boolean, Fails, Plain, Branch, Expression, Name, Merge, Variadic, Parentheses, When, Unary, Binary, If, End, More}
use Rattle.lus_spelling.specs.Expressions.{Whole, Spells, depth, ident}
use Rattle.lus_spelling.specs.Reading.{Syntax, Deep, found, Read, read, atom_at, plain_at, operands_at, dots_at, dotted_at, primary_at, prefixed_at, more_at, chain_at, branches_at, choice_at, arrow_at, whole_at, name_at, parentheses_at, identifier_at, label_at, closed_name_at, test_at, lead_at, part_at, parts_at, listed_at, read_atom, read_dotted, read_primary, read_signed, read_term, read_sum, read_comparison, read_negated, read_negation, read_conjunction, read_disjunction, read_implication, read_choice, read_else, read_arrow, read_whole}
use Rattle.lus_spelling.proofs.Sound.{read_sound}
use Rattle.lus_spelling.proofs.Complete.{complete, outcome}

-- ---- what reading tells of spelling

-- what is read to the end is spelt
spelt : (t : Expression) (ts : List Lexeme) (n d : ℕ) → read n Whole ts ≡ Ok (found t d []) → Spells Whole t ts
spelt t ts n d is = let s = read_sound n Whole ts (found t d []) is in subst (Spells Whole t) (sym (s.cut ∙ append-nil s.text)) s.spells

abbrev AreLeft : List Lexeme → Type 0
AreLeft [] = ⊥
AreLeft (x ∷ xs) = Unit {0}

-- a fault of syntax is met, or tokens are left
abbrev IsRefused : Read → Type 0
IsRefused (Err Syntax) = Unit {0}
IsRefused (Err Deep) = ⊥
IsRefused (Ok f) = AreLeft f.rest

-- a whole tree is read to the end, or too deep
spelt_is_read : (n : ℕ) (t : Expression) → IsRefused (outcome n t []) → ⊥
spelt_is_read n t refused = elim (leb (depth t) n) as (λ b. IsRefused (cond b (Ok (found t (depth t) [])) (Err Deep)) → ⊥) [ true ↦ λ h. h | false ↦ λ h. h ] refused

-- what is refused spells no tree
no_tree : (ts : List Lexeme) (n : ℕ) → IsRefused (read n Whole ts) → (t : Expression) → Spells Whole t ts → ⊥
no_tree ts n refused t spells =
    spelt_is_read n t (subst IsRefused (ap (read n Whole) (sym (append-nil ts)) ∙ complete spells n [] (omega arith)) refused)

-- ---- tokens, all in one place

here : Span
here = record { start = start; length = 1 }

abbrev a : Named
a = named (codes "a") here

abbrev b : Named
b = named (codes "b") here

abbrev c : Named
c = named (codes "c") here

abbrev sign : Symbol → Lexeme
sign s = tok (Sign s) here

abbrev word : Word → Lexeme
word w = tok (Keyword w) here

abbrev join : Infix → Expression → Expression → Expression
join = Binary

-- ---- right sides that spell a tree

record Trees : Type 0 where
  differences_group_left : Spells Whole (join (infixes.Compute ops.Subtract) (join (infixes.Compute ops.Subtract) (Name a) (Name b)) (Name c)) (ident a ∷ sign symbols.Minus ∷ ident b ∷ sign symbols.Minus ∷ ident c ∷ [])
  quotients_group_left : Spells Whole (join (infixes.Compute ops.Multiply) (join (infixes.Compute ops.Divide) (Name a) (Name b)) (Name c)) (ident a ∷ word words.Div ∷ ident b ∷ sign symbols.Star ∷ ident c ∷ [])
  arrows_group_right : Spells Whole (join infixes.Arrow (Name a) (join infixes.Arrow (Name b) (Name c))) (ident a ∷ sign symbols.Arrow ∷ ident b ∷ sign symbols.Arrow ∷ ident c ∷ [])
  negation_binds_tighter : Spells Whole (join (infixes.Compute ops.And) (Unary prefixes.Not here (Name a)) (Name b)) (word words.Not ∷ ident a ∷ word words.And ∷ ident b ∷ [])
  minus_binds_tighter : Spells Whole (join (infixes.Compute ops.Multiply) (Unary prefixes.Negate here (Name a)) (Name b)) (sign symbols.Minus ∷ ident a ∷ sign symbols.Star ∷ ident b ∷ [])
  past_binds_tightest : Spells Whole (join infixes.Arrow (Name a) (join (infixes.Compute ops.Add) (Unary prefixes.Pre here (Name b)) (Name c))) (ident a ∷ sign symbols.Arrow ∷ word words.Pre ∷ ident b ∷ sign symbols.Plus ∷ ident c ∷ [])
  choice_reaches_far : Spells Whole (If here (Name c) (Name a) (join (infixes.Compute ops.Add) (Name a) (Name b))) (word words.If ∷ ident c ∷ word words.Then ∷ ident a ∷ word words.Else ∷ ident a ∷ sign symbols.Plus ∷ ident b ∷ [])
  implication_binds_weakest : Spells Whole (join (infixes.Compute ops.Implies) (join (infixes.Compute ops.Or) (Name a) (Name b)) (Name c)) (ident a ∷ word words.Or ∷ ident b ∷ sign symbols.Implies ∷ ident c ∷ [])
  negation_inside_and : Spells Whole (join (infixes.Compute ops.And) (Name a) (Unary prefixes.Not here (Name b))) (ident a ∷ word words.And ∷ word words.Not ∷ ident b ∷ [])
  sums_in_comparisons : Spells Whole (join (infixes.Compute ops.Less) (join (infixes.Compute ops.Add) (Name a) (Name b)) (join (infixes.Compute ops.Multiply) (Name c) (Name a))) (ident a ∷ sign symbols.Plus ∷ ident b ∷ sign symbols.Less ∷ ident c ∷ sign symbols.Star ∷ ident a ∷ [])
  parentheses_are_kept : Spells Whole (join (infixes.Compute ops.Add) (Name a) (Parentheses here (If here (Name c) (Name a) (Name b)))) (ident a ∷ sign symbols.Plus ∷ sign symbols.Open ∷ word words.If ∷ ident c ∷ word words.Then ∷ ident a ∷ word words.Else ∷ ident b ∷ sign symbols.Close ∷ [])
  chosen_after_else : Spells Whole (If here (Name c) (Name a) (If here (Name b) (Name b) (Name c))) (word words.If ∷ ident c ∷ word words.Then ∷ ident a ∷ word words.Else ∷ word words.If ∷ ident b ∷ word words.Then ∷ ident b ∷ word words.Else ∷ ident c ∷ [])
  followed_by_in_parentheses : Spells Whole (join infixes.Fby (Name a) (Parentheses here (join infixes.Fby (Name b) (Name c)))) (ident a ∷ word words.Fby ∷ sign symbols.Open ∷ ident b ∷ word words.Fby ∷ ident c ∷ sign symbols.Close ∷ [])
  sampled_in_parentheses : Spells Whole (When (Name a) (Fails here c)) (ident a ∷ word words.When ∷ word words.Not ∷ sign symbols.Open ∷ ident c ∷ sign symbols.Close ∷ [])
  merge_by_branches : Spells Whole (Merge here c (More (Branch here (Boolean true here)) (Name a) (More (Branch here (Boolean false here)) (Name b) End))) (word words.Merge ∷ ident c ∷ sign symbols.Open ∷ word words.True ∷ sign symbols.Arrow ∷ ident a ∷ sign symbols.Close ∷ sign symbols.Open ∷ word words.False ∷ sign symbols.Arrow ∷ ident b ∷ sign symbols.Close ∷ [])
  at_most_one_of_two : Spells Whole (Variadic list_operators.AtMostOne here (More Plain (Name a) (More Plain (Name b) End))) (sign symbols.Sharp ∷ sign symbols.Open ∷ ident a ∷ sign symbols.Comma ∷ ident b ∷ sign symbols.Close ∷ [])
  none_of_one : Spells Whole (Variadic list_operators.Nor here (More Plain (Name a) End)) (word words.Nor ∷ sign symbols.Open ∷ ident a ∷ sign symbols.Close ∷ [])

trees : Trees
unfolding read atom_at plain_at operands_at dots_at dotted_at primary_at prefixed_at more_at chain_at branches_at choice_at arrow_at whole_at name_at parentheses_at read_atom read_dotted read_primary read_signed read_term read_sum read_comparison read_negated read_negation read_conjunction read_disjunction read_implication read_choice read_else read_arrow read_whole test_at closed_name_at identifier_at listed_at parts_at part_at lead_at label_at
trees = record {
  differences_group_left = spelt _ _ 9 3 refl;
  quotients_group_left = spelt _ _ 9 3 refl;
  arrows_group_right = spelt _ _ 9 3 refl;
  negation_binds_tighter = spelt _ _ 9 3 refl;
  minus_binds_tighter = spelt _ _ 9 3 refl;
  past_binds_tightest = spelt _ _ 9 4 refl;
  choice_reaches_far = spelt _ _ 9 3 refl;
  implication_binds_weakest = spelt _ _ 9 3 refl;
  negation_inside_and = spelt _ _ 9 3 refl;
  sums_in_comparisons = spelt _ _ 9 3 refl;
  parentheses_are_kept = spelt _ _ 9 4 refl;
  chosen_after_else = spelt _ _ 9 3 refl;
  followed_by_in_parentheses = spelt _ _ 9 4 refl;
  sampled_in_parentheses = spelt _ _ 9 2 refl;
  merge_by_branches = spelt _ _ 9 2 refl;
  at_most_one_of_two = spelt _ _ 9 2 refl;
  none_of_one = spelt _ _ 9 2 refl;
}

-- ---- right sides that spell none

record NoTrees : Type 0 where
  minus_before_fby : (t : Expression) → Spells Whole t (sign symbols.Minus ∷ tok (Number (pos 1)) here ∷ word words.Fby ∷ ident a ∷ []) → ⊥
  or_beside_xor : (t : Expression) → Spells Whole t (ident a ∷ word words.Or ∷ ident b ∷ word words.Xor ∷ ident c ∷ []) → ⊥
  chained_comparison : (t : Expression) → Spells Whole t (ident a ∷ sign symbols.Less ∷ ident b ∷ sign symbols.Less ∷ ident c ∷ []) → ⊥
  at_most_one_of_nothing : (t : Expression) → Spells Whole t (sign symbols.Sharp ∷ sign symbols.Open ∷ sign symbols.Close ∷ []) → ⊥
  none_of_without_parentheses : (t : Expression) → Spells Whole t (word words.Nor ∷ ident a ∷ []) → ⊥
  two_fbys : (t : Expression) → Spells Whole t (ident a ∷ word words.Fby ∷ ident b ∷ word words.Fby ∷ ident c ∷ []) → ⊥
  two_implications : (t : Expression) → Spells Whole t (ident a ∷ sign symbols.Implies ∷ ident b ∷ sign symbols.Implies ∷ ident c ∷ []) → ⊥
  choice_without_parentheses : (t : Expression) → Spells Whole t (ident a ∷ sign symbols.Plus ∷ word words.If ∷ ident c ∷ word words.Then ∷ ident a ∷ word words.Else ∷ ident b ∷ []) → ⊥
  arrow_before_fby : (t : Expression) → Spells Whole t (ident a ∷ sign symbols.Arrow ∷ ident b ∷ word words.Fby ∷ ident c ∷ []) → ⊥
  pre_before_fby : (t : Expression) → Spells Whole t (word words.Pre ∷ ident a ∷ word words.Fby ∷ ident b ∷ []) → ⊥
  negation_behind_comparison : (t : Expression) → Spells Whole t (ident a ∷ sign symbols.Equal ∷ word words.Not ∷ ident b ∷ []) → ⊥
  arrow_behind_choice : (t : Expression) → Spells Whole t (word words.If ∷ ident c ∷ word words.Then ∷ ident a ∷ word words.Else ∷ ident b ∷ sign symbols.Arrow ∷ ident c ∷ []) → ⊥

no_trees : NoTrees
unfolding read atom_at plain_at operands_at dots_at dotted_at primary_at prefixed_at more_at chain_at branches_at choice_at arrow_at whole_at name_at parentheses_at read_atom read_dotted read_primary read_signed read_term read_sum read_comparison read_negated read_negation read_conjunction read_disjunction read_implication read_choice read_else read_arrow read_whole test_at closed_name_at identifier_at listed_at parts_at part_at lead_at label_at
no_trees = record {
  minus_before_fby = no_tree _ 9 tt;
  or_beside_xor = no_tree _ 9 tt;
  chained_comparison = no_tree _ 9 tt;
  at_most_one_of_nothing = no_tree _ 9 tt;
  none_of_without_parentheses = no_tree _ 9 tt;
  two_fbys = no_tree _ 9 tt;
  two_implications = no_tree _ 9 tt;
  choice_without_parentheses = no_tree _ 9 tt;
  arrow_before_fby = no_tree _ 9 tt;
  pre_before_fby = no_tree _ 9 tt;
  negation_behind_comparison = no_tree _ 9 tt;
  arrow_behind_choice = no_tree _ 9 tt;
}

-- ---- right sides that are too deep, and what is no tree however deep

record Faults : Type 0 where
  whole_sum_too_deep : read 1 Whole (ident a ∷ sign symbols.Plus ∷ ident b ∷ []) ≡ Err Deep
  sum_without_operand : read 1 Whole (ident a ∷ sign symbols.Plus ∷ sign symbols.Semicolon ∷ []) ≡ Err Syntax
  operand_too_deep : read 1 Whole (sign symbols.Open ∷ ident a ∷ []) ≡ Err Deep
  opening_alone : read 1 Whole (sign symbols.Open ∷ []) ≡ Err Syntax
  operand_of_another_rule : read 1 Whole (ident a ∷ sign symbols.Star ∷ word words.Not ∷ ident b ∷ []) ≡ Err Syntax

faults : Faults
unfolding read atom_at plain_at operands_at dots_at dotted_at primary_at prefixed_at more_at chain_at branches_at choice_at arrow_at whole_at name_at parentheses_at read_atom read_dotted read_primary read_signed read_term read_sum read_comparison read_negated read_negation read_conjunction read_disjunction read_implication read_choice read_else read_arrow read_whole test_at closed_name_at identifier_at listed_at parts_at part_at lead_at label_at
faults = record {
  whole_sum_too_deep = refl;
  sum_without_operand = refl;
  operand_too_deep = refl;
  opening_alone = refl;
  operand_of_another_rule = refl;
}
