-- Which rule of the grammar each rule of the parser reads.
use Rattle.std.specs.Prelude.{ℕ}
use Rattle.lus_grammar.specs.declared.openings.Entry.{Entry}
use Rattle.lus_grammar.specs.declared.openings.Entry.TheVariants as entries
use Rattle.lus_grammar.specs.declared.operators.Chain.{Chain}
use Rattle.lus_grammar.specs.declared.operators.Chain.TheVariants as chains
use Rattle.lus_grammar.specs.declared.operators.Head.{Head}
use Rattle.lus_grammar.specs.declared.operators.Head.TheVariants as heads
use Rattle.lus_grammar.specs.declared.operators.Rule.{Rule}
use Rattle.lus_grammar.specs.declared.operators.Rule.TheVariants as variants
use Rattle.lus_spelling.specs.Expressions.{Level, Whole, Arrow, Else, Implication, Disjunction, Conjunction, Negation, Negated, Comparison, Sum, Term, Signed, Primary}

abbrev pub level_of : Chain → Level
level_of chains.Implication = Implication
level_of chains.Disjunction = Disjunction
level_of chains.Conjunction = Conjunction
level_of chains.Comparison = Comparison
level_of chains.Sum = Sum
level_of chains.Term = Term

-- the rule of a chain's operands
abbrev pub operand_of : Chain → Level
operand_of chains.Implication = Disjunction
operand_of chains.Disjunction = Conjunction
operand_of chains.Conjunction = Negation
operand_of chains.Comparison = Sum
operand_of chains.Sum = Term
operand_of chains.Term = Signed

abbrev pub head_level : Head → Level
head_level heads.Negation = Negation
head_level heads.Negated = Negated
head_level heads.Signed = Signed

-- the rule of the operand after an operator
abbrev pub head_operand : Head → Head
head_operand heads.Negation = heads.Negated
head_operand heads.Negated = heads.Negated
head_operand heads.Signed = heads.Signed

-- the rule where no operator stands
abbrev pub head_other : Head → Level
head_other heads.Negation = Comparison
head_other heads.Negated = Signed
head_other heads.Signed = Primary

abbrev pub rule_level : Rule → Level
rule_level variants.Whole = Whole
rule_level variants.Arrow = Arrow
rule_level variants.Else = Else
rule_level (variants.Joined c) = level_of c
rule_level (variants.Prefixed h) = head_level h
rule_level variants.Primary = Primary

-- how tight a rule must be, at least, to begin there
abbrev pub entry_of : Entry → ℕ
entry_of entries.Choice = 1
entry_of entries.Negation = 2
entry_of entries.Signed = 3
entry_of entries.Primary = 4
