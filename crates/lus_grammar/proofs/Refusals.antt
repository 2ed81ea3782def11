-- What the parser's answers say of the tokens.
use Rattle.std.proofs.Common.{◌≡◌, ℕ, ◌≤◌, Bool, true, false, cond, leb, List, Result, Ok, Err, refl, sym, ap, subst, ◌∙◌}
use Rattle.std.proofs.lemmas.Bool.{le-leb}
use Rattle.lus_syntax.specs.declared.refusal.RefusalNumber.{RefusalNumber}
use Rattle.lus_syntax.specs.declared.refusal.RefusalNumber.TheVariants as numbers
use Rattle.lus_grammar.specs.declared.fault.ParseError.{ParseError}
use Rattle.lus_grammar.specs.declared.fault.ParseError.TheVariants as errors
use Rattle.lus_syntax.specs.Lexemes.{Lexeme}
use Rattle.lus_syntax.specs.Trees.{Tree}
use Rattle.lus_spelling.specs.Declarations.{SpellsProgram, tree_depth}
use Rattle.lus_spelling.specs.Reading.{Fault, Syntax, Deep}
use Rattle.lus_spelling.specs.ReadingDeclarations.{program_at}
use Rattle.lus_grammar.specs.Answers.{Fails, Numbered, RefusedAs, RefusedRightly}
use Rattle.lus_spelling.proofs.Repeats.{same_result}
use Rattle.lus_spelling.proofs.CompleteDeclarations.{program_read}

pub refused_as : {Y : Type 0} (e : ParseError) (number : RefusalNumber) (read : Result Y Fault) → Numbered e number → Fails e read → RefusedAs number read
refused_as errors.Memory number read n h = subst (λ (m : RefusalNumber). RefusedAs m read) (sym n) tt
refused_as (errors.Syntax left) number read n h = subst (λ (m : RefusalNumber). RefusedAs m read) (sym n) h
refused_as (errors.Deep left) number read n h = subst (λ (m : RefusalNumber). RefusedAs m read) (sym n) h

abbrev ok_tree : Tree → Result Tree Fault
ok_tree t = Ok t

not_syntax : (b : Bool) (t : Tree) → cond b (ok_tree t) (Err Deep) ≡ Err Syntax → ⊥
not_syntax true t e = cc
not_syntax false t e = cc

not_failed : (t : Tree) (f : Fault) → ok_tree t ≡ Err f → ⊥
not_failed t f e = cc

-- a tree within the limit is read
pub within_read : (limit : ℕ) (ts : List Lexeme) (t : Tree) → SpellsProgram t ts → tree_depth t ≤ limit → program_at limit ts ≡ Ok t
within_read limit ts t d le = program_read limit d ∙ ap (λ b. cond b (ok_tree t) (Err Deep)) (le-leb (tree_depth t) limit le)

pub refused_rightly : (limit : ℕ) (ts : List Lexeme) (number : RefusalNumber) → RefusedAs number (program_at limit ts) → RefusedRightly limit ts number
refused_rightly limit ts numbers.Memory h = tt
refused_rightly limit ts numbers.Syntax h = λ t d. not_syntax (leb (tree_depth t) limit) t (sym (program_read limit d) ∙ h)
refused_rightly limit ts numbers.Limit h = λ t d le. not_failed t Deep (sym (within_read limit ts t d le) ∙ h)
refused_rightly limit ts _ h = h

-- a tree within the limit is refused out of memory alone
pub only_memory : (limit : ℕ) (ts : List Lexeme) (number : RefusalNumber) → RefusedAs number (program_at limit ts) → (t : Tree) → SpellsProgram t ts → tree_depth t ≤ limit → number ≡ numbers.Memory
only_memory limit ts numbers.Memory h t d le = refl
only_memory limit ts numbers.Syntax h t d le = absurd (not_failed t Syntax (sym (within_read limit ts t d le) ∙ h))
only_memory limit ts numbers.Limit h t d le = absurd (not_failed t Deep (sym (within_read limit ts t d le) ∙ h))
only_memory limit ts _ h t d le = absurd h

pub same_tree : (limit : ℕ) (ts : List Lexeme) (u : Tree) → program_at limit ts ≡ Ok u → (t : Tree) → SpellsProgram t ts → tree_depth t ≤ limit → u ≡ t
same_tree limit ts u e t d le = same_result u t (sym e ∙ within_read limit ts t d le)
