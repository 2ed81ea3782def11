-- A refusal tells the text's leftmost fault, or that memory ran out.
use Rattle.std.proofs.Common.{◌≡◌, ℕ, List, inl, inr, sym, ap, subst, refl, ◌∙◌}
use Rattle.std.specs.Prelude.{◌≢◌}
use Rattle.lus_syntax.specs.declared.token.Place.{Place}
use Rattle.lus_syntax.specs.declared.refusal.RefusalNumber.{RefusalNumber}
use Rattle.lus_syntax.specs.declared.refusal.RefusalNumber.TheVariants.{Lexical, Unsupported, Limit, Memory}
use Rattle.lus_syntax.specs.declared.refusal.Refusal.{Refusal}
use Rattle.lus_syntax.specs.declared.fault.LexError.{LexError}
use Rattle.lus_syntax.specs.declared.fault.LexError.TheVariants as errors
use Rattle.lus_syntax.specs.Lexemes.{Lexeme}
use Rattle.lus_syntax.specs.Tokens.{Tokens, Faulty, IsAt, TellsFault}
use Rattle.lus_syntax.specs.Reading.{IsFault, IsNumbered, RefusedAs}
use Rattle.lus_syntax.proofs.Unique.{one_fault, no_fault, fault_number}

never_memory : (text : List ℕ) (number : RefusalNumber) (place : Place) → Faulty text number place → number ≡ Memory → ⊥
never_memory text number place f e = elim (fault_number text number place f) [ inl a ↦ apart a | inr (inl b) ↦ other b | inr (inr d) ↦ third d ]
  where
    apart : number ≡ Lexical → ⊥
    apart a = cc

    other : number ≡ Unsupported → ⊥
    other b = cc

    third : number ≡ Limit → ⊥
    third d = cc

pub only_memory : (text : List ℕ) (e : LexError) (r : Refusal) → RefusedAs e r → IsFault text e → (ts : List Lexeme) → Tokens text ts → r.number ≡ Memory
only_memory text errors.Memory r is fault ts t = is
only_memory text (errors.Fault number place) r is fault ts t = absurd (no_fault text ts number place t fault)

pub refused_at : (text : List ℕ) (e : LexError) (r : Refusal) → RefusedAs e r → IsFault text e → (number : RefusalNumber) (place : Place) → Faulty text number place → r.number ≢ Memory → IsAt r number place
refused_at text errors.Memory r is fault number place f some = absurd (some is)
refused_at text (errors.Fault n p) r is fault number place f some =
    let same = one_fault text n number p place fault f in
    (is.0 ∙ same.0, is.1 ∙ ap (λ (x : Place). x.line) same.1, is.2 ∙ ap (λ (x : Place). x.column) same.1)

pub tells_fault : (text : List ℕ) (e : LexError) (r : Refusal) → RefusedAs e r → IsFault text e → r.number ≢ Memory → TellsFault text r
tells_fault text errors.Memory r is fault some = absurd (some is)
tells_fault text (errors.Fault number place) r is fault some = (place, subst (λ n. Faulty text n place) (sym is.0) fault, (refl, is.1, is.2))

pub numbered : (text : List ℕ) (e : LexError) → IsFault text e → IsNumbered e
numbered text errors.Memory fault = tt
numbered text (errors.Fault number place) fault = never_memory text number place fault
