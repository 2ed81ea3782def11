-- Arguments that are names stay: so the clocks of formals stay.
use Rattle.std.proofs.Common.{◌≡◌, ℕ, zero, suc, ◌<◌, [], ◌∷◌, ◌++◌, refl, ap, ap₂, ◌∙◌}
use Rattle.lus_program.specs.Programs.{Expression, variable, Operands, none, more, Node, Program, node_at}
use Rattle.lus_values.specs.Lists.{Each}
use Rattle.lus_streams.specs.Clocks.{Clock, clock_of, operand, renamed_clock, renamed_test, formal_clock}
use Rattle.lus_streams.specs.OnClock.{IsName}
use Rattle.lus_normal_form.specs.NormalForm.{AreFormals}

-- as many operands, the names among them the same
abbrev pub KeepsNames : Operands → Operands → Type 0
KeepsNames none es' = es' ≡ none
KeepsNames (more e es) es' = (e' : Expression) × (rest : Operands) × (es' ≡ more e' rest) × ((x : ℕ) → e ≡ variable x → e' ≡ variable x) × KeepsNames es rest

name_stays : (es es' : Operands) → KeepsNames es es' → (n x : ℕ) → operand es n ≡ variable x → operand es' n ≡ variable x
name_stays none es' h n x e = cc
name_stays (more a es) es' h zero x e = ap (λ z. operand z zero) h.2 ∙ h.3 x e
name_stays (more a es) es' h (suc n) x e = ap (λ z. operand z (suc n)) h.2 ∙ name_stays es h.1 h.4 n x e

one_stays : (e e' : Expression) (c : ℕ) (k k' : Clock) → IsName e → ((x : ℕ) → e ≡ variable x → e' ≡ variable x) → k' ≡ k → renamed_test e' c k' ≡ renamed_test e c k
one_stays (variable x) e' c k k' is h ek = ap (λ z. renamed_test z c k') (h x refl) ∙ ap (λ z. record { variable = x; constructor = c } ∷ z) ek
one_stays _ e' c k k' is h ek = absurd is

-- operands that are names are the same names among others
abbrev pub NamesStay : Operands → Operands → Type 0
NamesStay es es' = (n x : ℕ) → operand es n ≡ variable x → operand es' n ≡ variable x

pub renamed_stays : (args args' : Operands) → NamesStay args args' → (k : Clock) → Each (λ t. IsName (operand args t.variable)) k → renamed_clock args' k ≡ renamed_clock args k
renamed_stays args args' h [] names = refl
renamed_stays args args' h (t ∷ k) names =
    one_stays (operand args t.variable) (operand args' t.variable) t.constructor (renamed_clock args k) (renamed_clock args' k) names.0 (h t.variable) (renamed_stays args args' h k names.1)

pub formal_stays : (g : Node) (args args' : Operands) → KeepsNames args args' → (base : Clock) (m : ℕ) → Each (λ t. IsName (operand args t.variable)) (clock_of g m) → formal_clock g args' base m ≡ formal_clock g args base m
formal_stays g args args' h base m names = ap (λ z. z ++ base) (renamed_stays args args' (name_stays args args' h) (clock_of g m) names)

-- operands from number m on have one clock by both
abbrev pub SameClocks : Operands → (ks ks' : ℕ → Clock) → ℕ → Type 0
SameClocks none ks ks' m = Unit {0}
SameClocks (more e es) ks ks' m = (ks' m ≡ ks m) × SameClocks es ks ks' (suc m)

pub clocks_stay : (es : Operands) (ks : ℕ → Clock) (m : ℕ) → SameClocks es ks ks m
clocks_stay none ks m = tt
clocks_stay (more e es) ks m = (refl, clocks_stay es ks (suc m))

-- so do arguments in normal form, where the clocks of inputs stay
module _ (p p' : Program) (formals : (g m : ℕ) → m < (node_at p g).inputs → clock_of (node_at p' g) m ≡ clock_of (node_at p g) m) where
  pub formals_same : (g : ℕ) (args args' : Operands) (base base' : Clock) → base' ≡ base → (es : Operands) (m : ℕ) → AreFormals p es g args args' base m
      → SameClocks es (formal_clock (node_at p g) args base) (formal_clock (node_at p' g) args' base') m
  formals_same g args args' base base' same none m h = tt
  formals_same g args args' base base' same (more e es) m h =
      (ap₂ (λ z b. renamed_clock args' z ++ b) (formals g m h.0.0) same ∙ h.0.1, formals_same g args args' base base' same es (suc m) h.1)
