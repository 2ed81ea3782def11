-- Where a call's outputs are on clocks, those of its normal form are.
use Rattle.std.proofs.Common.{◌≡◌, refl, sym, ap, ap₂, ◌∙◌, subst, ℕ, zero, suc, ◌+◌, ◌<◌, ◌≤◌, List, ◌++◌, length, arith}
use Rattle.lus_values.specs.Lists.{Each}
use Rattle.lus_program.specs.Programs.{Expression, variable, Operands, none, more, Program, node_at}
use Rattle.lus_streams.specs.Clocks.{Clock, clock_of, Part, operand, renamed_clock}
use Rattle.lus_streams.specs.OnClock.{variables, actuals, IsName, NamesFormals, OutputOn}
use Rattle.lus_streams.proofs.Lists.{each_implies, below_at}
use Rattle.lus_values.proofs.Lists.{below_all}
use Rattle.lus_normal_form.specs.Forms.{Operand, is_taken}
use Rattle.lus_normal_form.specs.NormalForm.{Stands, IsRight, AreNormal}
use Rattle.lus_normal_form.specs.NormalNodes.{IsNormalOf}
use Rattle.lus_normal_form.proofs.Formals.{NamesStay, renamed_stays}

still_name : (e e' : Expression) → IsName e → ((x : ℕ) → e ≡ variable x → e' ≡ variable x) → IsName e'
still_name (variable x) e' is h = subst IsName (sym (h x refl)) tt
still_name _ e' is h = absurd is

-- arguments that are names stay
pub actuals_stay : (p : Program) (New : ℕ → Clock → Expression → Type 0) (es es' : Operands) (ks : ℕ → Clock) (m : ℕ) → AreNormal p New Operand es es' ks m
    → (xs ys : List ℕ) → NamesStay (variables xs) (variables ys) → NamesStay (actuals es xs) (actuals es' ys)
actuals_stay p New none es' ks m is xs ys h n x e = ap (λ z. operand (actuals z ys) n) is ∙ h n x e
actuals_stay p New (more a es) es' ks m is xs ys h zero x e = ap (λ z. operand (actuals z ys) zero) is.2 ∙ subst (λ z. Stands p New (is_taken Operand z) z is.0 (ks m) (IsRight p New z is.0 (ks m))) e is.3
actuals_stay p New (more a es) es' ks m is xs ys h (suc n) x e = ap (λ z. operand (actuals z ys) (suc n)) is.2 ∙ actuals_stay p New es is.1 ks (suc m) is.4 xs ys h n x e

module _ (p p' : Program) (new_parts : ℕ → List Part) (normal : IsNormalOf p p' new_parts) (fit : (g : ℕ) → (node_at p g).inputs + (node_at p g).outputs ≤ length (node_at p g).variables) where
  -- clocks of inputs and outputs stay
  formal_kept : (g m : ℕ) → m < (node_at p g).inputs + (node_at p g).outputs → clock_of (node_at p' g) m ≡ clock_of (node_at p g) m
  formal_kept g m lt = let le = fit g in below_at (λ x. clock_of (node_at p' g) x ≡ clock_of (node_at p g) x) (length (node_at p g).variables) (normal g).clocks m (omega (arith, le, lt))

  formals_named : (g : ℕ) (es es' : Operands) → NamesStay es es' → NamesFormals (node_at p g) es → NamesFormals (node_at p' g) es'
  formals_named g es es' stay h =
      below_all (λ m. Each (λ t. IsName (operand es' t.variable)) (clock_of (node_at p' g) m)) ((node_at p' g).inputs + (node_at p' g).outputs)
      (λ m lt.
      let inside : m < (node_at p g).inputs + (node_at p g).outputs = omega (arith, lt, (normal g).inputs, (normal g).outputs) in
      each_implies (λ t. IsName (operand es t.variable)) (λ t. IsName (operand es' t.variable)) (λ t is. still_name (operand es t.variable) (operand es' t.variable) is (stay t.variable)) (clock_of (node_at p' g) m)
      (subst (Each (λ t. IsName (operand es t.variable))) (sym (formal_kept g m inside))
      (below_at (λ m. Each (λ t. IsName (operand es t.variable)) (clock_of (node_at p g) m)) ((node_at p g).inputs + (node_at p g).outputs) h m inside)))

  pub output_kept : (g n : ℕ) → n < (node_at p g).outputs → (args args' : Operands) (xs ys : List ℕ) → NamesStay (actuals args xs) (actuals args' ys) → (base base' k : Clock) → base' ≡ base
      → OutputOn (node_at p g) n args xs base k → OutputOn (node_at p' g) n args' ys base' k
  output_kept g n lt args args' xs ys stay base base' k same on =
      let m = (node_at p g).inputs + n in
      let inside : m < (node_at p g).inputs + (node_at p g).outputs = omega (arith, lt) in
      let kept : clock_of (node_at p' g) ((node_at p' g).inputs + n) ≡ clock_of (node_at p g) m = ap (λ i. clock_of (node_at p' g) (i + n)) (normal g).inputs ∙ formal_kept g m inside in
      let names = below_at (λ m. Each (λ t. IsName (operand (actuals args xs) t.variable)) (clock_of (node_at p g) m)) ((node_at p g).inputs + (node_at p g).outputs) on.1 m inside in
      let front = ap (renamed_clock (actuals args' ys)) kept ∙ renamed_stays (actuals args xs) (actuals args' ys) stay (clock_of (node_at p g) m) names in
      (on.0 ∙ sym (ap₂ ◌++◌ front same), formals_named g (actuals args xs) (actuals args' ys) stay on.1)
