-- The calls of a normal form have as many arguments as those of the source, and their nodes have the outputs that they had.
use Rattle.std.proofs.Common.{◌≡◌, ◌∙◌, ap, sym, subst, ℕ, suc, List, [], ◌∷◌}
use Rattle.lus_values.specs.Lists.{Each}
use Rattle.lus_program.specs.Programs.{Expression, literal, call, Operands, none, more, Program, node_at}
use Rattle.lus_streams.specs.Clocks.{Clock, Part, at, formal_clock}
use Rattle.lus_streams.specs.Equations.{Site, sites_in}
use Rattle.lus_streams.proofs.Calls.{AtBase, OfCall, OfSite, parts_of_sites, sites_of_parts}
use Rattle.lus_streams.proofs.Lists.{each_both, each_implies}
use Rattle.lus_normal_form.specs.Named.{IsCalled, OutputKnown, Uses}
use Rattle.lus_normal_form.specs.Forms.{Position, Operand}
use Rattle.lus_normal_form.specs.NormalForm.{AreNormal}
use Rattle.lus_normal_form.specs.NormalNodes.{AreSites}
use Rattle.lus_normal_form.proofs.ResolvedNamed.{each_called}
use Rattle.lus_normal_form.specs.Ready.{HasArguments, operand_size}

-- the call has arguments for all inputs, and its node an output
abbrev pub IsFit : Program → (g c : ℕ) → Operands → Clock → Type 0
IsFit p g c args base = (operand_size args ≡ (node_at p g).inputs) × OutputKnown p g 0

module _ (p : Program) (New : ℕ → Clock → Expression → Type 0) where
  same_size : (here : Position) (es es' : Operands) (ks : ℕ → Clock) (m : ℕ) → AreNormal p New here es es' ks m → operand_size es' ≡ operand_size es
  same_size here none es' ks m is = ap operand_size is
  same_size here (more e es) es' ks m is = ap operand_size is.2 ∙ ap suc (same_size here es is.1 ks (suc m) is.4)

  module _ (p' : Program) (inputs : (g : ℕ) → (node_at p' g).inputs ≡ (node_at p g).inputs) (outputs : (g : ℕ) → OutputKnown p g 0 → OutputKnown p' g 0) where
    pub sites_fit : (ss ss' : List Site) → AreSites p New ss ss' → Each (OfSite p (IsFit p)) ss → Each (OfSite p' (IsFit p')) ss'
    sites_fit [] ss' is h = subst (Each (OfSite p' (IsFit p'))) (sym is) tt
    sites_fit (s ∷ ss) ss' is h =
        subst (Each (OfSite p' (IsFit p'))) (sym is.2) (
          (same_size Operand s.args is.0 (formal_clock (node_at p s.node) s.args s.base) 0 is.3.1 ∙ h.0.0 ∙ sym (inputs s.node), outputs s.node h.0.1),
          sites_fit ss is.1 is.4 h.1,
        )

-- what is known of a call of the source
fit_part : (p : Program) (V : ℕ → Type 0) (R : (g c : ℕ) → Type 0) (t : Part) → HasArguments p t × Uses V (λ g c n. R g c × OutputKnown p g n) t → OfCall (AtBase p (IsFit p)) t
fit_part p V R (at k (call g c args)) h = (h.0, h.1.1.1)
fit_part p V R (at k (literal v)) h = tt
fit_part p V R (at k e) h = tt

pub source_fits : (p : Program) (V : ℕ → Type 0) (R : (g c : ℕ) → Type 0) (ts : List Part) → Each (HasArguments p) ts → Each (Uses V (λ g c n. R g c × OutputKnown p g n)) ts → Each (OfSite p (IsFit p)) (sites_in p ts)
source_fits p V R ts has uses =
    let Used : Part → Type 0 = Uses V (λ g c n. R g c × OutputKnown p g n) in
    sites_of_parts p (IsFit p) ts
    (each_implies (λ t. HasArguments p t × Used t) (OfCall (AtBase p (IsFit p))) (fit_part p V R) ts (each_both (HasArguments p) Used ts has uses))

-- and so of the parts of the normal form: call c of node g is one of these, and fits
abbrev pub IsFitCall : Program → List Site → (g c : ℕ) → Operands → Clock → Type 0
IsFitCall p ss g c args base = IsFit p g c args base × IsCalled ss g c

pub parts_fit : (p : Program) (ts : List Part) → Each (OfSite p (IsFit p)) (sites_in p ts) → Each (OfCall (AtBase p (IsFitCall p (sites_in p ts)))) ts
parts_fit p ts h =
    let ss = sites_in p ts in
    parts_of_sites p (IsFitCall p ss) ts (each_both (OfSite p (IsFit p)) (λ s. IsCalled ss s.node s.number) ss h (each_called ss))

pub fit_has_arguments : (p : Program) (ss : List Site) (t : Part) → OfCall (AtBase p (IsFitCall p ss)) t → HasArguments p t
fit_has_arguments p ss (at k (call g c args)) h = h.0.0
fit_has_arguments p ss (at k (literal v)) h = tt
fit_has_arguments p ss (at k e) h = tt
