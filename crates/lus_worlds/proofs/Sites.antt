-- Calls of a node at their places.
use Rattle.std.proofs.Common.{◌≡◌, ◌∙◌, ℕ, zero, suc, ◌+◌, ◌<◌, List, [], ◌∷◌, length, Contains, Some, ap, sym, arith, not-suc-le-zero, slice_get, ⊎_elim}
use Rattle.std.proofs.lemmas.Bool.{cases_lt}
use Rattle.lus_values.specs.Lists.{Each}
use Rattle.lus_program.specs.Programs.{call, Operands, Node, Program, empty_node, node_at}
use Rattle.lus_program.specs.Resolved.{AreNumbered, NodeResolved, Resolved}
use Rattle.lus_streams.specs.Clocks.{Clock, Part, at}
use Rattle.lus_streams.specs.Equations.{node_parts, Site, sites}
use Rattle.lus_streams.specs.Flags.{CallsHaveOutputs, HasOutput}
use Rattle.lus_streams.proofs.Calls.{OfCall, OfSite, parts_of_sites, sites_of_parts}
use Rattle.lus_streams.proofs.CallsResolved.{resolved_calls_have_outputs}
use Rattle.lus_streams.proofs.Lists.{each_implies, each_item, item_past}
use Rattle.lus_normal_form.specs.Named.{Numbered}
use Rattle.lus_normal_form.proofs.SitesNumbered.{equations_numbered}
use Rattle.lus_worlds.proofs.Among.{each_from}
use Rattle.lus_worlds.proofs.Turns.{IsBefore, IsOnly, OnlyCall, sites_before}

-- an item among others stands at its place
stands_at : {X : Type 0} (xs : List X) (x : X) (c : Contains xs x) → slice_get xs c.0 ≡ Some x
stands_at [] x (n, lt, e) = absurd (not-suc-le-zero lt)
stands_at (y ∷ ys) x (zero, lt, e) = ap Some e
stands_at (y ∷ ys) x (suc n, lt, e) = stands_at ys x (n, omega (arith, lt), e)

number_at : (n : ℕ) (ss : List Site) → Numbered n ss → (s : Site) (c : Contains ss s) → s.number ≡ n + c.0
number_at n [] h s (i, lt, e) = absurd (not-suc-le-zero lt)
number_at n (t ∷ ss) h s (zero, lt, e) = let first : n ≡ n + 0 = omega arith in ap (λ (z : Site). z.number) (sym e) ∙ h.0 ∙ first
number_at n (t ∷ ss) h s (suc i, lt, e) = let next : suc n + i ≡ n + suc i = omega arith in number_at (suc n) ss h.1 s (i, omega (arith, lt), e) ∙ next

-- a call stands at its number
pub site_at : (ss : List Site) → Numbered 0 ss → (s : Site) → Contains ss s → slice_get ss s.number ≡ Some s
site_at ss h s c = let same : 0 + c.0 ≡ c.0 = omega arith in ap (slice_get ss) (number_at 0 ss h s c ∙ same) ∙ stands_at ss s c

-- and has its number alone
pub one_site : (ss : List Site) → Numbered 0 ss → (s t : Site) → Contains ss s → Contains ss t → s.number ≡ t.number → s ≡ t
one_site ss h s t c d e = let both : Some s ≡ Some t = sym (site_at ss h s c) ∙ ap (slice_get ss) e ∙ site_at ss h t d in cc

module _ (p : Program) (resolved : Resolved p) where
  node_facts : (f : ℕ) → AreNumbered 0 (node_at p f).equations
  node_facts f = each_item (λ g. AreNumbered 0 g.equations) empty_node p.nodes tt (each_implies (NodeResolved p) (λ g. AreNumbered 0 g.equations) (λ g r. r.numbered) p.nodes resolved.nodes) f

  pub sites_numbered : (f : ℕ) → Numbered 0 (sites p (node_at p f))
  sites_numbered f = equations_numbered p (node_at p f) 0 (node_at p f).equations (node_facts f)

  pub each_before : (f : ℕ) → Each (OfSite p IsBefore) (sites p (node_at p f))
  each_before f = sites_before p (node_at p f) (node_facts f)

  pub each_only : (f : ℕ) → Each (OnlyCall p (sites p (node_at p f))) (node_parts p (node_at p f))
  each_only f =
      let all = sites p (node_at p f) in
      parts_of_sites p (IsOnly p all) (node_parts p (node_at p f)) (each_from (OfSite p (IsOnly p all)) all (λ s c t d e. one_site all (sites_numbered f) t s d c e))

  -- what is called is a node
  no_output_past : (g : ℕ) → 0 < (node_at p g).outputs → g < length p.nodes
  no_output_past g some =
      ⊎_elim (λ lt. lt) (λ past. let none : (node_at p g).outputs ≡ 0 = ap (λ (f : Node). f.outputs) (item_past empty_node p.nodes g past) in let wrong : ⊥ = omega (arith, some, none) in absurd wrong) (cases_lt g (length p.nodes))

  abbrev pub IsNode : (g c : ℕ) → Operands → Clock → Type 0
  IsNode g c args k = g < length p.nodes

  called_node : (es : List Part) → Each (HasOutput p) es → Each (OfCall IsNode) es
  called_node [] h = tt
  called_node (at k (call g c args) ∷ es) h = (no_output_past g h.0, called_node es h.1)
  called_node (at k _ ∷ es) h = (tt, called_node es h.1)

  pub each_is_node : (f : ℕ) → Each (OfSite p IsNode) (sites p (node_at p f))
  each_is_node f =
      let have = each_item (λ g. Each (HasOutput p) (node_parts p g)) empty_node p.nodes tt (each_implies (CallsHaveOutputs p) (λ g. Each (HasOutput p) (node_parts p g)) (λ g h. h.parts) p.nodes (resolved_calls_have_outputs p resolved)) f in
      sites_of_parts p IsNode (node_parts p (node_at p f)) (called_node (node_parts p (node_at p f)) have)
