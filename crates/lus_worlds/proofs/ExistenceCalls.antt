-- What calls pass: as many inputs as the called nodes have, there only where the inputs' clocks are present.
use Rattle.std.proofs.Common.{◌≡◌, ◌∙◌, ℕ, suc, ◌+◌, ◌<◌, ◌∷◌, length, Option, Some, None, ap, refl, subst, arith}
use Rattle.lus_values.specs.Lists.{Each}
use Rattle.lus_values.proofs.Lists.{below_all}
use Rattle.lus_values.specs.declared.test.Test.{Test}
use Rattle.lus_program.specs.Programs.{call, Operands, none, more, Node, Program, empty_node, node_at}
use Rattle.lus_program.specs.Resolved.{Resolved}
use Rattle.lus_streams.specs.Clocks.{Clock, clock_of, Part, at, operand, base_of, formal_clock}
use Rattle.lus_streams.specs.Equations.{node_parts, sites}
use Rattle.lus_streams.specs.OnClock.{IsDeclared, IsName, ProgramOnClocks, test_of}
use Rattle.lus_streams.specs.Streams.{Instant, World, is_on, where_on, value, inputs_given}
use Rattle.lus_streams.proofs.Calls.{OfCall, OfSite, AtBase, sites_of_parts}
use Rattle.lus_streams.proofs.Lists.{below_at, each_both, each_implies, each_item}
use Rattle.lus_attempts.proofs.Formals.{inputs_on_clocks}
use Rattle.lus_normal_form.specs.Computed.{HaveFormals, HasFormals}
use Rattle.lus_normal_form.specs.Ready.{HasArguments, operand_size}
use Rattle.lus_normal_form.proofs.HaveFormals.{all_declared, all_have_formals, call_arguments}
use Rattle.lus_worlds.specs.Existing.{FitsClocks}
use Rattle.lus_worlds.proofs.Passed.{formals_at, inputs_are_variables}

-- a node as its inputs see it: they test no outputs
abbrev inputs_alone : Node → Node
inputs_alone g = record g { outputs = 0 }

alone_declared : (g : Node) (x : ℕ) (o : Option Test) → IsDeclared g x o → IsDeclared (inputs_alone g) x o
alone_declared g x None d = tt
alone_declared g x (Some t) d = (d.0, (d.1.0, λ lt. let low : t.variable < g.inputs = d.1.0 (omega (arith, lt)) in omega (arith, low)))

module _ (p : Program) where
  passed_size : (es : Operands) (g : Node) (args : Operands) (base : Clock) (m : ℕ) (now : Instant) (past : World) → length (inputs_given p es g args base m now past) ≡ operand_size es
  passed_size none g args base m now past = refl
  passed_size (more e es) g args base m now past = ap suc (passed_size es g args base (suc m) now past)

  alone_given : (es : Operands) (g : Node) (args : Operands) (base : Clock) (m : ℕ) (now : Instant) (past : World) → inputs_given p es g args base m now past ≡ inputs_given p es (inputs_alone g) args base m now past
  alone_given none g args base m now past = refl
  alone_given (more e es) g args base m now past =
      let k = formal_clock g args base m in
      ap (λ r. where_on (is_on k now) (value p e k now past) ∷ r) (alone_given es g args base (suc m) now past)

  -- at each instant a call passes inputs that fit
  abbrev pub PassesFitting : (g c : ℕ) → Operands → Clock → Type 0
  PassesFitting g c args base =
      (now : Instant) (past : World)
      → (let given = inputs_given p args (node_at p g) args base 0 now past in
      (length given ≡ (node_at p g).inputs) × FitsClocks (node_at p g) (is_on base now) given)

  module _ (resolved : Resolved p) (clocks : ProgramOnClocks p) where
    call_fits : (g c : ℕ) (args : Operands) (base : Clock) → HaveFormals (node_at p g) args args 0 → operand_size args ≡ (node_at p g).inputs → PassesFitting g c args base
    call_fits g c args base formals size now past =
        let f = node_at p g in
        let alone = inputs_alone f in
        let declared = below_all (λ x. IsDeclared alone x (test_of alone x)) (length f.variables)
        (λ x lt. alone_declared f x (test_of f x) (below_at (λ y. IsDeclared f y (test_of f y)) (length f.variables) (all_declared p clocks g) x lt)) in
        let named = below_all (λ x. Each (λ t. IsName (operand args t.variable)) (clock_of f x)) (f.inputs + 0)
        (λ x lt.
        let first : 0 + x ≡ x = omega arith in
        subst (λ n. Each (λ t. IsName (operand args t.variable)) (clock_of f n)) first (formals_at f args args 0 x formals (omega (arith, lt, size)))) in
        (passed_size args f args base 0 now past ∙ size, λ j on given. inputs_on_clocks p alone args base now past j on (given ∙ alone_given args f args base 0 now past) declared (inputs_are_variables p resolved g) named)

    part_fits : (e : Part) → HasFormals p e × HasArguments p e → OfCall (AtBase p PassesFitting) e
    part_fits (at k (call g c args)) h = call_fits g c args (base_of (node_at p g) k) h.0 h.1
    part_fits (at k _) h = tt

    pub calls_fit : (f : ℕ) → Each (OfSite p PassesFitting) (sites p (node_at p f))
    calls_fit f =
        let ps = node_parts p (node_at p f) in
        let formals = each_item (λ n. Each (HasFormals p) (node_parts p n)) empty_node p.nodes tt (all_have_formals p resolved clocks) f in
        let arguments = each_item (λ n. Each (HasArguments p) (node_parts p n)) empty_node p.nodes tt (call_arguments p resolved) f in
        sites_of_parts p PassesFitting ps (each_implies (λ e. HasFormals p e × HasArguments p e) (OfCall (AtBase p PassesFitting)) part_fits ps (each_both (HasFormals p) (HasArguments p) ps formals arguments))
