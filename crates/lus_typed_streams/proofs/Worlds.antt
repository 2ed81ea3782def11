-- Types hold in every world of a causal program whose equations fit, where those of its inputs do, and in the worlds that it calls.
use Rattle.std.proofs.Common.{ℕ, ◌+◌, Bool, List, [], ◌∷◌, sym, subst}
use Rattle.lus_values.specs.Lists.{Each}
use Rattle.lus_values.specs.Values.{Row}
use Rattle.lus_program.specs.Programs.{Program, node_at, empty_node}
use Rattle.lus_program.specs.Resolved.{EquationFits, input_kinds}
use Rattle.lus_streams.specs.Equations.{node_parts, Site, sites}
use Rattle.lus_streams.specs.Order.{needs, needs_all, HasOrder}
use Rattle.lus_streams.specs.Streams.{Instant, instant, Called, nobody, also, World, called_instant, called_world, IsInstant, EachCall, Satisfies}
use Rattle.lus_streams.specs.Throughout.{Throughout, ThroughoutCalls}
use Rattle.lus_streams.proofs.Calls.{OfSite, AtBase, each_equation_part, equation_calls, sites_of_parts, parts_of_sites}
use Rattle.lus_streams.proofs.FlagLaw.{AllOver}
use Rattle.lus_streams.proofs.Lists.{each_all, each_implies, each_both, each_item}
use Rattle.lus_streams.proofs.Throughout.{throughout_here}
use Rattle.lus_streams.proofs.Worlds.{called_satisfies}
use Rattle.lus_typed_streams.specs.Types.{Constructors, HaveTypes}
use Rattle.lus_typed_streams.specs.Laws.{IsLiteralOf, PartHasType, TypesHold, TypesHoldOver, InputsHaveTypes, ValuesHaveTypes}
use Rattle.lus_typed_streams.proofs.EquationKinds.{PartHasKinds, equations_have_kinds, definition_kind}
use Rattle.lus_typed_streams.proofs.Values.{InputsTyped, OutputsTyped, CallTyped, VariableTyped, VariablesTyped, MeetsPremises, AllMeetPremises, value_typed, part_passes, variables_typed}

module _ (p : Program) (constructors : Constructors) where
  abbrev TypesHoldAt : Instant → ℕ → World → Type 0
  TypesHoldAt i f past = Throughout p (TypesHold p constructors) i f past

  abbrev TypesHoldInCalls : Called → List Site → World → Type 0
  TypesHoldInCalls js ss past = ThroughoutCalls p (TypesHold p constructors) js ss past

  abbrev CalledHold : Instant → World → Site → Type 0
  CalledHold now past s = TypesHoldAt (called_instant s.number now) s.node (called_world s.number past)

  variables_at : (i : Instant) (f : ℕ) (past : World) → TypesHoldAt i f past → VariablesTyped p constructors (node_at p f) i
  variables_at i f past h = let here = throughout_here p (TypesHold p constructors) i f past h in here.variables

  pub variables_over : (f : ℕ) (w : World) → TypesHoldOver p constructors f w → Each (VariablesTyped p constructors (node_at p f)) w
  variables_over f [] h = tt
  variables_over f (i ∷ past) h = (variables_at i f past h.0, variables_over f past h.1)

  -- what a call gives, where types hold in the called node
  outputs_typed : (now : Instant) (past : World) (s : Site) → CalledHold now past s → OfSite p (OutputsTyped p constructors now past) s
  outputs_typed now past s h given n = variables_at (called_instant s.number now) s.node (called_world s.number past) h ((node_at p s.node).inputs + n)

  -- from the called nodes' instants to the calls, and back
  called_hold : (js : Called) (ss : List Site) (now : Instant) (past : World) → EachCall p js ss now past → TypesHoldInCalls js ss past → Each (CalledHold now past) ss
  called_hold nobody [] now past h k = tt
  called_hold nobody (s ∷ ss) now past h k = absurd h
  called_hold (also j js) [] now past h k = tt
  called_hold (also j js) (s ∷ ss) now past h k = (subst (λ i. TypesHoldAt i s.node (called_world s.number past)) (sym h.0.numbered) k.0, called_hold js ss now past h.2 k.1)

  hold_in_calls : (js : Called) (ss : List Site) (now : Instant) (past : World) → EachCall p js ss now past → Each (CalledHold now past) ss → TypesHoldInCalls js ss past
  hold_in_calls nobody ss now past h k = tt
  hold_in_calls (also j js) [] now past h k = tt
  hold_in_calls (also j js) (s ∷ ss) now past h k = (subst (λ i. TypesHoldAt i s.node (called_world s.number past)) h.0.numbered k.0, hold_in_calls js ss now past h.2 k.1)

  called_at_instant : (i : Instant) (f : ℕ) (past : World) → IsInstant p i f past → TypesHoldAt i f past → Each (CalledHold i past) (sites p (node_at p f))
  called_at_instant (instant b row js) f past h k = called_hold js (sites p (node_at p f)) (instant b row js) past h.1 k.1

  calls_typed : (now : Instant) (past : World) (f : ℕ) → Each (OfSite p (OutputsTyped p constructors now past)) (sites p (node_at p f)) → Each (CallTyped p constructors now past) (node_parts p (node_at p f))
  calls_typed now past f h = parts_of_sites p (OutputsTyped p constructors now past) (node_parts p (node_at p f)) h

  calls_over : (f : ℕ) (w : World) → Satisfies p f w → TypesHoldOver p constructors f w → Each (λ e. AllOver (λ i before. CallTyped p constructors i before e) w) (node_parts p (node_at p f))
  calls_over f [] h k = each_all (λ e. Unit {0}) (λ e. tt) (node_parts p (node_at p f))
  calls_over f (i ∷ past) h k =
      each_both (CallTyped p constructors i past) (λ e. AllOver (λ j before. CallTyped p constructors j before e) past) (node_parts p (node_at p f))
      (calls_typed i past f (each_implies (CalledHold i past) (OfSite p (OutputsTyped p constructors i past)) (outputs_typed i past) (sites p (node_at p f)) (called_at_instant i f past h.0 k.0)))
      (calls_over f past h.1 k.1)

  -- types hold over the worlds of calls
  pub sites_over : (f : ℕ) (w : World) → Satisfies p f w → TypesHoldOver p constructors f w → Each (λ s. TypesHoldOver p constructors s.node (called_world s.number w)) (sites p (node_at p f))
  sites_over f [] h k = each_all (λ s. TypesHoldOver p constructors s.node (called_world s.number [])) (λ s. tt) (sites p (node_at p f))
  sites_over f (i ∷ past) h k =
      each_both (CalledHold i past) (λ s. TypesHoldOver p constructors s.node (called_world s.number past)) (sites p (node_at p f)) (called_at_instant i f past h.0 k.0) (sites_over f past h.1 k.1)

  -- types hold in the called node, where what it is passed has its types
  abbrev IfPassed : Instant → World → Site → Type 0
  IfPassed now past s = OfSite p (InputsTyped p constructors now past) s → CalledHold now past s

  abbrev PastHold : World → Site → Type 0
  PastHold past s = Satisfies p s.node (called_world s.number past) × TypesHoldOver p constructors s.node (called_world s.number past)

  module _ (orders : (f : ℕ) → HasOrder (node_at p f)) (fits : (f : ℕ) → Each (EquationFits p (node_at p f)) (node_at p f).equations)
      (literals : (f : ℕ) → Each (IsLiteralOf constructors) (node_parts p (node_at p f))) where
    premises_met : (f : ℕ) (w : World) → Each (λ e. AllOver (λ i before. CallTyped p constructors i before e) w) (node_parts p (node_at p f)) → AllMeetPremises p constructors (node_at p f) w (node_parts p (node_at p f))
    premises_met f w h =
        let node = node_at p f in
        let es = node_parts p node in
        each_implies
        (λ e. PartHasKinds p node e × (IsLiteralOf constructors e × AllOver (λ i before. CallTyped p constructors i before e) w))
        (MeetsPremises p constructors node w)
        (λ e g. record { kinds = g.0; literal_of = g.1.0; calls = g.1.1 })
        es
        (each_both (PartHasKinds p node) (λ e. IsLiteralOf constructors e × AllOver (λ i before. CallTyped p constructors i before e) w) es
        (equations_have_kinds p node node.equations (fits f))
        (each_both (IsLiteralOf constructors) (λ e. AllOver (λ i before. CallTyped p constructors i before e) w) es (literals f) h))

    built_hold : (b : Bool) (row : Row) (js : Called) (f : ℕ) (past : World) → IsInstant p (instant b row js) f past → InputsHaveTypes p constructors f (instant b row js) → Satisfies p f past → TypesHoldOver p constructors f past
        → Each (IfPassed (instant b row js) past) (sites p (node_at p f)) → TypesHoldAt (instant b row js) f past
    built_hold b row js f past h hi hs hf if =
        let now = instant b row js in
        let node = node_at p f in
        let given = each_implies (IfPassed now past) (OfSite p (OutputsTyped p constructors now past)) (λ s called passed n. outputs_typed now past s (called passed) passed n) (sites p node) if in
        let good = premises_met f (now ∷ past) (each_both (CallTyped p constructors now past) (λ e. AllOver (λ i before. CallTyped p constructors i before e) past) (node_parts p node) (calls_typed now past f given) (calls_over f past hs hf)) in
        let before = variables_over f past hf in
        let vars = variables_typed p constructors node now past h.0 hi (λ x. definition_kind p node x node.equations (fits f)) before good (orders f) in
        let each = λ (xs : List ℕ). each_all (VariableTyped p constructors node now) vars xs in
        let passed =
        sites_of_parts p (InputsTyped p constructors now past) (node_parts p node)
        (equation_calls p (MeetsPremises p constructors node (now ∷ past)) (AtBase p (InputsTyped p constructors now past))
        (λ g c args k here inner. part_passes p constructors node now past g c args k (each (needs_all args)) before here inner)
        node node.equations good) in
        let both = each_both (IfPassed now past) (OfSite p (InputsTyped p constructors now past)) (sites p node) if passed in (
          record {
            variables = vars;
            parts =
                each_equation_part p (MeetsPremises p constructors node (now ∷ past)) (PartHasType p constructors node now past)
                (λ e k met. value_typed p constructors node e k now past (each (needs e)) before met)
                node node.equations good;
          },
          hold_in_calls js (sites p node) now past h.1 (each_implies (λ s. IfPassed now past s × OfSite p (InputsTyped p constructors now past) s) (CalledHold now past) (λ s k. k.0 k.1) (sites p node) both),
        )

    mutual
      instant_holds : (i : Instant) (f : ℕ) (past : World) → IsInstant p i f past → InputsHaveTypes p constructors f i → Satisfies p f past → TypesHoldOver p constructors f past → TypesHoldAt i f past
      instant_holds (instant b row js) f past h hi hs hf =
          built_hold b row js f past h hi hs hf
          (calls_hold js (sites p (node_at p f)) (instant b row js) past h.1
          (each_both (λ s. Satisfies p s.node (called_world s.number past)) (λ s. TypesHoldOver p constructors s.node (called_world s.number past)) (sites p (node_at p f)) (called_satisfies p f past hs) (sites_over f past hs hf)))

      calls_hold : (js : Called) (ss : List Site) (now : Instant) (past : World) → EachCall p js ss now past → Each (PastHold past) ss → Each (IfPassed now past) ss
      calls_hold nobody [] now past h k = tt
      calls_hold nobody (s ∷ ss) now past h k = absurd h
      calls_hold (also j js) [] now past h k = tt
      calls_hold (also j js) (s ∷ ss) now past h k = (
        (λ passed.
            subst (λ i. TypesHoldAt i s.node (called_world s.number past)) (sym h.0.numbered)
            (instant_holds j s.node (called_world s.number past) h.1 (subst (HaveTypes p constructors (input_kinds (node_at p s.node))) (sym h.0.inputs) passed) k.0.0 k.0.1)),
        calls_hold js ss now past h.2 k.1,
      )

    pub world_holds : (f : ℕ) (w : World) → Satisfies p f w → Each (InputsHaveTypes p constructors f) w → TypesHoldOver p constructors f w
    world_holds f [] h hi = tt
    world_holds f (i ∷ past) h hi = let before = world_holds f past h.1 hi.1 in (instant_holds i f past h.0 hi.0 h.1 before, before)

pub values_have_types : ValuesHaveTypes
values_have_types p constructors fits literals causal =
    world_holds p constructors
    (each_item HasOrder empty_node p.nodes ([], record { first = tt; all = tt }) causal)
    (each_item (λ f. Each (EquationFits p f) f.equations) empty_node p.nodes tt fits)
    (each_item (λ f. Each (IsLiteralOf constructors) (node_parts p f)) empty_node p.nodes tt literals)
