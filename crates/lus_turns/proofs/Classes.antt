-- The class whose equations have turns in a causal order belongs to the node.
use Rattle.std.proofs.Common.{◌≡◌, ◌∙◌, ℕ, zero, suc, ◌+◌, ◌<◌, ◌≤◌, List, [], ◌∷◌, ◌++◌, length, Option, Some, None, slice_get, refl, sym, ap, subst, arith, append-nil, ⊎_elim}
use Rattle.std.proofs.lemmas.Bool.{cases_lt}
use Rattle.lus_values.specs.Lists.{item, Each}
use Rattle.lus_values.specs.declared.test.Test.{Test}
use Rattle.lus_values.proofs.Lists.{each_found, below_at}
use Rattle.lus_program.specs.declared.node.Equation.{Equation as StoredEquation}
use Rattle.lus_program.specs.Programs.{Equation, Node, Program}
use Rattle.lus_program.specs.View.{expression_of, equations_from}
use Rattle.lus_streams.specs.Clocks.{clock_of}
use Rattle.lus_streams.specs.Equations.{Definition, given_by, definition_of, equation_clock}
use Rattle.lus_streams.specs.OnClock.{LeftOnClock}
use Rattle.lus_streams.proofs.Lists.{each_append, each_left, each_right}
use Rattle.lus_classes.specs.Classes.{Class, Step}
use Rattle.lus_classes.specs.ClassesOf.{IsTarget, IsStep, IsCovered}
use Rattle.lus_normal_form.specs.NormalForm.{IsSimpleRight}
use Rattle.lus_normal_form.specs.Named.{DefinesFirst, DefinitionFits}
use Rattle.lus_translation.specs.Forms.{Turn, calls_form, class_form, numbers_form, steps_at, cells_at, all_steps, all_cells, equation_steps, equation_cells, flags_of, kept_firsts, marked}
use Rattle.lus_normal_form.specs.Ready.{IsReady}
use Rattle.lus_translation.specs.Laws.{HasFlag, HasFrom, IsFittingRight}
use Rattle.lus_translation.specs.Orders.{Follow, IsTurn, in_turn}
use Rattle.lus_translation.proofs.FittingCalls.{ready_rights_fit}
use Rattle.lus_translation.proofs.From.{from_left, from_right}
use Rattle.lus_translation.proofs.NewestTests.{all_flagged}
use Rattle.lus_translation.proofs.Numbered.{stored_calls, calls_stored}
use Rattle.lus_translation.proofs.Shapes.{classes_have_shape}
use Rattle.lus_translation.proofs.Followers.{followers_are_in_turn, followers_give_all}
use Rattle.lus_normal_form.specs.Ready.{IsDefined, DefinesLeft, HasOutputs}
use Rattle.lus_turns.specs.Laws.{ClassesBelong}
use Rattle.lus_turns.proofs.CallNumbers.{calls_before, call_found, number_at}
use Rattle.lus_turns.proofs.StoredEquations.{slice_within, numbered_equation, stored_at}
use Rattle.lus_turns.proofs.TurnSteps.{IsHeld, IsFound, OutputsKnown, turn_follows, turn_is_steps}

-- where a step gives a variable
record Gives (x : ℕ) (ss : List Step) : Type 0 where
  place : ℕ
  step : Step
  here : slice_get ss place ≡ Some step
  target : step.target ≡ x

giver : (x : ℕ) (ss : List Step) → IsTarget x ss → Gives x ss
giver x [] h = absurd h
giver x (s ∷ ss) h =
    ⊎_elim
    (λ here. record { place = 0; step = s; here = refl; target = sym here })
    (λ later. let g = giver x ss later in record { place = suc g.place; step = g.step; here = g.here; target = g.target })
    h

-- what is defined is no input
pub defined_past : (p : Program) (f : Node) → IsDefined p f → (x : ℕ) (d : Definition) → definition_of f x ≡ Some d → f.inputs ≤ x
defined_past p f defined x d e = ⊎_elim (λ input. absurd (let none = defined.inputs x input in let both : Some d ≡ None = sym e ∙ none in cc)) (λ own. own) (cases_lt x f.inputs)

module _ (p : Program) (f : Node) (c : Class) (defined : IsDefined p f) (every : (x : ℕ) → f.inputs ≤ x → x < length f.variables → IsTarget x c.steps) where
  no_input_by : (x : ℕ) (d : Definition) → definition_of f x ≡ Some d → f.inputs ≤ x
  no_input_by x d e = defined_past p f defined x d e

  covered_one : (q : Equation) → DefinesFirst f q → IsCovered p f c q
  covered_one q h =
      let x = item 0 q.targets 0 in
      let g = giver x c.steps (every x (no_input_by x (given_by q.right 0 q.targets (equation_clock f q)) h.1) h.0) in
      record {
        place = g.place;
        step = g.step;
        here = g.here;
        defined = ap (definition_of f) g.target ∙ h.1;
        clock = ap (clock_of f) (sym g.target);
      }

  all_covered : (qs : List Equation) → Each (DefinesFirst f) qs → Each (IsCovered p f c) qs
  all_covered [] h = tt
  all_covered (q ∷ qs) h = (covered_one q h.0, all_covered qs h.1)

-- what is known of a turn, in a class that is made of turns
record IsHeldTurn (p : Program) (f : Node) (c : Class) (qs : List StoredEquation) (t : Turn) : Type 0 where
  stored : StoredEquation
  here : slice_get qs t.equation ≡ Some stored
  held : IsHeld p f (numbered_equation (item 0 (numbers_form 0 qs) t.equation) stored) t.variables
  found : IsFound p f c (item 0 (numbers_form 0 qs) t.equation) (expression_of stored.right) (clock_of f (item 0 stored.targets.items 0))

module _ (p : Program) (f : Node) (ready : IsReady p f) (defined : IsDefined p f) (qs : List StoredEquation) (is : f.equations ≡ equations_from 0 qs) (c : Class) (same_calls : c.calls ≡ calls_form p f f.equations) where
  found_call : (i : ℕ) (q : StoredEquation) → slice_get qs i ≡ Some q → IsFound p f c (item 0 (numbers_form 0 qs) i) (expression_of q.right) (clock_of f (item 0 q.targets.items 0))
  found_call i q here g j args e =
      let at = number_at 0 qs i (slice_within qs i q here) in
      let number : item 0 (numbers_form 0 qs) i ≡ calls_before qs i = omega (arith, at) in
      let all : c.calls ≡ stored_calls p f qs = same_calls ∙ ap (calls_form p f) is ∙ calls_stored p f 0 qs in
      ap (slice_get c.calls) number ∙ ap (λ cs. slice_get cs (calls_before qs i)) all ∙ call_found p f qs i q g j args here e

  held_turn : (t : Turn) → IsTurn f t → IsHeldTurn p f c qs t
  held_turn t h =
      let simple = subst (Each (λ r. IsSimpleRight r.right)) is ready.simple in
      let place = subst (λ es. slice_get es t.equation ≡ Some h.equation) is h.here in
      let s = stored_at 0 qs t.equation h.equation simple place in
      record {
        stored = s.stored;
        here = s.here;
        held = subst (λ q. IsHeld p f q t.variables) (sym s.same) (record {
          fit = each_found (λ q. IsFittingRight p f q.right (equation_clock f q)) f.equations t.equation h.equation (ready_rights_fit p f ready) h.here;
          lefts = each_found (DefinesLeft f) f.equations t.equation h.equation defined.lefts h.here;
          outputs = each_found (λ q. HasOutputs p q.right (length q.targets)) f.equations t.equation h.equation defined.outputs h.here;
          clocks = each_found (λ q. LeftOnClock p f q 0 q.targets) f.equations t.equation h.equation ready.on_clocks.lefts h.here;
          given = h.given;
        });
        found = found_call t.equation s.stored s.here;
      }

  follow_append : (ss rs : List Step) (xs ys : List ℕ) → Follow p f c ss xs → Follow p f c rs ys → Follow p f c (ss ++ rs) (xs ++ ys)
  follow_append [] rs [] ys h k = k
  follow_append [] rs (x ∷ xs) ys h k = absurd h
  follow_append (s ∷ ss) rs [] ys h k = absurd h
  follow_append (s ∷ ss) rs (x ∷ xs) ys h k = (h.0, h.1, follow_append ss rs xs ys h.2 k)

  all_follow : (m : ℕ) (fs : List (Option Test)) (ts : List Turn) → Each (IsTurn f) ts → Follow p f c (all_steps p f qs (numbers_form 0 qs) m fs ts) (in_turn ts)
  all_follow m fs [] h = tt
  all_follow m fs (t ∷ ts) h =
      let held = held_turn t h.0 in
      let number = item 0 (numbers_form 0 qs) t.equation in
      let q = held.stored in
      let cells = length (cells_at p f qs (numbers_form 0 qs) t) in
      follow_append (steps_at p f qs (numbers_form 0 qs) m fs t) (all_steps p f qs (numbers_form 0 qs) (m + cells) fs ts) t.variables (in_turn ts)
      (subst (λ z. Follow p f c (equation_steps p f m fs number z t.variables) t.variables) (sym held.here)
      (turn_follows p f c m fs number (expression_of q.right) q.targets.items t.variables held.found held.held))
      (all_follow (m + cells) fs ts h.1)

  outputs_known : OutputsKnown p f c
  outputs_known g i args ts k x o is_given within =
      (subst (DefinitionFits p f x) is_given (below_at (λ y. DefinitionFits p f y (definition_of f y)) (length f.variables) ready.named.definitions x within)).1

  marks_at : (fs : List (Option Test)) (rs : List StoredEquation) (i : ℕ) (q : StoredEquation) → slice_get rs i ≡ Some q → Each (HasFlag c fs) (marked f rs)
      → Each (HasFlag c fs) (kept_firsts (expression_of q.right) (clock_of f (item 0 q.targets.items 0)))
  marks_at fs [] i q here h = cc
  marks_at fs (r ∷ rs) zero q here h =
      let same : r ≡ q = cc in
      subst (λ (z : StoredEquation). Each (HasFlag c fs) (kept_firsts (expression_of z.right) (clock_of f (item 0 z.targets.items 0)))) same
      (each_left (HasFlag c fs) (kept_firsts (expression_of r.right) (clock_of f (item 0 r.targets.items 0))) (marked f rs) h)
  marks_at fs (r ∷ rs) (suc i) q here h =
      marks_at fs rs i q here (each_right (HasFlag c fs) (kept_firsts (expression_of r.right) (clock_of f (item 0 r.targets.items 0))) (marked f rs) h)

  all_are_steps : (m : ℕ) (fs : List (Option Test)) (ts : List Turn) → Each (IsTurn f) ts → HasFrom c.memories m (all_cells p f qs (numbers_form 0 qs) ts) → Each (HasFlag c fs) (marked f qs)
      → Each (IsStep p f c) (all_steps p f qs (numbers_form 0 qs) m fs ts)
  all_are_steps m fs [] h hm hn = tt
  all_are_steps m fs (t ∷ ts) h hm hn =
      let held = held_turn t h.0 in
      let number = item 0 (numbers_form 0 qs) t.equation in
      let q = held.stored in
      let own_cells = cells_at p f qs (numbers_form 0 qs) t in
      let later_cells = all_cells p f qs (numbers_form 0 qs) ts in
      let cells = subst (λ z. HasFrom c.memories m (equation_cells f z t.variables)) held.here (from_left c.memories m own_cells later_cells hm) in
      each_append (IsStep p f c) (steps_at p f qs (numbers_form 0 qs) m fs t) (all_steps p f qs (numbers_form 0 qs) (m + length own_cells) fs ts)
      (subst (λ z. Each (IsStep p f c) (equation_steps p f m fs number z t.variables)) (sym held.here)
      (turn_is_steps p f c (defined_past p f defined) outputs_known m fs number (expression_of q.right) q.targets.items t.variables held.found held.held cells (marks_at fs qs t.equation q held.here hn)))
      (all_are_steps (m + length own_cells) fs ts h.1 (from_right c.memories m own_cells later_cells hm) hn)

has_whole : {X : Type 0} (xs : List X) → HasFrom xs 0 xs
has_whole xs = record { before = []; after = []; place = refl; whole = sym (append-nil xs) }

pub classes_belong : ClassesBelong
classes_belong p f ready defined qs is ts turns =
    let c = class_form p f qs (numbers_form 0 qs) ts in
    let shape = classes_have_shape p f ready qs is ts in
    let follow = all_follow p f ready defined qs is c refl 0 (flags_of f qs) ts turns.each in
    let every = λ (x : ℕ) (own : f.inputs ≤ x) (within : x < length f.variables). followers_give_all p f c c.steps (in_turn ts) follow x (turns.every x own within) in
    record {
      inputs = shape.inputs;
      narrow = shape.narrow;
      width = shape.width;
      clocks = shape.clocks;
      input_clocks = shape.input_clocks;
      steps = all_are_steps p f ready defined qs is c refl 0 (flags_of f qs) ts turns.each (has_whole c.memories) (all_flagged p f ready qs is ts);
      turns = followers_are_in_turn p f c c.steps (in_turn ts) _ shape.clocks shape.width follow turns.order;
      every = every;
      covered = all_covered p f c defined every f.equations ready.named.equations;
      calls = shape.calls;
      memories = shape.memories;
    }
