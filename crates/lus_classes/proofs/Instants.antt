-- One instant of a class: at a row that its steps give the equations of its node hold, and the row of an instant at which
-- they hold is one that the steps give.
use Rattle.std.proofs.Common.{◌≡◌, ℕ, suc, ◌+◌, ◌<◌, nat_lt, Bool, true, false, List, [], ◌∷◌, length, Option, Some, None, is_some, IsSome, MatchBool, slice_get, refl, sym, ap, ◌∙◌, subst}
use Rattle.std.proofs.Math.Logic.{inl, inr}
use Rattle.std.proofs.lemmas.Bool.{ltb-true, ltb-false, le-ltb, MatchBool-at_false}
use Rattle.lus_values.specs.Lists.{item, Each}
use Rattle.lus_values.specs.Values.{Value, Row}
use Rattle.lus_values.proofs.Lists.{below_all, each_found}
use Rattle.lus_program.specs.Programs.{Expression, literal, call, Operands, none, more, Equation, Node, Program, node_at}
use Rattle.lus_streams.specs.Clocks.{Clock, clock_of, Part, formal_clock, base_of, parts, all_parts}
use Rattle.lus_streams.specs.Equations.{Definition, given_by, equation_clock, definition_of, equation_parts}
use Rattle.lus_streams.specs.Streams.{Instant, instant, Called, World, row_of, entry, called_at, is_on, where_on, value, definition_value, HasValue, Follows, EquationsHold}
use Rattle.lus_streams.proofs.Lists.{each_append, each_both, below_at}
use Rattle.lus_streams.proofs.Definitions.{RightParts, right_parts}
use Rattle.lus_classes.specs.Classes.{Code, Step, Argument, Call, Class, clock_in}
use Rattle.lus_classes.specs.States.{State}
use Rattle.lus_classes.specs.Steps.{is_on_row, answered, Ask, silent, run, guarded, entry_of}
use Rattle.lus_classes.specs.ClassesOf.{IsCode, IsAnswer, IsSource, IsStep, AreArguments, IsCovered, IsTarget, IsClassOf}
use Rattle.lus_classes.specs.StandsFor.{CellsStand, FlagsStand}
use Rattle.lus_classes.proofs.Options.{guarded_where, guarded_some, guarded_present, where_guarded, where_same, where_some}
use Rattle.lus_classes.proofs.Rows.{PresentOnClocks, InputsOnClocks, each_drop, is_on_row_is, is_on_back}
use Rattle.lus_classes.proofs.Codes.{same, atom_fine, sound}

-- a step for a target, of which P holds
pub record TargetAt (P : Step → Type 0) (x : ℕ) : Type 0 where
  pub step : Step
  pub same_target : x ≡ step.target
  pub holds_of : P step

pub target_at : (P : Step → Type 0) (ss : List Step) (x : ℕ) → Each P ss → IsTarget x ss → TargetAt P x
target_at P [] x h t = absurd t
target_at P (s ∷ ss) x h (inl e) = record { step = s; same_target = e; holds_of = h.0 }
target_at P (s ∷ ss) x h (inr t) = target_at P ss x h.1 t

-- where its code is no answer of a call, a definition's value is that of its right side
pub right_value : (p : Program) (f : Node) (c : Class) (e : Expression) (d : Code) (k : Clock) (n : ℕ) (xs : List ℕ) (now : Instant) (past : World) → IsCode p f c e d k
    → definition_value p (Some (given_by e n xs k)) now past ≡ value p e k now past
right_value p f c (literal v) d k n xs now past is = refl
right_value p f c (call g number args) d k n xs now past is = absurd is
right_value p f c e d k n xs now past is = refl

-- where its base is present each call answers the row of its called instant
abbrev pub Answers : Class → List Ask → Row → Called → Type 0
Answers c asks r js = (n : ℕ) (q : Call) → slice_get c.calls n ≡ Some q → is_on_row q.base r ≡ true → (s : State) × (item silent asks n r ≡ Some (row_of (called_at js n), s))

module _ (p : Program) (f : Node) (c : Class) (ok : IsClassOf p f c) (cells : List Value) (flags : List Bool) (asks : List Ask) (r : Row) (js : Called) where
  abbrev now : Instant
  now = instant true r js

  -- the step, made on the row, gives the entry that is there
  abbrev GivesAt : Step → Type 0
  GivesAt s = entry_of c cells flags asks s r ≡ Some (item None r s.target)

  clock_is : (x : ℕ) → is_on_row (clock_in c x) r ≡ is_on (clock_of f x) now
  clock_is x = ap (λ k. is_on_row k r) (ok.clocks x) ∙ is_on_row_is (clock_of f x) r js

  -- each variable of a row that the steps give is present where its clock is
  pub row_presence : Each GivesAt c.steps → InputsOnClocks f now → PresentOnClocks f now
  row_presence gives inputs x lt = go (nat_lt x f.inputs) refl
    where
      go : (b : Bool) → nat_lt x f.inputs ≡ b → is_some (item None r x) ≡ is_on (clock_of f x) now
      go true e = inputs x (ltb-true x f.inputs e)
      go false e =
          let a = target_at GivesAt c.steps x gives (ok.every x (ltb-false x f.inputs e) lt) in
          subst (λ z. is_some (item None r z) ≡ is_on (clock_of f z) now) (sym a.same_target) (guarded_present _ _ _ a.holds_of ∙ clock_is a.step.target)

  module _ (past : World) (cells_stand : CellsStand c.memories cells past) (flags_stand : FlagsStand c.firsts flags past) (answers : Answers c asks r js) where
    abbrev Fine : Part → Type 0
    Fine e = HasValue p e now past

    -- the code of a definition gives its value where the clock of its variable is present
    answer_is : (e : Expression) (m : ℕ) (xs : List ℕ) (k : Clock) (x : ℕ) (d : Code) → IsAnswer p f c e m k x d xs → is_on (clock_of f x) now ≡ true
        → run cells flags asks d r ≡ definition_value p (Some (given_by e m xs k)) now past
    answer_is e m xs k x d is t =
        let base : is_on (base_of (node_at p is.node) k) now ≡ true = is_on_back is.front (base_of (node_at p is.node) k) now (ap (λ l. is_on l now) (sym is.clock) ∙ t) in
        let a = answers is.number is.asked is.here (is_on_row_is is.asked.base r js ∙ ap (λ l. is_on l now) is.base ∙ base) in
        ap (λ z. run cells flags asks z r) is.code
        ∙ ap (answered ((node_at p is.node).inputs + m)) a.1
        ∙ ap (λ z. definition_value p (Some (given_by z m xs k)) now past) (sym is.right)

    source_is : (x : ℕ) (definition : Option Definition) (d : Code) → IsSource p f c x definition d → RightParts p Fine definition → is_on (clock_of f x) now ≡ true
        → run cells flags asks d r ≡ definition_value p definition now past
    source_is x None d is h t = absurd is
    source_is x (Some (given_by e m xs k)) d (inl is) h t = answer_is e m xs k x d is t
    source_is x (Some (given_by e m xs k)) d (inr is) h t =
        same p f c cells flags asks past cells_stand flags_stand r js e d k is.1 (each_drop Fine 1 (parts p e k) h) (ap (λ l. is_on l now) is.0 ∙ t)
        ∙ sym (right_value p f c e d k m xs now past is.1)

    -- at a row that the steps give the equations hold
    module _ (gives : Each GivesAt c.steps) (inputs : InputsOnClocks f now) (width : length r ≡ length f.variables) where
      presence : PresentOnClocks f now
      presence = row_presence gives inputs

      arguments_fine : (es : Operands) (given : List Argument) (g : Node) (args : Operands) (base : Clock) (m : ℕ) → AreArguments p f c es given g args base m
          → Each Fine (all_parts p es (formal_clock g args base) m)
      arguments_fine none [] g args base m h = tt
      arguments_fine none (a ∷ given) g args base m h = absurd h
      arguments_fine (more e es) [] g args base m h = absurd h
      arguments_fine (more e es) (a ∷ given) g args base m h =
          let k = formal_clock g args base m in
          each_append Fine (parts p e k) (all_parts p es (formal_clock g args base) (suc m))
          (subst (λ z. Each Fine (parts p z k)) (sym h.0) (atom_fine p f c cells flags asks past cells_stand flags_stand r js presence a.atom k h.2))
          (arguments_fine es given g args base (suc m) h.3)

      -- the parts of a definition whose step gives an entry have values
      source_fine : (s : Step) (e : Expression) (xs : List ℕ) (k : Clock) → IsSource p f c s.target (Some (given_by e 0 xs k)) s.code → k ≡ clock_of f s.target
          → GivesAt s → Each Fine (parts p e k)
      source_fine s e xs k (inl is) same_clock g =
          let there = λ (t : is_on k now ≡ true). ap (λ l. is_on l now) (sym same_clock) ∙ t in
          let some = λ (t : is_on k now ≡ true). subst IsSome (answer_is e 0 xs k s.target s.code is (there t)) (guarded_some _ _ _ g (clock_is s.target ∙ there t)) in
          subst (λ z. Each Fine (parts p z k)) (sym is.right) (
            λ t. subst (λ z. IsSome (definition_value p (Some (given_by z 0 xs k)) now past)) is.right (some t),
            arguments_fine is.args is.asked.arguments (node_at p is.node) is.args (base_of (node_at p is.node) k) 0 is.arguments,
          )
      source_fine s e xs k (inr is) same_clock g =
          sound p f c cells flags asks past cells_stand flags_stand r js presence e s.code k is.1
          (λ t. guarded_some _ _ _ g (clock_is s.target ∙ ap (λ l. is_on l now) (sym same_clock) ∙ t))

      equation_fine : (q : Equation) → IsCovered p f c q → Each Fine (parts p q.right (equation_clock f q))
      equation_fine q is =
          let st = each_found (IsStep p f c) c.steps is.place is.step ok.steps is.here in
          let g = each_found GivesAt c.steps is.place is.step gives is.here in
          source_fine is.step q.right q.targets (equation_clock f q)
          (subst (λ z. IsSource p f c is.step.target z is.step.code) is.defined st.source)
          is.clock g

      all_fine : (qs : List Equation) → Each (IsCovered p f c) qs → Each Fine (equation_parts p f qs)
      all_fine [] h = tt
      all_fine (q ∷ qs) h = each_append Fine (parts p q.right (equation_clock f q)) (equation_parts p f qs) (equation_fine q h.0) (all_fine qs h.1)

      follows : (x : ℕ) → x < length f.variables → Follows p f now past x
      follows x lt = go (nat_lt x f.inputs) refl
        where
          go : (b : Bool) → nat_lt x f.inputs ≡ b
              → MatchBool b (is_some (entry now x) ≡ is_on (clock_of f x) now) (entry now x ≡ where_on (is_on (clock_of f x) now) (definition_value p (definition_of f x) now past))
          go true e = presence x lt
          go false e =
              let a = target_at (λ s. GivesAt s × IsStep p f c s) c.steps x (each_both GivesAt (IsStep p f c) c.steps gives ok.steps) (ok.every x (ltb-false x f.inputs e) lt) in
              let s = a.step in
              subst (λ z. entry now z ≡ where_on (is_on (clock_of f z) now) (definition_value p (definition_of f z) now past)) (sym a.same_target)
              (guarded_where _ _ _ a.holds_of.0
              ∙ ap (λ b. where_on b (run cells flags asks s.code r)) (clock_is s.target)
              ∙ where_same (is_on (clock_of f s.target) now) _ _ (source_is s.target (definition_of f s.target) s.code a.holds_of.1.source (right_parts p Fine f f.equations s.target (all_fine f.equations ok.covered))))

      pub equations_hold : EquationsHold p f now past
      equations_hold = record { width = width; variables = below_all (Follows p f now past) (length f.variables) follows; no_fault = all_fine f.equations ok.covered }

    -- where the equations hold the row is one that the steps give
    module _ (hold : EquationsHold p f now past) (presence : PresentOnClocks f now) where
      gives_step : (s : Step) → IsStep p f c s → GivesAt s
      gives_step s is =
          let x = s.target in
          let k = clock_of f x in
          let e = MatchBool-at_false _ _ (le-ltb x f.inputs is.no_input) (below_at (Follows p f now past) (length f.variables) hold.variables x is.within) in
          let value_is = source_is x (definition_of f x) s.code is.source (right_parts p Fine f f.equations x hold.no_fault) in
          let given : entry now x ≡ where_on (is_on k now) (run cells flags asks s.code r) = e ∙ where_same (is_on k now) _ _ (λ t. sym (value_is t)) in
          ap (λ b. guarded b (run cells flags asks s.code r)) (clock_is x)
          ∙ where_guarded (is_on k now) (run cells flags asks s.code r) (entry now x) given (where_some (is_on k now) (run cells flags asks s.code r) (entry now x) given (presence x is.within))

      gives_steps : (ss : List Step) → Each (IsStep p f c) ss → Each GivesAt ss
      gives_steps [] h = tt
      gives_steps (s ∷ ss) h = (gives_step s h.0, gives_steps ss h.1)

      pub instant_gives : Each GivesAt c.steps
      instant_gives = gives_steps c.steps ok.steps
