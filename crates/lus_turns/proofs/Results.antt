-- The variables that a call gives match the outputs of the called node.
use Rattle.std.proofs.Common.{◌≡◌, ◌∙◌, inl, inr, ℕ, zero, suc, ◌+◌, ◌-◌, ◌<◌, ◌≤◌, List, [], ◌∷◌, ◌++◌, length, Some, slice_get, refl, sym, ap, subst, arith, ⊎_elim, le_of_suc-le-suc, not-suc-le-zero}
use Rattle.std.proofs.lemmas.Bool.{cases_lt}
use Rattle.lus_values.specs.Lists.{Each}
use Rattle.lus_program.specs.Programs.{Expression, variable, call, Operands, none, more, Node, Program, node_at}
use Rattle.lus_streams.specs.Clocks.{Clock, clock_of, operand, formal_clock, base_of, renamed_test, renamed_clock}
use Rattle.lus_streams.specs.Equations.{given_by, definition_of, Site}
use Rattle.lus_streams.specs.OnClock.{IsName, actuals, variables}
use Rattle.lus_clocks.proofs.NewestTests.{clock_tail}
use Rattle.lus_classes.specs.Classes.{Argument, Call, Class, answer, named}
use Rattle.lus_classes.specs.ClassesOf.{IsAnswer, Meets, Matches}
use Rattle.lus_normal_form.specs.Ready.{Declared, operand_size}
use Rattle.lus_normal_form.proofs.HaveFormals.{own_operand, tested}
use Rattle.lus_translation.specs.Forms.{atom_form, arguments_form, call_form}
use Rattle.lus_translation.specs.Laws.{IsFittingCall}
use Rattle.lus_translation.proofs.FittingCalls.{calls_belong}

-- the variable that a name is
is_name : (e : Expression) → IsName e → (y : ℕ) × (e ≡ variable y)
is_name (variable y) h = (y, refl)
is_name _ h = absurd h

left_variable : (xs : List ℕ) (o y : ℕ) → operand (variables xs) o ≡ variable y → slice_get xs o ≡ Some y
left_variable [] o y e = cc
left_variable (x ∷ xs) zero y e = cc
left_variable (x ∷ xs) (suc o) y e = left_variable xs o y e

left_operand : (args : Operands) (xs : List ℕ) (n o y : ℕ) → n ≡ operand_size args + o → operand (actuals args xs) n ≡ variable y → slice_get xs o ≡ Some y
left_operand none xs n o y place e = let same : o ≡ n = omega (arith, place) in left_variable xs o y (ap (operand (variables xs)) same ∙ e)
left_operand (more a es) xs zero o y place e = absurd (omega (arith, place))
left_operand (more a es) xs (suc n) o y place e = left_operand es xs n o y (omega (arith, place)) e

argument_at : (es : Operands) (g : Node) (args : Operands) (base : Clock) (m v : ℕ) → v < operand_size es
    → slice_get (arguments_form es g args base m) v ≡ Some (record { clock = formal_clock g args base (m + v); atom = atom_form (operand es v) })
argument_at none g args base m v lt = elim (not-suc-le-zero lt) [ ]
argument_at (more e es) g args base m zero lt =
    let here : m ≡ m + 0 = omega arith in
    ap (λ n. Some (let a : Argument = record { clock = formal_clock g args base n; atom = atom_form e } in a)) here
argument_at (more e es) g args base m (suc v) lt =
    let next : suc m + v ≡ m + suc v = omega arith in
    argument_at es g args base (suc m) v (le_of_suc-le-suc lt) ∙ ap (λ n. Some (let a : Argument = record { clock = formal_clock g args base n; atom = atom_form (operand es v) } in a)) next

module _ (p : Program) (f : Node) (c : Class) (g number : ℕ) (args : Operands) (xs : List ℕ) (first : Clock) (declared : Declared (node_at p g)) (size : operand_size args ≡ (node_at p g).inputs) where
  abbrev callee : Node
  callee = node_at p g

  abbrev base : Clock
  base = base_of (node_at p g) first

  abbrev acts : Operands
  acts = actuals args xs

  abbrev asked : Call
  asked = call_form p g args first

  -- a variable on the left is that output, on its clock
  pub record IsLeft (o y : ℕ) : Type 0 where
    pub defined : definition_of f y ≡ Some (given_by (call g number args) o xs first)
    pub within : y < length f.variables
    pub no_input : f.inputs ≤ y
    pub on_clock : clock_of f y ≡ renamed_clock (actuals args xs) (clock_of (node_at p g) ((node_at p g).inputs + o)) ++ base_of (node_at p g) first

  -- a clock that tests inputs alone has the arguments in it
  inputs_renamed : (l : Clock) (m : ℕ) → clock_of callee m ≡ l → m < callee.inputs → renamed_clock args l ≡ renamed_clock acts l
  inputs_renamed [] m is lt = refl
  inputs_renamed (t ∷ l) m is lt =
      let low : t.variable < callee.inputs = tested callee declared m t l is lt in
      let here : t.variable < operand_size args = omega (arith, low, size) in
      let rest = inputs_renamed l t.variable (sym (clock_tail callee declared m t l is)) low in
      λ j. renamed_test (sym (own_operand args xs t.variable here) j) t.constructor (rest j)

  meets : (lefts : (o y : ℕ) → slice_get xs o ≡ Some y → IsLeft o y) (v y : ℕ) (l : Clock) → l ≡ clock_of callee v → operand acts v ≡ variable y
      → Meets p f c asked (call g number args) xs first callee.inputs y v (renamed_clock acts l ++ base)
  meets lefts v y l is e =
      ⊎_elim
      (λ input.
      let here : v < operand_size args = omega (arith, input, size) in
      let atom : atom_form (operand args v) ≡ named y = ap atom_form (sym (own_operand args xs v here) ∙ e) in
      let place : 0 + v ≡ v = omega arith in
      let clock : formal_clock callee args base (0 + v) ≡ renamed_clock acts l ++ base =
      ap (formal_clock callee args base) place ∙ ap (λ k. k ++ base) (inputs_renamed (clock_of callee v) v refl input ∙ ap (renamed_clock acts) (sym is)) in
      inl (argument_at args callee args base 0 v here ∙ (λ j. Some (let a : Argument = record { clock = clock j; atom = atom j } in a))))
      (λ output.
      let o = v - callee.inputs in
      let place : v ≡ callee.inputs + o = omega (arith, output) in
      let behind : v ≡ operand_size args + o = omega (arith, place, size) in
      let left = lefts o y (left_operand args xs v o y behind e) in
      inr (record {
        output = o;
        place = place;
        within = left.within;
        no_input = left.no_input;
        defined = left.defined;
        on_clock = left.on_clock ∙ ap (λ z. renamed_clock acts z ++ base) (ap (clock_of callee) (sym place) ∙ sym is);
      }))
      (cases_lt v callee.inputs)

  -- the clock of a result is that of the output with the variables replaced
  pub results_match : (lefts : (o y : ℕ) → slice_get xs o ≡ Some y → IsLeft o y) (l : Clock) (m : ℕ) → clock_of callee m ≡ l → Each (λ t. IsName (operand acts t.variable)) l
      → Matches p f c asked (call g number args) xs first callee.inputs (renamed_clock acts l ++ base) l
  results_match lefts [] m is names = refl
  results_match lefts (t ∷ l) m is names =
      let name = is_name (operand acts t.variable) names.0 in
      let tail = clock_tail callee declared m t l is in
      let shown : Clock = record { variable = name.0; constructor = t.constructor } ∷ (renamed_clock acts l ++ base) in
      let same : shown ≡ renamed_test (operand acts t.variable) t.constructor (renamed_clock acts l) ++ base = ap (λ e. renamed_test e t.constructor (renamed_clock acts l) ++ base) (sym name.1) in
      subst (λ k. Matches p f c asked (call g number args) xs first callee.inputs k (t ∷ l)) same
      (refl, meets lefts t.variable name.0 l tail name.1, results_match lefts l t.variable (sym tail) names.1)

  -- so the code that answers output m gives it to the variable on the left
  pub answer_is : (m x : ℕ) → slice_get c.calls number ≡ Some asked → IsFittingCall p f g args base → callee.inputs + m < length callee.variables
      → (lefts : (o y : ℕ) → slice_get xs o ≡ Some y → IsLeft o y) → slice_get xs m ≡ Some x → Each (λ t. IsName (operand acts t.variable)) (clock_of callee (callee.inputs + m))
      → IsAnswer p f c (call g number args) m first x (answer number (callee.inputs + m)) xs
  answer_is m x here fit known lefts place names =
      let left = lefts m x place in
      let s : Site = record { node = g; number = number; args = args; base = base } in
      record {
        node = g;
        number = number;
        args = args;
        asked = asked;
        right = refl;
        code = refl;
        here = here;
        same_node = refl;
        base = refl;
        arguments = (calls_belong p f c s first refl fit).arguments;
        output = known;
        front = renamed_clock acts (clock_of callee (callee.inputs + m));
        clock = left.on_clock;
        matches =
            subst (λ k. Matches p f c asked (call g number args) xs first callee.inputs k (clock_of callee (callee.inputs + m))) (sym left.on_clock)
            (results_match lefts (clock_of callee (callee.inputs + m)) (callee.inputs + m) refl names);
      }
