-- The steps of one turn follow its variables, and give what the definitions of these say.
use Rattle.std.proofs.Common.{◌≡◌, ◌∙◌, inl, ℕ, zero, suc, ◌+◌, ◌<◌, ◌≤◌, Bool, true, false, nat_eq, List, [], ◌∷◌, length, Option, Some, if◌then◌else◌, IsTrue, slice_get, refl, sym, ap, subst, arith}
use Rattle.std.proofs.lemmas.Bool.{eqb-true}
use Rattle.lus_values.specs.Lists.{item, Each}
use Rattle.lus_values.specs.declared.test.Test.{Test}
use Rattle.lus_values.proofs.Lists.{below_at}
use Rattle.lus_program.specs.Programs.{Expression, literal, call, Operands, Equation, Node, Program, node_at, numbered, all_numbered}
use Rattle.lus_streams.specs.Clocks.{Clock, clock_of}
use Rattle.lus_streams.specs.Equations.{Definition, given_by, definition_of, equation_clock, place_in}
use Rattle.lus_streams.specs.OnClock.{DefinedOnClock, LeftOnClock}
use Rattle.lus_streams.specs.Order.{is_in}
use Rattle.lus_streams.proofs.Lists.{each_implies}
use Rattle.lus_classes.specs.Classes.{Class, Code, answer, call_reads}
use Rattle.lus_classes.specs.ClassesOf.{IsAnswer, IsSource, IsStep}
use Rattle.lus_normal_form.specs.NormalForm.{IsSimple}
use Rattle.lus_translation.specs.Forms.{answer_first, answers_form, call_form, given_cells, given_steps, kept_firsts, turn_steps, turn_cells}
use Rattle.lus_translation.specs.Laws.{HasFlag, HasFrom, IsFitting, IsFittingRight}
use Rattle.lus_translation.specs.Orders.{Follow, IsGivenBy, right_reads}
use Rattle.lus_translation.proofs.Followers.{IsGivenOf, given_follow, given_are_steps, self_in}
use Rattle.lus_translation.proofs.Numbered.{call_numbered}
use Rattle.lus_translation.proofs.Shapes.{simple_numbered}
use Rattle.lus_normal_form.specs.Ready.{DefinesLeft, HasOutputs}
use Rattle.lus_turns.proofs.Results.{answer_is}
use Rattle.lus_turns.proofs.StoredEquations.{slice_within}

-- the place of a variable on a left side has it
placed_by : (x y : ℕ) (ys : List ℕ) (n o : ℕ) (b : Bool) → nat_eq x y ≡ b → ((m : ℕ) → place_in x ys (suc n) ≡ Some m → (r : ℕ) × (m ≡ suc n + r) × (slice_get ys r ≡ Some x))
    → (if b then Some n else place_in x ys (suc n)) ≡ Some o → (r : ℕ) × (o ≡ n + r) × (slice_get (y ∷ ys) r ≡ Some x)
placed_by x y ys n o true e rest h = let at : n ≡ o = cc in let same : x ≡ y = eqb-true x y e in (0, omega (arith, at), ap Some (sym same))
placed_by x y ys n o false e rest h = let found = rest o h in let place = found.1 in (suc found.0, omega (arith, place), found.2)

placed_from : (x : ℕ) (ys : List ℕ) (n o : ℕ) → place_in x ys n ≡ Some o → (r : ℕ) × (o ≡ n + r) × (slice_get ys r ≡ Some x)
placed_from x [] n o h = cc
placed_from x (y ∷ ys) n o h = placed_by x y ys n o (nat_eq x y) refl (λ m later. placed_from x ys (suc n) m later) h

pub placed : (x : ℕ) (ys : List ℕ) (o : ℕ) → place_in x ys 0 ≡ Some o → slice_get ys o ≡ Some x
placed x ys o h =
    let found = placed_from x ys 0 o h in
    let place = found.1 in
    let same : found.0 ≡ o = omega (arith, place) in
    subst (λ r. slice_get ys r ≡ Some x) same found.2

-- what is known of an equation and of the variables of its turn
pub record IsHeld (p : Program) (f : Node) (q : Equation) (xs : List ℕ) : Type 0 where
  pub fit : IsFittingRight p f q.right (equation_clock f q)
  pub lefts : DefinesLeft f q
  pub outputs : HasOutputs p q.right (length q.targets)
  pub clocks : LeftOnClock p f q 0 q.targets
  pub given : Each (IsGivenBy f q) xs

left_clock : (p : Program) (f : Node) (q : Equation) (n : ℕ) (xs : List ℕ) (o x : ℕ) → LeftOnClock p f q n xs → slice_get xs o ≡ Some x
    → DefinedOnClock p f x (Some (given_by q.right (n + o) q.targets (equation_clock f q)))
left_clock p f q n [] o x h here = cc
left_clock p f q n (y ∷ ys) zero x h here =
    let same : y ≡ x = cc in
    let place : n ≡ n + 0 = omega arith in
    subst (λ m. DefinedOnClock p f x (Some (given_by q.right m q.targets (equation_clock f q)))) place
    (subst (λ z. DefinedOnClock p f z (Some (given_by q.right n q.targets (equation_clock f q)))) same h.0)
left_clock p f q n (y ∷ ys) (suc o) x h here =
    let place : suc n + o ≡ n + suc o = omega arith in
    subst (λ m. DefinedOnClock p f x (Some (given_by q.right m q.targets (equation_clock f q)))) place (left_clock p f q (suc n) ys o x h.1 here)

pub left_on : (p : Program) (f : Node) (q : Equation) (o x : ℕ) → LeftOnClock p f q 0 q.targets → slice_get q.targets o ≡ Some x
    → DefinedOnClock p f x (Some (given_by q.right o q.targets (equation_clock f q)))
left_on p f q o x h here =
    let place : 0 + o ≡ o = omega arith in
    subst (λ m. DefinedOnClock p f x (Some (given_by q.right m q.targets (equation_clock f q)))) place (left_clock p f q 0 q.targets o x h here)

module _ (p : Program) (f : Node) (c : Class) where
  -- a variable is on the clock of a right side that is no call
  simple_clock : (x o : ℕ) (ts : List ℕ) (r : Expression) (k : Clock) → IsSimple r → DefinedOnClock p f x (Some (given_by r o ts k)) → clock_of f x ≡ k
  simple_clock x o ts (literal v) k s h = h
  simple_clock x o ts (call g i args) k s h = absurd s
  simple_clock x o ts e k s h = h

  simple_given : (q : Equation) (xs : List ℕ) → IsSimple q.right → IsHeld p f q xs → Each (IsGivenOf p f c q.right (equation_clock f q)) xs
  simple_given q xs s h =
      each_implies (IsGivenBy f q) (IsGivenOf p f c q.right (equation_clock f q))
      (λ x g.
      let here = placed x q.targets g.output g.place in
      record {
        output = g.output;
        targets = q.targets;
        defined = g.defined;
        on_clock = sym (simple_clock x g.output q.targets q.right (equation_clock f q) s (left_on p f q g.output x h.clocks here));
        within = (h.lefts g.output x here).0;
        no_input = g.no_input;
      })
      xs h.given

  -- the equation of a right side with this number
  abbrev equation : ℕ → Expression → List ℕ → Equation
  equation number e ts = record { targets = ts; right = numbered number e }

  simple_follow : (m : ℕ) (fs : List (Option Test)) (number : ℕ) (e : Expression) (ts xs : List ℕ) → IsSimple (numbered number e) → IsHeld p f (equation number e ts) xs → Follow p f c (given_steps m fs e (clock_of f (item 0 ts 0)) xs) xs
  simple_follow m fs number e ts xs s h =
      let k = clock_of f (item 0 ts 0) in
      subst (λ z. Follow p f c (given_steps m fs z k xs) xs) (simple_numbered number e s) (given_follow p f c m fs (numbered number e) k xs s (simple_given (equation number e ts) xs s h))

  simple_steps : (m : ℕ) (fs : List (Option Test)) (number : ℕ) (e : Expression) (ts xs : List ℕ) → IsSimple (numbered number e) → IsFitting p f (numbered number e) (clock_of f (item 0 ts 0)) → IsHeld p f (equation number e ts) xs
      → HasFrom c.memories m (given_cells e (clock_of f (item 0 ts 0)) xs) → Each (HasFlag c fs) (kept_firsts e (clock_of f (item 0 ts 0)))
      → Each (IsStep p f c) (given_steps m fs e (clock_of f (item 0 ts 0)) xs)
  simple_steps m fs number e ts xs s fit h cells firsts =
      let k = clock_of f (item 0 ts 0) in
      let same = simple_numbered number e s in
      subst (λ z. Each (IsStep p f c) (given_steps m fs z k xs)) same
      (given_are_steps p f c m fs (numbered number e) k xs s fit (simple_given (equation number e ts) xs s h)
      (subst (λ z. HasFrom c.memories m (given_cells z k xs)) (sym same) cells) (subst (λ z. Each (HasFlag c fs) (kept_firsts z k)) (sym same) firsts))

  -- steps that answer outputs of a call follow their variables
  answers_follow : (number inputs g : ℕ) (args : Operands) (ts : List ℕ) (xs : List ℕ) → slice_get c.calls number ≡ Some (call_form p g args (clock_of f (item 0 ts 0)))
      → Each (IsGivenBy f (record { targets = ts; right = call g number args })) xs → Follow p f c (answers_form number inputs ts xs) xs
  answers_follow number inputs g args ts [] found h = tt
  answers_follow number inputs g args ts (x ∷ xs) found h =
      let same : call_reads (slice_get c.calls number) ≡ right_reads p (definition_of f x) = ap call_reads found ∙ sym (ap (right_reads p) h.0.defined) in
      let own = call_reads (slice_get c.calls number) in
      subst (λ z. Follow p f c (answer_first number inputs x z (answers_form number inputs ts xs)) (x ∷ xs)) (sym h.0.place)
      (refl, subst (λ ys. Each (λ y. IsTrue (is_in ys y)) own) same (self_in own), answers_follow number inputs g args ts xs found h.1)

  answer_source : (x : ℕ) (e : Expression) (o : ℕ) (ts : List ℕ) (k : Clock) (d : Code) → IsAnswer p f c e o k x d ts → IsSource p f c x (Some (given_by e o ts k)) d
  answer_source x e o ts k d is = inl is

  module _ (g number : ℕ) (args : Operands) (ts : List ℕ) (no_input : (x : ℕ) (d : Definition) → definition_of f x ≡ Some d → f.inputs ≤ x)
      (known : (x o : ℕ) → definition_of f x ≡ Some (given_by (call g number args) o ts (clock_of f (item 0 ts 0))) → x < length f.variables → (node_at p g).inputs + o < length (node_at p g).variables) where
    abbrev asking : Equation
    asking = record { targets = ts; right = call g number args }

    answers_are_steps : (all xs : List ℕ) → IsHeld p f asking all → slice_get c.calls number ≡ Some (call_form p g args (clock_of f (item 0 ts 0)))
        → Each (IsGivenBy f asking) xs → Each (IsStep p f c) (answers_form number (node_at p g).inputs ts xs)
    answers_are_steps all [] held found h = tt
    answers_are_steps all (x ∷ xs) held found h =
        let k = clock_of f (item 0 ts 0) in
        let o = h.0.output in
        let here = placed x ts o h.0.place in
        let left = held.lefts o x here in
        let low = slice_within ts o x here in
        let few = held.outputs in
        let output : (node_at p g).inputs + o < (node_at p g).inputs + (node_at p g).outputs = omega (arith, low, few) in
        let on = left_on p f asking o x held.clocks here in
        let is =
        answer_is p f c g number args ts k held.fit.declared held.fit.size o x found held.fit (known x o left.1 left.0)
        (λ i y at.
        let l = held.lefts i y at in
        record { defined = l.1; within = l.0; no_input = no_input y _ l.1; on_clock = (left_on p f asking i y held.clocks at).0 })
        here (below_at _ _ on.1 ((node_at p g).inputs + o) output) in
        subst (λ z. Each (IsStep p f c) (answer_first number (node_at p g).inputs x z (answers_form number (node_at p g).inputs ts xs))) (sym h.0.place) (
          record {
            source = subst (λ z. IsSource p f c x z (answer number ((node_at p g).inputs + o))) (sym left.1) (answer_source x (call g number args) o ts k (answer number ((node_at p g).inputs + o)) is);
            within = left.0;
            no_input = h.0.no_input;
          },
          answers_are_steps all xs held found h.1,
        )

  -- where the call of a right side stands among the calls of the class
  abbrev pub IsFound : ℕ → Expression → Clock → Type 0
  IsFound number e k = (g j : ℕ) (args : Operands) → e ≡ call g j args → slice_get c.calls number ≡ Some (call_form p g args k)

  pub turn_follows : (m : ℕ) (fs : List (Option Test)) (number : ℕ) (e : Expression) (ts xs : List ℕ) → IsFound number e (clock_of f (item 0 ts 0)) → IsHeld p f (equation number e ts) xs
      → Follow p f c (turn_steps p m fs number e ts (clock_of f (item 0 ts 0)) xs) xs
  turn_follows m fs number (call g j args) ts xs found h =
      let numbered_args = all_numbered (suc number) args in
      let k = clock_of f (item 0 ts 0) in
      answers_follow number (node_at p g).inputs g numbered_args ts xs (found g j args refl ∙ ap Some (sym (call_numbered p g (suc number) args k))) h.given
  turn_follows m fs number (literal v) ts xs found h = simple_follow m fs number (literal v) ts xs h.fit.0 h
  turn_follows m fs number e ts xs found h = simple_follow m fs number e ts xs h.fit.0 h

  -- an output that defines a variable is a variable of the called node
  abbrev pub OutputsKnown : Type 0
  OutputsKnown =
      (g i : ℕ) (args : Operands) (ts : List ℕ) (k : Clock) (x o : ℕ) → definition_of f x ≡ Some (given_by (call g i args) o ts k) → x < length f.variables
      → (node_at p g).inputs + o < length (node_at p g).variables

  module _ (no_input : (x : ℕ) (d : Definition) → definition_of f x ≡ Some d → f.inputs ≤ x) (known : OutputsKnown) where
    pub turn_is_steps : (m : ℕ) (fs : List (Option Test)) (number : ℕ) (e : Expression) (ts xs : List ℕ) → IsFound number e (clock_of f (item 0 ts 0)) → IsHeld p f (equation number e ts) xs
        → HasFrom c.memories m (turn_cells e (clock_of f (item 0 ts 0)) xs) → Each (HasFlag c fs) (kept_firsts e (clock_of f (item 0 ts 0)))
        → Each (IsStep p f c) (turn_steps p m fs number e ts (clock_of f (item 0 ts 0)) xs)
    turn_is_steps m fs number (call g j args) ts xs found h cells firsts =
        let numbered_args = all_numbered (suc number) args in
        let k = clock_of f (item 0 ts 0) in
        answers_are_steps g number numbered_args ts no_input (λ x o. known g number numbered_args ts k x o) xs xs h (found g j args refl ∙ ap Some (sym (call_numbered p g (suc number) args k))) h.given
    turn_is_steps m fs number (literal v) ts xs found h cells firsts = simple_steps m fs number (literal v) ts xs h.fit.0 h.fit.1 h cells firsts
    turn_is_steps m fs number e ts xs found h cells firsts = simple_steps m fs number e ts xs h.fit.0 h.fit.1 h cells firsts
