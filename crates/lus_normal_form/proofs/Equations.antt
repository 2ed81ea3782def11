-- One instant of a node and one of its normal form: each meets its equations where the other does.
use Rattle.std.proofs.Common.{◌≡◌, ℕ, ◌<◌, ◌≤◌, nat_lt, true, false, Bool, List, [], ◌∷◌, ◌++◌, length, take, drop, Option, Some, None, is_some, MatchBool, refl, sym, ap, ◌∙◌, subst, IsTrue, arith, ⊎_elim}
use Rattle.std.proofs.lemmas.Bool.{cases_lt, le-ltb}
use Rattle.std.proofs.lemmas.List.{length-take-le}
use Rattle.lus_values.specs.Values.{Value}
use Rattle.lus_program.specs.Programs.{Expression, call, Equation, Node, Program, node_at}
use Rattle.lus_values.specs.Lists.{item, Each}
use Rattle.lus_values.proofs.Lists.{below_all}
use Rattle.lus_streams.specs.Clocks.{Clock, clock_of, Part, at, base_of, parts}
use Rattle.lus_streams.specs.Equations.{Definition, given_by, equation_clock, definition_of, equation_parts, node_parts}
use Rattle.lus_streams.specs.Streams.{Instant, World, is_present, row_of, entry, is_on, where_on, value, definition_value, HasValue, Follows, EquationsHold}
use Rattle.lus_streams.specs.Order.{clock_variables}
use Rattle.lus_normal_form.specs.NormalNodes.{IsDefinition, IsWithin, DefinesNew, IsNormalOf}
use Rattle.lus_normal_form.specs.NormalForm.{StandsFor, IsRight}
use Rattle.lus_normal_form.specs.Named.{Uses, DefinesFirst, Known, GivesOutput, DefinitionFits, AreNamed}
use Rattle.lus_streams.proofs.Definitions.{RightParts, right_parts}
use Rattle.lus_streams.proofs.Lists.{each_left, each_right, each_append, below_at}
use Rattle.lus_normal_form.proofs.NewParts.{new_fact, new_part, new_at}
use Rattle.lus_normal_form.proofs.Values.{Keeps, KeepsOver, on_keeps, first_value, plain_value, right_value}
use Rattle.lus_normal_form.proofs.Faults.{first_part, right_to, right_from}

-- what holds of each of some parts holds of each sub-expression of a part among them
pub each_within : (p : Program) (P : Part → Type 0) (all : List Part) (k : Clock) (a : Expression) → IsWithin p all (at k a) → Each P all → Each P (parts p a k)
each_within p P all k a h e = each_left P (parts p a k) h.1 (each_right P h.0 (parts p a k ++ h.1) (subst (Each P) h.2 e))

-- where it holds of the right side of each variable it holds of each part of a node whose equations define variables
pub equation_parts_hold : (p : Program) (P : Part → Type 0) (f : Node) → ((x : ℕ) → x < length f.variables → RightParts p P (definition_of f x)) → (qs : List Equation) → Each (DefinesFirst f) qs → Each P (equation_parts p f qs)
equation_parts_hold p P f h [] d = tt
equation_parts_hold p P f h (q ∷ qs) d =
    each_append P (parts p q.right (equation_clock f q)) (equation_parts p f qs) (subst (RightParts p P) d.0.1 (h (item 0 q.targets 0) d.0.0)) (equation_parts_hold p P f h qs d.1)

-- what a variable holds is where its clock is present what its right side gives
pub by_clock : (b : Bool) (v u : Option Value) → (b ≡ true → v ≡ u) → (b ≡ false → v ≡ None) → v ≡ where_on b u
by_clock true v u h k = h refl
by_clock false v u h k = k refl

pub where_same : (b : Bool) (v u : Option Value) → (b ≡ true → v ≡ u) → where_on b v ≡ where_on b u
where_same true v u h = h refl
where_same false v u h = refl

match_map : (b : Bool) {A B A' B' : Type 0} → (A → A') → (B → B') → MatchBool b A B → MatchBool b A' B'
match_map true f g h = f h
match_map false f g h = g h

module _ (p p' : Program) (new_parts : ℕ → List Part) (named : AreNamed p) (normal : IsNormalOf p p' new_parts) (f : ℕ) where
  abbrev pub node : Node
  node = node_at p f

  abbrev pub node' : Node
  node' = node_at p' f

  abbrev pub New : ℕ → Clock → Expression → Type 0
  New = StandsFor (length node.variables) (new_parts f)

  abbrev pub KeepsNow : Instant → Instant → World → World → Type 0
  KeepsNow = Keeps p p' (Known node) (GivesOutput p node) New

  abbrev pub KeepsPast : World → World → Type 0
  KeepsPast = KeepsOver p p' (Known node) (GivesOutput p node) New

  abbrev pub Used : Part → Type 0
  Used = Uses (Known node) (GivesOutput p node)

  -- an instant with the new variables, and without
  pub record Level (i i' : Instant) (w w' : World) : Type 0 where
    pub base : is_present i ≡ is_present i'
    pub front : row_of i ≡ take (length node.variables) (row_of i')
    pub width : length (row_of i') ≡ length node'.variables
    pub new : (y : ℕ) (k : Clock) (a : Expression) → New y k a → IsTrue (is_on k i)
        → ((e' : Expression) (xs : List ℕ) → IsRight p New a e' k → value p a k i w ≡ definition_value p' (Some (given_by e' 0 xs k)) i' w')
        → value p a k i w ≡ entry i' y
    pub absent : (y : ℕ) (k : Clock) (a : Expression) → New y k a → is_on k i ≡ false → entry i' y ≡ None

  -- bases of calls and clocks of formals stay
  pub bases : (g c : ℕ) → GivesOutput p node g c 0 → (k : Clock) → base_of (node_at p' g) k ≡ base_of (node_at p g) k
  bases g c o k =
      let lt : (node_at p g).inputs < length (node_at p g).variables = omega (arith, o.1) in
      ap (λ z. drop (length z) k)
      (ap (clock_of (node_at p' g)) (normal g).inputs ∙ below_at (λ x. clock_of (node_at p' g) x ≡ clock_of (node_at p g) x) (length (node_at p g).variables) (normal g).clocks (node_at p g).inputs lt)

  pub formals : (g m : ℕ) → m < (node_at p g).inputs → clock_of (node_at p' g) m ≡ clock_of (node_at p g) m
  formals g m lt = below_at (λ x. clock_of (node_at p' g) x ≡ clock_of (node_at p g) x) (length (node_at p g).variables) (normal g).clocks m (omega (arith, lt, (named g).inputs))

  -- new variables and old ones
  pub new_uses : (y : ℕ) (k : Clock) (a : Expression) → New y k a → Each Used (parts p a k)
  new_uses y k a s = each_within p Used (node_parts p node) k a (new_part (IsWithin p (node_parts p node)) (length node.variables) (new_parts f) (normal f).within y k a s) (named f).uses

  pub new_defined : (y : ℕ) (k : Clock) (a : Expression) → New y k a → IsDefinition p New (Some (given_by a 0 (y ∷ []) k)) (definition_of node' y)
  new_defined y k a s = (new_fact (DefinesNew p node' New) (length node.variables) (new_parts f) (normal f).new_definitions y k a s).1

  pub new_clock : (y : ℕ) (k : Clock) (a : Expression) → New y k a → clock_of node' y ≡ k
  new_clock y k a s = (new_fact (DefinesNew p node' New) (length node.variables) (new_parts f) (normal f).new_definitions y k a s).0

  pub old_defined : (x : ℕ) → x < length node.variables → IsDefinition p New (definition_of node x) (definition_of node' x)
  old_defined x lt = below_at (λ x. IsDefinition p New (definition_of node x) (definition_of node' x)) (length node.variables) (normal f).definitions x lt

  pub old_clock : (x : ℕ) → x < length node.variables → clock_of node' x ≡ clock_of node x
  old_clock x lt = below_at (λ x. clock_of node' x ≡ clock_of node x) (length node.variables) (normal f).clocks x lt

  module _ (i i' : Instant) (w w' : World) (l : KeepsNow i i' w w') (over : KeepsPast w w') where
    abbrev Valued : Part → Type 0
    Valued e = HasValue p e i w

    abbrev NormalValued : Part → Type 0
    NormalValued e = HasValue p' e i' w'

    clock_same : (k : Clock) → Each (Known node) (clock_variables k) → is_on k i ≡ is_on k i'
    clock_same k h = on_keeps p p' (Known node) (GivesOutput p node) New k i i' w w' h l

    old_on : (x : ℕ) → x < length node.variables → is_on (clock_of node x) i ≡ is_on (clock_of node' x) i'
    old_on x lt = clock_same (clock_of node x) (below_at (λ x. Each (Known node) (clock_variables (clock_of node x))) (length node.variables) (named f).clocks x lt) ∙ ap (λ k. is_on k i') (sym (old_clock x lt))

    -- definitions of the one and the other give one value
    definition_same : (x : ℕ) (d d' : Option Definition) → IsDefinition p New d d' → RightParts p Used d → DefinitionFits p node x d → IsTrue (is_on (clock_of node x) i) → definition_value p d i w ≡ definition_value p' d' i' w'
    definition_same x None d' is u fits t = ap (λ z. definition_value p' z i' w') (sym is)
    definition_same x (Some (given_by (call g c args) n xs k)) d' is u fits t =
        l.outputs g c n fits ∙ ap (λ z. definition_value p' (Some (given_by z n xs k)) i' w') (sym is.2.1) ∙ ap (λ z. definition_value p' z i' w') (sym is.1)
    definition_same x (Some (given_by e n xs k)) d' is u fits t =
        right_value p p' (Known node) (GivesOutput p node) New e is.0 k is.2 u i i' w w' l over (subst (λ z. IsTrue (is_on z i)) fits t)
        ∙ sym (plain_value p p' (Known node) (GivesOutput p node) New e is.0 n xs k i' w' tt is.2)
        ∙ ap (λ z. definition_value p' z i' w') (sym is.1)

    old_value : (x : ℕ) → x < length node.variables → IsTrue (is_on (clock_of node x) i) → definition_value p (definition_of node x) i w ≡ definition_value p' (definition_of node' x) i' w'
    old_value x lt t =
        definition_same x (definition_of node x) (definition_of node' x) (old_defined x lt) (right_parts p Used node node.equations x (named f).uses)
        (below_at (λ x. DefinitionFits p node x (definition_of node x)) (length node.variables) (named f).definitions x lt) t

    new_value : (y : ℕ) (k : Clock) (a : Expression) → New y k a → IsTrue (is_on k i) → (e' : Expression) (xs : List ℕ) → IsRight p New a e' k → value p a k i w ≡ definition_value p' (Some (given_by e' 0 xs k)) i' w'
    new_value y k a s t e' xs r =
        right_value p p' (Known node) (GivesOutput p node) New a e' k r (new_uses y k a s) i i' w w' l over t
        ∙ sym (first_value p p' (Known node) (GivesOutput p node) New e' xs k i' w')

    old_to : (x : ℕ) → x < length node.variables → Follows p node i w x → Follows p' node' i' w' x
    old_to x lt h =
        let e = l.entries x lt in
        subst (λ n. MatchBool (nat_lt x n) (is_some (entry i' x) ≡ is_on (clock_of node' x) i') (entry i' x ≡ where_on (is_on (clock_of node' x) i') (definition_value p' (definition_of node' x) i' w'))) (sym (normal f).inputs)
        (match_map (nat_lt x node.inputs)
        (λ a. ap is_some (sym e) ∙ a ∙ old_on x lt)
        (λ b. sym e ∙ b ∙ where_same (is_on (clock_of node x) i) _ _ (old_value x lt) ∙ ap (λ o. where_on o (definition_value p' (definition_of node' x) i' w')) (old_on x lt))
        h)

    old_from : (x : ℕ) → x < length node.variables → Follows p' node' i' w' x → Follows p node i w x
    old_from x lt h =
        let e = l.entries x lt in
        match_map (nat_lt x node.inputs)
        (λ a. ap is_some e ∙ a ∙ sym (old_on x lt))
        (λ b. e ∙ b ∙ sym (where_same (is_on (clock_of node x) i) _ _ (old_value x lt) ∙ ap (λ o. where_on o (definition_value p' (definition_of node' x) i' w')) (old_on x lt)))
        (subst (λ n. MatchBool (nat_lt x n) (is_some (entry i' x) ≡ is_on (clock_of node' x) i') (entry i' x ≡ where_on (is_on (clock_of node' x) i') (definition_value p' (definition_of node' x) i' w'))) (normal f).inputs h)

    module _ (v : Level i i' w w') where
      new_to : (y : ℕ) → length node.variables ≤ y → y < length node'.variables → Follows p' node' i' w' y
      new_to y ge lt =
          let found = new_at (length node.variables) (new_parts f) y ge (subst (λ n. y < n) (normal f).width lt) in
          let k = found.0 in
          let a = found.1 in
          let s = found.2 in
          let d = new_defined y k a s in
          let there : is_on k i ≡ is_on (clock_of node' y) i' = clock_same k (first_part p Used a k (new_uses y k a s)).0 ∙ ap (λ z. is_on z i') (sym (new_clock y k a s)) in
          let holds : entry i' y ≡ where_on (is_on k i) (definition_value p' (definition_of node' y) i' w') =
          by_clock (is_on k i) _ _
          (λ t. sym (v.new y k a s t (new_value y k a s t)) ∙ new_value y k a s t d.0 (y ∷ []) d.2 ∙ ap (λ z. definition_value p' z i' w') (sym d.1))
          (v.absent y k a s)
          in
          let no_input : nat_lt y node'.inputs ≡ false = le-ltb y node'.inputs (subst (λ n. n ≤ y) (sym (normal f).inputs) (omega (arith, ge, (named f).inputs))) in
          subst (λ b. MatchBool b (is_some (entry i' y) ≡ is_on (clock_of node' y) i') (entry i' y ≡ where_on (is_on (clock_of node' y) i') (definition_value p' (definition_of node' y) i' w'))) (sym no_input)
          (holds ∙ ap (λ o. where_on o (definition_value p' (definition_of node' y) i' w')) there)

      definition_to : (d d' : Option Definition) → IsDefinition p New d d' → RightParts p Used d → RightParts p Valued d → RightParts p' NormalValued d'
      definition_to None d' is u h = subst (RightParts p' NormalValued) (sym is) tt
      definition_to (Some (given_by e n xs k)) d' is u h = subst (RightParts p' NormalValued) (sym is.1) (right_to p p' (Known node) (GivesOutput p node) New bases formals i i' w w' l over e is.0 k u h is.2)

      pub equations_to : EquationsHold p node i w → EquationsHold p' node' i' w'
      equations_to h = record {
        width = v.width;
        variables = below_all _ (length node'.variables) (λ x lt. ⊎_elim (λ old. old_to x old (below_at (Follows p node i w) (length node.variables) h.variables x old)) (λ ge. new_to x ge lt) (cases_lt x (length node.variables)));
        no_fault =
            equation_parts_hold p' NormalValued node'
            (λ x lt. ⊎_elim
            (λ old. definition_to (definition_of node x) (definition_of node' x) (old_defined x old) (right_parts p Used node node.equations x (named f).uses) (right_parts p Valued node node.equations x h.no_fault))
            (λ ge.
            let found = new_at (length node.variables) (new_parts f) x ge (subst (λ n. x < n) (normal f).width lt) in
            let within = new_part (IsWithin p (node_parts p node)) (length node.variables) (new_parts f) (normal f).within x found.0 found.1 found.2 in
            definition_to (Some (given_by found.1 0 (x ∷ []) found.0)) (definition_of node' x) (new_defined x found.0 found.1 found.2) (new_uses x found.0 found.1 found.2) (each_within p Valued (node_parts p node) found.0 found.1 within h.no_fault))
            (cases_lt x (length node.variables)))
            node'.equations (normal f).equations;
      }

      new_valued : EquationsHold p' node' i' w' → (y : ℕ) (k : Clock) (a : Expression) → New y k a → (e' : Expression) × IsRight p New a e' k × Each NormalValued (parts p' e' k)
      new_valued h y k a s = let d = new_defined y k a s in (d.0, d.2, subst (RightParts p' NormalValued) d.1 (right_parts p' NormalValued node' node'.equations y h.no_fault))

      definition_from : EquationsHold p' node' i' w' → (d d' : Option Definition) → IsDefinition p New d d' → RightParts p Used d → RightParts p' NormalValued d' → RightParts p Valued d
      definition_from h None d' is u r = tt
      definition_from h (Some (given_by e n xs k)) d' is u r = right_from p p' (Known node) (GivesOutput p node) New bases formals i i' w w' l over (new_valued h) e k u is.0 is.2 (subst (RightParts p' NormalValued) is.1 r)

      pub equations_from : EquationsHold p' node' i' w' → EquationsHold p node i w
      equations_from h = record {
        width = ap length v.front ∙ length-take-le (length node.variables) (row_of i') (omega (arith, v.width, (normal f).width));
        variables = below_all _ (length node.variables) (λ x lt. old_from x lt (below_at (Follows p' node' i' w') (length node'.variables) h.variables x (omega (arith, lt, (normal f).width))));
        no_fault =
            equation_parts_hold p Valued node
            (λ x lt. definition_from h (definition_of node x) (definition_of node' x) (old_defined x lt) (right_parts p Used node node.equations x (named f).uses) (right_parts p' NormalValued node' node'.equations x h.no_fault))
            node.equations (named f).equations;
      }
