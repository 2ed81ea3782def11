-- Each call of a resolved program on clocks has as many arguments as the called node has inputs, and names for what the clocks
-- of these test.
use Rattle.std.proofs.Common.{arith, ◌≡◌, ◌∙◌, sym, ap, ℕ, zero, suc, ◌+◌, ◌<◌, ◌≤◌, List, [], ◌∷◌, drop, length, take, Option, Some, None, refl, subst, suc-ne-zero, not-suc-le-zero, ⊎_elim}
use Rattle.std.proofs.lemmas.Bool.{cases_lt}
use Rattle.std.proofs.Math.ListN.{length-map}
use Rattle.std.proofs.lemmas.List.{length-take-le}
use Rattle.std.proofs.lemmas.Option.{get_or_from_slice_get}
use Rattle.std.specs.Prelude.{slice_get, option_map}
use Rattle.lus_values.specs.Lists.{Each, Below}
use Rattle.lus_values.specs.declared.test.Test.{Test}
use Rattle.lus_program.specs.declared.types.Kind.{Kind}
use Rattle.lus_program.specs.Programs.{Expression, literal, variable, operate, pre, arrow, when, merge, call, Operands, none, more, Equation, Node, Program, Variable, empty_node, no_variable, node_at}
use Rattle.lus_streams.specs.Clocks.{Clock, clock_of, Part, at, operand, formal_clock, base_of, branch_clock, parts, all_parts}
use Rattle.lus_streams.specs.Equations.{equation_clock, equation_parts, node_parts}
use Rattle.lus_streams.specs.OnClock.{IsDeclared, IsName, IsOnClocks, LeftOnClock, PartOnClock, ProgramOnClocks, RightOnClock, actuals, test_of}
use Rattle.lus_streams.proofs.Lists.{each_append, each_both, each_implies, each_item, each_left, each_right, item_past}
use Rattle.lus_streams.proofs.Clocks.{actuals_none, chain_none}
use Rattle.lus_normal_form.proofs.OneTest.{clock_is_chain}
use Rattle.lus_values.proofs.Lists.{each_found, below_at}
use Rattle.lus_program.specs.Kinds.{all_same}
use Rattle.lus_program.specs.Resolved.{input_kinds, output_kinds, call_results, results, kind_in, kinds_in, kinds_given_in, EquationFits, NodeResolved, Resolved}
use Rattle.lus_program.proofs.Options.{and_then_gives, map_gives, where_true_gives, all_same_is}
use Rattle.lus_program.proofs.TypedParts.{HasKind, HaveKinds, IsCall, operate_typed, both_typed, when_typed, merge_typed, call_typed, more_typed, whole_call, whole_typed, fits_given}
use Rattle.lus_normal_form.specs.Laws.{IsChain}
use Rattle.lus_normal_form.specs.Computed.{HaveFormals, HasFormals}
use Rattle.lus_normal_form.specs.Ready.{Declared, HasArguments, operand_size}

input_count : (f : Node) → f.inputs + f.outputs ≤ length f.variables → length (input_kinds f) ≡ f.inputs
input_count f le = length-map (take f.inputs f.variables) (λ v. v.kind) ∙ length-take-le f.inputs f.variables (omega (arith, le))

module _ (p : Program) (resolved : Each (NodeResolved p) p.nodes) where
  argument_count : (g : ℕ) (ks ls : List Kind) → results p g ks ≡ Some ls → length ks ≡ (node_at p g).inputs
  argument_count g ks ls h =
      let found = and_then_gives (call_results p ks) (slice_get p.nodes g) ls h in
      let f = found.0 in
      let fits = where_true_gives (all_same (input_kinds f) ks) (Some (output_kinds f)) ls found.2 in
      let same : input_kinds f ≡ ks = all_same_is (input_kinds f) ks fits.0 in
      let is : node_at p g ≡ f = get_or_from_slice_get p.nodes g f empty_node found.1 in
      let r = each_found (NodeResolved p) p.nodes g f resolved found.1 in
      ap length (sym same) ∙ input_count f r.formals ∙ ap (λ d. d.inputs) (sym is)

  module _ (f : Node) where
    sized : (es : Operands) (ks : List Kind) → kinds_in p f es ≡ Some ks → operand_size es ≡ length ks
    sized none ks h = let e : [] ≡ ks = cc in ap length e
    sized (more e es) ks h =
        let first = and_then_gives (λ k. option_map (λ ls. k ∷ ls) (kinds_in p f es)) (kind_in p f e) ks h in
        let rest = map_gives (λ ls. first.0 ∷ ls) (kinds_in p f es) ks first.2 in
        ap suc (sized es rest.0 rest.1) ∙ ap length rest.2

    call_sized : (g : ℕ) (es : Operands) (ls : List Kind) → IsCall p f g es ls → operand_size es ≡ (node_at p g).inputs
    call_sized g es ls made = sized es made.arguments made.have ∙ argument_count g made.arguments ls made.gives

    abbrev Has : Part → Type 0
    Has = HasArguments p

    mutual
      typed_parts : (e : Expression) (k : Clock) → HasKind p f e → Each Has (parts p e k)
      typed_parts (literal v) k h = (tt, tt)
      typed_parts (variable x) k h = (tt, tt)
      typed_parts (operate o es) k h = (tt, all_typed_parts es (λ m. k) 0 (operate_typed p f o es h))
      typed_parts (pre a) k h = (tt, typed_parts a k h)
      typed_parts (arrow a b) k h = let both = both_typed p f a b h in (tt, each_append Has (parts p a k) (parts p b k) (typed_parts a k both.0) (typed_parts b k both.1))
      typed_parts (when t a) k h = let given = when_typed p f t a h in (tt, typed_parts a (drop 1 k) given.1)
      typed_parts (merge x bs) k h = let given = merge_typed p f x bs h in (tt, all_typed_parts bs (branch_clock x k) 0 given.1)
      typed_parts (call g c args) k h =
          let made = call_typed p f g c args h in
          (call_sized g args made.0 made.2, all_typed_parts args (formal_clock (node_at p g) args (base_of (node_at p g) k)) 0 (made.2.arguments, made.2.have))

      all_typed_parts : (es : Operands) (ks : ℕ → Clock) (m : ℕ) → HaveKinds p f es → Each Has (all_parts p es ks m)
      all_typed_parts none ks m h = tt
      all_typed_parts (more e es) ks m h =
          let both = more_typed p f e es h in
          each_append Has (parts p e (ks m)) (all_parts p es ks (suc m)) (typed_parts e (ks m) both.0) (all_typed_parts es ks (suc m) both.1)

    right_parts_typed : (e : Expression) (k : Clock) (ls : List Kind) → kinds_given_in p f e ≡ Some ls → Each Has (parts p e k)
    right_parts_typed (call g c args) k ls h =
        let made = whole_call p f g c args ls h in
        (call_sized g args ls made, all_typed_parts args (formal_clock (node_at p g) args (base_of (node_at p g) k)) 0 (made.arguments, made.have))
    right_parts_typed e k ls h = typed_parts e k (whole_typed p f e ls h)

    equations_typed : (qs : List Equation) → Each (EquationFits p f) qs → Each Has (equation_parts p f qs)
    equations_typed [] h = tt
    equations_typed (q ∷ qs) h =
        let given = fits_given p f q h.0 in
        each_append Has (parts p q.right (equation_clock f q)) (equation_parts p f qs) (right_parts_typed q.right (equation_clock f q) given.kinds given.given) (equations_typed qs h.1)

pub call_arguments : (p : Program) → Resolved p → Each (λ f. Each (HasArguments p) (node_parts p f)) p.nodes
call_arguments p r = each_implies (NodeResolved p) (λ f. Each (HasArguments p) (node_parts p f)) (λ f n. equations_typed p r.nodes f f.equations n.equations) p.nodes r.nodes

have_formals : (g : Node) (args es : Operands) (m : ℕ) → m + operand_size es ≡ g.inputs → Below (g.inputs + g.outputs) (λ n. Each (λ t. IsName (operand args t.variable)) (clock_of g n)) → HaveFormals g args es m
have_formals g args none m e names = tt
have_formals g args (more a es) m e names =
    let within : m < g.inputs + g.outputs = omega (arith, e) in
    (omega (arith, e), below_at (λ n. Each (λ t. IsName (operand args t.variable)) (clock_of g n)) (g.inputs + g.outputs) names m within, have_formals g args es (suc m) (omega (arith, e)) names)

part_formals : (p : Program) (f : Node) (e : Part) → HasArguments p e → PartOnClock p f e → HasFormals p e
part_formals p f (at k (call g c args)) has on =
    let called = node_at p g in
    let names = subst (λ a. Below (called.inputs + called.outputs) (λ n. Each (λ t. IsName (operand a t.variable)) (clock_of called n))) (actuals_none args) on.1 in
    have_formals called args args 0 (let e = has in omega (arith, e)) names
part_formals p f (at k _) has on = tt

parts_formals : (p : Program) (f : Node) (es : List Part) → Each (HasArguments p) es → Each (PartOnClock p f) es → Each (HasFormals p) es
parts_formals p f [] has on = tt
parts_formals p f (e ∷ es) has on = (part_formals p f e has.0 on.0, parts_formals p f es has.1 on.1)

pub own_operand : (args : Operands) (xs : List ℕ) (n : ℕ) → n < operand_size args → operand (actuals args xs) n ≡ operand args n
own_operand none xs n lt = elim (not-suc-le-zero lt) [ ]
own_operand (more e es) xs zero lt = refl
own_operand (more e es) xs (suc n) lt = own_operand es xs n (omega (arith, lt))

-- an input is tested by inputs
module _ (g : Node) (declared : Declared g) where
  tested_by : (m : ℕ) (t : Test) (k : Clock) (o : Option Test) → test_of g m ≡ o → IsDeclared g m o → clock_of g m ≡ t ∷ k → m < g.inputs → t.variable < g.inputs
  tested_by m t k None e d is lt = absurd (suc-ne-zero _ (sym (ap length (sym (chain_none (length g.variables) g.variables m e) ∙ is))))
  tested_by m t k (Some u) e d is lt = let same : u ≡ t = (let both : u ∷ clock_of g u.variable ≡ t ∷ k = sym d.0 ∙ is in cc) in subst (λ (z : Test). z.variable < g.inputs) same (d.1.0 lt)

  pub tested : (m : ℕ) (t : Test) (k : Clock) → clock_of g m ≡ t ∷ k → m < g.inputs → t.variable < g.inputs
  tested m t k is lt =
      ⊎_elim
      (λ within. tested_by m t k (test_of g m) refl (below_at (λ y. IsDeclared g y (test_of g y)) (length g.variables) declared m within) is lt)
      (λ past. tested_by m t k None (ap (λ (v : Variable). v.test) (item_past no_variable g.variables m past)) tt is lt)
      (cases_lt m (length g.variables))

  own_names : (args : Operands) (xs : List ℕ) → operand_size args ≡ g.inputs → (k : Clock) (m : ℕ) → clock_of g m ≡ k → m < g.inputs
      → Each (λ t. IsName (operand (actuals args xs) t.variable)) k → Each (λ t. IsName (operand args t.variable)) k
  own_names args xs size [] m is lt h = tt
  own_names args xs size (t ∷ k) m is lt h =
      let low : t.variable < g.inputs = tested m t k is lt in
      (subst IsName (own_operand args xs t.variable (omega (arith, low, size))) h.0, own_names args xs size k t.variable (subst (IsChain g) is (clock_is_chain g declared m)).0 low h.1)

  formals_from : (args : Operands) (xs : List ℕ) → operand_size args ≡ g.inputs → Below (g.inputs + g.outputs) (λ n. Each (λ t. IsName (operand (actuals args xs) t.variable)) (clock_of g n))
      → (es : Operands) (m : ℕ) → m + operand_size es ≡ g.inputs → HaveFormals g args es m
  formals_from args xs size names none m e = tt
  formals_from args xs size names (more a es) m e =
      let low : m < g.inputs = omega (arith, e) in
      let within : m < g.inputs + g.outputs = omega (arith, low) in (
        low,
        own_names args xs size (clock_of g m) m refl low (below_at (λ n. Each (λ t. IsName (operand (actuals args xs) t.variable)) (clock_of g n)) (g.inputs + g.outputs) names m within),
        formals_from args xs size names es (suc m) (omega (arith, e)),
      )

-- every node of a program on clocks declares its variables on clocks
pub all_declared : (p : Program) → ProgramOnClocks p → (g : ℕ) → Declared (node_at p g)
all_declared p h g = (each_item (IsOnClocks p) empty_node p.nodes (record { declared = tt; lefts = tt; rights = tt }) h g).declared

module _ (p : Program) (callees : (g : ℕ) → Declared (node_at p g)) (f : Node) where
  right_formals : (e : Expression) (x : ℕ) (xs : List ℕ) (k : Clock) → LeftOnClock p f (record { targets = x ∷ xs; right = e }) 0 (x ∷ xs) → RightOnClock p f (parts p e k) → Each (HasArguments p) (parts p e k) → Each (HasFormals p) (parts p e k)
  right_formals (call g c args) x xs k left right has = (
    formals_from (node_at p g) (callees g) args (x ∷ xs) has.0 left.0.1 args 0 (let e = has.0 in omega (arith, e)),
    parts_formals p f (all_parts p args (formal_clock (node_at p g) args (base_of (node_at p g) k)) 0) has.1 right,
  )
  right_formals (literal v) x xs k left right has = parts_formals p f (parts p (literal v) k) has right
  right_formals e x xs k left right has = parts_formals p f (parts p e k) has right

  pub left_formals : (e : Expression) (xs : List ℕ) (k : Clock) → 0 < length xs → LeftOnClock p f (record { targets = xs; right = e }) 0 xs → RightOnClock p f (parts p e k) → Each (HasArguments p) (parts p e k) → Each (HasFormals p) (parts p e k)
  left_formals e [] k some left right has = elim (not-suc-le-zero some) [ ]
  left_formals e (x ∷ xs) k some left right has = right_formals e x xs k left right has

  equations_formals : (qs : List Equation) → Each (λ q. 0 < length q.targets) qs → Each (λ q. LeftOnClock p f q 0 q.targets) qs → Each (λ q. RightOnClock p f (parts p q.right (equation_clock f q))) qs → Each (HasArguments p) (equation_parts p f qs)
      → Each (HasFormals p) (equation_parts p f qs)
  equations_formals [] some lefts rights has = tt
  equations_formals (q ∷ qs) some lefts rights has =
      let k = equation_clock f q in
      each_append (HasFormals p) (parts p q.right k) (equation_parts p f qs)
      (left_formals q.right q.targets k some.0 lefts.0 rights.0 (each_left (HasArguments p) (parts p q.right k) (equation_parts p f qs) has))
      (equations_formals qs some.1 lefts.1 rights.1 (each_right (HasArguments p) (parts p q.right k) (equation_parts p f qs) has))

node_formals : (p : Program) → ProgramOnClocks p → (f : Node) → (IsOnClocks p f × NodeResolved p f) × Each (HasArguments p) (node_parts p f) → Each (HasFormals p) (node_parts p f)
node_formals p on_clocks f h = equations_formals p (all_declared p on_clocks) f f.equations h.0.1.lefts h.0.0.lefts h.0.0.rights h.1

pub all_have_formals : (p : Program) → Resolved p → ProgramOnClocks p → Each (λ f. Each (HasFormals p) (node_parts p f)) p.nodes
all_have_formals p r on_clocks =
    each_implies (λ f. (IsOnClocks p f × NodeResolved p f) × Each (HasArguments p) (node_parts p f)) (λ f. Each (HasFormals p) (node_parts p f)) (node_formals p on_clocks) p.nodes
    (each_both (λ f. IsOnClocks p f × NodeResolved p f) (λ f. Each (HasArguments p) (node_parts p f)) p.nodes (each_both (IsOnClocks p) (NodeResolved p) p.nodes on_clocks r.nodes) (call_arguments p r))
