-- What calls pass: where no part of a node is at fault, none of the nodes that it calls lacks an input.
use Rattle.std.proofs.Common.{◌≡◌, ℕ, suc, ◌+◌, ◌<◌, nat_lt, Bool, true, false, List, [], ◌∷◌, length, MatchBool, is_some, None, refl, ap, ◌∙◌, subst, arith, zero, not-suc-le-zero}
use Rattle.std.proofs.lemmas.Bool.{ltb-true}
use Rattle.lus_values.specs.Lists.{item, Each}
use Rattle.lus_values.proofs.Lists.{below_all}
use Rattle.lus_program.specs.Programs.{Operands, none, more, Node, Program, empty_node, node_at}
use Rattle.lus_program.specs.Resolved.{NodeResolved, Resolved}
use Rattle.lus_streams.specs.Clocks.{Clock, clock_of, Part, operand, formal_clock, base_of, parts, all_parts}
use Rattle.lus_streams.specs.Equations.{node_parts, sites}
use Rattle.lus_streams.specs.OnClock.{IsName, ProgramOnClocks}
use Rattle.lus_streams.specs.Streams.{Instant, World, entry, is_on, where_on, value, inputs_given, HasValue, IsFed}
use Rattle.lus_streams.proofs.Calls.{OfSite, AtBase, equation_calls, sites_of_parts}
use Rattle.lus_streams.proofs.Lists.{each_left, each_right, each_both, each_item}
use Rattle.lus_normal_form.specs.Computed.{HaveFormals, HasFormals}
use Rattle.lus_normal_form.specs.Ready.{HasArguments, operand_size}
use Rattle.lus_normal_form.proofs.Faults.{first_part}
use Rattle.lus_normal_form.proofs.HaveFormals.{all_declared, all_have_formals, call_arguments}
use Rattle.lus_attempts.specs.Attempts.{HasInputs, HasNoFault}
use Rattle.lus_attempts.proofs.Formals.{none_is_missing}

-- inputs are variables
pub inputs_are_variables : (p : Program) → Resolved p → (f : ℕ) (x : ℕ) → x < (node_at p f).inputs → x < length (node_at p f).variables
inputs_are_variables p resolved f x lt =
    let Wide : Node → Type 0 = λ g. (y : ℕ) → y < g.inputs → y < length g.variables in
    each_item Wide empty_node p.nodes (λ y below. absurd (not-suc-le-zero below)) (wide p.nodes resolved.nodes) f x lt
  where
    wide : (fs : List Node) → Each (NodeResolved p) fs → Each (λ g. (y : ℕ) → y < g.inputs → y < length g.variables) fs
    wide [] h = tt
    wide (g ∷ fs) h = ((λ y below. let formals = h.0.formals in omega (arith, formals, below)), wide fs h.1)

-- the arguments from number m on name what the formals' clocks test
pub formals_at : (g : Node) (args es : Operands) (m x : ℕ) → HaveFormals g args es m → x < operand_size es → Each (λ t. IsName (operand args t.variable)) (clock_of g (m + x))
formals_at g args none m x h lt = absurd (not-suc-le-zero lt)
formals_at g args (more e es) m zero h lt = let here : m ≡ m + 0 = omega arith in subst (λ n. Each (λ t. IsName (operand args t.variable)) (clock_of g n)) here h.1
formals_at g args (more e es) m (suc x) h lt =
    let there : suc m + x ≡ m + suc x = omega arith in
    subst (λ n. Each (λ t. IsName (operand args t.variable)) (clock_of g n)) there (formals_at g args es (suc m) x h.2 (omega (arith, lt)))

module _ (p : Program) (now : Instant) (past : World) where
  -- an argument that isn't at fault is passed where its clock is present
  passed : (es : Operands) (g : Node) (args : Operands) (base : Clock) (m x : ℕ) → Each (λ e. HasValue p e now past) (all_parts p es (formal_clock g args base) m) → x < operand_size es
      → is_on (formal_clock g args base (m + x)) now ≡ true → is_some (item None (inputs_given p es g args base m now past) x) ≡ true
  passed none g args base m x h lt on = absurd (not-suc-le-zero lt)
  passed (more e es) g args base m zero h lt on =
      let k = formal_clock g args base m in
      let here : m ≡ m + 0 = omega arith in
      let own : is_on k now ≡ true = ap (λ n. is_on (formal_clock g args base n) now) here ∙ on in
      let has = first_part p (λ c. HasValue p c now past) e k (each_left (λ c. HasValue p c now past) (parts p e k) (all_parts p es (formal_clock g args base) (suc m)) h) own in
      ap (λ b. is_some (where_on b (value p e k now past))) own ∙ has
  passed (more e es) g args base m (suc x) h lt on =
      let there : suc m + x ≡ m + suc x = omega arith in
      passed es g args base (suc m) x (each_right (λ c. HasValue p c now past) (parts p e (formal_clock g args base m)) (all_parts p es (formal_clock g args base) (suc m)) h) (omega (arith, lt))
      (ap (λ n. is_on (formal_clock g args base n) now) there ∙ on)

  module _ (resolved : Resolved p) (clocks : ProgramOnClocks p) where
    -- the nodes that these calls call lack no input
    abbrev pub LacksNothing : (g c : ℕ) → Operands → Clock → Type 0
    LacksNothing g c args base = (j : Instant) (before : World) → IsFed p (record { node = g; number = c; args = args; base = base }) j now past → HasInputs p g j before

    abbrev HasOperands : Part → Type 0
    HasOperands e = HasFormals p e × HasArguments p e

    abbrev Premises : Part → Type 0
    Premises e = HasValue p e now past × HasOperands e

    has_value : (es : List Part) → Each Premises es → Each (λ e. HasValue p e now past) es
    has_value [] h = tt
    has_value (e ∷ es) h = (h.0.0, has_value es h.1)

    call_lacks_nothing : (g c : ℕ) (args : Operands) (k : Clock) → HaveFormals (node_at p g) args args 0 × (operand_size args ≡ (node_at p g).inputs)
        → Each Premises (all_parts p args (formal_clock (node_at p g) args (base_of (node_at p g) k)) 0) → AtBase p LacksNothing g c args k
    call_lacks_nothing g c args k h inner j before fed =
        let f = node_at p g in
        let base = base_of f k in
        let size = h.1 in
        let named = λ (x : ℕ) (lt : x < f.inputs).
        let first : 0 + x ≡ x = omega arith in
        subst (λ n. Each (λ t. IsName (operand args t.variable)) (clock_of f n)) first (formals_at f args args 0 x h.0 (omega (arith, lt, size))) in
        let given = λ (x : ℕ) (lt : x < f.inputs) (on : is_on (formal_clock f args base x) now ≡ true).
        let first : 0 + x ≡ x = omega arith in
        passed args f args base 0 x (has_value (all_parts p args (formal_clock f args base) 0) inner) (omega (arith, lt, size)) (ap (λ n. is_on (formal_clock f args base n) now) first ∙ on) in
        let whole = none_is_missing p f args base now past j fed.base fed.inputs (all_declared p clocks g) (inputs_are_variables p resolved g) named given in
        below_all (λ x. MatchBool (nat_lt x f.inputs) (is_some (entry j x) ≡ is_on (clock_of f x) j) (Unit {0})) (length f.variables)
        (λ x lt. at_input (nat_lt x f.inputs) (is_some (entry j x) ≡ is_on (clock_of f x) j) (λ e. whole x (ltb-true x f.inputs e)))
      where
        at_input : (b : Bool) (P : Type 0) → (b ≡ true → P) → MatchBool b P (Unit {0})
        at_input true P h = h refl
        at_input false P h = tt

    pub calls_lack_nothing : (f : ℕ) → HasNoFault p f now past → Each (OfSite p LacksNothing) (sites p (node_at p f))
    calls_lack_nothing f values =
        let g = node_at p f in
        let formals = each_item (λ n. Each (HasFormals p) (node_parts p n)) empty_node p.nodes tt (all_have_formals p resolved clocks) f in
        let arguments = each_item (λ n. Each (HasArguments p) (node_parts p n)) empty_node p.nodes tt (call_arguments p resolved) f in
        let both = each_both (λ e. HasValue p e now past) HasOperands (node_parts p g) values (each_both (HasFormals p) (HasArguments p) (node_parts p g) formals arguments) in
        sites_of_parts p LacksNothing (node_parts p g) (equation_calls p Premises (AtBase p LacksNothing) (λ d c args k h inner. call_lacks_nothing d c args k h.1 inner) g g.equations both)
