-- The calls that are made belong to those of the text.
use Rattle.std.proofs.Common.{◌≡◌, ◌∙◌, ℕ, suc, ◌+◌, ◌<◌, ◌≤◌, List, [], ◌∷◌, ◌++◌, length, refl, sym, ap, subst, arith, ⊎_elim}
use Rattle.std.proofs.lemmas.Bool.{cases_lt}
use Rattle.lus_values.specs.Lists.{Each}
use Rattle.lus_program.specs.Programs.{Expression, literal, call, Operands, none, more, Equation, Node, Program, node_at}
use Rattle.lus_streams.specs.Clocks.{Clock, clock_of, operand, formal_clock, base_of, Part, parts, all_parts}
use Rattle.lus_streams.specs.Equations.{equation_clock, equation_parts, Site, sites_in}
use Rattle.lus_streams.specs.OnClock.{IsName, RightOnClock}
use Rattle.lus_streams.proofs.Lists.{each_left, each_right}
use Rattle.lus_clocks.proofs.NewestTests.{clock_tail}
use Rattle.lus_classes.specs.Classes.{Call, Class}
use Rattle.lus_classes.specs.ClassesOf.{AreArguments, Linked, IsCall, AreCalls}
use Rattle.lus_normal_form.specs.NormalForm.{AreAtoms, IsSimple, IsSimpleRight}
use Rattle.lus_normal_form.specs.Named.{Known, GivesOutput, Uses, Numbered}
use Rattle.lus_normal_form.specs.Computed.{HaveFormals}
use Rattle.lus_normal_form.specs.Ready.{Declared, HasArguments, RightHasFormals, operand_size}
use Rattle.lus_normal_form.proofs.SimpleForms.{atoms_none, simple_none}
use Rattle.lus_normal_form.proofs.HaveFormals.{all_declared, tested}
use Rattle.lus_translation.specs.Forms.{arguments_form, call_form, call_first, calls_form}
use Rattle.lus_translation.specs.Laws.{IsFittingCall, IsFittingRight, CallsBelong, ReadyRightsFit, AllCallsBelong}
use Rattle.lus_translation.proofs.Codes.{On, Used, atom_same, atom_on}

-- an input is tested by inputs, and what follows its test is that input's clock
module _ (g : Node) (declared : Declared g) where
  linked : (p : Program) (f : Node) (c : Class) (args : Operands) (k : Clock) (m : ℕ) → clock_of g m ≡ k → m < g.inputs → Each (λ t. IsName (operand args t.variable)) k → Linked p f c g args k
  linked p f c args [] m is lt h = tt
  linked p f c args (t ∷ k) m is lt h =
      let low : t.variable < g.inputs = tested g declared m t k is lt in
      let rest = clock_tail g declared m t k is in
      (low, h.0, rest, linked p f c args k t.variable (sym rest) low h.1)

-- arguments for all formals have names for what the clocks of these test
formal_names : (g : Node) (args es : Operands) (m : ℕ) → HaveFormals g args es m → (x : ℕ) → m ≤ x → x < m + operand_size es → Each (λ t. IsName (operand args t.variable)) (clock_of g x)
formal_names g args none m h x le lt = absurd (omega (arith, le, lt))
formal_names g args (more e es) m h x le lt =
    ⊎_elim
    (λ later. formal_names g args es (suc m) h.2 x later (omega (arith, lt)))
    (λ here. let same : m ≡ x = omega (arith, le, here) in subst (λ y. Each (λ t. IsName (operand args t.variable)) (clock_of g y)) same h.1)
    (cases_lt m x)

arguments_size : (es : Operands) (g : Node) (args : Operands) (base : Clock) (m : ℕ) → length (arguments_form es g args base m) ≡ operand_size es
arguments_size none g args base m = refl
arguments_size (more e es) g args base m = ap suc (arguments_size es g args base (suc m))

module _ (p : Program) (f : Node) (c : Class) where
  are_arguments : (es : Operands) (g : Node) (args : Operands) (base : Clock) (m : ℕ) → AreAtoms es → Each (On p f c) (all_parts p es (formal_clock g args base) m) → Each (Used p f c) (all_parts p es (formal_clock g args base) m)
      → AreArguments p f c es (arguments_form es g args base m) g args base m
  are_arguments none g args base m s o u = tt
  are_arguments (more e es) g args base m s o u =
      let k = formal_clock g args base m in
      let rest = all_parts p es (formal_clock g args base) (suc m) in (
        atom_same e s.0,
        refl,
        atom_on p f c e k s.0 (each_left (On p f c) (parts p e k) rest o) (each_left (Used p f c) (parts p e k) rest u),
        are_arguments es g args base (suc m) s.1 (each_right (On p f c) (parts p e k) rest o) (each_right (Used p f c) (parts p e k) rest u),
      )

  is_call : (g n : ℕ) (args : Operands) (k : Clock) → IsFittingCall p f g args (base_of (node_at p g) k)
      → IsCall p f c (record { node = g; number = n; args = args; base = base_of (node_at p g) k }) (call_form p g args k) n
  is_call g n args k h =
      let base = base_of (node_at p g) k in
      let callee = node_at p g in
      record {
        number = refl;
        node = refl;
        base = refl;
        arguments = are_arguments args callee args base 0 h.atoms h.on_clock h.known;
        arity = arguments_size args callee args base 0 ∙ h.size;
        linked = λ x lt. linked callee h.declared p f c args (clock_of callee x) x refl lt (formal_names callee args args 0 h.formals x (omega arith) (let size = h.size in omega (arith, lt, size)));
      }

pub calls_belong : CallsBelong
calls_belong p f c s k same h =
    let h' = subst (IsFittingCall p f s.node s.args) same h in
    subst (λ b. IsCall p f c (record { node = s.node; number = s.number; args = s.args; base = b }) (call_form p s.node s.args k) s.number) (sym same) (is_call p f c s.node s.number s.args k h')

module _ (p : Program) (f : Node) where
  simple_fits : (e : Expression) (k : Clock) → IsSimple e → RightOnClock p f (parts p e k) → Each (Uses (Known f) (GivesOutput p f)) (parts p e k) → IsFittingRight p f e k
  simple_fits (call g n args) k s o u = absurd s
  simple_fits (literal v) k s o u = (s, record { on_clock = o; known = u })
  simple_fits e k s o u = (s, record { on_clock = o; known = u })

  right_fits : (callees : (g : ℕ) → Declared (node_at p g)) (e : Expression) (k : Clock) → IsSimpleRight e → RightOnClock p f (parts p e k) → Each (Uses (Known f) (GivesOutput p f)) (parts p e k)
      → Each (HasArguments p) (parts p e k) → RightHasFormals p e → IsFittingRight p f e k
  right_fits callees (call g n args) k s o u has formals = record { atoms = s; on_clock = o; known = u.1; size = has.0; formals = formals; declared = callees g }
  right_fits callees (literal v) k s o u has formals = simple_fits (literal v) k s o u
  right_fits callees e k s o u has formals = simple_fits e k s o u

  rights_fit : (callees : (g : ℕ) → Declared (node_at p g)) (qs : List Equation) → Each (λ q. IsSimpleRight q.right) qs → Each (λ q. RightOnClock p f (parts p q.right (equation_clock f q))) qs
      → Each (Uses (Known f) (GivesOutput p f)) (equation_parts p f qs) → Each (HasArguments p) (equation_parts p f qs) → Each (λ q. RightHasFormals p q.right) qs → Each (λ q. IsFittingRight p f q.right (equation_clock f q)) qs
  rights_fit callees [] s o u has formals = tt
  rights_fit callees (q ∷ qs) s o u has formals =
      let here = parts p q.right (equation_clock f q) in
      let rest = equation_parts p f qs in (
        right_fits callees q.right (equation_clock f q) s.0 o.0 (each_left (Uses (Known f) (GivesOutput p f)) here rest u) (each_left (HasArguments p) here rest has) formals.0,
        rights_fit callees qs s.1 o.1 (each_right (Uses (Known f) (GivesOutput p f)) here rest u) (each_right (HasArguments p) here rest has) formals.1,
      )

pub ready_rights_fit : ReadyRightsFit
ready_rights_fit p f r = rights_fit p f (all_declared p r.callees) f.equations r.simple r.on_clocks.rights r.named.uses r.arguments r.formals

module _ (p : Program) (f : Node) (c : Class) where
  -- what the calls of later parts belong to, whatever their first number
  abbrev Later : List Part → List Call → Type 0
  Later rest qs = (m : ℕ) → Numbered m (sites_in p rest) → AreCalls p f c (sites_in p rest) qs m

  skipped : (e : Expression) (k : Clock) (n : ℕ) (rest : List Part) (qs : List Call) → IsSimple e → Numbered n (sites_in p (parts p e k ++ rest)) → Later rest qs → AreCalls p f c (sites_in p (parts p e k ++ rest)) qs n
  skipped e k n rest qs s h later =
      let none_here = simple_none p e k s rest in
      subst (λ ss. AreCalls p f c ss qs n) (sym none_here) (later n (subst (Numbered n) none_here h))

  one_first : (e : Expression) (k : Clock) (n : ℕ) (rest : List Part) (qs : List Call) → IsFittingRight p f e k → Numbered n (sites_in p (parts p e k ++ rest)) → Later rest qs
      → AreCalls p f c (sites_in p (parts p e k ++ rest)) (call_first p e k qs) n
  one_first (call g i args) k n rest qs fit h later =
      let base = base_of (node_at p g) k in
      let none_here = atoms_none p args (formal_clock (node_at p g) args base) 0 fit.atoms rest in
      let s : Site = record { node = g; number = i; args = args; base = base } in (
        subst (IsCall p f c s (call_form p g args k)) h.0 (is_call p f c g i args k fit),
        subst (λ ss. AreCalls p f c ss qs (suc n)) (sym none_here) (later (suc n) (subst (Numbered (suc n)) none_here h.1)),
      )
  one_first (literal v) k n rest qs fit h later = skipped (literal v) k n rest qs fit.0 h later
  one_first e k n rest qs fit h later = skipped e k n rest qs fit.0 h later

  all_first : (qs : List Equation) → Each (λ q. IsFittingRight p f q.right (equation_clock f q)) qs → Later (equation_parts p f qs) (calls_form p f qs)
  all_first [] fit n h = tt
  all_first (q ∷ qs) fit n h = one_first q.right (equation_clock f q) n (equation_parts p f qs) (calls_form p f qs) fit.0 h (all_first qs fit.1)

pub all_calls_belong : AllCallsBelong
all_calls_belong p f c r = all_first p f c f.equations (ready_rights_fit p f r) 0 r.named.numbered
