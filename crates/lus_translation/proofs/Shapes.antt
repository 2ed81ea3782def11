-- The class that is made has the clocks, the calls and the memories of the node's text.
use Rattle.std.proofs.Common.{◌≡◌, ◌∙◌, ℕ, zero, suc, ◌+◌, ◌<◌, ◌≤◌, List, [], ◌∷◌, length, slice_get, refl, sym, ap, ap₂, subst, arith, ⊎_elim, not-suc-le-zero, le_of_suc-le-suc}
use Rattle.std.proofs.lemmas.Bool.{cases_lt}
use Rattle.lus_values.specs.Lists.{item, Each}
use Rattle.lus_program.specs.declared.node.Equation.{Equation as StoredEquation}
use Rattle.lus_program.specs.Programs.{Expression, literal, variable, operate, pre, arrow, when, merge, call, Operands, none, more, Variable, Node, Program, no_variable, calls, numbered, all_numbered}
use Rattle.lus_program.specs.View.{expression_of, equations_from}
use Rattle.lus_streams.specs.Clocks.{Clock, clock_of, branch_clock, parts, all_parts}
use Rattle.lus_streams.specs.Equations.{equation_clock}
use Rattle.lus_streams.specs.Order.{clock_variables}
use Rattle.lus_streams.proofs.Clocks.{chain_none}
use Rattle.lus_streams.proofs.Lists.{each_left, each_right, each_append, item_past}
use Rattle.lus_clocks.proofs.NewestTests.{clock_tail}
use Rattle.lus_classes.specs.Classes.{Memory, Class}
use Rattle.lus_classes.specs.ClassesOf.{AtomOn}
use Rattle.lus_normal_form.specs.NormalForm.{IsAtom, IsSimple, AreSimple}
use Rattle.lus_normal_form.specs.Ready.{Declared}
use Rattle.lus_normal_form.proofs.HaveFormals.{tested}
use Rattle.lus_translation.specs.Forms.{Turn, all_cells, all_clocks, cells_at, class_form, equation_cells, given_cells, turn_cells, kept_cells, all_kept_cells, numbers_form, one_clock}
use Rattle.lus_translation.specs.Laws.{IsFittingRight, ClassesHaveShape}
use Rattle.lus_translation.proofs.Codes.{On, Used, atom_on}
use Rattle.lus_translation.proofs.FittingCalls.{all_calls_belong, ready_rights_fit}

clocks_width : (f : Node) (x n : ℕ) → length (all_clocks f x n) ≡ n
clocks_width f x zero = refl
clocks_width f x (suc n) = ap suc (clocks_width f (suc x) n)

clocks_item : (f : Node) (x n i : ℕ) → i < n → item [] (all_clocks f x n) i ≡ clock_of f (x + i)
clocks_item f x zero i lt = elim (not-suc-le-zero lt) [ ]
clocks_item f x (suc n) zero lt = let same : x ≡ x + 0 = omega arith in ap (clock_of f) same
clocks_item f x (suc n) (suc i) lt = let same : suc x + i ≡ x + suc i = omega arith in clocks_item f (suc x) n i (le_of_suc-le-suc lt) ∙ ap (clock_of f) same

-- past the last variable no clock is declared
no_clock : (f : Node) (x : ℕ) → length f.variables ≤ x → clock_of f x ≡ []
no_clock f x past = chain_none (length f.variables) f.variables x (ap (λ (v : Variable). v.test) (item_past no_variable f.variables x past))

clock_found : (f : Node) (x : ℕ) → item [] (all_clocks f 0 (length f.variables)) x ≡ clock_of f x
clock_found f x =
    ⊎_elim
    (λ within. let same : 0 + x ≡ x = omega arith in clocks_item f 0 (length f.variables) x within ∙ ap (clock_of f) same)
    (λ past. item_past [] (all_clocks f 0 (length f.variables)) x (let width = clocks_width f 0 (length f.variables) in omega (arith, width, past)) ∙ sym (no_clock f x past))
    (cases_lt x (length f.variables))

inputs_alone : (f : Node) (declared : Declared f) (k : Clock) (x : ℕ) → clock_of f x ≡ k → x < f.inputs → Each (λ y. y < f.inputs) (clock_variables k)
inputs_alone f declared [] x is lt = tt
inputs_alone f declared (t ∷ k) x is lt =
    let low : t.variable < f.inputs = tested f declared x t k is lt in
    (low, inputs_alone f declared k t.variable (sym (clock_tail f declared x t k is)) low)

-- an expression without calls has no numbers
mutual
  pub simple_numbered : (n : ℕ) (e : Expression) → IsSimple (numbered n e) → numbered n e ≡ e
  simple_numbered n (literal v) s = refl
  simple_numbered n (variable x) s = refl
  simple_numbered n (operate o es) s = ap (operate o) (all_simple_numbered n es s)
  simple_numbered n (pre a) s = ap pre (atom_numbered n a s)
  simple_numbered n (arrow a b) s = ap₂ arrow (simple_numbered n a s.0) (simple_numbered (n + calls a) b s.1)
  simple_numbered n (when t a) s = ap (when t) (atom_numbered n a s)
  simple_numbered n (merge x bs) s = ap (merge x) (all_simple_numbered n bs s)
  simple_numbered n (call g i args) s = absurd s

  all_simple_numbered : (n : ℕ) (es : Operands) → AreSimple (all_numbered n es) → all_numbered n es ≡ es
  all_simple_numbered n none s = refl
  all_simple_numbered n (more e es) s = ap₂ more (simple_numbered n e s.0) (all_simple_numbered (n + calls e) es s.1)

  atom_numbered : (n : ℕ) (e : Expression) → IsAtom (numbered n e) → numbered n e ≡ e
  atom_numbered n (literal v) s = refl
  atom_numbered n (variable x) s = refl
  atom_numbered n (operate o es) s = absurd s
  atom_numbered n e s = absurd s

module _ (p : Program) (f : Node) (c : Class) where
  abbrev IsKept : Memory → Type 0
  IsKept m = AtomOn p f c m.operand m.clock

  mutual
    cells_kept : (e : Expression) (k : Clock) → IsSimple e → Each (On p f c) (parts p e k) → Each (Used p f c) (parts p e k) → Each IsKept (kept_cells e k)
    cells_kept (literal v) k s o u = tt
    cells_kept (variable x) k s o u = tt
    cells_kept (operate op es) k s o u = all_cells_kept es (one_clock k) 0 s o.1 u.1
    cells_kept (pre a) k s o u = (atom_on p f c a k s o.1 u.1, tt)
    cells_kept (arrow a b) k s o u =
        each_append IsKept (kept_cells a k) (kept_cells b k)
        (cells_kept a k s.0 (each_left (On p f c) (parts p a k) (parts p b k) o.1) (each_left (Used p f c) (parts p a k) (parts p b k) u.1))
        (cells_kept b k s.1 (each_right (On p f c) (parts p a k) (parts p b k) o.1) (each_right (Used p f c) (parts p a k) (parts p b k) u.1))
    cells_kept (when t a) k s o u = tt
    cells_kept (merge x bs) k s o u = all_cells_kept bs (branch_clock x k) 0 s o.1 u.1
    cells_kept (call g i args) k s o u = absurd s

    all_cells_kept : (es : Operands) (ks : ℕ → Clock) (m : ℕ) → AreSimple es → Each (On p f c) (all_parts p es ks m) → Each (Used p f c) (all_parts p es ks m) → Each IsKept (all_kept_cells es ks m)
    all_cells_kept none ks m s o u = tt
    all_cells_kept (more e es) ks m s o u =
        let k = ks m in
        let others = all_parts p es ks (suc m) in
        each_append IsKept (kept_cells e k) (all_kept_cells es ks (suc m))
        (cells_kept e k s.0 (each_left (On p f c) (parts p e k) others o) (each_left (Used p f c) (parts p e k) others u))
        (all_cells_kept es ks (suc m) s.1 (each_right (On p f c) (parts p e k) others o) (each_right (Used p f c) (parts p e k) others u))

  given_kept : (e : Expression) (k : Clock) (xs : List ℕ) → Each IsKept (kept_cells e k) → Each IsKept (given_cells e k xs)
  given_kept e k [] h = tt
  given_kept e k (x ∷ xs) h = each_append IsKept (kept_cells e k) (given_cells e k xs) h (given_kept e k xs h)

  -- an expression that is no call and whose form with numbers fits
  simple_kept : (n : ℕ) (e : Expression) (k : Clock) (xs : List ℕ) → IsSimple (numbered n e) → Each (On p f c) (parts p (numbered n e) k) → Each (Used p f c) (parts p (numbered n e) k) → Each IsKept (given_cells e k xs)
  simple_kept n e k xs s o u =
      let same = simple_numbered n e s in
      given_kept e k xs (subst (λ z. Each IsKept (kept_cells z k)) same (cells_kept (numbered n e) k s o u))

  turn_kept : (n : ℕ) (e : Expression) (k : Clock) (xs : List ℕ) → IsFittingRight p f (numbered n e) k → Each IsKept (turn_cells e k xs)
  turn_kept n (call g i args) k xs fit = tt
  turn_kept n (literal v) k xs fit = simple_kept n (literal v) k xs fit.0 fit.1.on_clock fit.1.known
  turn_kept n e k xs fit = simple_kept n e k xs fit.0 fit.1.on_clock fit.1.known

  equation_kept : (n : ℕ) (qs : List StoredEquation) (i : ℕ) (xs : List ℕ) → Each (λ q. IsFittingRight p f q.right (equation_clock f q)) (equations_from n qs) → Each IsKept (equation_cells f (slice_get qs i) xs)
  equation_kept n [] i xs fit = tt
  equation_kept n (q ∷ qs) zero xs fit = turn_kept n (expression_of q.right) (clock_of f (item 0 q.targets.items 0)) xs fit.0
  equation_kept n (q ∷ qs) (suc i) xs fit = equation_kept (n + calls (expression_of q.right)) qs i xs fit.1

  all_kept : (qs : List StoredEquation) (numbers : List ℕ) (ts : List Turn) → Each (λ q. IsFittingRight p f q.right (equation_clock f q)) (equations_from 0 qs) → Each IsKept (all_cells p f qs numbers ts)
  all_kept qs numbers [] fit = tt
  all_kept qs numbers (t ∷ ts) fit =
      each_append IsKept (cells_at p f qs numbers t) (all_cells p f qs numbers ts) (equation_kept 0 qs t.equation t.variables fit) (all_kept qs numbers ts fit)

pub classes_have_shape : ClassesHaveShape
classes_have_shape p f r qs is ts =
    let c = class_form p f qs (numbers_form 0 qs) ts in
    record {
      inputs = refl;
      narrow = r.named.inputs;
      width = clocks_width f 0 (length f.variables);
      clocks = clock_found f;
      input_clocks = λ x lt. inputs_alone f r.on_clocks.declared (clock_of f x) x refl lt;
      calls = all_calls_belong p f c r;
      memories = all_kept p f c qs (numbers_form 0 qs) ts (subst (Each (λ q. IsFittingRight p f q.right (equation_clock f q))) is (ready_rights_fit p f r));
    }
