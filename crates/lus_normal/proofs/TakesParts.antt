-- What the code takes out of a right side on clocks is what its normal form takes out.
use Rattle.std.proofs.Common.{◌≡◌, ◌∙◌, ap, sym, refl, subst, ℕ, zero, suc, ◌+◌, Bool, true, false, cond, List, [], ◌∷◌, ◌++◌, drop, length, map, Option, Some, None}
use Rattle.std.proofs.Math.Logic.{inr}
use Rattle.lus_values.specs.Lists.{item, Each}
use Rattle.lus_values.specs.declared.test.Test.{Test}
use Rattle.lus_program.specs.declared.node.Equation.{Equation as StoredEquation}
use Rattle.lus_program.specs.Programs.{Expression, literal, variable, operate, pre, arrow, when, merge, call, Operands, none, more, calls, numbered, all_numbered, Node, Program, node_at}
use Rattle.lus_program.specs.View.{expression_of, equations_from}
use Rattle.lus_streams.specs.Clocks.{Clock, clock_of, Part, at, operand, formal_clock, base_of, branch_clock, parts, all_parts}
use Rattle.lus_streams.specs.Equations.{equation_clock}
use Rattle.lus_streams.specs.OnClock.{test_of, PartOnClock, RightOnClock}
use Rattle.lus_streams.proofs.Lists.{each_left, each_right}
use Rattle.lus_streams.proofs.Clocks.{actuals_none}
use Rattle.lus_clocks.specs.Fitting.{clock_from, base_test, name_of, names_in, renamed_first}
use Rattle.lus_clocks.proofs.NewestTests.{clock_is, without_tests_is}
use Rattle.lus_clocks.proofs.CallClocks.{Named, formal_is}
use Rattle.lus_clocks.proofs.NamedFormals.{none_some}
use Rattle.lus_normal_form.proofs.OneTest.{call_clock}
use Rattle.lus_normal_form.specs.Forms.{Position, Inside, Operand, is_taken}
use Rattle.lus_normal_form.specs.Nodes.{newest_test, part_test}
use Rattle.lus_normal_form.specs.Parts.{right_taken, operands_taken, taken, equations_taken}
use Rattle.lus_normal_form.proofs.Counted.{map_append}
use Rattle.lus_normal_form.proofs.Numbers.{taken_numbered}
use Rattle.lus_normal.specs.Forms.{Taken, branch_test, argument_test, right_takes, operands_takes, takes}
use Rattle.lus_normal.specs.Laws.{TestsAreNewest, equations_take}
use Rattle.lus_normal_form.specs.Ready.{Declared}
use Rattle.lus_normal_form.proofs.HaveFormals.{all_declared}

name_at : (n : ℕ) (es : Operands) (m : ℕ) → names_in (all_numbered n es) m ≡ names_in es m
name_at n none m = refl
name_at n (more (variable x) es) zero = refl
name_at n (more e es) zero = refl
name_at n (more e es) (suc m) = name_at (n + calls e) es m

-- numbers of calls leave the names of arguments
names_numbered : (n : ℕ) (es : Operands) → names_in (all_numbered n es) ≡ names_in es
names_numbered n es = λ i m. name_at n es m i

abbrev tests : List Taken → List (Option Test)
tests ts = map (λ t. t.test) ts

abbrev part_tests : List Part → List (Option Test)
part_tests = map part_test

named_variable : (e : Expression) (y : ℕ) → name_of e ≡ Some y → e ≡ variable y
named_variable (variable x) y h = cc
named_variable _ y h = absurd (none_some h)

module _ (p : Program) (f : Node) (declared : Declared f) (callees : (g : ℕ) → Declared (node_at p g)) where
  abbrev OnClock : List Part → Type 0
  OnClock = Each (PartOnClock p f)

  abbrev R : Expression → Option Test → List Taken
  R = right_takes p f

  abbrev T : Expression → Clock → List Part
  T = right_taken p

  abbrev left_of : (xs ys : List Part) → OnClock (xs ++ ys) → OnClock xs
  left_of = each_left (PartOnClock p f)

  abbrev right_of : (xs ys : List Part) → OnClock (xs ++ ys) → OnClock ys
  right_of = each_right (PartOnClock p f)

  formals : (g : ℕ) (args : Operands) (o : Option Test) (k : Clock) → clock_from f o ≡ k → OnClock (all_parts p args (formal_clock (node_at p g) args (base_of (node_at p g) k)) 0)
      → (m : ℕ) → clock_from f (renamed_first (names_in args) (clock_of (node_at p g) m) (base_test f (node_at p g) o)) ≡ formal_clock (node_at p g) args (base_of (node_at p g) k) m
  formals g args o k c on m =
      let called = node_at p g in
      let base = base_test f called o in
      let on_base : clock_from f base ≡ base_of called k = without_tests_is f declared (length (clock_of called called.inputs)) o ∙ ap (base_of called) c in
      let named : Named f args called base = (λ m y e. inr (call_clock p f called args (base_of called k) on m y (named_variable (operand args m) y e) ∙ ap (λ b. formal_clock called args b m) (sym on_base))) in
      formal_is f declared args called (callees g) base named m ∙ ap (λ b. formal_clock called args b m) on_base

  whole : (e : Expression) (k : Clock) → OnClock (parts p e k) → RightOnClock p f (parts p e k)
  whole (call g n args) k on = on.1
  whole (literal v) k on = on
  whole e k on = on

  newest : (o : Option Test) → newest_test (clock_from f o) ≡ o
  newest None = refl
  newest (Some t) = refl

  -- the tests of what is taken out of an expression are the newest of the clocks of what is taken out of it with its calls numbered
  abbrev Same : ℕ → Expression → Option Test → Clock → Type 0
  Same m e o k = tests (R e o) ≡ part_tests (T (numbered m e) k)

  one : (here : Position) (m : ℕ) (e : Expression) (o : Option Test) (k : Clock) → clock_from f o ≡ k → Same m e o k
      → tests (takes p f here e o) ≡ part_tests (taken p here (numbered m e) k)
  one here m e o k c h = choose (is_taken here e) ∙ ap both (sym (taken_numbered here m e))
    where
      both : Bool → List (Option Test)
      both b = part_tests (cond b (at k (numbered m e) ∷ T (numbered m e) k) (T (numbered m e) k))

      choose : (b : Bool) → tests (cond b (record { test = o; operand = e } ∷ R e o) (R e o)) ≡ both b
      choose true = let test : o ≡ newest_test k = sym (newest o) ∙ ap newest_test c in λ i. test i ∷ h i
      choose false = h

  -- one before others
  first : (here : Position) (m : ℕ) (e : Expression) (o : Option Test) (k : Clock) (ts : List Taken) (us : List Part)
      → clock_from f o ≡ k → Same m e o k → tests ts ≡ part_tests us
      → tests (takes p f here e o ++ ts) ≡ part_tests (taken p here (numbered m e) k ++ us)
  first here m e o k ts us c h l =
      map_append (λ (t : Taken). t.test) (takes p f here e o) ts
      ∙ (λ i. one here m e o k c h i ++ l i)
      ∙ sym (map_append part_test (taken p here (numbered m e) k) us)

  mutual
    right_tests : (m : ℕ) (e : Expression) (o : Option Test) (k : Clock)
        → clock_from f o ≡ k → RightOnClock p f (parts p (numbered m e) k) → Same m e o k
    right_tests m (literal v) o k c on = refl
    right_tests m (variable x) o k c on = refl
    right_tests m (operate op es) o k c on = operands_tests Inside m es (λ i. o) (λ i. k) (λ i. c) 0 on.1
    right_tests m (pre a) o k c on = one Operand m a o k c (right_tests m a o k c (whole (numbered m a) k on.1))
    right_tests m (arrow a b) o k c on =
        let n = m + calls a in
        let a' = numbered m a in
        let b' = numbered n b in
        let left = left_of (parts p a' k) (parts p b' k) on.1 in
        let right = right_of (parts p a' k) (parts p b' k) on.1 in
        first Inside m a o k (takes p f Inside b o) (taken p Inside b' k) c (right_tests m a o k c (whole a' k left))
        (one Inside n b o k c (right_tests n b o k c (whole b' k right)))
    right_tests m (when t a) o k c on =
        let u = test_of f t.variable in
        let inside : clock_from f u ≡ drop 1 k = sym (clock_is f declared t.variable) ∙ sym (ap (drop 1) on.0) in
        one Operand m a u (drop 1 k) inside (right_tests m a u (drop 1 k) inside (whole (numbered m a) (drop 1 k) on.1))
    right_tests m (merge x bs) o k c on =
        let own : (i : ℕ) → clock_from f (branch_test x i) ≡ branch_clock x k i = (λ i. ap (λ l. branch_clock x l i) on.0) in
        operands_tests Inside m bs (branch_test x) (branch_clock x k) own 0 on.1
    right_tests m (call g n args) o k c on =
        let called = node_at p g in
        let base = base_test f called o in
        let args' = all_numbered (suc m) args in
        let names = ap names_in (actuals_none args) ∙ sym (names_numbered (suc m) args) in
        let os = argument_test called (names_in args') base in
        let ks = formal_clock called args' (base_of called k) in
        ap (λ own. tests (operands_takes p f Operand args (argument_test called own base) 0)) names
        ∙ operands_tests Operand (suc m) args os ks (formals g args' o k c on) 0 on

    operands_tests : (here : Position) (m : ℕ) (es : Operands) (os : ℕ → Option Test) (ks : ℕ → Clock)
        → ((i : ℕ) → clock_from f (os i) ≡ ks i) → (i : ℕ) → OnClock (all_parts p (all_numbered m es) ks i)
        → tests (operands_takes p f here es os i) ≡ part_tests (operands_taken p here (all_numbered m es) ks i)
    operands_tests here m none os ks cs i on = refl
    operands_tests here m (more e es) os ks cs i on =
        let n = m + calls e in
        let e' = numbered m e in
        let es' = all_numbered n es in
        let rest = all_parts p es' ks (suc i) in
        first here m e (os i) (ks i) (operands_takes p f here es os (suc i)) (operands_taken p here es' ks (suc i)) (cs i)
        (right_tests m e (os i) (ks i) (cs i) (whole e' (ks i) (left_of (parts p e' (ks i)) rest on)))
        (operands_tests here n es os ks cs (suc i) (right_of (parts p e' (ks i)) rest on))

  equation_tests : (n : ℕ) (qs : List StoredEquation)
      → Each (λ q. RightOnClock p f (parts p q.right (equation_clock f q))) (equations_from n qs)
      → tests (equations_take p f qs) ≡ part_tests (equations_taken p f (equations_from n qs))
  equation_tests n [] on = refl
  equation_tests n (q ∷ qs) on =
      let raw = expression_of q.right in
      let e = numbered n raw in
      let x = item 0 q.targets.items 0 in
      let o = test_of f x in
      let k = clock_of f x in
      let m = n + calls raw in
      let here = right_tests n raw o k (sym (clock_is f declared x)) on.0 in
      map_append (λ (t : Taken). t.test) (R raw o) (equations_take p f qs)
      ∙ (λ i. here i ++ equation_tests m qs on.1 i)
      ∙ sym (map_append part_test (T e k) (equations_taken p f (equations_from m qs)))

pub tests_are_newest : TestsAreNewest
tests_are_newest p on_clocks f h qs e =
    let rights = subst (Each (λ q. RightOnClock p f (parts p q.right (equation_clock f q)))) e h.rights in
    equation_tests p f h.declared (all_declared p on_clocks) 0 qs rights
    ∙ ap (λ rs. part_tests (equations_taken p f rs)) (sym e)
