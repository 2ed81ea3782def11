-- Each call of a class in normal form is the right side of an equation.
use Rattle.std.proofs.Common.{◌≡◌, ℕ, zero, suc, ◌+◌, ◌<◌, List, [], ◌∷◌, length, Some, slice_get, refl, sym, subst, arith, not-suc-le-zero, le_of_suc-le-suc}
use Rattle.lus_values.specs.Lists.{item, Each}
use Rattle.lus_program.specs.declared.node.Equation.{Equation as StoredEquation}
use Rattle.lus_program.specs.Programs.{Expression, literal, call, Operands, Node, Program, calls}
use Rattle.lus_program.specs.View.{expression_of, equations_from}
use Rattle.lus_streams.specs.Clocks.{Clock, clock_of}
use Rattle.lus_classes.specs.Classes.{Call}
use Rattle.lus_normal_form.specs.NormalForm.{IsSimpleRight}
use Rattle.lus_translation.specs.Forms.{call_first, next_number, numbers_form}
use Rattle.lus_translation.proofs.Numbered.{stored_calls}
use Rattle.lus_turns.proofs.CallNumbers.{calls_before, next_is, right_calls}
use Rattle.lus_turns.proofs.StoredEquations.{numbered_equation}

-- an expression is a call
pub record IsCalling (e : Expression) : Type 0 where
  pub node : ℕ
  pub number : ℕ
  pub args : Operands
  pub same : e ≡ call node number args

-- call n is the right side of the equation at a place
pub record IsRightSide (qs : List StoredEquation) (n : ℕ) : Type 0 where
  pub place : ℕ
  pub stored : StoredEquation
  pub here : slice_get qs place ≡ Some stored
  pub right : IsCalling (expression_of stored.right)
  pub before : calls_before qs place ≡ n

later : (q : StoredEquation) (qs : List StoredEquation) (n m : ℕ) → next_number 0 (expression_of q.right) + n ≡ m → IsRightSide qs n → IsRightSide (q ∷ qs) m
later q qs n m e r =
    record {
      place = suc r.place;
      stored = r.stored;
      here = r.here;
      right = r.right;
      before = (let same = r.before in omega (arith, same, e));
    }

module _ (p : Program) (k : Clock) (q : StoredEquation) (qs : List StoredEquation) (cs : List Call) (rest : (m : ℕ) → m < length cs → IsRightSide qs m) where
  unchanged : (e : Expression) → expression_of q.right ≡ e → next_number 0 e ≡ 0 → (n : ℕ) → n < length cs → IsRightSide (q ∷ qs) n
  unchanged e is none n lt =
      let counted : next_number 0 (expression_of q.right) ≡ 0 = subst (λ d. next_number 0 d ≡ 0) (sym is) none in
      later q qs n n (omega (arith, counted)) (rest n lt)

  found_in : (e : Expression) → expression_of q.right ≡ e → (n : ℕ) → n < length (call_first p e k cs) → IsRightSide (q ∷ qs) n
  found_in (call g i args) is zero lt = record { place = 0; stored = q; here = refl; right = record { node = g; number = i; args = args; same = is }; before = refl }
  found_in (call g i args) is (suc n) lt =
      let counted : next_number 0 (expression_of q.right) ≡ 1 = subst (λ d. next_number 0 d ≡ 1) (sym is) refl in
      later q qs n (suc n) (omega (arith, counted)) (rest n (le_of_suc-le-suc lt))
  found_in (literal v) is n lt = unchanged (literal v) is refl n lt
  found_in e is n lt = unchanged e is refl n lt

pub call_place : (p : Program) (f : Node) (qs : List StoredEquation) (n : ℕ) → n < length (stored_calls p f qs) → IsRightSide qs n
call_place p f [] n lt = elim (not-suc-le-zero lt) [ ]
call_place p f (q ∷ qs) n lt =
    found_in p (clock_of f (item 0 q.targets.items 0)) q qs (stored_calls p f qs) (λ m less. call_place p f qs m less) (expression_of q.right) refl n lt

-- the equation that is stored at a place, with the number of its call
pub equation_at : (n : ℕ) (qs : List StoredEquation) (i : ℕ) (q : StoredEquation) → Each (λ r. IsSimpleRight r.right) (equations_from n qs) → slice_get qs i ≡ Some q
    → slice_get (equations_from n qs) i ≡ Some (numbered_equation (item 0 (numbers_form n qs) i) q)
equation_at n [] i q simple here = cc
equation_at n (r ∷ qs) zero q simple here = cc
equation_at n (r ∷ qs) (suc i) q simple here =
    let e = expression_of r.right in
    let rest = equation_at (n + calls e) qs i q simple.1 here in
    let counted = right_calls n e simple.0 in
    let next = next_is n e in
    let number : n + calls e ≡ next_number n e = omega (arith, counted, next) in
    subst (λ m. slice_get (equations_from (n + calls e) qs) i ≡ Some (numbered_equation (item 0 (numbers_form m qs) i) q)) number rest
