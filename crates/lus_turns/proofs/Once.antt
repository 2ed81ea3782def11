-- Each call of a class whose equations have turns of their own is made once.
use Rattle.std.proofs.Common.{◌≡◌, ◌∙◌, ℕ, zero, suc, List, [], ◌∷◌, ◌++◌, Option, Some, None, slice_get, refl, sym, ap, subst, arith, ⊎_elim}
use Rattle.std.proofs.lemmas.Option.{slice_get_within}
use Rattle.lus_values.specs.Lists.{item, Each}
use Rattle.lus_program.specs.declared.node.Equation.{Equation as StoredEquation}
use Rattle.lus_program.specs.Programs.{Expression, literal, call, Node, Program, node_at}
use Rattle.lus_program.specs.View.{expression_of}
use Rattle.lus_streams.proofs.Lists.{each_append}
use Rattle.lus_classes.specs.Classes.{Step}
use Rattle.lus_classes.specs.Turns.{AreMaking, AreOnce}
use Rattle.lus_instructions.specs.declared.class.Step.{Step as StoredStep}
use Rattle.lus_instructions.specs.declared.class.Step.TheVariants as steps
use Rattle.lus_translation.specs.Forms.{Turn, all_calls, answers_form, calls_at, calls_with, equation_calls, next_number, numbers_form, turn_calls}
use Rattle.lus_translation.specs.Making.{calls_made}
use Rattle.lus_translation.specs.Orders.{AreApart}
use Rattle.lus_turns.proofs.CallNumbers.{calls_before, number_at}
use Rattle.lus_turns.proofs.CallPlaces.{IsCalling, IsRightSide}

abbrev Differs : ℕ → ℕ → Type 0
Differs n m = n ≡ m → ⊥

abbrev AreDistinct : List ℕ → Type 0
AreDistinct [] = Unit {0}
AreDistinct (n ∷ ns) = Each (Differs n) ns × AreDistinct ns

distinct_more : (ns : List ℕ) (n : ℕ) → AreDistinct ns → Each (λ m. Differs m n) ns → AreDistinct (ns ++ n ∷ [])
distinct_more [] n h all = (tt, tt)
distinct_more (m ∷ ns) n h all = (each_append (Differs m) ns (n ∷ []) h.0 (all.0, tt), distinct_more ns n h.1 all.1)

-- steps that make distinct calls make each once
not_made : (n : ℕ) (ss : List StoredStep) → Each (Differs n) (calls_made ss) → AreMaking n ss → ⊥
not_made n [] all h = h
not_made n (steps.Give x d ∷ ss) all h = ⊎_elim (λ here. here) (λ rest. not_made n ss all rest) h
not_made n (steps.Call m ts ∷ ss) all h = ⊎_elim (λ here. all.0 here) (λ rest. not_made n ss all.1 rest) h

are_once : (ss : List StoredStep) → AreDistinct (calls_made ss) → AreOnce ss
are_once [] h = tt
are_once (steps.Give x d ∷ ss) h = are_once ss h
are_once (steps.Call n ts ∷ ss) h = (λ made. not_made n ss h.0 made, are_once ss h.1)

called_one : (e : Expression) → IsCalling e → next_number 0 e ≡ 1
called_one e is = ap (next_number 0) is.same

-- a call is the right side of one equation
same_place_of : (qs : List StoredEquation) (i j : ℕ) (q r : StoredEquation) → slice_get qs i ≡ Some q → slice_get qs j ≡ Some r → IsCalling (expression_of q.right) → IsCalling (expression_of r.right)
    → calls_before qs i ≡ calls_before qs j → i ≡ j
same_place_of [] i j q r here there a b same = cc
same_place_of (s ∷ qs) zero zero q r here there a b same = refl
same_place_of (s ∷ qs) zero (suc j) q r here there a b same =
    let is : s ≡ q = cc in
    let one = called_one (expression_of s.right) (subst (λ z. IsCalling (expression_of z.right)) (sym is) a) in
    absurd (omega (arith, one, same))
same_place_of (s ∷ qs) (suc i) zero q r here there a b same =
    let is : s ≡ r = cc in
    let one = called_one (expression_of s.right) (subst (λ z. IsCalling (expression_of z.right)) (sym is) b) in
    absurd (omega (arith, one, same))
same_place_of (s ∷ qs) (suc i) (suc j) q r here there a b same =
    ap suc (same_place_of qs i j q r here there a b (let both = same in omega (arith, both)))

same_place : (qs : List StoredEquation) (n m : ℕ) (a : IsRightSide qs n) (b : IsRightSide qs m) → n ≡ m → a.place ≡ b.place
same_place qs n m a b same =
    same_place_of qs a.place b.place a.stored b.stored a.here b.here a.right b.right (let before = a.before in let after = b.before in omega (arith, before, after, same))

module _ (p : Program) (f : Node) (qs : List StoredEquation) where
  -- a call of none of these turns
  record IsNoneOf (ts : List Turn) (n : ℕ) : Type 0 where
    side : IsRightSide qs n
    apart : Each (λ u. side.place ≡ u.equation → ⊥) ts

  -- calls of other turns, each made once
  record AreOthers (ts : List Turn) (made : List ℕ) : Type 0 where
    distinct : AreDistinct made
    others : Each (IsNoneOf ts) made

  behind : (t : Turn) (ts : List Turn) (made : List ℕ) → Each (IsNoneOf (t ∷ ts)) made → Each (IsNoneOf ts) made
  behind t ts [] h = tt
  behind t ts (n ∷ made) h = (record { side = h.0.side; apart = h.0.apart.1 }, behind t ts made h.1)

  differ : (t : Turn) (ts : List Turn) (n : ℕ) (own : IsRightSide qs n) → own.place ≡ t.equation → (made : List ℕ) → Each (IsNoneOf (t ∷ ts)) made → Each (λ m. Differs m n) made
  differ t ts n own at [] h = tt
  differ t ts n own at (m ∷ made) h = (λ same. h.0.apart.0 (same_place qs m n h.0.side own same ∙ at), differ t ts n own at made h.1)

  more : (t : Turn) (ts : List Turn) (made : List ℕ) (n : ℕ) (own : IsRightSide qs n) → own.place ≡ t.equation → Each (λ u. t.equation ≡ u.equation → ⊥) ts → AreOthers (t ∷ ts) made
      → AreOthers ts (made ++ n ∷ [])
  more t ts made n own at apart h =
      record {
        distinct = distinct_more made n h.distinct (differ t ts n own at made h.others);
        others = each_append (IsNoneOf ts) made (n ∷ []) (behind t ts made h.others)
            (record { side = own; apart = subst (λ e. Each (λ u. e ≡ u.equation → ⊥) ts) (sym at) apart }, tt);
      }

  less : (t : Turn) (ts : List Turn) (made : List ℕ) → AreOthers (t ∷ ts) made → AreOthers ts made
  less t ts made h = record { distinct = h.distinct; others = behind t ts made h.others }

  with_steps : (t : Turn) (ts : List Turn) (made : List ℕ) (n : ℕ) (ss : List Step) (own : IsRightSide qs n) → own.place ≡ t.equation → Each (λ u. t.equation ≡ u.equation → ⊥) ts
      → AreOthers (t ∷ ts) made → AreOthers ts (calls_with made n ss)
  with_steps t ts made n [] own at apart h = less t ts made h
  with_steps t ts made n (s ∷ ss) own at apart h = more t ts made n own at apart h

  with_right : (t : Turn) (ts : List Turn) (made : List ℕ) (n : ℕ) (q : StoredEquation) (e : Expression) (targets : List ℕ) → slice_get qs t.equation ≡ Some q → expression_of q.right ≡ e
      → calls_before qs t.equation ≡ n → Each (λ u. t.equation ≡ u.equation → ⊥) ts → AreOthers (t ∷ ts) made → AreOthers ts (turn_calls p made n e targets t.variables)
  with_right t ts made n q (call g i args) targets here is before apart h =
      with_steps t ts made n (answers_form n (node_at p g).inputs targets t.variables)
      (record { place = t.equation; stored = q; here = here; right = record { node = g; number = i; args = args; same = is }; before = before }) refl apart h
  with_right t ts made n q (literal v) targets here is before apart h = less t ts made h
  with_right t ts made n q e targets here is before apart h = less t ts made h

  with_equation : (t : Turn) (ts : List Turn) (made : List ℕ) (o : Option StoredEquation) → slice_get qs t.equation ≡ o → Each (λ u. t.equation ≡ u.equation → ⊥) ts → AreOthers (t ∷ ts) made
      → AreOthers ts (equation_calls p made (item 0 (numbers_form 0 qs) t.equation) o t.variables)
  with_equation t ts made None here apart h = less t ts made h
  with_equation t ts made (Some q) here apart h =
      let at = number_at 0 qs t.equation (slice_get_within qs t.equation q here) in
      with_right t ts made (item 0 (numbers_form 0 qs) t.equation) q (expression_of q.right) q.targets.items here refl (omega (arith, at)) apart h

  all_others : (ts : List Turn) (made : List ℕ) → AreApart ts → AreOthers ts made → AreDistinct (all_calls p f qs (numbers_form 0 qs) made ts)
  all_others [] made apart h = h.distinct
  all_others (t ∷ ts) made apart h =
      all_others ts (calls_at p f qs (numbers_form 0 qs) made t) apart.1 (with_equation t ts made (slice_get qs t.equation) refl apart.0 h)

  -- the steps that are made in turns make each call once
  pub made_once : (ts : List Turn) (ss : List StoredStep) → AreApart ts → calls_made ss ≡ all_calls p f qs (numbers_form 0 qs) [] ts → AreOnce ss
  made_once ts ss apart is = are_once ss (subst AreDistinct (sym is) (all_others ts [] apart (record { distinct = tt; others = tt })))
