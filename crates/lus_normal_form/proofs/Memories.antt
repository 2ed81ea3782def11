-- The memories, marks of a first instant and calls of the normal form of a right side, and of what is taken out of it, are those
-- of the right side.
use Rattle.std.proofs.Common.{◌≡◌, ap, ℕ, suc, ◌+◌, Bool, true, false, cond, List, [], ◌∷◌, ◌++◌, length, refl, subst, arith}
use Rattle.lus_program.specs.Programs.{Expression, literal, variable, operate, pre, arrow, when, merge, call, Operands, none, more, calls, all_calls, Equation}
use Rattle.lus_normal_form.specs.NormalNodes.{counted, all_counted, memories, firsts, count_rights}
use Rattle.lus_normal_form.specs.Forms.{Position, Inside, Operand, is_taken, right_count, size, listed, right_form, operands_form, form, right_out, operands_out, out, added_equations, normal_equations}
use Rattle.lus_normal_form.proofs.Counted.{after_out}

module _ (u v w : ℕ) where
  abbrev count : Expression → ℕ
  count = counted u v w

  -- of what is taken out, the new variables being n and those after it
  abbrev pub new : ℕ → List Expression → ℕ
  new n es = count_rights count (added_equations n es)

  new_append : (n m : ℕ) (xs ys : List Expression) → n + length xs ≡ m → new n (xs ++ ys) ≡ new n xs + new m ys
  new_append n m [] ys e = let same : n ≡ m = omega (arith, e) in let moved = ap (λ z. new z ys) same in omega (arith, moved)
  new_append n m (x ∷ xs) ys e = let rest = new_append (suc n) m xs ys (omega (arith, e)) in omega (arith, rest)

  count_append : (xs ys : List Equation) → count_rights count (xs ++ ys) ≡ count_rights count xs + count_rights count ys
  count_append [] ys = omega arith
  count_append (x ∷ xs) ys = let rest = count_append xs ys in omega (arith, rest)

  abbrev pub Same : Expression → Type 0
  Same e = (n : ℕ) → count (right_form n e) + new n (right_out e) ≡ count e

  pub one : (here : Position) (e : Expression) (n : ℕ) → Same e → count (form here n e) + new n (out here e) ≡ count e
  one here e n h = choose (is_taken here e)
    where
      choose : (b : Bool) → count (cond b (variable n) (right_form n e)) + new n (cond b (e ∷ right_out e) (right_out e)) ≡ count e
      choose true = let rest = h (suc n) in omega (arith, rest)
      choose false = h n

  first : (here : Position) (e : Expression) (n : ℕ) (es : List Expression) (rest whole : ℕ) → Same e → rest + new (n + size here e) es ≡ whole
      → (count (form here n e) + rest) + new n (out here e ++ es) ≡ count e + whole
  first here e n es rest whole h l =
      let own = one here e n h in
      let split = new_append n (n + size here e) (out here e) es (after_out here e n) in
      omega (arith, own, split, l)

  mutual
    pub same : (e : Expression) → Same e
    same (literal x) n = omega arith
    same (variable x) n = omega arith
    same (operate o es) n = all_same Inside es n
    same (pre a) n = let rest = one Operand a n (same a) in omega (arith, rest)
    same (arrow a b) n =
        let m = n + size Inside a in
        let rest = first Inside a n (out Inside b) (count (form Inside m b)) (count b) (same a) (one Inside b m (same b)) in
        omega (arith, rest)
    same (when t a) n = one Operand a n (same a)
    same (merge x bs) n = all_same Inside bs n
    same (call g c args) n = let rest = all_same Operand args n in omega (arith, rest)

    all_same : (here : Position) (es : Operands) (n : ℕ) → all_counted u v w (listed (operands_form here n es)) + new n (operands_out here es) ≡ all_counted u v w es
    all_same here none n = omega arith
    all_same here (more e es) n =
        let m = n + size here e in
        first here e n (operands_out here es) (all_counted u v w (listed (operands_form here m es))) (all_counted u v w es) (same e) (all_same here es m)

  equations_same : (n : ℕ) (qs : List Equation) → count_rights count (normal_equations n qs) ≡ count_rights count qs
  equations_same n [] = refl
  equations_same n (q ∷ qs) =
      let here = same q.right n in
      let rest = equations_same (n + right_count q.right) qs in
      let both = count_append (added_equations n (right_out q.right)) (normal_equations (n + right_count q.right) qs) in
      omega (arith, here, rest, both)

pub same_memories : (n : ℕ) (qs : List Equation) → count_rights memories (normal_equations n qs) ≡ count_rights memories qs
same_memories = equations_same 1 0 0

pub same_firsts : (n : ℕ) (qs : List Equation) → count_rights firsts (normal_equations n qs) ≡ count_rights firsts qs
same_firsts = equations_same 0 1 0

-- calls are one such count
mutual
  calls_counted : (e : Expression) → counted 0 0 1 e ≡ calls e
  calls_counted (literal x) = refl
  calls_counted (variable x) = refl
  calls_counted (operate o es) = all_calls_counted es
  calls_counted (pre a) = omega (arith, calls_counted a)
  calls_counted (arrow a b) = omega (arith, calls_counted a, calls_counted b)
  calls_counted (when t a) = calls_counted a
  calls_counted (merge x bs) = all_calls_counted bs
  calls_counted (call g c args) = omega (arith, all_calls_counted args)

  all_calls_counted : (es : Operands) → all_counted 0 0 1 es ≡ all_calls es
  all_calls_counted none = refl
  all_calls_counted (more e es) = omega (arith, calls_counted e, all_calls_counted es)

pub right_calls : (e : Expression) (n : ℕ) → calls (right_form n e) + count_rights calls (added_equations n (right_out e)) ≡ calls e
right_calls = subst (λ (count : Expression → ℕ). (e : Expression) (n : ℕ) → count (right_form n e) + count_rights count (added_equations n (right_out e)) ≡ count e) (λ i e. calls_counted e i) (same 0 0 1)

pub part_calls : (here : Position) (e : Expression) (n : ℕ) → calls (form here n e) + count_rights calls (added_equations n (out here e)) ≡ calls e
part_calls =
    subst (λ (count : Expression → ℕ). (here : Position) (e : Expression) (n : ℕ) → count (form here n e) + count_rights count (added_equations n (out here e)) ≡ count e) (λ i e. calls_counted e i)
    (λ here e n. one 0 0 1 here e n (same 0 0 1 e))
