-- Where the calls of equations are numbered by their places in the program, those of the node's parts are by theirs.
use Rattle.std.proofs.Common.{◌≡◌, refl, sym, subst, ℕ, suc, ◌+◌, List, [], ◌∷◌, ◌++◌, drop, append_assoc, arith}
use Rattle.lus_program.specs.Programs.{Expression, literal, variable, operate, pre, arrow, when, merge, call, Operands, none, more, calls, all_calls, numbered, all_numbered, Equation, Node, Program, node_at}
use Rattle.lus_streams.specs.Clocks.{Clock, Part, formal_clock, base_of, branch_clock, parts, all_parts}
use Rattle.lus_streams.specs.Equations.{equation_clock, equation_parts, sites_in}
use Rattle.lus_program.specs.Resolved.{AreNumbered}
use Rattle.lus_normal_form.specs.Named.{Numbered}

module _ (p : Program) where
  -- the calls among these parts have the numbers from n on
  abbrev From : ℕ → List Part → Type 0
  From n es = Numbered n (sites_in p es)

  from_apart : (n : ℕ) (xs ys zs : List Part) → From n (xs ++ (ys ++ zs)) → From n ((xs ++ ys) ++ zs)
  from_apart n xs ys zs h = subst (From n) (sym (append_assoc xs ys zs)) h

  from_sum : (n a b : ℕ) (rest : List Part) → From (n + (a + b)) rest → From ((n + a) + b) rest
  from_sum n a b rest h = let same : n + (a + b) ≡ (n + a) + b = omega arith in subst (λ m. From m rest) same h

  from_none : (n : ℕ) (rest : List Part) → From (n + 0) rest → From n rest
  from_none n rest h = let same : n + 0 ≡ n = omega arith in subst (λ m. From m rest) same h

  -- before parts whose calls have the next numbers
  mutual
    expression_from : (e : Expression) (n : ℕ) (k : Clock) (rest : List Part) → From (n + calls e) rest → From n (parts p (numbered n e) k ++ rest)
    expression_from (literal v) n k rest h = from_none n rest h
    expression_from (variable x) n k rest h = from_none n rest h
    expression_from (operate o es) n k rest h = all_from es n (λ m. k) 0 rest h
    expression_from (pre a) n k rest h = expression_from a n k rest h
    expression_from (arrow a b) n k rest h =
        let second = parts p (numbered (n + calls a) b) k in
        from_apart n (parts p (numbered n a) k) second rest (expression_from a n k (second ++ rest) (expression_from b (n + calls a) k rest (from_sum n (calls a) (calls b) rest h)))
    expression_from (when t a) n k rest h = expression_from a n (drop 1 k) rest h
    expression_from (merge x bs) n k rest h = all_from bs n (branch_clock x k) 0 rest h
    expression_from (call g c es) n k rest h =
        let next : n + suc (all_calls es) ≡ suc n + all_calls es = omega arith in
        (refl, all_from es (suc n) (formal_clock (node_at p g) (all_numbered (suc n) es) (base_of (node_at p g) k)) 0 rest (subst (λ m. From m rest) next h))

    all_from : (es : Operands) (n : ℕ) (ks : ℕ → Clock) (m : ℕ) (rest : List Part) → From (n + all_calls es) rest → From n (all_parts p (all_numbered n es) ks m ++ rest)
    all_from none n ks m rest h = from_none n rest h
    all_from (more e es) n ks m rest h =
        let others = all_parts p (all_numbered (n + calls e) es) ks (suc m) in
        from_apart n (parts p (numbered n e) (ks m)) others rest (expression_from e n (ks m) (others ++ rest) (all_from es (n + calls e) ks (suc m) rest (from_sum n (calls e) (all_calls es) rest h)))

  pub equations_numbered : (f : Node) (n : ℕ) (qs : List Equation) → AreNumbered n qs → From n (equation_parts p f qs)
  equations_numbered f n [] h = tt
  equations_numbered f n (q ∷ qs) h =
      let k = equation_clock f q in
      subst (λ e. From n (parts p e k ++ equation_parts p f qs)) h.0 (expression_from q.right n k (equation_parts p f qs) (equations_numbered f (n + calls q.right) qs h.1))
