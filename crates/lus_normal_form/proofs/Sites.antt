-- The calls of a normal form are those of the source, in their order.
use Rattle.std.proofs.Common.{◌≡◌, ◌∙◌, sym, ap, subst, ℕ, suc, ◌+◌, List, [], ◌∷◌, ◌++◌, drop, length, append_assoc, arith}
use Rattle.lus_program.specs.Programs.{Expression, literal, variable, operate, pre, arrow, when, merge, call, Operands, none, more, Program, node_at}
use Rattle.lus_streams.specs.Clocks.{Clock, Part, at, formal_clock, base_of, branch_clock, parts, all_parts}
use Rattle.lus_streams.specs.Equations.{Site, sites_in}
use Rattle.lus_normal_form.specs.NormalForm.{IsRight}
use Rattle.lus_normal_form.specs.NormalNodes.{AreSites, EachFrom}
use Rattle.lus_normal_form.specs.Forms.{Position, Inside, Operand, size, listed, operands_form, right_form}
use Rattle.lus_normal_form.specs.Parts.{right_taken, operands_taken, taken}
use Rattle.lus_normal_form.specs.Computed.{IsRightOf}
use Rattle.lus_normal_form.proofs.Counted.{after_taken}
use Rattle.lus_normal_form.proofs.Runs.{from_left, from_right}

module _ (p : Program) where
  -- the call that a right side in normal form may be
  abbrev pub head : Expression → Clock → List Site
  head (call g c args) k = record { node = g; number = c; args = args; base = base_of (node_at p g) k } ∷ []
  head _ k = []

  -- those of the parts with variables from n on
  abbrev pub heads : ℕ → List Part → List Site
  heads n [] = []
  heads n (at k a ∷ es) = head (right_form (suc n) a) k ++ heads (suc n) es

  heads_append : (n m : ℕ) (xs ys : List Part) (ss : List Site) → n + length xs ≡ m → heads n (xs ++ ys) ++ ss ≡ heads n xs ++ (heads m ys ++ ss)
  heads_append n m [] ys ss e = let same : n ≡ m = omega (arith, e) in ap (λ z. heads z ys ++ ss) same
  heads_append n m (at k a ∷ xs) ys ss e =
      let here = head (right_form (suc n) a) k in
      append_assoc here (heads (suc n) (xs ++ ys)) ss
      ∙ ap (λ l. here ++ l) (heads_append (suc n) m xs ys ss (omega (arith, e)))
      ∙ sym (append_assoc here (heads (suc n) xs) (heads m ys ++ ss))

  sites_apart : (xs ys zs : List Part) → sites_in p (xs ++ (ys ++ zs)) ≡ sites_in p ((xs ++ ys) ++ zs)
  sites_apart xs ys zs = ap (sites_in p) (sym (append_assoc xs ys zs))

  module _ (New : ℕ → Clock → Expression → Type 0) where
    abbrev pub G : ℕ → Part → Type 0
    G = IsRightOf p New

    -- before parts with these calls in normal form, parts es with these
    abbrev pub Before : List Part → List Site → Type 0
    Before es heads = (rest : List Part) (ss : List Site) → AreSites p New (sites_in p rest) ss → AreSites p New (sites_in p (es ++ rest)) (heads ++ ss)

    -- one after the other
    apart : (xs ys : List Part) (n m : ℕ) (ts us : List Part) → n + length ts ≡ m → Before xs (heads n ts) → Before ys (heads m us) → Before (xs ++ ys) (heads n (ts ++ us))
    apart xs ys n m ts us e a b rest ss h =
        subst (AreSites p New (sites_in p ((xs ++ ys) ++ rest))) (sym (heads_append n m ts us ss e))
        (subst (λ l. AreSites p New l (heads n ts ++ (heads m us ++ ss))) (sites_apart xs ys rest) (a (ys ++ rest) (heads m us ++ ss) (b rest ss h)))

    -- a call as a right side is in normal form
    abbrev pub Needs : Expression → ℕ → Clock → Type 0
    Needs (call g c args) n k = IsRight p New (call g c args) (right_form n (call g c args)) k
    Needs _ n k = Unit {0}

    pub needs : (e : Expression) (n : ℕ) (k : Clock) → IsRight p New e (right_form n e) k → Needs e n k
    needs (call g c args) n k is = is
    needs e n k is = tt

    abbrev pub Right : Expression → Clock → Type 0
    Right e k = (n : ℕ) → Needs e n k → EachFrom G n (right_taken p e k) → Before (parts p e k) (head (right_form n e) k ++ heads n (right_taken p e k))

    taken_first : (e : Expression) (k : Clock) (n : ℕ) → Right e k → EachFrom G n (at k e ∷ right_taken p e k) → Before (parts p e k) (heads n (at k e ∷ right_taken p e k))
    taken_first e k n right h = right (suc n) (needs e (suc n) k h.0) h.1

    one : (here : Position) (e : Expression) (k : Clock) (n : ℕ) → Right e k → EachFrom G n (taken p here e k) → Before (parts p e k) (heads n (taken p here e k))
    one Inside (call g c args) k n right h = taken_first (call g c args) k n right h
    one Inside e k n right h = right n tt h
    one Operand (literal v) k n right h = right n tt h
    one Operand (variable x) k n right h = right n tt h
    one Operand e k n right h = taken_first e k n right h

    -- one before others
    first : (here : Position) (e : Expression) (k : Clock) (n : ℕ) (others later : List Part) → Right e k → (EachFrom G (n + size here e) later → Before others (heads (n + size here e) later))
        → EachFrom G n (taken p here e k ++ later) → Before (parts p e k ++ others) (heads n (taken p here e k ++ later))
    first here e k n others later right rest h =
        let m = n + size here e in
        let own = taken p here e k in
        let after = after_taken p here e k n in
        apart (parts p e k) others n m own later after (one here e k n right (from_left G n own later h)) (rest (from_right G n m own later after h))

    mutual
      pub right_sites : (e : Expression) (k : Clock) → Right e k
      right_sites (literal v) k n is h = λ rest ss before. before
      right_sites (variable x) k n is h = λ rest ss before. before
      right_sites (operate o es) k n is h = operands_sites Inside es (λ m. k) 0 n h
      right_sites (pre a) k n is h = one Operand a k n (right_sites a k) h
      right_sites (arrow a b) k n is h = first Inside a k n (parts p b k) (taken p Inside b k) (right_sites a k) (one Inside b k (n + size Inside a) (right_sites b k)) h
      right_sites (when t a) k n is h = one Operand a (drop 1 k) n (right_sites a (drop 1 k)) h
      right_sites (merge x bs) k n is h = operands_sites Inside bs (branch_clock x k) 0 n h
      right_sites (call g c args) k n is h = λ rest ss before.
          let called = node_at p g in
          let base = base_of called k in
          let news = heads n (operands_taken p Operand args (formal_clock called args base) 0) in
          let same : listed (operands_form Operand n args) ≡ is.0 = (let e = is.1 in cc) in
          let arguments = operands_sites Operand args (formal_clock called args base) 0 n h in
          (is.0, news ++ ss, ap (λ z. record { node = g; number = c; args = z; base = base } ∷ (news ++ ss)) same, is.2, arguments rest ss before)

      operands_sites : (here : Position) (es : Operands) (ks : ℕ → Clock) (m n : ℕ) → EachFrom G n (operands_taken p here es ks m) → Before (all_parts p es ks m) (heads n (operands_taken p here es ks m))
      operands_sites here none ks m n h = λ rest ss before. before
      operands_sites here (more e es) ks m n h =
          first here e (ks m) n (all_parts p es ks (suc m)) (operands_taken p here es ks (suc m)) (right_sites e (ks m)) (operands_sites here es ks (suc m) (n + size here e)) h
