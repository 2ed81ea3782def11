-- As many new variables stand in a normal form as parts are taken out, and those are what is taken out of the expression.
use Rattle.std.proofs.Common.{◌≡◌, ℕ, suc, ◌+◌, Bool, true, false, cond, List, [], ◌∷◌, ◌++◌, length, map, drop, refl, ap, ◌∙◌, length-append}
use Rattle.lus_program.specs.Programs.{Expression, literal, variable, operate, pre, arrow, when, merge, call, Operands, none, more, Program, node_at}
use Rattle.lus_streams.specs.Clocks.{Clock, Part, at, formal_clock, base_of, branch_clock}
use Rattle.lus_normal_form.specs.Forms.{Position, Inside, Operand, is_taken, right_count, operands_count, size, right_out, operands_out, out}
use Rattle.lus_normal_form.specs.Parts.{right_taken, operands_taken, taken}

-- the expression of a part
abbrev pub part_of : Part → Expression
part_of (at k e) = e

abbrev pub parts_of : List Part → List Expression
parts_of ts = map part_of ts

abbrev Counts : Expression → Type 0
Counts e = length (right_out e) ≡ right_count e

one_count : (here : Position) (e : Expression) → Counts e → length (out here e) ≡ size here e
one_count here e h = choose (is_taken here e)
  where
    choose : (b : Bool) → length (cond b (e ∷ right_out e) (right_out e)) ≡ cond b (suc (right_count e)) (right_count e)
    choose true = ap suc h
    choose false = h

first_count : (here : Position) (e : Expression) (es : List Expression) (n : ℕ) → Counts e → length es ≡ n → length (out here e ++ es) ≡ size here e + n
first_count here e es n h l = length-append (out here e) es ∙ (λ i. one_count here e h i + l i)

mutual
  pub out_count : (e : Expression) → Counts e
  out_count (literal v) = refl
  out_count (variable x) = refl
  out_count (operate o es) = operands_out_count Inside es
  out_count (pre a) = one_count Operand a (out_count a)
  out_count (arrow a b) = first_count Inside a (out Inside b) (size Inside b) (out_count a) (one_count Inside b (out_count b))
  out_count (when t a) = one_count Operand a (out_count a)
  out_count (merge x bs) = operands_out_count Inside bs
  out_count (call g c args) = operands_out_count Operand args

  operands_out_count : (here : Position) (es : Operands) → length (operands_out here es) ≡ operands_count here es
  operands_out_count here none = refl
  operands_out_count here (more e es) = first_count here e (operands_out here es) (operands_count here es) (out_count e) (operands_out_count here es)

pub out_size : (here : Position) (e : Expression) → length (out here e) ≡ size here e
out_size here e = one_count here e (out_count e)

-- the new variables end where those of what follows begin
pub after_out : (here : Position) (e : Expression) (n : ℕ) → n + length (out here e) ≡ n + size here e
after_out here e n = ap (λ z. n + z) (out_size here e)

pub map_append : {X Y : Type 0} (f : X → Y) (xs ys : List X) → map f (xs ++ ys) ≡ map f xs ++ map f ys
map_append f [] ys = refl
map_append f (x ∷ xs) ys = ap (λ l. f x ∷ l) (map_append f xs ys)

map_length : {X Y : Type 0} (f : X → Y) (xs : List X) → length xs ≡ length (map f xs)
map_length f [] = refl
map_length f (x ∷ xs) = ap suc (map_length f xs)

module _ (p : Program) where
  abbrev Same : Expression → Clock → Type 0
  Same e k = parts_of (right_taken p e k) ≡ right_out e

  one : (here : Position) (e : Expression) (k : Clock) → Same e k → parts_of (taken p here e k) ≡ out here e
  one here e k h = choose (is_taken here e)
    where
      choose : (b : Bool) → parts_of (cond b (at k e ∷ right_taken p e k) (right_taken p e k)) ≡ cond b (e ∷ right_out e) (right_out e)
      choose true = ap (λ l. e ∷ l) h
      choose false = h

  first : (here : Position) (e : Expression) (k : Clock) (ts : List Part) (es : List Expression) → Same e k → parts_of ts ≡ es → parts_of (taken p here e k ++ ts) ≡ out here e ++ es
  first here e k ts es h l = map_append part_of (taken p here e k) ts ∙ (λ i. one here e k h i ++ l i)

  mutual
    pub taken_out : (e : Expression) (k : Clock) → Same e k
    taken_out (literal v) k = refl
    taken_out (variable x) k = refl
    taken_out (operate o es) k = all_taken_out Inside es (λ m. k) 0
    taken_out (pre a) k = one Operand a k (taken_out a k)
    taken_out (arrow a b) k = first Inside a k (taken p Inside b k) (out Inside b) (taken_out a k) (one Inside b k (taken_out b k))
    taken_out (when t a) k = one Operand a (drop 1 k) (taken_out a (drop 1 k))
    taken_out (merge x bs) k = all_taken_out Inside bs (branch_clock x k) 0
    taken_out (call g c args) k = all_taken_out Operand args (formal_clock (node_at p g) args (base_of (node_at p g) k)) 0

    all_taken_out : (here : Position) (es : Operands) (ks : ℕ → Clock) (m : ℕ) → parts_of (operands_taken p here es ks m) ≡ operands_out here es
    all_taken_out here none ks m = refl
    all_taken_out here (more e es) ks m = first here e (ks m) (operands_taken p here es ks (suc m)) (operands_out here es) (taken_out e (ks m)) (all_taken_out here es ks (suc m))

  pub taken_size : (here : Position) (e : Expression) (k : Clock) → length (taken p here e k) ≡ size here e
  taken_size here e k = map_length part_of (taken p here e k) ∙ ap length (one here e k (taken_out e k)) ∙ out_size here e

  pub after_taken : (here : Position) (e : Expression) (k : Clock) (n : ℕ) → n + length (taken p here e k) ≡ n + size here e
  after_taken here e k n = ap (λ z. n + z) (taken_size here e k)

  pub taken_length : (e : Expression) (k : Clock) → length (right_taken p e k) ≡ right_count e
  taken_length e k = map_length part_of (right_taken p e k) ∙ ap length (taken_out e k) ∙ out_count e
