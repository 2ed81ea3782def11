-- The calls of equations in normal form, numbered by their places, have the numbers of their source.
use Rattle.std.proofs.Common.{◌≡◌, ◌∙◌, sym, ap, ap₂, refl, ℕ, suc, ◌+◌, cond, List, [], ◌∷◌, ◌++◌, length, arith}
use Rattle.lus_program.specs.Programs.{Expression, literal, variable, operate, pre, arrow, when, merge, call, Operands, none, more, calls, all_calls, numbered, all_numbered, Equation}
use Rattle.lus_normal_form.specs.NormalNodes.{count_rights}
use Rattle.lus_normal_form.specs.Forms.{Position, Inside, Operand, is_taken, right_count, operands_count, size, listed, right_form, operands_form, form, right_out, operands_out, out, added_equations, normal_equations}
use Rattle.lus_normal_form.specs.Numbers.{renumbered, NumbersStay}
use Rattle.lus_normal_form.proofs.Counted.{after_out}
use Rattle.lus_normal_form.proofs.Memories.{part_calls, right_calls}

-- numbers don't change what is taken out
pub taken_numbered : (here : Position) (m : ℕ) (e : Expression) → is_taken here (numbered m e) ≡ is_taken here e
taken_numbered Inside m (literal v) = refl
taken_numbered Inside m e = refl
taken_numbered Operand m (literal v) = refl
taken_numbered Operand m e = refl

one_count : (here : Position) (m : ℕ) (e : Expression) → right_count (numbered m e) ≡ right_count e → size here (numbered m e) ≡ size here e
one_count here m e h = λ i. cond (taken_numbered here m e i) (suc (h i)) (h i)

mutual
  pub right_count_numbered : (m : ℕ) (e : Expression) → right_count (numbered m e) ≡ right_count e
  right_count_numbered m (literal v) = refl
  right_count_numbered m (variable x) = refl
  right_count_numbered m (operate o es) = operands_count_numbered Inside m es
  right_count_numbered m (pre a) = one_count Operand m a (right_count_numbered m a)
  right_count_numbered m (arrow a b) = ap₂ ◌+◌ (one_count Inside m a (right_count_numbered m a)) (one_count Inside (m + calls a) b (right_count_numbered (m + calls a) b))
  right_count_numbered m (when t a) = one_count Operand m a (right_count_numbered m a)
  right_count_numbered m (merge x bs) = operands_count_numbered Inside m bs
  right_count_numbered m (call g c args) = operands_count_numbered Operand (suc m) args

  operands_count_numbered : (here : Position) (m : ℕ) (es : Operands) → operands_count here (all_numbered m es) ≡ operands_count here es
  operands_count_numbered here m none = refl
  operands_count_numbered here m (more e es) = ap₂ ◌+◌ (one_count here m e (right_count_numbered m e)) (operands_count_numbered here (m + calls e) es)

size_numbered : (here : Position) (m : ℕ) (e : Expression) → size here (numbered m e) ≡ size here e
size_numbered here m e = one_count here m e (right_count_numbered m e)

-- no call stands in an operand, or inside of a right side
mutual
  form_numbered : (here : Position) (e : Expression) (m n k : ℕ) → numbered k (form here n e) ≡ form here n (numbered m e)
  form_numbered Operand (literal v) m n k = refl
  form_numbered Operand e m n k = refl
  form_numbered Inside (literal v) m n k = refl
  form_numbered Inside (variable x) m n k = refl
  form_numbered Inside (operate o es) m n k = ap (operate o) (operands_numbered Inside es m n k)
  form_numbered Inside (pre a) m n k = ap pre (form_numbered Operand a m n k)
  form_numbered Inside (arrow a b) m n k =
      let l = k + calls (form Inside n a) in
      ap₂ arrow (form_numbered Inside a m n k)
      (ap (λ c. numbered l (form Inside (n + c) b)) (sym (size_numbered Inside m a)) ∙ form_numbered Inside b (m + calls a) (n + size Inside (numbered m a)) l)
  form_numbered Inside (when t a) m n k = ap (when t) (form_numbered Operand a m n k)
  form_numbered Inside (merge x bs) m n k = ap (merge x) (operands_numbered Inside bs m n k)
  form_numbered Inside (call g c args) m n k = refl

  operands_numbered : (here : Position) (es : Operands) (m n k : ℕ) → all_numbered k (listed (operands_form here n es)) ≡ listed (operands_form here n (all_numbered m es))
  operands_numbered here none m n k = refl
  operands_numbered here (more e es) m n k =
      let l = k + calls (form here n e) in
      ap₂ more (form_numbered here e m n k)
      (ap (λ c. all_numbered l (listed (operands_form here (n + c) es))) (sym (size_numbered here m e)) ∙ operands_numbered here es (m + calls e) (n + size here (numbered m e)) l)

right_numbered : (e : Expression) (m n : ℕ) → numbered m (right_form n e) ≡ right_form n (numbered m e)
right_numbered (call g c args) m n = ap (call g m) (operands_numbered Operand args (suc m) n (suc m))
right_numbered (literal v) m n = refl
right_numbered (variable x) m n = refl
right_numbered (operate o es) m n = form_numbered Inside (operate o es) m n m
right_numbered e m n = form_numbered Inside e m n m

-- none there
mutual
  callless : (here : Position) (e : Expression) (n : ℕ) → calls (form here n e) ≡ 0
  callless Operand (literal v) n = refl
  callless Operand (variable x) n = refl
  callless Operand e n = refl
  callless Inside (literal v) n = refl
  callless Inside (variable x) n = refl
  callless Inside (operate o es) n = all_callless Inside es n
  callless Inside (pre a) n = callless Operand a n
  callless Inside (arrow a b) n = let head = callless Inside a n in let rest = callless Inside b (n + size Inside a) in omega (arith, head, rest)
  callless Inside (when t a) n = callless Operand a n
  callless Inside (merge x bs) n = all_callless Inside bs n
  callless Inside (call g c args) n = refl

  all_callless : (here : Position) (es : Operands) (n : ℕ) → all_calls (listed (operands_form here n es)) ≡ 0
  all_callless here none n = refl
  all_callless here (more e es) n = let head = callless here e n in let rest = all_callless here es (n + size here e) in omega (arith, head, rest)

-- the number after that of a call at the head
abbrev after : Expression → ℕ → ℕ
after (call g c args) m = suc m
after _ m = m

after_head : (e : Expression) (m n : ℕ) → m + calls (right_form n e) ≡ after e m
after_head (call g c args) m n = let none = all_callless Operand args n in omega (arith, none)
after_head (literal v) m n = omega arith
after_head (variable x) m n = omega arith
after_head (operate o es) m n = let none = callless Inside (operate o es) n in omega (arith, none)
after_head e m n = let none = callless Inside e n in omega (arith, none)

added_append : (n l : ℕ) (xs ys : List Expression) → n + length xs ≡ l → added_equations n (xs ++ ys) ≡ added_equations n xs ++ added_equations l ys
added_append n l [] ys e = let same : n ≡ l = omega (arith, e) in ap (λ z. added_equations z ys) same
added_append n l (x ∷ xs) ys e = ap (λ es. record { targets = n ∷ []; right = right_form (suc n) x } ∷ es) (added_append (suc n) l xs ys (omega (arith, e)))

renumbered_append : (m l : ℕ) (xs ys : List Equation) → m + count_rights calls xs ≡ l → renumbered m (xs ++ ys) ≡ renumbered m xs ++ renumbered l ys
renumbered_append m l [] ys e = let same : m ≡ l = omega (arith, e) in ap (λ z. renumbered z ys) same
renumbered_append m l (x ∷ xs) ys e =
    ap (λ es. record { targets = x.targets; right = numbered m x.right } ∷ es) (renumbered_append (m + calls x.right) l xs ys (omega (arith, e)))

-- one after the other
apart : (m m' n l l' : ℕ) (xs ys xs' ys' : List Expression) → n + length xs ≡ l → n + length xs' ≡ l' → l ≡ l' → m + count_rights calls (added_equations n xs) ≡ m' → renumbered m (added_equations n xs) ≡ added_equations n xs'
    → renumbered m' (added_equations l ys) ≡ added_equations l ys' → renumbered m (added_equations n (xs ++ ys)) ≡ added_equations n (xs' ++ ys')
apart m m' n l l' xs ys xs' ys' size size' same count first second =
    ap (renumbered m) (added_append n l xs ys size)
    ∙ renumbered_append m m' (added_equations n xs) (added_equations l ys) count
    ∙ ap₂ ◌++◌ first second
    ∙ ap (λ z. added_equations n xs' ++ added_equations z ys') same
    ∙ sym (added_append n l' xs' ys' size')

abbrev Stays : Expression → Type 0
Stays e = (m n : ℕ) → renumbered (after e m) (added_equations n (right_out e)) ≡ added_equations n (right_out (numbered m e))

part_stays : (e : Expression) (m n : ℕ) → Stays e → renumbered m (added_equations n (e ∷ right_out e)) ≡ added_equations n (numbered m e ∷ right_out (numbered m e))
part_stays e m n stays =
    let rest = ap (λ z. renumbered z (added_equations (suc n) (right_out e))) (after_head e m (suc n)) ∙ stays m (suc n) in
    λ i. record { targets = n ∷ []; right = right_numbered e m (suc n) i } ∷ rest i

one_stays : (here : Position) (e : Expression) (m n : ℕ) → Stays e → renumbered m (added_equations n (out here e)) ≡ added_equations n (out here (numbered m e))
one_stays Inside (call g c args) m n stays = part_stays (call g c args) m n stays
one_stays Inside e m n stays = stays m n
one_stays Operand (literal v) m n stays = refl
one_stays Operand (variable x) m n stays = refl
one_stays Operand e m n stays = part_stays e m n stays

first_stays : (here : Position) (e : Expression) (m n : ℕ) (ys ys' : List Expression) → Stays e → renumbered (m + calls e) (added_equations (n + size here e) ys) ≡ added_equations (n + size here e) ys'
    → renumbered m (added_equations n (out here e ++ ys)) ≡ added_equations n (out here (numbered m e) ++ ys')
first_stays here e m n ys ys' stays rest =
    let none = callless here e n in
    let whole = part_calls here e n in
    apart m (m + calls e) n (n + size here e) (n + size here (numbered m e)) (out here e) ys (out here (numbered m e)) ys' (after_out here e n) (after_out here (numbered m e) n)
    (ap (λ z. n + z) (sym (size_numbered here m e))) (omega (arith, none, whole)) (one_stays here e m n stays) rest

mutual
  right_stays : (e : Expression) → Stays e
  right_stays (literal v) m n = refl
  right_stays (variable x) m n = refl
  right_stays (operate o es) m n = all_stay Inside es m n
  right_stays (pre a) m n = one_stays Operand a m n (right_stays a)
  right_stays (arrow a b) m n =
      let l = m + calls a in first_stays Inside a m n (out Inside b) (out Inside (numbered l b)) (right_stays a) (one_stays Inside b l (n + size Inside a) (right_stays b))
  right_stays (when t a) m n = one_stays Operand a m n (right_stays a)
  right_stays (merge x bs) m n = all_stay Inside bs m n
  right_stays (call g c args) m n = all_stay Operand args (suc m) n

  all_stay : (here : Position) (es : Operands) (m n : ℕ) → renumbered m (added_equations n (operands_out here es)) ≡ added_equations n (operands_out here (all_numbered m es))
  all_stay here none m n = refl
  all_stay here (more e es) m n =
      let l = m + calls e in first_stays here e m n (operands_out here es) (operands_out here (all_numbered l es)) (right_stays e) (all_stay here es l (n + size here e))

pub numbers_stay : NumbersStay
numbers_stay w m [] = refl
numbers_stay w m (q ∷ qs) =
    let e = q.right in
    let head = calls (right_form w e) in
    let new = added_equations w (right_out e) in
    let rest = normal_equations (w + right_count e) qs in
    let whole = right_calls e w in
    let l = m + calls e in
    let later = numbers_stay (w + right_count e) l qs in
    let count : (m + head) + count_rights calls new ≡ l = omega (arith, whole) in
    let own = ap (λ z. renumbered z new) (after_head e m w) ∙ right_stays e m w in
    let both = renumbered_append (m + head) l new rest count ∙ ap₂ ◌++◌ own (later ∙ ap (λ z. normal_equations (w + z) (renumbered l qs)) (sym (right_count_numbered m e))) in
    λ i. record { targets = q.targets; right = right_numbered e m w i } ∷ both i
