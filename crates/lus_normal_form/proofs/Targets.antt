-- What the equations of a normal form define: what those of its source do, and each new variable once.
use Rattle.std.proofs.Common.{◌≡◌, ◌∙◌, ap, sym, refl, ℕ, suc, ◌+◌, ◌<◌, ◌≤◌, nat_eq, nat_lt, Bool, true, false, cond, List, [], ◌∷◌, ◌++◌, length, subst, arith, ⊎_elim, eq-or-lt_of_le}
use Rattle.std.proofs.lemmas.Bool.{cases_lt, eqb-true, eq-eqb, le-ltb}
use Rattle.std.specs.Prelude.{flat_map}
use Rattle.lus_values.specs.Lists.{Each, Below}
use Rattle.lus_program.specs.Programs.{Expression, Equation, Node}
use Rattle.lus_streams.proofs.Lists.{each_append, each_implies, each_left, each_right, below_at}
use Rattle.lus_program.specs.Kinds.{count}
use Rattle.lus_program.specs.Resolved.{definitions, targets_of, IsDefined}
use Rattle.lus_normal_form.specs.Forms.{right_count, right_out, added_equations, normal_equations}
use Rattle.lus_normal_form.proofs.Counted.{out_count}

abbrev pub targets_in : List Equation → List ℕ
targets_in qs = flat_map (λ q. q.targets) qs

pub count_append : (x : ℕ) (xs ys : List ℕ) → count x (xs ++ ys) ≡ count x xs + count x ys
count_append x [] ys = omega arith
count_append x (y ∷ xs) ys = one_more (nat_eq x y) (count_append x xs ys)
  where
    one_more : (b : Bool) → count x (xs ++ ys) ≡ count x xs + count x ys → cond b (suc (count x (xs ++ ys))) (count x (xs ++ ys)) ≡ cond b (suc (count x xs)) (count x xs) + count x ys
    one_more true e = omega (arith, e)
    one_more false e = e

targets_append : (qs rs : List Equation) → targets_in (qs ++ rs) ≡ targets_in qs ++ targets_in rs
targets_append [] rs = refl
targets_append (q ∷ qs) rs = ap (λ l. q.targets ++ l) (targets_append qs rs) ∙ sym (append_apart q.targets (targets_in qs) (targets_in rs))
  where
    append_apart : (xs ys zs : List ℕ) → (xs ++ ys) ++ zs ≡ xs ++ (ys ++ zs)
    append_apart [] ys zs = refl
    append_apart (x ∷ xs) ys zs = ap (λ l. x ∷ l) (append_apart xs ys zs)

-- a variable that isn't y
other_first : (x y : ℕ) (ys : List ℕ) → (x ≡ y → ⊥) → count x (y ∷ ys) ≡ count x ys
other_first x y ys apart = choose (nat_eq x y) refl
  where
    choose : (b : Bool) → nat_eq x y ≡ b → cond b (suc (count x ys)) (count x ys) ≡ count x ys
    choose true e = absurd (apart (eqb-true x y e))
    choose false e = refl

same_first : (x y : ℕ) (ys : List ℕ) → x ≡ y → count x (y ∷ ys) ≡ suc (count x ys)
same_first x y ys e = ap (λ b. cond b (suc (count x ys)) (count x ys)) (eq-eqb x y e)

-- variables before the new ones aren't new
pub none_before : (n : ℕ) (es : List Expression) (x : ℕ) → x < n → count x (targets_in (added_equations n es)) ≡ 0
none_before n [] x lt = refl
none_before n (e ∷ es) x lt =
    other_first x n (targets_in (added_equations (suc n) es)) (λ same. omega (arith, lt, same)) ∙ none_before (suc n) es x (omega (arith, lt))

none_after : (n : ℕ) (es : List Expression) (x : ℕ) → n + length es ≤ x → count x (targets_in (added_equations n es)) ≡ 0
none_after n [] x le = refl
none_after n (e ∷ es) x le =
    other_first x n (targets_in (added_equations (suc n) es)) (λ same. omega (arith, le, same)) ∙ none_after (suc n) es x (omega (arith, le))

-- each new variable is defined once
once_among : (n : ℕ) (es : List Expression) (x : ℕ) → n ≤ x → x < n + length es → count x (targets_in (added_equations n es)) ≡ 1
once_among n [] x le lt = let wrong : ⊥ = omega (arith, le, lt) in absurd wrong
once_among n (e ∷ es) x le lt =
    ⊎_elim
    (λ same. let rest = none_before (suc n) es x (omega (arith, same)) in let here = same_first x n (targets_in (added_equations (suc n) es)) (sym same) in omega (arith, rest, here))
    (λ later. other_first x n (targets_in (added_equations (suc n) es)) (λ same. omega (arith, later, same)) ∙ once_among (suc n) es x later (omega (arith, lt)))
    (eq-or-lt_of_le le)

-- how many new variables equations make
abbrev pub total : List Equation → ℕ
total [] = 0
total (q ∷ qs) = right_count q.right + total qs

-- how often x is defined, of which equations q come first
split : (n : ℕ) (q : Equation) (qs : List Equation) (x : ℕ)
    → count x (targets_in (normal_equations n (q ∷ qs))) ≡ count x q.targets + (count x (targets_in (added_equations n (right_out q.right))) + count x (targets_in (normal_equations (n + right_count q.right) qs)))
split n q qs x =
    let new = added_equations n (right_out q.right) in
    let rest = normal_equations (n + right_count q.right) qs in
    count_append x q.targets (targets_in (new ++ rest)) ∙ ap (λ l. count x q.targets + l) (ap (count x) (targets_append new rest) ∙ count_append x (targets_in new) (targets_in rest))

pub old_defined : (n : ℕ) (qs : List Equation) (x : ℕ) → x < n → count x (targets_in (normal_equations n qs)) ≡ count x (targets_in qs)
old_defined n [] x lt = refl
old_defined n (q ∷ qs) x lt =
    let whole = split n q qs x in
    let new = none_before n (right_out q.right) x lt in
    let rest = old_defined (n + right_count q.right) qs x (omega (arith, lt)) in
    let given = count_append x q.targets (targets_in qs) in
    omega (arith, whole, new, rest, given)

-- variables on the left sides of the source are below w
not_left : (w : ℕ) (xs : List ℕ) (x : ℕ) → Each (λ y. y < w) xs → w ≤ x → count x xs ≡ 0
not_left w [] x h le = refl
not_left w (y ∷ xs) x h le = let lt = h.0 in other_first x y xs (λ same. omega (arith, lt, le, same)) ∙ not_left w xs x h.1 le

new_before : (w n : ℕ) (qs : List Equation) (x : ℕ) → Each (λ y. y < w) (targets_in qs) → w ≤ x → x < n → count x (targets_in (normal_equations n qs)) ≡ 0
new_before w n qs x h le lt = old_defined n qs x lt ∙ not_left w (targets_in qs) x h le

pub new_defined : (w n : ℕ) (qs : List Equation) (x : ℕ) → Each (λ y. y < w) (targets_in qs) → w ≤ n → n ≤ x → x < n + total qs → count x (targets_in (normal_equations n qs)) ≡ 1
new_defined w n [] x h le from lt = let wrong : ⊥ = omega (arith, from, lt) in absurd wrong
new_defined w n (q ∷ qs) x h le from lt =
    let m = n + right_count q.right in
    let size = out_count q.right in
    let whole = split n q qs x in
    let own = not_left w q.targets x (each_left (λ y. y < w) q.targets (targets_in qs) h) (omega (arith, le, from)) in
    let others = each_right (λ y. y < w) q.targets (targets_in qs) h in
    ⊎_elim
    (λ low.
    let here = once_among n (right_out q.right) x from (omega (arith, low, size)) in
    let rest = new_before w m qs x others (omega (arith, le, from)) low in
    omega (arith, whole, own, here, rest))
    (λ high.
    let here = none_after n (right_out q.right) x (omega (arith, high, size)) in
    let rest = new_defined w m qs x others (omega (arith, le)) high (omega (arith, lt)) in
    omega (arith, whole, own, here, rest))
    (cases_lt x m)

-- each equation has a variable on its left
added_lefts : (n : ℕ) (es : List Expression) → Each (λ q. 0 < length q.targets) (added_equations n es)
added_lefts n [] = tt
added_lefts n (e ∷ es) = (omega arith, added_lefts (suc n) es)

pub all_lefts : (n : ℕ) (qs : List Equation) → Each (λ q. 0 < length q.targets) qs → Each (λ q. 0 < length q.targets) (normal_equations n qs)
all_lefts n [] h = tt
all_lefts n (q ∷ qs) h =
    let new = added_equations n (right_out q.right) in
    let rest = normal_equations (n + right_count q.right) qs in
    (h.0, each_append (λ q. 0 < length q.targets) new rest (added_lefts n (right_out q.right)) (all_lefts (n + right_count q.right) qs h.1))

-- the variables on left sides are those of the node
added_below : (n u : ℕ) (es : List Expression) → n + length es ≤ u → Each (λ x. x < u) (targets_in (added_equations n es))
added_below n u [] le = tt
added_below n u (e ∷ es) le = (omega (arith, le), added_below (suc n) u es (omega (arith, le)))

pub all_below : (w n u : ℕ) (qs : List Equation) → Each (λ y. y < w) (targets_in qs) → w ≤ u → n + total qs ≤ u → Each (λ x. x < u) (targets_in (normal_equations n qs))
all_below w n u [] h le size = tt
all_below w n u (q ∷ qs) h le size =
    let m = n + right_count q.right in
    let new = added_equations n (right_out q.right) in
    let rest = normal_equations m qs in
    let outs = out_count q.right in
    each_append (λ x. x < u) q.targets (targets_in (new ++ rest))
    (each_implies (λ y. y < w) (λ y. y < u) (λ y lt. omega (arith, lt, le)) q.targets (each_left (λ y. y < w) q.targets (targets_in qs) h))
    (subst (Each (λ x. x < u)) (sym (targets_append new rest))
    (each_append (λ x. x < u) (targets_in new) (targets_in rest) (added_below n u (right_out q.right) (omega (arith, size, outs)))
    (all_below w m u qs (each_right (λ y. y < w) q.targets (targets_in qs) h) le (omega (arith, size)))))

-- a node with these equations, and with inputs as few, defines each of its variables once, but for inputs
module _ (f f' : Node) (inputs : f'.inputs ≡ f.inputs) (low : f.inputs ≤ length f.variables) (equations : f'.equations ≡ normal_equations (length f.variables) f.equations)
    (size : length f'.variables ≡ length f.variables + total f.equations) (targets : Each (λ x. x < length f.variables) (targets_of f)) (defined : Below (length f.variables) (IsDefined f)) where
  abbrev w : ℕ
  w = length f.variables

  counted : (x : ℕ) → count x (targets_of f') ≡ count x (targets_in (normal_equations w f.equations))
  counted x = ap (λ qs. count x (targets_in qs)) equations

  as_before : (x : ℕ) → definitions f x ≡ definitions f' x
  as_before x = ap (λ n. elim (nat_lt x n) [ true ↦ 0 | false ↦ 1 ]) (sym inputs)

  no_input : (x : ℕ) → w ≤ x → 1 ≡ definitions f' x
  no_input x le = sym (ap (λ b. elim b [ true ↦ 0 | false ↦ 1 ]) (le-ltb x f'.inputs (omega (arith, inputs, low, le))))

  pub is_defined : (x : ℕ) → x < length f'.variables → IsDefined f' x
  is_defined x lt =
      ⊎_elim
      (λ old. counted x ∙ old_defined w f.equations x old ∙ below_at (IsDefined f) w defined x old ∙ as_before x)
      (λ new. counted x ∙ new_defined w w f.equations x targets (omega arith) new (omega (arith, lt, size)) ∙ no_input x new)
      (cases_lt x w)

  pub targets_known : Each (λ x. x < length f'.variables) (targets_of f')
  targets_known = subst (λ qs. Each (λ x. x < length f'.variables) (targets_in qs)) (sym equations) (all_below w w (length f'.variables) f.equations targets (omega (arith, size)) (omega (arith, size)))
