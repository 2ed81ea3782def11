-- Equations in normal form give the types of their left sides, where the new variables have those of what they stand for.
use Rattle.std.proofs.Common.{arith, ◌≡◌, ◌∙◌, refl, sym, ap, ap₂, subst, ℕ, suc, ◌+◌, nat_lt, Bool, true, false, cond, List, [], ◌∷◌, ◌++◌, length, map, drop, Option, Some, None, true≢false}
use Rattle.std.specs.Option.{option_and_then}
use Rattle.std.specs.Prelude.{option_map}
use Rattle.lus_values.specs.Lists.{item, Each}
use Rattle.lus_values.proofs.Lists.{each_append}
use Rattle.lus_values.specs.declared.test.Test.{Test}
use Rattle.lus_program.specs.declared.types.Kind.{Kind}
use Rattle.lus_program.specs.Programs.{Expression, literal, variable, operate, pre, arrow, when, merge, call, Operands, none, more, Equation, Node, Program}
use Rattle.lus_program.specs.Kinds.{alike, where_true, the_one}
use Rattle.lus_program.specs.Resolved.{operator_kind, results, values_of, kind_of_variable, test_fits, merged, kind_in, kinds_in, kinds_given_in, EquationFits}
use Rattle.lus_program.proofs.Numbering.{paired, put}
use Rattle.lus_program.proofs.Options.{and_then_gives, map_gives, where_true_gives, where_true_is}
use Rattle.lus_program.proofs.TypedParts.{HasKind, HaveKinds, operate_typed, both_typed, when_typed, merge_typed, more_typed, call_typed, whole_call, whole_typed}
use Rattle.lus_typed_streams.proofs.EquationKinds.{are_more}
use Rattle.lus_normal_form.specs.Forms.{Position, Inside, Operand, is_taken, right_count, size, listed, right_form, operands_form, form, right_out, operands_out, out, added_equations, normal_equations}
use Rattle.lus_normal_form.proofs.Counted.{out_count, after_out}

-- what is taken out of equations
abbrev pub equations_out : List Equation → List Expression
equations_out [] = []
equations_out (q ∷ qs) = right_out q.right ++ equations_out qs

only_one : (ls : List Kind) (k : Kind) → the_one ls ≡ Some k → ls ≡ k ∷ []
only_one [] k e = cc
only_one (l ∷ []) k e = let same : l ≡ k = cc in ap (λ m. m ∷ []) same
only_one (l ∷ m ∷ ls) k e = cc

-- f' has the variables of f, and others
module _ (p : Program) (f f' : Node) (known : (x : ℕ) (k : Kind) → kind_of_variable p f x ≡ Some k → kind_of_variable p f' x ≡ Some k) where
  -- the new variables from n on have the types of these
  abbrev pub AreNew : ℕ → List Expression → Type 0
  AreNew n [] = Unit {0}
  AreNew n (e ∷ es) = (kind_of_variable p f' n ≡ kind_in p f e) × AreNew (suc n) es

  new_left : (n : ℕ) (xs ys : List Expression) → AreNew n (xs ++ ys) → AreNew n xs
  new_left n [] ys h = tt
  new_left n (x ∷ xs) ys h = (h.0, new_left (suc n) xs ys h.1)

  new_right : (n m : ℕ) (xs ys : List Expression) → n + length xs ≡ m → AreNew n (xs ++ ys) → AreNew m ys
  new_right n m [] ys e h = let same : n ≡ m = omega (arith, e) in subst (λ z. AreNew z ys) same h
  new_right n m (x ∷ xs) ys e h = new_right (suc n) m xs ys (omega (arith, e)) h.1

  tested : (t : Test) (o : Option Kind) → kind_of_variable p f t.variable ≡ o → elim o [ Some k ↦ nat_lt t.constructor (values_of p k) | None ↦ false ] ≡ true → test_fits p f' t ≡ true
  tested t None e h = absurd (true≢false (sym h))
  tested t (Some k) e h = ap (λ o. elim o [ Some l ↦ nat_lt t.constructor (values_of p l) | None ↦ false ]) (known t.variable k e) ∙ h

  test_still_fits : (t : Test) → test_fits p f t ≡ true → test_fits p f' t ≡ true
  test_still_fits t h = tested t (kind_of_variable p f t.variable) refl h

  -- an expression where it stands
  form_kind : (here : Position) (e : Expression) (n : ℕ) (k : Kind) → kind_in p f e ≡ Some k → AreNew n (out here e) → (AreNew n (right_out e) → kind_in p f' (right_form n e) ≡ Some k) → kind_in p f' (form here n e) ≡ Some k
  form_kind here e n k h new rest = choose (is_taken here e) new
    where
      choose : (b : Bool) → AreNew n (cond b (e ∷ right_out e) (right_out e)) → kind_in p f' (cond b (variable n) (right_form n e)) ≡ Some k
      choose true w = w.0 ∙ h
      choose false w = rest w

  mutual
    right_kind : (e : Expression) (n : ℕ) (k : Kind) → kind_in p f e ≡ Some k → AreNew n (right_out e) → kind_in p f' (right_form n e) ≡ Some k
    right_kind (literal v) n k h new = h
    right_kind (variable x) n k h new = known x k h
    right_kind (operate o es) n k h new =
        let all = and_then_gives (operator_kind p o) (kinds_in p f es) k h in
        ap (option_and_then (operator_kind p o)) (operand_kinds Inside es n all.0 all.1 new) ∙ all.2
    right_kind (pre a) n k h new = form_kind Operand a n k h new (λ w. right_kind a n k h w)
    right_kind (arrow a b) n k h new =
        let first = and_then_gives (λ l. option_and_then (alike l) (kind_in p f b)) (kind_in p f a) k h in
        let last = and_then_gives (alike first.0) (kind_in p f b) k first.2 in
        let m = n + size Inside a in
        ap₂ (paired p f)
        (form_kind Inside a n first.0 first.1 (new_left n (out Inside a) (out Inside b) new) (λ w. right_kind a n first.0 first.1 w))
        (form_kind Inside b m last.0 last.1 (new_right n m (out Inside a) (out Inside b) (after_out Inside a n) new) (λ w. right_kind b m last.0 last.1 w))
        ∙ last.2
    right_kind (when t a) n k h new =
        let given = and_then_gives (λ l. where_true (test_fits p f t) (Some l)) (kind_in p f a) k h in
        let fits = where_true_gives (test_fits p f t) (Some given.0) k given.2 in
        ap (option_and_then (λ l. where_true (test_fits p f' t) (Some l))) (form_kind Operand a n given.0 given.1 new (λ w. right_kind a n given.0 given.1 w))
        ∙ where_true_is (test_fits p f' t) (Some given.0) (test_still_fits t fits.0)
        ∙ fits.1
    right_kind (merge x bs) n k h new =
        let all = and_then_gives (λ ks. option_and_then (merged p f ks) (kind_of_variable p f x)) (kinds_in p f bs) k h in
        let by = and_then_gives (merged p f all.0) (kind_of_variable p f x) k all.2 in
        let branches = operand_kinds Inside bs n all.0 all.1 new in
        let own = known x by.0 by.1 in
        (λ i. option_and_then (λ ks. option_and_then (merged p f' ks) (own i)) (branches i)) ∙ by.2
    right_kind (call g c es) n k h new =
        let all = and_then_gives (λ ks. option_and_then the_one (results p g ks)) (kinds_in p f es) k h in
        ap (option_and_then (λ ks. option_and_then the_one (results p g ks))) (operand_kinds Operand es n all.0 all.1 new) ∙ all.2

    operand_kinds : (here : Position) (es : Operands) (n : ℕ) (ks : List Kind) → kinds_in p f es ≡ Some ks → AreNew n (operands_out here es) → kinds_in p f' (listed (operands_form here n es)) ≡ Some ks
    operand_kinds here none n ks h new = h
    operand_kinds here (more e es) n ks h new =
        let r = are_more p f e es ks h in
        let m = n + size here e in
        ap₂ (put p f)
        (form_kind here e n r.first r.first_has (new_left n (out here e) (operands_out here es) new) (λ w. right_kind e n r.first r.first_has w))
        (operand_kinds here es m r.others r.others_have (new_right n m (out here e) (operands_out here es) (after_out here e n) new))
        ∙ ap Some r.whole

  -- whole right sides
  one_given : (e : Expression) (n : ℕ) (ls : List Kind) → option_map (λ k. k ∷ []) (kind_in p f e) ≡ Some ls → AreNew n (right_out e) → option_map (λ k. k ∷ []) (kind_in p f' (right_form n e)) ≡ Some ls
  one_given e n ls h new =
      let one = map_gives (λ k. k ∷ []) (kind_in p f e) ls h in
      ap (option_map (λ k. k ∷ [])) (right_kind e n one.0 one.1 new) ∙ ap Some one.2

  right_gives : (e : Expression) (n : ℕ) (ls : List Kind) → kinds_given_in p f e ≡ Some ls → AreNew n (right_out e) → kinds_given_in p f' (right_form n e) ≡ Some ls
  right_gives (call g c es) n ls h new =
      let made = whole_call p f g c es ls h in
      ap (option_and_then (results p g)) (operand_kinds Operand es n made.arguments made.have new) ∙ made.gives
  right_gives e n ls h new = one_given e n ls h new

  single : (e : Expression) (k : Kind) → kind_in p f e ≡ Some k → kinds_given_in p f e ≡ Some (k ∷ [])
  single (call g c es) k h =
      let all = and_then_gives (λ ks. option_and_then the_one (results p g ks)) (kinds_in p f es) k h in
      let one = and_then_gives the_one (results p g all.0) k all.2 in
      ap (option_and_then (results p g)) all.1 ∙ one.1 ∙ ap Some (only_one one.0 k one.2)
  single e k h = ap (option_map (λ l. l ∷ [])) h

  -- equations of new variables
  abbrev Fit : List Equation → Type 0
  Fit = Each (EquationFits p f')

  new_fits : (e : Expression) (n : ℕ) (k : Kind) → kind_in p f e ≡ Some k → kind_of_variable p f' n ≡ kind_in p f e → AreNew (suc n) (right_out e) → EquationFits p f' (record { targets = n ∷ []; right = right_form (suc n) e })
  new_fits e n k h is new =
      let own : Some k ≡ kind_of_variable p f' n = sym (is ∙ h) in
      ap (option_map (map Some)) (right_gives e (suc n) (k ∷ []) (single e k h) new) ∙ ap (λ o. Some (o ∷ [])) own

  fit_append : (n m : ℕ) (xs ys : List Expression) → n + length xs ≡ m → Fit (added_equations n xs) → Fit (added_equations m ys) → Fit (added_equations n (xs ++ ys))
  fit_append n m [] ys e h k = let same : m ≡ n = omega (arith, e) in subst (λ z. Fit (added_equations z ys)) same k
  fit_append n m (x ∷ xs) ys e h k = (h.0, fit_append (suc n) m xs ys (omega (arith, e)) h.1 k)

  part_fit : (here : Position) (e : Expression) (n : ℕ) (h : HasKind p f e) → AreNew n (out here e) → ((m : ℕ) → AreNew m (right_out e) → Fit (added_equations m (right_out e))) → Fit (added_equations n (out here e))
  part_fit here e n h new rest = choose (is_taken here e) new
    where
      choose : (b : Bool) → AreNew n (cond b (e ∷ right_out e) (right_out e)) → Fit (added_equations n (cond b (e ∷ right_out e) (right_out e)))
      choose true w = (new_fits e n h.0 h.1 w.0 w.1, rest (suc n) w.1)
      choose false w = rest n w

  mutual
    added_fit : (e : Expression) → HasKind p f e → (n : ℕ) → AreNew n (right_out e) → Fit (added_equations n (right_out e))
    added_fit (literal v) h n new = tt
    added_fit (variable x) h n new = tt
    added_fit (operate o es) h n new = all_added_fit Inside es (operate_typed p f o es h) n new
    added_fit (pre a) h n new = part_fit Operand a n h new (λ m w. added_fit a h m w)
    added_fit (arrow a b) h n new =
        let both = both_typed p f a b h in
        let m = n + size Inside a in
        fit_append n m (out Inside a) (out Inside b) (after_out Inside a n)
        (part_fit Inside a n both.0 (new_left n (out Inside a) (out Inside b) new) (λ l w. added_fit a both.0 l w))
        (part_fit Inside b m both.1 (new_right n m (out Inside a) (out Inside b) (after_out Inside a n) new) (λ l w. added_fit b both.1 l w))
    added_fit (when t a) h n new = let given = when_typed p f t a h in part_fit Operand a n given.1 new (λ m w. added_fit a given.1 m w)
    added_fit (merge x bs) h n new = all_added_fit Inside bs (merge_typed p f x bs h).1 n new
    added_fit (call g c es) h n new = let made = call_typed p f g c es h in all_added_fit Operand es (made.2.arguments, made.2.have) n new

    all_added_fit : (here : Position) (es : Operands) → HaveKinds p f es → (n : ℕ) → AreNew n (operands_out here es) → Fit (added_equations n (operands_out here es))
    all_added_fit here none h n new = tt
    all_added_fit here (more e es) h n new =
        let both = more_typed p f e es h in
        let m = n + size here e in
        fit_append n m (out here e) (operands_out here es) (after_out here e n)
        (part_fit here e n both.0 (new_left n (out here e) (operands_out here es) new) (λ l w. added_fit e both.0 l w))
        (all_added_fit here es both.1 m (new_right n m (out here e) (operands_out here es) (after_out here e n) new))

  right_added_fit : (e : Expression) (ls : List Kind) → kinds_given_in p f e ≡ Some ls → (n : ℕ) → AreNew n (right_out e) → Fit (added_equations n (right_out e))
  right_added_fit (call g c es) ls h n new = let made = whole_call p f g c es ls h in all_added_fit Operand es (made.arguments, made.have) n new
  right_added_fit e ls h n new = added_fit e (whole_typed p f e ls h) n new

  targets_still : (ls : List Kind) (xs : List ℕ) → map Some ls ≡ map (kind_of_variable p f) xs → map Some ls ≡ map (kind_of_variable p f') xs
  targets_still [] [] e = refl
  targets_still [] (x ∷ xs) e = cc
  targets_still (l ∷ ls) [] e = cc
  targets_still (l ∷ ls) (x ∷ xs) e =
      let first : Some l ≡ kind_of_variable p f x = ap (λ ks. item None ks 0) e in
      ap₂ ◌∷◌ (sym (known x l (sym first))) (targets_still ls xs (ap (drop 1) e))

  pub normal_fit : (n : ℕ) (qs : List Equation) → Each (EquationFits p f) qs → AreNew n (equations_out qs) → Fit (normal_equations n qs)
  normal_fit n [] h new = tt
  normal_fit n (q ∷ qs) h new =
      let kinds = map_gives (map Some) (kinds_given_in p f q.right) (map (kind_of_variable p f) q.targets) h.0 in
      let taken = right_out q.right in
      let m = n + right_count q.right in
      let here = new_left n taken (equations_out qs) new in
      let size = ap (λ z. n + z) (out_count q.right) in (
        ap (option_map (map Some)) (right_gives q.right n kinds.0 kinds.1 here) ∙ ap Some (targets_still kinds.0 q.targets kinds.2),
        each_append (EquationFits p f') (added_equations n taken) (normal_equations m qs) (right_added_fit q.right kinds.0 kinds.1 n here) (normal_fit m qs h.1 (new_right n m taken (equations_out qs) size new)),
      )
