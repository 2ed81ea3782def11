-- Flags that are raised round by round come to the least ones.
use Rattle.std.proofs.Common.{◌≡◌, ℕ, zero, suc, ◌+◌, ◌<◌, ◌≤◌, nat_eq, nat_lt, Bool, true, false, not, ◌||◌, List, [], ◌∷◌, length, slice_set, refl, sym, ap, ap₂, ◌∙◌, subst, true≢false, suc-ne-zero, not-suc-le-zero, le_of_suc-le-suc, arith, if◌then◌else◌, ⊎_elim}
use Rattle.std.proofs.lemmas.Bool.{cases_lt}
use Rattle.std.proofs.lemmas.Bool.Decides.{nat_tests}
use Rattle.lus_program.specs.declared.node.Equation.{Equation as StoredEquation}
use Rattle.lus_program.specs.Programs.{Expression, literal, variable, operate, pre, arrow, when, merge, call, Operands, none, more, Node}
use Rattle.lus_program.specs.View.{expression_of}
use Rattle.lus_streams.specs.Order.{is_in}
use Rattle.lus_streams.specs.Flags.{flag, greatest}
use Rattle.lus_streams.proofs.Lists.{item_past}
use Rattle.lus_streams.proofs.NilFree.{and_left, and_right, and_true, or_more}
use Rattle.lus_clocks.specs.Raising.{flags_in, given, all_given, raised, raised_local, raised_count, AreFalse, AreGiven, IsNext, AreLeast}

-- one flag set
pub set_at : (bs : List Bool) (y x : ℕ) (b : Bool) → x < length bs → flags_in (slice_set bs y b) x ≡ (if nat_eq x y then b else flags_in bs x)
set_at [] y x b lt = absurd (not-suc-le-zero lt)
set_at (c ∷ bs) zero zero b lt = refl
set_at (c ∷ bs) zero (suc x) b lt = grind (arith, nat_tests)
set_at (c ∷ bs) (suc y) zero b lt = grind (arith, nat_tests)
set_at (c ∷ bs) (suc y) (suc x) b lt = let rest = set_at bs y x b (le_of_suc-le-suc lt) in grind (arith, nat_tests)

pub length_set : (bs : List Bool) (y : ℕ) (b : Bool) → length (slice_set bs y b) ≡ length bs
length_set [] y b = refl
length_set (c ∷ bs) zero b = refl
length_set (c ∷ bs) (suc y) b = ap suc (length_set bs y b)

length_given : (bs : List Bool) (xs : List ℕ) (b : Bool) → length (given bs xs b) ≡ length bs
length_given bs [] b = refl
length_given bs (x ∷ xs) b = length_given (slice_set bs x b) xs b ∙ length_set bs x b

either_way : (p q b c : Bool) → (if p then b else (if q then b else c)) ≡ (if (q || p) then b else c)
either_way true true b c = refl
either_way true false b c = refl
either_way false true b c = refl
either_way false false b c = refl

given_at : (bs : List Bool) (xs : List ℕ) (b : Bool) (x : ℕ) → x < length bs → flags_in (given bs xs b) x ≡ (if is_in xs x then b else flags_in bs x)
given_at bs [] b x lt = refl
given_at bs (y ∷ ys) b x lt =
    given_at (slice_set bs y b) ys b x (subst (λ n. x < n) (sym (length_set bs y b)) lt)
    ∙ ap (λ c. if is_in ys x then b else c) (set_at bs y x b lt)
    ∙ either_way (is_in ys x) (nat_eq x y) b (flags_in bs x)

module _ (flags : ℕ → Bool) where
  pub length_all_given : (qs : List StoredEquation) (bs : List Bool) → length (all_given flags qs bs) ≡ length bs
  length_all_given [] bs = refl
  length_all_given (q ∷ qs) bs = length_given (all_given flags qs bs) q.targets.items (flag flags (expression_of q.right)) ∙ length_all_given qs bs

  pub all_given_at : (qs : List StoredEquation) (bs : List Bool) (x : ℕ) → x < length bs → flags_in bs x ≡ false → flags_in (all_given flags qs bs) x ≡ raised flags qs x
  all_given_at [] bs x lt h = h
  all_given_at (q ∷ qs) bs x lt h =
      let b = flag flags (expression_of q.right) in
      given_at (all_given flags qs bs) q.targets.items b x (subst (λ n. x < n) (sym (length_all_given qs bs)) lt)
      ∙ ap (λ c. if is_in q.targets.items x then b else c) (all_given_at qs bs x lt h)

-- more flags give more
module _ (a b : ℕ → Bool) (below : (x : ℕ) → a x ≡ true → b x ≡ true) where
  mutual
    pub flag_more : (e : Expression) → flag a e ≡ true → flag b e ≡ true
    flag_more (literal v) h = h
    flag_more (variable x) h = below x h
    flag_more (operate o es) h = greatest_more es h
    flag_more (pre e) h = h
    flag_more (arrow e e') h = flag_more e h
    flag_more (when t e) h = flag_more e h
    flag_more (merge x bs) h = h
    flag_more (call g c args) h = h

    pub greatest_more : (es : Operands) → greatest a es ≡ true → greatest b es ≡ true
    greatest_more none h = h
    greatest_more (more e es) h = or_more (flag a e) (greatest a es) (flag b e) (greatest b es) (flag_more e) (greatest_more es) h

  if_more : (t p q p' q' : Bool) → (p ≡ true → p' ≡ true) → (q ≡ true → q' ≡ true) → (if t then p else q) ≡ true → (if t then p' else q') ≡ true
  if_more true p q p' q' f g h = f h
  if_more false p q p' q' f g h = g h

  pub raised_more : (qs : List StoredEquation) (x : ℕ) → raised a qs x ≡ true → raised b qs x ≡ true
  raised_more [] x h = h
  raised_more (q ∷ qs) x h =
      if_more (is_in q.targets.items x) (flag a (expression_of q.right)) (raised a qs x) (flag b (expression_of q.right)) (raised b qs x) (flag_more (expression_of q.right)) (raised_more qs x) h

  pub raised_local_more : (n : ℕ) (qs : List StoredEquation) (x : ℕ) → raised_local a n qs x ≡ true → raised_local b n qs x ≡ true
  raised_local_more n qs x h = and_true (not (nat_lt x n)) (raised b qs x) (and_left (not (nat_lt x n)) (raised a qs x) h) (raised_more qs x (and_right (not (nat_lt x n)) (raised a qs x) h))

-- counts
abbrev one : Bool → ℕ
one b = if b then 1 else 0

abbrev IsBelow : List Bool → List Bool → Type 0
IsBelow cs bs = (x : ℕ) → flags_in cs x ≡ true → flags_in bs x ≡ true

one_below : (a b : Bool) → (a ≡ true → b ≡ true) → one a ≤ one b
one_below true b h = subst (λ c. 1 ≤ one c) (sym (h refl)) (omega arith)
one_below false b h = omega arith

one_same : (a b : Bool) → one a ≡ one b → a ≡ b
one_same true true h = refl
one_same true false h = absurd (suc-ne-zero 0 h)
one_same false true h = absurd (suc-ne-zero 0 (sym h))
one_same false false h = refl

pub count_below : (cs bs : List Bool) → length cs ≡ length bs → IsBelow cs bs → raised_count cs ≤ raised_count bs
count_below [] bs e h = omega arith
count_below (a ∷ cs) [] e h = absurd (suc-ne-zero _ e)
count_below (a ∷ cs) (b ∷ bs) e h = let here = one_below a b (h 0) in let rest = count_below cs bs (omega (arith, e)) (λ x. h (suc x)) in omega (arith, here, rest)

pub count_same : (cs bs : List Bool) → length cs ≡ length bs → IsBelow cs bs → raised_count cs ≡ raised_count bs → cs ≡ bs
count_same [] [] e h c = refl
count_same [] (b ∷ bs) e h c = absurd (suc-ne-zero _ (sym e))
count_same (a ∷ cs) [] e h c = absurd (suc-ne-zero _ e)
count_same (a ∷ cs) (b ∷ bs) e h c =
    let here = one_below a b (h 0) in
    let size : length cs ≡ length bs = omega (arith, e) in
    let rest = count_below cs bs size (λ x. h (suc x)) in
    ap₂ ◌∷◌ (one_same a b (omega (arith, here, rest, c))) (count_same cs bs size (λ x. h (suc x)) (omega (arith, here, rest, c)))

one_most : (b : Bool) → one b ≤ 1
one_most true = omega arith
one_most false = omega arith

pub count_most : (bs : List Bool) → raised_count bs ≤ length bs
count_most [] = omega arith
count_most (b ∷ bs) = let rest = count_most bs in let here = one_most b in omega (arith, rest, here)

-- flags of n variables on the way to the least: no more than the equations give under them to those past the first m, and no
-- more than any that meet these
abbrev pub IsClosed : ℕ → ℕ → List StoredEquation → (ℕ → Bool) → Type 0
IsClosed n m qs flags = (x : ℕ) → x < n → raised_local flags m qs x ≡ true → flags x ≡ true

pub record IsRising (n m : ℕ) (qs : List StoredEquation) (bs : List Bool) : Type 0 where
  pub size : length bs ≡ n
  pub rising : (x : ℕ) → flags_in bs x ≡ true → raised_local (flags_in bs) m qs x ≡ true
  pub least : (flags : ℕ → Bool) → IsClosed n m qs flags → (x : ℕ) → flags_in bs x ≡ true → flags x ≡ true

within : (bs : List Bool) (x : ℕ) → flags_in bs x ≡ true → x < length bs
within bs x h = ⊎_elim (λ lt. lt) (λ ge. absurd (true≢false (sym h ∙ item_past false bs x ge))) (cases_lt x (length bs))

module _ (n m : ℕ) (qs : List StoredEquation) (bs next : List Bool) (r : IsRising n m qs bs) (s : IsNext m qs bs next) where
  pub next_below : IsBelow bs next
  next_below x h = s.given x (within bs x h) ∙ r.rising x h

  from_next : (x : ℕ) → flags_in next x ≡ true → raised_local (flags_in bs) m qs x ≡ true
  from_next x h = sym (s.given x (subst (λ k. x < k) s.size (within next x h))) ∙ h

  pub rising_next : IsRising n m qs next
  rising_next = record {
    size = s.size ∙ r.size;
    rising = λ x h. raised_local_more (flags_in bs) (flags_in next) next_below m qs x (from_next x h);
    least = λ flags closed x h. closed x (subst (λ k. x < k) (s.size ∙ r.size) (within next x h)) (raised_local_more (flags_in bs) flags (r.least flags closed) m qs x (from_next x h));
  }

  pub count_rises : raised_count bs ≤ raised_count next
  count_rises = count_below bs next (sym s.size) next_below

  pub count_within : raised_count next ≤ n
  count_within = subst (λ k. raised_count next ≤ k) (s.size ∙ r.size) (count_most next)

  pub rising_ends : raised_count next ≡ raised_count bs → (f : Node) → length f.variables ≡ n → f.inputs + f.outputs ≡ m → AreLeast f qs bs
  rising_ends c f e formals =
      let same = count_same bs next (sym s.size) next_below (sym c) in
      record {
        size = r.size ∙ sym e;
        fixed = λ x lt. ap (λ l. flags_in l x) same ∙ s.given x lt ∙ ap (λ k. raised_local (flags_in bs) k qs x) (sym formals);
        least = λ flags closed. r.least flags (λ x lt h. closed x (subst (λ k. x < k) (sym e) lt) (ap (λ k. raised_local flags k qs x) formals ∙ h));
      }

pub all_given_are : (qs : List StoredEquation) (bs start : List Bool) → AreFalse (length bs) start → AreGiven qs bs (all_given (flags_in bs) qs start)
all_given_are qs bs start f = record { size = length_all_given (flags_in bs) qs start ∙ f.size; each = λ x lt. all_given_at (flags_in bs) qs start x (subst (λ m. x < m) (sym f.size) lt) (f.all x) }
