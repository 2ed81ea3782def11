-- Operands with a place and a type beside each, moved until each is at its place.
use Rattle.std.proofs.Common.{◌≡◌, ◌∙◌, inl, inr, sym, ap, ap₂, subst, refl, ℕ, zero, suc, ◌+◌, ◌<◌, ◌≤◌, List, [], ◌∷◌, length, cond, Some, true, false, Bool, nat_eq, arith}
use Rattle.std.specs.Prelude.{slice_index, sum_by, option_map, ◌≢◌}
use Rattle.std.specs.List.{All, swap, zip}
use Rattle.std.specs.List.Sorted.{IsPermutation}
use Rattle.std.proofs.Math.ListN.{set, get_or}
use Rattle.std.proofs.Math.Bool.{and-false}
use Rattle.std.proofs.Math.Nat.{eq-or-lt_of_le}
use Rattle.std.proofs.lemmas.Bool.{cases_lt, eq-eqb}
use Rattle.std.proofs.lemmas.Bool.Decides.{nat_tests}
use Rattle.std.proofs.lemmas.List.Elements.{All-cons, All-tail}
use Rattle.std.proofs.lemmas.List.Sums.{sum_by-cons}
use Rattle.std.proofs.lemmas.List.Edits.{length-swap}
use Rattle.std.proofs.lemmas.Slice.Zip.{get_or-zip, length-zip}
use Rattle.std.proofs.lemmas.List.Sorted.{IsPermutation-swap, IsPermutation-trans, All-permutation, sum_by-IsPermutation}
use Rattle.lus_program.specs.declared.expr.Expr.{Expr}
use Rattle.lus_program.specs.declared.types.Kind.{Kind}
use Rattle.lus_program.specs.Programs.{Expression, Operands, more}
use Rattle.lus_program.specs.View.{expression_of, operands_of}
use Rattle.lus_program.specs.Kinds.{count}
use Rattle.lus_program.proofs.Options.{and_then_gives, map_gives}
use Rattle.lus_source.specs.Labels.{each_counted, each_once}
use Rattle.lus_source.specs.Meaning.{beside, in_order, in_order_from}
use Rattle.lus_source.specs.Scopes.{Scope}
use Rattle.lus_source.specs.Heads.{kind_by, kinds_by}
use Rattle.lus_types.specs.declared.elaboration.operands.Operands.{Operands as StoredOperands}

-- two lists whose items are exchanged at the same places

module _ {X Y : Type 0} where
  zip_set : (xs : List X) (ys : List Y) (i : ℕ) (x : X) (y : Y) → zip (set xs i x) (set ys i y) ≡ set (zip xs ys) i (x, y)
  zip_set [] ys i x y = refl
  zip_set (a ∷ xs) [] zero x y = refl
  zip_set (a ∷ xs) [] (suc i) x y = refl
  zip_set (a ∷ xs) (b ∷ ys) zero x y = refl
  zip_set (a ∷ xs) (b ∷ ys) (suc i) x y = ap (λ zs. (a, b) ∷ zs) (zip_set xs ys i x y)

  zip_swap : (xs : List X) (ys : List Y) (i j : ℕ) → length xs ≡ length ys → i < length xs → j < length xs → zip (swap xs i j) (swap ys i j) ≡ swap (zip xs ys) i j
  zip_swap [] ys i j e here there = absurd (omega arith)
  zip_swap (x ∷ xs) [] i j e here there = absurd (omega (arith, e))
  zip_swap (x ∷ xs) (y ∷ ys) i j e here there =
      let a = x ∷ xs in
      let b = y ∷ ys in
      let first = zip_set a b i (get_or a j x) (get_or b j y) in
      let second = zip_set (set a i (get_or a j x)) (set b i (get_or b j y)) j (get_or a i x) (get_or b i y) in
      rw (get_or-zip a b i (x, y) here (omega (arith, e, here)), get_or-zip a b j (x, y) there (omega (arith, e, there)))
      (second ∙ ap (λ zs. set zs j (get_or a i x, get_or b i y)) first)

-- operands with a place and a type beside each
pub record Held : Type 0 where
  pub places : List ℕ
  pub exprs : List Expr
  pub kinds : List Kind

abbrev pub held : List ℕ → StoredOperands → Held
held ns x = record { places = ns; exprs = x.exprs.items; kinds = x.kinds.items }

abbrev all : Held → List (ℕ × (Expr × Kind))
all f = zip f.places (zip f.exprs f.kinds)

abbrev exchange : ℕ → ℕ → Held → Held
exchange i j f = record { places = swap f.places i j; exprs = swap f.exprs i j; kinds = swap f.kinds i j }

-- as many of each
pub record AreBeside (f : Held) : Type 0 where
  pub exprs : length f.exprs ≡ length f.places
  pub kinds : length f.kinds ≡ length f.places

pairs : (f : Held) → AreBeside f → length f.places ≡ length (zip f.exprs f.kinds)
pairs f h = omega (arith, h.exprs, h.kinds, length-zip f.exprs f.kinds)

-- g is f, moved
pub record IsMoved (f g : Held) : Type 0 where
  pub first : AreBeside f
  pub beside : AreBeside g
  pub sized : length g.places ≡ length f.places
  pub moved : IsPermutation (all f) (all g)

pub exchanged : (f g : Held) (i j : ℕ) → IsMoved f g → i < length g.places → j < length g.places → IsMoved f (exchange i j g)
exchanged f g i j h a b =
    let size = length-zip g.places (zip g.exprs g.kinds) in
    let same = pairs g h.beside in
    let typed = zip_swap g.exprs g.kinds i j (h.beside.exprs ∙ sym h.beside.kinds) (omega (arith, a, h.beside.exprs)) (omega (arith, b, h.beside.exprs)) in
    let here : all (exchange i j g) ≡ swap (all g) i j = ap (zip (swap g.places i j)) typed ∙ zip_swap g.places (zip g.exprs g.kinds) i j same a b in
    let once = IsPermutation-swap (all g) (all (exchange i j g)) i j (omega (arith, size, same, a)) (omega (arith, size, same, b)) here in
    let exprs = length-swap g.exprs i j in
    let kinds = length-swap g.kinds i j in
    let places = length-swap g.places i j in
    record {
      first = h.first;
      beside = record { exprs = omega (arith, exprs, places, h.beside.exprs); kinds = omega (arith, kinds, places, h.beside.kinds) };
      sized = places ∙ h.sized;
      moved = IsPermutation-trans (all f) (all g) (all (exchange i j g)) h.moved once;
    }

-- how often a place stands there

one_or : (b : Bool) (n : ℕ) → cond b (suc n) n ≡ cond b 1 0 + n
one_or true n = omega arith
one_or false n = omega arith

abbrev is_at : {X : Type 0} → ℕ → ℕ × X → ℕ
is_at d z = cond (nat_eq d z.0) 1 0

counts : {X : Type 0} (d : ℕ) (ns : List ℕ) (xs : List X) → length ns ≡ length xs → count d ns ≡ sum_by (is_at d) (zip ns xs)
counts d [] xs e = refl
counts d (n ∷ ns) [] e = absurd (omega (arith, e))
counts d (n ∷ ns) (x ∷ xs) e =
    omega (arith, one_or (nat_eq d n) (count d ns), counts d ns xs (omega (arith, e)), sum_by-cons (is_at d) (n, x) (zip ns xs))

same_count : (f g : Held) (d : ℕ) → IsMoved f g → count d g.places ≡ count d f.places
same_count f g d h =
    counts d g.places (zip g.exprs g.kinds) (pairs g h.beside) ∙ sum_by-IsPermutation (is_at d) (all f) (all g) h.moved
    ∙ sym (counts d f.places (zip f.exprs f.kinds) (pairs f h.first))

differs : (d n : ℕ) → n ≢ d → nat_eq d n ≡ false
differs d n h = grind (arith, nat_tests)

none_counted : (d : ℕ) (ns : List ℕ) → ((k : ℕ) → k < length ns → slice_index ns k ≢ d) → count d ns ≡ 0
none_counted d [] h = refl
none_counted d (n ∷ ns) h = rw (differs d n (h 0 (omega arith))) (none_counted d ns (λ k lt. h (suc k) (omega (arith, lt))))

-- from place c on, each is at its place
abbrev pub AtPlaces : ℕ → List ℕ → Type 0
AtPlaces c ns = (k : ℕ) → k < length ns → slice_index ns k ≡ c + k

later : (c n : ℕ) (ns : List ℕ) → AtPlaces c (n ∷ ns) → AtPlaces (suc c) ns
later c n ns at k lt = at (suc k) (omega (arith, lt)) ∙ omega arith

one_counted : (c : ℕ) (ns : List ℕ) → AtPlaces c ns → (d : ℕ) → c ≤ d → d < c + length ns → count d ns ≡ 1
one_counted c [] at d low high = absurd (omega (arith, low, high))
one_counted c (n ∷ ns) at d low high =
    let first : n ≡ c = at 0 (omega arith) ∙ omega arith in
    let rest = later c n ns at in
    elim (eq-or-lt_of_le low) [
      | inl same ↦
          rw (eq-eqb d n (sym same ∙ sym first)) (ap (λ m. suc m)
          (none_counted d ns (λ k lt e. absurd (omega (arith, rest k lt, e, same)))))
      | inr above ↦
          rw (differs d n (λ e. absurd (omega (arith, e, first, above)))) (one_counted (suc c) ns rest d above (omega (arith, high)))
    ]

each_counted-all : (c n : ℕ) (ns : List ℕ) → ((d : ℕ) → c ≤ d → d < c + n → count d ns ≡ 1) → each_counted c n ns ≡ true
each_counted-all c zero ns h = refl
each_counted-all c (suc n) ns h =
    rw (h c (omega arith) (omega arith)) (each_counted-all (suc c) n ns (λ d low high. h d (omega (arith, low)) (omega (arith, high))))

each_counted-missing : (c n d : ℕ) (ns : List ℕ) → c ≤ d → d < c + n → count d ns ≡ 0 → each_counted c n ns ≡ false
each_counted-missing c zero d ns low high gone = absurd (omega (arith, low, high))
each_counted-missing c (suc n) d ns low high gone = elim (eq-or-lt_of_le low) [
  | inl same ↦ rw (ap (λ k. count k ns) same ∙ gone) refl
  | inr above ↦ rw (each_counted-missing (suc c) n d ns above (omega (arith, high)) gone) (and-false (nat_eq (count c ns) 1))
]

-- what is put in order

other_than : (d n : ℕ) (ns : List ℕ) (b : Bool) → nat_eq d n ≡ b → 1 ≤ count d ns → count d (n ∷ ns) ≤ 1 → nat_eq d n ≡ false
other_than d n ns false is some once = is
other_than d n ns true is some once = let twice : suc (count d ns) ≤ 1 = rw is at once in absurd (omega (arith, some, twice))

module _ (s : Scope) (means : ℕ → Expression) where
  -- it is what is meant at its place, and of its type
  abbrev IsPlaced : ℕ × (Expr × Kind) → Type 0
  IsPlaced z = (means z.0 ≡ expression_of z.1.0) × (kind_by s (expression_of z.1.0) ≡ Some z.1.1)

  all_placed : (ns : List ℕ) (es : List Expr) (ks : List Kind) → length es ≡ length ns → ((d : ℕ) → count d ns ≤ 1)
      → ((d : ℕ) → 1 ≤ count d ns → means d ≡ beside d ns (operands_of es)) → kinds_by s (operands_of es) ≡ Some ks
      → All IsPlaced (zip ns (zip es ks))
  all_placed [] es ks long once at typed = λ k z lt. absurd (omega (arith, lt))
  all_placed (n ∷ ns) [] ks long once at typed = absurd (omega (arith, long))
  all_placed (n ∷ ns) (e ∷ es) ks long once at typed =
      let one = and_then_gives (λ k. option_map (λ ls. k ∷ ls) (kinds_by s (operands_of es))) (kind_by s (expression_of e)) ks typed in
      let more = map_gives (λ ls. one.0 ∷ ls) (kinds_by s (operands_of es)) ks one.2 in
      let same : nat_eq n n ≡ true = eq-eqb n n refl in
      let here : means n ≡ expression_of e = rw same at (at n (rw same (omega arith))) in
      let fewer : (d : ℕ) → count d ns ≤ count d (n ∷ ns) = λ d. omega (arith, one_or (nat_eq d n) (count d ns)) in
      let other : (d : ℕ) → 1 ≤ count d ns → nat_eq d n ≡ false = λ d some. other_than d n ns (nat_eq d n) refl some (once d) in
      let later_at : (d : ℕ) → 1 ≤ count d ns → means d ≡ beside d ns (operands_of es) =
      λ d some. rw (other d some) at (at d (rw (other d some) some)) in
      let rest = all_placed ns es more.0 (omega (arith, long)) (λ d. omega (arith, once d, fewer d)) later_at more.1 in
      let placed = All-cons IsPlaced (n, (e, one.0)) (zip ns (zip es more.0)) (here, one.1) rest in
      subst (λ ls. All IsPlaced (zip (n ∷ ns) (zip (e ∷ es) ls))) more.2 placed

  in_places : (c : ℕ) (ns : List ℕ) (es : List Expr) (ks : List Kind) → length es ≡ length ns → length ks ≡ length ns → AtPlaces c ns
      → All IsPlaced (zip ns (zip es ks)) → (kinds_by s (operands_of es) ≡ Some ks)
      × ((ms : List ℕ) (os : Operands) → ((d : ℕ) → means d ≡ beside d ms os) → operands_of es ≡ in_order_from c (length ns) ms os)
  in_places c [] [] [] a b at placed = (refl, λ ms os is. refl)
  in_places c (n ∷ ns) (e ∷ es) (k ∷ ks) a b at placed =
      let here : n ≡ c = at 0 (omega arith) ∙ omega arith in
      let first = placed 0 (n, (e, k)) (omega arith) in
      let behind = All-tail IsPlaced (n, (e, k)) (zip ns (zip es ks)) placed in
      let rest = in_places (suc c) ns es ks (omega (arith, a)) (omega (arith, b)) (later c n ns at) behind in
      (rw (first.1, rest.0) refl, λ ms os is. ap₂ more (sym first.0 ∙ ap means here ∙ is c) (rest.1 ms os is))
  in_places c _ _ _ a b at placed = absurd (omega (arith, a, b))

module _ (f g : Held) (h : IsMoved f g) where
  abbrev size : ℕ
  size = length f.places

  pub missing : (d : ℕ) → d < length f.places → ((k : ℕ) → k < length g.places → slice_index g.places k ≢ d)
      → each_once (length f.places) f.places ≡ false
  missing d lt other =
      let gone = sym (same_count f g d h) ∙ none_counted d g.places other in
      rw (each_counted-missing 0 size d f.places (omega arith) (omega (arith, lt)) gone) refl

  module _ (at : AtPlaces 0 g.places) where
    one_within : (d : ℕ) → d < size → count d f.places ≡ 1
    one_within d lt = sym (same_count f g d h) ∙ one_counted 0 g.places at d (omega arith) (omega (arith, lt, h.sized))

    pub once : each_once (length f.places) f.places ≡ true
    once = rw (each_counted-all 0 size f.places (λ d low high. one_within d (omega (arith, high)))) (eq-eqb size size refl)

    at_most_one : (d : ℕ) → count d f.places ≤ 1
    at_most_one d = elim (cases_lt d size) [
      | inl lt ↦ omega (arith, one_within d lt)
      | inr past ↦
          omega (arith, same_count f g d h, none_counted d g.places (λ k lt e. absurd (omega (arith, at k lt, e, lt, past, h.sized))))
    ]

    pub all_mean : (s : Scope) → kinds_by s (operands_of f.exprs) ≡ Some f.kinds
        → (kinds_by s (in_order (length f.places) f.places (operands_of f.exprs)) ≡ Some g.kinds)
        × (operands_of g.exprs ≡ in_order (length f.places) f.places (operands_of f.exprs))
    all_mean s typed =
        let means : ℕ → Expression = λ d. beside d f.places (operands_of f.exprs) in
        let first = all_placed s means f.places f.exprs f.kinds h.first.exprs at_most_one (λ d some. refl) typed in
        let last = All-permutation (IsPlaced s means) (all f) (all g) h.moved first in
        let there = in_places s means 0 g.places g.exprs g.kinds h.beside.exprs h.beside.kinds at last in
        let ordered = there.1 f.places (operands_of f.exprs) (λ d. refl) ∙ ap (λ n. in_order n f.places (operands_of f.exprs)) h.sized in
        (ap (kinds_by s) (sym ordered) ∙ there.0, ordered)
