-- When all seats are joined, the machine is at home, and the history is theirs.
use Rattle.std.proofs.Common.{◌≡◌, ◌==◌, ℕ, suc, ◌+◌, ◌<◌, ◌≤◌, Bool, true, false, cond, List, [], ◌∷◌, ◌++◌, length, refl, ap, sym, subst, ◌∙◌, ◌⊎◌, ⊎_elim, inl, inr, arith, eq-eqb, ne_eqb}
use Rattle.std.specs.List.{sum_by, count_by}
use Rattle.std.proofs.lemmas.List.Sums.{sum_by-cons, sum_by_push}
use mathlib.Core.Logic.{dite}
use mathlib.Core.Option.{some, some-injective}
use native.Mathlib.Decide.{ℕ_discrete}
use lib.ListN.{get_elem?}
use Rattle.atomic_table.specs.Table.{State, Final, Seen}
use Rattle.lus_requests.specs.declared.request.Entry.{Entry}
use Rattle.lus_machine.specs.Machines.{Told}
use Rattle.lus_shared.specs.Knowledge.{Origin, machine_at, Facts, Sight, Instance, Standing, kept}
use Rattle.lus_values.specs.Lists.{Each}
use Rattle.lus_shared.specs.Rule.{takers, times, FitsOne, Sound}
use Rattle.lus_shared.specs.Closing.{IsPartOf, Closed, facts_from, all_facts}
use Rattle.lus_shared.proofs.Lists.{sum_at, sum_two, is_number, same_number}
use Rattle.lus_shared.proofs.Keeps.{bit, number_below, at_most_once}

sum_zero : {A : Type 0} (f : A → ℕ) (l : List A) → ((j : ℕ) (v : A) → get_elem? l j ≡ some v → f v ≡ 0) → sum_by f l ≡ 0
sum_zero f [] z = refl
sum_zero f (x ∷ xs) z = let a = z 0 x refl in let b = sum_zero f xs (λ j v e. z (suc j) v e) in omega (arith, sum_by-cons f x xs)

cases : (b : Bool) → (b ≡ true) ⊎ (b ≡ false)
cases true = inl refl
cases false = inr refl

has : (u : Sight) (f : Facts) → u.seats ≡ f ∷ [] → 1 ≤ times f.number u
has u f is = let one = same_number f f.number refl in let a = sum_by-cons (is_number f.number) f [] in let b = ap (λ (fs : List Facts). sum_by (is_number f.number) fs) is in omega arith

-- a view with all numbers leaves none to a taker
pub no_takers : (o : Origin) (s : State Told Sight) (r : Sound o s) (id : ℕ) (v : Sight) → get_elem? s.views id ≡ some v → v.taker ≡ false → ((k : ℕ) → k < o.callers → times k v ≡ 1) → takers s.views ≡ 0
no_takers o s r id v at free all = sum_zero bit s.views (λ j u e. ⊎_elim
    (λ (is : u.taker ≡ true). absurd (taken j u e is))
    (λ (not_it : u.taker ≡ false). rw not_it) (cases u.taker))
  where
    taken : (j : ℕ) (u : Sight) → get_elem? s.views j ≡ some u → u.taker ≡ true → ⊥
    taken j u e is = dite (ℕ_discrete j id)
        (λ here. let same : some u ≡ some v = sym e ∙ (ap (get_elem? s.views) here ∙ at) in let t : u.taker ≡ v.taker = ap (λ (w : Sight). w.taker) (some-injective u v same) in cc (t, is, free))
        (λ apart. let t = (r.seats j u e).taker is in let f = t.0 in let mine = has u f t.1 in let below = number_below o s r j u f.number e mine in let a = all f.number below in
        let b = sum_two (times f.number) s.views id j v u apart at e in let c = at_most_once o s r f.number in omega arith)

pub all_numbers : (k : ℕ) (seats : List Standing) → sum_by (is_number k) (all_facts seats) ≡ count_by (λ (s : Standing). s.number == k) seats
all_numbers k [] = refl
all_numbers k (s ∷ ss) = let a = sum_by_push (is_number k) (all_facts ss) (facts_from s) in let b = all_numbers k ss in omega (arith, sum_by-cons (λ (t : Standing). cond (t.number == k) 1 0) s ss)

all_parts : (o : Origin) (h : List Entry) (seats : List Standing) → Each (FitsOne o h) (all_facts seats) → Each (IsPartOf h) seats
all_parts o h [] p = tt
all_parts o h (s ∷ ss) p = let q = split (all_facts ss) (facts_from s) p in (record { seen = q.1.seen; mine = q.1.mine }, all_parts o h ss q.0)
  where
    split : (xs : List Facts) (f : Facts) → Each (FitsOne o h) (xs ++ f ∷ []) → Each (FitsOne o h) xs × FitsOne o h f
    split [] f p = (tt, p.0)
    split (x ∷ xs) f p = let q = split xs f p.1 in ((p.0, q.0), q.1)

-- an entry is one of one seat
one_more : (e : Entry) (es : List Entry) (seats : List Standing)
    → sum_by (λ (s : Standing). length (kept (e ∷ es) s.number)) seats ≡ count_by (λ (s : Standing). s.number == e.caller) seats + sum_by (λ (s : Standing). length (kept es s.number)) seats
one_more e es [] = refl
one_more e es (s ∷ ss) =
    let a = sum_by-cons (λ (t : Standing). length (kept (e ∷ es) t.number)) s ss in
    let b = sum_by-cons (λ (t : Standing). length (kept es t.number)) s ss in
    let d = sum_by-cons (λ (t : Standing). cond (t.number == e.caller) 1 0) s ss in
    let rest = one_more e es ss in
    let one : length (kept (e ∷ es) s.number) ≡ cond (s.number == e.caller) 1 0 + length (kept es s.number) =
    dite (ℕ_discrete s.number e.caller)
    (λ is. rw (eq-eqb s.number e.caller is, eq-eqb e.caller s.number (sym is)) (omega arith))
    (λ apart. rw (ne_eqb s.number e.caller apart, ne_eqb e.caller s.number (λ x. apart (sym x))) (omega arith)) in
    omega arith

kept_count : (n : ℕ) (h : List Entry) (seats : List Standing) → ((k : ℕ) → k < n → count_by (λ (s : Standing). s.number == k) seats ≡ 1) → Each (λ (e : Entry). e.caller < n) h
    → sum_by (λ (s : Standing). length (kept h s.number)) seats ≡ length h
kept_count n [] seats once by = sum_zero (λ (s : Standing). length (kept [] s.number)) seats (λ j v e. refl)
kept_count n (e ∷ es) seats once by = let a = one_more e es seats in let b = once e.caller by.0 in let d = kept_count n es seats once by.1 in omega arith

same_shares : (h : List Entry) (seats : List Standing) → Each (IsPartOf h) seats → sum_by (λ (s : Standing). length s.mine) seats ≡ sum_by (λ (s : Standing). length (kept h s.number)) seats
same_shares h [] p = refl
same_shares h (s ∷ ss) p =
    let a = sum_by-cons (λ (t : Standing). length t.mine) s ss in
    let b = sum_by-cons (λ (t : Standing). length (kept h t.number)) s ss in
    let one : length (kept h s.number) ≡ length s.mine = ap length p.0.mine in
    let rest = same_shares h ss p.1 in omega arith

pub closed_all : (i : Instance) (s : State Told Sight) (r : Sound i.origin s) (id : ℕ) (seats : List Standing) → get_elem? s.views id ≡ some record { taker = false; seats = all_facts seats }
    → ((k : ℕ) → k < i.origin.callers → count_by (λ (x : Standing). x.number == k) seats ≡ 1)
    → (get_elem? s.homes 0 ≡ some (some ((machine_at i.origin r.history)))) × Closed i seats r.history
closed_all i s r id seats at once =
    let v : Sight = record { taker = false; seats = all_facts seats } in
    let free = no_takers i.origin s r id v at refl (λ k l. all_numbers k seats ∙ once k l) in
    let parts = all_parts i.origin r.history seats (r.seats id v at).each in (
      r.home free,
      record {
        legal = r.legal;
        all = record { once = once; no_other = λ k l. let a = sum_at (times k) s.views id v at in let b = r.below k l in let c = all_numbers k seats in omega arith };
        parts = parts;
        shares = same_shares r.history seats parts ∙ kept_count i.origin.callers r.history seats once r.callers;
      },
    )

-- what stands in the slot at the end
pub finished : (o : Origin) (i : Instance) (words : List ℕ) (slots : List Told) (x : Told) (id : ℕ) (v : Sight) (seats : List Standing) → o ≡ i.origin → Final (Seen (Sound o) id v) words slots
    → v ≡ record { taker = false; seats = all_facts seats } → ((k : ℕ) → k < i.origin.callers → count_by (λ (s : Standing). s.number == k) seats ≡ 1) → get_elem? slots 0 ≡ some x → Closed i seats x.history
finished o i words slots x id v seats is final view once there =
    let s = final.0 in
    let r : Sound i.origin s = subst (λ (p : Origin). Sound p s) is final.1.0 in
    let at : get_elem? s.views id ≡ some record { taker = false; seats = all_facts seats } = final.1.1 ∙ ap some view in
    let all = closed_all i s r id seats at once in
    let m = machine_at i.origin r.history in
    subst (λ (t : Told). Closed i seats t.history) (some-injective m x (sym (final.4 0 m all.0) ∙ there)) all.1

-- a node without seats
pub closed_none : (i : Instance) (s : State Told Sight) (r : Sound i.origin s) → ((k : ℕ) → k < i.origin.callers → count_by (λ (x : Standing). x.number == k) [] ≡ 1)
    → (get_elem? s.homes 0 ≡ some (some (machine_at i.origin r.history))) × Closed i [] r.history
closed_none i s r once = (
  r.home (sum_zero bit s.views (λ j u e. ⊎_elim (λ (is : u.taker ≡ true). absurd (taken j u e is)) (λ (free : u.taker ≡ false). rw free) (cases u.taker))),
  record {
    legal = r.legal;
    all = record { once = once; no_other = λ k l. refl };
    parts = tt;
    shares = kept_count i.origin.callers r.history [] once r.callers;
  },
)
  where
    taken : (j : ℕ) (u : Sight) → get_elem? s.views j ≡ some u → u.taker ≡ true → ⊥
    taken j u e is =
        let t = (r.seats j u e).taker is in
        let below = number_below i.origin s r j u t.0.number e (has u t.0 t.1) in
        let none = once t.0.number below in
        omega (arith, none)

pub finished_none : (o : Origin) (i : Instance) (words : List ℕ) (slots : List Told) (x : Told) (seats : List Standing) → o ≡ i.origin → seats ≡ [] → Final (Sound o) words slots
    → ((k : ℕ) → k < i.origin.callers → count_by (λ (s : Standing). s.number == k) seats ≡ 1) → get_elem? slots 0 ≡ some x → Closed i seats x.history
finished_none o i words slots x seats is none final once there =
    let s = final.0 in
    let r : Sound i.origin s = subst (λ (p : Origin). Sound p s) is final.1 in
    let all = closed_none i s r (subst (λ (l : List Standing). (k : ℕ) → k < i.origin.callers → count_by (λ (t : Standing). t.number == k) l ≡ 1) none once) in
    let m = machine_at i.origin r.history in
    subst (λ (l : List Standing). Closed i l x.history) (sym none) (subst (λ (t : Told). Closed i [] t.history) (some-injective m x (sym (final.4 0 m all.0) ∙ there)) all.1)
