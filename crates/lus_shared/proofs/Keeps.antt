-- Each step of a seated machine keeps the rule.
use Rattle.std.proofs.Common.{◌≡◌, ◌≢◌, ◌==◌, ℕ, zero, suc, ◌+◌, ◌*◌, ◌%◌, ◌<◌, ◌≤◌, Bool, true, false, cond, List, [], ◌∷◌, ◌++◌, map, length, get_or, set, refl, ap, sym, subst, ◌∙◌, ⊎_elim, arith, length-set, get_or-set_same, eq-eqb, ne_eqb}
use Rattle.std.specs.List.{sum_by}
use Rattle.std.proofs.lemmas.List.{append-nil}
use Rattle.std.proofs.lemmas.List.Sums.{sum_by-cons, sum_by-append, sum_by_push}
use mathlib.Core.Logic.{dite}
use mathlib.Core.Option as maybe
use mathlib.Core.Option.{none, some, some-injective, some-ne-none}
use native.Mathlib.Decide.{ℕ_discrete, dec_lt}
use lib.ListN.{get_elem?}
use prog.Atomic.{either}
use Rattle.atomic_table.specs.Table.{State, Me, step, keeps, takes, gives, carried_after, stepped, Allows, Splits, Joins, opening}
use Rattle.atomic_table.proofs.Lists.{at_set, set_here, set_else, at_snoc}
use Rattle.lus_requests.specs.declared.request.Entry.{Entry}
use Rattle.lus_machine.specs.Machines.{Told, full}
use Rattle.lus_shared.specs.Knowledge.{Origin, IsLegalHistory, machine_at, Facts, Sight, kept}
use Rattle.lus_values.specs.Lists.{Each}
use Rattle.lus_shared.specs.Rule.{takers, times, holders, FitsOne, Fits, Sound, fresh, opening_sight}
use Rattle.lus_shared.specs.Views.{facts_of}
use Rattle.lus_shared.specs.Plays.{seeing, looking, Shown, looked, took, after_giving, gave, joined, nobody, first_of, others_of, cut_first, cut_others}
use Rattle.lus_shared.proofs.Lists.{sum_set, sum_at, sum_two, sum_map, each_append, each_map, prefix_self, prefix_trans, kept-append, kept_none, callers_of_one, is_number, same_number}

-- the view of one seat that is not the taker
pub is_alone : (m : Me Told Sight) (f : Facts) → m ≡ (record { taker = false; seats = f ∷ [] }, []) → m ≡ (record { taker = false; seats = facts_of m.0.seats ∷ [] }, [])
is_alone m f e =
    let P : Me Told Sight → Type 0 = λ n. n ≡ (record { taker = false; seats = facts_of n.0.seats ∷ [] }, []) in
    subst P (sym e) refl

abbrev pub bit : Sight → ℕ
bit v = cond v.taker 1 0

same_times : (g : Facts → Facts) → ((f : Facts) → (g f).number ≡ f.number) → (k : ℕ) (fs : List Facts) → sum_by (is_number k) (map g fs) ≡ sum_by (is_number k) fs
same_times g same k fs = sum_map (is_number k) g (is_number k) (λ f. ap (λ (n : ℕ). cond (n == k) 1 0) (same f)) fs

abbrev seen_of : Facts → List Facts → List Entry
seen_of d [] = d.seen
seen_of d (x ∷ xs) = x.seen

abbrev ends : List (ℕ × Told) → List (ℕ × Told)
ends cs = carried_after cs gives

module _ (o : Origin) where
  abbrev St : Type 0
  St = State Told Sight

  abbrev Sat : Type 0
  Sat = Me Told Sight

  abbrev Homes : Type 0
  Homes = List (maybe.Option Told)

  abbrev Rule : St → Type 0
  Rule = Sound o

  -- one view is renewed, with the same numbers
  renewed : (s : St) (r : Rule s) (id : ℕ) (v w : Sight) → get_elem? s.views id ≡ some v → ((k : ℕ) → times k w ≡ times k v) → (h : List Entry) (words' : List ℕ) (homes' : Homes)
      → length words' ≡ 1 → length homes' ≡ 1 → get_or words' 0 0 ≡ 2 * length h + takers (set s.views id w) → takers (set s.views id w) ≤ 1
      → (takers (set s.views id w) ≡ 0 → get_elem? homes' 0 ≡ some (some ((machine_at o h)))) → IsLegalHistory o h → length h ≤ full → Each (λ (e : Entry). e.caller < o.callers) h
      → Fits o h w → ((j : ℕ) (u : Sight) → j ≢ id → get_elem? s.views j ≡ some u → Fits o h u) → Rule record { words = words'; homes = homes'; views = set s.views id w }
  renewed s r id v w at same h words' homes' one_word one_slot word most home legal short below mine others = record {
    history = h;
    one_word = one_word;
    one_slot = one_slot;
    word = word;
    at_most_one = most;
    home = home;
    legal = legal;
    short = short;
    callers = below;
    seats = λ j u e. ⊎_elim (λ (t : (j ≡ id) × (w ≡ u)). subst (Fits o h) t.1 mine) (λ (t : (j ≢ id) × (get_elem? s.views j ≡ some u)). others j u t.0 t.1) (at_set s.views id j w u e);
    once = λ k l. let b = sum_set (times k) s.views id v w at in let c = same k in let d = r.once k l in omega arith;
    below = λ k l. let b = sum_set (times k) s.views id v w at in let c = same k in let d = r.below k l in omega arith;
  }

  seen_all : (h : List Entry) (v : Sight) → Fits o h v → (b : Bool) → (b ≡ true → (f : Facts) × (v.seats ≡ f ∷ [])) → Fits o h record { taker = b; seats = seeing h v.seats }
  seen_all h v fits b one = record {
    each = each_map (FitsOne o h) (FitsOne o h) (λ f. record { origin = f.origin; number = f.number; seen = h; mine = f.mine }) (λ f p. record { same = p.same; seen = prefix_self h; mine = p.mine; mine_seen = p.mine }) v.seats fits.each;
    taker = λ is. let t = one is in (record { origin = t.0.origin; number = t.0.number; seen = h; mine = t.0.mine }, ap (seeing h) t.1, refl);
  }

  shown : (s : St) (r : Rule s) (id : ℕ) (v : Sight) → get_elem? s.views id ≡ some v → Shown o r.history (get_or s.words 0 0) v
  shown s r id v at = let now = r.word in let most = r.at_most_one in record { legal = r.legal; short = r.short; even = omega arith; odd = omega arith; each = (r.seats id v at).each }

  -- a step that only shows the history
  peeked : (s : St) (r : Rule s) (id : ℕ) (v : Sight) (cs : List (ℕ × Told)) → get_elem? s.views id ≡ some v → Rule (stepped s 0 (get_or s.words 0 0) id cs (looking r.history v) keeps)
  peeked s r id v cs at = let h = r.history in let w : Sight = looking h v in let b = sum_set bit s.views id v w at in let long = r.one_word in let now = r.word in let most = r.at_most_one in let same : bit w ≡ bit v = refl in
      let word : get_or (set s.words 0 (get_or s.words 0 0)) 0 0 ≡ get_or s.words 0 0 = get_or-set_same s.words 0 (get_or s.words 0 0) 0 (omega arith) in
      renewed s r id v w at (λ k. same_times (λ f. record { origin = f.origin; number = f.number; seen = h; mine = f.mine }) (λ f. refl) k v.seats) h _ _ (length-set s.words 0 (get_or s.words 0 0) ∙ long) r.one_slot
      (omega arith) (omega arith) (λ z. r.home (omega arith)) r.legal r.short r.callers
      (seen_all h v (r.seats id v at) v.taker (λ is. let t = (r.seats id v at).taker is in (t.0, t.1))) (λ j u _ e. r.seats j u e)

  pub looks : (slots id : ℕ) (me : Sat) → Allows Rule slots id me 0 (λ n. n) (looked (step slots 0 0 0 none) me)
  looks slots id me s r wide at small = (looking r.history me.0, keeps, tt, peeked s r id me.0 me.1 at, (o, r.history, shown s r id me.0 at, refl))

  -- the others of a taker, and the seats that share its number
  lone_taker : (s : St) (r : Rule s) (id j : ℕ) (v u : Sight) → get_elem? s.views id ≡ some v → v.taker ≡ true → j ≢ id → get_elem? s.views j ≡ some u → u.taker ≡ true → ⊥
  lone_taker s r id j v u at is apart there too = let most = r.at_most_one in let a : bit v ≡ 1 = rw is in let b : bit u ≡ 1 = rw too in let c = sum_two bit s.views id j v u apart at there in omega arith

  pub at_most_once : (s : St) (r : Rule s) (k : ℕ) → holders k s.views ≤ 1
  at_most_once s r k = dite (dec_lt k o.callers) (λ l. let h = r.once k l in omega arith) (λ n. let h = r.below k (omega arith) in omega arith)

  pub number_below : (s : St) (r : Rule s) (id : ℕ) (v : Sight) (k : ℕ) → get_elem? s.views id ≡ some v → 1 ≤ times k v → k < o.callers
  number_below s r id v k at one = dite (dec_lt k o.callers) (λ l. l) (λ n. let h = r.below k (omega arith) in let c = sum_at (times k) s.views id v at in absurd (omega arith))

  -- the entries of another number leave what a seat's facts say
  other_number : (h rest : List Entry) (c : ℕ) → Each (λ (e : Entry). e.caller ≡ c) rest → (fs : List Facts) → sum_by (is_number c) fs ≡ 0 → Each (FitsOne o h) fs → Each (FitsOne o (h ++ rest)) fs
  other_number h rest c by [] none_of p = tt
  other_number h rest c by (g ∷ gs) none_of p =
      let sum = sum_by-cons (is_number c) g gs in
      let apart : g.number ≢ c = λ is. let one = same_number g c is in omega arith in
      let same : kept (h ++ rest) g.number ≡ kept h g.number = kept-append h rest g.number ∙ (ap (λ l. kept h g.number ++ l) (kept_none rest c g.number by apart) ∙ append-nil (kept h g.number)) in (
        record { same = p.0.same; seen = prefix_trans g.seen h (h ++ rest) p.0.seen (rest, refl); mine = same ∙ p.0.mine; mine_seen = p.0.mine_seen },
        other_number h rest c by gs (omega arith) p.1,
      )

  pub takes_it : (slots id : ℕ) (me : Sat) (f : Facts) (old new : ℕ) → me.0 ≡ record { taker = false; seats = f ∷ [] } → old % 2 ≡ 0 → new ≡ old + 1
      → Allows Rule slots id me 0 (λ n. either (n == old) new n) (took (step slots 0 old new none) me)
  takes_it slots id me f old new is even up s r wide at small = let h = r.history in let n : ℕ = get_or s.words 0 0 in let long = r.one_word in let now = r.word in let most = r.at_most_one in let v = me.0 in
      let free : bit v ≡ 0 = ap bit is in
      dite (ℕ_discrete n old)
      (λ hit. let w : Sight = record { taker = true; seats = seeing h v.seats } in let b = sum_set bit s.views id v w at in let one : bit w ≡ 1 = refl in let none_yet : takers s.views ≡ 0 = omega arith in
      let word : get_or (set s.words 0 new) 0 0 ≡ new = get_or-set_same s.words 0 new 0 (omega arith) in (
        w,
        takes 0 ((machine_at o h)),
        r.home none_yet,
        subst (λ x. Rule (stepped s 0 (either x new n) id me.1 w (takes 0 ((machine_at o h))))) (sym (eq-eqb n old hit))
            (renewed s r id v w at (λ k. same_times (λ f. record { origin = f.origin; number = f.number; seen = h; mine = f.mine }) (λ f. refl) k v.seats) h (set s.words 0 new) (set s.homes 0 none)
            (length-set s.words 0 new ∙ long) (length-set s.homes 0 none ∙ r.one_slot) (omega arith) (omega arith) (λ z. absurd (omega arith)) r.legal r.short r.callers
            (seen_all h v (r.seats id v at) true (λ _. (f, ap (λ (x : Sight). x.seats) is))) (λ j u _ e. r.seats j u e)),
        (o, h, shown s r id v at, (λ _. (omega arith, refl)), (λ miss. absurd (miss hit))),
      ))
      (λ miss. (
        looking h v,
        keeps,
        tt,
        subst (λ x. Rule (stepped s 0 (either x new n) id me.1 (looking h v) keeps)) (sym (ne_eqb n old miss)) (peeked s r id v me.1 at),
        (o, h, shown s r id v at, (λ hit. absurd (miss hit)), (λ _. refl)),
      ))

  -- the taker gives back a machine that has more entries of its own number, or no more
  pub gives_it : (slots id : ℕ) (me : Sat) (f : Facts) (rest h' : List Entry) (new : ℕ) → me ≡ (record { taker = true; seats = f ∷ [] }, (0, (machine_at f.origin h')) ∷ []) → h' ≡ f.seen ++ rest
      → Each (λ (e : Entry). e.caller ≡ f.number) rest → IsLegalHistory f.origin h' → length h' ≤ full → new ≡ 2 * length h' → Allows Rule slots id me 0 (λ _. new) (λ _. gave (step slots 0 new 0 none) me new)
  gives_it slots id me f rest h' new is more by legal short up s r wide at' small =
      let v : Sight = record { taker = true; seats = f ∷ [] } in
      let cs : List (ℕ × Told) = (0, (machine_at f.origin h')) ∷ [] in
      let at : get_elem? s.views id ≡ some v = at' ∙ ap (λ (m : Sat). some m.0) is in
      let fits = r.seats id v at in
      let origin : f.origin ≡ o = fits.each.0.same in
      let h : List Entry = r.history in
      let t = fits.taker refl in
      let whole : f.seen ≡ h = ap (λ (x : List Facts). seen_of f x) t.1 ∙ t.2 in
      let grown : h' ≡ h ++ rest = more ∙ ap (λ l. l ++ rest) whole in
      let legal' : IsLegalHistory o h' = subst (λ (x : Origin). IsLegalHistory x h') origin legal in
      let long = r.one_word in let now = r.word in let most = r.at_most_one in
      let mine : Facts = record { origin = f.origin; number = f.number; seen = h'; mine = kept h' f.number } in
      let w : Sight = record { taker = false; seats = mine ∷ [] } in
      let b = sum_set bit s.views id v w at in let had : bit v ≡ 1 = refl in let has : bit w ≡ 0 = refl in
      let word : get_or (set s.words 0 new) 0 0 ≡ new = get_or-set_same s.words 0 new 0 (omega arith) in
      let one : 1 ≤ times f.number v = let a = sum_by-cons (is_number f.number) f [] in let c = same_number f f.number refl in omega arith in
      let below : f.number < o.callers = number_below s r id v f.number at one in
      let before : Each (λ (e : Entry). e.caller < o.callers) (h ++ rest) = each_append (λ (e : Entry). e.caller < o.callers) h rest r.callers (callers_of_one rest f.number o.callers below by) in
      let below_all : Each (λ (e : Entry). e.caller < o.callers) h' = subst (Each (λ (e : Entry). e.caller < o.callers)) (sym grown) before in
      let home : get_elem? (set s.homes 0 (some ((machine_at f.origin h')))) 0 ≡ some (some ((machine_at o h'))) = set_here s.homes 0 (some ((machine_at f.origin h'))) (omega (arith, r.one_slot)) ∙ ap (λ (x : Origin). some (some ((machine_at x h')))) origin in
      let others : (j : ℕ) (u : Sight) → j ≢ id → get_elem? s.views j ≡ some u → Fits o h' u = λ j u apart e. subst (λ l. Fits o l u) (sym grown) record {
        each = let d = at_most_once s r f.number in let c = sum_two (times f.number) s.views id j v u apart at e in other_number h rest f.number by u.seats (omega arith) (r.seats j u e).each;
        taker = λ too. absurd (lone_taker s r id j v u at refl apart e too);
      } in (
        w,
        gives,
        tt,
        subst (λ (m : Sat). Rule (stepped s 0 new id m.1 w gives)) (sym is)
            (renewed s r id v w at (λ k. same_times (λ g. record { origin = g.origin; number = g.number; seen = h'; mine = kept h' g.number }) (λ g. refl) k (f ∷ [])) h' (set s.words 0 new) (set s.homes 0 (some ((machine_at f.origin h'))))
            (length-set s.words 0 new ∙ long) (length-set s.homes 0 (some ((machine_at f.origin h'))) ∙ r.one_slot) (omega arith) (omega arith) (λ _. home) legal' short below_all
            record { each = (record { same = origin; seen = prefix_self h'; mine = refl; mine_seen = refl }, tt); taker = λ too. absurd (cc too) } others),
        subst (λ (m : Sat). ◌≡◌ {A = Sat} (w, ends m.1) (after_giving m.0 m.1, [])) (sym is) refl,
      )

  pub splits : (id : ℕ) (v : Sight) → v.taker ≡ false → Splits Rule id v (cut_others v) (cut_first v)
  splits id v free s r at = let l : Sight = cut_others v in let q : Sight = cut_first v in let fits = r.seats id v at in
      let parted : (k : ℕ) → times k l + times k q ≡ times k v = λ k. cut_times k v.seats in
      let sums : (k : ℕ) → holders k (set s.views id l ++ q ∷ []) ≡ holders k s.views = λ k. let a = sum_by_push (times k) (set s.views id l) q in let b = sum_set (times k) s.views id v l at in let c = parted k in omega arith in
      let bits : takers (set s.views id l ++ q ∷ []) ≡ takers s.views = let a = sum_by_push bit (set s.views id l) q in let b = sum_set bit s.views id v l at in let c : bit l ≡ bit v = refl in let d : bit q ≡ 0 = refl in omega arith in
      let most = r.at_most_one in let now = r.word in record {
        history = r.history;
        one_word = r.one_word;
        one_slot = r.one_slot;
        word = omega arith;
        at_most_one = omega arith;
        home = λ z. r.home (omega arith);
        legal = r.legal;
        short = r.short;
        callers = r.callers;
        seats = λ j u e. ⊎_elim (λ (t : get_elem? (set s.views id l) j ≡ some u). ⊎_elim (λ (a : (j ≡ id) × (l ≡ u)). subst (Fits o r.history) a.1 (not_taker r.history l free (cut_each_others r.history v.seats fits.each)))
            (λ (a : (j ≢ id) × (get_elem? s.views j ≡ some u)). r.seats j u a.1) (at_set s.views id j l u t))
            (λ (t : q ≡ u). subst (Fits o r.history) t (not_taker r.history q refl (cut_each_first r.history v.seats fits.each))) (at_snoc (set s.views id l) q u j e);
        once = λ k b. sums k ∙ r.once k b;
        below = λ k b. sums k ∙ r.below k b;
      }
    where
      cut_times : (k : ℕ) (fs : List Facts) → sum_by (is_number k) (others_of fs) + sum_by (is_number k) (first_of fs) ≡ sum_by (is_number k) fs
      cut_times k [] = refl
      cut_times k (f ∷ fs) = omega (arith, sum_by-cons (is_number k) f fs, sum_by-cons (is_number k) f [])

      cut_each_first : (h : List Entry) (fs : List Facts) → Each (FitsOne o h) fs → Each (FitsOne o h) (first_of fs)
      cut_each_first h [] p = tt
      cut_each_first h (f ∷ fs) p = (p.0, tt)

      cut_each_others : (h : List Entry) (fs : List Facts) → Each (FitsOne o h) fs → Each (FitsOne o h) (others_of fs)
      cut_each_others h [] p = tt
      cut_each_others h (f ∷ fs) p = p.1

      not_taker : (h : List Entry) (u : Sight) → u.taker ≡ false → Each (FitsOne o h) u.seats → Fits o h u
      not_taker h u free p = record { each = p; taker = λ too. absurd (cc (free, too)) }

  pub joins : (id : ℕ) (v : Sight) (other : ℕ) (w : Sight) → v.taker ≡ false → w.taker ≡ false → Joins Rule id v other w (joined v w) nobody
  joins id v other w free free' s r at apart there = let b : Sight = joined v w in let l : List Sight = set s.views id b in
      let at_other : get_elem? s.views other ≡ some w = sym (set_else s.views id other b apart) ∙ there in
      let sums : (k : ℕ) → holders k (set l other nobody) ≡ holders k s.views = λ k. let x = sum_set (times k) l other w nobody there in let y = sum_set (times k) s.views id v b at in let z = sum_by-append (is_number k) v.seats w.seats in
      let zero_there : times k nobody ≡ 0 = refl in omega arith in
      let bits : takers (set l other nobody) ≡ takers s.views = let x = sum_set bit l other w nobody there in let y = sum_set bit s.views id v b at in let p : bit v ≡ 0 = rw free in let q : bit w ≡ 0 = rw free' in let u : bit b ≡ 0 = refl in let z : bit nobody ≡ 0 = refl in omega arith in
      let most = r.at_most_one in let now = r.word in record {
        history = r.history;
        one_word = r.one_word;
        one_slot = r.one_slot;
        word = omega arith;
        at_most_one = omega arith;
        home = λ z. r.home (omega arith);
        legal = r.legal;
        short = r.short;
        callers = r.callers;
        seats = λ j u e. ⊎_elim (λ (t : (j ≡ other) × (nobody ≡ u)). subst (Fits o r.history) t.1 record { each = tt; taker = λ too. absurd (cc too) })
            (λ (t : (j ≢ other) × (get_elem? l j ≡ some u)). ⊎_elim (λ (a : (j ≡ id) × (b ≡ u)). subst (Fits o r.history) a.1 record { each = each_append (FitsOne o r.history) v.seats w.seats (r.seats id v at).each (r.seats other w at_other).each; taker = λ too. absurd (cc too) })
            (λ (a : (j ≢ id) × (get_elem? s.views j ≡ some u)). r.seats j u a.1) (at_set s.views id j b u t.1)) (at_set l other j nobody u e);
        once = λ k c. sums k ∙ r.once k c;
        below = λ k c. sums k ∙ r.below k c;
      }

  fresh_before : (k i n : ℕ) → k < i → sum_by (is_number k) (fresh o i n) ≡ 0
  fresh_before k i zero l = refl
  fresh_before k i (suc n) l = let f : Facts = record { origin = o; number = i; seen = []; mine = [] } in let a = sum_by-cons (is_number k) f (fresh o (suc i) n) in let b = fresh_before k (suc i) n (omega arith) in
      let off : is_number k f ≡ 0 = rw (ne_eqb i k (λ e. omega arith)) in omega arith

  fresh_after : (k i n : ℕ) → i + n ≤ k → sum_by (is_number k) (fresh o i n) ≡ 0
  fresh_after k i zero l = refl
  fresh_after k i (suc n) l = let f : Facts = record { origin = o; number = i; seen = []; mine = [] } in let a = sum_by-cons (is_number k) f (fresh o (suc i) n) in let b = fresh_after k (suc i) n (omega arith) in
      let off : is_number k f ≡ 0 = rw (ne_eqb i k (λ e. omega arith)) in omega arith

  fresh_within : (k i n : ℕ) → i ≤ k → k < i + n → sum_by (is_number k) (fresh o i n) ≡ 1
  fresh_within k i zero l m = absurd (omega arith)
  fresh_within k i (suc n) l m = let f : Facts = record { origin = o; number = i; seen = []; mine = [] } in let a = sum_by-cons (is_number k) f (fresh o (suc i) n) in
      dite (ℕ_discrete i k)
      (λ is. let one = same_number f k is in let b = fresh_before k (suc i) n (omega arith) in omega arith)
      (λ apart. let off : is_number k f ≡ 0 = rw (ne_eqb i k apart) in let b = fresh_within k (suc i) n (omega arith) (omega arith) in omega arith)

  fresh_each : (i n : ℕ) → Each (FitsOne o []) (fresh o i n)
  fresh_each i zero = tt
  fresh_each i (suc n) = (record { same = refl; seen = ([], refl); mine = refl; mine_seen = refl }, fresh_each (suc i) n)

  pub starts : (slots : List Told) → slots ≡ (machine_at o []) ∷ [] → IsLegalHistory o [] → Rule (opening (0 ∷ []) slots (opening_sight o))
  starts slots is legal = subst (λ l. Rule (opening (0 ∷ []) l (opening_sight o))) (sym is) record {
    history = [];
    one_word = refl;
    one_slot = refl;
    word = refl;
    at_most_one = omega arith;
    home = λ _. refl;
    legal = legal;
    short = omega arith;
    callers = tt;
    seats = λ j v e. first_view j v e;
    once = λ k l. let a = fresh_within k 0 o.callers (omega arith) (omega arith) in let b = sum_by-cons (times k) (opening_sight o) [] in omega arith;
    below = λ k l. let a = fresh_after k 0 o.callers (omega arith) in let b = sum_by-cons (times k) (opening_sight o) [] in omega arith;
  }
    where
      first_view : (j : ℕ) (v : Sight) → get_elem? (opening_sight o ∷ []) j ≡ some v → Fits o [] v
      first_view zero v e = subst (Fits o []) (some-injective (opening_sight o) v e) record { each = fresh_each 0 o.callers; taker = λ too. absurd (cc too) }
      first_view (suc j) v e = absurd (some-ne-none v (sym e))
