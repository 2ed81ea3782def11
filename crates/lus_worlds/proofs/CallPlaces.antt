-- The places of the calls among parts: that of each call stands at its number.
use Rattle.std.proofs.Common.{◌≡◌, ◌∙◌, ℕ, zero, suc, ◌+◌, ◌<◌, ◌≤◌, List, [], ◌∷◌, ◌++◌, drop, length, map, Option, Some, None, refl, sym, ap, subst, arith, slice_get}
use Rattle.lus_program.specs.Programs.{Expression, literal, variable, operate, pre, arrow, when, merge, call, numbered, all_numbered, Program, node_at}
use Rattle.lus_program.specs.View.{expression_of}
use Rattle.lus_streams.specs.Clocks.{Clock, at, base_of}
use Rattle.lus_streams.specs.Equations.{Site, site_first, sites_in}
use Rattle.lus_normal_form.specs.Named.{Numbered}
use Rattle.lus_parts.specs.declared.part.Part.{Part as StoredPart}
use Rattle.lus_parts.specs.Parts.{part_of}
use Rattle.lus_reference.specs.Given.{callee}
use Rattle.lus_worlds.specs.Finding.{call_places, IsOther}

places_by : (q : StoredPart) (qs : List StoredPart) (i : ℕ) (o : Option ℕ) → callee (expression_of q.expr.now) ≡ o → call_places (q ∷ qs) i ≡ elim o [ None ↦ [] | Some g ↦ i ∷ [] ] ++ call_places qs (suc i)
places_by q qs i o e = ap (λ (o : Option ℕ). elim o [ None ↦ [] | Some g ↦ i ∷ [] ] ++ call_places qs (suc i)) e

number_there : (n : ℕ) (ss : List Site) → Numbered n ss → (c : ℕ) (s : Site) → slice_get ss c ≡ Some s → s.number ≡ n + c
number_there n [] h c s e = absurd (cc)
number_there n (t ∷ ss) h zero s e = let same : t ≡ s = cc in let first : n ≡ n + 0 = omega arith in sym (ap (λ (z : Site). z.number) same) ∙ h.0 ∙ first
number_there n (t ∷ ss) h (suc c) s e = let next : suc n + c ≡ n + suc c = omega arith in number_there (suc n) ss h.1 c s e ∙ next

there_within : {X : Type 0} (xs : List X) (n : ℕ) (x : X) → slice_get xs n ≡ Some x → n < length xs
there_within [] n x h = absurd (cc)
there_within (y ∷ xs) zero x h = omega arith
there_within (y ∷ xs) (suc n) x h = let lt = there_within xs n x h in omega (arith, lt)

-- an item that the items from its place on begin with
pub get_dropped : {X : Type 0} (xs : List X) (n : ℕ) (x : X) (ys : List X) → drop n xs ≡ x ∷ ys → slice_get xs n ≡ Some x
get_dropped [] zero x ys h = absurd (cc)
get_dropped [] (suc n) x ys h = absurd (cc)
get_dropped (y ∷ xs) zero x ys h = let same : y ≡ x = cc in ap Some same
get_dropped (y ∷ xs) (suc n) x ys h = get_dropped xs n x ys h

module _ (p : Program) where
  site_none : (e : Expression) (k : Clock) (n : ℕ) (ss : List Site) → callee e ≡ None → site_first p (at k (numbered n e)) ss ≡ ss
  site_none (literal v) k n ss h = refl
  site_none (variable x) k n ss h = refl
  site_none (operate o es) k n ss h = refl
  site_none (pre a) k n ss h = refl
  site_none (arrow a b) k n ss h = refl
  site_none (when t a) k n ss h = refl
  site_none (merge x bs) k n ss h = refl
  site_none (call g c args) k n ss h = absurd (cc)

  -- a call with number n is no other call than n
  site_some : (e : Expression) (k : Clock) (n g : ℕ) (ss : List Site) → callee e ≡ Some g
      → (s : Site) × (site_first p (at k (numbered n e)) ss ≡ s ∷ ss) × ((c : ℕ) → s.number ≡ c → IsOther c (at k (numbered n e)) → ⊥)
  site_some (literal v) k n g ss h = absurd (cc)
  site_some (variable x) k n g ss h = absurd (cc)
  site_some (operate o es) k n g ss h = absurd (cc)
  site_some (pre a) k n g ss h = absurd (cc)
  site_some (arrow a b) k n g ss h = absurd (cc)
  site_some (when t a) k n g ss h = absurd (cc)
  site_some (merge x bs) k n g ss h = absurd (cc)
  site_some (call d c args) k n g ss h = (record { node = d; number = n; args = all_numbered (suc n) args; base = base_of (node_at p d) k }, refl, λ m e other. other e)

  -- there are as many as calls
  first_length : (q : StoredPart) (qs : List StoredPart) (i : ℕ) (o : Option ℕ) → length (call_places qs (suc i)) ≡ length (sites_in p (map part_of qs)) → callee (expression_of q.expr.now) ≡ o
      → length (call_places (q ∷ qs) i) ≡ length (sites_in p (map part_of (q ∷ qs)))
  first_length q qs i None later e =
      ap length (places_by q qs i None e) ∙ later ∙ sym (ap length (site_none (expression_of q.expr.now) q.clock.items q.number (sites_in p (map part_of qs)) e))
  first_length q qs i (Some g) later e =
      let s = site_some (expression_of q.expr.now) q.clock.items q.number g (sites_in p (map part_of qs)) e in
      ap length (places_by q qs i (Some g) e) ∙ ap suc later ∙ sym (ap length s.1)

  pub places_length : (qs : List StoredPart) (i : ℕ) → length (call_places qs i) ≡ length (sites_in p (map part_of qs))
  places_length [] i = refl
  places_length (q ∷ qs) i = first_length q qs i (callee (expression_of q.expr.now)) (places_length qs (suc i)) refl

  -- what stands at the place of call c
  record IsSite (qs : List StoredPart) (i c place : ℕ) : Type 0 where
    index : ℕ
    at_place : place ≡ i + index
    part : StoredPart
    there : slice_get qs index ≡ Some part
    site : Site
    is : slice_get (sites_in p (map part_of qs)) c ≡ Some site
    own : (n : ℕ) → site.number ≡ n → IsOther n (part_of part) → ⊥

  further : (q : StoredPart) (qs : List StoredPart) (i c d place : ℕ) → slice_get (sites_in p (map part_of (q ∷ qs))) d ≡ slice_get (sites_in p (map part_of qs)) c → IsSite qs (suc i) c place → IsSite (q ∷ qs) i d place
  further q qs i c d place e r =
      let at_place = r.at_place in
      record { index = suc r.index; at_place = omega (arith, at_place); part = r.part; there = r.there; site = r.site; is = e ∙ r.is; own = r.own }

  first_here : (q : StoredPart) (qs : List StoredPart) (i c place : ℕ) (o : Option ℕ) → ((d : ℕ) → slice_get (call_places qs (suc i)) d ≡ Some place → IsSite qs (suc i) d place) → callee (expression_of q.expr.now) ≡ o
      → slice_get (call_places (q ∷ qs) i) c ≡ Some place → IsSite (q ∷ qs) i c place
  first_here q qs i c place None later e h =
      let none = site_none (expression_of q.expr.now) q.clock.items q.number (sites_in p (map part_of qs)) e in
      further q qs i c c place (ap (λ l. slice_get l c) none) (later c (sym (ap (λ l. slice_get l c) (places_by q qs i None e)) ∙ h))
  first_here q qs i zero place (Some g) later e h =
      let s = site_some (expression_of q.expr.now) q.clock.items q.number g (sites_in p (map part_of qs)) e in
      let first : Some i ≡ Some place = sym (ap (λ l. slice_get l 0) (places_by q qs i (Some g) e)) ∙ h in
      let same : i ≡ place = cc in
      record { index = 0; at_place = omega (arith, same); part = q; there = refl; site = s.0; is = ap (λ l. slice_get l 0) s.1; own = s.2 }
  first_here q qs i (suc c) place (Some g) later e h =
      let s = site_some (expression_of q.expr.now) q.clock.items q.number g (sites_in p (map part_of qs)) e in
      further q qs i c (suc c) place (ap (λ l. slice_get l (suc c)) s.1) (later c (sym (ap (λ l. slice_get l (suc c)) (places_by q qs i (Some g) e)) ∙ h))

  site_here : (qs : List StoredPart) (i c place : ℕ) → slice_get (call_places qs i) c ≡ Some place → IsSite qs i c place
  site_here [] i c place h = absurd (cc)
  site_here (q ∷ qs) i c place h = first_here q qs i c place (callee (expression_of q.expr.now)) (λ d. site_here qs (suc i) d place) refl h

  -- where calls are numbered, the part at the place of call c is no other
  pub site_own : (qs : List StoredPart) (c place : ℕ) (q : StoredPart) → Numbered 0 (sites_in p (map part_of qs)) → slice_get (call_places qs 0) c ≡ Some place → slice_get qs place ≡ Some q → IsOther c (part_of q) → ⊥
  site_own qs c place q numbered h there other =
      let r = site_here qs 0 c place h in
      let at_place = r.at_place in
      let first : place ≡ r.index = omega (arith, at_place) in
      let same : Some q ≡ Some r.part = sym there ∙ ap (slice_get qs) first ∙ r.there in
      let is : q ≡ r.part = cc in
      let none_before : 0 + c ≡ c = omega arith in
      r.own c (number_there 0 (sites_in p (map part_of qs)) numbered c r.site r.is ∙ none_before) (subst (λ v. IsOther c (part_of v)) is other)

  pub place_within : (qs : List StoredPart) (c place : ℕ) → slice_get (call_places qs 0) c ≡ Some place → length qs ≤ place → ⊥
  place_within qs c place h le =
      let r = site_here qs 0 c place h in
      let at_place = r.at_place in
      let within = there_within qs r.index r.part r.there in
      omega (arith, at_place, within, le)
