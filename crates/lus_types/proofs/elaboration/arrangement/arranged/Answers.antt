use Rattle.std.proofs.Common.{◌≡◌, ◌∙◌, ◌≢◌, ap, sym, rules, arith, ℕ, ◌<◌, length, false, inl, inr, is_some, slice_index}
use Rattle.std.proofs.lemmas.Bool.{cases_lt}
use Rattle.lus_source.specs.Heads.{kinds_by}
use Rattle.lus_types.proofs.Arranged.{held, exchanged, missing, once, all_mean}
use Rattle.lus_types.proofs.elaboration.arrangement.arranged.Goals as goal

pub returns-in_err-index-clause-once : goal.returns-in_err-index-clause-once
returns-in_err-index-clause-once c =
    let place = c.loop-place.place in
    let old = c.loop-place.invariant in
    let sized : c.args.count ≡ length c.args.places.items = omega arith in
    let behind = rw c.deref.ensures.value at c.in_err-index.ensures in
    let other : (k : ℕ) → k < length c.loop-place.places.items → slice_index c.loop-place.places.items k ≢ place = λ k lt e.
    elim (cases_lt k place) [ inl low ↦ absurd (omega (arith, old.placed k low, e, low)) | inr high ↦ behind k high lt e ] in
    let none : is_some c.from_residual.result ≡ false = search rules in
    none ∙ sym (rw sized (missing _ _ old.moved place (omega arith) other))

pub loop-place-preserved : goal.loop-place-preserved
loop-place-preserved c =
    let place = c.loop-place.place in
    let index = c.in_ok-index.index in
    let old = c.loop-place.invariant in
    let found = rw c.deref.ensures.value at c.in_ok-index.ensures in
    let first = held c.args.places.items c.args.operands in
    let now = held c.loop-place.places.items c.loop-place.operands in
    let moved = exchanged first now place index old.moved (omega (arith, found.0, found.1)) (omega (arith, found.1)) in
    record {
      moved = rw (c.swap.ensures.items, c.swap-in-loop-place.ensures.items, c.swap-in-loop-place-2.ensures.items) moved;
      placed = λ k below. elim (cases_lt k place) [
        | inl low ↦ c.swap.ensures.by_index.2 k 0 (λ e. absurd (omega (arith, e, low))) (λ e. absurd (omega (arith, e, low, found.0)))
            ∙ old.placed k low
        | inr high ↦ let same : k ≡ place = omega (arith, below, high) in rw same (c.swap.ensures.by_index.0 0 ∙ found.2)
      ];
    }

pub returns-clause-once : goal.returns-clause-once
returns-clause-once c =
    let old = c.loop-place.invariant in
    let sized : c.args.count ≡ length c.args.places.items = omega arith in
    sym (rw sized (once _ _ old.moved (λ k lt. old.placed k (omega (arith, lt, old.moved.sized)) ∙ omega arith)))

pub returns-clause-arranged : goal.returns-clause-arranged
returns-clause-arranged c = λ s es means.
    let old = c.loop-place.invariant in
    let sized : c.args.count ≡ length c.args.places.items = omega arith in
    let ordered = all_mean _ _ old.moved (λ k lt. old.placed k (omega (arith, lt, old.moved.sized)) ∙ omega arith) s (ap
    (kinds_by s) means.1 ∙ means.0) in
    rw (sized, ← means.1) ordered
