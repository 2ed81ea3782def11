-- Called worlds.
use Rattle.std.proofs.Common.{◌≡◌, ℕ, List, [], ◌∷◌, take, drop, length, refl, sym, ap, ap₂, subst, IsTrue, suc-ne-zero}
use Rattle.lus_program.specs.Programs.{Program, node_at}
use Rattle.lus_values.specs.Lists.{item, Each}
use Rattle.lus_streams.specs.Equations.{Site, sites}
use Rattle.lus_values.specs.Values.{Row}
use Rattle.lus_streams.specs.Streams.{Instant, instant, Called, nobody, also, World, is_present, row_of, called_instant, called_world, IsInstant, EachCall, Satisfies, Streams}
use Rattle.lus_streams.proofs.Lists.{each_all}

module _ (p : Program) where
  both_satisfy : (now : Instant) (past : World) (ss : List Site) → Each (λ s. IsInstant p (called_instant s.number now) s.node (called_world s.number past)) ss → Each (λ s. Satisfies p s.node (called_world s.number past)) ss
      → Each (λ s. Satisfies p s.node (called_world s.number (now ∷ past))) ss
  both_satisfy now past [] h k = tt
  both_satisfy now past (s ∷ ss) h k = ((h.0, k.0), both_satisfy now past ss h.1 k.1)

  called_instants : (js : Called) (ss : List Site) (now : Instant) (past : World) → EachCall p js ss now past → Each (λ s. IsInstant p (called_instant s.number now) s.node (called_world s.number past)) ss
  called_instants nobody [] now past h = tt
  called_instants nobody (s ∷ ss) now past h = absurd h
  called_instants (also j js) [] now past h = tt
  called_instants (also j js) (s ∷ ss) now past h = (subst (λ i. IsInstant p i s.node (called_world s.number past)) (sym h.0.numbered) h.1, called_instants js ss now past h.2)

  -- the world of each call of a node is one of the called node
  pub called_satisfies : (f : ℕ) (w : World) → Satisfies p f w → Each (λ s. Satisfies p s.node (called_world s.number w)) (sites p (node_at p f))
  called_satisfies f [] h = each_all (λ s. Satisfies p s.node (called_world s.number [])) (λ s. tt) (sites p (node_at p f))
  called_satisfies f (instant b row js ∷ past) h =
      both_satisfy (instant b row js) past (sites p (node_at p f)) (called_instants js (sites p (node_at p f)) (instant b row js) past h.0.1) (called_satisfies f past h.1)

  abbrev inputs_of : ℕ → Instant → Row
  inputs_of f i = take (node_at p f).inputs (row_of i)

  -- one more row of inputs is one more instant, after a world of the rows before
  pub record Next (f : ℕ) (r : Row) (past : World) (now : Instant) : Type 0 where
    pub now_holds : IsInstant p now f past
    pub present_now : IsTrue (is_present now)
    pub row : inputs_of f now ≡ r

  pub streams_next : (f : ℕ) (r : Row) (L : List Row) (now : Instant) (past : World) → Streams p f L past → Next f r past now → Streams p f (r ∷ L) (now ∷ past)
  streams_next f r L now past s n = record { satisfied = (n.now_holds, s.satisfied); always = (n.present_now, s.always); rows = ap₂ ◌∷◌ n.row s.rows }

  pub streams_past : (f : ℕ) (r : Row) (L : List Row) (w : World) → Streams p f (r ∷ L) w → (now : Instant) × (past : World) × (w ≡ now ∷ past) × Streams p f L past × Next f r past now
  streams_past f r L [] s = absurd (suc-ne-zero _ (sym (ap length s.rows)))
  streams_past f r L (now ∷ past) s = (
    now,
    past,
    refl,
    record { satisfied = s.satisfied.1; always = s.always.1; rows = ap (drop 1) s.rows },
    record { now_holds = s.satisfied.0; present_now = s.always.0; row = ap (λ l. item [] l 0) s.rows },
  )
