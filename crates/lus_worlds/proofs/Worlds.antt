-- An instant that was found is a further one of a world, or a fault in it stops it; and where these aren't inputs there is none.
use Rattle.std.proofs.Common.{◌≡◌, ◌∙◌, ℕ, ◌<◌, true, List, length, take, Option, Some, None, ap, subst}
use Rattle.lus_values.specs.Values.{Row}
use Rattle.lus_program.specs.Programs.{Program, node_at}
use Rattle.lus_streams.specs.Order.{IsCausal}
use Rattle.lus_streams.specs.Streams.{Instant, instant, World, is_present, row_of, IsInstant}
use Rattle.lus_streams.specs.Throughout.{Throughout}
use Rattle.lus_streams.proofs.Unique.{streams_unique}
use Rattle.lus_streams.proofs.Worlds.{streams_next, streams_past}
use Rattle.lus_attempts.specs.Attempts.{HasInputs, Tries}
use Rattle.lus_attempts.proofs.WithoutFault.{faults_end, without_fault}
use Rattle.lus_parts.specs.Parts.{part_of}
use Rattle.lus_worlds.specs.declared.moment.Moment.{Moment}
use Rattle.lus_worlds.specs.declared.world.Stop.{Stop}
use Rattle.lus_worlds.specs.declared.world.Stop.TheVariants as stops
use Rattle.lus_worlds.specs.Existing.{AreGiven}
use Rattle.lus_worlds.specs.Finding.{IsFoundNext, IsPrepared, IsReady, Finds}
use Rattle.lus_worlds.specs.Moments.{fault_in, instant_of, KeepsBehind, IsSaid, IsNext}
use Rattle.lus_worlds.specs.Worlds.{IsFurther, IsStopped, HasNoFurther, Ends}
use Rattle.lus_worlds.proofs.Existence.{attempt_exists, causal_of, given_fits, given_whole, tried_given}

-- whichever instant with these inputs is sought was found
abbrev pub FindsAny : Program → List (List ℕ) → ℕ → (given : Row) → Moment → Option Moment → Type 0
FindsAny p orders f given old o = IsPrepared p orders → f < length p.nodes → Finds p f true given old o

-- and there is one
module _ (p : Program) (orders : List (List ℕ)) (f : ℕ) (given : Row) (old : Moment) (ready : IsReady p orders f) where
  abbrev prepared : IsPrepared p orders
  prepared = ready.0

  module _ (are : AreGiven (node_at p f) given) where
    -- there is none that isn't found
    pub none_there : FindsAny p orders f given old None → (past : World) → KeepsBehind p old f past → ⊥
    none_there finds past keeps =
        let there = attempt_exists p orders prepared f ready.1 true given are.count (given_fits p prepared.clocks f given are) past in
        finds prepared ready.1 there.now past (record { keeps = keeps; attempt = there.attempt; base = there.base }) there.inputs

    module _ (m : Moment) (finds : FindsAny p orders f given old (Some m)) (past : World) (keeps : KeepsBehind p old f past) where
      record IsThere : Type 0 where
        next : IsNext p m f past
        tries : Tries p f given (instant_of m) past

      is_there : IsThere
      is_there =
          let there = attempt_exists p orders prepared f ready.1 true given are.count (given_fits p prepared.clocks f given are) past in
          let found : IsFoundNext p f there.now past m = finds prepared ready.1 there.now past (record { keeps = keeps; attempt = there.attempt; base = there.base }) there.inputs in
          let present : is_present (instant_of m) ≡ true = ap is_present found.0 ∙ there.base in
          let inputs : take (node_at p f).inputs (row_of (instant_of m)) ≡ given = ap (λ i. take (node_at p f).inputs (row_of i)) found.0 ∙ there.inputs in
          record {
            next = found.1;
            tries = record {
              attempt = found.1.attempt;
              present = present;
              inputs = inputs;
              whole = given_whole p prepared.clocks f given are (instant_of m) past present inputs;
            };
          }

    pub is_further : (m : Moment) → FindsAny p orders f given old (Some m) → fault_in m ≡ None → IsFurther p f given old m
    is_further m finds sound lineage past s keeps =
        let here = is_there m finds past keeps in
        let said = subst (λ o. IsSaid p o m f past) sound here.next.said here.tries.whole in
        (streams_next p f given lineage (instant_of m) past s (record { now_holds = said.0; present_now = here.tries.present; row = here.tries.inputs }), said.1)

    pub is_stopped : (m : Moment) → FindsAny p orders f given old (Some m) → (s : Stop) → Ends m s → IsStopped p f given old s
    is_stopped m finds (stops.Fault t) ends = λ past keeps.
        let here = is_there m finds past keeps in
        (instant_of m, here.tries, subst (λ o. IsSaid p o m f past) ends here.next.said)
    is_stopped m finds stops.Presence ends = absurd ends
    is_stopped m finds stops.Memory ends = tt

-- where there is no instant, or a fault in it, there are no further streams
module _ (p : Program) (orders : List (List ℕ)) (f : ℕ) (given : Row) (old : Moment) (ready : IsReady p orders f) where
  causal : IsCausal p
  causal = causal_of p orders ready.0

  inputs_here : (now : Instant) (past : World) → Throughout p (HasInputs p) now f past → HasInputs p f now past
  inputs_here (instant b row js) past h = h.0

  pub ends : (s : Stop) → IsStopped p f given old s → HasNoFurther p f given old s
  ends (stops.Fault t) stopped =
      λ lineage past further s keeps s'.
      let found = stopped past keeps in
      faults_end p causal ready.0.clocks f lineage past given found.0 t.way.items (part_of found.2.part) s found.1 found.2.at_fault further s'
  ends stops.Presence stopped =
      λ lineage past further s keeps s'.
      let next = streams_past p f given lineage further s' in
      let same : next.1 ≡ past = streams_unique p causal ready.0.clocks f lineage next.1 past next.3 s in
      let holds : IsInstant p next.0 f past = subst (λ w. IsInstant p next.0 f w) same next.4.now_holds in
      let laws = without_fault p in
      stopped past keeps
      (tried_given p ready.0.clocks f given ready.0.resolved next.0 past
      (record { attempt = laws.attempts next.0 f past holds; present = next.4.present_now; inputs = next.4.row; whole = inputs_here next.0 past (laws.has_inputs next.0 f past holds) }))
  ends stops.Memory stopped = tt
