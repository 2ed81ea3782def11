-- Steps follow streams: an answer goes on from every world that the state stands for, and after a fault none goes on.
use Rattle.std.proofs.Common.{◌≡◌, ℕ, true, List, [], ◌∷◌, take, None, refl, sym, ap, ◌∙◌, subst}
use Rattle.std.proofs.lemmas.Option.{none-some}
use Rattle.lus_values.specs.Lists.{item}
use Rattle.lus_values.specs.Values.{Row}
use Rattle.lus_program.specs.Programs.{Program, node_at}
use Rattle.lus_streams.specs.Streams.{Instant, instant, World, IsInstant, Streams}
use Rattle.lus_streams.proofs.Unique.{streams_unique}
use Rattle.lus_streams.proofs.Worlds.{streams_next, streams_past}
use Rattle.lus_classes.specs.Classes.{Class}
use Rattle.lus_classes.specs.States.{State}
use Rattle.lus_classes.specs.Steps.{step}
use Rattle.lus_classes.specs.ClassesOf.{AreClassesOf}
use Rattle.lus_classes.specs.StandsFor.{StandsFor}
use Rattle.lus_classes.specs.Laws.{StepsExtendWorlds, FaultsEndWorlds}
use Rattle.lus_classes.proofs.Lawful.{lawful}

pub steps_extend : StepsExtendWorlds
steps_extend p classes ok s after g i r h = record {
  by = λ inputs w streams st fits.
      let d = (lawful p classes ok s g).gives w st i r after fits h in
      let now = instant true r d.0 in
      (now, refl, streams_next p g i inputs now w streams (record { now_holds = d.1; present_now = refl; row = d.2 }), d.3);
}

-- where there is one more instant, the step answers
no_fault : (p : Program) (classes : List Class) → AreClassesOf p classes → (s : State) (g : ℕ) (i : Row) (inputs : List Row) (w : World) (now : Instant)
    → step classes s g i ≡ None → StandsFor classes s g w → Streams p g (i ∷ inputs) (now ∷ w) → ⊥
no_fault p classes ok s g i inputs w (instant b r js) h st streams =
    let base_on : b ≡ true = streams.always.0 in
    let inputs_are : take (node_at p g).inputs r ≡ i = ap (λ l. item [] l 0) streams.rows in
    let is = subst (λ z. IsInstant p (instant z r js) g w) base_on streams.satisfied.0 in
    let found = (lawful p classes ok s g).finds w st r js is in
    none-some (r, found.0) (sym h ∙ ap (step classes s g) (sym inputs_are) ∙ found.1)

-- and any further world begins with the world that the state stands for
pub faults_end : FaultsEndWorlds
faults_end p classes causal clocks ok s g i h = record {
  by = λ inputs w further streams st more.
      let d = streams_past p g i inputs further more in
      let before : d.1 ≡ w = streams_unique p causal clocks g inputs d.1 w d.3 streams in
      let whole : further ≡ d.0 ∷ w = d.2 ∙ ap (λ z. d.0 ∷ z) before in
      no_fault p classes ok s g i inputs w d.0 h st (subst (Streams p g (i ∷ inputs)) whole more);
}
