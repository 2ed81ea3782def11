-- Rows that an object steps through, one behind another.
use Rattle.std.proofs.Common.{◌≡◌, ◌∙◌, ℕ, List, [], ◌∷◌, ◌++◌, refl, subst, true, false, inl, inr}
use Rattle.lus_values.specs.Values.{Row}
use Rattle.lus_eval.specs.SimulationSpecs.Lineages.{Lineage}
use Rattle.lus_eval.specs.SimulationSpecs.Fitting.{has_shape, has_presence}
use Rattle.lus_requests.specs.declared.request.Reply.TheVariants.{Refused}
use Rattle.lus_requests.specs.declared.request.Why.{Why}
use Rattle.lus_requests.specs.declared.request.Why.TheVariants.{Shape, Presence, Fault}
use Rattle.lus_history.specs.Replies.{AnswersStep, HasRefused, misshapen, misplaced, answered, faulted}
use Rattle.lus_history.specs.Keeping.{RunsThrough, Refuses}
use Rattle.lus_history.proofs.Bursts.{runs_none, runs_more, refuses_behind}
use Rattle.lus_eval.specs.CodeSpecs.Codes.{ProgramCode, program_of}
use Rattle.lus_eval.specs.Objects.{Kept, IsObjectOf, ObjectLived, MakesStep, IsFault}
use Rattle.lus_machine.specs.Bursts.{AreRefused, GoesThrough}
use Rattle.lus_machine.specs.declared.bursts.NoOutputs.{NoOutputs}
use Rattle.lus_machine.specs.declared.bursts.NoOutputs.TheVariants as none

pub lone_refused : (c : ProgramCode) (f : ℕ) (l : Lineage) (i : Row) (why : Why) → HasRefused (program_of c) f l (i ∷ []) why → AnswersStep (program_of c) f l i (Refused why)
lone_refused c f l i why (inl h) = h
lone_refused c f l i why (inr h) = absurd h.2

module _ (c : ProgramCode) (o : Kept) where
  abbrev f : ℕ
  f = o.node

  abbrev Lived : Kept → Lineage → Type 0
  Lived = ObjectLived c f

  -- before the first row
  pub goes_nowhere : IsObjectOf c o → GoesThrough c o [] [] o
  goes_nowhere shaped = record { node = refl; shaped = shaped; runs = runs_none (program_of c) f Lived o }

  -- one row more, which the object behind the others steps through
  pub goes_on : (rows outputs : List Row) (now next : Kept) (i r : Row) → GoesThrough c o rows outputs now → GoesThrough c now (i ∷ []) (r ∷ []) next
      → GoesThrough c o (rows ++ i ∷ []) (outputs ++ r ∷ []) next
  goes_on rows outputs now next i r before goes =
      let runs = subst (λ g. RunsThrough (program_of c) g (ObjectLived c g) now (i ∷ []) (r ∷ []) next) before.node goes.runs in
      record {
        node = goes.node ∙ before.node;
        shaped = goes.shaped;
        runs = runs_more (program_of c) f Lived o rows outputs now before.runs i r next (λ l lived. (runs.gives l lived).0) runs.lives;
      }

  -- a row behind others is refused as it is by the object behind them
  pub refused_there : (rows outputs rest : List Row) (now : Kept) (i : Row) (e : NoOutputs) → GoesThrough c o rows outputs now
      → AreRefused c now (i ∷ []) e → AreRefused c o (rows ++ i ∷ rest) e
  refused_there rows outputs rest now i none.Memory before h = tt
  refused_there rows outputs rest now i (none.Refused why) before h =
      let here = subst (λ g. Refuses (program_of c) g (ObjectLived c g) now (i ∷ []) why) before.node h in
      refuses_behind (program_of c) f Lived o rows outputs now before.runs i rest why (λ l lived. lone_refused c f l i why (here l lived))

  -- ---- one row

  module _ (i : Row) where
    abbrev IsRefused : Why → Type 0
    IsRefused why = Refuses (program_of c) f Lived o (i ∷ []) why

    pub row_misshapen : has_shape (program_of c) f i ≡ false → IsRefused Shape
    row_misshapen h = λ l lived. inl (misshapen h)

    pub row_misplaced : has_shape (program_of c) f i ≡ true → has_presence (program_of c) f i ≡ false → IsRefused Presence
    row_misplaced h k = λ l lived. inl (misplaced h k)

    pub row_faults : has_shape (program_of c) f i ≡ true → has_presence (program_of c) f i ≡ true → IsFault c o i → IsRefused Fault
    row_faults h k faults = λ l lived. inl (faulted h k (faults.none l lived.lived))

    pub row_goes : (outputs : Row) (o' : Kept) → has_shape (program_of c) f i ≡ true → has_presence (program_of c) f i ≡ true → MakesStep c o o' i outputs
        → GoesThrough c o (i ∷ []) (outputs ∷ []) o'
    row_goes outputs o' h k is = record {
      node = is.node;
      shaped = is.shaped;
      runs = record {
        gives = λ l lived. (answered h k outputs (is.steps.gives l lived.lived), tt);
        lives = λ l lived. record { node = is.node; shaped = is.shaped; lived = is.steps.lives l lived.lived };
      };
    }
