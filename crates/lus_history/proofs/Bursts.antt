-- Rows run through one after another.
use Rattle.std.proofs.Common.{◌≡◌, ℕ, List, [], ◌∷◌, ◌++◌, refl, sym, subst, inl, inr}
use Rattle.lus_values.specs.Values.{Row}
use Rattle.lus_program.specs.Programs.{Program}
use Rattle.lus_requests.specs.declared.request.Reply.TheVariants.{Outputs, Refused}
use Rattle.lus_requests.specs.declared.request.Why.{Why}
use Rattle.lus_simulation.specs.Lineages.{Lineage}
use Rattle.lus_history.specs.Pasts.{joined}
use Rattle.lus_history.specs.Replies.{AnswersStep, GiveOutputs, HasRefused}
use Rattle.lus_history.specs.Keeping.{RunsThrough, Refuses}

pub joined-more : (rows : List Row) (i : Row) (lineage : Lineage) → joined (rows ++ i ∷ []) lineage ≡ i ∷ joined rows lineage
joined-more [] i lineage = refl
joined-more (j ∷ rows) i lineage = joined-more rows i (j ∷ lineage)

module _ (p : Program) (f : ℕ) where
  give_more : (lineage : Lineage) (rows outputs : List Row) (i o : Row) → GiveOutputs p f lineage rows outputs
      → AnswersStep p f (joined rows lineage) i (Outputs o) → GiveOutputs p f lineage (rows ++ i ∷ []) (outputs ++ o ∷ [])
  give_more lineage [] [] i o h k = (k, tt)
  give_more lineage [] (x ∷ outputs) i o h k = absurd h
  give_more lineage (j ∷ rows) [] i o h k = absurd h
  give_more lineage (j ∷ rows) (x ∷ outputs) i o h k = (h.0, give_more (j ∷ lineage) rows outputs i o h.1 k)

  refused_behind : (lineage : Lineage) (rows outputs rest : List Row) (i : Row) (why : Why) → GiveOutputs p f lineage rows outputs
      → AnswersStep p f (joined rows lineage) i (Refused why) → HasRefused p f lineage (rows ++ i ∷ rest) why
  refused_behind lineage [] outputs rest i why h k = inl k
  refused_behind lineage (j ∷ rows) [] rest i why h k = absurd h
  refused_behind lineage (j ∷ rows) (x ∷ outputs) rest i why h k = inr (x, h.0, refused_behind (j ∷ lineage) rows outputs rest i why h.1 k)

module _ {X : Type 0} (p : Program) (f : ℕ) (Lived : X → Lineage → Type 0) (s : X) where
  pub runs_none : RunsThrough p f Lived s [] [] s
  runs_none = record { gives = λ l lived. tt; lives = λ l lived. lived }

  module _ (rows outputs : List Row) (now : X) (runs : RunsThrough p f Lived s rows outputs now) (i : Row) where
    pub runs_more : (o : Row) (next : X) → ((l : Lineage) → Lived now l → AnswersStep p f l i (Outputs o)) → ((l : Lineage) → Lived now l → Lived next (i ∷ l))
        → RunsThrough p f Lived s (rows ++ i ∷ []) (outputs ++ o ∷ []) next
    runs_more o next gives lives = record {
      gives = λ l lived. give_more p f l rows outputs i o (runs.gives l lived) (gives (joined rows l) (runs.lives l lived));
      lives = λ l lived. subst (Lived next) (sym (joined-more rows i l)) (lives (joined rows l) (runs.lives l lived));
    }

    pub refuses_behind : (rest : List Row) (why : Why) → ((l : Lineage) → Lived now l → AnswersStep p f l i (Refused why)) → Refuses p f Lived s (rows ++ i ∷ rest) why
    refuses_behind rest why refused = λ l lived. refused_behind p f l rows outputs rest i why (runs.gives l lived) (refused (joined rows l) (runs.lives l lived))
