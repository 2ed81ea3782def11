-- Instances that are observed, behind an entry.
use Rattle.std.proofs.Common.{◌≡◌, ◌∙◌, ◌++◌, ℕ, Bool, true, sym, subst, List, [], ◌∷◌}
use Rattle.std.proofs.lemmas.Bool.{true≢false}
use Rattle.lus_program.specs.Programs.{Program}
use Rattle.lus_requests.specs.declared.request.Entry.{Entry}
use Rattle.lus_live_instance.specs.Lives.{IsLive}
use Rattle.lus_live_instance.specs.MachineSpecs.Machines.{Told}
use Rattle.lus_lawful.specs.Observed.{IsObserved}

module _ (Seen New : Program → ℕ → List Entry → Type 0) (p : Program) (f : ℕ) (m n : Told) (q : Program) (g : ℕ) (is_lost : Bool)
    (o : IsObserved p f (Seen p f) m q g is_lost) (same : IsLive p f m → IsLive p f n) where
  -- the entry was seen
  pub seen_more : (r : Program) (e : Entry) → r ≡ q → n.history ≡ m.history ++ e ∷ [] → ((h : List Entry) → Seen r g h → New r g (h ++ e ∷ []))
      → IsObserved p f (New p f) n q g is_lost
  seen_more r e is entered sees =
      let here = subst (λ (x : Program). (h : List Entry) → Seen x g h → New x g (h ++ e ∷ [])) (is ∙ o.program_is) sees in
      let so = subst (λ k. (h : List Entry) → Seen p k h → New p k (h ++ e ∷ [])) o.node_is here in
      record {
        live = same o.live;
        program_is = o.program_is;
        node_is = o.node_is;
        seen = λ kept. subst (New p f) (sym entered) (so m.history (o.seen kept));
      }

  -- there was no memory for it
  pub seen_no_more : IsObserved p f (New p f) n q g true
  seen_no_more = record {
    live = same o.live;
    program_is = o.program_is;
    node_is = o.node_is;
    seen = λ kept. absurd (true≢false kept);
  }
