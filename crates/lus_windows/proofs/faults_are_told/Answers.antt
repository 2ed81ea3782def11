-- Behind a history there are streams, and a request that is rightly refused for a fault has a row that is.
use Rattle.std.proofs.Common.{◌⊎◌, inl, inr, [], append-nil, sym}
use Rattle.lus_history.specs.Pasts.{past_of}
use Rattle.lus_windows.proofs.Lawful.{history_has}
use Rattle.lus_windows.proofs.Told.{refused_for}
use Rattle.lus_windows.proofs.faults_are_told.Goals as goal

told : {A B : Type 0} → (B → ⊥) → A ⊎ B → A
told none (inl a) = a
told none (inr b) = absurd (none b)

pub returns : goal.returns
returns c = λ p f names h request old new is right says.
    let has = history_has p f h h [] is (sym (append-nil h)) in
    told (λ untold. untold.1 has.1 has.0.0 has.0.1 (refused_for p f (past_of h) request right)) says
