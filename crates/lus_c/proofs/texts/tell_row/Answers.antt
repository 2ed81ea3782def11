-- Leaves that couldn't be read are no row's that could.
use Rattle.std.proofs.Common.{refl, inr}
use Rattle.std.proofs.lemmas.Option.{none-some}
use Rattle.lus_c.proofs.texts.tell_row.Goals as goal

pub returns-in-Ok-None : goal.returns-in-Ok-None
returns-in-Ok-None c =
    let only = rw c.in-Ok-None.field-0-is at c.in-Ok-None.ensures.only in
    inr (record { told = λ row f e. absurd (none-some row (only row f e)); none = λ h. refl })
