-- A call after looks that made no entry.
use Rattle.std.specs.Prelude.{Result, Ok, Err, IfOk}
use Rattle.std.proofs.Common.{refl}
use Rattle.lus_shared.specs.Knowledge.{Standing}
use Rattle.lus_shared.specs.Views.{IsLater}
use Rattle.lus_shared.proofs.Lists.{prefix_self}

-- what holds of an answer follows from what else holds of it
pub ok_implies : {A E : Type 0} (P Q : A → Type 0) → ((a : A) → P a → Q a) → (r : Result A E) → IfOk r P → IfOk r Q
ok_implies P Q f (Ok a) h = f a h
ok_implies P Q f (Err e) h = h

pub later_self : (v : Standing) → IsLater v v
later_self v = record { instance = refl; same_number = refl; mine = refl; begins = prefix_self v.seen }
