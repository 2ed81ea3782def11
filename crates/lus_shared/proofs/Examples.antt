-- The calls of one caller among others', worked by computation.
use Rattle.std.proofs.Common.{◌≡◌, ℕ, List, [], ◌∷◌, refl}
use Rattle.lus_requests.specs.declared.request.Request.{Request}
use Rattle.lus_requests.specs.declared.request.Request.TheVariants.{Reset, Save, Restore}
use Rattle.lus_requests.specs.declared.request.Reply.{Reply}
use Rattle.lus_requests.specs.declared.request.Reply.TheVariants.{Done, Refused}
use Rattle.lus_requests.specs.declared.request.Why.TheVariants.{NoSave}
use Rattle.lus_requests.specs.declared.request.Entry.{Entry}
use Rattle.lus_shared.specs.Knowledge.{Call, kept}

abbrev entry : ℕ → Request → Reply → Entry
entry c r a = record { caller = c; request = r; reply = a }

abbrev call : Request → Reply → Call
call r a = record { request = r; reply = a }

abbrev three_callers : List Entry
three_callers = entry 0 (Save 0) Done ∷ entry 1 Reset Done ∷ entry 0 (Restore 3) (Refused NoSave) ∷ entry 2 (Save 0) Done ∷ []

kept_in_order : kept three_callers 0 ≡ call (Save 0) Done ∷ call (Restore 3) (Refused NoSave) ∷ []
kept_in_order = refl

kept_alone : kept three_callers 1 ≡ call Reset Done ∷ []
kept_alone = refl

kept_of_nobody : kept three_callers 3 ≡ []
kept_of_nobody = refl
