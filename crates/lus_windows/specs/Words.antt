-- What is said of parts at fault.
use Rattle.std.specs.Prelude.{◌≡◌, ◌⊎◌, ◌++◌, List, [], ◌∷◌, codes, Option, None, Some}
use Rattle.std.specs.Fmt.{decimal}
use Rattle.lus_syntax.specs.declared.token.Place.{Place}
use Rattle.lus_values.specs.Names.{Names, Text}
use Rattle.lus_values.specs.Text.{text_of}
use Rattle.lus_values.specs.Values.{Value}
use Rattle.lus_reference.specs.Causes.{Operation}
use Rattle.lus_worlds.specs.Moments.{cause_in}
use Rattle.lus_worlds.specs.declared.moment.Fault.{Fault}

-- values, the first behind this text and each later one behind a comma and a blank
abbrev pub listed : Names → Text → List Value → Text
listed names before [] = []
listed names before (v ∷ vs) = before ++ text_of names v ++ listed names (codes ", ") vs

abbrev pub place_text : Place → Text
place_text place = codes "line " ++ decimal place.line ++ codes ", column " ++ decimal place.column

-- a sign between the values of two operands, or before those of all
abbrev pub infix_text : Names → (sign : Text) → Value → Value → Text
infix_text names sign v w = text_of names v ++ codes " " ++ sign ++ codes " " ++ text_of names w

abbrev pub listed_text : Names → (sign : Text) → List Value → Text
listed_text names sign vs = sign ++ codes " " ++ listed names [] vs

-- an operation was appended, with the values of its operands
abbrev pub SaysOperation : Names → Operation → (old new : Text) → Type 0
SaysOperation names o old new =
    ((sign : Text) × (v w : Value) × (o.1 ≡ v ∷ w ∷ []) × (new ≡ old ++ infix_text names sign v w))
    ⊎ ((sign : Text) × (new ≡ old ++ listed_text names sign o.1))

abbrev pub SaysCause : Names → Option Operation → (old new : Text) → Type 0
SaysCause names None old new = new ≡ old ++ codes "an expression"
SaysCause names (Some o) old new = SaysOperation names o old new

-- the operation that has no value was appended, with the values of its operands and with its place, and further words
abbrev pub SaysFault : Names → Fault → (old new : Text) → Type 0
SaysFault names t old new = (mid rest : Text) × SaysCause names (cause_in t) old mid × (new ≡ mid ++ codes " at " ++ place_text t.place ++ rest)
