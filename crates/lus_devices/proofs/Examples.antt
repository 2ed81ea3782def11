-- The text of small journals, worked by computation: each request and reply, and each refusal with a text that isn't its own.
use Rattle.std.proofs.Common.{◌≡◌, ℕ, true, false, pos, negsuc, List, [], ◌∷◌, Some, None, codes, refl, true≢false, ap}
use Rattle.std.specs.Fmt.{digits}
use Rattle.std.specs.Str.{bytes_eq}
use Rattle.lus_values.specs.Names.{Text, Names}
use Rattle.lus_values.specs.Values.{bool, int, enum, struct, end, field, Row}
use Rattle.lus_requests.specs.declared.request.Request.{Request}
use Rattle.lus_requests.specs.declared.request.Request.TheVariants.{Step, Reset, Save, Restore, Burst}
use Rattle.lus_requests.specs.declared.request.Reply.{Reply}
use Rattle.lus_requests.specs.declared.request.Reply.TheVariants.{Outputs, Rows, Done, Refused}
use Rattle.lus_requests.specs.declared.request.Why.TheVariants.{Shape, Presence, Fault, NoSave}
use Rattle.lus_requests.specs.declared.request.Entry.{Entry}
use Rattle.lus_devices.specs.Journals.{journals_text, line_text, why_text}

-- type e = enum { A, B }
abbrev names : Names
names = (codes "A" ∷ codes "B" ∷ []) ∷ []

abbrev callers : List Text
callers = codes "a" ∷ codes "b" ∷ []

abbrev entry : ℕ → Request → Reply → Entry
entry c r a = record { caller = c; request = r; reply = a }

abbrev number : ℕ → Row
number n = Some (int (pos n)) ∷ []

abbrev line : ℕ → Entry → Text
line n e = line_text names callers n e

-- y = x + (0 -> pre y)
saving : journals_text names callers (record {
  instance = codes "k";
  node = codes "s";
  entries = entry 0 (Step (number 1)) (Outputs (number 1)) ∷ entry 0 (Save 0) Done ∷ entry 0 (Step (number 5)) (Outputs (number 6))
      ∷ entry 0 (Restore 0) Done ∷ entry 1 (Step (number 2)) (Outputs (number 3)) ∷ entry 0 (Restore 3) (Refused NoSave)
      ∷ entry 0 (Save 8) (Refused Shape) ∷ entry 1 Reset Done ∷ [];
} ∷ [])
    ≡ codes "instance k s\n1 a step(1) -> (1)\n2 a save 0 -> done\n3 a step(5) -> (6)\n4 a restore 0 -> done\n5 b step(2) -> (3)\n6 a restore 3 -> refused nosave\n7 a save 8 -> refused shape\n8 b reset -> done\nentries 8\n"
unfolding digits
saving = refl

-- an instance without entries, and two instances one behind the other
two_instances : journals_text names callers (record { instance = codes "k"; node = codes "t"; entries = [] }
    ∷ record { instance = codes "l"; node = codes "t"; entries = entry 1 (Step []) (Outputs (number 0)) ∷ [] } ∷ [])
    ≡ codes "instance k t\nentries 0\ninstance l t\n1 b step() -> (0)\nentries 1\n"
unfolding digits
two_instances = refl

-- y = merge k (A -> a) (B -> b): constructors by their names, absent items as `-`
merged : line 1 (entry 0 (Step (Some (enum 0 0) ∷ Some (int (pos 1)) ∷ None ∷ [])) (Outputs (number 1))) ≡ codes "1 a step(A, 1, -) -> (1)\n"
unfolding digits
merged = refl

misplaced : line 2 (entry 0 (Step (Some (enum 0 1) ∷ Some (int (pos 1)) ∷ Some (int (pos 2)) ∷ [])) (Refused Presence)) ≡ codes "2 a step(B, 1, 2) -> refused presence\n"
unfolding digits
misplaced = refl

faulted : line 2 (entry 0 (Step (number 0)) (Refused Fault)) ≡ codes "2 a step(0) -> refused fault\n"
unfolding digits
faulted = refl

-- negative numbers, truth values, structures, and a burst of two rows
values : line 10 (entry 0 (Step (Some (int (negsuc 3)) ∷ Some (bool true) ∷ Some (struct (field (int (pos 1)) (field (bool false) end))) ∷ [])) (Outputs []))
    ≡ codes "10 a step(-4, true, {1; false}) -> ()\n"
unfolding digits
values = refl

burst : line 3 (entry 1 (Burst (number 1 ∷ number 5 ∷ [])) (Rows (number 1 ∷ number 6 ∷ []))) ≡ codes "3 b burst((1), (5)) -> ((1), (6))\n"
unfolding digits
burst = refl

-- no refusal is told as another
refusals_differ : bytes_eq (why_text Shape) (why_text Presence) ≡ false
refusals_differ = refl

fault_is_no_save : bytes_eq (why_text Fault) (why_text NoSave) ≡ false
fault_is_no_save = refl

-- the count isn't the number of the last line but one
counted : journals_text names callers (record { instance = codes "k"; node = codes "t"; entries = entry 0 Reset Done ∷ [] } ∷ [])
    ≡ codes "instance k t\n1 a reset -> done\nentries 0\n" → ⊥
unfolding digits
counted e = true≢false (ap (bytes_eq (codes "instance k t\n1 a reset -> done\nentries 1\n")) e)
