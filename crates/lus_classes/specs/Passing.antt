-- Calls that pass inputs on the clocks of the called class.
use Rattle.std.specs.Prelude.{◌≡◌, ℕ, true, List, map, Some, slice_get}
use Rattle.lus_values.specs.Values.{Row}
use Rattle.lus_classes.specs.Steps.{is_on_row, passed}
use Rattle.lus_classes.specs.Played.{GivenOnClocks}
use Rattle.lus_instructions.specs.declared.class.Call.{Call}
use Rattle.lus_instructions.specs.declared.class.Class.{Class}
use Rattle.lus_classes.specs.Looks.{newest, short_argument, short_of}

-- wherever its base is present a call of one class passes inputs that are on the clocks of the other
abbrev pub PassesGiven : Class → Call → Class → Type 0
PassesGiven c q e =
    (r : Row) → GivenOnClocks (short_of c) r → is_on_row (newest q.base) r ≡ true
    → GivenOnClocks (short_of e) (passed (map short_argument q.arguments.items) r)

-- and so does each call of each class
abbrev pub PassGiven : List Class → Type 0
PassGiven classes =
    (g n : ℕ) (c e : Class) (q : Call) → slice_get classes g ≡ Some c → slice_get c.calls.items n ≡ Some q → slice_get classes q.node ≡ Some e
    → PassesGiven c q e
