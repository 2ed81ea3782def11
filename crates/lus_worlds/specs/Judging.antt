-- Which part of a node is at fault at an instant, or that none is, in the called nodes either.
use Rattle.std.specs.Prelude.{◌≡◌, ◌⊎◌, ℕ, Bool, List, [], ◌∷◌, map, slice_get, Option, None, Some, MatchOption}
use Rattle.lus_values.specs.Lists.{Each}
use Rattle.lus_values.specs.Values.{Row}
use Rattle.lus_program.specs.Programs.{Program}
use Rattle.lus_streams.specs.Streams.{Instant, instant, World, HasValue}
use Rattle.lus_attempts.specs.Attempts.{IsAtFault}
use Rattle.lus_parts.specs.declared.part.Part.{Part as StoredPart}
use Rattle.lus_parts.specs.Parts.{part_of}
use Rattle.lus_reference.specs.Causes.{IsCause}
use Rattle.lus_reference.specs.Kept.{Keeps}
use Rattle.lus_worlds.specs.declared.moment.Fault.{Fault}
use Rattle.lus_worlds.specs.declared.moment.Moment.{Moment}
use Rattle.lus_worlds.specs.Moments.{called_of, fault_in, cause_in}

abbrev pub EachFaultless : List Moment → Type 0
EachFaultless ms = Each (λ m. fault_in m ≡ None) ms

-- the fault of the instant of a call, behind the call's number
pub record IsFaultBelow (ms : List Moment) (t : Fault) : Type 0 where
  pub number : ℕ
  pub moment : Moment
  pub there : slice_get ms number ≡ Some moment
  pub fault : Fault
  pub said : fault_in moment ≡ Some fault
  pub way : t.way.items ≡ number ∷ fault.way.items
  pub place : t.place ≡ fault.place
  pub cause : cause_in t ≡ cause_in fault

module _ (p : Program) (present : Bool) (row : Row) (es : List StoredPart) (kept : Row) (ms : List Moment) where
  abbrev pub now_with : Instant
  now_with = instant present row (called_of ms)

  abbrev pub NoFaultHere : Type 0
  NoFaultHere = (past : World) → Keeps p past (map part_of es) kept → Each (λ e. HasValue p e now_with past) (map part_of es)

  -- a part of the node itself, at its place in the source
  pub record IsFaultHere (t : Fault) : Type 0 where
    pub part : StoredPart
    pub number : ℕ
    pub there : slice_get es number ≡ Some part
    pub at_fault : (past : World) → Keeps p past (map part_of es) kept → IsAtFault p (part_of part) now_with past
    pub cause : MatchOption (cause_in t) (Unit {0}) (λ c. (past : World) → Keeps p past (map part_of es) kept → IsCause p c (part_of part) now_with past)
    pub way : t.way.items ≡ []
    pub place : t.place ≡ part.expr.now.place

  abbrev pub IsFault : Fault → Type 0
  IsFault t = IsFaultHere t ⊎ IsFaultBelow ms t

  -- the fault that was found, or none is at fault, in the called nodes either
  abbrev pub IsJudged : Option Fault → Type 0
  IsJudged o = MatchOption o (NoFaultHere × EachFaultless ms) IsFault
