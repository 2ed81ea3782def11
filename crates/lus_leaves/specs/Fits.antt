-- The rows that leaves can be read as.
use Rattle.std.specs.Prelude.{◌==◌, ◌<◌, ◌-◌, ℕ, zero, suc, ℤ, pos, negsuc, true, false, not, List, Option, None, Some, if◌then◌else◌, nat_lt}
use Rattle.std.specs.List.{AllByRecursion}
use Rattle.lus_values.specs.Values.{Value, bool, int, enum, struct, nil, Fields, end, field, Row}
use Rattle.lus_values.specs.View.{entry_of}
use Rattle.lus_leaves.specs.declared.leaf.Leaf.{Leaf}
use Rattle.lus_leaves.specs.declared.reading.Single.{Single}
use Rattle.lus_leaves.specs.declared.reading.Single.TheVariants.{Entry, Head, Wrong}
use Rattle.lus_leaves.specs.Leaves.{count}

-- no nil, structures at most so deep and of fewer than 2 ^ 32 fields, and constructors below 2 ^ 32
abbrev mutual
  pub ValueFits : ℕ → Value → Type 0
  ValueFits depth (bool b) = Unit {0}
  ValueFits depth (int z) = Unit {0}
  ValueFits depth (enum type constructor) = constructor < 4294967296
  ValueFits depth (struct fs) = (0 < depth) × (count fs < 4294967296) × FieldsFit (depth - 1) fs
  ValueFits depth nil = ⊥

  pub FieldsFit : ℕ → Fields → Type 0
  FieldsFit depth end = Unit {0}
  FieldsFit depth (field v fs) = ValueFits depth v × FieldsFit depth fs

abbrev pub EntryFits : ℕ → Option Value → Type 0
EntryFits depth None = Unit {0}
EntryFits depth (Some v) = ValueFits depth v

-- structures are at most 64 deep
abbrev pub RowFits : Row → Type 0
RowFits row = AllByRecursion (EntryFits 64) row

abbrev pub RowsFit : List Row → Type 0
RowsFit rows = AllByRecursion RowFits rows

-- a number that a count or a constructor can be
abbrev pub small_of : ℤ → Option ℕ
small_of (pos n) = if nat_lt n 4294967296 then Some n else None
small_of (negsuc n) = None

-- what a leaf is: an entry, the head of a structure of so many fields, or neither
pub data Piece : Type 0 where
  whole : Option Value → Piece
  head : ℕ → Piece
  neither : Piece

abbrev pub constructor_piece : ℕ → Option ℕ → Piece
constructor_piece type (Some n) = whole (Some (enum type n))
constructor_piece type None = neither

abbrev pub head_piece : Option ℕ → Piece
head_piece (Some n) = head n
head_piece None = neither

abbrev pub bool_piece : ℤ → Piece
bool_piece (pos zero) = whole (Some (bool false))
bool_piece (pos (suc zero)) = whole (Some (bool true))
bool_piece _ = neither

abbrev pub absent_piece : ℤ → Piece
absent_piece (pos zero) = whole None
absent_piece _ = neither

abbrev pub piece : Leaf → Piece
piece l =
    if l.kind == 3 then constructor_piece l.of (small_of l.number)
    else if not (l.of == 0) then neither
    else if l.kind == 2 then whole (Some (int l.number))
    else if l.kind == 1 then bool_piece l.number
    else if l.kind == 4 then head_piece (small_of l.number)
    else if l.kind == 0 then absent_piece l.number
    else neither

abbrev pub piece_of : Single → Piece
piece_of (Entry e) = whole (entry_of e)
piece_of (Head n) = head n
piece_of Wrong = neither
