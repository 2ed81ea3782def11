-- What a handle owns.
use Rattle.std.specs.Prelude.{◌==◌, IsTrue, ℕ, zero, suc, Bool, true, false, Option, None, Some}
use base.Fml.{Fml, ftrue}
use base.Stored.{Coded}
use denote.RawPtr.{Ptr}
use Rattle.std.specs.Coded.{coded_option}
use Rattle.std.specs.Box.Ownership.{box_owns}
use Rattle.std.specs.Global.{Global}
use Rattle.std_heap.specs.contracts.GlobalAllocator.TheImpl.{ghosts}
use Rattle.lus_foreign.specs.contracts.content.Content.{the_row}

abbrev pub kept_owns : Global → Ptr → Option the_row.Denot → Fml
kept_owns alloc p None = ftrue
kept_owns alloc p (Some x) = box_owns (ghosts.dealloc_token alloc) the_row p x

abbrev pub kept_coded : Coded (Option the_row.Denot)
kept_coded = coded_option the_row.coded

abbrev pub is_live : ℕ → Bool
is_live zero = false
is_live (suc n) = true

abbrev pub has_content : Option the_row.Denot → Bool
has_content None = false
has_content (Some x) = true

-- the number HANDLE
abbrev pub IsHandle : ℕ → Type 0
IsHandle n = IsTrue (n == 8)
