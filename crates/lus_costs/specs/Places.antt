-- How many bytes a place of a row takes.
use Rattle.std.specs.Prelude.{ℕ, Bool, true, false, if◌then◌else◌}
use Rattle.std.specs.List.{list_any}
use Rattle.lus_program.specs.declared.node.Program.{Program}
use Rattle.lus_program.specs.declared.types.Declared.{Declared}
use Rattle.lus_program.specs.declared.types.Declared.TheVariants as declared
use Rattle.lus_costs.specs.declared.cost.TheConstants.{ENTRY_BYTES, WORD_BYTES}

abbrev pub is_structure : Declared → Bool
is_structure (declared.Structure fields) = true
is_structure (declared.Enumeration names) = false
is_structure (declared.Alias kind) = false

abbrev pub has_structure : Program → Bool
has_structure p = list_any is_structure p.types.items

-- as a word where no type is a structure, else as an entry
abbrev pub place_bytes : Program → ℕ
place_bytes p = if has_structure p then ENTRY_BYTES else WORD_BYTES
