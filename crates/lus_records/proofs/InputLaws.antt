-- The values of inputs, by their types.
use Rattle.std.proofs.Common.{◌≡◌, ◌∙◌, ◌-◌, ◌<◌, ℕ, zero, suc, ap, sym, List, Some, None, option_map, arith, if◌then◌else◌}
use Rattle.std.specs.Prelude.{is_some}
use Rattle.lus_syntax.specs.Limits.{most_nesting}
use Rattle.lus_values.specs.Names.{Names, Text}
use Rattle.lus_values.specs.Values.{fields_of, struct}
use Rattle.lus_program.specs.declared.types.Kind.{Kind}
use Rattle.lus_program.specs.Programs.{Field, Program, Variable}
use Rattle.lus_asked.specs.Reading.{word_value}
use Rattle.lus_scripts.specs.Forms.{each}
use Rattle.lus_scripts.specs.Scripts.{fields_at}
use Rattle.lus_records.specs.Columns.{field_column}
use Rattle.lus_records.specs.Records.{value_at, value_by, value_in}

module _ (p : Program) (names : Names) (cell : Text → Text) (kind : Kind) (column : Text) where
  pub plain_value : (levels : ℕ) → fields_at p (Some kind) ≡ None → value_at levels p names cell kind column ≡ word_value names (cell column)
  plain_value zero none = ap (λ o. if is_some o then None else word_value names (cell column)) none
  plain_value (suc levels) none = ap (value_by (value_at levels p names cell) column (word_value names (cell column))) none

  pub spent_value : (levels : ℕ) (fields : List Field) → levels ≡ 0 → fields_at p (Some kind) ≡ Some fields → value_at levels p names cell kind column ≡ None
  spent_value zero fields none some = ap (λ o. if is_some o then None else word_value names (cell column)) some
  spent_value (suc levels) fields none some = absurd (omega arith)

  pub structure_value : (levels : ℕ) (fields : List Field) → 0 < levels → fields_at p (Some kind) ≡ Some fields
      → value_at levels p names cell kind column
      ≡ option_map (λ vs. struct (fields_of vs)) (each (λ f. value_at (levels - 1) p names cell f.kind (field_column column f.name)) fields)
  structure_value zero fields some is = absurd (omega arith)
  structure_value (suc levels) fields some is =
      let less : levels ≡ suc levels - 1 = omega arith in
      ap (value_by (value_at levels p names cell) column (word_value names (cell column))) is
      ∙ ap (λ n. option_map (λ vs. struct (fields_of vs)) (each (λ f. value_at n p names cell f.kind (field_column column f.name)) fields)) less

pub value_in-is : (levels : ℕ) (p : Program) (names : Names) (cell : Text → Text) (v : Variable) → levels ≡ most_nesting
    → value_in p names cell v ≡ value_at levels p names cell v.kind v.name
unfolding value_in
value_in-is levels p names cell v is = ap (λ n. value_at n p names cell v.kind v.name) (sym is)
