-- The columns of a variable, by its type.
use Rattle.std.proofs.Common.{◌≡◌, ◌∙◌, ◌-◌, ◌<◌, ℕ, zero, suc, refl, ap, sym, List, [], ◌∷◌, flat_map, Some, None, arith}
use Rattle.lus_syntax.specs.Limits.{most_nesting}
use Rattle.lus_values.specs.Names.{Text}
use Rattle.lus_program.specs.declared.types.Kind.{Kind}
use Rattle.lus_program.specs.Programs.{Field, Program, Variable}
use Rattle.lus_scripts.specs.Scripts.{fields_at}
use Rattle.lus_records.specs.Columns.{columns_at, columns_by, columns_of, field_column}

no_columns : {X Y : Type 0} (xs : List X) → flat_map (λ (x : X). let none : List Y = [] in none) xs ≡ []
no_columns [] = refl
no_columns (x ∷ xs) = no_columns xs

module _ (p : Program) (kind : Kind) (column : Text) where
  pub plain_column : (levels : ℕ) → fields_at p (Some kind) ≡ None → columns_at levels p kind column ≡ column ∷ []
  plain_column zero none = ap (columns_by (λ k c. []) column) none
  plain_column (suc levels) none = ap (columns_by (columns_at levels p) column) none

  pub spent_columns : (levels : ℕ) (fields : List Field) → levels ≡ 0 → fields_at p (Some kind) ≡ Some fields → columns_at levels p kind column ≡ []
  spent_columns zero fields none some = ap (columns_by (λ k c. []) column) some ∙ no_columns fields
  spent_columns (suc levels) fields none some = absurd (omega arith)

  pub field_columns : (levels : ℕ) (fields : List Field) → 0 < levels → fields_at p (Some kind) ≡ Some fields
      → columns_at levels p kind column ≡ flat_map (λ f. columns_at (levels - 1) p f.kind (field_column column f.name)) fields
  field_columns zero fields some is = absurd (omega arith)
  field_columns (suc levels) fields some is =
      let less : levels ≡ suc levels - 1 = omega arith in
      ap (columns_by (columns_at levels p) column) is
      ∙ ap (λ n. flat_map (λ f. columns_at n p f.kind (field_column column f.name)) fields) less

pub columns_of-is : (levels : ℕ) (p : Program) (v : Variable) → levels ≡ most_nesting → columns_of p v ≡ columns_at levels p v.kind v.name
unfolding columns_of
columns_of-is levels p v is = ap (λ n. columns_at n p v.kind v.name) (sym is)
