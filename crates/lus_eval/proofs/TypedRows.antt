-- Rows that are too short or too long, and structures, against types.
use Rattle.std.proofs.Common.{◌≡◌, ◌∙◌, false, ◌&&◌, List, [], ◌∷◌, Vec, Global, Option, length, suc, map, refl, ap}
use Rattle.std.proofs.Math.Bool.{and-false}
use Rattle.lus_values.specs.declared.value.Value.{Value as StoredValue, Struct}
use Rattle.lus_values.specs.Values.{fields_of}
use Rattle.lus_values.specs.View.{value_of, entry_of}
use Rattle.lus_values.proofs.Views.{struct_fields}
use Rattle.lus_program.specs.declared.types.Kind.{Kind}
use Rattle.lus_program.specs.declared.types.Kind.TheVariants as kinds
use Rattle.lus_program.specs.declared.types.Field.{Field as StoredField}
use Rattle.lus_program.specs.declared.node.Variable.{Variable as StoredVariable}
use Rattle.lus_program.specs.Programs.{Program, Field}
use Rattle.lus_program.specs.View.{field_of}
use Rattle.lus_program.specs.Kinds.{fields_in}
use Rattle.lus_program.specs.Resolved.{declared_in}
use Rattle.lus_code.specs.SimulationSpecs.Fitting.{is_of, are_of, entry_fits}
use Rattle.lus_eval.specs.TypedRows.{values_fit, entries_fit}

module _ (p : Program) where
  pub values_fit-lengths : (fs : List StoredField) (vs : List StoredValue) → (length vs ≡ length fs → ⊥) → values_fit p fs vs ≡ false
  values_fit-lengths [] [] h = absurd (h refl)
  values_fit-lengths [] (v ∷ vs) h = refl
  values_fit-lengths (f ∷ fs) [] h = refl
  values_fit-lengths (f ∷ fs) (v ∷ vs) h = ap (λ b. is_of p f.kind (value_of v) && b) (values_fit-lengths fs vs (λ e. h (ap suc e))) ∙ and-false (is_of p f.kind (value_of v))

  pub entries_fit-lengths : (xs : List StoredVariable) (es : List (Option StoredValue)) → (length es ≡ length xs → ⊥) → entries_fit p xs es ≡ false
  entries_fit-lengths [] [] h = absurd (h refl)
  entries_fit-lengths [] (e ∷ es) h = refl
  entries_fit-lengths (x ∷ xs) [] h = refl
  entries_fit-lengths (x ∷ xs) (e ∷ es) h = ap (λ b. entry_fits p x.kind (entry_of e) && b) (entries_fit-lengths xs es (λ j. h (ap suc j))) ∙ and-false (entry_fits p x.kind (entry_of e))

  -- a structure is of the type whose fields its values fit
  pub structure_fits : (v : StoredValue) (vs : Vec StoredValue Global) (k : Kind) (n : _) (fs : List StoredField) → v ≡ Struct vs → k ≡ kinds.Struct n
      → map field_of fs ≡ fields_in (declared_in p n) → values_fit p fs vs.items ≡ is_of p k (value_of v)
  structure_fits v vs k n fs is kind declared = rw (is, kind, struct_fields vs) (ap (λ (ds : List Field). are_of p (map (λ d. d.kind) ds) (fields_of (map value_of vs.items))) declared)
