-- The fields of structures: each structure that a counted tree declares has one, and where a field of a name is.
use Rattle.std.proofs.Common.{◌≡◌, ◌∙◌, ap, List, [], ◌∷◌, length, map, sum_by, arith, ℕ, zero, suc, ◌+◌, ◌<◌, ◌≤◌, get_or, drop, cond, Some, Bool, IsTrue, refl, add-one, ◌&&◌}
use Rattle.std.proofs.lemmas.List.{length-map}
use Rattle.std.proofs.lemmas.List.Concat.{length-flat_map}
use Rattle.lus_values.specs.Lists.{Each}
use Rattle.lus_syntax.specs.Trees.{TypeName, Fields, Definition, StructureOf, TypeDeclaration, Tree}
use Rattle.lus_program.specs.declared.types.Kind.{Kind}
use Rattle.lus_program.specs.Programs.{Field}
use Rattle.lus_source.specs.Meaning.{program_of}
use Rattle.lus_source.specs.Sized.{Counted, DefinitionCounted, field_count}
use Rattle.lus_program.specs.Sound.{HasFields, HaveFields}
use Rattle.lus_source.specs.Tables.{declared_as, fields_by, fields_of_kind, kind_named}
use Rattle.std.specs.Prelude.{slice_get, string_bytes}
use Rattle.std.specs.List.{list_all}
use Rattle.std.specs.Str.{bytes_eq}
use Rattle.lus_program.specs.declared.types.Declared.{Declared as StoredDeclared}
use Rattle.lus_program.specs.declared.types.Field.{Field as StoredField}
use Rattle.lus_program.specs.View.{declared_of, field_of}
use Rattle.lus_program.specs.Kinds.{fields_in}
use Rattle.lus_source.specs.Labels.{field_from, has_few_fields}
use Rattle.std.proofs.lemmas.Bool.{leb-true}
use Rattle.lus_values.proofs.Equalities.{and_left, and_right}
use Rattle.lus_source.proofs.Lookups.{drop_step}

pub length-fields_by : (kind : TypeName → Kind) (fs : List Fields) → length (fields_by kind fs) ≡ field_count fs
length-fields_by kind fs =
    length-flat_map (λ g. fields_of_kind g.names (kind g.type_name)) fs ∙ ap (λ size. sum_by size fs) (λ i g. length-map {B = Field} g.names (λ n. record { name = n.text; kind = kind g.type_name }) i)

module _ (p : Tree) where
  declared_full : (d : Definition) → DefinitionCounted d → HasFields (declared_as p d)
  declared_full (StructureOf fs) h = let some = h.0 in let many = length-fields_by (kind_named p) fs in omega (arith, some, many)
  declared_full d h = tt

  all_full : (ds : List TypeDeclaration) → Each (λ d. DefinitionCounted d.definition) ds → Each HasFields (map (λ d. declared_as p d.definition) ds)
  all_full [] h = tt
  all_full (d ∷ ds) h = (declared_full d.definition h.0, all_full ds h.1)

pub meant_fields : (t : Tree) → Counted t → HaveFields (program_of t)
meant_fields t counted = all_full t t.types counted.definitions

pub field_step : (fs : List StoredField) (i : ℕ) (f : StoredField) (n : List ℕ) → i < length fs → f ≡ get_or fs i f
    → field_from i (map field_of (drop i fs)) n ≡ cond (bytes_eq n (string_bytes f.name)) (Some (record { place = i; kind = f.kind })) (field_from (i + 1) (map field_of (drop (i + 1) fs)) n)
field_step fs i f n lt is = ap (λ (l : List StoredField). field_from i (map field_of l) n) (drop_step fs i f lt is) ∙ rw (add-one i) refl

few_of_first : (x : StoredDeclared) (rest : Bool) → IsTrue (has_few_fields (declared_of x) && rest) → length (fields_in (declared_of x)) ≤ 64
few_of_first x rest h = leb-true _ _ (and_left (has_few_fields (declared_of x)) rest h)

pub few_fields_at : (ds : List StoredDeclared) (t : ℕ) (d : StoredDeclared) → IsTrue (list_all has_few_fields (map declared_of ds)) → slice_get ds t ≡ Some d → length (fields_in (declared_of d)) ≤ 64
few_fields_at [] t d all is = cc
few_fields_at (x ∷ ds) zero d all is = let e : x ≡ d = cc in rw (← e) (few_of_first x _ all)
few_fields_at (x ∷ ds) (suc t) d all is = few_fields_at ds t d (and_right (has_few_fields (declared_of x)) _ all) is
