-- What the code finds of names is what the source says.
use Rattle.std.proofs.Common.{add-one, ◌≡◌, ◌∙◌, refl, sym, ap, subst, ℕ, suc, ◌+◌, ◌≤◌, ◌&&◌, List, [], ◌∷◌, Option, Some, None, Bool, true, false, cond, IsTrue, map, length, option_map}
use Rattle.std.specs.List.{list_all, position_from, zip}
use Rattle.std.specs.Str.{bytes_eq}
use Rattle.std.proofs.lemmas.Bool.{le-leb}
use Rattle.lus_syntax.specs.Lexemes.{Text}
use Rattle.lus_syntax.specs.Trees.{TypeName, BoolName, IntName, DeclaredName, Definition, Alias, Enumeration, StructureOf, TypeDeclaration, Node, Tree}
use Rattle.lus_values.specs.Lists.{Each}
use Rattle.lus_program.specs.declared.types.Kind.{Kind}
use Rattle.lus_program.specs.declared.types.Kind.TheVariants as kinds
use Rattle.lus_source.specs.declared.scope.Tables.{Tables}
use Rattle.lus_source.specs.Scopes.{Scope, entry}
use Rattle.lus_source.specs.ScopeView.{kinds_seen, tables_seen}
use Rattle.lus_source.specs.Sources.{HasTables}
use Rattle.lus_source.specs.Loopless.{place_in, type_names}
use Rattle.lus_source.specs.Sized.{DefinitionCounted}
use Rattle.lus_source.specs.Tables.{all_constructors, all_declared_by, constants_by, declared_by, fields_by, group_kinds, groups, kind_at, kind_named, kinds_by, numbered_from, placed, scope, signatures_by, tables, types_by}
use Rattle.lus_source.specs.Labels.{has_few_fields}
use Rattle.lus_source.proofs.FieldsMeant.{length-fields_by}
use Rattle.lus_source.specs.Named.{names_in}
use Rattle.lus_source.specs.ByTable.{kind_in}
use Rattle.lus_source.proofs.Placing.{names-kinds_by, whole}

-- ---- types

entry-of_places : {X : Type 0} (f : ℕ → X) (k : ℕ) (ds : List TypeDeclaration) (n : Text)
    → entry (map (λ e. (e.0.name.text, f e.1)) (numbered_from k ds)) n ≡ option_map f (position_from (λ m. bytes_eq n m) k (map (λ d. d.name.text) ds))
entry-of_places f k [] n = refl
entry-of_places f k (d ∷ ds) n =
    ap (cond (bytes_eq n d.name.text) (Some (f k))) (entry-of_places f (suc k) ds n ∙ rw (add-one k) refl) ∙ cond_map (bytes_eq n d.name.text) (position_from (λ m. bytes_eq n m) (k + 1) (map (λ e. e.name.text) ds))
  where
    cond_map : (b : Bool) (r : Option ℕ) → cond b (Some (f k)) (option_map f r) ≡ option_map f (cond b (Some k) r)
    cond_map true r = refl
    cond_map false r = refl

kind_of_place : (f : ℕ → Kind) (o : Option ℕ) → ◌≡◌ {A = Kind} (elim (option_map f o) [ Some k ↦ k | None ↦ kinds.Bool ]) (elim o [ Some t ↦ f t | None ↦ kinds.Bool ])
kind_of_place f None = refl
kind_of_place f (Some t) = refl

module _ (p : Tree) where
  kind_in-table : (y : TypeName) → kind_in (tables p).types y ≡ kind_named p y
  kind_in-table (BoolName s) = refl
  kind_in-table (IntName s) = refl
  kind_in-table (DeclaredName n) =
      ap (λ (o : Option Kind). elim o as (λ _. Kind) [ Some k ↦ k | None ↦ kinds.Bool ]) (entry-of_places (kind_at p) 0 p.types n.text)
      ∙ kind_of_place (kind_at p) (place_in (type_names p) n.text)

  -- the types of the table are those that the names mean
  pub kind_in-tables : kind_in (tables p).types ≡ kind_named p
  kind_in-tables = λ i y. kind_in-table y i

-- ---- tables

-- what each table is made of
pub record IsMade (p : Tree) (s : Scope) : Type 0 where
  pub variables : s.variables ≡ []
  pub types : s.types ≡ types_by (kind_at p) p.types
  pub declared : s.declared ≡ all_declared_by (kind_in s.types) p.types
  pub constructors : s.constructors ≡ all_constructors p
  pub constants : s.constants ≡ constants_by s.constructors p.constants
  pub nodes : s.nodes ≡ signatures_by (kind_in s.types) p.nodes

kind_in-made : (p : Tree) (s : Scope) → IsMade p s → kind_in s.types ≡ kind_named p
kind_in-made p s made = ap kind_in made.types ∙ kind_in-tables p

made_of_source : (p : Tree) (s : Scope) → IsMade p s → s ≡ tables p
made_of_source p s made =
    let kind = kind_in-made p s made in
    let declared : s.declared ≡ (tables p).declared = made.declared ∙ ap (λ k. all_declared_by k p.types) kind in
    let constants : s.constants ≡ (tables p).constants = made.constants ∙ ap (λ cs. constants_by cs p.constants) made.constructors in
    let nodes : s.nodes ≡ (tables p).nodes = made.nodes ∙ ap (λ k. signatures_by k p.nodes) kind in
    λ i. record { variables = made.variables i; constants = constants i; constructors = made.constructors i; types = made.types i; declared = declared i; nodes = nodes i }

-- with the types of each node's variables
pub made_tables : (p : Tree) (t : Tables) → IsMade p (tables_seen t)
    → kinds_seen t.variables.items ≡ map (λ f. map (λ e. e.1) (kinds_by (kind_in (tables_seen t).types) (groups f))) p.nodes → HasTables p t
made_tables p t made kinds = record {
  seen = made_of_source p (tables_seen t) made;
  variables = kinds ∙ ap (λ kind. map (λ f. map (λ e. e.1) (kinds_by kind (groups f))) p.nodes) (kind_in-made p (tables_seen t) made);
}

-- ---- few fields

module _ (kind : TypeName → Kind) where
  has_few : (d : Definition) → DefinitionCounted d → IsTrue (has_few_fields (declared_by kind d))
  has_few (Alias y) few = refl
  has_few (Enumeration cs) few = refl
  has_few (StructureOf fs) few = le-leb (length (fields_by kind fs)) 64 (subst (λ n. n ≤ 64) (sym (length-fields_by kind fs)) few.1)

  and_is : (a b : Bool) → IsTrue a → IsTrue b → IsTrue (a && b)
  and_is true b p q = q
  and_is false b p q = p

  pub all_have_few : (ds : List TypeDeclaration) → Each (λ d. DefinitionCounted d.definition) ds → IsTrue (list_all has_few_fields (all_declared_by kind ds))
  all_have_few [] each = refl
  all_have_few (d ∷ ds) each = and_is (has_few_fields (declared_by kind d.definition)) _ (has_few d.definition each.0) (all_have_few ds each.1)

-- ---- variables

-- a node's variables by their names and their types
pub entered : (p : Tree) (f : Node) (s : Scope) (ns : List Text) (ks : List Kind) → s ≡ tables p → ns ≡ names_in (groups f) → ks ≡ map (λ e. e.1) (group_kinds p (groups f))
    → (let t : Scope = record s { variables = placed (zip ns ks) } in t) ≡ scope p f
entered p f s ns ks tabled named kinded =
    let kinds = group_kinds p (groups f) in
    ap (λ vs. let t : Scope = record s { variables = placed vs } in t) (whole kinds ns ks (named ∙ sym (names-kinds_by (kind_named p) (groups f))) kinded)
    ∙ ap (λ (u : Scope). let t : Scope = record u { variables = placed kinds } in t) tabled
