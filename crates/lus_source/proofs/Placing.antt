-- Names and numbers of what a source declares.
use Rattle.std.proofs.Common.{arith, ◌≡◌, ◌∙◌, refl, ap, ap₂, ℕ, suc, ◌+◌, ◌<◌, List, [], ◌∷◌, ◌++◌, length, map, flat_map, sum_by}
use Rattle.std.specs.List.{zip}
use Rattle.std.proofs.lemmas.List.{length-map, map-append}
use Rattle.std.proofs.lemmas.List.Concat.{length-flat_map}
use Rattle.lus_syntax.specs.Lexemes.{Text}
use Rattle.lus_syntax.specs.Trees.{Named, TypeName, Group, Definition, Alias, Enumeration, StructureOf, TypeDeclaration}
use Rattle.lus_values.specs.Lists.{item}
use Rattle.lus_program.specs.declared.types.Kind.{Kind}
use Rattle.lus_program.specs.declared.types.Kind.TheVariants as kinds
use Rattle.lus_source.specs.Named.{all_constructor_names, constructor_names, names_in}
use Rattle.lus_source.specs.Sized.{variable_count}
use Rattle.lus_source.specs.Tables.{constructors_of, each_of, kinds_by, numbered_from, text_of}

-- a table is its names with their values

abbrev pub names : {X : Type 0} → List (Text × X) → List Text
names es = map (λ e. e.0) es

abbrev pub values : {X : Type 0} → List (Text × X) → List X
values es = map (λ e. e.1) es

zip_rows : {X : Type 0} (es : List (Text × X)) → zip (names es) (values es) ≡ es
zip_rows [] = refl
zip_rows (e ∷ es) = ap (λ l. e ∷ l) (zip_rows es)

pub whole : {X : Type 0} (es : List (Text × X)) (ns : List Text) (vs : List X) → ns ≡ names es → vs ≡ values es → zip ns vs ≡ es
whole es ns vs named valued = ap₂ (λ (ms : List Text) us. zip ms us) named valued ∙ zip_rows es

pub names-rows : {X Y : Type 0} (name : X → Text) (row : X → Y) (xs : List X) → names (map (λ x. (name x, row x)) xs) ≡ map name xs
names-rows name row [] = refl
names-rows name row (x ∷ xs) = ap (λ l. name x ∷ l) (names-rows name row xs)

pub names-numbered : {X Y : Type 0} (name : X → Text) (row : X → ℕ → Y) (n : ℕ) (xs : List X) → names (map (λ e. (name e.0, row e.0 e.1)) (numbered_from n xs)) ≡ map name xs
names-numbered name row n [] = refl
names-numbered name row n (x ∷ xs) = ap (λ l. name x ∷ l) (names-numbered name row (suc n) xs)

-- types
pub kinds_listed : (at : ℕ → Kind) (ds : List TypeDeclaration) (ks : List Kind) (n : ℕ) → length ks ≡ length ds → ((t : ℕ) → t < length ds → item kinds.Bool ks t ≡ at (n + t))
    → ks ≡ values (map (λ (e : TypeDeclaration × ℕ). (e.0.name.text, at e.1)) (numbered_from n ds))
kinds_listed at [] [] n size each = refl
kinds_listed at [] (k ∷ ks) n size each = cc
kinds_listed at (d ∷ ds) [] n size each = cc
kinds_listed at (d ∷ ds) (k ∷ ks) n size each =
    ap₂ (λ (x : Kind) xs. x ∷ xs) (each 0 (omega arith) ∙ ap at (omega arith)) (kinds_listed at ds ks (suc n) (omega (arith, size)) (λ t lt. each (suc t) (omega (arith, lt)) ∙ ap at (omega arith)))

-- constructors

names-constructors_of : (d : Definition) (t : ℕ) → names (constructors_of d t) ≡ constructor_names d
names-constructors_of (Alias y) t = refl
names-constructors_of (Enumeration cs) t = names-numbered text_of (λ c n. record { enumeration = t; place = n }) 0 cs
names-constructors_of (StructureOf fs) t = refl

pub names-all_constructors : (ds : List TypeDeclaration) (n : ℕ) → names (flat_map (λ e. constructors_of e.0.definition e.1) (numbered_from n ds)) ≡ all_constructor_names ds
names-all_constructors [] n = refl
names-all_constructors (d ∷ ds) n =
    map-append (λ e. e.0) (constructors_of d.definition n) (flat_map (λ e. constructors_of e.0.definition e.1) (numbered_from (suc n) ds))
    ∙ ap₂ (λ (l : List Text) m. l ++ m) (names-constructors_of d.definition n) (names-all_constructors ds (suc n))

-- variables

-- one thing for each variable of groups
pub length-for_each : {X : Type 0} (thing : Group → Named → X) (gs : List Group) → length (flat_map (λ g. map (thing g) g.names) gs) ≡ variable_count gs
length-for_each thing gs = length-flat_map (λ g. map (thing g) g.names) gs ∙ ap (λ size. sum_by size gs) (λ i g. length-map g.names (thing g) i)

module _ (kind : TypeName → Kind) where
  pub names-kinds_by : (gs : List Group) → names (kinds_by kind gs) ≡ names_in gs
  names-kinds_by [] = refl
  names-kinds_by (g ∷ gs) =
      map-append (λ e. e.0) (each_of g.names (kind g.type_name)) (kinds_by kind gs)
      ∙ ap₂ (λ (l : List Text) m. l ++ m) (names-rows text_of (λ n. kind g.type_name) g.names) (names-kinds_by gs)

  pub length-kinds_by : (gs : List Group) → length (kinds_by kind gs) ≡ variable_count gs
  length-kinds_by gs = length-for_each (λ g n. (n.text, kind g.type_name)) gs
