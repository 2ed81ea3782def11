-- The types of a program lead where the declarations of its tree lead, so nowhere back, and come from those that they name.
use Rattle.std.proofs.Common.{arith, ◌≡◌, ◌∙◌, sym, ap, refl, subst, ℕ, zero, suc, ◌⊎◌, inl, inr, List, [], ◌∷◌, Option, Some, None, map, flat_map, Contains, ⊎_elim, ◌<◌, length, get_or}
use Rattle.std.specs.Option.{option_to_list, option_and_then}
use Rattle.std.proofs.lemmas.Grind.{flat_map-append}
use Rattle.std.proofs.lemmas.List.{length-map, get_or_past, get_or-map}
use Rattle.std.proofs.lemmas.List.Elements.{Contains-append_cases, Contains-append_left, Contains-append_right}
use Rattle.lus_values.specs.Lists.{item}
use Rattle.lus_graph.specs.Ways.{used, Leads, step, then, HasNoWayBack, IsOrder}
use Rattle.lus_graph.proofs.NoWayBack.{led_nowhere_back, led_order}
use Rattle.lus_graph.proofs.Steps.{no_item, one_item}
use Rattle.lus_syntax.specs.Trees.{Named, TypeName, DeclaredName, Fields, Definition, Alias, Enumeration, StructureOf, TypeDeclaration, Tree, BoolName, IntName}
use Rattle.lus_program.specs.declared.types.Kind.{Kind}
use Rattle.lus_program.specs.declared.types.Kind.TheVariants as kinds
use Rattle.lus_program.specs.Programs.{Field}
use Rattle.lus_source.specs.Loopless.{place_in, type_names, named_type, definition_uses, type_uses as tree_uses}
use Rattle.lus_graph.specs.Along.{within}
use Rattle.lus_source.specs.Tables.{of_type, definition_at, no_definition, definition_kind, kind_named, fields_declared, declared_as}
use Rattle.lus_source.specs.Meaning.{program_of}
use Rattle.lus_program.specs.Sound.{structures_in, declared_uses, type_uses}
use Rattle.std.specs.Prelude.{slice_get}
use Rattle.lus_syntax.specs.declared.tree.Tree.{Tree as StoredTree}
use Rattle.lus_syntax.specs.declared.tree.TypeDeclaration.{TypeDeclaration as StoredType}
use Rattle.lus_syntax.specs.Lexemes.{Text}
use Rattle.lus_syntax.specs.View.{definition_seen, tree_seen, type_seen}
use Rattle.lus_source.proofs.Lookups.{entry_at}
use Rattle.lus_source.specs.ByTable.{kind_told}
use Rattle.lus_source.specs.Sized.{IsMeasure}

-- structures

structure_is : (k : Kind) (u : ℕ) → Contains (structures_in k) u → k ≡ kinds.Struct u
structure_is (kinds.Struct t) u among = ap kinds.Struct (one_item t u among)
structure_is k u among = elim (no_item among.0 among.1) [ ]

-- fields of one type
group_is : (k : Kind) (ns : List Named) (u : ℕ) → Contains (flat_map (λ (g : Field). structures_in g.kind) (map (λ (n : Named). record { name = n.text; kind = k }) ns)) u → k ≡ kinds.Struct u
group_is k [] u among = elim (no_item among.0 among.1) [ ]
group_is k (n ∷ ns) u among = ⊎_elim (structure_is k u) (group_is k ns u) (Contains-append_cases (structures_in k) (flat_map (λ (g : Field). structures_in g.kind) (map (λ (n : Named). record { name = n.text; kind = k }) ns)) u among)

module _ (p : Tree) where
  -- what the declaration of a type names is what the type uses
  named_uses : (ds : List TypeDeclaration) (t : ℕ) → item [] (map (λ d. definition_uses (type_names p) d.definition) ds) t ≡ definition_uses (type_names p) (item no_definition (map (λ d. d.definition) ds) t)
  named_uses (d ∷ ds) (suc t) = named_uses ds t
  named_uses ds t = refl

  meant_uses : (ds : List TypeDeclaration) (t : ℕ) → item [] (map declared_uses (map (λ d. declared_as p d.definition) ds)) t ≡ declared_uses (declared_as p (item no_definition (map (λ d. d.definition) ds) t))
  meant_uses (d ∷ ds) (suc t) = meant_uses ds t
  meant_uses ds t = refl

  -- the type of a declaration, its names followed n times
  abbrev followed : ℕ → ℕ → Kind
  followed n = within n kinds.Bool (λ at t. definition_kind (type_names p) at t (definition_at p t))

  -- where a structure is found by following names
  abbrev Reaches : ℕ → Type 0
  Reaches n = (s u : ℕ) → followed n s ≡ kinds.Struct u → (u ≡ s) ⊎ Leads (tree_uses p) s u

  reached : (t s u : ℕ) → Contains (used (tree_uses p) t) s → (u ≡ s) ⊎ Leads (tree_uses p) s u → Leads (tree_uses p) t u
  reached t s u among way = ⊎_elim (λ same. step (subst (λ v. Contains (used (tree_uses p) t) v) (sym same) among)) (λ rest. then among rest) way

  place_leads : (n t u : ℕ) → Reaches n → (o : Option ℕ) → ((s : ℕ) → Contains (option_to_list o) s → Contains (used (tree_uses p) t) s) → elim o [ Some s ↦ followed n s | None ↦ kinds.Bool ] ≡ kinds.Struct u → Leads (tree_uses p) t u
  place_leads n t u reaches None uses is = cc
  place_leads n t u reaches (Some s) uses is = reached t s u (uses s (0, omega arith, refl)) (reaches s u is)

  -- a type that a declaration of t names
  name_leads : (n t u : ℕ) → Reaches n → (y : TypeName) → ((s : ℕ) → Contains (named_type (type_names p) y) s → Contains (used (tree_uses p) t) s) → of_type (type_names p) (followed n) y ≡ kinds.Struct u → Leads (tree_uses p) t u
  name_leads n t u reaches (DeclaredName m) uses is = place_leads n t u reaches (place_in (type_names p) m.text) uses is
  name_leads n t u reaches y uses is = cc

  definition_reaches : (n s u : ℕ) → Reaches n → (d : Definition) → ((v : ℕ) → Contains (definition_uses (type_names p) d) v → Contains (used (tree_uses p) s) v) → definition_kind (type_names p) (followed n) s d ≡ kinds.Struct u → (u ≡ s) ⊎ Leads (tree_uses p) s u
  definition_reaches n s u reaches (Alias y) uses is = inr (name_leads n s u reaches y uses is)
  definition_reaches n s u reaches (Enumeration cs) uses is = cc
  definition_reaches n s u reaches (StructureOf fs) uses is = inl (cc)

  pub used_is : (t : ℕ) → used (tree_uses p) t ≡ definition_uses (type_names p) (definition_at p t)
  used_is t = named_uses p.types t

  own_uses : (t v : ℕ) → Contains (definition_uses (type_names p) (definition_at p t)) v → Contains (used (tree_uses p) t) v
  own_uses t v among = subst (λ us. Contains us v) (sym (used_is t)) among

  reaches_all : (n : ℕ) → Reaches n
  reaches_all zero s u is = cc
  reaches_all (suc n) s u is = definition_reaches n s u (reaches_all n) (definition_at p s) (own_uses s) is

  fields_lead : (t u : ℕ) (fs : List Fields) → ((v : ℕ) → Contains (flat_map (λ g. named_type (type_names p) g.type_name) fs) v → Contains (used (tree_uses p) t) v)
      → Contains (flat_map (λ (g : Field). structures_in g.kind) (fields_declared p fs)) u → Leads (tree_uses p) t u
  fields_lead t u [] uses among = elim (no_item among.0 among.1) [ ]
  fields_lead t u (g ∷ fs) uses among =
      let own = map (λ (n : Named). record { name = n.text; kind = kind_named p g.type_name }) g.names in
      let rest = flat_map (λ h. named_type (type_names p) h.type_name) fs in
      let both = subst (λ us. Contains us u) (flat_map-append (λ (h : Field). structures_in h.kind) own (fields_declared p fs)) among in
      ⊎_elim
      (λ first. name_leads _ t u (reaches_all _) g.type_name (λ v c. uses v (Contains-append_left (named_type (type_names p) g.type_name) rest v c)) (group_is (kind_named p g.type_name) g.names u first))
      (λ later. fields_lead t u fs (λ v c. uses v (Contains-append_right (named_type (type_names p) g.type_name) rest v c)) later)
      (Contains-append_cases (flat_map (λ (h : Field). structures_in h.kind) own) (flat_map (λ (h : Field). structures_in h.kind) (fields_declared p fs)) u both)

  declared_leads : (t u : ℕ) (d : Definition) → ((v : ℕ) → Contains (definition_uses (type_names p) d) v → Contains (used (tree_uses p) t) v) → Contains (declared_uses (declared_as p d)) u → Leads (tree_uses p) t u
  declared_leads t u (Alias y) uses among = name_leads _ t u (reaches_all _) y uses (structure_is (kind_named p y) u among)
  declared_leads t u (Enumeration cs) uses among = elim (no_item among.0 among.1) [ ]
  declared_leads t u (StructureOf fs) uses among = fields_lead t u fs uses among

  types_lead : (t u : ℕ) → Contains (used (type_uses (program_of p)) t) u → Leads (tree_uses p) t u
  types_lead t u among = declared_leads t u (definition_at p t) (own_uses t) (subst (λ us. Contains us u) (meant_uses p.types t) among)

  pub types_loopless : HasNoWayBack (tree_uses p) → HasNoWayBack (type_uses (program_of p))
  types_loopless = led_nowhere_back (tree_uses p) (type_uses (program_of p)) types_lead

  pub types_order : (order : List ℕ) → IsOrder (tree_uses p) order → IsOrder (type_uses (program_of p)) order
  types_order = led_order (tree_uses p) (type_uses (program_of p)) types_lead
      (length-map (map (λ d. declared_as p d.definition) p.types) declared_uses ∙ length-map p.types (λ d. declared_as p d.definition) ∙ sym (length-map p.types (λ d. definition_uses (type_names p) d.definition)))

module _ (types : List Text) (at at' : ℕ → Kind) where
  place_alike : (o : Option ℕ) → ((t : ℕ) → Contains (option_to_list o) t → at t ≡ at' t) → ◌≡◌ {A = Kind} (elim o [ Some t ↦ at t | None ↦ kinds.Bool ]) (elim o [ Some t ↦ at' t | None ↦ kinds.Bool ])
  place_alike None agree = refl
  place_alike (Some t) agree = agree t (0, omega arith, refl)

  name_alike : (n : TypeName) → ((t : ℕ) → Contains (named_type types n) t → at t ≡ at' t) → of_type types at n ≡ of_type types at' n
  name_alike (BoolName s) agree = refl
  name_alike (IntName s) agree = refl
  name_alike (DeclaredName n) agree = place_alike (place_in types n.text) agree

  definition_alike : (k : ℕ) (d : Definition) → ((t : ℕ) → Contains (definition_uses types d) t → at t ≡ at' t) → definition_kind types at k d ≡ definition_kind types at' k d
  definition_alike k (Alias y) agree = name_alike y agree
  definition_alike k (Enumeration cs) agree = refl
  definition_alike k (StructureOf fs) agree = refl

told_at : (ks : List Kind) (o : Option ℕ) → ◌≡◌ {A = Kind} (elim (option_and_then (slice_get ks) o) [ Some k ↦ k | None ↦ kinds.Bool ]) (elim o [ Some t ↦ item kinds.Bool ks t | None ↦ kinds.Bool ])
told_at ks None = refl
told_at [] (Some t) = refl
told_at (k ∷ ks) (Some zero) = refl
told_at (k ∷ ks) (Some (suc t)) = told_at ks (Some t)

-- the type of a name by a table
pub told_is : (names : List Text) (ks : List Kind) (y : TypeName) → kind_told names ks y ≡ of_type names (item kinds.Bool ks) y
told_is names ks (BoolName s) = refl
told_is names ks (IntName s) = refl
told_is names ks (DeclaredName n) = ap (λ (o : Option Kind). elim o as (λ _. Kind) [ Some k ↦ k | None ↦ kinds.Bool ]) (sym (entry_at names ks n.text)) ∙ told_at ks (place_in names n.text)

abbrev pub kind_step : Tree → (ℕ → Kind) → ℕ → Kind
kind_step p at t = definition_kind (type_names p) at t (definition_at p t)

pub uses_count : (p : Tree) → length (tree_uses p) ≡ length p.types
uses_count p = length-map p.types (λ d. definition_uses (type_names p) d.definition)

pub kind_measure : (p : Tree) → IsMeasure (tree_uses p) kinds.Bool (kind_step p) (length p.types)
kind_measure p = record {
  count = uses_count p;
  local = λ at at' t agree. definition_alike (type_names p) at at' t (definition_at p t) (λ y among. agree y (rw (used_is p t) among));
  nothing = λ at t le. ap (definition_kind (type_names p) at t) (get_or_past (map (λ d. d.definition) p.types) t no_definition (omega (arith, le, uses_count p, length-map p.types (λ (d : TypeDeclaration). d.definition))));
}

-- a definition as it lies in the tree
pub definition_here : (t : StoredTree) (x : ℕ) (d : StoredType) → x < length (tree_uses (tree_seen t)) → d ≡ get_or t.types.items x d → definition_at (tree_seen t) x ≡ definition_seen d.definition
definition_here t x d lt here =
    let lt : x < length t.types.items = omega (arith, uses_count (tree_seen t), length-map t.types.items type_seen) in
    get_or-map (λ e. e.definition) (map type_seen t.types.items) x (type_seen d) no_definition (omega (arith, length-map t.types.items type_seen))
    ∙ ap (λ (e : TypeDeclaration). e.definition) (get_or-map type_seen t.types.items x d (type_seen d) lt)
    ∙ ap (λ (e : StoredType). definition_seen e.definition) (sym here)
