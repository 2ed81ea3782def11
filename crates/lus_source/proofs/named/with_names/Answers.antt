-- The names of each space are few, and those of the source.
use Rattle.std.proofs.Common.{arith, subst, ◌≡◌, ◌≤◌, ◌∙◌, ◌*◌, sym, ap, length, length-append, map, List, [], ◌∷◌, String, Global}
use Rattle.std.specs.Prelude.{string_bytes}
use Rattle.std.proofs.lemmas.List.{length-map}
use Rattle.lus_syntax.specs.Lexemes.{Text}
use Rattle.lus_syntax.specs.Trees.{Constant, Definition, Alias, Enumeration, Node, StructureOf, Tree, TypeDeclaration}
use Rattle.lus_syntax.specs.View.{tree_seen}
use Rattle.lus_values.specs.Lists.{Each}
use Rattle.lus_source.specs.Named.{Known, Named as IsNamed, all_constructor_names, constructor_names, known}
use Rattle.lus_source.specs.Sized.{Counted, DefinitionCounted}
use Rattle.lus_source.specs.NameView.{known_seen}
use Rattle.lus_source.specs.Parts.{AreDistinct, UsesKnown}
use Rattle.lus_source.specs.Tables.{text_of}
use Rattle.lus_source.proofs.Faults.{passed_on}
use Rattle.lus_source.proofs.named.with_names.Goals as goal

few : (keys : List (String Global)) (names : List Text) → map string_bytes keys ≡ names → length names ≤ 256000 → length keys ≤ 4294967295
few keys names same within = omega (arith, sym (length-map keys string_bytes) ∙ ap length same, within)

few_own : (d : Definition) → DefinitionCounted d → length (constructor_names d) ≤ 256
few_own (Alias y) h = omega arith
few_own (Enumeration cs) h = omega (arith, h, length-map cs text_of)
few_own (StructureOf fs) h = omega arith

few_constructors : (ds : List TypeDeclaration) → Each (λ d. DefinitionCounted d.definition) ds → length (all_constructor_names ds) ≤ length ds * 256
few_constructors [] h = omega arith
few_constructors (d ∷ ds) h = omega (arith, few_own d.definition h.0, few_constructors ds h.1, length-append (constructor_names d.definition) (all_constructor_names ds))

pub into_spaces-names-requires : goal.into_spaces-names-requires
into_spaces-names-requires c =
    let p = tree_seen c.tree.result.now in
    let counted : Counted p = c.tree.ensures.counted in
    let names = c.check_uses.new.names in
    let all = c.in_ok-variables.ensures.kept ∙ c.in_ok-names.ensures.tables in
    let constructors = few_constructors p.types counted.definitions in
    record {
      types = few names.types.keys (map (λ d. d.name.text) p.types) (ap (λ (k : Known). k.types) all) (omega (arith, counted.types, length-map p.types (λ (d : TypeDeclaration). d.name.text)));
      constants = few names.constants.keys (map (λ d. d.name.text) p.constants) (ap (λ (k : Known). k.constants) all) (omega (arith, counted.constants, length-map p.constants (λ (d : Constant). d.name.text)));
      constructors = few names.constructors.keys (all_constructor_names p.types) (ap (λ (k : Known). k.constructors) all) (omega (arith, counted.types, constructors));
      nodes = few names.nodes.keys (map (λ f. f.name.text) p.nodes) (ap (λ (k : Known). k.nodes) all) (omega (arith, counted.nodes, length-map p.nodes (λ (f : Node). f.name.text)));
    }

-- the names are those that the rules speak of
module _ (p : Tree) (distinct : AreDistinct p) (names : Known) (all : names ≡ known p []) where
  right : UsesKnown names p → IsNamed p
  right own =
      let uses : UsesKnown (known p []) p = subst (λ (k : Known). UsesKnown k p) all own in
      record { types = distinct.types; values = distinct.values; nodes = distinct.nodes; definitions = uses.definitions; constants = uses.constants; each = uses.nodes }

  used : IsNamed p → UsesKnown names p
  used named = subst (λ (k : Known). UsesKnown k p) (sym all) (record { definitions = named.definitions; constants = named.constants; nodes = named.each })

pub invariant_of-result : goal.invariant_of-result
invariant_of-result c =
    let p = tree_seen c.args.counted in
    let found = rw c.tree.ensures.same at c.in_ok-names.ensures in
    record {
      counted = rw c.tree.ensures.same at c.tree.ensures.counted;
      named = right p found.distinct (known_seen c.in_ok-names.names) found.tables c.in_ok-variables.ensures.known;
      spaces = c.into_spaces-names.ensures ∙ ap (λ (k : Known). record k { variables = [] }) (c.in_ok-variables.ensures.kept ∙ found.tables);
      variables_are = c.in_ok-variables.ensures.variables;
    }

pub returns-clause-named : goal.returns-clause-named
returns-clause-named c =
    let found = rw c.tree.ensures.same at c.in_ok-names.ensures in
    right (tree_seen c.args.counted) found.distinct (known_seen c.in_ok-names.names) found.tables c.in_ok-variables.ensures.known

pub returns-in_err-variables-clause-named : goal.returns-in_err-variables-clause-named
returns-in_err-variables-clause-named c =
    let found = rw c.tree.ensures.same at c.in_ok-names.ensures in
    let r = c.from_residual-in_err-variables in
    passed_on _ (λ wrong named. wrong (used (tree_seen c.args.counted) found.distinct (known_seen c.in_ok-names.names) found.tables named)) r.result c.in_err-variables.field-0.0 r.ensures.1 c.in_err-variables.ensures.known
