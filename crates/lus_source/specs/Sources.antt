-- What passes have found of a source.
use Rattle.std.specs.Prelude.{◌≡◌, ℕ, List, [], map}
use Rattle.lus_syntax.specs.Lexemes.{Text}
use Rattle.lus_syntax.specs.Trees.{Tree}
use Rattle.lus_graph.specs.Ways.{IsOrder}
use Rattle.lus_source.specs.Loopless.{Loopless, node_uses, type_uses}
use Rattle.lus_source.specs.Named.{Named, known, names_in}
use Rattle.lus_source.specs.declared.places.Spaces.{Spaces}
use Rattle.lus_source.specs.declared.scope.Tables.{Tables}
use Rattle.lus_source.specs.Sized.{Counted}
use Rattle.lus_source.specs.NameView.{spaces_seen}
use Rattle.lus_source.specs.ScopeView.{kinds_seen, tables_seen}
use Rattle.lus_source.specs.Tables.{group_kinds, groups, tables as tables_of}

-- it keeps the limits of counts, its names are right, and these are its names, and those of each node's variables
pub record HasNames (p : Tree) (names : Spaces) (variables : List (List Text)) : Type 0 where
  pub counted : Counted p
  pub named : Named p
  pub spaces : spaces_seen names ≡ known p []
  pub variables_are : variables ≡ map (λ f. names_in (groups f)) p.nodes

-- nothing leads back to itself, and types and nodes stand in orders, each behind those that it uses
pub record AreOrders (p : Tree) (ts ns : List ℕ) : Type 0 where
  pub loopless : Loopless p
  pub types : IsOrder (type_uses p) ts
  pub nodes : IsOrder (node_uses p) ns

-- these are what its names stand for, with the types of each node's variables
pub record HasTables (p : Tree) (tables : Tables) : Type 0 where
  pub seen : tables_seen tables ≡ tables_of p
  pub variables : kinds_seen tables.variables.items ≡ map (λ f. map (λ e. e.1) (group_kinds p (groups f))) p.nodes
