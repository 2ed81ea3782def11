-- The parts of an expression are seen as the list of what each part is.
use Rattle.std.proofs.Common.{◌≡◌, map, refl, ap, rules, Box, Vec, Global}
use Rattle.lus_syntax.specs.declared.token.Span.{Span}
use Rattle.lus_syntax.specs.declared.tree.ListOperator.{ListOperator}
use Rattle.lus_syntax.specs.declared.tree.Name.{Name}
use Rattle.lus_syntax.specs.declared.tree.Part.{Part}
use Rattle.lus_syntax.specs.declared.tree.Expr.{Row_of-Part, end_of-Part, more_of-Part, items-the_row-Part, the_lemmas}
use Rattle.lus_syntax.specs.declared.tree.Expr.TheVariants as exprs
use Rattle.lus_syntax.specs.Trees.{Call, Structure, Merge, Variadic, More, parts_of}
use Rattle.lus_syntax.specs.View.{expression_seen, parts_in, name_seen, lead_seen, part_seen}

pub row_is : {m : _} (k : Row_of-Part m) → parts_in k ≡ parts_of (map part_seen (items-the_row-Part m k))
row_is end_of-Part = refl
row_is (more_of-Part l e rest) = ap (More (lead_seen l) (expression_seen e)) (row_is rest)

pub seen_call : (n : Box Name Global) (v : Vec Part Global) → expression_seen (exprs.Call n v) ≡ Call (name_seen n.value) (parts_of (map part_seen v.items))
seen_call n v = search (rules, the_lemmas, row_is)

pub seen_structure : (n : Box Name Global) (v : Vec Part Global) → expression_seen (exprs.Structure n v) ≡ Structure (name_seen n.value) (parts_of (map part_seen v.items))
seen_structure n v = search (rules, the_lemmas, row_is)

pub seen_merge : (s : Span) (n : Box Name Global) (v : Vec Part Global) → expression_seen (exprs.Merge s n v) ≡ Merge s (name_seen n.value) (parts_of (map part_seen v.items))
seen_merge s n v = search (rules, the_lemmas, row_is)

pub seen_variadic : (op : ListOperator) (s : Span) (v : Vec Part Global) → expression_seen (exprs.Variadic op s v) ≡ Variadic op s (parts_of (map part_seen v.items))
seen_variadic op s v = search (rules, the_lemmas, row_is)
