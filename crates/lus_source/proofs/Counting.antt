-- What is counted one group at a time.
use Rattle.std.proofs.Common.{arith, ◌≡◌, ◌∙◌, refl, sym, ap, ℕ, ◌+◌, ◌<◌, ◌≤◌, Bool, true, false, List, [], ◌∷◌, ◌++◌, length, take, map, sum_by, get_or}
use Rattle.std.specs.Bool.{Decides}
use Rattle.std.proofs.lemmas.List.{length-map, get_or-map, take-map}
use Rattle.std.proofs.lemmas.List.Sums.{sum_by-append, sum_by-cons, sum_by_more_le}
use Rattle.lus_syntax.specs.declared.tree.Fields.{Fields}
use Rattle.lus_syntax.specs.declared.tree.Group.{Group}
use Rattle.lus_syntax.specs.declared.tree.Node.{Node}
use Rattle.lus_syntax.specs.Lexemes.{Text}
use Rattle.lus_syntax.specs.View.{fields_seen, group_seen, names_seen, node_seen}
use Rattle.lus_source.specs.Sized.{field_count, variable_count}
use Rattle.lus_source.specs.Tables.{groups, text_of}

-- so many are left behind the first i, and the next has more than that
pub past_most : {X Y : Type 0} (seen : X → Y) (size : Y → ℕ) (xs : List X) (i left most n : ℕ) (x : X) → i < length xs → x ≡ get_or xs i x → size (seen x) ≡ n
    → left + sum_by size (map seen (take i xs)) ≡ most → left < n → most < sum_by size (map seen xs)
past_most seen size xs i left most n x lt here counted before less =
    let read : get_or (map seen xs) i (seen x) ≡ seen x = get_or-map seen xs i x (seen x) lt ∙ ap seen (sym here) in
    let within : sum_by size (take i (map seen xs)) + size (get_or (map seen xs) i (seen x)) ≤ sum_by size (map seen xs) = sum_by_more_le size (map seen xs) i (seen x) (rw (length-map xs seen) lt) in
    let front : sum_by size (take i (map seen xs)) ≡ sum_by size (map seen (take i xs)) = ap (sum_by size) (take-map seen i xs) in
    omega (arith, ap size read)

counted_alike : {X Y : Type 0} (named : X → List Text) (seen : X → Y) (size : Y → ℕ) → ((x : X) → length (named x) ≡ size (seen x))
    → (xs : List X) → sum_by length (map named xs) ≡ sum_by size (map seen xs)
counted_alike named seen size each [] = refl
counted_alike named seen size each (x ∷ xs) =
    omega (arith, sum_by-cons length (named x) (map named xs), sum_by-cons size (seen x) (map seen xs), each x, counted_alike named seen size each xs)

-- names by the things that have them
pub fields_counted : (gs : List Fields) → sum_by length (map (λ g. map text_of (names_seen g.names.items)) gs) ≡ field_count (map fields_seen gs)
fields_counted = counted_alike (λ g. map text_of (names_seen g.names.items)) fields_seen (λ g. length g.names) (λ g. length-map (names_seen g.names.items) text_of)

groups_counted : (gs : List Group) → sum_by length (map (λ g. map text_of (names_seen g.names.items)) gs) ≡ variable_count (map group_seen gs)
groups_counted = counted_alike (λ g. map text_of (names_seen g.names.items)) group_seen (λ g. length g.names) (λ g. length-map (names_seen g.names.items) text_of)

abbrev pub counted : List Group → ℕ
counted gs = sum_by length (map (λ g. map text_of (names_seen g.names.items)) gs)

pub variables_counted : (f : Node) → variable_count (groups (node_seen f)) ≡ counted f.inputs.items + (counted f.outputs.items + counted f.locals.items)
variables_counted f =
    let is = map group_seen f.inputs.items in
    let os = map group_seen f.outputs.items in
    let ls = map group_seen f.locals.items in
    omega (arith, sum_by-append (λ g. length g.names) is (os ++ ls), sum_by-append (λ g. length g.names) os ls, groups_counted f.inputs.items, groups_counted f.outputs.items, groups_counted f.locals.items)

-- a test that fails
pub refuted : (b : Bool) (P : Type 0) → Decides b P → b ≡ false → P → ⊥
refuted b P d e p = let f : b ≡ true = d.1 p in cc
