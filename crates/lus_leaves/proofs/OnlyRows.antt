-- The only row, and the only rows, that fit and are these leaves are those that are read.
use Rattle.std.proofs.Common.{◌≡◌, ◌<◌, ◌≤◌, ◌+◌, ◌*◌, ◌/◌, ◌++◌, ◌∷◌, [], ℕ, List, length, drop, map, Option, Some, None, MatchOption, Vec, Global, refl, sym, ap, subst, ◌∙◌, append_assoc, length-append, length-drop, arith}
use Rattle.std.proofs.Math.Nat.{suc-mul, mul-div_cancel_left}
use Rattle.std.proofs.lemmas.List.{append-nil}
use Rattle.std.proofs.lemmas.List.Elements.{recursion_from_All}
use Rattle.std.specs.List.{AllByRecursion}
use Rattle.lus_values.specs.declared.value.Value.{Value as StoredValue}
use Rattle.lus_values.specs.Values.{Value, bool, int, enum, struct, nil, Row}
use Rattle.lus_values.specs.View.{entry_of}
use Rattle.lus_leaves.specs.declared.leaf.Leaf.{Leaf}
use Rattle.lus_leaves.specs.declared.reading.Found.TheVariants.{At, Wrong as NotFound}
use Rattle.lus_leaves.specs.Leaves.{entry_leaves, row_leaves, rows_leaves}
use Rattle.lus_leaves.specs.Fits.{EntryFits, RowFits, RowsFit}
use Rattle.lus_leaves.specs.Reading.{IsOnly, AreRows}

pub by_recursion_more : {X : Type 0} (P : X → Type 0) (xs : List X) (x : X) → AllByRecursion P xs → P x → AllByRecursion P (xs ++ x ∷ [])
by_recursion_more P [] x h p = (p, tt)
by_recursion_more P (y ∷ ys) x h p = (h.0, by_recursion_more P ys x h.1 p)

pub by_recursion_left : {X : Type 0} (P : X → Type 0) (xs ys : List X) → AllByRecursion P (xs ++ ys) → AllByRecursion P xs
by_recursion_left P [] ys h = tt
by_recursion_left P (x ∷ xs) ys h = (h.0, by_recursion_left P xs ys h.1)

pub by_recursion_right : {X : Type 0} (P : X → Type 0) (xs ys : List X) → AllByRecursion P (xs ++ ys) → AllByRecursion P ys
by_recursion_right P [] ys h = h
by_recursion_right P (x ∷ xs) ys h = by_recursion_right P xs ys h.1

by_recursion_append : {X : Type 0} (P : X → Type 0) (xs ys : List X) → AllByRecursion P xs → AllByRecursion P ys → AllByRecursion P (xs ++ ys)
by_recursion_append P [] ys h k = k
by_recursion_append P (x ∷ xs) ys h k = (h.0, by_recursion_append P xs ys h.1 k)

-- an entry has a leaf, so that a place goes up
has_leaf : (e : Option Value) → 0 < length (entry_leaves e)
has_leaf None = omega arith
has_leaf (Some (bool b)) = omega arith
has_leaf (Some (int z)) = omega arith
has_leaf (Some (enum t c)) = omega arith
has_leaf (Some (struct fs)) = omega arith
has_leaf (Some nil) = omega arith

pub goes_up : (ls : List Leaf) (at next : ℕ) (e : Option Value) → at < length ls → drop at ls ≡ entry_leaves e ++ drop next ls → at < next
goes_up ls at next e h p =
    let lengths : length (drop at ls) ≡ length (entry_leaves e) + length (drop next ls) = ap length p ∙ length-append (entry_leaves e) (drop next ls) in
    omega (arith, h, lengths, has_leaf e, length-drop at ls, length-drop next ls)

-- a row that fits and is these leaves begins with the entries that were read, and the others stand at the place
abbrev pub RowGoesOn : List Leaf → Row → ℕ → Type 0
RowGoesOn ls before at = (row : Row) → RowFits row → row_leaves row ≡ ls → (rest : Row) × (row ≡ before ++ rest) × RowFits rest × (drop at ls ≡ row_leaves rest)

pub row_first : (ls : List Leaf) → RowGoesOn ls [] 0
row_first ls = λ row h p. (row, refl, h, sym p)

-- there is a further entry
record HasMore (ls : List Leaf) (row before : Row) (at : ℕ) : Type 0 where
  entry : Option Value
  more : Row
  row_is : row ≡ before ++ entry ∷ more
  entry_fits : EntryFits 64 entry
  more_fit : RowFits more
  leaves : drop at ls ≡ entry_leaves entry ++ row_leaves more

has_more : (ls : List Leaf) (row before : Row) (at : ℕ) (rest : Row) → at < length ls → row ≡ before ++ rest → RowFits rest → drop at ls ≡ row_leaves rest → HasMore ls row before at
has_more ls row before at [] less e h p = absurd (omega (arith, less, ap length p, length-drop at ls))
has_more ls row before at (x ∷ more) less e h p = record { entry = x; more = more; row_is = e; entry_fits = h.0; more_fit = h.1; leaves = p }

row_goes_on : (ls : List Leaf) (before : Row) (at : ℕ) → at < length ls → RowGoesOn ls before at → (row : Row) → RowFits row → row_leaves row ≡ ls → HasMore ls row before at
row_goes_on ls before at less on row h p = let q = on row h p in has_more ls row before at q.0 less q.1 q.2 q.3

pub row_more : (ls : List Leaf) (before : Row) (at : ℕ) (e : Option StoredValue) (next : ℕ) → at < length ls → RowGoesOn ls before at → IsOnly 64 ls at (At e next) → RowGoesOn ls (before ++ entry_of e ∷ []) next
row_more ls before at e next less on only = λ row h p.
    let q = row_goes_on ls before at less on row h p in
    let found = only q.entry (row_leaves q.more) q.entry_fits q.leaves in
    (q.more, q.row_is ∙ ap (λ (x : Option Value). before ++ x ∷ q.more) (sym found.0) ∙ sym (append_assoc before (entry_of e ∷ []) q.more), q.more_fit, found.1)

pub row_wrong : (ls : List Leaf) (before : Row) (at : ℕ) → at < length ls → RowGoesOn ls before at → IsOnly 64 ls at NotFound → (row : Row) → RowFits row → row_leaves row ≡ ls → ⊥
row_wrong ls before at less on only row h p = let q = row_goes_on ls before at less on row h p in only q.entry (row_leaves q.more) q.entry_fits q.leaves

no_leaves : (rest : Row) → length (row_leaves rest) ≡ 0 → rest ≡ []
no_leaves [] p = refl
no_leaves (x ∷ rest) p = absurd (omega (arith, p, has_leaf x, length-append (entry_leaves x) (row_leaves rest)))

pub row_last : (ls : List Leaf) (before : Row) (at : ℕ) → length ls ≤ at → RowGoesOn ls before at → (row : Row) → RowFits row → row_leaves row ≡ ls → before ≡ row
row_last ls before at h on row fit p =
    let q = on row fit p in
    let none : q.0 ≡ [] = no_leaves q.0 (omega (arith, h, ap length q.3, length-drop at ls)) in
    sym (q.1 ∙ ap (λ (r : Row). before ++ r) none ∙ append-nil before)

-- the only row that fits and is these leaves
abbrev pub OnlyRow : List Leaf → Option (Vec (Option StoredValue) Global) → Type 0
OnlyRow ls found = (row : Row) → RowFits row → row_leaves row ≡ ls → MatchOption found ⊥ (λ es. map entry_of es.items ≡ row)

-- rows, one behind another
abbrev pub joined : List Row → Row
joined [] = []
joined (r ∷ rs) = r ++ joined rs

row_leaves_append : (r s : Row) → row_leaves (r ++ s) ≡ row_leaves r ++ row_leaves s
row_leaves_append [] s = refl
row_leaves_append (e ∷ es) s = ap (λ (l : List Leaf). entry_leaves e ++ l) (row_leaves_append es s) ∙ sym (append_assoc (entry_leaves e) (row_leaves es) (row_leaves s))

joined_leaves : (rows : List Row) → row_leaves (joined rows) ≡ rows_leaves rows
joined_leaves [] = refl
joined_leaves (r ∷ rs) = row_leaves_append r (joined rs) ∙ ap (λ (l : List Leaf). row_leaves r ++ l) (joined_leaves rs)

joined_fit : (rows : List Row) → RowsFit rows → RowFits (joined rows)
joined_fit [] h = tt
joined_fit (r ∷ rs) h = by_recursion_append (EntryFits 64) r (joined rs) h.0 (joined_fit rs h.1)

abbrev HasWidth : ℕ → Row → Type 0
HasWidth width r = length r ≡ width

joined_length : (width : ℕ) (rows : List Row) → AllByRecursion (HasWidth width) rows → length (joined rows) ≡ length rows * width
joined_length width [] h = omega arith
joined_length width (r ∷ rs) h = length-append r (joined rs) ∙ omega (arith, h.0, joined_length width rs h.1, suc-mul (length rs) width)

same_parts : {X : Type 0} (xs ys us vs : List X) → length xs ≡ length ys → xs ++ us ≡ ys ++ vs → (xs ≡ ys) × (us ≡ vs)
same_parts [] [] us vs n p = (refl, p)
same_parts [] (y ∷ ys) us vs n p = absurd (omega (arith, n))
same_parts (x ∷ xs) [] us vs n p = absurd (omega (arith, n))
same_parts (x ∷ xs) (y ∷ ys) us vs n p =
    let first : x ≡ y = cc in
    let others : xs ++ us ≡ ys ++ vs = cc in
    let q = same_parts xs ys us vs (omega (arith, n)) others in
    (cc (first, q.0), q.1)

-- rows that fit and are these leaves begin with those that were made, and the entries that are left are those of the others
abbrev pub RowsGoOn : List Leaf → (count width : ℕ) → List Row → Row → Type 0
RowsGoOn ls count width before left =
    (rows : List Row) → RowsFit rows → AreRows ls count rows → (rest : List Row) × (rows ≡ before ++ rest) × (joined rest ≡ left) × AllByRecursion (λ (r : Row). length r ≡ width) rest

pub rows_joined : (ls : List Leaf) (count : ℕ) (rows : List Row) → RowsFit rows → AreRows ls count rows → RowFits (joined rows) × (row_leaves (joined rows) ≡ ls)
rows_joined ls count rows h a = (joined_fit rows h, joined_leaves rows ∙ a.leaves)

narrow : (count width w : ℕ) (rows : List Row) → length rows ≡ count → (0 < count → width ≡ length (joined rows) / count) → AllByRecursion (HasWidth w) rows → AllByRecursion (HasWidth width) rows
narrow count width w [] n d h = tt
narrow count width w (r ∷ rs) n d h =
    let some : 0 < count = omega (arith, n) in
    let same : width ≡ w = d some ∙ ap (λ (k : ℕ). k / count) (joined_length w (r ∷ rs) h ∙ ap (λ (k : ℕ). k * w) n) ∙ mul-div_cancel_left w some in
    subst (λ (k : ℕ). AllByRecursion (HasWidth k) (r ∷ rs)) (sym same) h

pub rows_first : (ls : List Leaf) (count width : ℕ) (left : Row) → ((row : Row) → RowFits row → row_leaves row ≡ ls → left ≡ row) → (0 < count → width ≡ length left / count) → RowsGoOn ls count width [] left
rows_first ls count width left only d = λ rows h a.
    let j = rows_joined ls count rows h a in
    let same : left ≡ joined rows = only (joined rows) j.0 j.1 in
    (rows, refl, sym same, narrow count width a.even.0 rows a.count_is (subst (λ (l : Row). 0 < count → width ≡ length l / count) same d) (recursion_from_All _ rows a.even.1))

pub rows_none : (ls : List Leaf) (count : ℕ) → OnlyRow ls None → (rows : List Row) → RowsFit rows → AreRows ls count rows → ⊥
rows_none ls count only rows h a = let j = rows_joined ls count rows h a in only (joined rows) j.0 j.1

record HasRow (count width : ℕ) (rows before : List Row) (left : Row) : Type 0 where
  row : Row
  more : List Row
  rows_are : rows ≡ before ++ row ∷ more
  left_is : row ++ joined more ≡ left
  row_width : length row ≡ width
  more_even : AllByRecursion (HasWidth width) more

has_row : (count width : ℕ) (rows before : List Row) (left : Row) (rest : List Row) → length before < count → length rows ≡ count → rows ≡ before ++ rest → joined rest ≡ left → AllByRecursion (HasWidth width) rest → HasRow count width rows before left
has_row count width rows before left [] less n e j h = absurd (omega (arith, less, n, ap length e, length-append before []))
has_row count width rows before left (r ∷ more) less n e j h = record { row = r; more = more; rows_are = e; left_is = j; row_width = h.0; more_even = h.1 }

rows_go_on : (ls : List Leaf) (count width : ℕ) (before : List Row) (left : Row) → length before < count → RowsGoOn ls count width before left → (rows : List Row) → RowsFit rows → AreRows ls count rows → HasRow count width rows before left
rows_go_on ls count width before left less on rows h a =
    let q = on rows h a in has_row count width rows before left q.0 less a.count_is q.1 q.2 q.3

pub rows_more : (ls : List Leaf) (count width : ℕ) (before : List Row) (left row news : Row) → length before < count → RowsGoOn ls count width before left → left ≡ row ++ news → length row ≡ width → RowsGoOn ls count width (before ++ row ∷ []) news
rows_more ls count width before left row news less on e n = λ rows h a.
    let q = rows_go_on ls count width before left less on rows h a in
    let same = same_parts q.row row (joined q.more) news (q.row_width ∙ sym n) (q.left_is ∙ e) in
    (q.more, q.rows_are ∙ ap (λ (r : Row). before ++ r ∷ q.more) same.0 ∙ sym (append_assoc before (row ∷ []) q.more), same.1, q.more_even)

pub rows_short : (ls : List Leaf) (count width : ℕ) (before : List Row) (left : Row) → length before < count → RowsGoOn ls count width before left → length left < width → (rows : List Row) → RowsFit rows → AreRows ls count rows → ⊥
rows_short ls count width before left less on short rows h a =
    let q = rows_go_on ls count width before left less on rows h a in
    omega (arith, short, q.row_width, ap length q.left_is, length-append q.row (joined q.more))

none_left : (before rest : List Row) (count : ℕ) → count ≤ length before → length (before ++ rest) ≡ count → rest ≡ []
none_left before [] count h n = refl
none_left before (r ∷ rest) count h n = absurd (omega (arith, h, n, length-append before (r ∷ rest)))

pub rows_last : (ls : List Leaf) (count width : ℕ) (before : List Row) (left : Row) → count ≤ length before → RowsGoOn ls count width before left → (rows : List Row) → RowsFit rows → AreRows ls count rows → (before ≡ rows) × (left ≡ [])
rows_last ls count width before left h on rows fit a =
    let q = on rows fit a in
    let none : q.0 ≡ [] = none_left before q.0 count h (ap length (sym q.1) ∙ a.count_is) in
    (sym (q.1 ∙ ap (λ (r : List Row). before ++ r) none ∙ append-nil before), sym q.2 ∙ ap joined none)
