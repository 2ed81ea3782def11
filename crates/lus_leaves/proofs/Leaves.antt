-- Leaves of one more value, and of a structure.
use Rattle.std.proofs.Common.{◌≡◌, ◌<◌, ◌+◌, ℕ, ℤ, pos, suc, List, [], ◌∷◌, ◌++◌, length, get_or, take, drop, map, reverse, Option, Vec, Global, refl, sym, ap, ◌∙◌, append_assoc}
use Rattle.std.proofs.lemmas.List.{append-nil, length_push, length-map, map-append, reverse-append, take_more}
use Rattle.std.proofs.lemmas.List.Concat.{flat_map-append}
use Rattle.lus_values.specs.declared.value.Value.{Value as StoredValue, Struct}
use Rattle.lus_values.proofs.Views.{struct_fields}
use Rattle.lus_values.specs.Values.{Value, Row, struct, fields_of}
use Rattle.lus_values.specs.View.{value_of, entry_of}
use Rattle.lus_leaves.specs.declared.leaf.Leaf.{Leaf}
use Rattle.lus_leaves.specs.Reading.{AreFields}
use Rattle.lus_leaves.specs.Leaves.{leaf, count, value_leaves, fields_leaves, entry_leaves, row_leaves, rows_leaves}

pub same_leaf : (l : Leaf) (k t : ℕ) (n : ℤ) → l.kind ≡ k → l.of ≡ t → l.number ≡ n → l ≡ leaf k t n
same_leaf l k t n a b c = λ i. record { kind = a i; of = b i; number = c i }

pub one_leaf : (l : Leaf) (k t : ℕ) (n : ℤ) → l.kind ≡ k → l.of ≡ t → l.number ≡ n → l ∷ [] ≡ leaf k t n ∷ []
one_leaf l k t n a b c = ap (λ (m : Leaf). m ∷ []) (same_leaf l k t n a b c)

pub fields_more : (vs : List StoredValue) (v : StoredValue) → fields_leaves (fields_of (map value_of (vs ++ v ∷ []))) ≡ fields_leaves (fields_of (map value_of vs)) ++ value_leaves (value_of v)
fields_more [] v = append-nil (value_leaves (value_of v))
fields_more (u ∷ us) v = ap (λ (ls : List Leaf). value_leaves (value_of u) ++ ls) (fields_more us v) ∙ sym (append_assoc (value_leaves (value_of u)) (fields_leaves (fields_of (map value_of us))) (value_leaves (value_of v)))

pub count_fields : (vs : List Value) → count (fields_of vs) ≡ length vs
count_fields [] = refl
count_fields (v ∷ vs) = ap suc (count_fields vs)

pub structure_leaves : (vs : List StoredValue) → value_leaves (struct (fields_of (map value_of vs))) ≡ leaf 4 0 (pos (length vs)) ∷ fields_leaves (fields_of (map value_of vs))
structure_leaves vs = ap (λ (n : ℕ). leaf 4 0 (pos n) ∷ fields_leaves (fields_of (map value_of vs))) (count_fields (map value_of vs) ∙ length-map vs value_of)

-- what is behind a place, once more has been read there
pub read_more : (ls : List Leaf) (a b c : ℕ) (us ws both : List Leaf) → drop a ls ≡ us ++ drop b ls → drop b ls ≡ ws ++ drop c ls → both ≡ us ++ ws → drop a ls ≡ both ++ drop c ls
read_more ls a b c us ws both p q e = p ∙ ap (λ (xs : List Leaf). us ++ xs) q ∙ sym (append_assoc us ws (drop c ls)) ∙ ap (λ (xs : List Leaf). xs ++ drop c ls) (sym e)

row_leaves_more : (es : List (Option StoredValue)) (e : Option StoredValue) → row_leaves (map entry_of (es ++ e ∷ [])) ≡ row_leaves (map entry_of es) ++ entry_leaves (entry_of e)
row_leaves_more es e =
    ap row_leaves (map-append entry_of es (e ∷ [])) ∙ flat_map-append entry_leaves (map entry_of es) (entry_of e ∷ []) ∙ ap (λ (l : List Leaf). row_leaves (map entry_of es) ++ l) (append-nil (entry_leaves (entry_of e)))

-- one more entry is read
pub entries_more : (ls : List Leaf) (es : List (Option StoredValue)) (e : Option StoredValue) (at next : ℕ) → ls ≡ row_leaves (map entry_of es) ++ drop at ls → drop at ls ≡ entry_leaves (entry_of e) ++ drop next ls → ls ≡ row_leaves (map entry_of (es ++ e ∷ [])) ++ drop next ls
entries_more ls es e at next p q =
    p ∙ ap (λ (l : List Leaf). row_leaves (map entry_of es) ++ l) q ∙ sym (append_assoc (row_leaves (map entry_of es)) (entry_leaves (entry_of e)) (drop next ls))
    ∙ ap (λ (l : List Leaf). l ++ drop next ls) (sym (row_leaves_more es e))

-- one more entry is taken from the end
pub popped : (whole : List (Option Value)) (items olds news : List (Option StoredValue)) (e : Option StoredValue) → whole ≡ map entry_of items ++ map entry_of (reverse olds) → olds ≡ news ++ e ∷ [] → whole ≡ map entry_of (items ++ e ∷ []) ++ map entry_of (reverse news)
popped whole items olds news e p q =
    p ∙ ap (λ (l : List (Option StoredValue)). map entry_of items ++ map entry_of l) (ap reverse q ∙ reverse-append news (e ∷ []))
    ∙ sym (append_assoc (map entry_of items) (entry_of e ∷ []) (map entry_of (reverse news)))
    ∙ ap (λ (l : List (Option Value)). l ++ map entry_of (reverse news)) (sym (map-append entry_of items (e ∷ [])))

-- one more row is made of the entries that are left
pub rows_more : (ls : List Leaf) (rows : List Row) (row olds news : Row) → rows_leaves rows ++ row_leaves olds ≡ ls → olds ≡ row ++ news → rows_leaves (rows ++ row ∷ []) ++ row_leaves news ≡ ls
rows_more ls rows row olds news p q =
    ap (λ (l : List Leaf). l ++ row_leaves news) (flat_map-append row_leaves rows (row ∷ []) ∙ ap (λ (l : List Leaf). rows_leaves rows ++ l) (append-nil (row_leaves row)))
    ∙ append_assoc (rows_leaves rows) (row_leaves row) (row_leaves news)
    ∙ ap (λ (l : List Leaf). rows_leaves rows ++ l) (sym (flat_map-append entry_leaves row news) ∙ ap row_leaves (sym q))
    ∙ p

-- the first values of an array, and the next one
pub fields_next : (vs : List StoredValue) (i : ℕ) (v : StoredValue) → i < length vs → v ≡ get_or vs i v → fields_leaves (fields_of (map value_of (take (i + 1) vs))) ≡ fields_leaves (fields_of (map value_of (take i vs))) ++ value_leaves (value_of v)
fields_next vs i v h e =
    ap (λ (l : List StoredValue). fields_leaves (fields_of (map value_of l))) (take_more vs i v h ∙ ap (λ (u : StoredValue). take i vs ++ u ∷ []) (sym e)) ∙ fields_more (take i vs) v

pub entries_next : (es : List (Option StoredValue)) (i : ℕ) (e : Option StoredValue) → i < length es → e ≡ get_or es i e → row_leaves (map entry_of (take (i + 1) es)) ≡ row_leaves (map entry_of (take i es)) ++ entry_leaves (entry_of e)
entries_next es i e h p =
    ap (λ (l : List (Option StoredValue)). row_leaves (map entry_of l)) (take_more es i e h ∙ ap (λ (u : Option StoredValue). take i es ++ u ∷ []) (sym p)) ∙ row_leaves_more (take i es) e

pub rows_next : (rows : List Row) (i : ℕ) (row : Row) → i < length rows → row ≡ get_or rows i row → rows_leaves (take (i + 1) rows) ≡ rows_leaves (take i rows) ++ row_leaves row
rows_next rows i row h p =
    ap rows_leaves (take_more rows i row h ∙ ap (λ (u : Row). take i rows ++ u ∷ []) (sym p)) ∙ flat_map-append row_leaves (take i rows) (row ∷ []) ∙ ap (λ (l : List Leaf). rows_leaves (take i rows) ++ l) (append-nil (row_leaves row))

-- one more field is read
pub fields_read : (ls : List Leaf) (start at next n : ℕ) (vs : List StoredValue) (v : StoredValue) → AreFields ls start n vs at → drop at ls ≡ value_leaves (value_of v) ++ drop next ls → AreFields ls start (n + 1) (vs ++ v ∷ []) next
fields_read ls start at next n vs v p found = record {
  leaves = read_more ls start at next (fields_leaves (fields_of (map value_of vs))) (value_leaves (value_of v)) (fields_leaves (fields_of (map value_of (vs ++ v ∷ [])))) p.leaves found (fields_more vs v);
  count_is = length_push vs v ∙ ap (λ (k : ℕ). k + 1) p.count_is;
}

-- the head of a structure, and its fields behind it
pub structure_read : (ls : List Leaf) (at n next : ℕ) (all : Vec StoredValue Global) → drop at ls ≡ leaf 4 0 (pos n) ∷ drop (at + 1) ls → AreFields ls (at + 1) n all.items next → drop at ls ≡ value_leaves (value_of (Struct all)) ++ drop next ls
structure_read ls at n next all head p =
    head ∙ ap (λ (l : List Leaf). leaf 4 0 (pos n) ∷ l) p.leaves
    ∙ ap (λ (k : ℕ). leaf 4 0 (pos k) ∷ (fields_leaves (fields_of (map value_of all.items)) ++ drop next ls)) (sym p.count_is)
    ∙ ap (λ (l : List Leaf). l ++ drop next ls) (sym (ap value_leaves (struct_fields all) ∙ structure_leaves all.items))
