-- What fits and stands at a place is what is read there.
use Rattle.std.proofs.Common.{◌≡◌, ◌<◌, ◌≤◌, ◌+◌, ◌-◌, ◌++◌, ◌∷◌, [], ℕ, pos, true, false, List, length, drop, map, Option, Some, None, refl, sym, ap, subst, ◌∙◌, append_assoc, Vec, Global, arith}
use Rattle.std.proofs.lemmas.Bool.Decides.{nat_tests}
use Rattle.std.proofs.lemmas.List.{length-map}
use Rattle.lus_values.specs.declared.value.Value.{Value as StoredValue, Struct}
use Rattle.lus_values.proofs.Views.{struct_fields}
use Rattle.lus_values.specs.Values.{Value, bool, int, enum, struct, nil, Fields, end, field, fields_of}
use Rattle.lus_values.specs.View.{value_of, entry_of}
use Rattle.lus_leaves.specs.declared.leaf.Leaf.{Leaf}
use Rattle.lus_leaves.specs.declared.reading.Found.TheVariants.{At, Wrong as NotFound}
use Rattle.lus_leaves.specs.Reading.{IsOnly, AreOnly}
use Rattle.lus_leaves.proofs.Leaves.{count_fields}
use Rattle.lus_leaves.specs.Leaves.{count, entry_leaves, value_leaves, fields_leaves}
use Rattle.lus_leaves.specs.Fits.{ValueFits, FieldsFit, EntryFits, small_of, Piece, whole, head, neither, constructor_piece, head_piece, piece}

same_first : (l f : Leaf) (tail more : List Leaf) → l ∷ tail ≡ f ∷ more → l ≡ f
same_first l f tail more p = cc

same_rest : (l f : Leaf) (tail more : List Leaf) → l ∷ tail ≡ f ∷ more → tail ≡ more
same_rest l f tail more p = cc

small_is : (n : ℕ) → n < 4294967296 → small_of (pos n) ≡ Some n
small_is n h = grind (arith, nat_tests)

-- by what its first leaf is, an entry that fits is that leaf or a structure of fields behind it
abbrev pub Parts : ℕ → Piece → List Leaf → Option Value → List Leaf → Type 0
Parts depth (whole x) tail e rest = (x ≡ e) × (tail ≡ rest)
Parts depth (head n) tail e rest = (fs : Fields) × (e ≡ Some (struct fs)) × (count fs ≡ n) × (0 < depth) × FieldsFit (depth - 1) fs × (tail ≡ fields_leaves fs ++ rest)
Parts depth neither tail e rest = ⊥

pub parts : (depth : ℕ) (e : Option Value) (l : Leaf) (tail rest : List Leaf) → EntryFits depth e → l ∷ tail ≡ entry_leaves e ++ rest → Parts depth (piece l) tail e rest
parts depth None l tail rest h p =
    subst (λ (m : Leaf). Parts depth (piece m) tail None rest) (sym (same_first l _ tail _ p)) (refl, same_rest l _ tail _ p)
parts depth (Some (bool true)) l tail rest h p =
    subst (λ (m : Leaf). Parts depth (piece m) tail (Some (bool true)) rest) (sym (same_first l _ tail _ p)) (refl, same_rest l _ tail _ p)
parts depth (Some (bool false)) l tail rest h p =
    subst (λ (m : Leaf). Parts depth (piece m) tail (Some (bool false)) rest) (sym (same_first l _ tail _ p)) (refl, same_rest l _ tail _ p)
parts depth (Some (int z)) l tail rest h p =
    subst (λ (m : Leaf). Parts depth (piece m) tail (Some (int z)) rest) (sym (same_first l _ tail _ p)) (refl, same_rest l _ tail _ p)
parts depth (Some (enum t c)) l tail rest h p =
    subst (λ (m : Leaf). Parts depth (piece m) tail (Some (enum t c)) rest) (sym (same_first l _ tail _ p))
    (subst (λ (o : Option ℕ). Parts depth (constructor_piece t o) tail (Some (enum t c)) rest) (sym (small_is c h)) (refl, same_rest l _ tail _ p))
parts depth (Some (struct fs)) l tail rest h p =
    subst (λ (m : Leaf). Parts depth (piece m) tail (Some (struct fs)) rest) (sym (same_first l _ tail _ p))
    (subst (λ (o : Option ℕ). Parts depth (head_piece o) tail (Some (struct fs)) rest) (sym (small_is (count fs) h.1)) (fs, refl, refl, h.0, h.2, same_rest l _ tail _ p))
parts depth (Some nil) l tail rest h p = absurd h

-- an entry has a leaf
pub some_leaf : (e : Option Value) (rest : List Leaf) → [] ≡ entry_leaves e ++ rest → ⊥
some_leaf None rest p = cc
some_leaf (Some (bool b)) rest p = cc
some_leaf (Some (int z)) rest p = cc
some_leaf (Some (enum t c)) rest p = cc
some_leaf (Some (struct fs)) rest p = cc
some_leaf (Some nil) rest p = cc

-- these values, and behind them these fields
abbrev pub behind : List StoredValue → Fields → Fields
behind [] fs = fs
behind (v ∷ vs) fs = field (value_of v) (behind vs fs)

pub behind_end : (vs : List StoredValue) → behind vs end ≡ fields_of (map value_of vs)
behind_end [] = refl
behind_end (v ∷ vs) = ap (field (value_of v)) (behind_end vs)

pub behind_more : (vs : List StoredValue) (v : StoredValue) (fs : Fields) → behind (vs ++ v ∷ []) fs ≡ behind vs (field (value_of v) fs)
behind_more [] v fs = refl
behind_more (u ∷ us) v fs = ap (field (value_of u)) (behind_more us v fs)

-- fields that fit and stand at the start begin with those that were read, and the others stand at the place
abbrev pub GoesOn : ℕ → List Leaf → (start n : ℕ) → List StoredValue → (at i : ℕ) → Type 0
GoesOn depth ls start n vs at i =
    (fs : Fields) (rest : List Leaf) → count fs ≡ n → FieldsFit depth fs → drop start ls ≡ fields_leaves fs ++ rest
    → (gs : Fields) × (fs ≡ behind vs gs) × (count gs + i ≡ n) × FieldsFit depth gs × (drop at ls ≡ fields_leaves gs ++ rest)

-- there is a further field
pub record HasMore (depth : ℕ) (ls : List Leaf) (n : ℕ) (fs : Fields) (vs : List StoredValue) (at i : ℕ) (rest : List Leaf) : Type 0 where
  pub value : Value
  pub more : Fields
  pub whole_is : fs ≡ behind vs (field value more)
  pub count_is : count more + (i + 1) ≡ n
  pub value_fits : ValueFits depth value
  pub more_fit : FieldsFit depth more
  pub leaves : drop at ls ≡ value_leaves value ++ (fields_leaves more ++ rest)

has_more : (depth : ℕ) (ls : List Leaf) (n : ℕ) (fs : Fields) (vs : List StoredValue) (at i : ℕ) (rest : List Leaf) (gs : Fields) → i < n → fs ≡ behind vs gs → count gs + i ≡ n → FieldsFit depth gs → drop at ls ≡ fields_leaves gs ++ rest → HasMore depth ls n fs vs at i rest
has_more depth ls n fs vs at i rest end less same count_is fit p = absurd (omega (arith, less, count_is))
has_more depth ls n fs vs at i rest (field v more) less same count_is fit p = record {
  value = v;
  more = more;
  whole_is = same;
  count_is = omega (arith, count_is);
  value_fits = fit.0;
  more_fit = fit.1;
  leaves = p ∙ append_assoc (value_leaves v) (fields_leaves more) rest;
}

goes_on : (depth : ℕ) (ls : List Leaf) (start n : ℕ) (vs : List StoredValue) (at i : ℕ) → i < n → GoesOn depth ls start n vs at i → (fs : Fields) (rest : List Leaf) → count fs ≡ n → FieldsFit depth fs → drop start ls ≡ fields_leaves fs ++ rest → HasMore depth ls n fs vs at i rest
goes_on depth ls start n vs at i less on fs rest count_is fit p =
    let q = on fs rest count_is fit p in
    has_more depth ls n fs vs at i rest q.0 less q.1 q.2 q.3 q.4

pub goes_first : (depth : ℕ) (ls : List Leaf) (start n : ℕ) → GoesOn depth ls start n [] start 0
goes_first depth ls start n = λ fs rest count_is fit p. (fs, refl, omega (arith, count_is), fit, p)

pub goes_more : (depth : ℕ) (ls : List Leaf) (start n : ℕ) (vs : List StoredValue) (at i : ℕ) (v : StoredValue) (next : ℕ) → i < n → GoesOn depth ls start n vs at i → IsOnly depth ls at (At (Some v) next) → GoesOn depth ls start n (vs ++ v ∷ []) next (i + 1)
goes_more depth ls start n vs at i v next less on only = λ fs rest count_is fit p.
    let q = goes_on depth ls start n vs at i less on fs rest count_is fit p in
    let found = only (Some q.value) (fields_leaves q.more ++ rest) q.value_fits q.leaves in
    let same : value_of v ≡ q.value = cc (found.0) in
    (q.more, q.whole_is ∙ ap (λ (u : Value). behind vs (field u q.more)) (sym same) ∙ sym (behind_more vs v q.more), q.count_is, q.more_fit, found.1)

pub goes_wrong : (depth : ℕ) (ls : List Leaf) (start n : ℕ) (vs : List StoredValue) (at i : ℕ) → i < n → GoesOn depth ls start n vs at i → IsOnly depth ls at NotFound → AreOnly depth ls start n None
goes_wrong depth ls start n vs at i less on only = λ fs rest count_is fit p.
    let q = goes_on depth ls start n vs at i less on fs rest count_is fit p in
    only (Some q.value) (fields_leaves q.more ++ rest) q.value_fits q.leaves

pub goes_absent : (depth : ℕ) (ls : List Leaf) (start n : ℕ) (vs : List StoredValue) (at i next : ℕ) → i < n → GoesOn depth ls start n vs at i → IsOnly depth ls at (At None next) → AreOnly depth ls start n None
goes_absent depth ls start n vs at i next less on only = λ fs rest count_is fit p.
    let q = goes_on depth ls start n vs at i less on fs rest count_is fit p in
    let found = only (Some q.value) (fields_leaves q.more ++ rest) q.value_fits q.leaves in
    absurd (none_some q.value found.0)
  where
    none_some : (v : Value) → None ≡ Some v → ⊥
    none_some v e = cc

no_more : (gs : Fields) (i n : ℕ) → n ≤ i → count gs + i ≡ n → gs ≡ end
no_more end i n h p = refl
no_more (field v gs) i n h p = absurd (omega (arith, h, p))

pub goes_last : (depth : ℕ) (ls : List Leaf) (start n : ℕ) (vs : Vec StoredValue Global) (at i : ℕ) → n ≤ i → GoesOn depth ls start n vs.items at i → AreOnly depth ls start n (Some (vs, at))
goes_last depth ls start n vs at i h on = λ fs rest count_is fit p.
    let q = on fs rest count_is fit p in
    let none : q.0 ≡ end = no_more q.0 i n h q.2 in
    (sym (q.1 ∙ ap (behind vs.items) none ∙ behind_end vs.items), q.4 ∙ ap (λ (g : Fields). fields_leaves g ++ rest) none)

-- what is read of one leaf
pub only_none : (depth : ℕ) (ls : List Leaf) (at : ℕ) → drop at ls ≡ [] → IsOnly depth ls at NotFound
only_none depth ls at none = λ e rest h p. some_leaf e rest (sym none ∙ p)

parts_at : (depth : ℕ) (ls : List Leaf) (at : ℕ) (l : Leaf) (m : Piece) (e : Option Value) (rest : List Leaf) → drop at ls ≡ l ∷ drop (at + 1) ls → piece l ≡ m → EntryFits depth e → drop at ls ≡ entry_leaves e ++ rest → Parts depth m (drop (at + 1) ls) e rest
parts_at depth ls at l m e rest first is h p = subst (λ (m : Piece). Parts depth m (drop (at + 1) ls) e rest) is (parts depth e l (drop (at + 1) ls) rest h (sym first ∙ p))

pub only_entry : (depth : ℕ) (ls : List Leaf) (at : ℕ) (l : Leaf) (found : Option StoredValue) → drop at ls ≡ l ∷ drop (at + 1) ls → piece l ≡ whole (entry_of found) → IsOnly depth ls at (At found (at + 1))
only_entry depth ls at l found first is = λ e rest h p. parts_at depth ls at l _ e rest first is h p

pub only_neither : (depth : ℕ) (ls : List Leaf) (at : ℕ) (l : Leaf) → drop at ls ≡ l ∷ drop (at + 1) ls → piece l ≡ neither → IsOnly depth ls at NotFound
only_neither depth ls at l first is = λ e rest h p. parts_at depth ls at l _ e rest first is h p

pub only_shallow : (ls : List Leaf) (at : ℕ) (l : Leaf) (n : ℕ) → drop at ls ≡ l ∷ drop (at + 1) ls → piece l ≡ head n → IsOnly 0 ls at NotFound
only_shallow ls at l n first is = λ e rest h p. absurd (omega (arith, (parts_at 0 ls at l _ e rest first is h p).3))

pub only_broken : (depth : ℕ) (ls : List Leaf) (at : ℕ) (l : Leaf) (n : ℕ) → drop at ls ≡ l ∷ drop (at + 1) ls → piece l ≡ head n → AreOnly (depth - 1) ls (at + 1) n None → IsOnly depth ls at NotFound
only_broken depth ls at l n first is only = λ e rest h p.
    let q = parts_at depth ls at l _ e rest first is h p in
    only q.0 rest q.2 q.4 q.5

pub only_structure : (depth : ℕ) (ls : List Leaf) (at : ℕ) (l : Leaf) (n : ℕ) (all : Vec StoredValue Global) (next : ℕ) → drop at ls ≡ l ∷ drop (at + 1) ls → piece l ≡ head n → AreOnly (depth - 1) ls (at + 1) n (Some (all, next)) → IsOnly depth ls at (At (Some (Struct all)) next)
only_structure depth ls at l n all next first is only = λ e rest h p.
    let q = parts_at depth ls at l _ e rest first is h p in
    let found = only q.0 rest q.2 q.4 q.5 in
    (ap Some (struct_fields all ∙ ap struct found.0) ∙ sym q.1, found.1)

-- what was read fits
pub structure_fits : (depth n : ℕ) (all : Vec StoredValue Global) → 0 < depth → n < 4294967296 → length all.items ≡ n → FieldsFit (depth - 1) (fields_of (map value_of all.items)) → EntryFits depth (entry_of (Some (Struct all)))
structure_fits depth n all deep few count_is fit =
    subst (ValueFits depth) (sym (struct_fields all)) (deep, omega (arith, few, count_is, count_fields (map value_of all.items), length-map all.items value_of), fit)

pub fields_fit_more : (depth : ℕ) (vs : List StoredValue) (v : StoredValue) → FieldsFit depth (fields_of (map value_of vs)) → ValueFits depth (value_of v) → FieldsFit depth (fields_of (map value_of (vs ++ v ∷ [])))
fields_fit_more depth [] v h f = (f, tt)
fields_fit_more depth (u ∷ us) v h f = (h.0, fields_fit_more depth us v h.1 f)
