-- What is left of layouts and fields behind the first so many.
use Rattle.std.proofs.Common.{arith, ◌≡◌, ◌∙◌, refl, sym, ap, ap₂, ℕ, suc, ◌+◌, ◌<◌, ◌≤◌, List, [], ◌∷◌, ◌++◌, length, get_or, map, drop, replicate, Option, Some, Vec, Global, false, true≢false}
use Rattle.std.proofs.lemmas.Grind.{common_steps}
use Rattle.std.proofs.lemmas.List.{map-append, append_assoc, append-nil, replicate-append-replicate, drop-drop, drop_all}
use Rattle.lus_values.specs.Values.{Value, bool, int, enum, struct, nil, Fields, end, field, fields_of, Row}
use Rattle.lus_words.specs.Encoded.{words, read, all_read}
use Rattle.lus_words.specs.Fitting.{AllFit, Fits}
use Rattle.lus_values.specs.declared.value.Value.{Value as StoredValue, Struct}
use Rattle.lus_values.specs.View.{value_of}
use Rattle.lus_values.proofs.Views.{is_structure, struct_fields}
use Rattle.lus_words.proofs.Views.{seen_parts}
use Rattle.lus_words.specs.View.{layout_of}
use Rattle.lus_words.specs.declared.layout.Layout.{Layout as StoredLayout, Parts}
use Rattle.lus_words.specs.Layouts.{parts, Layouts, layouts_of, size, sizes}

-- what fits several words is nil, if it is no structure
pub not_structure : (ls : Layouts) (v : Value) → Fits (parts ls) v → is_structure v ≡ false → words (parts ls) v ≡ replicate (sizes ls) (Some nil)
not_structure ls nil h other = refl
not_structure ls (struct fs) h other = absurd (true≢false other)
not_structure ls (bool b) h other = absurd h
not_structure ls (int z) h other = absurd h
not_structure ls (enum t c) h other = absurd h

-- fields behind some
abbrev pub with_fields : List Value → Fields → Fields
with_fields [] fs = fs
with_fields (v ∷ vs) fs = field v (with_fields vs fs)

pub with_one : (vs : List Value) (v : Value) (fs : Fields) → with_fields (vs ++ v ∷ []) fs ≡ with_fields vs (field v fs)
with_one [] v fs = refl
with_one (w ∷ vs) v fs = ap (field w) (with_one vs v fs)

pub with_none : (vs : List Value) → with_fields vs end ≡ fields_of vs
with_none [] = refl
with_none (v ∷ vs) = ap (field v) (with_none vs)

-- layouts

pub drop_step : {X : Type 0} (xs : List X) (i : ℕ) (x : X) → i < length xs → x ≡ get_or xs i x → drop i xs ≡ x ∷ drop (i + 1) xs
drop_step xs i x lt is = grind (arith, common_steps)

abbrev pub seen : List StoredLayout → Layouts
seen ls = layouts_of (map layout_of ls)

-- one more layout is filled
pub fill_step : (ls : List StoredLayout) (i : ℕ) (x : StoredLayout) → i < length ls → x ≡ get_or ls i x → (old new whole : Row) (e : Option Value)
    → new ≡ old ++ replicate (size (layout_of x)) e → old ++ replicate (sizes (seen (drop i ls))) e ≡ whole → new ++ replicate (sizes (seen (drop (i + 1) ls))) e ≡ whole
fill_step ls i x lt is old new whole e made before =
    let here = size (layout_of x) in
    let rest = sizes (seen (drop (i + 1) ls)) in
    ap (λ r. r ++ replicate rest e) made
    ∙ append_assoc old (replicate here e) (replicate rest e)
    ∙ ap (λ r. old ++ r) (replicate-append-replicate here rest e ∙ ap (λ xs. replicate (sizes (seen xs)) e) (sym (drop_step ls i x lt is)))
    ∙ before

-- none is left
pub fill_end : (ls : List StoredLayout) (i : ℕ) → length ls ≤ i → (old whole : Row) (e : Option Value) → old ++ replicate (sizes (seen (drop i ls))) e ≡ whole → old ≡ whole
fill_end ls i past old whole e before = sym (append-nil old) ∙ ap (λ xs. old ++ replicate (sizes (seen xs)) e) (sym (drop_all i ls past)) ∙ before

-- what lies in a `Vec`, where it was looked at
pub parts_are : (v : Vec StoredLayout Global) (l : StoredLayout) (ls : List StoredLayout) → l ≡ Parts v → ls ≡ v.items → layout_of l ≡ parts (seen ls)
parts_are v l ls is given = ap layout_of is ∙ seen_parts v ∙ ap (λ xs. parts (seen xs)) (sym given)

abbrev pub fields_seen : List StoredValue → Fields
fields_seen vs = fields_of (map value_of vs)

pub fields_are : (v : Vec StoredValue Global) (u : StoredValue) (vs : List StoredValue) → u ≡ Struct v → vs ≡ v.items → value_of u ≡ struct (fields_seen vs)
fields_are v u vs is given = ap value_of is ∙ struct_fields v ∙ ap (λ xs. struct (fields_seen xs)) (sym given)

-- fields that fit are as many as their layouts
pub fit_long : (ls : List StoredLayout) (vs : List StoredValue) → AllFit (seen ls) (fields_seen vs) → length ls ≡ length vs
fit_long [] [] h = refl
fit_long [] (v ∷ vs) h = absurd h
fit_long (l ∷ ls) [] h = absurd h
fit_long (l ∷ ls) (v ∷ vs) h = ap suc (fit_long ls vs h.1)

-- one more field is read
module _ (ls : List StoredLayout) (i : ℕ) (x : StoredLayout) (lt : i < length ls) (is : x ≡ get_or ls i x) (r : Row) (place behind : ℕ) (moved : behind ≡ place + size (layout_of x)) where
  pub place_step : (whole : ℕ) → place + sizes (seen (drop i ls)) ≡ whole → behind + sizes (seen (drop (i + 1) ls)) ≡ whole
  place_step whole before = let step : sizes (seen (drop i ls)) ≡ size (layout_of x) + sizes (seen (drop (i + 1) ls)) = ap (λ xs. sizes (seen xs)) (drop_step ls i x lt is) in omega (arith, step, before, moved)

  pub read_step : (old new : List StoredValue) (v : StoredValue) (whole : Fields) → new ≡ old ++ v ∷ [] → value_of v ≡ read (layout_of x) (drop place r)
      → with_fields (map value_of old) (all_read (seen (drop i ls)) (drop place r)) ≡ whole → with_fields (map value_of new) (all_read (seen (drop (i + 1) ls)) (drop behind r)) ≡ whole
  read_step old new v whole made value before =
      let rest = seen (drop (i + 1) ls) in
      ap (λ vs. with_fields (map value_of vs) (all_read rest (drop behind r))) made
      ∙ ap (λ vs. with_fields vs (all_read rest (drop behind r))) (map-append value_of old (v ∷ []))
      ∙ with_one (map value_of old) (value_of v) (all_read rest (drop behind r))
      ∙ ap (with_fields (map value_of old)) (ap₂ field value (ap (all_read rest) (ap (λ n. drop n r) moved ∙ sym (drop-drop (size (layout_of x)) place r))))
      ∙ ap (λ xs. with_fields (map value_of old) (all_read (seen xs) (drop place r))) (sym (drop_step ls i x lt is))
      ∙ before

-- all are read
pub read_end : (ls : List StoredLayout) (i : ℕ) → length ls ≤ i → (r : Row) (vs : List StoredValue) (whole : Fields) → with_fields (map value_of vs) (all_read (seen (drop i ls)) r) ≡ whole → fields_of (map value_of vs) ≡ whole
read_end ls i past r vs whole before = sym (with_none (map value_of vs)) ∙ ap (λ xs. with_fields (map value_of vs) (all_read (seen xs) r)) (sym (drop_all i ls past)) ∙ before
