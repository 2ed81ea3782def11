-- A stack's top stands at the end of a vector.
use Rattle.std.proofs.Common.{◌≡◌, ℕ, ◌-◌, List, [], ◌∷◌, ◌++◌, drop, take, map, reverse, length, Option, sym, ap, ap₂, ◌∙◌}
use Rattle.std.proofs.Math.Seq.{drop-append_seam, take-append_seam}
use Rattle.std.proofs.lemmas.List.{length-drop, length-reverse, reverse-append, reverse-reverse, take-append-drop}
use Rattle.lus_values.specs.declared.value.Value.{Value as StoredValue}
use Rattle.lus_values.specs.View.{entry_of}
use Rattle.lus_clocks.proofs.Lookups.{map-take}
use Rattle.lus_reference.specs.Made.{stack_of}
use Rattle.lus_reference.proofs.Drops.{dropped_map}

module _ {X : Type 0} (n : ℕ) (ys : List X) where
  abbrev top : List X
  top = reverse (take n ys)

  abbrev bottom : List X
  bottom = reverse (drop n ys)

  whole : reverse ys ≡ bottom ++ top
  whole = ap reverse (sym (take-append-drop n ys)) ∙ reverse-append (take n ys) (drop n ys)

  long : length ys - n ≡ length bottom
  long = sym (length-reverse (drop n ys) ∙ length-drop n ys)

  top_is : reverse (drop (length ys - n) (reverse ys)) ≡ take n ys
  top_is = ap reverse (ap₂ drop long whole ∙ drop-append_seam bottom top) ∙ reverse-reverse (take n ys)

  bottom_is : reverse (take (length ys - n) (reverse ys)) ≡ drop n ys
  bottom_is = ap reverse (ap₂ take long whole ∙ take-append_seam bottom top) ∙ reverse-reverse (drop n ys)

-- the last items of a vector are those at the top, and the others are left
pub stack_taken : (n : ℕ) (xs : List (Option StoredValue)) → map entry_of (reverse (drop (length xs - n) xs)) ≡ take n (stack_of xs)
stack_taken n xs =
    ap (map entry_of) (ap₂ (λ m l. reverse (drop (m - n) l)) (sym (length-reverse xs)) (sym (reverse-reverse xs)) ∙ top_is n (reverse xs)) ∙ map-take entry_of n (reverse xs)

pub stack_left : (n : ℕ) (xs : List (Option StoredValue)) → stack_of (take (length xs - n) xs) ≡ drop n (stack_of xs)
stack_left n xs =
    ap (map entry_of) (ap₂ (λ m l. reverse (take (m - n) l)) (sym (length-reverse xs)) (sym (reverse-reverse xs)) ∙ bottom_is n (reverse xs)) ∙ dropped_map entry_of n (reverse xs)

-- one more
pub stack_more : (xs : List (Option StoredValue)) (x : Option StoredValue) → stack_of (xs ++ x ∷ []) ≡ entry_of x ∷ stack_of xs
stack_more xs x = ap (map entry_of) (reverse-append xs (x ∷ []))
