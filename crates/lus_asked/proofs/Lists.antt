-- Lists are read back from their items' texts, with separators between them.
use Rattle.std.proofs.Common.{◌≡◌, ◌∙◌, ◌++◌, ◌==◌, ◌+◌, ◌-◌, ◌<◌, ◌≤◌, ℕ, zero, suc, refl, ap, sym, true, false, List, [], ◌∷◌, length, Option, Some, None, append_assoc, length-append, arith}
use Rattle.std.specs.Prelude.{option_and_then, flat_map}
use Rattle.lus_values.specs.Lists.{Each}
use Rattle.lus_values.specs.Names.{Text}
use Rattle.lus_asked.specs.Reading.{after, behind, ends_word, first_as, items_at, list_at, listed, with_rest}
use Rattle.lus_asked.proofs.Pieces.{IsBehind, after_front, after_other}

-- each item behind a separator
abbrev pub later_text : {A : Type 0} → (A → Text) → Text → List A → Text
later_text spell separator xs = flat_map (λ x. separator ++ spell x) xs

-- items with separators between them
abbrev pub list_text : {A : Type 0} → (A → Text) → Text → List A → Text
list_text spell separator [] = []
list_text spell separator (x ∷ xs) = spell x ++ later_text spell separator xs

-- items of which P holds are read back from their texts, whatever stands behind them; none begins as the end of a list does
pub record ReadsBack (A : Type 0) (read : Text → Option (A × Text)) (spell : A → Text) (P : A → Type 0) (close : ℕ) : Type 0 where
  pub back : (x : A) (rest : Text) → P x → IsBehind rest → read (spell x ++ rest) ≡ Some (x, rest)
  pub apart : (x : A) (rest : Text) → P x → after (close ∷ []) (spell x ++ rest) ≡ None

later_few : (A : Type 0) (spell : A → Text) (s : ℕ) (ss : Text) (xs : List A) → length xs ≤ length (later_text spell (s ∷ ss) xs)
later_few A spell s ss [] = omega arith
later_few A spell s ss (x ∷ xs) =
    let more : length xs ≤ length (later_text spell (s ∷ ss) xs) = later_few A spell s ss xs in
    let long : length (((s ∷ ss) ++ spell x) ++ later_text spell (s ∷ ss) xs) ≡ length ((s ∷ ss) ++ spell x) + length (later_text spell (s ∷ ss) xs) = length-append {A = ℕ} ((s ∷ ss) ++ spell x) (later_text spell (s ∷ ss) xs) in
    let first : length ((s ∷ ss) ++ spell x) ≡ suc (length ss) + length (spell x) = length-append {A = ℕ} (s ∷ ss) (spell x) in
    omega (arith, more, long, first)

regroup : (a b c d : Text) → ((a ++ b) ++ c) ++ d ≡ a ++ (b ++ (c ++ d))
regroup a b c d = append_assoc (a ++ b) c d ∙ append_assoc a b (c ++ d)

pub items_back : (A : Type 0) (read : Text → Option (A × Text)) (spell : A → Text) (P : A → Type 0) (c s : ℕ) (ss : Text) → ReadsBack A read spell P c
    → (s == c) ≡ false → ends_word c ≡ true → ends_word s ≡ true
    → (n : ℕ) (x : A) (xs : List A) (rest : Text) → P x → Each P xs → length xs < n
    → items_at read (c ∷ []) (s ∷ ss) n (spell x ++ (later_text spell (s ∷ ss) xs ++ ((c ∷ []) ++ rest))) ≡ Some (x ∷ xs, rest)
items_back A read spell P c s ss reads other close separator zero x xs rest px pxs few = absurd (omega arith)
items_back A read spell P c s ss reads other close separator (suc n) x [] rest px pxs few =
    let go = items_at read (c ∷ []) (s ∷ ss) n in
    ap (option_and_then (λ (p : A × Text). behind p.0 go (after (c ∷ []) p.1) (after (s ∷ ss) p.1))) (reads.back x ((c ∷ []) ++ rest) px close)
    ∙ ap (λ (o : Option Text). behind x go o (after (s ∷ ss) ((c ∷ []) ++ rest))) (after_front (c ∷ []) rest)
items_back A read spell P c s ss reads other close separator (suc n) x (y ∷ ys) rest px pxs few =
    let go = items_at read (c ∷ []) (s ∷ ss) n in
    let end : Text = (c ∷ []) ++ rest in
    let left : Text = spell y ++ (later_text spell (s ∷ ss) ys ++ end) in
    let here : Text = (((s ∷ ss) ++ spell y) ++ later_text spell (s ∷ ss) ys) ++ end in
    let parts : here ≡ (s ∷ ss) ++ left = regroup (s ∷ ss) (spell y) (later_text spell (s ∷ ss) ys) end in
    let open_end : after (c ∷ []) here ≡ None = after_other c s [] ((((ss ++ spell y) ++ later_text spell (s ∷ ss) ys)) ++ end) other in
    let later : after (s ∷ ss) here ≡ Some left = ap (after (s ∷ ss)) parts ∙ after_front (s ∷ ss) left in
    let rest_read : go left ≡ Some (y ∷ ys, rest) = items_back A read spell P c s ss reads other close separator n y ys rest pxs.0 pxs.1 (omega arith) in
    ap (option_and_then (λ (p : A × Text). behind p.0 go (after (c ∷ []) p.1) (after (s ∷ ss) p.1))) (reads.back x here px separator)
    ∙ ap (λ (o : Option Text). behind x go o (after (s ∷ ss) here)) open_end
    ∙ ap (λ (o : Option Text). behind x go None o) later
    ∙ ap (first_as (λ (zs : List A). x ∷ zs)) rest_read

-- a list is read back
pub list_back : (A : Type 0) (read : Text → Option (A × Text)) (spell : A → Text) (P : A → Type 0) (c s : ℕ) (ss : Text) → ReadsBack A read spell P c
    → (s == c) ≡ false → ends_word c ≡ true → ends_word s ≡ true
    → (xs : List A) (rest : Text) → Each P xs
    → list_at read (c ∷ []) (s ∷ ss) (list_text spell (s ∷ ss) xs ++ ((c ∷ []) ++ rest)) ≡ Some (xs, rest)
unfolding list_at
list_back A read spell P c s ss reads other close separator [] rest all =
    ap (λ (o : Option Text). listed o (items_at read (c ∷ []) (s ∷ ss) (length ((c ∷ []) ++ rest)) ((c ∷ []) ++ rest))) (after_front (c ∷ []) rest)
list_back A read spell P c s ss reads other close separator (x ∷ xs) rest all =
    let end : Text = (c ∷ []) ++ rest in
    let later : Text = later_text spell (s ∷ ss) xs in
    let text : Text = (spell x ++ later) ++ end in
    let parts : text ≡ spell x ++ (later ++ end) = append_assoc (spell x) later end in
    let few : length xs ≤ length later = later_few A spell s ss xs in
    let long : length text ≡ length (spell x ++ later) + length end = length-append {A = ℕ} (spell x ++ later) end in
    let front : length (spell x ++ later) ≡ length (spell x) + length later = length-append {A = ℕ} (spell x) later in
    let one : length end ≡ suc (length rest) = refl in
    let enough : length xs < length text = omega (arith, few, long, front, one) in
    ap (λ (o : Option Text). listed o (items_at read (c ∷ []) (s ∷ ss) (length text) text)) (ap (after (c ∷ [])) parts ∙ reads.apart x (later ++ end) all.0)
    ∙ ap (items_at read (c ∷ []) (s ∷ ss) (length text)) parts
    ∙ items_back A read spell P c s ss reads other close separator (length text) x xs rest all.0 all.1 enough

-- ---- what a loop has read, and what it has not

-- items before those that are read on
abbrev pub with_items : {A : Type 0} → List A → Option (List A × Text) → Option (List A × Text)
with_items front o = first_as (λ xs. front ++ xs) o

with_more : (A : Type 0) (front : List A) (x : A) (o : Option (List A × Text)) → with_items front (first_as (λ xs. x ∷ xs) o) ≡ with_items (front ++ x ∷ []) o
with_more A front x None = refl
with_more A front x (Some q) = ap (λ (xs : List A). with_rest q.1 (Some xs)) (sym (append_assoc front (x ∷ []) q.0))

no_front : (A : Type 0) (o : Option (List A × Text)) → with_items [] o ≡ o
no_front A None = refl
no_front A (Some q) = refl

-- the next item is the last
pub item_last : (A : Type 0) (read : Text → Option (A × Text)) (close separator : Text) (n : ℕ) (front : List A) (x : A) (left rest last : Text) → 0 < n
    → Some (x, rest) ≡ read left → after close rest ≡ Some last
    → with_items front (items_at read close separator n left) ≡ Some (front ++ x ∷ [], last)
item_last A read close separator zero front x left rest last some is ends = absurd (omega arith)
item_last A read close separator (suc n) front x left rest last some is ends =
    ap (λ (o : Option (A × Text)). with_items front (option_and_then (λ (p : A × Text). behind p.0 (items_at read close separator n) (after close p.1) (after separator p.1)) o)) (sym is)
    ∙ ap (λ (o : Option Text). with_items front (behind x (items_at read close separator n) o (after separator rest))) ends

-- the next item is followed by another
pub item_more : (A : Type 0) (read : Text → Option (A × Text)) (close separator : Text) (n : ℕ) (front : List A) (x : A) (left rest later : Text) → 0 < n
    → Some (x, rest) ≡ read left → after close rest ≡ None → after separator rest ≡ Some later
    → with_items front (items_at read close separator n left) ≡ with_items (front ++ x ∷ []) (items_at read close separator (n - 1) later)
item_more A read close separator zero front x left rest later some is open_end goes = absurd (omega arith)
item_more A read close separator (suc n) front x left rest later some is open_end goes =
    let less : suc n - 1 ≡ n = omega arith in
    ap (λ (o : Option (A × Text)). with_items front (option_and_then (λ (p : A × Text). behind p.0 (items_at read close separator n) (after close p.1) (after separator p.1)) o)) (sym is)
    ∙ ap (λ (o : Option Text). with_items front (behind x (items_at read close separator n) o (after separator rest))) open_end
    ∙ ap (λ (o : Option Text). with_items front (behind x (items_at read close separator n) None o)) goes
    ∙ with_more A front x (items_at read close separator n later)
    ∙ ap (λ (m : ℕ). with_items (front ++ x ∷ []) (items_at read close separator m later)) (sym less)

-- no item stands there
pub item_none : (A : Type 0) (read : Text → Option (A × Text)) (close separator : Text) (n : ℕ) (front : List A) (left : Text)
    → None ≡ read left → with_items front (items_at read close separator n left) ≡ None
item_none A read close separator zero front left is = refl
item_none A read close separator (suc n) front left is =
    ap (λ (o : Option (A × Text)). with_items front (option_and_then (λ (p : A × Text). behind p.0 (items_at read close separator n) (after close p.1) (after separator p.1)) o)) (sym is)

-- the next item is followed by neither
pub item_stuck : (A : Type 0) (read : Text → Option (A × Text)) (close separator : Text) (n : ℕ) (front : List A) (x : A) (left rest : Text)
    → Some (x, rest) ≡ read left → after close rest ≡ None → after separator rest ≡ None
    → with_items front (items_at read close separator n left) ≡ None
item_stuck A read close separator zero front x left rest is open_end ends = refl
item_stuck A read close separator (suc n) front x left rest is open_end ends =
    ap (λ (o : Option (A × Text)). with_items front (option_and_then (λ (p : A × Text). behind p.0 (items_at read close separator n) (after close p.1) (after separator p.1)) o)) (sym is)
    ∙ ap (λ (o : Option Text). with_items front (behind x (items_at read close separator n) o (after separator rest))) open_end
    ∙ ap (λ (o : Option Text). with_items front (behind x (items_at read close separator n) None o)) ends

-- nothing is read yet
pub list_begun : (A : Type 0) (read : Text → Option (A × Text)) (close separator : Text) (most : ℕ) (text : Text)
    → None ≡ after close text → most ≡ length text → with_items [] (items_at read close separator (most - 0) text) ≡ list_at read close separator text
unfolding list_at
list_begun A read close separator most text none is =
    let whole : most - 0 ≡ length text = omega arith in
    ap (λ (n : ℕ). with_items [] (items_at read close separator n text)) whole
    ∙ no_front A (items_at read close separator (length text) text)
    ∙ ap (λ (o : Option Text). listed o (items_at read close separator (length text) text)) none

-- a list without items
pub list_empty : (A : Type 0) (read : Text → Option (A × Text)) (close separator text rest : Text)
    → Some rest ≡ after close text → Some ([], rest) ≡ list_at read close separator text
unfolding list_at
list_empty A read close separator text rest some =
    ap (λ (o : Option Text). listed o (items_at read close separator (length text) text)) some

-- no more items may stand there
pub item_spent : (A : Type 0) (read : Text → Option (A × Text)) (close separator : Text) (n : ℕ) (front : List A) (left : Text)
    → n ≡ 0 → with_items front (items_at read close separator n left) ≡ None
item_spent A read close separator zero front left is = refl
item_spent A read close separator (suc n) front left is = absurd (omega arith)

-- ---- by what the loops have at hand: the items so far, and what is read on gives the whole

pub empty_list : (A : Type 0) (read : Text → Option (A × Text)) (close separator text rest : Text) (ys : List A)
    → ys ≡ [] → Some rest ≡ after close text → with_rest rest (Some ys) ≡ list_at read close separator text
empty_list A read close separator text rest ys none some =
    ap (λ (zs : List A). with_rest rest (Some zs)) none ∙ list_empty A read close separator text rest some

pub begun_list : (A : Type 0) (read : Text → Option (A × Text)) (close separator text : Text) (ys : List A)
    → ys ≡ [] → None ≡ after close text → with_items ys (items_at read close separator (length text - 0) text) ≡ list_at read close separator text
begun_list A read close separator text ys nothing none =
    ap (λ (zs : List A). with_items zs (items_at read close separator (length text - 0) text)) nothing ∙ list_begun A read close separator (length text) text none refl

pub last_item : (A : Type 0) (read : Text → Option (A × Text)) (close separator : Text) (most counter : ℕ) (front ys : List A) (x : A) (left behind rest : Text)
    (whole : Option (List A × Text)) → counter < most → ys ≡ front ++ x ∷ [] → Some (x, behind) ≡ read left → after close behind ≡ Some rest
    → with_items front (items_at read close separator (most - counter) left) ≡ whole → with_rest rest (Some ys) ≡ whole
last_item A read close separator most counter front ys x left behind rest whole less pushed is ends so_far =
    let some : 0 < most - counter = omega arith in
    ap (λ (zs : List A). with_rest rest (Some zs)) pushed ∙ sym (item_last A read close separator (most - counter) front x left behind rest some is ends) ∙ so_far

pub more_item : (A : Type 0) (read : Text → Option (A × Text)) (close separator : Text) (most counter : ℕ) (front ys : List A) (x : A) (left behind later : Text)
    (whole : Option (List A × Text)) → counter < most → ys ≡ front ++ x ∷ [] → Some (x, behind) ≡ read left
    → (after close behind ≡ None) × (after separator behind ≡ Some later)
    → with_items front (items_at read close separator (most - counter) left) ≡ whole → with_items ys (items_at read close separator (most - (counter + 1)) later) ≡ whole
more_item A read close separator most counter front ys x left behind later whole less pushed is goes so_far =
    let some : 0 < most - counter = omega arith in
    let fewer : most - (counter + 1) ≡ (most - counter) - 1 = omega arith in
    ap (λ (zs : List A). with_items zs (items_at read close separator (most - (counter + 1)) later)) pushed
    ∙ ap (λ (n : ℕ). with_items (front ++ x ∷ []) (items_at read close separator n later)) fewer
    ∙ sym (item_more A read close separator (most - counter) front x left behind later some is goes.0 goes.1) ∙ so_far

pub stuck_item : (A : Type 0) (read : Text → Option (A × Text)) (close separator : Text) (n : ℕ) (front : List A) (x : A) (left behind : Text)
    (whole : Option (List A × Text)) → Some (x, behind) ≡ read left → (after close behind ≡ None) × (after separator behind ≡ None)
    → with_items front (items_at read close separator n left) ≡ whole → None ≡ whole
stuck_item A read close separator n front x left behind whole is ends so_far =
    sym (item_stuck A read close separator n front x left behind is ends.0 ends.1) ∙ so_far

pub none_item : (A : Type 0) (read : Text → Option (A × Text)) (close separator : Text) (n : ℕ) (front : List A) (left : Text)
    (whole : Option (List A × Text)) → None ≡ read left → with_items front (items_at read close separator n left) ≡ whole → None ≡ whole
none_item A read close separator n front left whole is so_far = sym (item_none A read close separator n front left is) ∙ so_far

pub spent_item : (A : Type 0) (read : Text → Option (A × Text)) (close separator : Text) (most counter : ℕ) (front : List A) (left : Text)
    (whole : Option (List A × Text)) → most ≤ counter → with_items front (items_at read close separator (most - counter) left) ≡ whole → None ≡ whole
spent_item A read close separator most counter front left whole less so_far =
    let none : most - counter ≡ 0 = omega arith in
    sym (item_spent A read close separator (most - counter) front left none) ∙ so_far
