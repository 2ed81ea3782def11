-- The longest text of a token at a place.
use Rattle.std.proofs.Common.{◌≡◌, ℕ, suc, ◌≤◌, Bool, true, false, cond, List, [], ◌∷◌, ◌++◌, length, get_or, take, drop, Option, Some, None, is_some, refl, sym, ap, subst, ◌∙◌, arith, length-take, take-append-drop, inl, inr, ◌⊎◌}
use Rattle.std.specs.Prelude.{◌||◌, ◌&&◌, not, nat_le, MatchOption, IfSome}
use Rattle.std.specs.List.{list_all, prefix_len, slice_get}
use Rattle.std.specs.Char.{is_ascii_digit}
use Rattle.std.specs.Str.{bytes_eq}
use Rattle.std.proofs.lemmas.Bool.{or_cases, and_parts, and_from, or_left, or_right, false≢true, both_ways, leb-true, false_from_ne_true, not-true}
use Rattle.std.proofs.lemmas.Bool.Decides.{nat_tests}
use Rattle.std.proofs.lemmas.List.{take_at, length-take-le}
use Rattle.std.proofs.lemmas.List.Sums.{prefix_len-le-length}
use Rattle.std.proofs.lemmas.Slice.Eq.{bytes_eq-Decides}
use Rattle.lus_syntax.specs.Texts.{look_up, begins_name, continues_name, is_name, is_number, is_symbol, is_text, symbols, LongestText, NoText}
use Rattle.lus_syntax.specs.Reading.{symbol_len, first_len, begins_with}

-- ---- one class of bytes

-- what passes at the front is within the longest that passes
pub within_prefix : (p : ℕ → Bool) (x y : List ℕ) → list_all p x ≡ true → length x ≤ prefix_len p (x ++ y)
within_prefix p [] y h = omega arith
within_prefix p (b ∷ x) y h =
    let parts = and_parts (p b) (list_all p x) h in
    let ih = within_prefix p x y parts.1 in
    rw parts.0 (omega (arith, ih))

pub prefix_passes : (p : ℕ → Bool) (xs : List ℕ) → list_all p (take (prefix_len p xs) xs) ≡ true
prefix_passes p [] = refl
prefix_passes p (x ∷ xs) = go (p x) refl (prefix_passes p xs)
  where
    go : (t : Bool) → p x ≡ t → list_all p (take (prefix_len p xs) xs) ≡ true → list_all p (take (prefix_len p (x ∷ xs)) (x ∷ xs)) ≡ true
    go true e ih =
        let n : prefix_len p (x ∷ xs) ≡ suc (prefix_len p xs) = rw e (omega arith) in
        rw n (and_from (p x) (list_all p (take (prefix_len p xs) xs)) e ih)
    go false e ih =
        let n : prefix_len p (x ∷ xs) ≡ 0 = rw e refl in
        rw n refl

-- ---- tables

-- what is found in a table passes each test that the whole table passes
pub found_passes : {A : Type 0} (p : List ℕ → Bool) (text : List ℕ) (t : List (List ℕ × A)) → list_all (λ e. p e.0) t ≡ true → is_some (look_up text t) ≡ true → p text ≡ true
found_passes p text [] all h = absurd (false≢true h)
found_passes p text (e ∷ es) all h = go (bytes_eq e.0 text) refl (λ r. found_passes p text es (and_parts (p e.0) (list_all (λ e. p e.0) es) all).1 r)
  where
    go : (b : Bool) → bytes_eq e.0 text ≡ b → (is_some (look_up text es) ≡ true → p text ≡ true) → p text ≡ true
    go true is ih = subst (λ (x : List ℕ). p x ≡ true) ((bytes_eq-Decides e.0 text).0 is) (and_parts (p e.0) (list_all (λ e. p e.0) es) all).0
    go false is ih = ih (rw is at h)

-- no text is longer than one before it
abbrev pub falls : {A : Type 0} → List (List ℕ × A) → Bool
falls [] = true
falls (e ∷ es) = list_all (λ f. nat_le (length f.0) (length e.0)) es && falls es

begins_from : (here text more : List ℕ) → here ≡ text ++ more → begins_with here text ≡ true
begins_from here text more e = (bytes_eq-Decides text (take (length text) here)).1 (sym (ap (take (length text)) e ∙ take_at text more (length text) refl))

some_is : (m n : ℕ) (o : Option ℕ) → o ≡ Some m → o ≡ Some n → m ≡ n
some_is m n o e f = cc

-- the first text of such a table that stands here is the longest
pub first_longest : {A : Type 0} (here : List ℕ) (t : List (List ℕ × A)) (n : ℕ) (other more : List ℕ) → falls t ≡ true → first_len here t ≡ Some n → here ≡ other ++ more → is_some (look_up other t) ≡ true → length other ≤ n
first_longest here [] n other more order h parts known = absurd (false≢true known)
first_longest here (e ∷ es) n other more order h parts known =
    let orders = and_parts (list_all (λ f. nat_le (length f.0) (length e.0)) es) (falls es) order in
    go orders.0 (begins_with here e.0) refl (bytes_eq e.0 other) refl (λ r k. first_longest here es n other more orders.1 r parts k)
  where
    go : list_all (λ f. nat_le (length f.0) (length e.0)) es ≡ true → (b : Bool) → begins_with here e.0 ≡ b → (s : Bool) → bytes_eq e.0 other ≡ s → (first_len here es ≡ Some n → is_some (look_up other es) ≡ true → length other ≤ n) → length other ≤ n
    go shorter true is true same ih =
        let len : length e.0 ≡ n = some_is (length e.0) n (first_len here (e ∷ es)) (rw is refl) h in
        omega (arith, len, ap length ((bytes_eq-Decides e.0 other).0 same))
    go shorter true is false same ih =
        let len : length e.0 ≡ n = some_is (length e.0) n (first_len here (e ∷ es)) (rw is refl) h in
        let later : is_some (look_up other es) ≡ true = rw same at known in
        let le = found_passes (λ x. nat_le (length x) (length e.0)) other es shorter later in
        omega (arith, len, leb-true (length other) (length e.0) le)
    go shorter false is true same ih =
        let text : e.0 ≡ other = (bytes_eq-Decides e.0 other).0 same in
        absurd (both_ways (begins_with here e.0) is (begins_from here e.0 more (parts ∙ ap (λ (x : List ℕ). x ++ more) (sym text))))
    go shorter false is false same ih = ih (rw is at h) (rw same at known)

some_either : {A : Type 0} (b : Bool) (v : A) (o : Option A) → is_some o ≡ true → is_some (cond b (Some v) o) ≡ true
some_either true v o h = refl
some_either false v o h = h

-- it is in the table, and stands here
pub first_found : {A : Type 0} (here : List ℕ) (t : List (List ℕ × A)) (n : ℕ) → first_len here t ≡ Some n → (is_some (look_up (take n here) t) ≡ true) × (n ≤ length here)
first_found here [] n h = absurd cc
first_found here (e ∷ es) n h = go (begins_with here e.0) refl (λ r. first_found here es n r)
  where
    go : (b : Bool) → begins_with here e.0 ≡ b → (first_len here es ≡ Some n → (is_some (look_up (take n here) es) ≡ true) × (n ≤ length here)) → (is_some (look_up (take n here) (e ∷ es)) ≡ true) × (n ≤ length here)
    go true is ih =
        let len : length e.0 ≡ n = some_is (length e.0) n (first_len here (e ∷ es)) (rw is refl) h in
        let text : e.0 ≡ take n here = (bytes_eq-Decides e.0 (take (length e.0) here)).0 is ∙ ap (λ (k : ℕ). take k here) len in
        (rw ((bytes_eq-Decides e.0 (take n here)).1 text) refl, omega (arith, ap length text, len, length-take n here))
    go false is ih = let r = ih (rw is at h) in (some_either (bytes_eq e.0 (take n here)) e.1 (look_up (take n here) es) r.0, r.1)

-- where nothing of the table stands
pub first_none : {A : Type 0} (here : List ℕ) (t : List (List ℕ × A)) (other more : List ℕ) → first_len here t ≡ None → here ≡ other ++ more → is_some (look_up other t) ≡ true → ⊥
first_none here [] other more h parts known = false≢true known
first_none here (e ∷ es) other more h parts known = go (begins_with here e.0) refl (bytes_eq e.0 other) refl (λ r k. first_none here es other more r parts k)
  where
    go : (b : Bool) → begins_with here e.0 ≡ b → (s : Bool) → bytes_eq e.0 other ≡ s → (first_len here es ≡ None → is_some (look_up other es) ≡ true → ⊥) → ⊥
    go true is s same ih = let found : first_len here (e ∷ es) ≡ Some (length e.0) = rw is refl in cc
    go false is true same ih =
        let text : e.0 ≡ other = (bytes_eq-Decides e.0 other).0 same in
        both_ways (begins_with here e.0) is (begins_from here e.0 more (parts ∙ ap (λ (x : List ℕ). x ++ more) (sym text)))
    go false is false same ih = ih (rw is at h) (rw same at known)

-- ---- the first byte of a text tells its class

-- a symbol begins with no letter, underscore or digit
abbrev plain_first : List ℕ → Bool
plain_first [] = false
plain_first (b ∷ bs) = not (begins_name b) && not (is_ascii_digit b)

symbols_fall : falls symbols ≡ true
unfolding symbols
symbols_fall = refl

symbols_plain : list_all (λ e. plain_first e.0) symbols ≡ true
unfolding symbols
symbols_plain = refl

-- the three classes by the first byte
abbrev OfFirst : List ℕ → Type 0
OfFirst [] = ⊥
OfFirst (b ∷ bs) =
    ((begins_name b ≡ true) × (list_all continues_name (b ∷ bs) ≡ true))
    ⊎ (((is_ascii_digit b ≡ true) × (list_all is_ascii_digit (b ∷ bs) ≡ true))
    ⊎ ((begins_name b ≡ false) × (is_ascii_digit b ≡ false) × (is_symbol (b ∷ bs) ≡ true)))

pub of_first : (x : List ℕ) → is_text x ≡ true → OfFirst x
unfolding is_text is_symbol
of_first [] h = absurd (false≢true (found_passes plain_first [] symbols symbols_plain h))
of_first (b ∷ bs) h = go (or_cases (is_name (b ∷ bs)) (is_number (b ∷ bs) || is_symbol (b ∷ bs)) h)
  where
    go : (is_name (b ∷ bs) ≡ true) ⊎ ((is_number (b ∷ bs) || is_symbol (b ∷ bs)) ≡ true) → OfFirst (b ∷ bs)
    go (inl name) = inl (and_parts (begins_name b) (list_all continues_name (b ∷ bs)) name)
    go (inr other) = more (or_cases (is_number (b ∷ bs)) (is_symbol (b ∷ bs)) other)
      where
        more : (is_number (b ∷ bs) ≡ true) ⊎ (is_symbol (b ∷ bs) ≡ true) → OfFirst (b ∷ bs)
        more (inl number) = inr (inl ((and_parts (is_ascii_digit b) (list_all is_ascii_digit bs) number).0, number))
        more (inr symbol) =
            let first = and_parts (not (begins_name b)) (not (is_ascii_digit b)) (found_passes plain_first (b ∷ bs) symbols symbols_plain symbol) in
            inr (inr (not-true (begins_name b) first.0, not-true (is_ascii_digit b) first.1, symbol))

-- a digit begins no name, and what begins a name goes on one
pub digit_no_name : (b : ℕ) → is_ascii_digit b ≡ true → begins_name b ≡ false
digit_no_name b h = grind (arith, nat_tests)

pub begins_continues : (b : ℕ) → begins_name b ≡ true → continues_name b ≡ true
begins_continues b h = grind (arith, nat_tests)

-- ---- the longest text, by the first byte

same_first : (b c : ℕ) (bs cs more : List ℕ) → b ∷ bs ≡ (c ∷ cs) ++ more → c ≡ b
same_first b c bs cs more e = sym (ap (λ (x : List ℕ). get_or x 0 0) e)

-- a class whose texts are those of one test
run_longest : (p : ℕ → Bool) (b : ℕ) (bs : List ℕ) → is_text (take (prefix_len p (b ∷ bs)) (b ∷ bs)) ≡ true → ((cs : List ℕ) → is_text (b ∷ cs) ≡ true → list_all p (b ∷ cs) ≡ true)
    → LongestText (b ∷ bs) (take (prefix_len p (b ∷ bs)) (b ∷ bs)) (drop (prefix_len p (b ∷ bs)) (b ∷ bs))
run_longest p b bs is class = record {
  parts = sym (take-append-drop (prefix_len p (b ∷ bs)) (b ∷ bs));
  is_one = is;
  longest = bound;
}
  where
    bound : (other more : List ℕ) → b ∷ bs ≡ other ++ more → is_text other ≡ true → length other ≤ length (take (prefix_len p (b ∷ bs)) (b ∷ bs))
    bound [] more e t = omega arith
    bound (c ∷ cs) more e t =
        let first = same_first b c bs cs more e in
        let all : list_all p (c ∷ cs) ≡ true = subst (λ (x : ℕ). list_all p (x ∷ cs) ≡ true) (sym first) (class cs (subst (λ (x : ℕ). is_text (x ∷ cs) ≡ true) first t)) in
        let within = within_prefix p (c ∷ cs) more all in
        omega (arith, within, ap (prefix_len p) e, length-take (prefix_len p (b ∷ bs)) (b ∷ bs), prefix_len-le-length p (b ∷ bs))

name_is_text : (xs : List ℕ) → is_name xs ≡ true → is_text xs ≡ true
unfolding is_text
name_is_text xs h = or_left (is_name xs) (is_number xs || is_symbol xs) h

number_is_text : (xs : List ℕ) → is_number xs ≡ true → is_text xs ≡ true
unfolding is_text
number_is_text xs h = or_right (is_name xs) (is_number xs || is_symbol xs) (or_left (is_number xs) (is_symbol xs) h)

symbol_is_text : (xs : List ℕ) → is_symbol xs ≡ true → is_text xs ≡ true
unfolding is_text
symbol_is_text xs h = or_right (is_name xs) (is_number xs || is_symbol xs) (or_right (is_number xs) (is_symbol xs) h)

taken : (p : ℕ → Bool) (b : ℕ) (bs : List ℕ) → p b ≡ true → take (prefix_len p (b ∷ bs)) (b ∷ bs) ≡ b ∷ take (prefix_len p bs) bs
taken p b bs h =
    let n : prefix_len p (b ∷ bs) ≡ suc (prefix_len p bs) = rw h (omega arith) in
    rw n refl

name_class : (b : ℕ) → begins_name b ≡ true → (cs : List ℕ) → is_text (b ∷ cs) ≡ true → list_all continues_name (b ∷ cs) ≡ true
name_class b h cs t =
    elim (of_first (b ∷ cs) t) [
      | inl name ↦ name.1
      | inr (inl number) ↦ absurd (both_ways (begins_name b) (digit_no_name b number.0) h)
      | inr (inr symbol) ↦ absurd (both_ways (begins_name b) symbol.0 h)
    ]

number_class : (b : ℕ) → is_ascii_digit b ≡ true → (cs : List ℕ) → is_text (b ∷ cs) ≡ true → list_all is_ascii_digit (b ∷ cs) ≡ true
number_class b h cs t =
    elim (of_first (b ∷ cs) t) [
      | inl name ↦ absurd (both_ways (begins_name b) (digit_no_name b h) name.0)
      | inr (inl number) ↦ number.1
      | inr (inr symbol) ↦ absurd (both_ways (is_ascii_digit b) symbol.1 h)
    ]

pub name_longest : (b : ℕ) (bs : List ℕ) → begins_name b ≡ true
    → LongestText (b ∷ bs) (take (prefix_len continues_name (b ∷ bs)) (b ∷ bs)) (drop (prefix_len continues_name (b ∷ bs)) (b ∷ bs))
name_longest b bs h =
    let e = taken continues_name b bs (begins_continues b h) in
    let all : list_all continues_name (b ∷ take (prefix_len continues_name bs) bs) ≡ true = subst (λ (x : List ℕ). list_all continues_name x ≡ true) e (prefix_passes continues_name (b ∷ bs)) in
    let is : is_name (b ∷ take (prefix_len continues_name bs) bs) ≡ true = and_from (begins_name b) (list_all continues_name (b ∷ take (prefix_len continues_name bs) bs)) h all in
    run_longest continues_name b bs (subst (λ (x : List ℕ). is_text x ≡ true) (sym e) (name_is_text (b ∷ take (prefix_len continues_name bs) bs) is)) (name_class b h)

pub number_longest : (b : ℕ) (bs : List ℕ) → is_ascii_digit b ≡ true
    → LongestText (b ∷ bs) (take (prefix_len is_ascii_digit (b ∷ bs)) (b ∷ bs)) (drop (prefix_len is_ascii_digit (b ∷ bs)) (b ∷ bs))
number_longest b bs h =
    let e = taken is_ascii_digit b bs h in
    let all : list_all is_ascii_digit (b ∷ take (prefix_len is_ascii_digit bs) bs) ≡ true = subst (λ (x : List ℕ). list_all is_ascii_digit x ≡ true) e (prefix_passes is_ascii_digit (b ∷ bs)) in
    run_longest is_ascii_digit b bs (subst (λ (x : List ℕ). is_text x ≡ true) (sym e) (number_is_text (b ∷ take (prefix_len is_ascii_digit bs) bs) all)) (number_class b h)

-- a text here that begins with neither a letter nor a digit is a symbol
symbol_class : (b : ℕ) (bs other more : List ℕ) → begins_name b ≡ false → is_ascii_digit b ≡ false → b ∷ bs ≡ other ++ more → is_text other ≡ true → is_symbol other ≡ true
symbol_class b bs [] more n d e t = absurd (of_first [] t)
symbol_class b bs (c ∷ cs) more n d e t =
    let first = same_first b c bs cs more e in
    elim (of_first (c ∷ cs) t) [
      | inl name ↦ absurd (both_ways (begins_name c) (ap begins_name first ∙ n) name.0)
      | inr (inl number) ↦ absurd (both_ways (is_ascii_digit c) (ap is_ascii_digit first ∙ d) number.0)
      | inr (inr symbol) ↦ symbol.2
    ]

pub symbol_longest : (b : ℕ) (bs : List ℕ) (r : Option ℕ) → begins_name b ≡ false → is_ascii_digit b ≡ false → r ≡ symbol_len (b ∷ bs)
    → MatchOption r (NoText (b ∷ bs)) (λ n. LongestText (b ∷ bs) (take n (b ∷ bs)) (drop n (b ∷ bs)))
unfolding symbol_len is_symbol
symbol_longest b bs None n d e = λ text more parts.
    false_from_ne_true (is_text text) (λ t. first_none (b ∷ bs) symbols text more (sym e) parts (symbol_class b bs text more n d parts t))
symbol_longest b bs (Some len) n d e =
    let found = first_found (b ∷ bs) symbols len (sym e) in
    record {
      parts = sym (take-append-drop len (b ∷ bs));
      is_one = symbol_is_text (take len (b ∷ bs)) found.0;
      longest = λ other more parts t.
          omega (arith, first_longest (b ∷ bs) symbols len other more symbols_fall (sym e) parts (symbol_class b bs other more n d parts t), length-take-le len (b ∷ bs) found.1);
    }

pub none_in_nil : NoText []
none_in_nil [] more e = false_from_ne_true (is_text []) (λ t. of_first [] t)
none_in_nil (b ∷ bs) more e = absurd cc

-- ---- as the code has it

the_first : (b c : ℕ) (bs : List ℕ) → Some b ≡ slice_get (c ∷ bs) 0 → c ≡ b
the_first b c bs e = cc

pub name_at : (bytes : List ℕ) (b n : ℕ) → Some b ≡ slice_get bytes 0 → begins_name b ≡ true → n ≡ prefix_len continues_name bytes → LongestText bytes (take n bytes) (drop n bytes)
name_at [] b n e h is = absurd cc
name_at (c ∷ bs) b n e h is = rw is (name_longest c bs (ap begins_name (the_first b c bs e) ∙ h))

pub number_at : (bytes : List ℕ) (b n : ℕ) → Some b ≡ slice_get bytes 0 → is_ascii_digit b ≡ true → n ≡ prefix_len is_ascii_digit bytes → LongestText bytes (take n bytes) (drop n bytes)
number_at [] b n e h is = absurd cc
number_at (c ∷ bs) b n e h is = rw is (number_longest c bs (ap is_ascii_digit (the_first b c bs e) ∙ h))

pub symbol_at : (bytes : List ℕ) (b : ℕ) (r : Option ℕ) → Some b ≡ slice_get bytes 0 → begins_name b ≡ false → is_ascii_digit b ≡ false → r ≡ symbol_len bytes
    → MatchOption r (NoText bytes) (λ n. LongestText bytes (take n bytes) (drop n bytes))
symbol_at [] b r e n d is = absurd cc
symbol_at (c ∷ bs) b r e n d is = symbol_longest c bs r (ap begins_name (the_first b c bs e) ∙ n) (ap is_ascii_digit (the_first b c bs e) ∙ d) is

pub nothing_at : (bytes : List ℕ) (r : Option ℕ) → None ≡ slice_get bytes 0 → r ≡ None → MatchOption r (NoText bytes) (λ n. LongestText bytes (take n bytes) (drop n bytes))
nothing_at [] r e is = rw is none_in_nil
nothing_at (c ∷ bs) r e is = absurd cc

pub symbol_within : (bytes : List ℕ) (r : Option ℕ) → r ≡ symbol_len bytes → IfSome r (λ n. n ≤ length bytes)
unfolding symbol_len
symbol_within bytes None e = tt
symbol_within bytes (Some n) e = (first_found bytes symbols n (sym e)).1
