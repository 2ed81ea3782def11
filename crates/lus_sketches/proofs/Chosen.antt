-- One variable more, and one name more.
use Rattle.std.proofs.Common.{◌≡◌, ◌∙◌, ◌+◌, ◌++◌, ◌<◌, ℕ, zero, suc, Bool, not, List, [], ◌∷◌, Some, None, length, map, nat_lt, refl, ap, ap₂, sym, slice_index_or, subst, drop, take, append-nil, append_assoc, arith, not-suc-le-zero, le_of_suc-le-suc, if◌then◌else◌}
use Rattle.std.specs.Prelude.{position}
use Rattle.std.specs.List.{prefix_len}
use Rattle.std.proofs.lemmas.List.{length-map}
use Rattle.lus_program.specs.Programs.{Program, Variable}
use Rattle.lus_program.specs.View.{variable_of}
use Rattle.lus_program.specs.declared.node.Variable.{Variable as StoredVariable}
use Rattle.lus_values.specs.Names.{Text}
use Rattle.lus_sketches.specs.Paths.{Called, Chosen, all_from, call_of, chosen_by, chosen_named, under}
use Rattle.lus_sketches.specs.Signals.{Choose, IsFirstUnknown}

pub map_last : {X Y : Type 0} (f : X → Y) (xs : List X) (x : X) → map f (xs ++ x ∷ []) ≡ map f xs ++ f x ∷ []
map_last f [] x = refl
map_last f (y ∷ xs) x = ap (λ l. f y ∷ l) (map_last f xs x)

taken_suc : {X : Type 0} (i : ℕ) (xs : List X) (x : X) → i < length xs → x ≡ slice_index_or xs i x → take (suc i) xs ≡ take i xs ++ x ∷ []
taken_suc i [] x lt is = elim (not-suc-le-zero lt) [ ]
taken_suc zero (y ∷ xs) x lt is = ap (λ z. z ∷ []) (sym is)
taken_suc (suc i) (y ∷ xs) x lt is = ap (λ l. y ∷ l) (taken_suc i xs x (le_of_suc-le-suc lt) is)

pub taken : {X : Type 0} (i : ℕ) (xs : List X) (x : X) → i < length xs → x ≡ slice_index_or xs i x → take (i + 1) xs ≡ take i xs ++ x ∷ []
taken i xs x lt is = let one : i + 1 ≡ suc i = omega arith in ap (λ n. take n xs) one ∙ taken_suc i xs x lt is

taken_length : {X Y : Type 0} (f : X → Y) (i : ℕ) (xs : List X) → i < length xs → length (map f (take i xs)) ≡ i
taken_length f i [] lt = elim (not-suc-le-zero lt) [ ]
taken_length f zero (x ∷ xs) lt = refl
taken_length f (suc i) (x ∷ xs) lt = ap suc (taken_length f i xs (le_of_suc-le-suc lt))

cut_at : {X : Type 0} (i : ℕ) (xs : List X) (x : X) → i < length xs → x ≡ slice_index_or xs i x → xs ≡ take i xs ++ x ∷ drop (suc i) xs
cut_at i [] x lt is = elim (not-suc-le-zero lt) [ ]
cut_at zero (y ∷ xs) x lt is = ap (λ z. z ∷ xs) (sym is)
cut_at (suc i) (y ∷ xs) x lt is = ap (λ l. y ∷ l) (cut_at i xs x (le_of_suc-le-suc lt) is)

same_item : {X : Type 0} (i : ℕ) (xs : List X) (d e : X) → i < length xs → slice_index_or xs i d ≡ slice_index_or xs i e
same_item i [] d e lt = elim (not-suc-le-zero lt) [ ]
same_item zero (y ∷ xs) d e lt = refl
same_item (suc i) (y ∷ xs) d e lt = same_item i xs d e (le_of_suc-le-suc lt)

pub map_both : {X Y : Type 0} (f : X → Y) (xs ys : List X) → map f (xs ++ ys) ≡ map f xs ++ map f ys
map_both f [] ys = refl
map_both f (x ∷ xs) ys = ap (λ l. f x ∷ l) (map_both f xs ys)

all_next : (n : ℕ) (vs : List Variable) (v : Variable) → all_from n (vs ++ v ∷ []) ≡ all_from n vs ++ (v.name, ([], n + length vs)) ∷ []
all_next n [] v = let none : n ≡ n + 0 = omega arith in ap (λ m. (v.name, ([], m)) ∷ []) none
all_next n (w ∷ vs) v =
    let one : suc n + length vs ≡ n + suc (length vs) = omega arith in
    ap (λ l. (w.name, ([], n)) ∷ l) (all_next (suc n) vs v ∙ ap (λ m. all_from (suc n) vs ++ (v.name, ([], m)) ∷ []) one)

-- they have the variables' names
pub all_names : (n : ℕ) (vs : List Variable) → map (λ (c : Chosen). c.0) (all_from n vs) ≡ map (λ v. v.name) vs
all_names n [] = refl
all_names n (v ∷ vs) = ap (λ l. v.name ∷ l) (all_names (suc n) vs)

-- one variable more of a node
pub all_more : (i : ℕ) (vs : List StoredVariable) (v : StoredVariable) → i < length vs → v ≡ slice_index_or vs i v
    → all_from 0 (map variable_of (take (i + 1) vs)) ≡ all_from 0 (map variable_of (take i vs)) ++ ((variable_of v).name, ([], i)) ∷ []
all_more i vs v lt is =
    let long = taken_length variable_of i vs lt in
    let counted : 0 + length (map variable_of (take i vs)) ≡ i = omega (arith, long) in
    ap (λ l. all_from 0 (map variable_of l)) (taken i vs v lt is)
    ∙ ap (all_from 0) (map_last variable_of (take i vs) v)
    ∙ all_next 0 (map variable_of (take i vs)) (variable_of v)
    ∙ ap (λ n. all_from 0 (map variable_of (take i vs)) ++ ((variable_of v).name, ([], n)) ∷ []) counted

prefix_len-map : {X Y : Type 0} (p : Y → Bool) (f : X → Y) (xs : List X) → prefix_len p (map f xs) ≡ prefix_len (λ x. p (f x)) xs
prefix_len-map p f [] = refl
prefix_len-map p f (x ∷ xs) = ap (λ n. if p (f x) then 1 + n else 0) (prefix_len-map p f xs)

pub position-map : {X Y : Type 0} (p : Y → Bool) (f : X → Y) (xs : List X) → position p (map f xs) ≡ position (λ x. p (f x)) xs
position-map p f xs =
    ap₂ (λ n l. if nat_lt n l then Some n else None) (prefix_len-map (λ y. not (p y)) f xs) (length-map xs f)

module _ (p : Program) (f : ℕ) where
  choose_next : (names : List Text) (name : Text) (cs ds : List Chosen) → Choose p f names cs → chosen_named p f name ≡ Some ds
      → Choose p f (names ++ name ∷ []) (cs ++ ds)
  choose_next [] name cs ds none is = (ds, [], is, refl, ap (λ l. l ++ ds) none ∙ sym (append-nil ds))
  choose_next (n ∷ names) name cs ds (first, rest, found, behind, same) is =
      (first, rest ++ ds, found, choose_next names name rest ds behind is, ap (λ l. l ++ ds) same ∙ append_assoc first rest ds)

  module _ {X : Type 0} (now : X → Text) (i : ℕ) (xs : List X) (d : X) (lt : i < length xs) (cs : List Chosen)
      (known : Choose p f (map now (take i xs)) cs) where
    abbrev x : X
    x = slice_index_or xs i d

    is : x ≡ slice_index_or xs i x
    is = same_item i xs d x lt

    -- one name more
    pub choose_more : (ds : List Chosen) → chosen_named p f (now (slice_index_or xs i d)) ≡ Some ds → Choose p f (map now (take (i + 1) xs)) (cs ++ ds)
    choose_more ds found =
        subst (λ l. Choose p f l (cs ++ ds)) (sym (ap (map now) (taken i xs x lt is) ∙ map_last now (take i xs) x))
        (choose_next (map now (take i xs)) (now x) cs ds known found)

    -- or none behind those before
    pub first_unknown : chosen_named p f (now (slice_index_or xs i d)) ≡ None → IsFirstUnknown p f (map now xs) (i + 1)
    first_unknown none = record {
      before = map now (take i xs);
      name = now x;
      behind = map now (drop (suc i) xs);
      stands = ap (map now) (cut_at i xs x lt is) ∙ map_both now (take i xs) (x ∷ drop (suc i) xs);
      counted = ap (λ n. n + 1) (sym (taken_length now i xs lt));
      others = cs;
      known = known;
      unknown = none;
    }

  module _ (step word : Text) (words : List Text) where
    -- words behind a call
    pub behind_call : (c : Called) (found ds : List Chosen) → Some c ≡ call_of p f step → Some found ≡ chosen_by p c.0 word words
        → ds ≡ map (under step c.1) found → Some ds ≡ chosen_by p f step (word ∷ words)
    behind_call c found ds called chosen same = rw (← called, ← chosen) (ap Some same)

    pub behind_none : (c : Called) → Some c ≡ call_of p f step → None ≡ chosen_by p c.0 word words → None ≡ chosen_by p f step (word ∷ words)
    behind_none c called chosen = rw (← called, ← chosen) refl

    pub no_call : None ≡ call_of p f step → None ≡ chosen_by p f step (word ∷ words)
    no_call called = rw (← called) refl
