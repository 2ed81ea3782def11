-- Names in tables, and names that are new behind others.
use Rattle.std.proofs.Common.{◌≡◌, ◌∙◌, refl, ap, List, [], ◌∷◌, ◌++◌, Option, Some, None, true, false, not, ◌&&◌, ◌||◌, String, Global, map, append-nil, append_assoc, Bool, sym}
use Rattle.std.specs.Prelude.{is_none, string_bytes, if◌then◌else◌}
use Rattle.std.specs.Option.{option_or}
use Rattle.std.specs.Str.{bytes_eq}
use Rattle.std.specs.List.{list_any, list_all}
use Rattle.std.specs.String.{string_eq}
use Rattle.indexmap.specs.IndexSet.{insert_key}
use Rattle.lus_syntax.specs.Lexemes.{Text}
use Rattle.lus_source.specs.Named.{is_in, all_new, Distinct}
use Rattle.std.proofs.Math.Bool.{and_assoc, or_assoc}
use Rattle.lus_values.proofs.Equalities.{and_left, and_right}

-- neither of two is there
pub none_or : {X : Type 0} (a b : Option X) → is_none (option_or a b) ≡ (is_none a && is_none b)
none_or None b = refl
none_or (Some x) b = refl

pub is_in_keys : (n : Text) (keys : List (String Global)) → list_any (λ k. bytes_eq n (string_bytes k)) keys ≡ is_in (map string_bytes keys) n
is_in_keys n [] = refl
is_in_keys n (k ∷ keys) = ap (λ b. bytes_eq n (string_bytes k) || b) (is_in_keys n keys)

texts_push : (keys : List (String Global)) (k : String Global) → map string_bytes (keys ++ k ∷ []) ≡ map string_bytes keys ++ string_bytes k ∷ []
texts_push [] k = refl
texts_push (x ∷ xs) k = ap (λ l. string_bytes x ∷ l) (texts_push xs k)

pub not_new : (before : List Text) (n : Text) (ns : List Text) → is_in before n ≡ true → all_new before (n ∷ ns) ≡ false
not_new before n ns e = ap (λ b. not b && all_new (before ++ n ∷ []) ns) e

pub is_new_too : (before : List Text) (n : Text) (ns : List Text) → is_in before n ≡ false → all_new before (n ∷ ns) ≡ all_new (before ++ n ∷ []) ns
is_new_too before n ns e = ap (λ b. not b && all_new (before ++ n ∷ []) ns) e

pub grown_keys : (keys : List (String Global)) (k : String Global) (n : Text) → string_bytes k ≡ n → is_in (map string_bytes keys) n ≡ false → map string_bytes (insert_key string_eq keys k) ≡ map string_bytes keys ++ n ∷ []
grown_keys keys k n e absent =
    ap (λ b. map string_bytes (if b then keys else keys ++ k ∷ [])) (is_in_keys (string_bytes k) keys ∙ ap (is_in (map string_bytes keys)) e ∙ absent) ∙ texts_push keys k ∙ ap (λ m. map string_bytes keys ++ m ∷ []) e

not_or : (a b c d : Bool) → not (a || b) && (c && d) ≡ (not a && c) && (not b && d)
not_or true b c d = refl
not_or false true true d = refl
not_or false true false d = refl
not_or false false c d = refl

-- what is among two lists is among one of them
pub is_in-append : (before now : List Text) (n : Text) → is_in (before ++ now) n ≡ (is_in before n || is_in now n)
is_in-append [] now n = refl
is_in-append (m ∷ before) now n = rw (is_in-append before now n) (sym (or_assoc (bytes_eq n m) (is_in before n) (is_in now n)))

-- names that are new behind two lists are apart from the one, and new behind the other
pub all_new_apart : (before now ns : List Text) → all_new (before ++ now) ns ≡ (list_all (λ n. not (is_in before n)) ns && all_new now ns)
all_new_apart before now [] = refl
all_new_apart before now (n ∷ ns) =
    rw (is_in-append before now n, append_assoc before now (n ∷ []), all_new_apart before (now ++ n ∷ []) ns)
    (not_or (is_in before n) (is_in now n) (list_all (λ m. not (is_in before m)) ns) (all_new (now ++ n ∷ []) ns))

-- names, and names behind them
pub appended_are_new : (before ns rest : List Text) → all_new before (ns ++ rest) ≡ (all_new before ns && all_new (before ++ ns) rest)
appended_are_new before [] rest = rw append-nil refl
appended_are_new before (n ∷ ns) rest =
    rw (appended_are_new (before ++ n ∷ []) ns rest, append_assoc before (n ∷ []) ns)
    (sym (and_assoc (not (is_in before n)) (all_new (before ++ n ∷ []) ns) (all_new (before ++ n ∷ ns) rest)))

-- `now` are declared, `rest` is left of all that are declared behind `before`
pub record Remaining (now rest before all : List Text) : Type 0 where
  pub kept : now ++ rest ≡ before ++ all
  pub same : all_new now rest ≡ all_new before all

pub remaining_step : (now ns rest next before all : List Text) → Remaining now (ns ++ rest) before all → next ≡ now ++ ns → all_new now ns ≡ true → Remaining next rest before all
remaining_step now ns rest next before all r e new =
    record {
      kept = rw (e, append_assoc now ns rest) r.kept;
      same = ap (λ k. all_new k rest) e ∙ sym (ap (λ b. b && all_new (now ++ ns) rest) new) ∙ sym (appended_are_new now ns rest) ∙ r.same;
    }

pub remaining_doubled : (now ns rest before all : List Text) → Remaining now (ns ++ rest) before all → all_new now ns ≡ false → all_new before all ≡ false
remaining_doubled now ns rest before all r doubled = sym r.same ∙ appended_are_new now ns rest ∙ ap (λ b. b && all_new (now ++ ns) rest) doubled

-- two lists are distinct where each is and they are apart
pub both_distinct : (first last : List Text) → all_new [] (first ++ last) ≡ (all_new [] first && (list_all (λ n. not (is_in first n)) last && all_new [] last))
both_distinct first last = appended_are_new [] first last ∙ ap (λ b. all_new [] first && b) (ap (λ ns. all_new ns last) (sym (append-nil first)) ∙ all_new_apart first [] last)

pub first_doubled : (first last table : List Text) → table ≡ [] → all_new table first ≡ false → Distinct (first ++ last) → ⊥
first_doubled first last table empty doubled distinct =
    let doubled : all_new [] first ≡ false = sym (ap (λ t. all_new t first) empty) ∙ doubled in
    let first_ones : all_new [] first ≡ true = and_left (all_new [] first) _ (sym (both_distinct first last) ∙ distinct) in
    cc

pub last_distinct : (first last : List Text) → Distinct (first ++ last) → Distinct last
last_distinct first last distinct =
    and_right (list_all (λ n. not (is_in first n)) last) (all_new [] last) (and_right (all_new [] first) _ (sym (both_distinct first last) ∙ distinct))

pub last_doubled : (first last table : List Text) → table ≡ [] → all_new table last ≡ false → Distinct (first ++ last) → ⊥
last_doubled first last table empty doubled distinct =
    let doubled : all_new [] last ≡ false = sym (ap (λ t. all_new t last) empty) ∙ doubled in
    let last_ones : all_new [] last ≡ true = last_distinct first last distinct in
    cc

pub apart : (first last before table : List Text) (b : Bool) → before ≡ [] → table ≡ before ++ first → b ≡ list_all (λ n. not (is_in table n)) last → b ≡ list_all (λ n. not (is_in first n)) last
apart first last before table b empty grown is = is ∙ ap (λ t. list_all (λ n. not (is_in t n)) last) (grown ∙ ap (λ k. k ++ first) empty)

pub not_apart : (first last : List Text) (b : Bool) → b ≡ list_all (λ n. not (is_in first n)) last → b ≡ false → Distinct (first ++ last) → ⊥
not_apart first last b is clash distinct =
    let separate : list_all (λ n. not (is_in first n)) last ≡ true = and_left (list_all (λ n. not (is_in first n)) last) _ (and_right (all_new [] first) _ (sym (both_distinct first last) ∙ distinct)) in
    cc

pub distinct_apart : (first last : List Text) (b : Bool) → all_new [] first ≡ true → all_new [] last ≡ true → b ≡ list_all (λ n. not (is_in first n)) last → b ≡ true → Distinct (first ++ last)
distinct_apart first last b one other is separate =
    let apart_too : list_all (λ n. not (is_in first n)) last ≡ true = sym is ∙ separate in
    both_distinct first last ∙ rw (one, apart_too, other) refl

pub from_empty : (before names table : List Text) → before ≡ [] → table ≡ before ++ names → table ≡ names
from_empty before names table empty grown = grown ∙ ap (λ b. b ++ names) empty

pub new_from_empty : (before names : List Text) → before ≡ [] → all_new before names ≡ true → Distinct names
new_from_empty before names empty new = sym (ap (λ b. all_new b names) empty) ∙ new
