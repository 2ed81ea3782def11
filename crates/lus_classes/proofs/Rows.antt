-- Clocks in rows, at instants, and at instants whose base is absent.
use Rattle.std.proofs.Common.{◌≡◌, ℕ, zero, suc, ◌<◌, ◌&&◌, ◌++◌, Bool, true, false, List, [], ◌∷◌, length, drop, replicate, Option, None, is_some, refl, sym, ap, ap₂, ◌∙◌, le_of_suc-le-suc, not-suc-le-zero}
use Rattle.std.proofs.lemmas.Bool.{and_parts, and_right}
use Rattle.lus_values.specs.Lists.{item, Each}
use Rattle.lus_values.specs.Values.{Value, Row}
use Rattle.lus_values.specs.Entries.{is_constructor}
use Rattle.lus_program.specs.Programs.{Node}
use Rattle.lus_streams.specs.Clocks.{Clock, clock_of}
use Rattle.lus_streams.specs.Order.{clock_variables}
use Rattle.lus_streams.specs.Streams.{Instant, instant, Called, entry, holds, is_on, where_on}
use Rattle.lus_classes.specs.Steps.{is_on_row, first_row}
use Rattle.lus_classes.proofs.Options.{never}

pub each_drop : {X : Type 0} (P : X → Type 0) (n : ℕ) (xs : List X) → Each P xs → Each P (drop n xs)
each_drop P zero xs h = h
each_drop P (suc n) [] h = tt
each_drop P (suc n) (x ∷ xs) h = each_drop P n xs h.1

-- two rows agree at a variable
abbrev pub Agree : Row → Row → ℕ → Type 0
Agree r s x = item None r x ≡ item None s x

pub is_on_row_same : (k : Clock) (r s : Row) → Each (Agree r s) (clock_variables k) → is_on_row k r ≡ is_on_row k s
is_on_row_same [] r s h = refl
is_on_row_same (t ∷ k) r s h = ap₂ ◌&&◌ (ap (is_constructor t.constructor) h.0) (is_on_row_same k r s h.1)

-- a clock is present in a row where it is at the instants with this row
pub is_on_row_is : (k : Clock) (r : Row) (js : Called) → is_on_row k r ≡ is_on k (instant true r js)
is_on_row_is [] r js = refl
is_on_row_is (t ∷ k) r js = ap (λ b. is_constructor t.constructor (item None r t.variable) && b) (is_on_row_is k r js)

-- where its front is present a clock is
pub is_on_back : (front k : Clock) (i : Instant) → is_on (front ++ k) i ≡ true → is_on k i ≡ true
is_on_back [] k i e = e
is_on_back (t ∷ front) k i e = is_on_back front k i (and_parts (holds t.variable t.constructor i) (is_on (front ++ k) i) e).1

-- where a clock is absent all clocks that begin with it are
pub off_front : (front k : Clock) (i : Instant) → is_on k i ≡ false → is_on (front ++ k) i ≡ false
off_front [] k i e = e
off_front (t ∷ front) k i e = and_right (holds t.variable t.constructor i) (is_on (front ++ k) i) (off_front front k i e)

-- where the base is absent every clock is
pub off : (k : Clock) (r : Row) (js : Called) → is_on k (instant false r js) ≡ false
off [] r js = refl
off (t ∷ k) r js = and_right (holds t.variable t.constructor (instant false r js)) (is_on k (instant false r js)) (off k r js)

-- one test of an entry and of what it is passed to, both on one clock
pub test_same : (n : ℕ) (b c on : Bool) (v u : Option Value) → b ≡ c → on ≡ b → u ≡ where_on on v → (is_constructor n v && b) ≡ (is_constructor n u && c)
test_same n true true true v u e f h = ap (λ z. is_constructor n z && true) (sym h)
test_same n true true false v u e f h = absurd (never f)
test_same n true false on v u e f h = absurd (never (sym e))
test_same n false true on v u e f h = absurd (never e)
test_same n false false on v u e f h = and_right (is_constructor n v) false refl ∙ sym (and_right (is_constructor n u) false refl)

-- the row before the first step
pub first_length : (ks : List Clock) (i : Row) → length (first_row ks i) ≡ length ks
first_length [] i = refl
first_length (k ∷ ks) [] = ap suc (first_length ks [])
first_length (k ∷ ks) (v ∷ i) = ap suc (first_length ks i)

pub first_item : (ks : List Clock) (i : Row) (x : ℕ) → x < length ks → item None (first_row ks i) x ≡ item None i x
first_item [] i x h = absurd (not-suc-le-zero h)
first_item (k ∷ ks) [] zero h = refl
first_item (k ∷ ks) [] (suc x) h = first_item ks [] x (le_of_suc-le-suc h)
first_item (k ∷ ks) (v ∷ i) zero h = refl
first_item (k ∷ ks) (v ∷ i) (suc x) h = first_item ks i x (le_of_suc-le-suc h)

-- each variable of f is present exactly where its clock is, and each input
abbrev pub PresentOnClocks : Node → Instant → Type 0
PresentOnClocks f i = (x : ℕ) → x < length f.variables → is_some (entry i x) ≡ is_on (clock_of f x) i

abbrev pub InputsOnClocks : Node → Instant → Type 0
InputsOnClocks f i = (x : ℕ) → x < f.inputs → is_some (entry i x) ≡ is_on (clock_of f x) i

-- a row of absent entries
abbrev pub absent : ℕ → Row
absent n = replicate n None

pub absent_item : (n x : ℕ) → item None (absent n) x ≡ None
absent_item zero x = refl
absent_item (suc n) zero = refl
absent_item (suc n) (suc x) = absent_item n x
