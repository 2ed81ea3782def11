-- Lines as their bytes are read.
use Rattle.std.proofs.Common.{◌≡◌, ◌∙◌, ◌++◌, ◌<◌, ◌≤◌, ◌&&◌, ℕ, refl, ap, ap₂, sym, Bool, true, false, not, nat_eq, [], ◌∷◌, length, Option, Some, None, append_assoc, append-nil, arith, length-append, take, get_or, zero, suc}
use Rattle.std.proofs.lemmas.List.Folds.{list_all-append}
use Rattle.lus_devices.specs.Devices.{AtEnd, Bytes, with_front}
use Rattle.lus_devices.proofs.Laws.{with_front-more}
use Rattle.lus_lines.specs.Lines.{HasRead, HasSkipped, HasReadWhole, IsBegun, IsLast, IsNext, IsPlain, last_reading, last_whole, long_reading, most_line_bytes}
use Rattle.lus_lines.specs.declared.line.Reading.{Reading}
use Rattle.lus_lines.specs.declared.whole.Whole.{Whole}
use Rattle.lus_lines.specs.declared.whole.Whole.TheVariants as wholes

with_nothing : (left : Option Bytes) → left ≡ with_front [] left
with_nothing None = refl
with_nothing (Some bs) = refl

plain_append : (xs bs : Bytes) → IsPlain xs → IsPlain bs → IsPlain (xs ++ bs)
plain_append xs bs a b = list_all-append (λ c. not (nat_eq c 10)) xs bs ∙ ap₂ (λ x y. x && y) a b

front_append : (left mid later : Option Bytes) (xs bs : Bytes) → left ≡ with_front xs mid → mid ≡ with_front bs later
    → left ≡ with_front (xs ++ bs) later
front_append left mid later xs bs first second = first ∙ ap (with_front xs) second ∙ with_front-more later xs bs

pub begun_nothing : (bs : Bytes) (left : Option Bytes) → bs ≡ [] → IsBegun bs left left
begun_nothing bs left none = rw none (record { plain = refl; read = with_nothing left })

-- a byte that is no line feed was read
pub begun_byte : (bs grown : Bytes) (b : ℕ) (left old new : Option Bytes) → IsBegun bs left old → old ≡ with_front (b ∷ []) new
    → nat_eq b 10 ≡ false → grown ≡ bs ++ b ∷ [] → IsBegun grown left new
begun_byte bs grown b left old new begun given other is =
    let one : IsPlain (b ∷ []) = rw other refl in
    rw is (record { plain = plain_append bs (b ∷ []) begun.plain one; read = front_append left old new bs (b ∷ []) begun.read given })

-- a line feed was read
pub next_line : (bs : Bytes) (b : ℕ) (left old new : Option Bytes) → IsBegun bs left old → old ≡ with_front (b ∷ []) new
    → b ≡ 10 → IsNext bs left new
next_line bs b left old new begun given feed = record {
  plain = begun.plain;
  read = front_append left old new bs (10 ∷ []) begun.read (given ∙ ap (λ c. with_front (c ∷ []) new) feed);
}

-- the end was met
pub last_bytes : (bs : Bytes) (left old new : Option Bytes) → IsBegun bs left old → old ≡ with_front [] new → AtEnd new → IsLast bs left new
last_bytes bs left old new begun given over = record {
  plain = begun.plain;
  read = front_append left old new bs [] begun.read given ∙ ap (λ c. with_front c new) (append-nil bs);
  over = over;
}

pub last_reads : (bs : Bytes) (left new : Option Bytes) (r : Reading) → IsLast bs left new → r ≡ last_reading bs → HasRead r bs left new
last_reads [] left new r last is = rw is last
last_reads (b ∷ bs) left new r last is =
    let some : 0 < length (b ∷ bs) = omega arith in
    rw is (b ∷ bs, last, some)

-- what was read of a line too long, and then its rest
pub long_reads : (bs : Bytes) (left mid new : Option Bytes) (ended : Bool) (r : Reading) → IsBegun bs left mid → HasSkipped ended mid new
    → most_line_bytes < length bs → r ≡ long_reading ended → HasRead r bs left new
long_reads bs left mid new true r begun skipped long is =
    let more : most_line_bytes < length (bs ++ skipped.0) = omega (arith, length-append bs skipped.0) in
    let read : left ≡ with_front ((bs ++ skipped.0) ++ 10 ∷ []) new =
    front_append left mid new bs (skipped.0 ++ 10 ∷ []) begun.read skipped.1.read
    ∙ ap (λ c. with_front c new) (sym (append_assoc bs skipped.0 (10 ∷ []))) in
    rw is (bs ++ skipped.0, record { plain = plain_append bs skipped.0 begun.plain skipped.1.plain; read = read }, more)
long_reads bs left mid new false r begun skipped long is =
    let more : 0 < length (bs ++ skipped.0) = omega (arith, length-append bs skipped.0) in
    rw is (
      bs ++ skipped.0,
      record {
        plain = plain_append bs skipped.0 begun.plain skipped.1.plain;
        read = front_append left mid new bs skipped.0 begun.read skipped.1.read;
        over = skipped.1.over;
      },
      more,
    )

-- a read into one byte gave it
pub one_byte : (n : ℕ) (bs : Bytes) → length bs ≡ 1 → n ≤ length bs → (n ≡ 0 → ⊥) → take n bs ≡ get_or bs 0 0 ∷ []
one_byte n [] one few some = absurd (omega (arith, one))
one_byte n (x ∷ y ∷ bs) one few some = absurd (omega (arith, one))
one_byte zero (x ∷ []) one few some = absurd (some refl)
one_byte (suc zero) (x ∷ []) one few some = refl
one_byte (suc (suc n)) (x ∷ []) one few some = absurd (omega (arith, few))

-- ---- lines of any length

-- a line feed was read behind the bytes of a line
pub whole_line : (bs grown : Bytes) (b : ℕ) (left old new : Option Bytes) → IsBegun bs left old → old ≡ with_front (b ∷ []) new
    → b ≡ 10 → grown ≡ bs ++ b ∷ [] → HasReadWhole wholes.Line grown left new
whole_line bs grown b left old new begun given feed is =
    let whole : grown ≡ bs ++ 10 ∷ [] = is ∙ ap (λ c. bs ++ c ∷ []) feed in (
      record { bytes = bs; ended = whole; plain = begun.plain },
      front_append left old new bs (10 ∷ []) begun.read (given ∙ ap (λ c. with_front (c ∷ []) new) feed) ∙ ap (λ t. with_front t new) (sym whole),
    )

pub last_reads_whole : (bs : Bytes) (left new : Option Bytes) (r : Whole) → IsLast bs left new → r ≡ last_whole bs → HasReadWhole r bs left new
last_reads_whole [] left new r last is = rw is last
last_reads_whole (b ∷ bs) left new r last is =
    let some : 0 < length (b ∷ bs) = omega arith in
    rw is (last, some)
