-- Lines in front of other text.
use Rattle.std.proofs.Common.{◌≡◌, ◌∙◌, ◌==◌, ◌++◌, ℕ, Bool, true, false, not, refl, ap, ap₂, sym, subst, [], ◌∷◌, length, append_assoc, arith, length-append, ◌&&◌}
use Rattle.std.specs.List.{list_all}
use Rattle.std.proofs.lemmas.Bool.{and_parts, true≢false}
use Rattle.std.proofs.lemmas.List.{append_cancel_right}
use Rattle.std.proofs.lemmas.List.Folds.{list_all-append}
use Rattle.lus_devices.specs.Devices.{Bytes}
use Rattle.lus_lines.specs.Lines.{IsPlain, IsWholeLine}

pub plain_append : (xs bs : Bytes) → IsPlain xs → IsPlain bs → IsPlain (xs ++ bs)
plain_append xs bs a b = list_all-append (λ c. not (c == 10)) xs bs ∙ ap₂ (λ x y. x && y) a b

plain_right : (xs bs : Bytes) → IsPlain (xs ++ bs) → IsPlain bs
plain_right xs bs all =
    (and_parts (list_all (λ c. not (c == 10)) xs) (list_all (λ c. not (c == 10)) bs) (sym (list_all-append (λ c. not (c == 10)) xs bs) ∙ all)).1

pub plain_left : (xs bs : Bytes) → IsPlain (xs ++ bs) → IsPlain xs
plain_left xs bs all =
    (and_parts (list_all (λ c. not (c == 10)) xs) (list_all (λ c. not (c == 10)) bs) (sym (list_all-append (λ c. not (c == 10)) xs bs) ∙ all)).0

-- a line feed is not plain
no_feed : (c : ℕ) (bs : Bytes) → IsPlain (c ∷ bs) → 10 ≡ c → ⊥
no_feed c bs plain feed =
    let other = (and_parts (not (c == 10)) (list_all (λ b. not (b == 10)) bs) plain).0 in
    true≢false (sym (subst (λ b. not (b == 10) ≡ true) (sym feed) other))

feeds_split : (p q x y : Bytes) → IsPlain p → IsPlain q → p ++ 10 ∷ x ≡ q ++ 10 ∷ y → (p ≡ q) × (x ≡ y)
feeds_split [] [] x y p_plain q_plain same = (refl, (cc))
feeds_split [] (c ∷ q) x y p_plain q_plain same = absurd (no_feed c q q_plain (cc))
feeds_split (c ∷ p) [] x y p_plain q_plain same = absurd (no_feed c p p_plain (cc))
feeds_split (c ∷ p) (d ∷ q) x y p_plain q_plain same =
    let heads : c ≡ d = cc in
    let tails : p ++ 10 ∷ x ≡ q ++ 10 ∷ y = cc in
    let p_rest = (and_parts (not (c == 10)) (list_all (λ b. not (b == 10)) p) p_plain).1 in
    let q_rest = (and_parts (not (d == 10)) (list_all (λ b. not (b == 10)) q) q_plain).1 in
    let more = feeds_split p q x y p_rest q_rest tails in
    (ap₂ (λ e r. e ∷ r) heads more.0, more.1)

-- a text has one whole line in front
pub lines_split : (a b x y : Bytes) → IsWholeLine a → IsWholeLine b → a ++ x ≡ b ++ y → (a ≡ b) × (x ≡ y)
lines_split a b x y first second same =
    let spelled : first.bytes ++ 10 ∷ x ≡ second.bytes ++ 10 ∷ y =
    sym (append_assoc first.bytes (10 ∷ []) x) ∙ ap (λ t. t ++ x) (sym first.ended) ∙ same ∙ ap (λ t. t ++ y) second.ended
    ∙ append_assoc second.bytes (10 ∷ []) y in
    let parts = feeds_split first.bytes second.bytes x y first.plain second.plain spelled in
    (first.ended ∙ ap (λ t. t ++ 10 ∷ []) parts.0 ∙ sym second.ended, parts.1)

-- a whole line isn't empty, with text behind it neither
pub line_some : (a x : Bytes) → IsWholeLine a → a ++ x ≡ [] → ⊥
line_some a x whole none =
    let feed = length-append whole.bytes (10 ∷ []) in
    let all = length-append a x in
    let is = ap length whole.ended in
    let empty = ap length none in
    omega (arith, feed, all, is, empty)

-- nor plain
pub line_feeds : (a x : Bytes) → IsWholeLine a → IsPlain (a ++ x) → ⊥
line_feeds a x whole plain = no_feed 10 [] (plain_right whole.bytes (10 ∷ []) (subst IsPlain whole.ended (plain_left a x plain))) refl

-- ---- ends

last_or : ℕ → Bytes → ℕ
last_or d [] = d
last_or d (b ∷ bs) = last_or b bs

last_is : (d b : ℕ) (bs : Bytes) → last_or d (bs ++ b ∷ []) ≡ b
unfolding last_or
last_is d b [] = refl
last_is d b (c ∷ bs) = last_is c b bs

-- texts that end alike have the same byte before that
pub same_before : (x y end : Bytes) (b c : ℕ) → x ++ b ∷ end ≡ y ++ c ∷ end → b ≡ c
same_before x y end b c same =
    let fronts : x ++ b ∷ [] ≡ y ++ c ∷ [] =
    append_cancel_right (x ++ b ∷ []) (y ++ c ∷ []) end (append_assoc x (b ∷ []) end ∙ same ∙ sym (append_assoc y (c ∷ []) end)) in
    sym (last_is 0 b x) ∙ ap (last_or 0) fronts ∙ last_is 0 c y

-- ---- first bytes

-- whether the first byte passes a test
abbrev pub first_is : (ℕ → Bool) → Bytes → Bool
first_is test [] = false
first_is test (b ∷ bs) = test b

pub first_stays : (test : ℕ → Bool) (xs ys : Bytes) → first_is test xs ≡ true → first_is test (xs ++ ys) ≡ true
first_stays test [] ys none = absurd (true≢false (sym none))
first_stays test (b ∷ bs) ys is = is
