-- What stands behind a front; words; texts of ASCII.
use Rattle.std.proofs.Common.{Result, Ok, Err, ◌≡◌, ◌≢◌, ◌∙◌, ◌++◌, ◌==◌, ◌+◌, ◌<◌, ◌≤◌, ℕ, suc, refl, ap, ap₂, sym, Bool, true, false, not, [], ◌∷◌, length, take, drop, Option, Some, None, option_map, Bor, if◌then◌else◌, arith}
use Rattle.std.proofs.Math.Seq.{take-append_seam, drop-append_seam}
use Rattle.std.proofs.lemmas.Str.{IsUtf8-from_ascii}
use Rattle.std.proofs.lemmas.Str.Ascii.{IsAscii-nil, IsAscii-cons}
use Rattle.std.specs.Prelude.{MatchOption, ⊤, IsUtf8, MatchResult}
use Rattle.std.specs.Result.{result_ok}
use Rattle.std.specs.Str.{IsAscii}
use Rattle.std.proofs.lemmas.Bool.{ltb-true, eqb-true, eq-eqb, and_parts, true≢false}
use Rattle.std.specs.Char.{is_ascii}
use Rattle.std.specs.List.{list_all, prefix_len}
use Rattle.std.proofs.lemmas.List.Sums.{prefix_len-le-length}
use Rattle.lus_values.specs.Names.{Text}
use Rattle.lus_asked.specs.Reading.{after, ascii, blank_place, ends_word, is_inside, is_no_blank, past_word, word_len, word_of}

-- ---- fronts

pub after_front : (front rest : Text) → after front (front ++ rest) ≡ Some rest
unfolding after
after_front [] rest = refl
after_front (f ∷ fs) rest = ap (λ (t : Bool). if t then after fs (fs ++ rest) else None) (eq-eqb f f refl) ∙ after_front fs rest

pub after_other : (f b : ℕ) (fs bs : Text) → (b == f) ≡ false → after (f ∷ fs) (b ∷ bs) ≡ None
unfolding after
after_other f b fs bs other = ap (λ (t : Bool). if t then after fs bs else None) other

heads_same : (t : Bool) (f b : ℕ) (fs bs rest : Text) → (b == f) ≡ t → ((r : Text) → after fs bs ≡ Some r → bs ≡ fs ++ r)
    → (if t then after fs bs else None) ≡ Some rest → b ∷ bs ≡ f ∷ (fs ++ rest)
heads_same true f b fs bs rest same go is = ap₂ (λ x xs. x ∷ xs) (eqb-true b f same) (go rest is)
heads_same false f b fs bs rest same go is = absurd (cc)

pub after_sound : (front text rest : Text) → after front text ≡ Some rest → text ≡ front ++ rest
unfolding after
after_sound [] text rest is = cc
after_sound (f ∷ fs) [] rest is = absurd (cc)
after_sound (f ∷ fs) (b ∷ bs) rest is = heads_same (b == f) f b fs bs rest refl (λ r. after_sound fs bs r) is

no_front : (front text : Text) (o : Option Text) → after front text ≡ o → ((rest : Text) → text ≢ front ++ rest) → after front text ≡ None
no_front front text None is none = is
no_front front text (Some rest) is none = absurd (none rest (after_sound front text rest is))

pub after_stripped : (front text : Text) (r : Option (Bor Text)) → MatchOption r ((rest : Text) → text ≢ front ++ rest) (λ x. text ≡ front ++ x.now)
    → option_map (λ x. x.now) r ≡ after front text
after_stripped front text (Some x) is = sym (ap (after front) is ∙ after_front front x.now)
after_stripped front text None none = sym (no_front front text (after front text) refl none)

-- ---- words

-- a text can go on behind a word: there is nothing, or a byte that no word has
abbrev pub IsBehind : Text → Type 0
IsBehind [] = ⊤
IsBehind (b ∷ bs) = ends_word b ≡ true

pub word_len_is : (word rest : Text) → list_all is_inside word ≡ true → IsBehind rest → word_len (word ++ rest) ≡ length word
unfolding word_len
word_len_is [] [] inside behind = refl
word_len_is [] (b ∷ bs) inside behind = ap (λ (t : Bool). if not t then 1 + prefix_len is_inside bs else 0) behind
word_len_is (w ∷ ws) rest inside behind =
    let parts = and_parts (is_inside w) (list_all is_inside ws) inside in
    let more : prefix_len is_inside (ws ++ rest) ≡ length ws = word_len_is ws rest parts.1 behind in
    let one : (1 + prefix_len is_inside (ws ++ rest)) ≡ suc (length ws) = omega (arith, more) in
    ap (λ (t : Bool). if t then 1 + prefix_len is_inside (ws ++ rest) else 0) parts.0 ∙ one

pub word_is : (word rest : Text) → list_all is_inside word ≡ true → IsBehind rest → word_of (word ++ rest) ≡ word
word_is word rest inside behind = ap (λ n. take n (word ++ rest)) (word_len_is word rest inside behind) ∙ take-append_seam word rest

pub past_is : (word rest : Text) → list_all is_inside word ≡ true → IsBehind rest → past_word (word ++ rest) ≡ rest
past_is word rest inside behind = ap (λ n. drop n (word ++ rest)) (word_len_is word rest inside behind) ∙ drop-append_seam word rest

pub ascii_is : (word : Text) → list_all is_ascii word ≡ true → ascii word ≡ Some word
unfolding ascii
ascii_is word all = ap (λ (t : Bool). if t then Some word else None) all

apart_by : (t : Bool) (f b : ℕ) → (b == f) ≡ t → is_inside f ≡ false → is_inside b ≡ true → t ≡ false
apart_by false f b is out inside = refl
apart_by true f b is out inside = absurd (true≢false (sym inside ∙ ap is_inside (eqb-true b f is) ∙ out))

-- no front that no word has stands where a word does
pub apart_word : (f : ℕ) (fs word rest : Text) → is_inside f ≡ false → list_all is_inside word ≡ true → 0 < length word → after (f ∷ fs) (word ++ rest) ≡ None
apart_word f fs [] rest out inside some = absurd (omega arith)
apart_word f fs (b ∷ bs) rest out inside some =
    after_other f b fs (bs ++ rest) (apart_by (b == f) f b refl out (and_parts (is_inside b) (list_all is_inside bs) inside).0)

-- ---- what the code's texts are

ascii_all : (text : Text) → list_all is_ascii text ≡ true → IsAscii text
ascii_all [] all = IsAscii-nil
ascii_all (b ∷ bs) all =
    let parts = and_parts (is_ascii b) (list_all is_ascii bs) all in
    IsAscii-cons b bs (ltb-true b 128 parts.0) (ascii_all bs parts.1)

pub ascii_text : {E : Type 0} (X : E → Type 0) (text : Text) (r : Result (Bor Text) E) → list_all is_ascii text ≡ true
    → MatchResult r (λ s. (s.now ≡ text) × IsUtf8 text) (λ e. ¬ (IsUtf8 text) × X e) → option_map (λ t. t.now) (result_ok r) ≡ ascii text
ascii_text X text (Ok s) all is = ap Some is.0 ∙ sym (ascii_is text all)
ascii_text X text (Err e) all is = absurd (is.0 (IsUtf8-from_ascii text (ascii_all text all)))

pub word_within : (text : Text) → word_len text ≤ length text
unfolding word_len
word_within text = prefix_len-le-length is_inside text

pub blank_within : (text : Text) → blank_place text ≤ length text
unfolding blank_place
blank_within text = prefix_len-le-length is_no_blank text
