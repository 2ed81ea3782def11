-- What is read of a message's own frame.
use Rattle.std.proofs.Common.{◌≡◌, ◌∙◌, ◌++◌, ◌==◌, ◌&&◌, ◌+◌, ◌%◌, ◌<◌, ◌≤◌, ◌^◌, ℕ, Bool, true, false, not, refl, ap, sym, subst, List, [], ◌∷◌, length, flat_map, Option, Some, None, Ok, Result, append-nil, append_assoc, arith}
use Rattle.std.specs.Bool.{⊤}
use Rattle.std.specs.Fmt.{decimal}
use Rattle.std.specs.List.{list_all}
use Rattle.std.proofs.lemmas.Bool.Decides.{nat_tests}
use Rattle.std.proofs.lemmas.Fmt.{decimal_by_steps, parse-decimal}
use Rattle.std.proofs.lemmas.List.{append_cancel_right}
use Rattle.std.proofs.lemmas.List.Folds.{list_all-append}
use Rattle.std.proofs.lemmas.List.Elements.{All-head, All-tail}
use Rattle.lus_devices.specs.Devices.{Bytes}
use Rattle.lus_lines.specs.Lines.{IsLast, IsPlain}
use Rattle.lus_framing.specs.Frames.{HasReadFrame, IsField, IsHead, IsSaid, SaysLength, blank, field_name, frame_text, head_text, line_text}

-- ---- lines

no_feed : (b : ℕ) (bs : Bytes) → b ≡ 10 → IsPlain (b ∷ bs) → ⊥
no_feed b bs is plain = let P : ℕ → Type 0 = λ c. IsPlain (c ∷ bs) in let h : false ≡ true = subst P is plain in cc

plain_rest : (b : ℕ) (bs : Bytes) → IsPlain (b ∷ bs) → IsPlain bs
plain_rest b bs plain = go (not (b == 10)) plain
  where
    go : (t : Bool) → (t && list_all (λ c. not (c == 10)) bs) ≡ true → list_all (λ c. not (c == 10)) bs ≡ true
    go true h = h
    go false h = let e : false ≡ true = h in absurd (cc)

-- a plain line and what stands behind it are known by the text
line_cut : (f g x y : Bytes) → IsPlain f → IsPlain g → f ++ 10 ∷ x ≡ g ++ 10 ∷ y → (f ≡ g) × (x ≡ y)
line_cut [] [] x y pf pg same = (refl, cc)
line_cut [] (c ∷ g) x y pf pg same = let is : c ≡ 10 = cc in absurd (no_feed c g is pg)
line_cut (b ∷ f) [] x y pf pg same = let is : b ≡ 10 = cc in absurd (no_feed b f is pf)
line_cut (b ∷ f) (c ∷ g) x y pf pg same =
    let head : b ≡ c = cc in
    let tail : f ++ 10 ∷ x ≡ g ++ 10 ∷ y = cc in
    let rest = line_cut f g x y (plain_rest b f pf) (plain_rest c g pg) tail in
    let front : f ≡ g = rest.0 in
    (cc, rest.1)

-- and so are as many bytes and those behind them
same_cut : (a b x y : Bytes) → length a ≡ length b → a ++ x ≡ b ++ y → (a ≡ b) × (x ≡ y)
same_cut [] [] x y len same = (refl, same)
same_cut [] (c ∷ b) x y len same = absurd (omega (arith, len))
same_cut (c ∷ a) [] x y len same = absurd (omega (arith, len))
same_cut (c ∷ a) (d ∷ b) x y len same =
    let head : c ≡ d = cc in
    let tail : a ++ x ≡ b ++ y = cc in
    let rest = same_cut a b x y (omega (arith, len)) tail in
    let front : a ≡ b = rest.0 in
    (cc, rest.1)

-- ---- heads

-- the one field of a frame that is written
abbrev own_field : ℕ → Bytes
own_field n = field_name ++ (decimal n ++ blank)

not_empty : (before behind : List Bytes) (field : Bytes) → [] ≡ before ++ field ∷ behind → ⊥
not_empty [] behind field same = cc
not_empty (b ∷ bs) behind field same = cc

one_said : (f : Bytes) (k : ℕ) → IsSaid (f ∷ []) k → SaysLength f k
one_said f k said = go said.before said.among
  where
    go : (before : List Bytes) → f ∷ [] ≡ before ++ said.field ∷ said.behind → SaysLength f k
    go [] same = let P : Bytes → Type 0 = λ g. SaysLength g k in let is : said.field ≡ f = cc in subst P is said.says
    go (b ∷ bs) same = let rest : [] ≡ bs ++ said.field ∷ said.behind = cc in absurd (not_empty bs said.behind said.field rest)

ok_same : (k n : ℕ) (r t : Result ℕ ⊤) → r ≡ Ok k → t ≡ Ok n → r ≡ t → k ≡ n
ok_same k n r t one two same = cc

own_length : (n k : ℕ) → n < 2 ^ 64 → SaysLength (own_field n) k → k ≡ n
own_length n k small says =
    let parts : decimal n ++ blank ≡ says.digits ++ blank = says.parts in
    let digits : says.digits ≡ decimal n = sym (append_cancel_right (decimal n) says.digits blank parts) in
    ok_same k n (Ok k) (Ok n) refl refl (parse-decimal 64 n says.digits (Ok k) small small digits says.number)

digit_plain : (b : ℕ) → 48 ≤ b → IsPlain (b ∷ [])
digit_plain b above = grind (arith, nat_tests)

plain_append : (bs cs : Bytes) → IsPlain bs → IsPlain cs → IsPlain (bs ++ cs)
plain_append bs cs one two =
    list_all-append (λ b. not (b == 10)) bs cs ∙ ap (λ t. t && list_all (λ b. not (b == 10)) cs) one ∙ two

decimal_plain : (n : ℕ) → n < 2 ^ 64 → IsPlain (decimal n)
decimal_plain n small =
    decimal_by_steps (λ m ds. IsPlain ds) (λ m less. digit_plain (48 + m) (omega arith))
    (λ m ds less plain. plain_append ds ((48 + m % 10) ∷ []) plain (digit_plain (48 + m % 10) (omega arith))) n small

own_plain : (n : ℕ) → n < 2 ^ 64 → IsPlain (own_field n)
own_plain n small = plain_append field_name (decimal n ++ blank) refl (plain_append (decimal n) blank (decimal_plain n small) refl)

-- ---- frames

frame_parts : (f d m r : Bytes) → (((f ++ d) ++ 13 ∷ 10 ∷ 13 ∷ 10 ∷ []) ++ m) ++ r ≡ (f ++ (d ++ 13 ∷ [])) ++ 10 ∷ 13 ∷ 10 ∷ (m ++ r)
frame_parts f d m r = simp append_assoc

head_parts : (f fs m r : Bytes) → ((((f ++ 10 ∷ []) ++ fs) ++ 13 ∷ 10 ∷ []) ++ m) ++ r ≡ f ++ 10 ∷ (fs ++ 13 ∷ 10 ∷ (m ++ r))
head_parts f fs m r = simp append_assoc

fields_parts : (g gs r : Bytes) → ((g ++ 10 ∷ []) ++ gs) ++ r ≡ g ++ 10 ∷ (gs ++ r)
fields_parts g gs r = simp append_assoc

own_head : (n : ℕ) (message rest m l : Bytes) (fields : List Bytes) → n < 2 ^ 64 → n ≡ length message → IsHead fields (length m)
    → own_field n ++ 10 ∷ 13 ∷ 10 ∷ (message ++ rest) ≡ (head_text fields ++ m) ++ l → (m ≡ message) × (l ≡ rest)
own_head n message rest m l [] small is head same = absurd (not_empty head.said.before head.said.behind head.said.field head.said.among)
own_head n message rest m l (f ∷ []) small is head same =
    let field = All-head IsField f [] head.each in
    let cut = line_cut (own_field n) f (13 ∷ 10 ∷ (message ++ rest)) (13 ∷ 10 ∷ (m ++ l)) (own_plain n small) field.0 (same ∙ head_parts f [] m l) in
    let P : Bytes → Type 0 = λ g. SaysLength g (length m) in
    let long : length m ≡ n = own_length n (length m) small (subst P (sym cut.0) (one_said f (length m) head.said)) in
    let behind : 13 ∷ 10 ∷ (message ++ rest) ≡ 13 ∷ 10 ∷ (m ++ l) = cut.1 in
    same_cut m message l rest (long ∙ is) (cc)
own_head n message rest m l (f ∷ g ∷ gs) small is head same =
    let field = All-head IsField f (g ∷ gs) head.each in
    let next = All-head IsField g gs (All-tail IsField f (g ∷ gs) head.each) in
    let flat = flat_map line_text gs in
    let cut =
    line_cut (own_field n) f (13 ∷ 10 ∷ (message ++ rest)) (((g ++ 10 ∷ []) ++ flat) ++ 13 ∷ 10 ∷ (m ++ l)) (own_plain n small) field.0
    (same ∙ head_parts f ((g ++ 10 ∷ []) ++ flat) m l) in
    let second =
    line_cut blank g (message ++ rest) (flat ++ 13 ∷ 10 ∷ (m ++ l)) refl next.0
    (cut.1 ∙ fields_parts g flat (13 ∷ 10 ∷ (m ++ l))) in
    absurd (next.1 (sym second.0))

ended : (bs : Bytes) (later : Option Bytes) → IsLast [] (Some bs) later → bs ≡ []
ended bs None last = let h : Some bs ≡ None = last.read in absurd (cc)
ended bs (Some l) last = let h : Some bs ≡ Some l = last.read in let e : l ≡ [] = last.over in cc

-- a message's frame is read as that message, whatever stands behind it
pub frame_read : (message rest : Bytes) (o later : Option Bytes) → length message < 2 ^ 64
    → HasReadFrame o (Some (frame_text message ++ rest)) later → (o ≡ Some message) × (later ≡ Some rest)
frame_read message rest None later small read =
    let parts = frame_parts field_name (decimal (length message)) message rest in
    let none : own_field (length message) ++ 10 ∷ 13 ∷ 10 ∷ (message ++ rest) ≡ [] = sym parts ∙ ended (frame_text message ++ rest) later read in
    absurd (cc)
frame_read message rest (Some m) None small read = let h : Some (frame_text message ++ rest) ≡ None = read.2 in absurd (cc)
frame_read message rest (Some m) (Some l) small read =
    let h : Some (frame_text message ++ rest) ≡ Some ((head_text read.0 ++ m) ++ l) = read.2 in
    let text : frame_text message ++ rest ≡ (head_text read.0 ++ m) ++ l = cc in
    let parts = frame_parts field_name (decimal (length message)) message rest in
    let both = own_head (length message) message rest m l read.0 small refl read.1 (sym parts ∙ text) in
    let one : m ≡ message = both.0 in
    let two : l ≡ rest = both.1 in
    (cc, cc)

pub read_own : (message source : Bytes) (o later : Option Bytes) → length message < 2 ^ 64 → source ≡ frame_text message
    → HasReadFrame o (Some source) later → o ≡ Some message
read_own message source o later small is read =
    (frame_read message [] o later small
    (subst (λ (bs : Bytes). HasReadFrame o (Some bs) later) (is ∙ sym (append-nil (frame_text message))) read)).0
