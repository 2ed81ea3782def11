-- Words in front of lines, and lines of one kind each.
use Rattle.std.proofs.Common.{◌≡◌, ◌∙◌, ◌==◌, ◌++◌, ◌<◌, ℕ, zero, suc, true, false, if◌then◌else◌, refl, ap, ap₂, sym, List, [], ◌∷◌, length, append_assoc, arith, codes}
use Rattle.std.specs.Char.{is_ascii_digit}
use Rattle.std.specs.Fmt.{decimal, digit_glyph}
use Rattle.std.specs.List.{list_all}
use Rattle.std.proofs.lemmas.Bool.{agree_below_at, and_parts, true≢false}
use Rattle.std.proofs.lemmas.List.{append_cancel_right}
use Rattle.lus_values.specs.Names.{Names, Text}
use Rattle.lus_requests.specs.declared.request.Request.{Request}
use Rattle.lus_devices.specs.Journals.{reply_text, request_text}
use Rattle.lus_asked.specs.Asked.{asked_text}
use Rattle.lus_lines.specs.Lines.{IsWholeLine}
use Rattle.lus_play.specs.Plays.{ended}
use Rattle.lus_replay.specs.Replays.{ArePlain, BeginsAsked, Told, said_line}
use Rattle.lus_replay.proofs.Apart.{item_whole, said_asked}
use Rattle.lus_replay.proofs.Plain.{decimal_all, decimal_some}
use Rattle.lus_replay.proofs.Splits.{first_is, first_stays, plain_append}
use Rattle.lus_lawful.proofs.Heads.{no_blank}
use Rattle.lus_lawful.proofs.Words.{unbroken_plain}
use Rattle.lus_hosting.specs.Audits.{BeginsLogged, IsReadable, IsReadableLine, LogEntry, LogLine, LogNote, line_in}
use Rattle.lus_hosting.specs.Logs.{IsWord, Logged, behind_of, entries_of, logged_line, next_of}
use Rattle.lus_hosting.specs.Turns.{IsNote, ReadsBehind, StandsBehind}
use Rattle.lus_hosting.specs.declared.words.Behind.{Behind}
use Rattle.lus_hosting.specs.declared.words.Behind.TheVariants as behind
use Rattle.lus_hosting.specs.declared.words.Words.{Words}
use Rattle.lus_hosting.specs.declared.words.Words.TheVariants as words

-- a text has one word in front
pub words_split : (a b x y : Text) → IsWord a → IsWord b → a ++ 32 ∷ x ≡ b ++ 32 ∷ y → (a ≡ b) × (x ≡ y)
words_split [] [] x y one other same = (refl, (cc))
words_split [] (c ∷ b) x y one other same = let blank : c ≡ 32 = cc in absurd (other zero (omega arith) blank)
words_split (c ∷ a) [] x y one other same = let blank : c ≡ 32 = cc in absurd (one zero (omega arith) blank)
words_split (c ∷ a) (d ∷ b) x y one other same =
    let heads : c ≡ d = cc in
    let tails : a ++ 32 ∷ x ≡ b ++ 32 ∷ y = cc in
    let more = words_split a b x y (λ i few. one (suc i) (omega (arith, few))) (λ i few. other (suc i) (omega (arith, few))) tails in
    (ap₂ (λ e w. e ∷ w) heads more.0, more.1)

-- ---- what stands behind a name

digit_glyphs : (d : ℕ) → d < 10 → is_ascii_digit (digit_glyph false d) ≡ true
digit_glyphs d small = agree_below_at (λ e. is_ascii_digit (digit_glyph false e)) (λ e. true) 10 d refl small

first_of : (bs : Text) → list_all is_ascii_digit bs ≡ true → 0 < length bs → first_is is_ascii_digit bs ≡ true
first_of [] all some = absurd (omega arith)
first_of (b ∷ bs) all some = (and_parts (is_ascii_digit b) (list_all is_ascii_digit bs) all).0

asked_first : (names : Names) (caller : Text) (n : ℕ) (r : Request) (rest : Text) → first_is is_ascii_digit (asked_text names caller n r ++ rest) ≡ true
asked_first names caller n r rest =
    let a = decimal n ++ codes " " in
    let b = a ++ caller in
    let c = b ++ codes " " in
    let d = c ++ request_text names r in
    first_stays is_ascii_digit (asked_text names caller n r) rest
    (first_stays is_ascii_digit d (codes " -> ")
    (first_stays is_ascii_digit c (request_text names r)
    (first_stays is_ascii_digit b (codes " ")
    (first_stays is_ascii_digit a caller
    (first_stays is_ascii_digit (decimal n) (codes " ") (first_of (decimal n) (decimal_all is_ascii_digit digit_glyphs n) (decimal_some n)))))))

behind_digit : (text : Text) → first_is is_ascii_digit text ≡ true → behind_of text ≡ behind.Entry
behind_digit [] none = absurd (true≢false (sym none))
behind_digit (b ∷ bs) is = ap (λ t. if t then behind.Entry else (if b == 35 then behind.Note else behind.Call)) is

-- an entry's line stands behind its name
pub behind_asked : (names : Names) (caller : Text) (n : ℕ) (r : Request) (text : Text) → BeginsAsked names caller n r text → behind_of text ≡ behind.Entry
behind_asked names caller n r text begins = ap behind_of begins.1 ∙ behind_digit (asked_text names caller n r ++ begins.0) (asked_first names caller n r begins.0)

pub entry_note : (b : Behind) → b ≡ behind.Entry → b ≡ behind.Note → ⊥
entry_note b is other = absurd (cc)

-- no line is a note and one of a request
pub note_no_entry : (names : Names) (log : List Logged) (l : Logged) (t line : Text) → IsWord l.instance → IsNote t → line ≡ ended t
    → BeginsLogged names log line l → ⊥
note_no_entry names log l t line word note is begins =
    let spelled : note.instance ++ 32 ∷ (note.rest ++ 10 ∷ []) ≡ l.instance ++ 32 ∷ begins.0 =
    sym (append_assoc note.instance (32 ∷ note.rest) (10 ∷ [])) ∙ ap ended (sym note.spelled) ∙ sym is ∙ begins.1 in
    let parts = words_split note.instance l.instance (note.rest ++ 10 ∷ []) begins.0 note.word word spelled in
    entry_note (behind_of begins.0) (behind_asked names l.said.caller (next_of l.instance log) l.said.request begins.0 begins.2)
    (ap behind_of (sym parts.1) ∙ behind_more note.rest note.kind)
  where
    behind_more : (rest : Text) → behind_of rest ≡ behind.Note → behind_of (rest ++ 10 ∷ []) ≡ behind.Note
    behind_more [] is = let never : behind.Call ≡ behind.Note = is in absurd (cc)
    behind_more (b ∷ bs) is = is

-- ---- lines

-- a name is a word
pub name_word : (names : Names) (l : Logged) → IsReadable names l → IsWord l.instance
name_word names l readable = no_blank l.instance readable.instance.one_word

-- behind its name an entry's line begins as one of its request
pub logged_begins : (names : Names) (log : List Logged) (l : Logged) → BeginsLogged names log (logged_line names log l) l
logged_begins names log l = (
  said_line names (next_of l.instance log) l.said,
  append_assoc l.instance (codes " ") (said_line names (next_of l.instance log) l.said),
  said_asked names (next_of l.instance log) l.said,
)

-- what can be read back is a line
pub line_whole : (names : Names) → ArePlain names → (log : List Logged) (g : LogLine) → IsReadableLine names log g → IsWholeLine (line_in names log g)
line_whole names plain log (LogEntry l) readable =
    let said = item_whole names plain (length (entries_of l.instance log)) (Told l.said) (readable.0.caller, readable.0.request) in
    let front = l.instance ++ codes " " in
    record {
      bytes = front ++ said.bytes;
      ended = ap (λ t. front ++ t) said.ended ∙ sym (append_assoc front said.bytes (10 ∷ []));
      plain = plain_append front said.bytes
          (plain_append l.instance (codes " ") (unbroken_plain l.instance readable.0.instance.one_word) refl) said.plain;
    }
line_whole names plain log (LogNote t) readable = record { bytes = t; ended = refl; plain = readable.1 }

-- a line of words that are no entry's and no note's is none of a log
abbrev pub IsCallWords : Words → Type 0
IsCallWords (words.Call i c k) = Unit {0}
IsCallWords (words.Entry i t) = ⊥
IsCallWords words.Note = ⊥
IsCallWords (words.Short i) = Unit {0}
IsCallWords words.Word = Unit {0}
IsCallWords words.Nameless = Unit {0}

call_entry : (text : Text) (w : Words) → IsCallWords w → StandsBehind text w → behind_of text ≡ behind.Entry → ⊥
call_entry text (words.Call i c k) call stands is = absurd (cc)
call_entry text (words.Entry i t) call stands is = absurd call
call_entry text words.Note call stands is = absurd call
call_entry text (words.Short i) call stands is = absurd (cc)
call_entry text words.Word call stands is = absurd stands
call_entry text words.Nameless call stands is = absurd stands

call_note : (text : Text) (w : Words) → IsCallWords w → StandsBehind text w → behind_of text ≡ behind.Note → ⊥
call_note text (words.Call i c k) call stands is = absurd (cc)
call_note text (words.Entry i t) call stands is = absurd call
call_note text words.Note call stands is = absurd call
call_note text (words.Short i) call stands is = absurd (cc)
call_note text words.Word call stands is = absurd stands
call_note text words.Nameless call stands is = absurd stands

pub call_no_line : (names : Names) (log : List Logged) (text line : Text) (w : Words) → IsCallWords w → ReadsBehind text w → line ≡ text ++ 10 ∷ []
    → (g : LogLine) → IsReadableLine names log g → line ≡ line_in names log g → ⊥
call_no_line names log text line w call reads feed (LogEntry l) readable is =
    let n = next_of l.instance log in
    let asked = asked_text names l.said.caller n l.said.request in
    let rest = asked ++ reply_text names l.said.reply in
    let spelled : text ++ 10 ∷ [] ≡ (l.instance ++ 32 ∷ rest) ++ 10 ∷ [] =
    sym feed ∙ is ∙ append_assoc l.instance (codes " ") (said_line names n l.said) ∙ sym (append_assoc l.instance (32 ∷ rest) (10 ∷ [])) in
    let parts = append_cancel_right text (l.instance ++ 32 ∷ rest) (10 ∷ []) spelled in
    call_entry rest w call (reads l.instance rest (name_word names l readable.0) parts)
    (behind_digit rest (asked_first names l.said.caller n l.said.request (reply_text names l.said.reply)))
call_no_line names log text line w call reads feed (LogNote t) readable is =
    let note = readable.0 in
    let parts = append_cancel_right text t (10 ∷ []) (sym feed ∙ is) in
    call_note note.rest w call (reads note.instance note.rest note.word (parts ∙ note.spelled)) note.kind
