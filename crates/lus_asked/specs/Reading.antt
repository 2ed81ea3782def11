-- The reader: what stands at the front of a text, and the text behind it.
use Rattle.std.specs.Prelude.{◌==◌, ◌&&◌, ◌||◌, ◌+◌, ◌^◌, ℕ, zero, suc, ℤ, pos, neg_ℤ, Bool, true, false, not, List, [], ◌∷◌, length, take, drop, nat_lt, codes, Option, Some, None, is_some, option_map, option_and_then, if◌then◌else◌}
use Rattle.std.specs.Char.{is_ascii, is_ascii_digit}
use Rattle.std.specs.List.{list_all, prefix_len}
use Rattle.std.specs.Str.{all_ascii_digits, bytes_eq}
use Rattle.std.specs.Str.Parse.{digits_value}
use Rattle.lus_values.specs.Names.{Text, Names, numbers_of}
use Rattle.lus_values.specs.Values.{Value, bool, int, enum, struct, nil, fields_of, Row}
use Rattle.lus_requests.specs.declared.request.Request.{Request}
use Rattle.lus_requests.specs.declared.request.Request.TheVariants.{Step, Reset, Save, Restore, Burst}
use Rattle.lus_asked.specs.Asked.{most_levels}

-- ---- pieces

-- what was read, made into something else
abbrev pub first_as : {A B : Type 0} → (A → B) → Option (A × Text) → Option (B × Text)
first_as f o = option_map (λ p. (f p.0, p.1)) o

-- a thing, and this text behind it
abbrev pub with_rest : {A : Type 0} → Text → Option A → Option (A × Text)
with_rest rest o = option_map (λ x. (x, rest)) o

-- what stands behind a front, where the text has it
unfoldable pub after : Text → Text → Option Text
after [] text = Some text
after (f ∷ fs) [] = None
after (f ∷ fs) (b ∷ bs) = if b == f then after fs bs else None

-- a byte that no word has: a blank, `)`, `,`, `;`, `{` or `}`
abbrev pub ends_word : ℕ → Bool
ends_word b = (b == 32) || ((b == 41) || ((b == 44) || ((b == 59) || ((b == 123) || (b == 125)))))

abbrev pub is_inside : ℕ → Bool
is_inside b = not (ends_word b)

unfoldable pub word_len : Text → ℕ
word_len text = prefix_len is_inside text

abbrev pub word_of : Text → Text
word_of text = take (word_len text) text

abbrev pub past_word : Text → Text
past_word text = drop (word_len text) text

-- the text itself, if all of it is ASCII
unfoldable pub ascii : Text → Option Text
ascii text = if list_all is_ascii text then Some text else None

-- ---- numbers

-- the number that digits write, if it is below a limit
unfoldable pub number_below : ℕ → Text → Option ℕ
number_below limit ds =
    if all_ascii_digits ds && (nat_lt 0 (length ds) && nat_lt (digits_value 10 ds) limit) then Some (digits_value 10 ds) else None

abbrev pub begins_number : Text → Bool
begins_number [] = false
begins_number (b ∷ bs) = (b == 45) || is_ascii_digit b

-- a number of 64 bits behind its sign
abbrev pub integer : Text → Option ℤ
integer [] = None
integer (b ∷ bs) =
    if b == 45 then option_map (λ n. neg_ℤ (pos n)) (number_below (2 ^ 63 + 1) bs) else option_map pos (number_below (2 ^ 63) (b ∷ bs))

-- ---- values

-- a constructor, or `nil` where none has this name
abbrev pub named : Option (ℕ × ℕ) → Text → Option Value
named (Some c) word = Some (enum c.0 c.1)
named None word = if bytes_eq word (codes "nil") then Some nil else None

unfoldable pub scalar : Names → Text → Option Value
scalar names word =
    if begins_number word then option_map int (integer word)
    else (if bytes_eq word (codes "true") then Some (bool true)
    else (if bytes_eq word (codes "false") then Some (bool false)
    else named (numbers_of names word) word))

-- the value that a word of ASCII spells
abbrev pub word_value : Names → Text → Option Value
word_value names word = option_and_then (scalar names) (ascii word)

unfoldable pub scalar_at : Names → Text → Option (Value × Text)
scalar_at names text = with_rest (past_word text) (option_and_then (scalar names) (ascii (word_of text)))

-- ---- lists

-- behind an item: the end of the list, or a separator and what goes on there
abbrev pub behind : {A : Type 0} → A → (Text → Option (List A × Text)) → Option Text → Option Text → Option (List A × Text)
behind x go (Some rest) later = Some (x ∷ [], rest)
behind x go None (Some later) = first_as (λ xs. x ∷ xs) (go later)
behind x go None None = None

-- at most so many items, with separators between them, and the end
abbrev pub items_at : {A : Type 0} → (Text → Option (A × Text)) → (close separator : Text) → ℕ → Text → Option (List A × Text)
items_at read close separator zero text = None
items_at read close separator (suc n) text =
    option_and_then (λ p. behind p.0 (items_at read close separator n) (after close p.1) (after separator p.1)) (read text)

abbrev pub listed : {A : Type 0} → Option Text → Option (List A × Text) → Option (List A × Text)
listed (Some rest) items = Some ([], rest)
listed None items = items

-- the items of a list, which may have none
unfoldable pub list_at : {A : Type 0} → (Text → Option (A × Text)) → (close separator : Text) → Text → Option (List A × Text)
list_at read close separator text = listed (after close text) (items_at read close separator (length text) text)

-- ---- structures

-- the structure behind its brace, or what is no structure
abbrev pub value_by : (Text → Option (Value × Text)) → Option (Value × Text) → Option Text → Option (Value × Text)
value_by read plain None = plain
value_by read plain (Some inner) = first_as (λ vs. struct (fields_of vs)) (list_at read (codes "}") (codes "; ") inner)

unfoldable pub value_at : ℕ → Names → Text → Option (Value × Text)
value_at zero names text = if is_some (after (codes "{") text) then None else scalar_at names text
value_at (suc levels) names text = value_by (value_at levels names) (scalar_at names text) (after (codes "{") text)

-- ---- rows

abbrev pub is_absent : Text → Bool
is_absent word = bytes_eq word (codes "-")

-- nothing, or the value that stands there
abbrev pub item_by : Bool → Text → Option (Value × Text) → Option (Option Value × Text)
item_by true rest value = Some (None, rest)
item_by false rest value = first_as Some value

unfoldable pub item_at : Names → Text → Option (Option Value × Text)
item_at names text = item_by (is_absent (word_of text)) (past_word text) (value_at most_levels names text)

-- a row behind its first parenthesis
unfoldable pub inner_row_at : Names → Text → Option (Row × Text)
inner_row_at names text = list_at (item_at names) (codes ")") (codes ", ") text

unfoldable pub row_at : Names → Text → Option (Row × Text)
row_at names text = option_and_then (inner_row_at names) (after (codes "(") text)

-- rows behind their first parenthesis
unfoldable pub rows_at : Names → Text → Option (List Row × Text)
rows_at names text = list_at (row_at names) (codes ")") (codes ", ") text

-- ---- requests

unfoldable pub slot_at : Text → Option (ℕ × Text)
slot_at text = with_rest (past_word text) (option_and_then (number_below (2 ^ 64)) (ascii (word_of text)))

-- by how the text begins
abbrev pub other_by : (reset save restore : Option Text) → Option (Request × Text)
other_by (Some rest) s t = Some (Reset, rest)
other_by None (Some slot) t = first_as Save (slot_at slot)
other_by None None (Some slot) = first_as Restore (slot_at slot)
other_by None None None = None

-- a request that has no values
unfoldable pub other_at : Text → Option (Request × Text)
other_at text = other_by (after (codes "reset") text) (after (codes "save ") text) (after (codes "restore ") text)

abbrev pub request_by : Names → (step burst : Option Text) → Option (Request × Text) → Option (Request × Text)
request_by names (Some row) b other = first_as Step (inner_row_at names row)
request_by names None (Some rows) other = first_as Burst (rows_at names rows)
request_by names None None other = other

unfoldable pub request_at : Names → Text → Option (Request × Text)
request_at names text = request_by names (after (codes "step(") text) (after (codes "burst(") text) (other_at text)

-- ---- lines

abbrev pub is_no_blank : ℕ → Bool
is_no_blank b = not (b == 32)

unfoldable pub blank_place : Text → ℕ
blank_place text = prefix_len is_no_blank text

abbrev pub parted : Text → Text → Option (Text × Text)
parted front [] = None
parted front (b ∷ later) = Some (front, later)

-- what stands before the first blank, and what behind it
unfoldable pub split_blank : Text → Option (Text × Text)
split_blank text = parted (take (blank_place text) text) (drop (blank_place text) text)

-- a request and the arrow behind it
abbrev pub arrow_behind : Option (Request × Text) → Option Request
arrow_behind request = option_and_then (λ p. option_map (λ rest. p.0) (after (codes " -> ") p.1)) request

abbrev pub call_by : Text → Option Request → Option (Text × Request)
call_by caller request = option_map (λ r. (caller, r)) request

abbrev pub call_at : Names → Text × Text → Option (Text × Request)
call_at names p = call_by p.0 (arrow_behind (request_at names p.1))

-- a caller and a request
unfoldable pub asked_at : Names → Text → Option (Text × Request)
asked_at names line = option_and_then (λ p. option_and_then (call_at names) (split_blank p.1)) (split_blank line)
