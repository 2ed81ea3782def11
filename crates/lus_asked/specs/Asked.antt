-- What a journal says of a request, and which requests it spells so that they can be read back.
use Rattle.std.specs.Prelude.{◌≡◌, ◌<◌, ◌^◌, ◌==◌, ◌&&◌, ◌||◌, ℕ, zero, suc, Bool, false, not, [], ◌∷◌, ◌++◌, codes, Option, Some, None, IsUtf8, FitsSigned, true, ⊤}
use Rattle.std.specs.Fmt.{decimal}
use Rattle.std.specs.Int.{w64}
use Rattle.std.specs.Borrow.{Bor}
use Rattle.std.specs.Char.{is_ascii_digit, is_ascii_alphabetic}
use Rattle.std.specs.List.{list_all}
use Rattle.std.specs.Str.{bytes_eq}
use Rattle.lus_values.specs.Lists.{Each}
use Rattle.lus_values.specs.Names.{Text, Names, name_of, numbers_of}
use Rattle.lus_values.specs.Values.{Value, bool, int, enum, struct, nil, Fields, end, field, Row}
use Rattle.lus_requests.specs.declared.request.Request.{Request}
use Rattle.lus_requests.specs.declared.request.Request.TheVariants.{Step, Reset, Save, Restore, Burst}
use Rattle.lus_devices.specs.Journals.{request_text}

-- what stands in the nth line before the reply
abbrev pub asked_text : Names → Text → ℕ → Request → Text
asked_text names caller n r = decimal n ++ codes " " ++ caller ++ codes " " ++ request_text names r ++ codes " -> "

-- ---- callers

-- neither a blank nor a line feed
abbrev pub is_unbroken : ℕ → Bool
is_unbroken b = not (b == 32) && not (b == 10)

-- a caller's name: characters in one word
pub record IsCaller (caller : Text) : Type 0 where
  pub characters : IsUtf8 caller
  pub one_word : list_all is_unbroken caller ≡ true

-- ---- constructors

-- an ASCII letter or `_`
abbrev pub begins_identifier : ℕ → Bool
begins_identifier b = is_ascii_alphabetic b || b == 95

abbrev pub continues_identifier : ℕ → Bool
continues_identifier b = begins_identifier b || is_ascii_digit b

abbrev pub is_identifier : Text → Bool
is_identifier [] = false
is_identifier (b ∷ bs) = begins_identifier b && list_all continues_identifier bs

-- the name of a constructor, by which it is found again: an identifier that is no truth value
pub record IsFound (names : Names) (type constructor : ℕ) : Type 0 where
  pub name : Text
  pub named : name_of names type constructor ≡ Some name
  pub found : numbers_of names name ≡ Some (type, constructor)
  pub identifier : is_identifier name ≡ true
  pub no_truth : (bytes_eq name (codes "true") || bytes_eq name (codes "false")) ≡ false

-- ---- values

abbrev mutual
  -- a value that its text tells, with at most so many structures in one another
  pub IsTold : ℕ → Names → Value → Type 0
  IsTold levels names (bool b) = ⊤
  IsTold levels names (int z) = FitsSigned w64 z
  IsTold levels names (enum t c) = IsFound names t c
  IsTold zero names (struct fs) = ⊥
  IsTold (suc levels) names (struct fs) = AreTold levels names fs
  IsTold levels names nil = numbers_of names (codes "nil") ≡ None

  pub AreTold : ℕ → Names → Fields → Type 0
  AreTold levels names end = ⊤
  AreTold levels names (field v fs) = IsTold levels names v × AreTold levels names fs

-- ---- requests

-- how deep structures may nest in one another
abbrev pub most_levels : ℕ
most_levels = 64

abbrev pub IsItemTold : Names → Option Value → Type 0
IsItemTold names None = ⊤
IsItemTold names (Some v) = IsTold most_levels names v

abbrev pub IsRowTold : Names → Row → Type 0
IsRowTold names row = Each (IsItemTold names) row

-- a request that its text tells
abbrev pub IsSpelled : Names → Request → Type 0
IsSpelled names (Step inputs) = IsRowTold names inputs
IsSpelled names Reset = ⊤
IsSpelled names (Save slot) = slot < 2 ^ 64
IsSpelled names (Restore slot) = slot < 2 ^ 64
IsSpelled names (Burst rows) = Each (IsRowTold names) rows

-- this caller and this request were read
abbrev pub IsRead : Text → Request → Option (Bor Text × Request) → Type 0
IsRead caller r None = ⊥
IsRead caller r (Some p) = (p.0.now ≡ caller) × (p.1 ≡ r)
