-- What nothing uses: a name that stands once among the tokens in which it could be used.
use Rattle.std.specs.Prelude.{ℕ, Bool, false, List, [], ◌∷◌, bytes_eq, cond, count_by, map, nat_eq, nat_lt, not, string_bytes, unwrap_or}
use Rattle.std.specs.Borrow.{Bor}
use Rattle.std.specs.HashMap.{HashMap}
use Rattle.indexmap.specs.IndexMap.{get_by}
use Rattle.lus_syntax.specs.declared.token.Token.{Token}
use Rattle.lus_syntax.specs.Lexemes.{Identifier, Keyword, Kind, Number, Sign, Text}
use Rattle.lus_syntax.specs.View.{kind_seen}
use Rattle.lus_warnings.specs.declared.unused.Declaration.{Declaration}

-- the name that a token is; other tokens have none, which no name is
abbrev pub word_of : Kind → Text
word_of (Identifier name) = name
word_of (Number n) = []
word_of (Sign s) = []
word_of (Keyword w) = []

-- how many of the tokens are this name
abbrev pub uses : Text → List Token → ℕ
uses name tokens = count_by (bytes_eq name) (map (λ t. word_of (kind_seen t.kind)) tokens)

-- a name that begins with `_` needs no use
abbrev pub is_free : Text → Bool
is_free [] = false
is_free (first ∷ others) = nat_eq first 95

-- a name that stands so often needs a use and has none
abbrev pub is_idle : ℕ → Text → Bool
is_idle count name = cond (is_free name) false (not (nat_lt 1 count))

-- so it is, by a table of how often names stand, with the name of this declaration
abbrev pub is_idle_by : {S : Type 0} → HashMap (Bor Text) ℕ S → Declaration → Bool
is_idle_by names d =
    is_idle (unwrap_or (get_by (λ k. bytes_eq (string_bytes d.name.now.text) k.now) names) 0) (string_bytes d.name.now.text)

-- nothing among these tokens uses the declaration
abbrev pub is_unused : List Token → Declaration → Bool
is_unused tokens d = is_idle (uses (string_bytes d.name.now.text) tokens) (string_bytes d.name.now.text)
