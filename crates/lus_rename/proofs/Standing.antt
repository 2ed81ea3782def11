-- A name among a source's tokens stands in the source.
use Rattle.std.proofs.Common.{◌≡◌, ◌∙◌, ℕ, List, ap, subst, sym}
use Rattle.std.specs.Option.{option_map}
use Rattle.std.proofs.lemmas.Option.{slice_get-map}
use Rattle.lus_syntax.specs.declared.token.Token.{Token}
use Rattle.lus_syntax.specs.Lexemes.{Lexeme, Text}
use Rattle.lus_syntax.specs.Tokens.{Tokens}
use Rattle.lus_syntax.specs.View.{token_seen, tokens_seen}
use Rattle.lus_edits.specs.Kept.{RenamesTokens}
use Rattle.lus_rename.specs.Renaming.{HaveNameAt, IsNameAt}

pub stands_in_source : (source : Text) (ts : List Token) (byte : ℕ) (name : Text) → Tokens source (tokens_seen ts) → HaveNameAt ts byte name
    → IsNameAt source byte name
stands_in_source source ts byte name reads here = record {
  tokens = tokens_seen ts;
  reads = reads;
  place = here.place;
  token = token_seen here.token;
  at = slice_get-map token_seen ts here.place ∙ ap (option_map token_seen) here.at;
  has = here.has;
}

-- where the tokens are all that the source may have
pub stands_in_renamed : (source made old name : Text) (ts us : List Token) (byte : ℕ) → us ≡ ts
    → ((ls : List Lexeme) → Tokens source ls → tokens_seen ts ≡ ls) → HaveNameAt us byte old → RenamesTokens old name source made
    → IsNameAt source byte old
stands_in_renamed source made old name ts us byte same all here renames =
    let reads : Tokens source (tokens_seen ts) = subst (λ (ls : List Lexeme). Tokens source ls) (sym (all renames.before renames.reads)) renames.reads in
    stands_in_source source ts byte old reads (subst (λ (l : List Token). HaveNameAt l byte old) same here)
