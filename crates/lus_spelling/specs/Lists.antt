-- Lists and options as the grammar writes them.
use Rattle.std.specs.Prelude.{List, [], ◌∷◌, ◌++◌}
use Rattle.lus_syntax.specs.declared.token.Span.{Span}
use Rattle.lus_syntax.specs.Lexemes.{Kind, Lexeme, tok}

-- one token of a kind
pub data Mark (kind : Kind) : List Lexeme → Type 0 where
  mark : (s : Span) → Mark kind (tok kind s ∷ [])

-- no token
pub data Nothing : List Lexeme → Type 0 where
  nothing : Nothing []

-- [ token ]
pub data Optional (kind : Kind) : List Lexeme → Type 0 where
  absent : Optional kind []
  present : (s : Span) → Optional kind (tok kind s ∷ [])

-- { separator item }
pub data Repeated {A : Type 0} (Separator : List Lexeme → Type 0) (Item : A → List Lexeme → Type 0) : List A → List Lexeme → Type 0 where
  none : Repeated Separator Item [] []
  again : {a : A} {bs : List A} {ss xs ys : List Lexeme} → Separator ss → Item a xs → Repeated Separator Item bs ys → Repeated Separator Item (a ∷ bs) (ss ++ (xs ++ ys))

-- item { separator item }
pub data Listed {A : Type 0} (Separator : List Lexeme → Type 0) (Item : A → List Lexeme → Type 0) : List A → List Lexeme → Type 0 where
  listed : {a : A} {bs : List A} {xs ys : List Lexeme} → Item a xs → Repeated Separator Item bs ys → Listed Separator Item (a ∷ bs) (xs ++ ys)
