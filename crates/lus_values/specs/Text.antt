-- The text of a value.
use Rattle.std.specs.Prelude.{◌≡◌, [], ◌++◌, codes, if◌then◌else◌, unwrap_or}
use Rattle.std.specs.Fmt.{signed_decimal}
use Rattle.lus_values.specs.Values.{Value, bool, int, enum, struct, nil, Fields, end, field}
use Rattle.lus_values.specs.Names.{Text, Names, name_of}

-- a constructor without a name is a question mark; fields stand in declared order
abbrev mutual
  pub text_of : Names → Value → Text
  text_of names (bool b) = if b then codes "true" else codes "false"
  text_of names (int z) = signed_decimal z
  text_of names (enum t c) = unwrap_or (name_of names t c) (codes "?")
  text_of names (struct fs) = codes "{" ++ fields_text names [] fs ++ codes "}"
  text_of names nil = codes "nil"

  -- fields, the first after this text and each later one after a semicolon and a blank
  pub fields_text : Names → Text → Fields → Text
  fields_text names before end = []
  fields_text names before (field v fs) = before ++ text_of names v ++ fields_text names (codes "; ") fs

-- the first text is a beginning of the second
abbrev pub Begins : Text → Text → Type 0
Begins a b = (rest : Text) × (b ≡ a ++ rest)
