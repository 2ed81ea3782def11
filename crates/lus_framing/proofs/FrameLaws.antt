-- Heads as their lines are read.
use Rattle.std.proofs.Common.{◌≡◌, ◌∙◌, ◌++◌, ℕ, refl, ap, sym, List, [], ◌∷◌, flat_map, Option, Some, None, IfSome, append-nil, append_assoc, ◌+◌, arith, subst}
use Rattle.std.proofs.lemmas.Grind.{flat_map-append}
use Rattle.std.specs.List.{All}
use Rattle.std.proofs.lemmas.List.Elements.{All-append, All-cons, All-nil}
use Rattle.lus_devices.specs.Devices.{Bytes, with_front}
use Rattle.lus_devices.proofs.Laws.{with_front-more}
use Rattle.lus_lines.specs.Lines.{HasRead, IsNext}
use Rattle.lus_lines.specs.declared.line.Reading.{Reading}
use Rattle.lus_lines.specs.declared.line.Reading.TheVariants.{Line}
use Rattle.lus_framing.specs.Frames.{HasReadHead, IsField, IsSaid, SaysLength, blank, either, line_text}

with_nothing : (left : Option Bytes) → left ≡ with_front [] left
with_nothing None = refl
with_nothing (Some bs) = refl

-- fields were read: none yet where nothing was read
pub record IsBegun (n : ℕ) (said : Option ℕ) (left now : Option Bytes) : Type 0 where
  pub fields : List Bytes
  pub read : left ≡ with_front (flat_map line_text fields) now
  pub each : All IsField fields
  pub length : IfSome said (λ k. IsSaid fields k)
  pub first : n ≡ 0 → now ≡ left

-- what was said among fields, of one field more
pub said_more : (fields : List Bytes) (line : Bytes) (k : ℕ) → IsSaid fields k → IsSaid (fields ++ line ∷ []) k
said_more fields line k said = record {
  before = said.before;
  field = said.field;
  behind = said.behind ++ line ∷ [];
  among = ap (λ xs. xs ++ line ∷ []) said.among ∙ append_assoc said.before (said.field ∷ said.behind) (line ∷ []);
  says = said.says;
}

pub said_last : (fields : List Bytes) (line : Bytes) (k : ℕ) → SaysLength line k → IsSaid (fields ++ line ∷ []) k
said_last fields line k says = record {
  before = fields;
  field = line;
  behind = [];
  among = refl;
  says = says;
}

-- the number that the last line says, or else one before it
pub said_then : (fields : List Bytes) (line : Bytes) (old new here : Option ℕ) → IfSome old (λ k. IsSaid fields k)
    → IfSome here (λ k. SaysLength line k) → new ≡ either here old
    → IfSome new (λ k. IsSaid (fields ++ line ∷ []) k)
said_then fields line None new None before says is = subst (λ o. IfSome o (λ k. IsSaid (fields ++ line ∷ []) k)) (sym is) tt
said_then fields line (Some j) new None before says is =
    subst (λ o. IfSome o (λ k. IsSaid (fields ++ line ∷ []) k)) (sym is) (said_more fields line j before)
said_then fields line old new (Some j) before says is =
    subst (λ o. IfSome o (λ k. IsSaid (fields ++ line ∷ []) k)) (sym is) (said_last fields line j says)

pub begun_head : (left : Option Bytes) → IsBegun 0 None left left
begun_head left = record { fields = []; read = with_nothing left; each = All-nil IsField; length = tt; first = λ _. refl }

-- the text of one line more
read_more : (fields : List Bytes) (line : Bytes) (left now later : Option Bytes) → left ≡ with_front (flat_map line_text fields) now
    → IsNext line now later → left ≡ with_front (flat_map line_text fields ++ line_text line) later
read_more fields line left now later read next =
    read ∙ ap (with_front (flat_map line_text fields)) next.read
    ∙ with_front-more later (flat_map line_text fields) (line_text line)

pub begun_more : (n : ℕ) (line : Bytes) (old here new : Option ℕ) (left now later : Option Bytes) → IsBegun n old left now
    → IsNext line now later → (line ≡ blank → ⊥) → IfSome here (λ k. SaysLength line k)
    → new ≡ either here old → IsBegun (n + 1) new left later
begun_more n line old here new left now later begun next other says is = record {
  fields = begun.fields ++ line ∷ [];
  read =
      read_more begun.fields line left now later begun.read next
      ∙ ap (λ bs. with_front bs later)
      (sym (flat_map-append line_text begun.fields (line ∷ []) ∙ ap (λ bs. flat_map line_text begun.fields ++ bs) (append-nil (line_text line))));
  each = All-append IsField begun.fields (line ∷ []) begun.each (All-cons IsField line [] (next.plain, other) (All-nil IsField));
  length = said_then begun.fields line old new here begun.length says is;
  first = λ e. absurd (omega (arith, e));
}

-- a head whose blank line was read
pub head_read : (n k : ℕ) (line : Bytes) (said : Option ℕ) (left now later : Option Bytes) → IsBegun n said left now → said ≡ Some k
    → IsNext line now later → line ≡ blank → HasReadHead (Some k) left later
head_read n k line said left now later begun is next ends = (
  begun.fields,
  record { each = begun.each; said = subst (λ o. IfSome o (λ k. IsSaid begun.fields k)) is begun.length },
  read_more begun.fields line left now later begun.read next
      ∙ ap (λ l. with_front (flat_map line_text begun.fields ++ line_text l) later) ends,
)

pub line_read : (r : Reading) (line : Bytes) (left later : Option Bytes) → r ≡ Line → HasRead r line left later → IsNext line left later
line_read r line left later is read = let P : Reading → Type 0 = λ q. HasRead q line left later in (subst P is read).0
