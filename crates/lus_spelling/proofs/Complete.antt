-- What is spelled so is read, if it is not too deep.
use Rattle.std.proofs.Common.{◌≡◌, ℕ, zero, suc, ◌+◌, ◌-◌, ◌<◌, ◌≤◌, max, Bool, true, false, cond, ltb, leb, length, List, [], ◌∷◌, ◌++◌, Option, Some, None, Result, Ok, Err, refl, sym, ap, subst, ◌∙◌, append_assoc, length-append, arith, inl, inr}
use Rattle.std.proofs.lemmas.Bool.{le-leb, lt-leb, lt-ltb, le-ltb, cases_lt}
use Rattle.std.proofs.Math.Nat.{max-le, le-max_left, le-max_right}
use Rattle.lus_values.specs.declared.operator.Op.{Op}
use Rattle.lus_syntax.specs.declared.token.Span.{Span}
use Rattle.lus_syntax.specs.declared.token.Symbol.TheVariants as symbols
use Rattle.lus_syntax.specs.declared.token.Word.TheVariants as words
use Rattle.lus_syntax.specs.declared.tree.Infix.{Infix}
use Rattle.lus_syntax.specs.declared.tree.Infix.TheVariants as operators
use Rattle.lus_syntax.specs.declared.tree.ListOperator.{ListOperator}
use Rattle.lus_syntax.specs.declared.tree.Prefix.{Prefix}
use Rattle.lus_spelling.specs.declared.form.Form.{Form}
use Rattle.lus_spelling.specs.declared.form.Form.TheVariants as forms
use Rattle.lus_syntax.specs.Lexemes.{Kind, Number, Sign, Keyword, Lexeme, tok}
use Rattle.lus_syntax.specs.Trees.{Named, Label, Constructor, Boolean, Test, Lead, Plain, Of, Branch, Expression, Numeral, Truth, Name, Call, Structure, Merge, Variadic, Field, Parentheses, When, Unary, Binary, If, Parts, End, More, parts_of}
use Rattle.lus_spelling.specs.Expressions.{ident, label, depth, deepest, Level, Whole, Arrow, Else, Choice, Implication, Disjunction, Conjunction, Negation, Negated, Comparison, Sum, Term, Signed, Primary, Dotted, Atom, joined_at, joins_at, infix_of, may_join, prefix_of, list_operator_of, Joins, implication, disjunction, conjunction, comparison, sum, term, Heads, negation, signed, Spells, SpellsAll, SpellsPart, SpellsTest, Separates, Closes, holds, labelled, comma, semicolon, unparted, unclosed, number, truth, falsity, name, call_empty, call, structure, variadic, parentheses, undotted, dotted, primary, merge, prefixed, bare, first, next, choice, else_choice, else_value, arrow_choice, arrow_value, arrow, whole, fby, when, final, further, argument, init, branch}
use Rattle.lus_spelling.specs.Reading.{Fault, Syntax, Deep, Found, found, Read, Reader, ◌>>=◌, front, expect, identifier_at, label_at, closed_name_at, test_at, turn_at, Item, item, lead_at, part_at, Several, onward, parts_at, listed_at, after_open, parentheses_at, name_at, operands_at, plain_at, atom_at, dots_at, dotted_at, primary_at, prefix_at, prefixed_on, join, two_on, infix_at, no_turn, one_turn, more_at, branches_at, choice_at, arrow_on, arrow_at, is_primary, when_on, fby_on, whole_at, read_atom, read_dotted, read_primary, read_choice, read_else, read_arrow, read_whole, read, opening_of, opening, entry, sampled}
use Rattle.lus_spelling.proofs.Sound.{done, bind_cond, front_is, zero_first, zero_least, max_regroups, heads_read, chain_reads}

-- ---- what may follow, and what may begin

-- how tight a token's operator must be to go on with a level
abbrev pub rank : Level → ℕ
rank Whole = 1
rank Arrow = 2
rank Else = 3
rank Choice = 3
rank Implication = 3
rank Disjunction = 4
rank Conjunction = 5
rank Negation = 6
rank Comparison = 6
rank Sum = 7
rank Term = 8
rank Negated = 9
rank Signed = 9
rank Primary = 9
rank Dotted = 10
rank Atom = 11

-- how tight the operator is that a token may be
abbrev joined_heft : Option (Level × Op) → Kind → ℕ
joined_heft (Some (level, op)) l = rank level
joined_heft None (Keyword words.Fby) = 1
joined_heft None (Keyword words.When) = 1
joined_heft None (Sign symbols.Arrow) = 2
joined_heft None (Sign symbols.Dot) = 10
joined_heft None (Sign symbols.Open) = 11
joined_heft None (Sign symbols.OpenBrace) = 11
joined_heft None _ = 0

abbrev heft : Kind → ℕ
heft l = joined_heft (joined_at l) l

abbrev pub weight : List Lexeme → ℕ
weight [] = 0
weight (t ∷ ts) = heft t.kind

-- what joins the operands of a level is computed, and stands at that level
pub joined_by : (level : Level) (l : Kind) (op : Infix) → infix_of level l ≡ Some op → (o : Op) × (op ≡ operators.Compute o) × (joined_at l ≡ Some (level, o))
joined_by level l op e = go level (joined_at l) e
  where
    go : (level : Level) (j : Option (Level × Op)) → joins_at level j ≡ Some op → (o : Op) × (op ≡ operators.Compute o) × (j ≡ Some (level, o))
    go Implication (Some (Implication, o)) e = (o, cc, refl)
    go Disjunction (Some (Disjunction, o)) e = (o, cc, refl)
    go Conjunction (Some (Conjunction, o)) e = (o, cc, refl)
    go Comparison (Some (Comparison, o)) e = (o, cc, refl)
    go Sum (Some (Sum, o)) e = (o, cc, refl)
    go Term (Some (Term, o)) e = (o, cc, refl)
    go _ _ e = absurd cc

-- a level's operator weighs what the level does
operator_heft : (level : Level) (l : Kind) (op : Infix) → infix_of level l ≡ Some op → heft l ≡ rank level
operator_heft level l op e = let j = joined_by level l op e in ap (λ o. joined_heft o l) j.2

no_infix : (level : Level) (left : Expression) (ts : List Lexeme) → weight ts < rank level → infix_at level left ts ≡ None
no_infix level left [] lt = refl
no_infix level left (t ∷ ts) lt = go (infix_of level t.kind) refl
  where
    go : (o : Option Infix) → infix_of level t.kind ≡ o → infix_at level left (t ∷ ts) ≡ None
    go None e = rw e refl
    go (Some op) e = let h = operator_heft level t.kind op e in absurd (omega (arith, h))

prefix_opening : (level : Level) (l : Kind) (op : Prefix) → prefix_of level l ≡ Some op → opening_of l ≡ entry level
prefix_opening level l op e = grind arith

list_opening : (l : Kind) (op : ListOperator) → list_operator_of l ≡ Some op → opening_of l ≡ 5
list_opening l op e = grind arith

no_prefix : (level : Level) (ts : List Lexeme) → entry level < opening ts → prefix_at level ts ≡ None
no_prefix level [] lt = refl
no_prefix level (t ∷ ts) lt = go (prefix_of level t.kind) refl
  where
    go : (o : Option Prefix) → prefix_of level t.kind ≡ o → prefix_at level (t ∷ ts) ≡ None
    go None e = rw e refl
    go (Some op) e = let h = prefix_opening level t.kind op e in absurd (omega (arith, h))

-- a token that is not at the front
no_front : (l : Kind) (ts : List Lexeme) → ((x : Span × List Lexeme) → ts ≡ tok l x.0 ∷ x.1 → ⊥) → front l ts ≡ None
no_front l ts never = go (front l ts) refl
  where
    go : (o : Option (Span × List Lexeme)) → front l ts ≡ o → front l ts ≡ None
    go None e = e
    go (Some x) e = absurd (never x (front_is l ts x e))

pub no_light : (l : Kind) (ts : List Lexeme) → weight ts < heft l → front l ts ≡ None
no_light l ts lt = no_front l ts (λ x e. let h = ap weight e in omega (arith, h))

no_if : (ts : List Lexeme) → 2 ≤ opening ts → front (Keyword words.If) ts ≡ None
no_if ts le = no_front (Keyword words.If) ts (λ x e. let h = ap opening e in omega (arith, h))

no_merge : (ts : List Lexeme) → 5 ≤ opening ts → front (Keyword words.Merge) ts ≡ None
no_merge ts le = no_front (Keyword words.Merge) ts (λ x e. let h = ap opening e in omega (arith, h))

head_entry : {level operand other : Level} → Heads level operand other → entry level < entry other
head_entry h = grind arith

join_entry : {level operand : Level} → Joins level operand → entry level ≤ entry operand
join_entry j = grind arith

-- what a level begins with
begins : {level : Level} {t : Expression} {ts : List Lexeme} → Spells level t ts → (rest : List Lexeme) → entry level ≤ opening (ts ++ rest)
begins (variadic l op s o at d) rest = let e = list_opening l op at in omega (arith, e)
begins (undotted d) rest = begins d rest
begins (dotted s x {t} {ts} d) rest = subst (λ (u : List Lexeme). 5 ≤ opening u) (sym (append_assoc ts (tok (Sign symbols.Dot) s ∷ ident x ∷ []) rest)) (begins d (tok (Sign symbols.Dot) s ∷ ident x ∷ rest))
begins (primary d) rest = omega (arith, begins d rest)
begins (prefixed {level} l op s h at d) rest = let e = prefix_opening level l op at in omega (arith, e)
begins (bare h d) rest = let more = head_entry h in omega (arith, more, begins d rest)
begins (first j d) rest = let more = join_entry j in omega (arith, more, begins d rest)
begins (next {level} l op s {a} {b} {xs} {ys} j at may d e) rest = subst (λ (u : List Lexeme). entry level ≤ opening u) (sym (append_assoc xs (tok l s ∷ ys) rest)) (begins d (tok l s ∷ (ys ++ rest)))
begins (else_choice d) rest = begins d rest
begins (else_value d) rest = omega (arith, begins d rest)
begins (arrow_choice d) rest = begins d rest
begins (arrow_value d) rest = omega (arith, begins d rest)
begins (arrow s {a} {b} {xs} {ys} d e) rest = let h = begins d (tok (Sign symbols.Arrow) s ∷ (ys ++ rest)) in subst (λ (u : List Lexeme). 1 ≤ opening u) (sym (append_assoc xs (tok (Sign symbols.Arrow) s ∷ ys) rest)) (omega (arith, h))
begins (whole d) rest = begins d rest
begins (fby s {a} {b} {xs} {ys} d e) rest = let h = begins d (tok (Keyword words.Fby) s ∷ (ys ++ rest)) in subst (λ (u : List Lexeme). 1 ≤ opening u) (sym (append_assoc xs (tok (Keyword words.Fby) s ∷ ys) rest)) (omega (arith, h))
begins (when s {a} {c} {xs} {ys} d e) rest = let h = begins d (tok (Keyword words.When) s ∷ (ys ++ rest)) in subst (λ (u : List Lexeme). 1 ≤ opening u) (sym (append_assoc xs (tok (Keyword words.When) s ∷ ys) rest)) (omega (arith, h))
begins _ rest = omega arith

-- ---- what reading a tree gives

-- a tree that is read within a limit
abbrev pub outcome : ℕ → Expression → List Lexeme → Read
outcome limit t rest = cond (leb (depth t) limit) (Ok (found t (depth t) rest)) (Err Deep)

-- what is read within any limit
pub record Reads (level : Level) (t : Expression) (ts : List Lexeme) : Type 0 where
  pub by : (n : ℕ) (rest : List Lexeme) → weight rest < rank level → read n level (ts ++ rest) ≡ outcome n t rest

-- what is read where some depth is left
pub record ReadsWithin (level : Level) (t : Expression) (ts : List Lexeme) : Type 0 where
  pub by : (n : ℕ) (rest : List Lexeme) → weight rest < rank level → read (suc n) level (ts ++ rest) ≡ outcome (suc n) t rest

-- a loop that has read the tree and goes on
pub record Grown (level operand : Level) (n : ℕ) (t : Expression) (ts rest : List Lexeme) : Type 0 where
  pub turns : ℕ
  pub enough : n < turns + depth t
  pub same : read (suc n) level (ts ++ rest) ≡ cond (leb (depth t) (suc n)) (more_at turns level n (read n operand) (found t (depth t) rest)) (Err Deep)

pub record Grows (level operand : Level) (t : Expression) (ts : List Lexeme) : Type 0 where
  pub by : (n : ℕ) (rest : List Lexeme) → weight rest < rank operand → Grown level operand n t ts rest

-- the loop over fields has read the tree and goes on
pub record Dots (t : Expression) (ts : List Lexeme) (n : ℕ) (rest : List Lexeme) : Type 0 where
  pub turns : ℕ
  pub enough : n < turns + depth t
  pub same : read (suc n) Dotted (ts ++ rest) ≡ cond (leb (depth t) (suc n)) (dots_at turns n (found t (depth t) rest)) (Err Deep)

pub data IsDotted : Level → Type 0 where
  is_dotted : IsDotted Dotted

pub record Goal (level : Level) (t : Expression) (ts : List Lexeme) : Type 0 where
  pub reads : ReadsWithin level t ts
  pub grows : (operand : Level) → Joins level operand → Grows level operand t ts
  pub dots : IsDotted level → (n : ℕ) (rest : List Lexeme) → weight rest < 11 → Dots t ts n rest

depth_positive : (t : Expression) → 0 < depth t
depth_positive (Binary op a b) = omega arith
depth_positive _ = omega arith

in_limit : {A : Type 0} (d n : ℕ) (x : A) → d ≤ n → cond (leb d n) (done x) (Err Deep) ≡ Ok x
in_limit d n x le = rw (le-leb d n le) refl

past_limit : {A : Type 0} (d n : ℕ) (x : A) → n < d → cond (leb d n) (done x) (Err Deep) ≡ Err Deep
past_limit d n x lt = rw (lt-leb d n lt) refl

-- what follows what is within a limit: too deep, or not
over : {A B : Type 0} (d n : ℕ) (x : A) (f : A → Result B Fault) (target : Result B Fault) → (n < d → Err Deep ≡ target) → (d ≤ n → f x ≡ target) → (cond (leb d n) (done x) (Err Deep) >>= f) ≡ target
over d n x f target far near =
    elim (cases_lt n d) [
      | inl lt ↦ ap (λ r. r >>= f) (past_limit d n x lt) ∙ far lt
      | inr le ↦ ap (λ r. r >>= f) (in_limit d n x le) ∙ near le
    ]

within : (limit : ℕ) (t : Expression) (rest : List Lexeme) → depth t ≤ limit → outcome limit t rest ≡ Ok (found t (depth t) rest)
within limit t rest le = in_limit (depth t) limit (found t (depth t) rest) le

beyond : (limit : ℕ) (t : Expression) (rest : List Lexeme) → limit < depth t → outcome limit t rest ≡ Err Deep
beyond limit t rest lt = past_limit (depth t) limit (found t (depth t) rest) lt

none_read : (level : Level) (t : Expression) (ts rest : List Lexeme) → entry level ≤ opening ts → read 0 level ts ≡ outcome 0 t rest
unfolding read
none_read level t ts rest opened = rw (le-leb (entry level) (opening ts) opened) (sym (beyond 0 t rest (depth_positive t)))

-- where no depth is left, a tree is too deep
reads_of : {level : Level} {t : Expression} {ts : List Lexeme} → Spells level t ts → ReadsWithin level t ts → Reads level t ts
reads_of {level} {t} {ts} d h = record { by = by }
  where
    by : (n : ℕ) (rest : List Lexeme) → weight rest < rank level → read n level (ts ++ rest) ≡ outcome n t rest
    by zero rest lt = none_read level t (ts ++ rest) rest (begins d rest)
    by (suc n) rest lt = h.by n rest lt

reads_from : (level : Level) (t : Expression) (ts : List Lexeme) → ((n : ℕ) (rest : List Lexeme) → weight rest < rank level → read (suc n) level (ts ++ rest) ≡ outcome (suc n) t rest) → ReadsWithin level t ts
reads_from level t ts h = record { by = h }

abbrev too_deep : Read
too_deep = Err Deep

-- a tree around a part, one deeper
around : (n : ℕ) (inner outer : Expression) (rest after : List Lexeme) (step : Found → Read) → depth outer ≡ suc (depth inner) → step (found inner (depth inner) rest) ≡ Ok (found outer (depth outer) after) → (outcome n inner rest >>= step) ≡ outcome (suc n) outer after
around n inner outer rest after step d e =
    over (depth inner) n (found inner (depth inner) rest) step (outcome (suc n) outer after) (λ lt. sym (beyond (suc n) outer after (omega (arith, d)))) (λ le. e ∙ sym (within (suc n) outer after (omega (arith, d))))

-- a step that keeps what was found
keeps : (limit : ℕ) (t : Expression) (rest : List Lexeme) (f : Found → Read) → f (found t (depth t) rest) ≡ Ok (found t (depth t) rest) → (outcome limit t rest >>= f) ≡ outcome limit t rest
keeps limit t rest f e = bind_cond (leb (depth t) limit) (found t (depth t) rest) f ∙ ap (λ (r : Read). cond (leb (depth t) limit) r (Err Deep)) e

-- ---- two operands

module _ (n : ℕ) (op : Infix) (operand : Reader) (more : Found → Read) (a b : Expression) (before after rest : List Lexeme) (right : operand after ≡ outcome n b rest) where
  pair : cond (leb (depth a) (suc n)) (two_on n op operand more (found a (depth a) before) after) (Err Deep) ≡ cond (leb (suc (max (depth a) (depth b))) (suc n)) (more (found (Binary op a b) (suc (max (depth a) (depth b))) rest)) (Err Deep)
  pair =
      let whole_tree = found (Binary op a b) (suc (max (depth a) (depth b))) rest in
      let target = cond (leb (suc (max (depth a) (depth b))) (suc n)) (more whole_tree) (Err Deep) in
      let step : Found → Read = λ f. cond (ltb n (depth a)) (Err Deep) (more (join op (found a (depth a) before) f)) in
      let lost : n < max (depth a) (depth b) → Err Deep ≡ target = λ lt. sym (rw (lt-leb (suc (max (depth a) (depth b))) (suc n) (omega arith)) refl) in
      let left_deep : n < depth a → Err Deep ≡ target = λ far. lost (omega (arith, le-max_left (depth a) (depth b))) in
      let read_both : (outcome n b rest >>= step) ≡ target =
      over (depth b) n (found b (depth b) rest) step target (λ far. lost (omega (arith, le-max_right (depth a) (depth b)))) (λ near.
      elim (cases_lt n (depth a)) [
        | inl far ↦ rw (lt-ltb n (depth a) far) (left_deep far)
        | inr le ↦ rw (le-ltb n (depth a) le) (sym (rw (le-leb (suc (max (depth a) (depth b))) (suc n) (omega (arith, max-le le near))) refl))
      ]) in
      elim (cases_lt (suc n) (depth a)) [
        | inl farther ↦ rw (lt-leb (depth a) (suc n) farther) (left_deep (omega (arith, farther)))
        | inr le ↦ rw (le-leb (depth a) (suc n) le) (ap (λ (r : Read). r >>= step) right ∙ read_both)
      ]

-- ---- levels that have no operators of their own

goal_plain : (level : Level) (t : Expression) (ts : List Lexeme) → entry level ≡ 1 → ReadsWithin level t ts → Goal level t ts
goal_plain level t ts e h = record { reads = h; grows = λ operand j. absurd (unjoined j e); dots = λ d. absurd (undotted_level d e) }
  where
    unjoined : {level operand : Level} → Joins level operand → entry level ≡ 1 → ⊥
    unjoined j e = grind arith

    undotted_level : {level : Level} → IsDotted level → entry level ≡ 1 → ⊥
    undotted_level d e = grind arith

-- ---- leaves

goal_atom : (t : Expression) (ts : List Lexeme) → ((n : ℕ) (rest : List Lexeme) → weight rest < rank Atom → read (suc n) Atom (ts ++ rest) ≡ outcome (suc n) t rest) → Goal Atom t ts
goal_atom t ts h = record { reads = reads_from Atom t ts h; grows = λ operand j. elim j [ ]; dots = λ d. elim d [ ] }

parentheses_again : (s e : Span) (t : Expression) (ts : List Lexeme) → Reads Whole t ts → Goal Atom (Parentheses s t) (tok (Sign symbols.Open) s ∷ (ts ++ tok (Sign symbols.Close) e ∷ []))
unfolding read read_atom atom_at plain_at parentheses_at
parentheses_again s e t ts h = goal_atom (Parentheses s t) (tok (Sign symbols.Open) s ∷ (ts ++ tok (Sign symbols.Close) e ∷ [])) (λ n rest lt.
    ap (λ (r : List Lexeme). read n Whole r >>= λ inner. after_open s inner (expect (Sign symbols.Close) inner.rest)) (append_assoc ts (tok (Sign symbols.Close) e ∷ []) rest)
    ∙ ap (λ (r : Read). r >>= λ inner. after_open s inner (expect (Sign symbols.Close) inner.rest)) (h.by n (tok (Sign symbols.Close) e ∷ rest) (omega arith))
    ∙ around n t (Parentheses s t) (tok (Sign symbols.Close) e ∷ rest) rest (λ inner. after_open s inner (expect (Sign symbols.Close) inner.rest)) refl refl)

-- ---- parts

-- what may follow a part
abbrev After : Form → List Lexeme → Type 0
After forms.Merge rest = Unit {0}
After _ rest = weight rest < 1

abbrev part_outcome : ℕ → Lead → Expression → List Lexeme → Result Item Fault
part_outcome n l t rest = cond (leb (depth t) n) (Ok (item l t (depth t) rest)) (Err Deep)

pub record ReadsPart (form : Form) (l : Lead) (t : Expression) (xs : List Lexeme) : Type 0 where
  pub by : (n : ℕ) (rest : List Lexeme) → After form rest → part_at form (read n Whole) (xs ++ rest) ≡ part_outcome n l t rest

argument_again : (t : Expression) (ts : List Lexeme) → Reads Whole t ts → ReadsPart forms.Call Plain t ts
unfolding part_at lead_at
argument_again t ts h = record {
  by = λ n rest lt.
      ap (λ (r : Read). r >>= λ f. Ok (item Plain f.tree f.depth f.rest)) (h.by n rest lt)
      ∙ over (depth t) n (found t (depth t) rest) (λ f. Ok (item Plain f.tree f.depth f.rest)) (part_outcome n Plain t rest) (λ far. sym (past_limit (depth t) n (item Plain t (depth t) rest) far)) (λ le. sym (in_limit (depth t) n (item Plain t (depth t) rest) le));
}

init_again : (x : Named) (e : Span) (t : Expression) (ts : List Lexeme) → Reads Whole t ts → ReadsPart forms.Structure (Of x) t (ident x ∷ tok (Sign symbols.Equal) e ∷ ts)
unfolding part_at lead_at identifier_at
init_again x e t ts h = record {
  by = λ n rest lt.
      ap (λ (r : Read). r >>= λ f. Ok (item (Of x) f.tree f.depth f.rest)) (h.by n rest lt)
      ∙ over (depth t) n (found t (depth t) rest) (λ f. Ok (item (Of x) f.tree f.depth f.rest)) (part_outcome n (Of x) t rest) (λ far. sym (past_limit (depth t) n (item (Of x) t (depth t) rest) far)) (λ le. sym (in_limit (depth t) n (item (Of x) t (depth t) rest) le));
}

label_again : (l : Label) (rest : List Lexeme) → label_at (label l ∷ rest) ≡ Ok (l, rest)
unfolding label_at
label_again (Constructor n) rest = refl
label_again (Boolean true s) rest = refl
label_again (Boolean false s) rest = refl

branch_step : Span → Label → Found → Result Item Fault
branch_step o l f = expect (Sign symbols.Close) f.rest >>= λ r. Ok (item (Branch o l) f.tree f.depth r)

abbrev branch_lead : Span → Result (Label × List Lexeme) Fault → Result (Lead × List Lexeme) Fault
branch_lead o q = q >>= λ y. expect (Sign symbols.Arrow) y.1 >>= λ r. Ok (Branch o y.0, r)

abbrev branch_value : ℕ → Lead × List Lexeme → Result Item Fault
branch_value n y = read n Whole y.1 >>= λ f. expect (Sign symbols.Close) f.rest >>= λ r. Ok (item y.0 f.tree f.depth r)

branch_again : (l : Label) (o a c : Span) (t : Expression) (ts : List Lexeme) → Reads Whole t ts → ReadsPart forms.Merge (Branch o l) t (tok (Sign symbols.Open) o ∷ label l ∷ tok (Sign symbols.Arrow) a ∷ (ts ++ tok (Sign symbols.Close) c ∷ []))
unfolding part_at lead_at branch_step
branch_again l o a c t ts h = record {
  by = λ n rest any.
      ap (λ (q : Result (Label × List Lexeme) Fault). branch_lead o q >>= branch_value n) (label_again l (tok (Sign symbols.Arrow) a ∷ ((ts ++ tok (Sign symbols.Close) c ∷ []) ++ rest)))
      ∙ ap (λ (r : List Lexeme). read n Whole r >>= branch_step o l) (append_assoc ts (tok (Sign symbols.Close) c ∷ []) rest)
      ∙ ap (λ (r : Read). r >>= branch_step o l) (h.by n (tok (Sign symbols.Close) c ∷ rest) (omega arith))
      ∙ over (depth t) n (found t (depth t) (tok (Sign symbols.Close) c ∷ rest)) (branch_step o l) (part_outcome n (Branch o l) t rest) (λ far. sym (past_limit (depth t) n (item (Branch o l) t (depth t) rest) far)) (λ le. sym (in_limit (depth t) n (item (Branch o l) t (depth t) rest) le));
}

abbrev listed : Parts → List (Lead × Expression)
listed End = []
listed (More l t us) = (l, t) ∷ listed us

listed_back : (us : Parts) → parts_of (listed us) ≡ us
listed_back End = refl
listed_back (More l t us) = ap (More l t) (listed_back us)

abbrev all_outcome : ℕ → List (Lead × Expression) → ℕ → List Lexeme → Several
all_outcome n us d rest = cond (leb d n) (Ok (us, d, rest)) (Err Deep)

pub record ReadsAll (form : Form) (us : Parts) (ts : List Lexeme) : Type 0 where
  pub by : (n k : ℕ) (vs : List (Lead × Expression)) (d : ℕ) (rest : List Lexeme) → weight rest < 11 → length ts ≤ k → d ≤ n
      → parts_at k form (read n Whole) vs d (ts ++ rest) ≡ all_outcome n (vs ++ listed us) (max d (deepest us)) rest

-- what parts begin with
abbrev Starts : Form → List Lexeme → Type 0
Starts forms.Call ts = Unit {0}
Starts forms.Structure ts = (x : Named) × (r : List Lexeme) × (ts ≡ ident x ∷ r)
Starts forms.Merge ts = (o : Span) × (r : List Lexeme) × (ts ≡ tok (Sign symbols.Open) o ∷ r)

part_starts : {form : Form} {l : Lead} {t : Expression} {xs : List Lexeme} → SpellsPart form l t xs → (rest : List Lexeme) → Starts form (xs ++ rest)
part_starts (argument d) rest = tt
part_starts (init x e {t} {ts} d) rest = (x, tok (Sign symbols.Equal) e ∷ (ts ++ rest), refl)
part_starts (branch l o a c {t} {ts} d) rest = (o, label l ∷ tok (Sign symbols.Arrow) a ∷ ((ts ++ tok (Sign symbols.Close) c ∷ []) ++ rest), refl)

all_starts : {form : Form} {us : Parts} {ts : List Lexeme} → SpellsAll form us ts → (rest : List Lexeme) → Starts form (ts ++ rest)
all_starts (final {form} {l} {t} {xs} {es} p c) rest = subst (Starts form) (sym (append_assoc xs es rest)) (part_starts p (es ++ rest))
all_starts (further {form} {l} {t} {us} {xs} {ss} {ys} p s d) rest = subst (Starts form) (sym (append_assoc xs (ss ++ ys) rest)) (part_starts p ((ss ++ ys) ++ rest))

closes_turn : {form : Form} {es : List Lexeme} → Closes form es → (rest : List Lexeme) → weight rest < 11 → turn_at form (es ++ rest) ≡ Ok (false, rest)
closes_turn unclosed rest lt = rw (no_light (Sign symbols.Open) rest lt) refl
closes_turn _ rest lt = refl

closes_after : {form : Form} {es : List Lexeme} → Closes form es → (rest : List Lexeme) → After form (es ++ rest)
closes_after unclosed rest = tt
closes_after _ rest = omega arith

separates_turn : {form : Form} {ss : List Lexeme} → Separates form ss → (ts : List Lexeme) → Starts form ts → turn_at form (ss ++ ts) ≡ Ok (true, ts)
separates_turn (comma s) ts st = refl
separates_turn (semicolon s) ts st = rw st.2 refl
separates_turn unparted ts st = rw st.2 refl

separates_after : {form : Form} {ss : List Lexeme} → Separates form ss → (ts : List Lexeme) → After form (ss ++ ts)
separates_after unparted ts = tt
separates_after _ ts = omega arith

long : (ts : List Lexeme) → 1 ≤ opening (ts ++ []) → 0 < length ts
long [] le = absurd (omega (arith, le))
long (t ∷ ts) le = omega arith

part_long : {form : Form} {l : Lead} {t : Expression} {xs : List Lexeme} → SpellsPart form l t xs → 0 < length xs
part_long (argument {t} {ts} d) = long ts (begins d [])
part_long (init x e d) = omega arith
part_long (branch l o a c d) = omega arith

one_part : (form : Form) (n k : ℕ) (vs : List (Lead × Expression)) (d : ℕ) (ts : List Lexeme) → 0 < k → parts_at k form (read n Whole) vs d ts ≡ (part_at form (read n Whole) ts >>= λ i. turn_at form i.rest >>= λ t. onward (λ us e r. parts_at (k - 1) form (read n Whole) us e r) (vs ++ (i.lead, i.tree) ∷ []) (max d i.depth) t)
unfolding parts_at
one_part form n zero vs d ts lt = absurd (omega (arith, lt))
one_part form n (suc k) vs d ts lt = let e : suc k - 1 ≡ k = omega arith in sym (ap (λ (j : ℕ). part_at form (read n Whole) ts >>= λ i. turn_at form i.rest >>= λ t. onward (λ us e r. parts_at j form (read n Whole) us e r) (vs ++ (i.lead, i.tree) ∷ []) (max d i.depth) t) e)

part_step : (form : Form) (n k : ℕ) (vs : List (Lead × Expression)) (d : ℕ) → Item → Several
part_step form n k vs d i = turn_at form i.rest >>= λ t. onward (λ us e r. parts_at (k - 1) form (read n Whole) us e r) (vs ++ (i.lead, i.tree) ∷ []) (max d i.depth) t

-- a part, then what the step gives: too deep, or not
part_then : (form : Form) (l : Lead) (t : Expression) (xs : List Lexeme) → ReadsPart form l t xs → (n k : ℕ) (vs : List (Lead × Expression)) (d : ℕ) (rest : List Lexeme) (target : Several) → 0 < k → After form rest
    → (n < depth t → Err Deep ≡ target) → (depth t ≤ n → part_step form n k vs d (item l t (depth t) rest) ≡ target) → parts_at k form (read n Whole) vs d (xs ++ rest) ≡ target
unfolding part_step
part_then form l t xs p n k vs d rest target lt after far near =
    one_part form n k vs d (xs ++ rest) lt
    ∙ ap (λ (r : Result Item Fault). r >>= part_step form n k vs d) (p.by n rest after)
    ∙ over (depth t) n (item l t (depth t) rest) (part_step form n k vs d) target far near

final_again : (form : Form) (l : Lead) (t : Expression) (xs es : List Lexeme) → 0 < length xs → ReadsPart form l t xs → Closes form es → ReadsAll form (More l t End) (xs ++ es)
unfolding part_step
final_again form l t xs es some p c = record {
  by = λ n k vs d rest lt fits le.
      let size = length-append xs es in
      let top = zero_least (depth t) in
      let same : max d (depth t) ≡ max d (max (depth t) 0) = ap (λ (m : ℕ). max d m) top in
      ap (parts_at k form (read n Whole) vs d) (append_assoc xs es rest)
      ∙ part_then form l t xs p n k vs d (es ++ rest) (all_outcome n (vs ++ (l, t) ∷ []) (max d (max (depth t) 0)) rest) (omega (arith, some, fits, size)) (closes_after c rest)
      (λ deep. sym (past_limit (max d (max (depth t) 0)) n (vs ++ (l, t) ∷ [], max d (max (depth t) 0), rest) (let m = le-max_right d (depth t) in omega (arith, deep, m, same))))
      (λ near.
      ap (λ (q : Result (Bool × List Lexeme) Fault). q >>= λ y. onward (λ us e r. parts_at (k - 1) form (read n Whole) us e r) (vs ++ (l, t) ∷ []) (max d (depth t)) y) (closes_turn c rest lt)
      ∙ sym (in_limit (max d (depth t)) n (vs ++ (l, t) ∷ [], max d (depth t), rest) (max-le le near)) ∙ ap (λ (m : ℕ). all_outcome n (vs ++ (l, t) ∷ []) m rest) same);
}

further_again : (form : Form) (l : Lead) (t : Expression) (us : Parts) (xs ss ys : List Lexeme) → 0 < length xs → ReadsPart form l t xs → Separates form ss → ((rest : List Lexeme) → Starts form (ys ++ rest)) → ReadsAll form us ys → ReadsAll form (More l t us) (xs ++ (ss ++ ys))
unfolding part_step
further_again form l t us xs ss ys some p s starts h = record {
  by = λ n k vs d rest lt fits le.
      let size = length-append xs (ss ++ ys) in
      let size2 = length-append ss ys in
      let same = max_regroups d (depth t) (deepest us) in
      let target = all_outcome n (vs ++ (l, t) ∷ listed us) (max d (max (depth t) (deepest us))) rest in
      ap (parts_at k form (read n Whole) vs d) (append_assoc xs (ss ++ ys) rest ∙ ap (λ (q : List Lexeme). xs ++ q) (append_assoc ss ys rest))
      ∙ part_then form l t xs p n k vs d (ss ++ (ys ++ rest)) target (omega (arith, some, fits, size)) (separates_after s (ys ++ rest))
      (λ deep. sym (past_limit (max d (max (depth t) (deepest us))) n (vs ++ (l, t) ∷ listed us, max d (max (depth t) (deepest us)), rest) (let m = le-max_right d (max (depth t) (deepest us)) in let m2 = le-max_left (depth t) (deepest us) in omega (arith, deep, m, m2))))
      (λ near.
      ap (λ (q : Result (Bool × List Lexeme) Fault). q >>= λ y. onward (λ us e r. parts_at (k - 1) form (read n Whole) us e r) (vs ++ (l, t) ∷ []) (max d (depth t)) y) (separates_turn s (ys ++ rest) (starts rest))
      ∙ h.by n (k - 1) (vs ++ (l, t) ∷ []) (max d (depth t)) rest lt (omega (arith, some, fits, size, size2)) (max-le le near)
      ∙ ap (λ (q : List (Lead × Expression)). all_outcome n q (max (max d (depth t)) (deepest us)) rest) (append_assoc vs ((l, t) ∷ []) (listed us))
      ∙ ap (λ (m : ℕ). all_outcome n (vs ++ (l, t) ∷ listed us) m rest) same);
}

shown : Expression → ℕ → List Lexeme → Read
shown t d rest = Ok (found t d rest)

-- an argument doesn't begin with a closing parenthesis
shut : (ts : List Lexeme) → 1 ≤ opening ts → front (Sign symbols.Close) ts ≡ None
shut ts le = no_front (Sign symbols.Close) ts (λ x e. let h = ap opening e in omega (arith, h))

part_open : {l : Lead} {t : Expression} {xs : List Lexeme} → SpellsPart forms.Call l t xs → (rest : List Lexeme) → 1 ≤ opening (xs ++ rest)
part_open (argument d) rest = begins d rest

no_close : {us : Parts} {ts : List Lexeme} → SpellsAll forms.Call us ts → (rest : List Lexeme) → front (Sign symbols.Close) (ts ++ rest) ≡ None
no_close (final {form} {l} {t} {xs} {es} p c) rest = ap (front (Sign symbols.Close)) (append_assoc xs es rest) ∙ shut (xs ++ (es ++ rest)) (part_open p (es ++ rest))
no_close (further {form} {l} {t} {us} {xs} {ss} {ys} p s d) rest = ap (front (Sign symbols.Close)) (append_assoc xs (ss ++ ys) rest) ∙ shut (xs ++ ((ss ++ ys) ++ rest)) (part_open p ((ss ++ ys) ++ rest))

-- a tree of parts
make_step : (Parts → Expression) → List (Lead × Expression) × ℕ × List Lexeme → Read
make_step make a = Ok (found (make (parts_of a.0)) (suc a.1) a.2)

listed_again : (make : Parts → Expression) (form : Form) (us : Parts) (ts : List Lexeme) → depth (make us) ≡ suc (deepest us) → ReadsAll form us ts → (n : ℕ) (rest : List Lexeme) → weight rest < 11 → listed_at make form (read n Whole) (ts ++ rest) ≡ outcome (suc n) (make us) rest
unfolding listed_at make_step shown
listed_again make form us ts deep h n rest lt =
    let size = length-append ts rest in
    ap (λ (r : Several). r >>= make_step make) (h.by n (length (ts ++ rest) + 1) [] 0 rest lt (omega (arith, size)) (omega arith) ∙ ap (λ (m : ℕ). all_outcome n (listed us) m rest) (zero_first (deepest us)))
    ∙ over (deepest us) n (listed us, deepest us, rest) (make_step make) (outcome (suc n) (make us) rest) (λ far. sym (beyond (suc n) (make us) rest (omega (arith, deep, far))))
    (λ near. ap (λ (vs : Parts). shown (make vs) (suc (deepest us)) rest) (listed_back us) ∙ ap (λ (m : ℕ). shown (make us) m rest) (sym deep) ∙ sym (within (suc n) (make us) rest (omega (arith, deep, near))))

merge_again : (s : Span) (m : Named) (us : Parts) (ts : List Lexeme) → ReadsAll forms.Merge us ts → Goal Primary (Merge s m us) (tok (Keyword words.Merge) s ∷ ident m ∷ ts)
unfolding read read_primary primary_at identifier_at
merge_again s m us ts h = record {
  reads = reads_from Primary (Merge s m us) (tok (Keyword words.Merge) s ∷ ident m ∷ ts) (λ n rest lt. listed_again (Merge s m) forms.Merge us ts refl h n rest (omega (arith, lt)));
  grows = λ operand j. elim j [ ];
  dots = λ d. elim d [ ];
}

-- ---- fields

dots_reads : (n : ℕ) (ts : List Lexeme) → read (suc n) Dotted ts ≡ (read (suc n) Atom ts >>= dots_at (suc n) n)
unfolding read read_dotted dotted_at
dots_reads n ts = refl

dots_first : (t : Expression) (ts : List Lexeme) → Reads Atom t ts → (n : ℕ) (rest : List Lexeme) → weight rest < 11 → Dots t ts n rest
dots_first t ts h n rest lt = record {
  turns = suc n;
  enough = let p = depth_positive t in omega arith;
  same = dots_reads n (ts ++ rest) ∙ ap (λ (r : Read). r >>= dots_at (suc n) n) (h.by (suc n) rest lt) ∙ bind_cond (leb (depth t) (suc n)) (found t (depth t) rest) (dots_at (suc n) n);
}

dots_end : (k n : ℕ) (left : Found) → front (Sign symbols.Dot) left.rest ≡ None → dots_at k n left ≡ Ok left
unfolding dots_at
dots_end zero n left e = rw e refl
dots_end (suc k) n left e = rw e refl

goal_dots : (t : Expression) (ts : List Lexeme) → ((n : ℕ) (rest : List Lexeme) → weight rest < 11 → Dots t ts n rest) → Goal Dotted t ts
goal_dots t ts h = record {
  reads = reads_from Dotted t ts (λ n rest lt.
      let g = h n rest (omega (arith, lt)) in
      g.same ∙ ap (λ (r : Read). cond (leb (depth t) (suc n)) r (Err Deep)) (dots_end g.turns n (found t (depth t) rest) (no_light (Sign symbols.Dot) rest lt)));
  grows = λ operand j. elim j [ ];
  dots = λ d n rest lt. h n rest lt;
}

module _ (n : ℕ) (t : Expression) (s : Span) (x : Named) (rest : List Lexeme) where
  dot_left : Found
  dot_left = found t (depth t) (tok (Sign symbols.Dot) s ∷ ident x ∷ rest)

  dot_deep : (k : ℕ) → n < depth t → dots_at k n dot_left ≡ Err Deep
  unfolding dots_at dot_left identifier_at
  dot_deep zero lt = refl
  dot_deep (suc k) lt = rw (lt-ltb n (depth t) lt) refl

  dot_one : (k : ℕ) → depth t ≤ n → dots_at (suc k) n dot_left ≡ dots_at k n (found (Field t x) (suc (depth t)) rest)
  unfolding dots_at dot_left identifier_at
  dot_one k le = rw (le-ltb n (depth t) le) refl

  both_deep : (b : Bool) (k : ℕ) → n < depth t → cond b (dots_at k n dot_left) (Err Deep) ≡ Err Deep
  both_deep true k lt = dot_deep k lt
  both_deep false k lt = refl

  dot_grown : (r : Read) (k : ℕ) → n < k + depth t → r ≡ cond (leb (depth t) (suc n)) (dots_at k n dot_left) (Err Deep)
      → (turns : ℕ) × (n < turns + suc (depth t)) × (r ≡ cond (leb (suc (depth t)) (suc n)) (dots_at turns n (found (Field t x) (suc (depth t)) rest)) (Err Deep))
  dot_grown r zero lt h = (suc n, omega arith, h ∙ both_deep (leb (depth t) (suc n)) zero (omega (arith, lt)) ∙ sym (rw (lt-leb (suc (depth t)) (suc n) (omega (arith, lt))) refl))
  dot_grown r (suc k) lt h = (
    k,
    omega (arith, lt),
    h ∙ elim (cases_lt n (depth t)) [
      | inl far ↦ both_deep (leb (depth t) (suc n)) (suc k) far ∙ sym (rw (lt-leb (suc (depth t)) (suc n) (omega (arith, far))) refl)
      | inr le ↦ rw (le-leb (depth t) (suc n) (omega (arith, le)), le-leb (suc (depth t)) (suc n) (omega (arith, le))) (dot_one k le)
    ],
  )

dots_next : (t : Expression) (ts : List Lexeme) (s : Span) (x : Named) → ((n : ℕ) (rest : List Lexeme) → weight rest < 11 → Dots t ts n rest) → (n : ℕ) (rest : List Lexeme) → weight rest < 11 → Dots (Field t x) (ts ++ tok (Sign symbols.Dot) s ∷ ident x ∷ []) n rest
unfolding dot_left
dots_next t ts s x h n rest lt =
    let g = h n (tok (Sign symbols.Dot) s ∷ ident x ∷ rest) (omega arith) in
    let d = dot_grown n t s x rest (read (suc n) Dotted (ts ++ tok (Sign symbols.Dot) s ∷ ident x ∷ rest)) g.turns g.enough g.same in
    record { turns = d.0; enough = d.1; same = ap (read (suc n) Dotted) (append_assoc ts (tok (Sign symbols.Dot) s ∷ ident x ∷ []) rest) ∙ d.2 }

primary_is : (n : ℕ) (ts : List Lexeme) → front (Keyword words.Merge) ts ≡ None → read (suc n) Primary ts ≡ read (suc n) Dotted ts
unfolding read read_primary primary_at
primary_is n ts e = rw e refl

primary_again : (t : Expression) (ts : List Lexeme) → Spells Dotted t ts → Reads Dotted t ts → Goal Primary t ts
primary_again t ts d h = record {
  reads = reads_from Primary t ts (λ n rest lt. primary_is n (ts ++ rest) (no_merge (ts ++ rest) (begins d rest)) ∙ h.by (suc n) rest (omega (arith, lt)));
  grows = λ operand j. elim j [ ];
  dots = λ e. elim e [ ];
}

-- ---- prefixes

head_dots : {level operand other : Level} → Heads level operand other → IsDotted level → ⊥
head_dots h j = grind arith

join_dots : {level operand : Level} → Joins level operand → IsDotted level → ⊥
join_dots j d = grind arith

head_rank : {level operand other : Level} → Heads level operand other → (rank level ≤ rank operand) × (rank level ≤ rank other)
head_rank h = (grind arith, grind arith)

head_joins : {level operand other some : Level} → Heads level operand other → Joins level some → ⊥
head_joins h j = grind arith

prefixed_again : (level operand other : Level) (l : Kind) (op : Prefix) (s : Span) (t : Expression) (ts : List Lexeme) → Heads level operand other → prefix_of level l ≡ Some op → Reads operand t ts → Goal level (Unary op s t) (tok l s ∷ ts)
prefixed_again level operand other l op s t ts heads at h = record {
  reads = reads_from level (Unary op s t) (tok l s ∷ ts) (λ n rest lt.
      let ranks = head_rank heads in
      let found_at : prefix_at level (tok l s ∷ (ts ++ rest)) ≡ Some (op, s, ts ++ rest) = rw at refl in
      heads_read heads n (tok l s ∷ (ts ++ rest))
      ∙ ap (prefixed_on (read n operand) (read (suc n) other) (tok l s ∷ (ts ++ rest))) found_at
      ∙ ap (λ (r : Read). r >>= λ inner. Ok (found (Unary op s inner.tree) (suc inner.depth) inner.rest)) (h.by n rest (omega (arith, ranks.0)))
      ∙ around n t (Unary op s t) rest rest (λ inner. Ok (found (Unary op s inner.tree) (suc inner.depth) inner.rest)) refl refl);
  grows = λ some j. absurd (head_joins heads j);
  dots = λ e. absurd (head_dots heads e);
}

bare_again : (level operand other : Level) (t : Expression) (ts : List Lexeme) → Heads level operand other → Spells other t ts → Reads other t ts → Goal level t ts
bare_again level operand other t ts heads d h = record {
  reads = reads_from level t ts (λ n rest lt.
      let ranks = head_rank heads in
      let less = head_entry heads in
      let start = begins d rest in
      heads_read heads n (ts ++ rest)
      ∙ ap (prefixed_on (read n operand) (read (suc n) other) (ts ++ rest)) (no_prefix level (ts ++ rest) (omega (arith, less, start)))
      ∙ h.by (suc n) rest (omega (arith, ranks.1)));
  grows = λ some j. absurd (head_joins heads j);
  dots = λ e. absurd (head_dots heads e);
}

-- ---- operands and operators

tighter : {level operand : Level} → Joins level operand → rank level < rank operand
tighter j = grind arith

same_operand : {level operand other : Level} → Joins level operand → Joins level other → operand ≡ other
same_operand implication implication = refl
same_operand disjunction disjunction = refl
same_operand conjunction conjunction = refl
same_operand comparison comparison = refl
same_operand sum sum = refl
same_operand term term = refl

ends : (turns : ℕ) (level : Level) (n : ℕ) (operand : Reader) (left : Found) → infix_at level left.tree left.rest ≡ None → more_at turns level n operand left ≡ Ok left
unfolding more_at
ends zero level n operand left e = rw e refl
ends (suc k) level n operand left e = rw e refl

settles : (level operand : Level) (t : Expression) (ts : List Lexeme) → Joins level operand → Grows level operand t ts → ReadsWithin level t ts
settles level operand t ts j g = reads_from level t ts (λ n rest lt.
    let more = tighter j in
    let h = g.by n rest (omega (arith, lt, more)) in
    h.same ∙ ap (λ (r : Read). cond (leb (depth t) (suc n)) r (Err Deep)) (ends h.turns level n (read n operand) (found t (depth t) rest) (no_infix level t rest lt)))

goal_chain : (level operand : Level) (t : Expression) (ts : List Lexeme) → Joins level operand → Grows level operand t ts → Goal level t ts
goal_chain level operand t ts j g = record {
  reads = settles level operand t ts j g;
  grows = λ other k. subst (λ (o : Level). Grows level o t ts) (same_operand j k) g;
  dots = λ e. absurd (join_dots j e);
}

first_grows : (level operand : Level) (t : Expression) (ts : List Lexeme) → Joins level operand → Reads operand t ts → Grows level operand t ts
first_grows level operand t ts j h = record {
  by = λ n rest lt. record {
    turns = suc n;
    enough = let p = depth_positive t in omega arith;
    same = chain_reads j n (ts ++ rest) ∙ ap (λ (r : Read). r >>= more_at (suc n) level n (read n operand)) (h.by (suc n) rest lt) ∙ bind_cond (leb (depth t) (suc n)) (found t (depth t) rest) (more_at (suc n) level n (read n operand));
  };
}

first_again : (level operand : Level) (t : Expression) (ts : List Lexeme) → Joins level operand → Reads operand t ts → Goal level t ts
first_again level operand t ts j h = goal_chain level operand t ts j (first_grows level operand t ts j h)

module _ (level operand : Level) (l : Kind) (op : Infix) (s : Span) (a b : Expression) (ys : List Lexeme) (e : infix_of level l ≡ Some op) (may : may_join op a ≡ true) (n : ℕ) (rest : List Lexeme) (right : read n operand (ys ++ rest) ≡ outcome n b rest) where
  at : infix_at level a (tok l s ∷ (ys ++ rest)) ≡ Some (op, ys ++ rest)
  at = rw (e, may) refl

  -- the loop, with `a` read
  so_far : ℕ → Read
  so_far k = more_at k level n (read n operand) (found a (depth a) (tok l s ∷ (ys ++ rest)))

  -- and with the whole
  then_on : ℕ → Read
  then_on k = more_at k level n (read n operand) (found (Binary op a b) (suc (max (depth a) (depth b))) rest)

  turned : (k : ℕ) → cond (leb (depth a) (suc n)) (so_far (suc k)) (Err Deep) ≡ cond (leb (suc (max (depth a) (depth b))) (suc n)) (then_on k) (Err Deep)
  unfolding so_far then_on more_at
  turned k =
      ap (λ (o : Option (Infix × List Lexeme)). cond (leb (depth a) (suc n)) (one_turn n (read n operand) (more_at k level n (read n operand)) (found a (depth a) (tok l s ∷ (ys ++ rest))) o) (Err Deep)) at
      ∙ pair n op (read n operand) (more_at k level n (read n operand)) a b (tok l s ∷ (ys ++ rest)) (ys ++ rest) rest right

  -- no turn is left
  lost : n < depth a → cond (leb (depth a) (suc n)) (so_far 0) (Err Deep) ≡ cond (leb (suc (max (depth a) (depth b))) (suc n)) (then_on (suc n)) (Err Deep)
  unfolding so_far more_at
  lost lt =
      ap (λ (o : Option (Infix × List Lexeme)). cond (leb (depth a) (suc n)) (no_turn (read n operand) (found a (depth a) (tok l s ∷ (ys ++ rest))) o) (Err Deep)) at
      ∙ ap (λ (r : Read). cond (leb (depth a) (suc n)) (r >>= λ f. Err Deep) (Err Deep)) right
      ∙ both (leb (depth a) (suc n)) (leb (depth b) n) ∙ sym (rw (lt-leb (suc (max (depth a) (depth b))) (suc n) (omega (arith, le-max_left (depth a) (depth b)))) refl)
    where
      both : (c d : Bool) → cond c (cond d (Ok (found b (depth b) rest)) (Err Deep) >>= λ f. too_deep) (Err Deep) ≡ Err Deep
      both true true = refl
      both true false = refl
      both false d = refl

  grown : (r : Read) (k : ℕ) → n < k + depth a → r ≡ cond (leb (depth a) (suc n)) (so_far k) (Err Deep)
      → (turns : ℕ) × (n < turns + suc (max (depth a) (depth b))) × (r ≡ cond (leb (suc (max (depth a) (depth b))) (suc n)) (then_on turns) (Err Deep))
  grown r zero lt h = (suc n, omega arith, h ∙ lost (omega arith))
  grown r (suc k) lt h = (k, omega (arith, le-max_left (depth a) (depth b)), h ∙ turned k)

next_grows : (level operand : Level) (l : Kind) (op : Infix) (s : Span) (a b : Expression) (xs ys : List Lexeme) → Joins level operand → infix_of level l ≡ Some op → may_join op a ≡ true → Grows level operand a xs → Reads operand b ys → Grows level operand (Binary op a b) (xs ++ tok l s ∷ ys)
unfolding so_far then_on
next_grows level operand l op s a b xs ys j e may da db = record {
  by = λ n rest lt.
      let heavy = operator_heft level l op e in
      let more = tighter j in
      let g = da.by n (tok l s ∷ (ys ++ rest)) (omega (arith, heavy, more)) in
      let h = grown level operand l op s a b ys e may n rest (db.by n rest lt) (read (suc n) level (xs ++ tok l s ∷ (ys ++ rest))) g.turns g.enough g.same in
      record {
        turns = h.0;
        enough = h.1;
        same = ap (read (suc n) level) (append_assoc xs (tok l s ∷ ys) rest) ∙ h.2;
      };
}

-- ---- choice

over_limit : (n : ℕ) (c a b : Expression) (rest : List Lexeme) (s : Span) → n < max (depth c) (max (depth a) (depth b)) → too_deep ≡ outcome (suc n) (If s c a b) rest
over_limit n c a b rest s lt = sym (beyond (suc n) (If s c a b) rest (omega arith))

branches_again : (i t e : Span) (c a b : Expression) (xs ys zs : List Lexeme) → Reads Whole c xs → Reads Whole a ys → Reads Else b zs → (n : ℕ) (rest : List Lexeme) → weight rest < 3
    → branches_at (read n Whole) (read n Else) i (xs ++ tok (Keyword words.Then) t ∷ (ys ++ tok (Keyword words.Else) e ∷ (zs ++ rest))) ≡ outcome (suc n) (If i c a b) rest
unfolding branches_at
branches_again i t e c a b xs ys zs hc ha hb n rest lt =
    let target = outcome (suc n) (If i c a b) rest in
    let ts3 = zs ++ rest in
    let ts2 = ys ++ tok (Keyword words.Else) e ∷ ts3 in
    let third : Found → Found → Found → Read = λ f g h. Ok (found (If i f.tree g.tree h.tree) (suc (max f.depth (max g.depth h.depth))) h.rest) in
    let second : Found → Found → Read = λ f g. expect (Keyword words.Else) g.rest >>= λ v. read n Else v >>= third f g in
    let first_part : Found → Read = λ f. expect (Keyword words.Then) f.rest >>= λ u. read n Whole u >>= second f in
    let left_c : n < depth c → too_deep ≡ target = λ far. over_limit n c a b rest i (omega (arith, le-max_left (depth c) (max (depth a) (depth b)))) in
    let left_a : n < depth a → too_deep ≡ target = λ far. over_limit n c a b rest i (omega (arith, le-max_right (depth c) (max (depth a) (depth b)), le-max_left (depth a) (depth b))) in
    let left_b : n < depth b → too_deep ≡ target = λ far. over_limit n c a b rest i (omega (arith, le-max_right (depth c) (max (depth a) (depth b)), le-max_right (depth a) (depth b))) in
    let fc = found c (depth c) (tok (Keyword words.Then) t ∷ ts2) in
    let fa = found a (depth a) (tok (Keyword words.Else) e ∷ ts3) in
    ap (λ (r : Read). r >>= first_part) (hc.by n (tok (Keyword words.Then) t ∷ ts2) (omega arith))
    ∙ over (depth c) n fc first_part target left_c (λ near_c.
    ap (λ (r : Read). r >>= second fc) (ha.by n (tok (Keyword words.Else) e ∷ ts3) (omega arith))
    ∙ over (depth a) n fa (second fc) target left_a (λ near_a.
    ap (λ (r : Read). r >>= third fc fa) (hb.by n rest lt)
    ∙ over (depth b) n (found b (depth b) rest) (third fc fa) target left_b (λ near_b. sym (within (suc n) (If i c a b) rest (omega (arith, max-le near_c (max-le near_a near_b)))))))

choice_again : (i t e : Span) (c a b : Expression) (xs ys zs : List Lexeme) → Reads Whole c xs → Reads Whole a ys → Reads Else b zs → Goal Choice (If i c a b) (tok (Keyword words.If) i ∷ (xs ++ tok (Keyword words.Then) t ∷ (ys ++ tok (Keyword words.Else) e ∷ zs)))
unfolding read read_choice choice_at
choice_again i t e c a b xs ys zs hc ha hb =
    goal_plain Choice (If i c a b) (tok (Keyword words.If) i ∷ (xs ++ tok (Keyword words.Then) t ∷ (ys ++ tok (Keyword words.Else) e ∷ zs))) refl (reads_from Choice (If i c a b) (tok (Keyword words.If) i ∷ (xs ++ tok (Keyword words.Then) t ∷ (ys ++ tok (Keyword words.Else) e ∷ zs))) (λ n rest lt.
    ap (branches_at (read n Whole) (read n Else) i) (append_assoc xs (tok (Keyword words.Then) t ∷ (ys ++ tok (Keyword words.Else) e ∷ zs)) rest
    ∙ ap (λ (u : List Lexeme). xs ++ tok (Keyword words.Then) t ∷ u) (append_assoc ys (tok (Keyword words.Else) e ∷ zs) rest))
    ∙ branches_again i t e c a b xs ys zs hc ha hb n rest lt))

-- a choice begins with `if`
begins_if : {t : Expression} {ts : List Lexeme} → Spells Choice t ts → (rest : List Lexeme) → (x : Span × List Lexeme) × (front (Keyword words.If) (ts ++ rest) ≡ Some x)
begins_if (choice i t l {c} {a} {b} {xs} {ys} {zs} d e f) rest = ((i, (xs ++ tok (Keyword words.Then) t ∷ (ys ++ tok (Keyword words.Else) l ∷ zs)) ++ rest), refl)
begins_if (prefixed l op s h at d) rest = elim h [ ]
begins_if (bare h d) rest = elim h [ ]
begins_if (first j d) rest = elim j [ ]
begins_if (next l op s j at may d e) rest = elim j [ ]

else_is_choice : (n : ℕ) (ts : List Lexeme) (x : Span × List Lexeme) → front (Keyword words.If) ts ≡ Some x → read (suc n) Else ts ≡ read (suc n) Choice ts
unfolding read read_else read_choice choice_at
else_is_choice n ts x e = rw e refl

arrow_is_choice : (n : ℕ) (ts : List Lexeme) (x : Span × List Lexeme) → front (Keyword words.If) ts ≡ Some x → read (suc n) Arrow ts ≡ read (suc n) Choice ts
unfolding read read_arrow read_choice choice_at
arrow_is_choice n ts x e = rw e refl

else_is_value : (n : ℕ) (ts : List Lexeme) → front (Keyword words.If) ts ≡ None → read (suc n) Else ts ≡ read (suc n) Implication ts
unfolding read read_else choice_at
else_is_value n ts e = rw e refl

arrow_is_value : (n : ℕ) (ts : List Lexeme) → front (Keyword words.If) ts ≡ None → read (suc n) Arrow ts ≡ (read (suc n) Implication ts >>= λ left. arrow_on n (read n Arrow) left (front (Sign symbols.Arrow) left.rest))
unfolding read read_arrow choice_at arrow_at
arrow_is_value n ts e = rw e refl

else_choice_again : (t : Expression) (ts : List Lexeme) → Spells Choice t ts → Reads Choice t ts → ReadsWithin Else t ts
else_choice_again t ts d h = reads_from Else t ts (λ n rest lt. let b = begins_if d rest in else_is_choice n (ts ++ rest) b.0 b.1 ∙ h.by (suc n) rest lt)

else_value_again : (t : Expression) (ts : List Lexeme) → Spells Implication t ts → Reads Implication t ts → ReadsWithin Else t ts
else_value_again t ts d h = reads_from Else t ts (λ n rest lt. else_is_value n (ts ++ rest) (no_if (ts ++ rest) (begins d rest)) ∙ h.by (suc n) rest lt)

-- ---- arrow

arrow_choice_again : (t : Expression) (ts : List Lexeme) → Spells Choice t ts → Reads Choice t ts → ReadsWithin Arrow t ts
arrow_choice_again t ts d h = reads_from Arrow t ts (λ n rest lt. let b = begins_if d rest in arrow_is_choice n (ts ++ rest) b.0 b.1 ∙ h.by (suc n) rest (omega (arith, lt)))

arrow_step : ℕ → Found → Read
arrow_step n left = arrow_on n (read n Arrow) left (front (Sign symbols.Arrow) left.rest)

arrow_value_again : (t : Expression) (ts : List Lexeme) → Spells Implication t ts → Reads Implication t ts → ReadsWithin Arrow t ts
unfolding arrow_step
arrow_value_again t ts d h = reads_from Arrow t ts (λ n rest lt.
    arrow_is_value n (ts ++ rest) (no_if (ts ++ rest) (begins d rest))
    ∙ ap (λ (r : Read). r >>= arrow_step n) (h.by (suc n) rest (omega (arith, lt)))
    ∙ keeps (suc n) t rest (arrow_step n) (ap (arrow_on n (read n Arrow) (found t (depth t) rest)) (no_light (Sign symbols.Arrow) rest lt)))

abbrev keep : Found → Read
keep f = Ok f

arrow_again : (s : Span) (a b : Expression) (xs ys : List Lexeme) → Spells Implication a xs → Reads Implication a xs → Reads Arrow b ys → ReadsWithin Arrow (Binary operators.Arrow a b) (xs ++ tok (Sign symbols.Arrow) s ∷ ys)
unfolding arrow_step
arrow_again s a b xs ys d ha hb = reads_from Arrow (Binary operators.Arrow a b) (xs ++ tok (Sign symbols.Arrow) s ∷ ys) (λ n rest lt.
    let after = tok (Sign symbols.Arrow) s ∷ (ys ++ rest) in
    ap (read (suc n) Arrow) (append_assoc xs (tok (Sign symbols.Arrow) s ∷ ys) rest)
    ∙ arrow_is_value n (xs ++ after) (no_if (xs ++ after) (begins d after))
    ∙ ap (λ (r : Read). r >>= arrow_step n) (ha.by (suc n) after (omega arith))
    ∙ bind_cond (leb (depth a) (suc n)) (found a (depth a) after) (arrow_step n)
    ∙ pair n operators.Arrow (read n Arrow) keep a b after (ys ++ rest) rest (hb.by n rest lt))

-- ---- whole

whole_step : ℕ → Found → Read
whole_step n left = fby_on n (read n Primary) left (front (Keyword words.Fby) left.rest)

whole_is : (n : ℕ) (ts : List Lexeme) → read (suc n) Whole ts ≡ (read (suc n) Arrow ts >>= whole_step n)
unfolding read read_whole whole_at whole_step
whole_is n ts = refl

whole_again : (t : Expression) (ts : List Lexeme) → Reads Arrow t ts → ReadsWithin Whole t ts
unfolding whole_step
whole_again t ts h = reads_from Whole t ts (λ n rest lt.
    whole_is n (ts ++ rest)
    ∙ ap (λ (r : Read). r >>= whole_step n) (h.by (suc n) rest (omega (arith, lt)))
    ∙ keeps (suc n) t rest (whole_step n) (ap (fby_on n (read n Primary) (found t (depth t) rest)) (no_light (Keyword words.Fby) rest lt) ∙ ap (when_on n (found t (depth t) rest)) (no_light (Keyword words.When) rest lt)))

-- a primary may stand in an arrow's place
climb : (t : Expression) (ts : List Lexeme) → Spells Primary t ts → Reads Primary t ts → ReadsWithin Arrow t ts
climb t ts d h =
    let d1 : Spells Signed t ts = bare signed d in
    let d2 : Spells Term t ts = first term d1 in
    let d3 : Spells Sum t ts = first sum d2 in
    let d4 : Spells Comparison t ts = first comparison d3 in
    let d5 : Spells Negation t ts = bare negation d4 in
    let d6 : Spells Conjunction t ts = first conjunction d5 in
    let d7 : Spells Disjunction t ts = first disjunction d6 in
    let d8 : Spells Implication t ts = first implication d7 in
    let h1 = reads_of d1 (bare_again Signed Signed Primary t ts signed d h).reads in
    let h2 = reads_of d2 (first_again Term Signed t ts term h1).reads in
    let h3 = reads_of d3 (first_again Sum Term t ts sum h2).reads in
    let h4 = reads_of d4 (first_again Comparison Sum t ts comparison h3).reads in
    let h5 = reads_of d5 (bare_again Negation Negated Comparison t ts negation d4 h4).reads in
    let h6 = reads_of d6 (first_again Conjunction Negation t ts conjunction h5).reads in
    let h7 = reads_of d7 (first_again Disjunction Conjunction t ts disjunction h6).reads in
    let h8 = reads_of d8 (first_again Implication Disjunction t ts implication h7).reads in
    arrow_value_again t ts d8 h8

loose_head : {level operand other : Level} → Heads level operand other → 4 ≤ entry level → ⊥
loose_head h le = grind arith

loose_join : {level operand : Level} → Joins level operand → 4 ≤ entry level → ⊥
loose_join j le = grind arith

-- what is spelled as a primary or tighter looks like one
primary_shape : {level : Level} {t : Expression} {ts : List Lexeme} → Spells level t ts → 4 ≤ entry level → is_primary t ≡ true
primary_shape (undotted d) le = primary_shape d le
primary_shape (primary d) le = primary_shape d (omega arith)
primary_shape (prefixed l op s h at d) le = absurd (loose_head h le)
primary_shape (bare h d) le = absurd (loose_head h le)
primary_shape (first j d) le = absurd (loose_join j le)
primary_shape (next l op s j at may d e) le = absurd (loose_join j le)
primary_shape _ le = grind arith

fby_again : (s : Span) (a b : Expression) (xs ys : List Lexeme) → Spells Primary a xs → Reads Primary a xs → Reads Primary b ys → ReadsWithin Whole (Binary operators.Fby a b) (xs ++ tok (Keyword words.Fby) s ∷ ys)
unfolding whole_step
fby_again s a b xs ys d ha hb = reads_from Whole (Binary operators.Fby a b) (xs ++ tok (Keyword words.Fby) s ∷ ys) (λ n rest lt.
    let after = tok (Keyword words.Fby) s ∷ (ys ++ rest) in
    let two : Read = two_on n operators.Fby (read n Primary) keep (found a (depth a) after) (ys ++ rest) in
    let up = (climb a xs d ha).by n after (omega arith) in
    ap (read (suc n) Whole) (append_assoc xs (tok (Keyword words.Fby) s ∷ ys) rest)
    ∙ whole_is n (xs ++ after)
    ∙ ap (λ (r : Read). r >>= whole_step n) up
    ∙ bind_cond (leb (depth a) (suc n)) (found a (depth a) after) (whole_step n)
    ∙ ap (λ (p : Bool). cond (leb (depth a) (suc n)) (cond p two (Err Syntax)) (Err Deep)) (primary_shape d (omega arith))
    ∙ pair n operators.Fby (read n Primary) keep a b after (ys ++ rest) rest (hb.by n rest (omega (arith, lt))))

pub test_again : {c : Test} {ys : List Lexeme} → SpellsTest c ys → (rest : List Lexeme) → weight rest < 1 → test_at (ys ++ rest) ≡ Ok (c, rest)
unfolding test_at label_at identifier_at closed_name_at
test_again (holds n) rest lt = rw (no_light (Sign symbols.Open) rest (omega (arith, lt))) refl
test_again (labelled (Boolean true s) o c n) rest lt = refl
test_again (labelled (Boolean false s) o c n) rest lt = refl
test_again _ rest lt = refl

both_gone : (b : Bool) → cond b too_deep (Err Deep) ≡ Err Deep
both_gone true = refl
both_gone false = refl

when_cases : (n : ℕ) (a : Expression) (c : Test) (rest : List Lexeme) → cond (leb (depth a) (suc n)) (sampled n a (depth a) c rest) (Err Deep) ≡ outcome (suc n) (When a c) rest
when_cases n a c rest = elim (cases_lt n (depth a)) [
  | inl far ↦ rw (lt-ltb n (depth a) far) (both_gone (leb (depth a) (suc n)) ∙ sym (beyond (suc n) (When a c) rest (omega (arith, far))))
  | inr le ↦ rw (le-ltb n (depth a) le, le-leb (depth a) (suc n) (omega (arith, le))) (sym (within (suc n) (When a c) rest (omega (arith, le))))
]

when_again : (s : Span) (a : Expression) (c : Test) (xs ys : List Lexeme) → Spells Primary a xs → Reads Primary a xs → SpellsTest c ys → ReadsWithin Whole (When a c) (xs ++ tok (Keyword words.When) s ∷ ys)
unfolding whole_step
when_again s a c xs ys d ha dc = reads_from Whole (When a c) (xs ++ tok (Keyword words.When) s ∷ ys) (λ n rest lt.
    let after = tok (Keyword words.When) s ∷ (ys ++ rest) in
    let left = found a (depth a) after in
    let step : Test × List Lexeme → Read = λ x. sampled n a (depth a) x.0 x.1 in
    let up = (climb a xs d ha).by n after (omega arith) in
    ap (read (suc n) Whole) (append_assoc xs (tok (Keyword words.When) s ∷ ys) rest)
    ∙ whole_is n (xs ++ after)
    ∙ ap (λ (r : Read). r >>= whole_step n) up
    ∙ bind_cond (leb (depth a) (suc n)) left (whole_step n)
    ∙ ap (λ (p : Bool). cond (leb (depth a) (suc n)) (cond p (test_at (ys ++ rest) >>= step) (Err Syntax)) (Err Deep)) (primary_shape d (omega arith))
    ∙ ap (λ (r : Result (Test × List Lexeme) Fault). cond (leb (depth a) (suc n)) (r >>= step) (Err Deep)) (test_again dc rest lt)
    ∙ when_cases n a c rest)

-- ---- all of it

mutual
  unfolding read read_atom atom_at plain_at name_at operands_at

  goal_of : {level : Level} {t : Expression} {ts : List Lexeme} → Spells level t ts → Goal level t ts
  goal_of (number k s) = goal_atom (Numeral k s) (tok (Number k) s ∷ []) (λ n rest lt. sym (within (suc n) (Numeral k s) rest (omega arith)))
  goal_of (truth s) = goal_atom (Truth true s) (tok (Keyword words.True) s ∷ []) (λ n rest lt. sym (within (suc n) (Truth true s) rest (omega arith)))
  goal_of (falsity s) = goal_atom (Truth false s) (tok (Keyword words.False) s ∷ []) (λ n rest lt. sym (within (suc n) (Truth false s) rest (omega arith)))
  goal_of (name k) = goal_atom (Name k) (ident k ∷ []) (λ n rest lt. rw (no_light (Sign symbols.Open) rest lt, no_light (Sign symbols.OpenBrace) rest lt) (sym (within (suc n) (Name k) rest (omega arith))))
  goal_of (call_empty k o e) = goal_atom (Call k End) (ident k ∷ tok (Sign symbols.Open) o ∷ tok (Sign symbols.Close) e ∷ []) (λ n rest lt. sym (within (suc n) (Call k End) rest (omega arith)))
  goal_of (call m o {us} {ts} d) = goal_atom (Call m us) (ident m ∷ tok (Sign symbols.Open) o ∷ ts) (λ n rest lt. rw (no_close d rest) (listed_again (Call m) forms.Call us ts refl (all_of d) n rest lt))
  goal_of (structure m o {us} {ts} d) = goal_atom (Structure m us) (ident m ∷ tok (Sign symbols.OpenBrace) o ∷ ts) (λ n rest lt. listed_again (Structure m) forms.Structure us ts refl (all_of d) n rest lt)
  goal_of (variadic l op s o {us} {ts} at d) = goal_atom (Variadic op s us) (tok l s ∷ tok (Sign symbols.Open) o ∷ ts) (λ n rest lt. rw at (listed_again (Variadic op s) forms.Call us ts refl (all_of d) n rest lt))
  goal_of (undotted {t} {ts} d) = goal_dots t ts (dots_first t ts (reads_of d (goal_of d).reads))
  goal_of (dotted s x {t} {ts} d) = goal_dots (Field t x) (ts ++ tok (Sign symbols.Dot) s ∷ ident x ∷ []) (dots_next t ts s x ((goal_of d).dots is_dotted))
  goal_of (primary {t} {ts} d) = primary_again t ts d (reads_of d (goal_of d).reads)
  goal_of (merge s n {us} {ts} d) = merge_again s n us ts (all_of d)
  goal_of (when s {a} {c} {xs} {ys} d dc) = goal_plain Whole (When a c) (xs ++ tok (Keyword words.When) s ∷ ys) refl (when_again s a c xs ys d (reads_of d (goal_of d).reads) dc)
  goal_of (parentheses s e {t} {ts} d) = parentheses_again s e t ts (reads_of d (goal_of d).reads)
  goal_of (prefixed {level} {operand} {other} l op s {t} {ts} h at d) = prefixed_again level operand other l op s t ts h at (reads_of d (goal_of d).reads)
  goal_of (bare {level} {operand} {other} {t} {ts} h d) = bare_again level operand other t ts h d (reads_of d (goal_of d).reads)
  goal_of (first {level} {operand} {t} {ts} j d) = first_again level operand t ts j (reads_of d (goal_of d).reads)
  goal_of (next {level} {operand} l op s {a} {b} {xs} {ys} j e may da db) =
      goal_chain level operand (Binary op a b) (xs ++ tok l s ∷ ys) j (next_grows level operand l op s a b xs ys j e may ((goal_of da).grows operand j) (reads_of db (goal_of db).reads))
  goal_of (choice i t e {c} {a} {b} {xs} {ys} {zs} dc da db) = choice_again i t e c a b xs ys zs (reads_of dc (goal_of dc).reads) (reads_of da (goal_of da).reads) (reads_of db (goal_of db).reads)
  goal_of (else_choice {t} {ts} d) = goal_plain Else t ts refl (else_choice_again t ts d (reads_of d (goal_of d).reads))
  goal_of (else_value {t} {ts} d) = goal_plain Else t ts refl (else_value_again t ts d (reads_of d (goal_of d).reads))
  goal_of (arrow_choice {t} {ts} d) = goal_plain Arrow t ts refl (arrow_choice_again t ts d (reads_of d (goal_of d).reads))
  goal_of (arrow_value {t} {ts} d) = goal_plain Arrow t ts refl (arrow_value_again t ts d (reads_of d (goal_of d).reads))
  goal_of (arrow s {a} {b} {xs} {ys} da db) = goal_plain Arrow (Binary operators.Arrow a b) (xs ++ tok (Sign symbols.Arrow) s ∷ ys) refl (arrow_again s a b xs ys da (reads_of da (goal_of da).reads) (reads_of db (goal_of db).reads))
  goal_of (whole {t} {ts} d) = goal_plain Whole t ts refl (whole_again t ts (reads_of d (goal_of d).reads))
  goal_of (fby s {a} {b} {xs} {ys} da db) = goal_plain Whole (Binary operators.Fby a b) (xs ++ tok (Keyword words.Fby) s ∷ ys) refl (fby_again s a b xs ys da (reads_of da (goal_of da).reads) (reads_of db (goal_of db).reads))

  all_of : {form : Form} {us : Parts} {ts : List Lexeme} → SpellsAll form us ts → ReadsAll form us ts
  all_of (final {form} {l} {t} {xs} {es} p c) = final_again form l t xs es (part_long p) (part_of p) c
  all_of (further {form} {l} {t} {us} {xs} {ss} {ys} p s d) = further_again form l t us xs ss ys (part_long p) (part_of p) s (all_starts d) (all_of d)

  part_of : {form : Form} {l : Lead} {t : Expression} {xs : List Lexeme} → SpellsPart form l t xs → ReadsPart form l t xs
  part_of (argument {t} {ts} d) = argument_again t ts (reads_of d (goal_of d).reads)
  part_of (init x e {t} {ts} d) = init_again x e t ts (reads_of d (goal_of d).reads)
  part_of (branch l o a c {t} {ts} d) = branch_again l o a c t ts (reads_of d (goal_of d).reads)

-- what is spelled is read, whatever follows that doesn't go on with it
pub complete : {level : Level} {t : Expression} {ts : List Lexeme} → Spells level t ts → (n : ℕ) (rest : List Lexeme) → weight rest < rank level → read n level (ts ++ rest) ≡ outcome n t rest
complete d = (reads_of d (goal_of d).reads).by
