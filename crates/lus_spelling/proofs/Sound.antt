-- What is read is spelled so.
use Rattle.std.proofs.Common.{◌≡◌, ℕ, zero, suc, ◌+◌, ◌≤◌, max, Bool, true, false, cond, ltb, leb, length, List, [], ◌∷◌, ◌++◌, Option, Some, None, Result, Ok, Err, refl, sym, ap, subst, ◌∙◌, append_assoc, arith}
use Rattle.std.proofs.lemmas.Bool.{ltb-false}
use Rattle.std.proofs.Math.Nat.{max-le}
use denote.Enum.Bare.{same_true}
use Rattle.lus_syntax.specs.declared.token.Span.{Span}
use Rattle.lus_syntax.specs.contracts.token.Symbol.{the_type as symbol_type}
use Rattle.lus_syntax.specs.contracts.token.Word.{the_type as word_type}
use Rattle.lus_syntax.specs.declared.token.Symbol.TheVariants as symbols
use Rattle.lus_syntax.specs.declared.token.Word.{Word}
use Rattle.lus_syntax.specs.declared.token.Word.TheVariants as words
use Rattle.lus_syntax.specs.declared.tree.Infix.{Infix}
use Rattle.lus_syntax.specs.declared.tree.Infix.TheVariants as operators
use Rattle.lus_syntax.specs.declared.tree.ListOperator.{ListOperator}
use Rattle.lus_syntax.specs.declared.tree.Prefix.{Prefix}
use Rattle.lus_spelling.specs.declared.form.Form.{Form}
use Rattle.lus_spelling.specs.declared.form.Form.TheVariants as forms
use Rattle.lus_syntax.specs.Lexemes.{Kind, Identifier, Number, Sign, Keyword, Lexeme, tok}
use Rattle.lus_syntax.specs.Trees.{Named, named, Label, Constructor, Boolean, Test, Holds, Fails, Is, Lead, Plain, Of, Branch, Expression, Numeral, Truth, Name, Call, Structure, Merge, Variadic, Field, Parentheses, When, Unary, Binary, If, Parts, End, parts_of}
use Rattle.lus_spelling.specs.Expressions.{ident, label, depth, deepest, Level, Whole, Arrow, Else, Choice, Implication, Disjunction, Conjunction, Negation, Negated, Comparison, Sum, Term, Signed, Primary, Dotted, Atom, infix_of, may_join, prefix_of, list_operator_of, Joins, implication, disjunction, conjunction, comparison, sum, term, Heads, negation, negated, signed, Spells, SpellsAll, SpellsPart, SpellsTest, Separates, Closes, holds, fails, fails_in, labelled, comma, semicolon, unparted, closed, braced, late, unclosed, number, truth, falsity, name, call_empty, call, structure, variadic, parentheses, undotted, dotted, primary, merge, prefixed, bare, first, next, choice, else_choice, else_value, arrow_choice, arrow_value, arrow, whole, fby, when, final, further, argument, init, branch}
use Rattle.lus_spelling.specs.Reading.{Fault, Syntax, Deep, Found, found, Read, Reader, ◌>>=◌, is_lexeme, front, expected, expect, named_on, identifier_at, label_on, label_at, closed_name_at, denied, tested, test_on, test_at, after_argument, after_semicolon, after_init, after_branch, turn_at, Item, item, lead_on, lead_at, tail_at, part_at, Several, onward, parts_at, listed_at, after_open, parentheses_on, parentheses_at, truth_on, call_on, brace_on, name_on, name_at, with_operator, list_operator_at, operands_on, operands_at, atom_on, plain_at, atom_or, atom_at, no_dot, one_dot, dots_at, dotted_at, merge_on, primary_at, with_operand, prefix_at, prefixed_on, prefixed_at, join, two_on, allowed, infix_at, no_turn, one_turn, more_at, chain_at, branches_at, choice_on, choice_at, arrow_on, arrow_at, is_primary, when_on, fby_on, whole_at, refuse, read_atom, read_dotted, read_primary, read_signed, read_term, read_sum, read_comparison, read_negated, read_negation, read_conjunction, read_disjunction, read_implication, read_choice, read_else, read_arrow, read_whole, read, opening, entry, sampled as sampled_by}

-- ---- steps that may fail

pub bind_ok : {A B : Type 0} (r : Result A Fault) (f : A → Result B Fault) (y : B) → (r >>= f) ≡ Ok y → (x : A) × (r ≡ Ok x) × (f x ≡ Ok y)
bind_ok (Ok x) f y e = (x, refl, e)
bind_ok (Err d) f y e = absurd cc

pub bind_cond : {A B : Type 0} (b : Bool) (x : A) (f : A → Result B Fault) → (cond b (Ok x) (Err Deep) >>= f) ≡ cond b (f x) (Err Deep)
bind_cond true x f = refl
bind_cond false x f = refl

abbrev pub done : {A : Type 0} → A → Result A Fault
done x = Ok x

pub same_result : {A : Type 0} (x y : A) → done x ≡ done y → x ≡ y
same_result x y e = cc

guard_ok : {A : Type 0} (b : Bool) (r : Result A Fault) (y : A) → cond b (Err Deep) r ≡ Ok y → (b ≡ false) × (r ≡ Ok y)
guard_ok true r y e = absurd cc
guard_ok false r y e = (refl, e)

abbrev failed : Fault → Read
failed f = Err f

never_found : (f : Found) → failed Deep ≡ Ok f → ⊥
never_found f e = cc

never_begun : (b : Bool) (f : Found) → cond b (failed Deep) (failed Syntax) ≡ Ok f → ⊥
never_begun true f e = cc
never_begun false f e = cc

-- ---- tokens at the front

is_lexeme-true : (l m : Kind) → is_lexeme l m ≡ true → m ≡ l
is_lexeme-true (Sign c) (Sign d) e = ap Sign (same_true symbol_type tt d c e)
is_lexeme-true (Keyword c) (Keyword d) e = ap Keyword (same_true word_type tt d c e)
is_lexeme-true _ _ e = absurd cc

some_if : {A : Type 0} (b : Bool) (x y : A) → cond b (Some x) None ≡ Some y → (b ≡ true) × (x ≡ y)
some_if true x y e = (refl, cc)
some_if false x y e = absurd cc

pub front_is : (l : Kind) (ts : List Lexeme) (x : Span × List Lexeme) → front l ts ≡ Some x → ts ≡ tok l x.0 ∷ x.1
front_is l [] x e = absurd cc
front_is l (t ∷ ts) x e =
    let h = some_if (is_lexeme l t.kind) (t.span, ts) x e in
    subst (λ (y : Span × List Lexeme). t ∷ ts ≡ tok l y.0 ∷ y.1) h.1 (ap (λ (m : Kind). tok m t.span ∷ ts) (is_lexeme-true l t.kind h.0))

expected_is : (l : Kind) (ts : List Lexeme) (rest : List Lexeme) (o : Option (Span × List Lexeme)) → front l ts ≡ o → expected o ≡ Ok rest → (s : Span) × (ts ≡ tok l s ∷ rest)
expected_is l ts rest None at e = absurd cc
expected_is l ts rest (Some x) at e = (x.0, subst (λ (r : List Lexeme). ts ≡ tok l x.0 ∷ r) (same_result x.1 rest e) (front_is l ts x at))

pub expect_is : (l : Kind) (ts : List Lexeme) (rest : List Lexeme) → expect l ts ≡ Ok rest → (s : Span) × (ts ≡ tok l s ∷ rest)
expect_is l ts rest e = expected_is l ts rest (front l ts) refl e

pub prefix_is : (level : Level) (ts : List Lexeme) (x : Prefix × Span × List Lexeme) → prefix_at level ts ≡ Some x → (l : Kind) × (prefix_of level l ≡ Some x.0) × (ts ≡ tok l x.1 ∷ x.2)
prefix_is level [] x e = absurd cc
prefix_is level (t ∷ ts) x e = go (prefix_of level t.kind) refl e
  where
    go : (o : Option Prefix) → prefix_of level t.kind ≡ o → with_operand t ts o ≡ Some x → (l : Kind) × (prefix_of level l ≡ Some x.0) × (t ∷ ts ≡ tok l x.1 ∷ x.2)
    go None at h = absurd cc
    go (Some op) at h = let k : (op, t.span, ts) ≡ x = cc in subst (λ (y : Prefix × Span × List Lexeme). (l : Kind) × (prefix_of level l ≡ Some y.0) × (t ∷ ts ≡ tok l y.1 ∷ y.2)) k (t.kind, at, refl)

pub list_operator_is : (ts : List Lexeme) (x : ListOperator × Span × List Lexeme) → list_operator_at ts ≡ Some x → (l : Kind) × (list_operator_of l ≡ Some x.0) × (ts ≡ tok l x.1 ∷ x.2)
list_operator_is [] x e = absurd cc
list_operator_is (t ∷ ts) x e = go (list_operator_of t.kind) refl e
  where
    go : (o : Option ListOperator) → list_operator_of t.kind ≡ o → with_operator t ts o ≡ Some x → (l : Kind) × (list_operator_of l ≡ Some x.0) × (t ∷ ts ≡ tok l x.1 ∷ x.2)
    go None at h = absurd cc
    go (Some op) at h = let k : (op, t.span, ts) ≡ x = cc in subst (λ (y : ListOperator × Span × List Lexeme). (l : Kind) × (list_operator_of l ≡ Some y.0) × (t ∷ ts ≡ tok l y.1 ∷ y.2)) k (t.kind, at, refl)

pub infix_is : (level : Level) (left : Expression) (ts : List Lexeme) (x : Infix × List Lexeme) → infix_at level left ts ≡ Some x → (l : Kind) × (s : Span) × (infix_of level l ≡ Some x.0) × (may_join x.0 left ≡ true) × (ts ≡ tok l s ∷ x.1)
infix_is level left [] x e = absurd cc
infix_is level left (t ∷ ts) x e = go (infix_of level t.kind) refl e
  where
    go : (o : Option Infix) → infix_of level t.kind ≡ o → allowed left ts o ≡ Some x → (l : Kind) × (s : Span) × (infix_of level l ≡ Some x.0) × (may_join x.0 left ≡ true) × (t ∷ ts ≡ tok l s ∷ x.1)
    go None at h = absurd cc
    go (Some op) at h =
        let k = some_if (may_join op left) (op, ts) x h in
        subst (λ (y : Infix × List Lexeme). (l : Kind) × (s : Span) × (infix_of level l ≡ Some y.0) × (may_join y.0 left ≡ true) × (t ∷ ts ≡ tok l s ∷ y.1)) k.1 (t.kind, t.span, at, k.0, refl)

-- ---- names, labels and tests

named_is : (s : Span) (k : Kind) (ts : List Lexeme) (x : Named × List Lexeme) → named_on s k ts ≡ Ok x → tok k s ∷ ts ≡ ident x.0 ∷ x.1
named_is s (Identifier n) ts x e = ap (λ (y : Named × List Lexeme). ident y.0 ∷ y.1) (same_result (named n s, ts) x e)
named_is s _ ts x e = absurd cc

pub ident_is : (ts : List Lexeme) (x : Named × List Lexeme) → identifier_at ts ≡ Ok x → ts ≡ ident x.0 ∷ x.1
unfolding identifier_at
ident_is [] x e = absurd cc
ident_is (t ∷ ts) x e = named_is t.span t.kind ts x e

labelled_is : (s : Span) (k : Kind) (ts : List Lexeme) (x : Label × List Lexeme) → label_on s k ts ≡ Ok x → tok k s ∷ ts ≡ label x.0 ∷ x.1
labelled_is s (Identifier n) ts x e = ap (λ (y : Label × List Lexeme). label y.0 ∷ y.1) (same_result (Constructor (named n s), ts) x e)
labelled_is s (Keyword words.True) ts x e = ap (λ (y : Label × List Lexeme). label y.0 ∷ y.1) (same_result (Boolean true s, ts) x e)
labelled_is s (Keyword words.False) ts x e = ap (λ (y : Label × List Lexeme). label y.0 ∷ y.1) (same_result (Boolean false s, ts) x e)
labelled_is s _ ts x e = absurd cc

pub label_is : (ts : List Lexeme) (x : Label × List Lexeme) → label_at ts ≡ Ok x → ts ≡ label x.0 ∷ x.1
unfolding label_at
label_is [] x e = absurd cc
label_is (t ∷ ts) x e = labelled_is t.span t.kind ts x e

closed_name_is : (ts : List Lexeme) (x : Named × List Lexeme) → closed_name_at ts ≡ Ok x → (c : Span) × (ts ≡ ident x.0 ∷ tok (Sign symbols.Close) c ∷ x.1)
unfolding closed_name_at
closed_name_is ts x e =
    let b = bind_ok (identifier_at ts) (λ y. expect (Sign symbols.Close) y.1 >>= λ r. Ok (y.0, r)) x e in
    let d = bind_ok (expect (Sign symbols.Close) b.0.1) (λ r. Ok (b.0.0, r)) x b.2 in
    let q = expect_is (Sign symbols.Close) b.0.1 d.0 d.1 in
    (q.0, ident_is ts b.0 b.1 ∙ ap (λ (r : List Lexeme). ident b.0.0 ∷ r) q.1 ∙ ap (λ (y : Named × List Lexeme). ident y.0 ∷ tok (Sign symbols.Close) q.0 ∷ y.1) (same_result (b.0.0, d.0) x d.2))

abbrev TestText : List Lexeme → Test × List Lexeme → Type 0
TestText ts x = (text : List Lexeme) × (ts ≡ text ++ x.1) × SpellsTest x.0 text

denied_is : (ts us : List Lexeme) (s : Span) (x : Test × List Lexeme) (o : Option (Span × List Lexeme)) → ts ≡ tok (Keyword words.Not) s ∷ us → front (Sign symbols.Open) us ≡ o → denied s us o ≡ Ok x → TestText ts x
denied_is ts us s x None at opened e =
    let b = bind_ok (identifier_at us) (λ y. Ok (Fails s y.0, y.1)) x e in
    subst (TestText ts) (same_result (Fails s b.0.0, b.0.1) x b.2) (tok (Keyword words.Not) s ∷ ident b.0.0 ∷ [], at ∙ ap (λ (r : List Lexeme). tok (Keyword words.Not) s ∷ r) (ident_is us b.0 b.1), fails s b.0.0)
denied_is ts us s x (Some o) at opened e =
    let b = bind_ok (closed_name_at o.1) (λ y. Ok (Fails s y.0, y.1)) x e in
    let c = closed_name_is o.1 b.0 b.1 in
    subst (TestText ts) (same_result (Fails s b.0.0, b.0.1) x b.2) (
      tok (Keyword words.Not) s ∷ tok (Sign symbols.Open) o.0 ∷ ident b.0.0 ∷ tok (Sign symbols.Close) c.0 ∷ [],
      at ∙ ap (λ (r : List Lexeme). tok (Keyword words.Not) s ∷ r) (front_is (Sign symbols.Open) us o opened ∙ ap (λ (r : List Lexeme). tok (Sign symbols.Open) o.0 ∷ r) c.1),
      fails_in s o.0 c.0 b.0.0,
    )

tested_is : (ts us : List Lexeme) (l : Label) (x : Test × List Lexeme) (o : Option (Span × List Lexeme)) → ts ≡ label l ∷ us → front (Sign symbols.Open) us ≡ o → tested l us o ≡ Ok x → TestText ts x
tested_is ts us (Constructor n) x None at opened e = subst (TestText ts) (same_result (Holds n, us) x e) (ident n ∷ [], at, holds n)
tested_is ts us (Boolean b s) x None at opened e = absurd cc
tested_is ts us l x (Some o) at opened e =
    let b = bind_ok (closed_name_at o.1) (λ y. Ok (Is l y.0, y.1)) x e in
    let c = closed_name_is o.1 b.0 b.1 in
    subst (TestText ts) (same_result (Is l b.0.0, b.0.1) x b.2) (
      label l ∷ tok (Sign symbols.Open) o.0 ∷ ident b.0.0 ∷ tok (Sign symbols.Close) c.0 ∷ [],
      at ∙ ap (λ (r : List Lexeme). label l ∷ r) (front_is (Sign symbols.Open) us o opened ∙ ap (λ (r : List Lexeme). tok (Sign symbols.Open) o.0 ∷ r) c.1),
      labelled l o.0 c.0 b.0.0,
    )

pub test_is : (ts : List Lexeme) (x : Test × List Lexeme) → test_at ts ≡ Ok x → TestText ts x
unfolding test_at
test_is ts x e = go (front (Keyword words.Not) ts) refl e
  where
    go : (o : Option (Span × List Lexeme)) → front (Keyword words.Not) ts ≡ o → test_on ts o ≡ Ok x → TestText ts x
    go (Some o) at h = denied_is ts o.1 o.0 x (front (Sign symbols.Open) o.1) (front_is (Keyword words.Not) ts o at) refl h
    go None at h =
        let b = bind_ok (label_at ts) (λ l. tested l.0 l.1 (front (Sign symbols.Open) l.1)) x h in
        tested_is ts b.0.1 b.0.0 x (front (Sign symbols.Open) b.0.1) (label_is ts b.0 b.1) refl b.2

-- ---- levels with operators

pub heads_read : {level operand other : Level} → Heads level operand other → (n : ℕ) (ts : List Lexeme) → read (suc n) level ts ≡ prefixed_on (read n operand) (read (suc n) other) ts (prefix_at level ts)
unfolding read read_negation read_negated read_signed prefixed_at
heads_read negation n ts = refl
heads_read negated n ts = refl
heads_read signed n ts = refl

pub chain_reads : {level operand : Level} → Joins level operand → (n : ℕ) (ts : List Lexeme) → read (suc n) level ts ≡ (read (suc n) operand ts >>= more_at (suc n) level n (read n operand))
unfolding read chain_at read_implication read_disjunction read_conjunction read_comparison read_sum read_term
chain_reads implication n ts = refl
chain_reads disjunction n ts = refl
chain_reads conjunction n ts = refl
chain_reads comparison n ts = refl
chain_reads sum n ts = refl
chain_reads term n ts = refl

-- ---- what a reader found

pub record Spelt (limit : ℕ) (level : Level) (ts : List Lexeme) (f : Found) : Type 0 where
  pub text : List Lexeme
  pub cut : ts ≡ text ++ f.rest
  pub spells : Spells level f.tree text
  pub deep : f.depth ≡ depth f.tree
  pub within : f.depth ≤ limit

-- a reader finds what is spelled so
abbrev pub IsSound : ℕ → Level → Reader → Type 0
IsSound limit level reader = (ts : List Lexeme) (f : Found) → reader ts ≡ Ok f → Spelt limit level ts f

-- what spells one level spells another
lifted : (limit : ℕ) (level other : Level) (ts : List Lexeme) (f : Found) → ((text : List Lexeme) → Spells level f.tree text → Spells other f.tree text) → Spelt limit level ts f → Spelt limit other ts f
lifted limit level other ts f up h = record { text = h.text; cut = h.cut; spells = up h.text h.spells; deep = h.deep; within = h.within }

-- two operands
two : (n : ℕ) (level start part : Level) (op : Infix) (l : Kind) (s : Span) (ts after : List Lexeme) (left right : Found) (h : Spelt (suc n) start ts left) → left.rest ≡ tok l s ∷ after
    → ((ys : List Lexeme) → Spells part right.tree ys → Spells level (Binary op left.tree right.tree) (h.text ++ tok l s ∷ ys)) → left.depth ≤ n → Spelt n part after right → Spelt (suc n) level ts (join op left right)
two n level start part op l s ts after left right h at make le r =
    let t = tok l s in
    record {
      text = h.text ++ t ∷ r.text;
      cut = h.cut ∙ ap (λ (u : List Lexeme). h.text ++ u) (at ∙ ap (λ (u : List Lexeme). t ∷ u) r.cut) ∙ sym (append_assoc h.text (t ∷ r.text) right.rest);
      spells = make r.text r.spells;
      deep = rw (h.deep, r.deep) refl;
      within = omega (arith, max-le le r.within);
    }

-- ---- parts

after_is : (form : Form) (ts : List Lexeme) (x : Lead × List Lexeme) → lead_at form ts ≡ Ok x → (t : Expression) (text after rest : List Lexeme) → x.1 ≡ text ++ after → Spells Whole t text → tail_at form after ≡ Ok rest
    → (all : List Lexeme) × (ts ≡ all ++ rest) × SpellsPart form x.0 t all
unfolding lead_at
after_is forms.Call ts x e t text after rest cut d end =
    let k = same_result (Plain, ts) x e in
    subst (λ (y : Lead × List Lexeme). (all : List Lexeme) × (ts ≡ all ++ rest) × SpellsPart forms.Call y.0 t all) k
    (text, ap (λ (y : Lead × List Lexeme). y.1) k ∙ cut ∙ ap (λ (r : List Lexeme). text ++ r) (same_result after rest end), argument d)
after_is forms.Structure ts x e t text after rest cut d end =
    let b = bind_ok (identifier_at ts) (λ y. expect (Sign symbols.Equal) y.1 >>= λ r. Ok (Of y.0, r)) x e in
    let c = bind_ok (expect (Sign symbols.Equal) b.0.1) (λ r. Ok (Of b.0.0, r)) x b.2 in
    let q = expect_is (Sign symbols.Equal) b.0.1 c.0 c.1 in
    let k = same_result (Of b.0.0, c.0) x c.2 in
    let front_part : ts ≡ ident b.0.0 ∷ tok (Sign symbols.Equal) q.0 ∷ c.0 = ident_is ts b.0 b.1 ∙ ap (λ (r : List Lexeme). ident b.0.0 ∷ r) q.1 in
    subst (λ (y : Lead × List Lexeme). (all : List Lexeme) × (ts ≡ all ++ rest) × SpellsPart forms.Structure y.0 t all) k (
      ident b.0.0 ∷ tok (Sign symbols.Equal) q.0 ∷ text,
      front_part ∙ ap (λ (r : List Lexeme). ident b.0.0 ∷ tok (Sign symbols.Equal) q.0 ∷ r) (ap (λ (y : Lead × List Lexeme). y.1) k ∙ cut ∙ ap (λ (r : List Lexeme). text ++ r) (same_result after rest end)),
      init b.0.0 q.0 d,
    )
after_is forms.Merge ts x e t text after rest cut d end = go (front (Sign symbols.Open) ts) refl e
  where
    go : (o : Option (Span × List Lexeme)) → front (Sign symbols.Open) ts ≡ o → lead_on o ≡ Ok x → (all : List Lexeme) × (ts ≡ all ++ rest) × SpellsPart forms.Merge x.0 t all
    go None at h = absurd cc
    go (Some o) at h =
        let b = bind_ok (label_at o.1) (λ l. expect (Sign symbols.Arrow) l.1 >>= λ r. Ok (Branch o.0 l.0, r)) x h in
        let c = bind_ok (expect (Sign symbols.Arrow) b.0.1) (λ r. Ok (Branch o.0 b.0.0, r)) x b.2 in
        let q = expect_is (Sign symbols.Arrow) b.0.1 c.0 c.1 in
        let k = same_result (Branch o.0 b.0.0, c.0) x c.2 in
        let z = expect_is (Sign symbols.Close) after rest end in
        let open_token = tok (Sign symbols.Open) o.0 in
        let arrow_token = tok (Sign symbols.Arrow) q.0 in
        let close_token = tok (Sign symbols.Close) z.0 in
        let inner : c.0 ≡ (text ++ close_token ∷ []) ++ rest = ap (λ (y : Lead × List Lexeme). y.1) k ∙ cut ∙ ap (λ (r : List Lexeme). text ++ r) z.1 ∙ sym (append_assoc text (close_token ∷ []) rest) in
        subst (λ (y : Lead × List Lexeme). (all : List Lexeme) × (ts ≡ all ++ rest) × SpellsPart forms.Merge y.0 t all) k (
          open_token ∷ label b.0.0 ∷ arrow_token ∷ (text ++ close_token ∷ []),
          front_is (Sign symbols.Open) ts o at ∙ ap (λ (r : List Lexeme). open_token ∷ r) (label_is o.1 b.0 b.1 ∙ ap (λ (r : List Lexeme). label b.0.0 ∷ r) (q.1 ∙ ap (λ (r : List Lexeme). arrow_token ∷ r) inner)),
          branch b.0.0 o.0 q.0 z.0 d,
        )

abbrev Turned : Form → List Lexeme → Bool × List Lexeme → Type 0
Turned form ts (true, r) = (ss : List Lexeme) × (ts ≡ ss ++ r) × Separates form ss
Turned form ts (false, r) = (es : List Lexeme) × (ts ≡ es ++ r) × Closes form es

turn_is : (form : Form) (ts : List Lexeme) (x : Bool × List Lexeme) → turn_at form ts ≡ Ok x → Turned form ts x
turn_is forms.Call ts x e = go (front (Sign symbols.Comma) ts) refl e
  where
    go : (o : Option (Span × List Lexeme)) → front (Sign symbols.Comma) ts ≡ o → after_argument ts o ≡ Ok x → Turned forms.Call ts x
    go (Some o) at h = subst (Turned forms.Call ts) (same_result (true, o.1) x h) (tok (Sign symbols.Comma) o.0 ∷ [], front_is (Sign symbols.Comma) ts o at, comma o.0)
    go None at h =
        let b = bind_ok (expect (Sign symbols.Close) ts) (λ r. Ok (false, r)) x h in
        let q = expect_is (Sign symbols.Close) ts b.0 b.1 in
        subst (Turned forms.Call ts) (same_result (false, b.0) x b.2) (tok (Sign symbols.Close) q.0 ∷ [], q.1, closed q.0)
turn_is forms.Structure ts x e = go (front (Sign symbols.Semicolon) ts) refl e
  where
    semi : (o : Span × List Lexeme) (p : Option (Span × List Lexeme)) → ts ≡ tok (Sign symbols.Semicolon) o.0 ∷ o.1 → front (Sign symbols.CloseBrace) o.1 ≡ p → after_semicolon o.1 p ≡ Ok x → Turned forms.Structure ts x
    semi o (Some p) at brace h = subst (Turned forms.Structure ts) (same_result (false, p.1) x h) (tok (Sign symbols.Semicolon) o.0 ∷ tok (Sign symbols.CloseBrace) p.0 ∷ [], at ∙ ap (λ (r : List Lexeme). tok (Sign symbols.Semicolon) o.0 ∷ r) (front_is (Sign symbols.CloseBrace) o.1 p brace), late o.0 p.0)
    semi o None at brace h = subst (Turned forms.Structure ts) (same_result (true, o.1) x h) (tok (Sign symbols.Semicolon) o.0 ∷ [], at, semicolon o.0)

    go : (o : Option (Span × List Lexeme)) → front (Sign symbols.Semicolon) ts ≡ o → after_init ts o ≡ Ok x → Turned forms.Structure ts x
    go (Some o) at h = semi o (front (Sign symbols.CloseBrace) o.1) (front_is (Sign symbols.Semicolon) ts o at) refl h
    go None at h =
        let b = bind_ok (expect (Sign symbols.CloseBrace) ts) (λ r. Ok (false, r)) x h in
        let q = expect_is (Sign symbols.CloseBrace) ts b.0 b.1 in
        subst (Turned forms.Structure ts) (same_result (false, b.0) x b.2) (tok (Sign symbols.CloseBrace) q.0 ∷ [], q.1, braced q.0)
turn_is forms.Merge ts x e = go (front (Sign symbols.Open) ts) e
  where
    go : (o : Option (Span × List Lexeme)) → after_branch ts o ≡ Ok x → Turned forms.Merge ts x
    go (Some o) h = subst (Turned forms.Merge ts) (same_result (true, ts) x h) ([], refl, unparted)
    go None h = subst (Turned forms.Merge ts) (same_result (false, ts) x h) ([], refl, unclosed)

pub record SpeltPart (n : ℕ) (form : Form) (ts : List Lexeme) (p : Item) : Type 0 where
  pub text : List Lexeme
  pub cut : ts ≡ text ++ p.rest
  pub spells : SpellsPart form p.lead p.tree text
  pub deep : p.depth ≡ depth p.tree
  pub within : p.depth ≤ n

-- parts after `us`, of which none is deeper than `n`
pub record SpeltAll (n : ℕ) (form : Form) (us : List (Lead × Expression)) (d : ℕ) (ts : List Lexeme) (a : List (Lead × Expression) × ℕ × List Lexeme) : Type 0 where
  pub parts : List (Lead × Expression)
  pub text : List Lexeme
  pub cut : ts ≡ text ++ a.2
  pub behind : a.0 ≡ us ++ parts
  pub spells : SpellsAll form (parts_of parts) text
  pub deep : a.1 ≡ max d (deepest (parts_of parts))
  pub within : a.1 ≤ n

pub zero_least : (a : ℕ) → a ≡ max a 0
zero_least a = omega arith

pub zero_first : (a : ℕ) → max 0 a ≡ a
zero_first a = omega arith

pub max_regroups : (a b c : ℕ) → max (max a b) c ≡ max a (max b c)
max_regroups a b c = omega arith

module _ (n : ℕ) (wholes : Reader) (sound : IsSound n Whole wholes) where
  part_sound : (form : Form) (ts : List Lexeme) (p : Item) → part_at form wholes ts ≡ Ok p → SpeltPart n form ts p
  unfolding part_at
  part_sound form ts p e =
      let b1 = bind_ok (lead_at form ts) (λ l. wholes l.1 >>= λ f. tail_at form f.rest >>= λ r. Ok (item l.0 f.tree f.depth r)) p e in
      let b2 = bind_ok (wholes b1.0.1) (λ f. tail_at form f.rest >>= λ r. Ok (item b1.0.0 f.tree f.depth r)) p b1.2 in
      let b3 = bind_ok (tail_at form b2.0.rest) (λ r. Ok (item b1.0.0 b2.0.tree b2.0.depth r)) p b2.2 in
      let h = sound b1.0.1 b2.0 b2.1 in
      let w = after_is form ts b1.0 b1.1 b2.0.tree h.text b2.0.rest b3.0 h.cut h.spells b3.1 in
      subst (SpeltPart n form ts) (same_result (item b1.0.0 b2.0.tree b2.0.depth b3.0) p b3.2)
      (record { text = w.0; cut = w.1; spells = w.2; deep = h.deep; within = h.within })

  turned_parts : (form : Form) (others : List (Lead × Expression) → ℕ → List Lexeme → Several) → ((us : List (Lead × Expression)) (d : ℕ) (ts : List Lexeme) (a : List (Lead × Expression) × ℕ × List Lexeme) → d ≤ n → others us d ts ≡ Ok a → SpeltAll n form us d ts a)
      → (us : List (Lead × Expression)) (d : ℕ) (ts : List Lexeme) (a : List (Lead × Expression) × ℕ × List Lexeme) (p : Item) (x : Bool × List Lexeme) → d ≤ n → SpeltPart n form ts p → Turned form p.rest x → onward others (us ++ (p.lead, p.tree) ∷ []) (max d p.depth) x ≡ Ok a → SpeltAll n form us d ts a
  turned_parts form others later us d ts a p (true, r) le h t e =
      let o = later (us ++ (p.lead, p.tree) ∷ []) (max d p.depth) r a (max-le le h.within) e in
      record {
        parts = (p.lead, p.tree) ∷ o.parts;
        text = h.text ++ (t.0 ++ o.text);
        cut = h.cut ∙ ap (λ (q : List Lexeme). h.text ++ q) (t.1 ∙ ap (λ (q : List Lexeme). t.0 ++ q) o.cut ∙ sym (append_assoc t.0 o.text a.2)) ∙ sym (append_assoc h.text (t.0 ++ o.text) a.2);
        behind = o.behind ∙ append_assoc us ((p.lead, p.tree) ∷ []) o.parts;
        spells = further h.spells t.2 o.spells;
        deep = o.deep ∙ ap (λ (k : ℕ). max (max d k) (deepest (parts_of o.parts))) h.deep ∙ max_regroups d (depth p.tree) (deepest (parts_of o.parts));
        within = o.within;
      }
  turned_parts form others later us d ts a p (false, r) le h t e =
      subst (SpeltAll n form us d ts) (same_result (us ++ (p.lead, p.tree) ∷ [], max d p.depth, r) a e)
      (record {
        parts = (p.lead, p.tree) ∷ [];
        text = h.text ++ t.0;
        cut = h.cut ∙ ap (λ (q : List Lexeme). h.text ++ q) t.1 ∙ sym (append_assoc h.text t.0 r);
        behind = refl;
        spells = final h.spells t.2;
        deep = ap (λ (k : ℕ). max d k) (h.deep ∙ zero_least (depth p.tree));
        within = max-le le h.within;
      })

  parts_sound : (form : Form) (k : ℕ) (us : List (Lead × Expression)) (d : ℕ) (ts : List Lexeme) (a : List (Lead × Expression) × ℕ × List Lexeme) → d ≤ n → parts_at k form wholes us d ts ≡ Ok a → SpeltAll n form us d ts a
  unfolding parts_at
  parts_sound form zero us d ts a le e = absurd cc
  parts_sound form (suc k) us d ts a le e =
      let b1 = bind_ok (part_at form wholes ts) (λ i. turn_at form i.rest >>= λ t. onward (parts_at k form wholes) (us ++ (i.lead, i.tree) ∷ []) (max d i.depth) t) a e in
      let b2 = bind_ok (turn_at form b1.0.rest) (λ t. onward (parts_at k form wholes) (us ++ (b1.0.lead, b1.0.tree) ∷ []) (max d b1.0.depth) t) a b1.2 in
      turned_parts form (parts_at k form wholes) (parts_sound form k) us d ts a b1.0 b2.0 le (part_sound form ts b1.0 b1.1) (turn_is form b1.0.rest b2.0 b2.1) b2.2

  -- a tree of parts, at any level that parts of the form make
  listed_sound : (make : Parts → Expression) (form : Form) (level : Level) (before : List Lexeme) → ((us : Parts) → depth (make us) ≡ suc (deepest us)) → ((us : Parts) (text : List Lexeme) → SpellsAll form us text → Spells level (make us) (before ++ text))
      → (ts us : List Lexeme) (f : Found) → ts ≡ before ++ us → listed_at make form wholes us ≡ Ok f → Spelt (suc n) level ts f
  unfolding listed_at
  listed_sound make form level before deep_is up ts us f at e =
      let b = bind_ok (parts_at (length us + 1) form wholes [] 0 us) (λ a. Ok (found (make (parts_of a.0)) (suc a.1) a.2)) f e in
      let h = parts_sound form (length us + 1) [] 0 us b.0 (omega arith) b.1 in
      let same : b.0.1 ≡ deepest (parts_of b.0.0) = h.deep ∙ zero_first (deepest (parts_of h.parts)) ∙ ap (λ (ps : List (Lead × Expression)). deepest (parts_of ps)) (sym h.behind) in
      subst (Spelt (suc n) level ts) (same_result (found (make (parts_of b.0.0)) (suc b.0.1) b.0.2) f b.2)
      (record {
        text = before ++ h.text;
        cut = at ∙ ap (λ (q : List Lexeme). before ++ q) h.cut ∙ sym (append_assoc before h.text b.0.2);
        spells = up (parts_of b.0.0) h.text (subst (λ (ps : List (Lead × Expression)). SpellsAll form (parts_of ps) h.text) (sym h.behind) h.spells);
        deep = ap suc same ∙ sym (deep_is (parts_of b.0.0));
        within = omega (arith, h.within);
      })

  closes : (ts : List Lexeme) (x : Span × List Lexeme) (inner f : Found) (r : Result (List Lexeme) Fault) → ts ≡ tok (Sign symbols.Open) x.0 ∷ x.1 → Spelt n Whole x.1 inner → expect (Sign symbols.Close) inner.rest ≡ r → after_open x.0 inner r ≡ Ok f → Spelt (suc n) Atom ts f
  closes ts x inner f (Err d) opened h at e = absurd cc
  closes ts x inner f (Ok rest) opened h at e =
      let closed = expect_is (Sign symbols.Close) inner.rest rest at in
      let open_token = tok (Sign symbols.Open) x.0 in
      let close_token = tok (Sign symbols.Close) closed.0 in
      let cut : ts ≡ (open_token ∷ (h.text ++ close_token ∷ [])) ++ rest = opened ∙ ap (λ (r' : List Lexeme). open_token ∷ r') (h.cut ∙ ap (λ (r' : List Lexeme). h.text ++ r') closed.1 ∙ sym (append_assoc h.text (close_token ∷ []) rest)) in
      subst (Spelt (suc n) Atom ts) (same_result (found (Parentheses x.0 inner.tree) (suc inner.depth) rest) f e)
      (record { text = open_token ∷ (h.text ++ close_token ∷ []); cut = cut; spells = parentheses x.0 closed.0 h.spells; deep = ap suc h.deep; within = omega (arith, h.within) })

  opens : (ts : List Lexeme) (f : Found) (o : Option (Span × List Lexeme)) → front (Sign symbols.Open) ts ≡ o → parentheses_on wholes o ≡ Ok f → Spelt (suc n) Atom ts f
  opens ts f None at e = absurd cc
  opens ts f (Some x) at e =
      let b = bind_ok (wholes x.1) (λ inner. after_open x.0 inner (expect (Sign symbols.Close) inner.rest)) f e in
      closes ts x b.0 f (expect (Sign symbols.Close) b.0.rest) (front_is (Sign symbols.Open) ts x at) (sound x.1 b.0 b.1) refl b.2

  -- a leaf of one token
  leaf : (t : Lexeme) (l : Kind) (ts : List Lexeme) (tree : Expression) (f : Found) → t.kind ≡ l → Spells Atom tree (tok l t.span ∷ []) → 1 ≡ depth tree → found tree 1 ts ≡ f → Spelt (suc n) Atom (t ∷ ts) f
  leaf t l ts tree f is spells d e =
      subst (Spelt (suc n) Atom (t ∷ ts)) e
      (record { text = tok l t.span ∷ []; cut = ap (λ (m : Kind). tok m t.span ∷ ts) is; spells = spells; deep = d; within = omega arith })

  true_in : (w : Word) (t : Lexeme) (ts : List Lexeme) (f : Found) → t.kind ≡ Keyword w → truth_on w t.span ts ≡ Ok f → Spelt (suc n) Atom (t ∷ ts) f
  true_in words.True t ts f is e = leaf t (Keyword words.True) ts (Truth true t.span) f is (truth t.span) refl (same_result _ _ e)
  true_in words.False t ts f is e = leaf t (Keyword words.False) ts (Truth false t.span) f is (falsity t.span) refl (same_result _ _ e)
  true_in _ t ts f is e = absurd cc

  -- a name, and what belongs to it
  called_in : (m : Named) (ts : List Lexeme) (x : Span × List Lexeme) (f : Found) (o : Option (Span × List Lexeme)) → ts ≡ ident m ∷ tok (Sign symbols.Open) x.0 ∷ x.1 → front (Sign symbols.Close) x.1 ≡ o → call_on wholes m x.1 o ≡ Ok f → Spelt (suc n) Atom ts f
  called_in m ts x f (Some y) at end e =
      let opened = ident m ∷ tok (Sign symbols.Open) x.0 ∷ [] in
      subst (Spelt (suc n) Atom ts) (same_result (found (Call m End) 1 y.1) f e)
      (record { text = ident m ∷ tok (Sign symbols.Open) x.0 ∷ tok (Sign symbols.Close) y.0 ∷ []; cut = at ∙ ap (λ (r : List Lexeme). ident m ∷ tok (Sign symbols.Open) x.0 ∷ r) (front_is (Sign symbols.Close) x.1 y end); spells = call_empty m x.0 y.0; deep = refl; within = omega arith })
  called_in m ts x f None at end e = listed_sound (Call m) forms.Call Atom (ident m ∷ tok (Sign symbols.Open) x.0 ∷ []) (λ us. refl) (λ us text s. call m x.0 s) ts x.1 f at e

  braced_in : (m : Named) (ts us : List Lexeme) (f : Found) (o : Option (Span × List Lexeme)) → ts ≡ ident m ∷ us → front (Sign symbols.OpenBrace) us ≡ o → brace_on wholes m us o ≡ Ok f → Spelt (suc n) Atom ts f
  braced_in m ts us f None at end e = subst (Spelt (suc n) Atom ts) (same_result (found (Name m) 1 us) f e) (record { text = ident m ∷ []; cut = at; spells = name m; deep = refl; within = omega arith })
  braced_in m ts us f (Some x) at end e = listed_sound (Structure m) forms.Structure Atom (ident m ∷ tok (Sign symbols.OpenBrace) x.0 ∷ []) (λ vs. refl) (λ vs text s. structure m x.0 s) ts x.1 f (at ∙ ap (λ (r : List Lexeme). ident m ∷ r) (front_is (Sign symbols.OpenBrace) us x end)) e

  named_in : (m : Named) (ts us : List Lexeme) (f : Found) (o : Option (Span × List Lexeme)) → ts ≡ ident m ∷ us → front (Sign symbols.Open) us ≡ o → name_on wholes m us o ≡ Ok f → Spelt (suc n) Atom ts f
  named_in m ts us f (Some x) at opened e = called_in m ts x f (front (Sign symbols.Close) x.1) (at ∙ ap (λ (r : List Lexeme). ident m ∷ r) (front_is (Sign symbols.Open) us x opened)) refl e
  named_in m ts us f None at opened e = braced_in m ts us f (front (Sign symbols.OpenBrace) us) at refl e

  atom_in : (t : Lexeme) (l : Kind) (ts : List Lexeme) (f : Found) → t.kind ≡ l → atom_on wholes t l ts ≡ Ok f → Spelt (suc n) Atom (t ∷ ts) f
  unfolding parentheses_at name_at
  atom_in t (Number k) ts f is e = leaf t (Number k) ts (Numeral k t.span) f is (number k t.span) refl (same_result _ _ e)
  atom_in t (Identifier k) ts f same e = named_in (named k t.span) (t ∷ ts) ts f (front (Sign symbols.Open) ts) (ap (λ (m : Kind). tok m t.span ∷ ts) same) refl e
  atom_in t (Keyword w) ts f is e = true_in w t ts f is e
  atom_in t (Sign c) ts f is e = opens (t ∷ ts) f (front (Sign symbols.Open) (t ∷ ts)) refl e

  plain_sound : IsSound (suc n) Atom (plain_at wholes)
  unfolding plain_at
  plain_sound [] f e = absurd cc
  plain_sound (t ∷ ts) f e = atom_in t t.kind ts f refl e

  -- an operator, and its operands
  listed_in : (l : Kind) (op : ListOperator) (s : Span) (ts us : List Lexeme) (f : Found) (o : Option (Span × List Lexeme)) → list_operator_of l ≡ Some op → ts ≡ tok l s ∷ us → front (Sign symbols.Open) us ≡ o → operands_on wholes op s o ≡ Ok f → Spelt (suc n) Atom ts f
  listed_in l op s ts us f None is at opened e = absurd cc
  listed_in l op s ts us f (Some x) is at opened e = listed_sound (Variadic op s) forms.Call Atom (tok l s ∷ tok (Sign symbols.Open) x.0 ∷ []) (λ vs. refl) (λ vs text d. variadic l op s x.0 is d) ts x.1 f (at ∙ ap (λ (r : List Lexeme). tok l s ∷ r) (front_is (Sign symbols.Open) us x opened)) e

  pub atom_sound : IsSound (suc n) Atom (atom_at wholes)
  unfolding atom_at operands_at
  atom_sound ts f e = go (list_operator_at ts) refl e
    where
      go : (o : Option (ListOperator × Span × List Lexeme)) → list_operator_at ts ≡ o → atom_or wholes ts o ≡ Ok f → Spelt (suc n) Atom ts f
      go None at h = plain_sound ts f h
      go (Some x) at h = let k = list_operator_is ts x at in listed_in k.0 x.0 x.1 ts x.2 f (front (Sign symbols.Open) x.2) k.1 k.2 refl h

  pub primary_sound : (dots : Reader) → IsSound (suc n) Dotted dots → IsSound (suc n) Primary (primary_at wholes dots)
  unfolding primary_at
  primary_sound dots dots_sound ts f e = go (front (Keyword words.Merge) ts) refl e
    where
      go : (o : Option (Span × List Lexeme)) → front (Keyword words.Merge) ts ≡ o → merge_on wholes dots ts o ≡ Ok f → Spelt (suc n) Primary ts f
      go None at h = lifted (suc n) Dotted Primary ts f (λ text s. primary s) (dots_sound ts f h)
      go (Some x) at h =
          let b = bind_ok (identifier_at x.1) (λ v. listed_at (Merge x.0 v.0) forms.Merge wholes v.1) f h in
          listed_sound (Merge x.0 b.0.0) forms.Merge Primary (tok (Keyword words.Merge) x.0 ∷ ident b.0.0 ∷ []) (λ us. refl) (λ us text s. merge x.0 b.0.0 s) ts b.0.1 f
          (front_is (Keyword words.Merge) ts x at ∙ ap (λ (r : List Lexeme). tok (Keyword words.Merge) x.0 ∷ r) (ident_is x.1 b.0 b.1)) b.2

module _ (n : ℕ) (ts : List Lexeme) where
  dot_ended : (left f : Found) (o : Option (Span × List Lexeme)) → Spelt (suc n) Dotted ts left → no_dot left o ≡ Ok f → Spelt (suc n) Dotted ts f
  dot_ended left f None h e = subst (Spelt (suc n) Dotted ts) (same_result left f e) h
  dot_ended left f (Some x) h e = let b = bind_ok (identifier_at x.1) (λ y. Err Deep) f e in absurd (never_found f b.2)

  dot_turned : (others : Found → Read) → ((left f : Found) → Spelt (suc n) Dotted ts left → others left ≡ Ok f → Spelt (suc n) Dotted ts f)
      → (left f : Found) (o : Option (Span × List Lexeme)) → front (Sign symbols.Dot) left.rest ≡ o → Spelt (suc n) Dotted ts left → one_dot n others left o ≡ Ok f → Spelt (suc n) Dotted ts f
  dot_turned others later left f None at h e = subst (Spelt (suc n) Dotted ts) (same_result left f e) h
  dot_turned others later left f (Some x) at h e =
      let b = bind_ok (identifier_at x.1) (λ y. cond (ltb n left.depth) (Err Deep) (others (found (Field left.tree y.0) (suc left.depth) y.1))) f e in
      let g = guard_ok (ltb n left.depth) (others (found (Field left.tree b.0.0) (suc left.depth) b.0.1)) f b.2 in
      let le = ltb-false _ _ g.0 in
      let dot_token = tok (Sign symbols.Dot) x.0 in
      later (found (Field left.tree b.0.0) (suc left.depth) b.0.1) f
      (record {
        text = h.text ++ dot_token ∷ ident b.0.0 ∷ [];
        cut = h.cut ∙ ap (λ (r : List Lexeme). h.text ++ r) (front_is (Sign symbols.Dot) left.rest x at ∙ ap (λ (r : List Lexeme). dot_token ∷ r) (ident_is x.1 b.0 b.1)) ∙ sym (append_assoc h.text (dot_token ∷ ident b.0.0 ∷ []) b.0.1);
        spells = dotted x.0 b.0.0 h.spells;
        deep = ap suc h.deep;
        within = omega (arith, le);
      }) g.1

  dots_sound_at : (turns : ℕ) (left f : Found) → Spelt (suc n) Dotted ts left → dots_at turns n left ≡ Ok f → Spelt (suc n) Dotted ts f
  unfolding dots_at
  dots_sound_at zero left f h e = dot_ended left f (front (Sign symbols.Dot) left.rest) h e
  dots_sound_at (suc k) left f h e = dot_turned (dots_at k n) (dots_sound_at k) left f (front (Sign symbols.Dot) left.rest) refl h e

  pub dotted_sound : (atoms : Reader) → IsSound (suc n) Atom atoms → (f : Found) → dotted_at n atoms ts ≡ Ok f → Spelt (suc n) Dotted ts f
  unfolding dotted_at
  dotted_sound atoms atoms_sound f e =
      let b = bind_ok (atoms ts) (dots_at (suc n) n) f e in
      dots_sound_at (suc n) b.0 f (lifted (suc n) Atom Dotted ts b.0 (λ text s. undotted s) (atoms_sound ts b.0 b.1)) b.2

module _ (n : ℕ) (level operand other : Level) (heads : Heads level operand other) (operands others : Reader) (sound : IsSound n operand operands) (others_sound : IsSound (suc n) other others) where
  headed : (ts : List Lexeme) (f : Found) (o : Option (Prefix × Span × List Lexeme)) → prefix_at level ts ≡ o → prefixed_on operands others ts o ≡ Ok f → Spelt (suc n) level ts f
  headed ts f None at e = lifted (suc n) other level ts f (λ text s. bare heads s) (others_sound ts f e)
  headed ts f (Some x) at e =
      let b = bind_ok (operands x.2) (λ inner. Ok (found (Unary x.0 x.1 inner.tree) (suc inner.depth) inner.rest)) f e in
      let h = sound x.2 b.0 b.1 in
      let p = prefix_is level ts x at in
      subst (Spelt (suc n) level ts) (same_result (found (Unary x.0 x.1 b.0.tree) (suc b.0.depth) b.0.rest) f b.2)
      (record {
        text = tok p.0 x.1 ∷ h.text;
        cut = p.2 ∙ ap (λ (r : List Lexeme). tok p.0 x.1 ∷ r) h.cut;
        spells = prefixed p.0 x.0 x.1 heads p.1 h.spells;
        deep = ap suc h.deep;
        within = omega (arith, h.within);
      })

module _ (level operand : Level) (joins : Joins level operand) (n : ℕ) (operands : Reader) (sound : IsSound n operand operands) (ts : List Lexeme) where
  ended : (left f : Found) (o : Option (Infix × List Lexeme)) → Spelt (suc n) level ts left → no_turn operands left o ≡ Ok f → Spelt (suc n) level ts f
  ended left f None h e = subst (Spelt (suc n) level ts) (same_result left f e) h
  ended left f (Some x) h e = let b = bind_ok (operands x.1) (λ right. Err Deep) f e in absurd (never_found f b.2)

  turned : (more : Found → Read) → ((left f : Found) → Spelt (suc n) level ts left → more left ≡ Ok f → Spelt (suc n) level ts f)
      → (left f : Found) (o : Option (Infix × List Lexeme)) → infix_at level left.tree left.rest ≡ o → Spelt (suc n) level ts left → one_turn n operands more left o ≡ Ok f → Spelt (suc n) level ts f
  turned more goes_on left f None at h e = subst (Spelt (suc n) level ts) (same_result left f e) h
  turned more goes_on left f (Some x) at h e =
      let b = bind_ok (operands x.1) (λ right. cond (ltb n left.depth) (Err Deep) (more (join x.0 left right))) f e in
      let g = guard_ok (ltb n left.depth) (more (join x.0 left b.0)) f b.2 in
      let i = infix_is level left.tree left.rest x at in
      goes_on (join x.0 left b.0) f (two n level level operand x.0 i.0 i.1 ts x.1 left b.0 h i.4 (λ ys s. next i.0 x.0 i.1 joins i.2 i.3 h.spells s) (ltb-false _ _ g.0) (sound x.1 b.0 b.1)) g.1

  more_sound : (turns : ℕ) (left f : Found) → Spelt (suc n) level ts left → more_at turns level n operands left ≡ Ok f → Spelt (suc n) level ts f
  unfolding more_at
  more_sound zero left f h e = ended left f (infix_at level left.tree left.rest) h e
  more_sound (suc k) left f h e = turned (more_at k level n operands) (more_sound k) left f (infix_at level left.tree left.rest) refl h e

-- ---- choice

deepest_three : (a b c x y z : ℕ) → a ≡ x → b ≡ y → c ≡ z → suc (max a (max b c)) ≡ suc (max x (max y z))
deepest_three a b c x y z p q r = cc

module _ (n : ℕ) (wholes elses : Reader) (sound : IsSound n Whole wholes) (elses_sound : IsSound n Else elses) where
  pub branches_sound : (s : Span) (ts us : List Lexeme) (f : Found) → ts ≡ tok (Keyword words.If) s ∷ us → branches_at wholes elses s us ≡ Ok f → Spelt (suc n) Choice ts f
  unfolding branches_at
  branches_sound s ts us f at e =
      let b1 = bind_ok (wholes us) (λ c. expect (Keyword words.Then) c.rest >>= λ u. wholes u >>= λ a. expect (Keyword words.Else) a.rest >>= λ v. elses v >>= λ b. Ok (found (If s c.tree a.tree b.tree) (suc (max c.depth (max a.depth b.depth))) b.rest)) f e in
      let c = b1.0 in
      let b2 = bind_ok (expect (Keyword words.Then) c.rest) (λ u. wholes u >>= λ a. expect (Keyword words.Else) a.rest >>= λ v. elses v >>= λ b. Ok (found (If s c.tree a.tree b.tree) (suc (max c.depth (max a.depth b.depth))) b.rest)) f b1.2 in
      let b3 = bind_ok (wholes b2.0) (λ a. expect (Keyword words.Else) a.rest >>= λ v. elses v >>= λ b. Ok (found (If s c.tree a.tree b.tree) (suc (max c.depth (max a.depth b.depth))) b.rest)) f b2.2 in
      let a = b3.0 in
      let b4 = bind_ok (expect (Keyword words.Else) a.rest) (λ v. elses v >>= λ b. Ok (found (If s c.tree a.tree b.tree) (suc (max c.depth (max a.depth b.depth))) b.rest)) f b3.2 in
      let b5 = bind_ok (elses b4.0) (λ b. Ok (found (If s c.tree a.tree b.tree) (suc (max c.depth (max a.depth b.depth))) b.rest)) f b4.2 in
      let b = b5.0 in
      let hc = sound us c b1.1 in
      let ha = sound b2.0 a b3.1 in
      let hb = elses_sound b4.0 b b5.1 in
      let t = expect_is (Keyword words.Then) c.rest b2.0 b2.1 in
      let o = expect_is (Keyword words.Else) a.rest b4.0 b4.1 in
      let i = tok (Keyword words.If) s in
      let then_token = tok (Keyword words.Then) t.0 in
      let else_token = tok (Keyword words.Else) o.0 in
      let whole_text = i ∷ (hc.text ++ then_token ∷ (ha.text ++ else_token ∷ hb.text)) in
      let third : a.rest ≡ (else_token ∷ hb.text) ++ b.rest = o.1 ∙ ap (λ (r : List Lexeme). else_token ∷ r) hb.cut in
      let second : c.rest ≡ (then_token ∷ (ha.text ++ else_token ∷ hb.text)) ++ b.rest = t.1 ∙ ap (λ (r : List Lexeme). then_token ∷ r) (ha.cut ∙ ap (λ (r : List Lexeme). ha.text ++ r) third ∙ sym (append_assoc ha.text (else_token ∷ hb.text) b.rest)) in
      let cut : ts ≡ whole_text ++ b.rest = at ∙ ap (λ (r : List Lexeme). i ∷ r) (hc.cut ∙ ap (λ (r : List Lexeme). hc.text ++ r) second ∙ sym (append_assoc hc.text (then_token ∷ (ha.text ++ else_token ∷ hb.text)) b.rest)) in
      subst (Spelt (suc n) Choice ts) (same_result (found (If s c.tree a.tree b.tree) (suc (max c.depth (max a.depth b.depth))) b.rest) f b5.2)
      (record {
        text = whole_text;
        cut = cut;
        spells = choice s t.0 o.0 hc.spells ha.spells hb.spells;
        deep = deepest_three c.depth a.depth b.depth (depth c.tree) (depth a.tree) (depth b.tree) hc.deep ha.deep hb.deep;
        within = omega (arith, max-le hc.within (max-le ha.within hb.within));
      })

  -- an `if`, or something else
  pub choice_sound : (level : Level) → ((t : Expression) (text : List Lexeme) → Spells Choice t text → Spells level t text) → (others : Reader) → IsSound (suc n) level others → IsSound (suc n) level (choice_at (branches_at wholes elses) others)
  unfolding choice_at
  choice_sound level up others others_sound ts f e = go (front (Keyword words.If) ts) refl e
    where
      go : (o : Option (Span × List Lexeme)) → front (Keyword words.If) ts ≡ o → choice_on (branches_at wholes elses) others ts o ≡ Ok f → Spelt (suc n) level ts f
      go None at h = others_sound ts f h
      go (Some x) at h = lifted (suc n) Choice level ts f (up f.tree) (branches_sound x.0 ts x.1 f (front_is (Keyword words.If) ts x at) h)

-- ---- arrow and whole

abbrev keep : Found → Read
keep f = Ok f

module _ (n : ℕ) (arrows values : Reader) (sound : IsSound n Arrow arrows) (values_sound : IsSound (suc n) Implication values) where
  arrowed : (ts : List Lexeme) (left f : Found) (o : Option (Span × List Lexeme)) → Spelt (suc n) Implication ts left → front (Sign symbols.Arrow) left.rest ≡ o → arrow_on n arrows left o ≡ Ok f → Spelt (suc n) Arrow ts f
  arrowed ts left f None h at e = subst (Spelt (suc n) Arrow ts) (same_result left f e) (lifted (suc n) Implication Arrow ts left (λ text s. arrow_value s) h)
  arrowed ts left f (Some x) h at e =
      let b = bind_ok (arrows x.1) (λ right. cond (ltb n left.depth) (Err Deep) (keep (join operators.Arrow left right))) f e in
      let g = guard_ok (ltb n left.depth) (keep (join operators.Arrow left b.0)) f b.2 in
      subst (Spelt (suc n) Arrow ts) (same_result (join operators.Arrow left b.0) f g.1)
      (two n Arrow Implication Arrow operators.Arrow (Sign symbols.Arrow) x.0 ts x.1 left b.0 h (front_is (Sign symbols.Arrow) left.rest x at) (λ ys s. arrow x.0 h.spells s) (ltb-false _ _ g.0) (sound x.1 b.0 b.1))

  pub arrow_sound : IsSound (suc n) Arrow (arrow_at n arrows values)
  unfolding arrow_at
  arrow_sound ts f e =
      let b = bind_ok (values ts) (λ left. arrow_on n arrows left (front (Sign symbols.Arrow) left.rest)) f e in
      arrowed ts b.0 f (front (Sign symbols.Arrow) b.0.rest) (values_sound ts b.0 b.1) refl b.2

-- what looks like a primary is one
pub tight : {level : Level} {t : Expression} {ts : List Lexeme} → Spells level t ts → is_primary t ≡ true → Spells Primary t ts
tight {level = Atom} d e = primary (undotted d)
tight {level = Dotted} d e = primary d
tight {level = Primary} d e = d
tight (bare h d) e = tight d e
tight (first j d) e = tight d e
tight (else_choice d) e = tight d e
tight (else_value d) e = tight d e
tight (arrow_choice d) e = tight d e
tight (arrow_value d) e = tight d e
tight (whole d) e = tight d e
tight _ e = absurd cc

abbrev no_read : Read
no_read = Err Syntax

test_ok : (b : Bool) (r : Read) (f : Found) → cond b r no_read ≡ Ok f → (b ≡ true) × (r ≡ Ok f)
test_ok true r f e = (refl, e)
test_ok false r f e = absurd cc

module _ (n : ℕ) (primaries arrows : Reader) (sound : IsSound n Primary primaries) (arrows_sound : IsSound (suc n) Arrow arrows) where
  sampled : (ts : List Lexeme) (left f : Found) (o : Option (Span × List Lexeme)) → Spelt (suc n) Arrow ts left → front (Keyword words.When) left.rest ≡ o → when_on n left o ≡ Ok f → Spelt (suc n) Whole ts f
  sampled ts left f None h at e = subst (Spelt (suc n) Whole ts) (same_result left f e) (lifted (suc n) Arrow Whole ts left (λ text s. whole s) h)
  sampled ts left f (Some x) h at e =
      let step : Test × List Lexeme → Read = λ c. sampled_by n left.tree left.depth c.0 c.1 in
      let p = test_ok (is_primary left.tree) (test_at x.1 >>= step) f e in
      let b = bind_ok (test_at x.1) step f p.1 in
      let g = guard_ok (ltb n left.depth) (Ok (found (When left.tree b.0.0) (suc left.depth) b.0.1)) f b.2 in
      let c = test_is x.1 b.0 b.1 in
      let le = ltb-false _ _ g.0 in
      let when_token = tok (Keyword words.When) x.0 in
      subst (Spelt (suc n) Whole ts) (same_result (found (When left.tree b.0.0) (suc left.depth) b.0.1) f g.1)
      (record {
        text = h.text ++ when_token ∷ c.0;
        cut = h.cut ∙ ap (λ (r : List Lexeme). h.text ++ r) (front_is (Keyword words.When) left.rest x at ∙ ap (λ (r : List Lexeme). when_token ∷ r) c.1) ∙ sym (append_assoc h.text (when_token ∷ c.0) b.0.1);
        spells = when x.0 (tight h.spells p.0) c.2;
        deep = ap suc h.deep;
        within = omega (arith, le);
      })

  followed : (ts : List Lexeme) (left f : Found) (o : Option (Span × List Lexeme)) → Spelt (suc n) Arrow ts left → front (Keyword words.Fby) left.rest ≡ o → fby_on n primaries left o ≡ Ok f → Spelt (suc n) Whole ts f
  followed ts left f None h at e = sampled ts left f (front (Keyword words.When) left.rest) h refl e
  followed ts left f (Some x) h at e =
      let p = test_ok (is_primary left.tree) (two_on n operators.Fby primaries keep left x.1) f e in
      let b = bind_ok (primaries x.1) (λ right. cond (ltb n left.depth) (Err Deep) (keep (join operators.Fby left right))) f p.1 in
      let g = guard_ok (ltb n left.depth) (keep (join operators.Fby left b.0)) f b.2 in
      subst (Spelt (suc n) Whole ts) (same_result (join operators.Fby left b.0) f g.1)
      (two n Whole Arrow Primary operators.Fby (Keyword words.Fby) x.0 ts x.1 left b.0 h (front_is (Keyword words.Fby) left.rest x at) (λ ys s. fby x.0 (tight h.spells p.0) s) (ltb-false _ _ g.0) (sound x.1 b.0 b.1))

  pub whole_sound : IsSound (suc n) Whole (whole_at n primaries arrows)
  unfolding whole_at
  whole_sound ts f e =
      let b = bind_ok (arrows ts) (λ left. fby_on n primaries left (front (Keyword words.Fby) left.rest)) f e in
      followed ts b.0 f (front (Keyword words.Fby) b.0.rest) (arrows_sound ts b.0 b.1) refl b.2

-- ---- each level, where its parts are sound

module _ (n : ℕ) (sound : (level : Level) → IsSound n level (read n level)) where
  abbrev IsSoundAbove : Level → Type 0
  IsSoundAbove level = IsSound (suc n) level (read (suc n) level)

  head_step : {level operand other : Level} → Heads level operand other → IsSoundAbove other → IsSoundAbove level
  head_step {level} {operand} {other} h others_sound ts f e = headed n level operand other h (read n operand) (read (suc n) other) (sound operand) others_sound ts f (prefix_at level ts) refl (sym (heads_read h n ts) ∙ e)

  chain_step : {level operand : Level} → Joins level operand → IsSoundAbove operand → IsSoundAbove level
  chain_step {level} {operand} j firsts_sound ts f e =
      let b = bind_ok (read (suc n) operand ts) (more_at (suc n) level n (read n operand)) f (sym (chain_reads j n ts) ∙ e) in
      more_sound level operand j n (read n operand) (sound operand) ts (suc n) b.0 f (lifted (suc n) operand level ts b.0 (λ text s. first j s) (firsts_sound ts b.0 b.1)) b.2

  choice_step : (level : Level) → ((t : Expression) (text : List Lexeme) → Spells Choice t text → Spells level t text) → (others : Reader) → IsSound (suc n) level others → IsSound (suc n) level (choice_at (branches_at (read n Whole) (read n Else)) others)
  choice_step = choice_sound n (read n Whole) (read n Else) (sound Whole) (sound Else)

  level_step : (level : Level) → IsSoundAbove level
  unfolding read read_atom read_dotted read_primary read_choice read_else read_arrow read_whole
  level_step level =
      let at_atom : IsSoundAbove Atom = atom_sound n (read n Whole) (sound Whole) in
      let at_dotted : IsSoundAbove Dotted = λ ts. dotted_sound n ts (read (suc n) Atom) at_atom in
      let at_primary : IsSoundAbove Primary = primary_sound n (read n Whole) (sound Whole) (read (suc n) Dotted) at_dotted in
      let at_signed = head_step signed at_primary in
      let at_term = chain_step term at_signed in
      let at_sum = chain_step sum at_term in
      let at_comparison = chain_step comparison at_sum in
      let at_negated = head_step negated at_signed in
      let at_negation = head_step negation at_comparison in
      let at_conjunction = chain_step conjunction at_negation in
      let at_disjunction = chain_step disjunction at_conjunction in
      let at_implication = chain_step implication at_disjunction in
      let value_first : IsSound (suc n) Else (read (suc n) Implication) = λ ts f e. lifted (suc n) Implication Else ts f (λ text s. else_value s) (at_implication ts f e) in
      let refused : IsSound (suc n) Choice refuse = λ ts f e. absurd cc in
      let at_arrow : IsSoundAbove Arrow = choice_step Arrow (λ t text s. arrow_choice s) (arrow_at n (read n Arrow) (read (suc n) Implication)) (arrow_sound n (read n Arrow) (read (suc n) Implication) (sound Arrow) at_implication) in
      elim level as IsSoundAbove [
        | Whole ↦ whole_sound n (read n Primary) (read (suc n) Arrow) (sound Primary) at_arrow
        | Arrow ↦ at_arrow
        | Else ↦ choice_step Else (λ t text s. else_choice s) (read (suc n) Implication) value_first
        | Choice ↦ choice_step Choice (λ t text s. s) refuse refused
        | Implication ↦ at_implication
        | Disjunction ↦ at_disjunction
        | Conjunction ↦ at_conjunction
        | Negation ↦ at_negation
        | Negated ↦ at_negated
        | Comparison ↦ at_comparison
        | Sum ↦ at_sum
        | Term ↦ at_term
        | Signed ↦ at_signed
        | Primary ↦ at_primary
        | Dotted ↦ at_dotted
        | Atom ↦ at_atom
      ]

pub read_sound : (n : ℕ) (level : Level) → IsSound n level (read n level)
unfolding read
read_sound zero level = λ ts f e. absurd (never_begun (leb (entry level) (opening ts)) f e)
read_sound (suc n) level = level_step n (read_sound n) level
