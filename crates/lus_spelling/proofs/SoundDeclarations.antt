-- Declarations that are read are spelled so.
use Rattle.std.proofs.Common.{◌≡◌, ℕ, zero, suc, ◌≤◌, Bool, true, false, cond, length, List, [], ◌∷◌, ◌++◌, Option, Some, None, Result, Ok, refl, sym, ap, subst, ◌∙◌, append_assoc, arith}
use Rattle.std.proofs.lemmas.List.{append-nil}
use Rattle.std.proofs.Math.Nat.{max-le}
use Rattle.lus_syntax.specs.declared.token.Span.{Span}
use Rattle.lus_syntax.specs.declared.token.Symbol.{Symbol}
use Rattle.lus_syntax.specs.declared.token.Symbol.TheVariants as symbols
use Rattle.lus_syntax.specs.declared.token.Word.TheVariants as words
use Rattle.lus_syntax.specs.declared.tree.NodeKind.{NodeKind}
use Rattle.lus_syntax.specs.declared.tree.NodeKind.TheVariants as kinds
use Rattle.lus_syntax.specs.Lexemes.{Kind, Identifier, Number, Sign, Keyword, Lexeme, tok}
use Rattle.lus_syntax.specs.Trees.{Named, named, Test, TypeName, BoolName, IntName, DeclaredName, Fields, Definition, Alias, TypeDeclaration, Literal, Positive, Negative, TruthValue, ConstructorName, Constant, Group, Equation, Node, Tree}
use Rattle.lus_spelling.specs.Expressions.{ident, Whole}
use Rattle.lus_spelling.specs.Lists.{Mark, mark, Nothing, nothing, Optional, absent, present, Repeated, none, again}
use Rattle.lus_spelling.specs.Declarations.{SpellsName, name, SpellsNames, type_token, SpellsFields, fields, SpellsDefinition, alias, enumeration, structure, SpellsType, type_declaration, types, literal, SpellsTypeOf, untyped, typed, SpellsConstant, constant, constants, SpellsClock, always, sampled, SpellsGroup, group, SpellsVariables, variables, SpellsInputs, no_inputs, inputs, SpellsOutputs, outputs, SpellsLocal, local, SpellsLocals, no_locals, locals, SpellsLeft, left, left_in, SpellsEquation, equation, SpellsEnd, unmarked, semicolon, dot, SpellsBody, body, kind_word, SpellsNode, node, tree, SpellsProgram, empty, with_types, with_constants, with_node, greatest_by, equation_depth, node_depth, tree_depth}
use Rattle.lus_spelling.specs.Reading.{Fault, ◌>>=◌, front, identifier_at}
use Rattle.lus_spelling.specs.ReadingDeclarations.{Reads, repeat_on, repeat_at, several_at, rest_of, after, not_last, further_on, further, begins_named, at_name, begins_equation, at_equation, at_token, skipped, skip, names_at, type_name_on, type_name_at, fields_at, enumeration_at, structure_at, brace_or, struct_or, enum_or, definition_at, type_at, negative_on, negative_at, literal_on, literal_at, type_of_on, type_of_at, constant_at, clock_on, clock_at, group_at, variables_at, inputs_on, inputs_at, outputs_at, local_at, locals_at, left_on, left_at, ended_on, ended, equation_at, body_at, node_at, declaration_on, declaration_at, program_at}
use Rattle.lus_spelling.proofs.Sound.{bind_ok, front_is, expect_is, ident_is, test_is, read_sound}
use Rattle.lus_spelling.proofs.Repeats.{same_result, Spelled, Turned, list_sound, several_sound, repeat_sound}

-- ---- tokens one after the other

glue : {t : Lexeme} {ts r q : List Lexeme} → ts ≡ t ∷ r → r ≡ q → ts ≡ t ∷ q
glue {t} e f = e ∙ ap (λ r. t ∷ r) f

joined : (xs text rest : List Lexeme) {ts r : List Lexeme} → ts ≡ xs ++ r → r ≡ text ++ rest → ts ≡ (xs ++ text) ++ rest
joined xs text rest e f = e ∙ ap (λ r. xs ++ r) f ∙ sym (append_assoc xs text rest)

some_is : {A : Type 0} (x y : A) → Some x ≡ Some y → x ≡ y
some_is x y e = cc

pub after_is : (kind : Kind) (ts r : List Lexeme) → after kind ts ≡ Some r → (s : Span) × (ts ≡ tok kind s ∷ r)
after_is kind ts r e = go (front kind ts) refl e
  where
    go : (o : Option (Span × List Lexeme)) → front kind ts ≡ o → rest_of o ≡ Some r → (s : Span) × (ts ≡ tok kind s ∷ r)
    go None at h = absurd cc
    go (Some x) at h = (x.0, front_is kind ts x at ∙ ap (λ q. tok kind x.0 ∷ q) (some_is x.1 r h))

pub further_is : (close : Symbol) (ts r : List Lexeme) → further close ts ≡ Some r → (s : Span) × (ts ≡ tok (Sign symbols.Semicolon) s ∷ r)
further_is close ts r e = go (front (Sign symbols.Semicolon) ts) refl e
  where
    last : (x : Span × List Lexeme) → front (Sign symbols.Semicolon) ts ≡ Some x → (o : Option (Span × List Lexeme)) → not_last x.1 o ≡ Some r → (s : Span) × (ts ≡ tok (Sign symbols.Semicolon) s ∷ r)
    last x at None h = (x.0, front_is (Sign symbols.Semicolon) ts x at ∙ ap (λ q. tok (Sign symbols.Semicolon) x.0 ∷ q) (some_is x.1 r h))
    last x at (Some y) h = absurd cc

    go : (o : Option (Span × List Lexeme)) → front (Sign symbols.Semicolon) ts ≡ o → further_on close o ≡ Some r → (s : Span) × (ts ≡ tok (Sign symbols.Semicolon) s ∷ r)
    go None at h = absurd cc
    go (Some x) at h = last x at (front (Sign close) x.1) h

pub here_is : (b : Bool) (ts r : List Lexeme) → cond b (Some ts) None ≡ Some r → ts ≡ r
here_is true ts r e = some_is ts r e
here_is false ts r e = absurd cc

skip_is : (kind : Kind) (ts : List Lexeme) → (ss : List Lexeme) × (ts ≡ ss ++ skip kind ts) × Optional kind ss
skip_is kind ts = go (front kind ts) refl
  where
    go : (o : Option (Span × List Lexeme)) → front kind ts ≡ o → (ss : List Lexeme) × (ts ≡ ss ++ skipped ts o) × Optional kind ss
    go None at = ([], refl, absent)
    go (Some x) at = (tok kind x.0 ∷ [], front_is kind ts x at, present x.0)

-- ---- lists

module _ {A : Type 0} (Item : A → List Lexeme → Type 0) (item : List Lexeme → Reads A) where
  marked : (kind : Kind) (ts r : List Lexeme) → after kind ts ≡ Some r → Turned (Mark kind) Item (after kind) item ts r
  marked kind ts r e = let h = after_is kind ts r e in record { text = tok kind h.0 ∷ []; cut = h.1; spells = mark h.0 }

  parted : (close : Symbol) (ts r : List Lexeme) → further close ts ≡ Some r → Turned (Mark (Sign symbols.Semicolon)) Item (further close) item ts r
  parted close ts r e = let h = further_is close ts r e in record { text = tok (Sign symbols.Semicolon) h.0 ∷ []; cut = h.1; spells = mark h.0 }

  pub named_next : (ts r : List Lexeme) → at_name ts ≡ Some r → Turned Nothing Item at_name item ts r
  named_next ts r e = record { text = []; cut = here_is (begins_named ts) ts r e; spells = nothing }

  equation_next : (ts r : List Lexeme) → at_equation ts ≡ Some r → Turned Nothing Item at_equation item ts r
  equation_next ts r e = record { text = []; cut = here_is (begins_equation ts) ts r e; spells = nothing }

-- ---- names and types

pub name_sound : (ts : List Lexeme) (x : Named × List Lexeme) → identifier_at ts ≡ Ok x → Spelled SpellsName ts x
name_sound ts x e = record { text = ident x.0 ∷ []; cut = ident_is ts x e; spells = name x.0 }

pub names_sound : (ts : List Lexeme) (x : List Named × List Lexeme) → names_at ts ≡ Ok x → Spelled SpellsNames ts x
names_sound ts x e = list_sound (Mark (Sign symbols.Comma)) SpellsName (after (Sign symbols.Comma)) identifier_at (marked SpellsName identifier_at (Sign symbols.Comma)) name_sound ts x e

type_named_is : (s : Span) (k : Kind) (ts : List Lexeme) (x : TypeName × List Lexeme) → type_name_on s k ts ≡ Ok x → tok k s ∷ ts ≡ type_token x.0 ∷ x.1
type_named_is s (Keyword words.Bool) ts x e = ap (λ (y : TypeName × List Lexeme). type_token y.0 ∷ y.1) (same_result (BoolName s, ts) x e)
type_named_is s (Keyword words.Int) ts x e = ap (λ (y : TypeName × List Lexeme). type_token y.0 ∷ y.1) (same_result (IntName s, ts) x e)
type_named_is s (Identifier n) ts x e = ap (λ (y : TypeName × List Lexeme). type_token y.0 ∷ y.1) (same_result (DeclaredName (named n s), ts) x e)
type_named_is s _ ts x e = absurd cc

pub type_name_is : (ts : List Lexeme) (x : TypeName × List Lexeme) → type_name_at ts ≡ Ok x → ts ≡ type_token x.0 ∷ x.1
unfolding type_name_at
type_name_is [] x e = absurd cc
type_name_is (t ∷ ts) x e = type_named_is t.span t.kind ts x e

pub fields_sound : (ts : List Lexeme) (x : Fields × List Lexeme) → fields_at ts ≡ Ok x → Spelled SpellsFields ts x
unfolding fields_at
fields_sound ts x e =
    let ns = bind_ok _ _ _ e in
    let c = bind_ok _ _ _ ns.2 in
    let t = bind_ok _ _ _ c.2 in
    let names = names_sound ts ns.0 ns.1 in
    let colon = expect_is (Sign symbols.Colon) ns.0.1 c.0 c.1 in
    let tail = tok (Sign symbols.Colon) colon.0 ∷ type_token t.0.0 ∷ [] in
    subst (Spelled SpellsFields ts) (same_result _ _ t.2) (record {
      text = names.text ++ tail;
      cut = joined names.text tail t.0.1 names.cut (glue colon.1 (type_name_is c.0 t.0 t.1));
      spells = fields colon.0 t.0.0 names.spells;
    })

enumeration_sound : (s : Span) (us ts : List Lexeme) (x : Definition × List Lexeme) → us ≡ tok (Keyword words.Enum) s ∷ ts → enumeration_at ts ≡ Ok x → Spelled SpellsDefinition us x
unfolding enumeration_at
enumeration_sound s us ts x at e =
    let o = bind_ok _ _ _ e in
    let ns = bind_ok _ _ _ o.2 in
    let c = bind_ok _ _ _ ns.2 in
    let open_brace = expect_is (Sign symbols.OpenBrace) ts o.0 o.1 in
    let names = names_sound o.0 ns.0 ns.1 in
    let brace = expect_is (Sign symbols.CloseBrace) ns.0.1 c.0 c.1 in
    let tail = tok (Sign symbols.CloseBrace) brace.0 ∷ [] in
    subst (Spelled SpellsDefinition us) (same_result _ _ c.2) (record {
      text = tok (Keyword words.Enum) s ∷ tok (Sign symbols.OpenBrace) open_brace.0 ∷ (names.text ++ tail);
      cut = glue at (glue open_brace.1 (joined names.text tail c.0 names.cut brace.1));
      spells = enumeration s open_brace.0 brace.0 names.spells;
    })

structure_sound : (us ws ts : List Lexeme) (x : Definition × List Lexeme) → us ≡ ws ++ ts → Optional (Keyword words.Struct) ws → structure_at ts ≡ Ok x → Spelled SpellsDefinition us x
unfolding structure_at
structure_sound us ws ts x at w e =
    let o = bind_ok _ _ _ e in
    let fs = bind_ok _ _ _ o.2 in
    let c = bind_ok _ _ _ fs.2 in
    let open_brace = expect_is (Sign symbols.OpenBrace) ts o.0 o.1 in
    let all = list_sound (Mark (Sign symbols.Semicolon)) SpellsFields (further symbols.CloseBrace) fields_at (parted SpellsFields fields_at symbols.CloseBrace) fields_sound o.0 fs.0 fs.1 in
    let last = skip_is (Sign symbols.Semicolon) fs.0.1 in
    let brace = expect_is (Sign symbols.CloseBrace) (skip (Sign symbols.Semicolon) fs.0.1) c.0 c.1 in
    let closing = tok (Sign symbols.CloseBrace) brace.0 ∷ [] in
    let tail = tok (Sign symbols.OpenBrace) open_brace.0 ∷ (all.text ++ (last.0 ++ closing)) in
    subst (Spelled SpellsDefinition us) (same_result _ _ c.2) (record {
      text = ws ++ tail;
      cut = joined ws tail c.0 at (glue open_brace.1 (joined all.text (last.0 ++ closing) c.0 all.cut (joined last.0 closing c.0 last.1 brace.1)));
      spells = structure open_brace.0 brace.0 w all.spells last.2;
    })

alias_sound : (ts : List Lexeme) (x : Definition × List Lexeme) → (type_name_at ts >>= λ t. Ok (Alias t.0, t.1)) ≡ Ok x → Spelled SpellsDefinition ts x
alias_sound ts x e =
    let t = bind_ok _ _ _ e in
    subst (Spelled SpellsDefinition ts) (same_result _ _ t.2) (record { text = type_token t.0.0 ∷ []; cut = type_name_is ts t.0 t.1; spells = alias t.0.0 })

pub definition_sound : (ts : List Lexeme) (x : Definition × List Lexeme) → definition_at ts ≡ Ok x → Spelled SpellsDefinition ts x
unfolding definition_at
definition_sound ts x e = by_enum (front (Keyword words.Enum) ts) refl e
  where
    by_brace : (o : Option (Span × List Lexeme)) → brace_or ts o ≡ Ok x → Spelled SpellsDefinition ts x
    by_brace (Some y) h = structure_sound ts [] ts x refl absent h
    by_brace None h = alias_sound ts x h

    by_struct : (o : Option (Span × List Lexeme)) → front (Keyword words.Struct) ts ≡ o → struct_or ts o ≡ Ok x → Spelled SpellsDefinition ts x
    by_struct (Some y) at h = structure_sound ts (tok (Keyword words.Struct) y.0 ∷ []) y.1 x (front_is (Keyword words.Struct) ts y at) (present y.0) h
    by_struct None at h = by_brace (front (Sign symbols.OpenBrace) ts) h

    by_enum : (o : Option (Span × List Lexeme)) → front (Keyword words.Enum) ts ≡ o → enum_or ts o ≡ Ok x → Spelled SpellsDefinition ts x
    by_enum (Some y) at h = enumeration_sound y.0 ts y.1 x (front_is (Keyword words.Enum) ts y at) h
    by_enum None at h = by_struct (front (Keyword words.Struct) ts) refl h

pub type_sound : (ts : List Lexeme) (x : TypeDeclaration × List Lexeme) → type_at ts ≡ Ok x → Spelled SpellsType ts x
unfolding type_at
type_sound ts x e =
    let n = bind_ok _ _ _ e in
    let q = bind_ok _ _ _ n.2 in
    let d = bind_ok _ _ _ q.2 in
    let s = bind_ok _ _ _ d.2 in
    let equals = expect_is (Sign symbols.Equal) n.0.1 q.0 q.1 in
    let definition = definition_sound q.0 d.0 d.1 in
    let last = expect_is (Sign symbols.Semicolon) d.0.1 s.0 s.1 in
    let tail = tok (Sign symbols.Semicolon) last.0 ∷ [] in
    subst (Spelled SpellsType ts) (same_result _ _ s.2) (record {
      text = ident n.0.0 ∷ tok (Sign symbols.Equal) equals.0 ∷ (definition.text ++ tail);
      cut = glue (ident_is ts n.0 n.1) (glue equals.1 (joined definition.text tail s.0 definition.cut last.1));
      spells = type_declaration n.0.0 equals.0 last.0 definition.spells;
    })

-- ---- constants

negative_is : (m s : Span) (k : Kind) (us ts : List Lexeme) (x : Literal × List Lexeme) → us ≡ tok (Sign symbols.Minus) m ∷ tok k s ∷ ts → negative_on m s k ts ≡ Ok x → us ≡ literal x.0 ++ x.1
negative_is m s (Number n) us ts x at e = at ∙ ap (λ (y : Literal × List Lexeme). literal y.0 ++ y.1) (same_result (Negative m n s, ts) x e)
negative_is m s _ us ts x at e = absurd cc

minus_is : (m : Span) (us ts : List Lexeme) (x : Literal × List Lexeme) → us ≡ tok (Sign symbols.Minus) m ∷ ts → negative_at m ts ≡ Ok x → us ≡ literal x.0 ++ x.1
unfolding negative_at
minus_is m us [] x at e = absurd cc
minus_is m us (t ∷ ts) x at e = negative_is m t.span t.kind us ts x at e

literal_on_is : (s : Span) (k : Kind) (ts : List Lexeme) (x : Literal × List Lexeme) → literal_on s k ts ≡ Ok x → tok k s ∷ ts ≡ literal x.0 ++ x.1
literal_on_is s (Number n) ts x e = ap (λ (y : Literal × List Lexeme). literal y.0 ++ y.1) (same_result (Positive n s, ts) x e)
literal_on_is s (Sign symbols.Minus) ts x e = minus_is s (tok (Sign symbols.Minus) s ∷ ts) ts x refl e
literal_on_is s (Keyword words.True) ts x e = ap (λ (y : Literal × List Lexeme). literal y.0 ++ y.1) (same_result (TruthValue true s, ts) x e)
literal_on_is s (Keyword words.False) ts x e = ap (λ (y : Literal × List Lexeme). literal y.0 ++ y.1) (same_result (TruthValue false s, ts) x e)
literal_on_is s (Identifier n) ts x e = ap (λ (y : Literal × List Lexeme). literal y.0 ++ y.1) (same_result (ConstructorName (named n s), ts) x e)
literal_on_is s _ ts x e = absurd cc

pub literal_is : (ts : List Lexeme) (x : Literal × List Lexeme) → literal_at ts ≡ Ok x → ts ≡ literal x.0 ++ x.1
unfolding literal_at
literal_is [] x e = absurd cc
literal_is (t ∷ ts) x e = literal_on_is t.span t.kind ts x e

pub type_of_sound : (ts : List Lexeme) (x : Option TypeName × List Lexeme) → type_of_at ts ≡ Ok x → Spelled SpellsTypeOf ts x
unfolding type_of_at
type_of_sound ts x e = go (front (Sign symbols.Colon) ts) refl e
  where
    go : (o : Option (Span × List Lexeme)) → front (Sign symbols.Colon) ts ≡ o → type_of_on ts o ≡ Ok x → Spelled SpellsTypeOf ts x
    go None at h = subst (Spelled SpellsTypeOf ts) (same_result (None, ts) x h) (record { text = []; cut = refl; spells = untyped })
    go (Some y) at h =
        let t = bind_ok _ _ _ h in
        subst (Spelled SpellsTypeOf ts) (same_result _ _ t.2) (record {
          text = tok (Sign symbols.Colon) y.0 ∷ type_token t.0.0 ∷ [];
          cut = glue (front_is (Sign symbols.Colon) ts y at) (type_name_is y.1 t.0 t.1);
          spells = typed y.0 t.0.0;
        })

pub constant_sound : (ts : List Lexeme) (x : Constant × List Lexeme) → constant_at ts ≡ Ok x → Spelled SpellsConstant ts x
unfolding constant_at
constant_sound ts x e =
    let n = bind_ok _ _ _ e in
    let t = bind_ok _ _ _ n.2 in
    let q = bind_ok _ _ _ t.2 in
    let v = bind_ok _ _ _ q.2 in
    let s = bind_ok _ _ _ v.2 in
    let type_of = type_of_sound n.0.1 t.0 t.1 in
    let equals = expect_is (Sign symbols.Equal) t.0.1 q.0 q.1 in
    let last = expect_is (Sign symbols.Semicolon) v.0.1 s.0 s.1 in
    let closing = tok (Sign symbols.Semicolon) last.0 ∷ [] in
    let tail = tok (Sign symbols.Equal) equals.0 ∷ (literal v.0.0 ++ closing) in
    subst (Spelled SpellsConstant ts) (same_result _ _ s.2) (record {
      text = ident n.0.0 ∷ (type_of.text ++ tail);
      cut = glue (ident_is ts n.0 n.1) (joined type_of.text tail s.0 type_of.cut (glue equals.1 (joined (literal v.0.0) closing s.0 (literal_is q.0 v.0 v.1) last.1)));
      spells = constant n.0.0 equals.0 last.0 v.0.0 type_of.spells;
    })

-- ---- variables

pub clock_sound : (ts : List Lexeme) (x : Option Test × List Lexeme) → clock_at ts ≡ Ok x → Spelled SpellsClock ts x
unfolding clock_at
clock_sound ts x e = go (front (Keyword words.When) ts) refl e
  where
    go : (o : Option (Span × List Lexeme)) → front (Keyword words.When) ts ≡ o → clock_on ts o ≡ Ok x → Spelled SpellsClock ts x
    go None at h = subst (Spelled SpellsClock ts) (same_result (None, ts) x h) (record { text = []; cut = refl; spells = always })
    go (Some y) at h =
        let c = bind_ok _ _ _ h in
        let t = test_is y.1 c.0 c.1 in
        subst (Spelled SpellsClock ts) (same_result _ _ c.2) (record {
          text = tok (Keyword words.When) y.0 ∷ t.0;
          cut = glue (front_is (Keyword words.When) ts y at) t.1;
          spells = sampled y.0 t.2;
        })

clocked : (f : Fields) (c : Option Test) (xs ys : List Lexeme) → SpellsFields f xs → SpellsClock c ys → SpellsGroup (record { names = f.names; type_name = f.type_name; test = c }) (xs ++ ys)
clocked f c xs ys (fields k t {ns = ns} {xs = zs} d) h = subst (SpellsGroup (record { names = ns; type_name = t; test = c })) (sym (append_assoc zs (tok (Sign symbols.Colon) k ∷ type_token t ∷ []) ys)) (group k t d h)

pub group_sound : (ts : List Lexeme) (x : Group × List Lexeme) → group_at ts ≡ Ok x → Spelled SpellsGroup ts x
unfolding group_at
group_sound ts x e =
    let f = bind_ok _ _ _ e in
    let c = bind_ok _ _ _ f.2 in
    let part = fields_sound ts f.0 f.1 in
    let clock = clock_sound f.0.1 c.0 c.1 in
    subst (Spelled SpellsGroup ts) (same_result _ _ c.2) (record {
      text = part.text ++ clock.text;
      cut = joined part.text clock.text c.0.1 part.cut clock.cut;
      spells = clocked f.0.0 c.0.0 part.text clock.text part.spells clock.spells;
    })

pub variables_sound : (ts : List Lexeme) (x : List Group × List Lexeme) → variables_at ts ≡ Ok x → Spelled SpellsVariables ts x
unfolding variables_at
variables_sound ts x e =
    let gs = bind_ok _ _ _ e in
    let all = list_sound (Mark (Sign symbols.Semicolon)) SpellsGroup (further symbols.Close) group_at (parted SpellsGroup group_at symbols.Close) group_sound ts gs.0 gs.1 in
    let last = skip_is (Sign symbols.Semicolon) gs.0.1 in
    subst (Spelled SpellsVariables ts) (same_result _ _ gs.2) (record {
      text = all.text ++ last.0;
      cut = joined all.text last.0 (skip (Sign symbols.Semicolon) gs.0.1) all.cut last.1;
      spells = variables all.spells last.2;
    })

inputs_on_sound : (s : Span) (us ts : List Lexeme) (x : List Group × List Lexeme) (o : Option (Span × List Lexeme)) → us ≡ tok (Sign symbols.Open) s ∷ ts → front (Sign symbols.Close) ts ≡ o → inputs_on ts o ≡ Ok x → Spelled SpellsInputs us x
inputs_on_sound s us ts x (Some y) opened at e =
    subst (Spelled SpellsInputs us) (same_result _ _ e) (record {
      text = tok (Sign symbols.Open) s ∷ tok (Sign symbols.Close) y.0 ∷ [];
      cut = glue opened (front_is (Sign symbols.Close) ts y at);
      spells = no_inputs s y.0;
    })
inputs_on_sound s us ts x None opened at e =
    let gs = bind_ok _ _ _ e in
    let c = bind_ok _ _ _ gs.2 in
    let all = variables_sound ts gs.0 gs.1 in
    let close = expect_is (Sign symbols.Close) gs.0.1 c.0 c.1 in
    let tail = tok (Sign symbols.Close) close.0 ∷ [] in
    subst (Spelled SpellsInputs us) (same_result _ _ c.2) (record {
      text = tok (Sign symbols.Open) s ∷ (all.text ++ tail);
      cut = glue opened (joined all.text tail c.0 all.cut close.1);
      spells = inputs s close.0 all.spells;
    })

pub inputs_sound : (ts : List Lexeme) (x : List Group × List Lexeme) → inputs_at ts ≡ Ok x → Spelled SpellsInputs ts x
unfolding inputs_at
inputs_sound ts x e =
    let o = bind_ok _ _ _ e in
    let opening = expect_is (Sign symbols.Open) ts o.0 o.1 in
    inputs_on_sound opening.0 ts o.0 x (front (Sign symbols.Close) o.0) opening.1 refl o.2

pub outputs_sound : (ts : List Lexeme) (x : List Group × List Lexeme) → outputs_at ts ≡ Ok x → Spelled SpellsOutputs ts x
unfolding outputs_at
outputs_sound ts x e =
    let r = bind_ok _ _ _ e in
    let o = bind_ok _ _ _ r.2 in
    let gs = bind_ok _ _ _ o.2 in
    let c = bind_ok _ _ _ gs.2 in
    let returns = expect_is (Keyword words.Returns) ts r.0 r.1 in
    let opening = expect_is (Sign symbols.Open) r.0 o.0 o.1 in
    let all = variables_sound o.0 gs.0 gs.1 in
    let close = expect_is (Sign symbols.Close) gs.0.1 c.0 c.1 in
    let last = skip_is (Sign symbols.Semicolon) c.0 in
    let tail = tok (Sign symbols.Close) close.0 ∷ last.0 in
    subst (Spelled SpellsOutputs ts) (same_result _ _ c.2) (record {
      text = tok (Keyword words.Returns) returns.0 ∷ tok (Sign symbols.Open) opening.0 ∷ (all.text ++ tail);
      cut = glue returns.1 (glue opening.1 (joined all.text tail (skip (Sign symbols.Semicolon) c.0) all.cut (glue close.1 last.1)));
      spells = outputs returns.0 opening.0 close.0 all.spells last.2;
    })

pub local_sound : (ts : List Lexeme) (x : Group × List Lexeme) → local_at ts ≡ Ok x → Spelled SpellsLocal ts x
unfolding local_at
local_sound ts x e =
    let g = bind_ok _ _ _ e in
    let s = bind_ok _ _ _ g.2 in
    let part = group_sound ts g.0 g.1 in
    let last = expect_is (Sign symbols.Semicolon) g.0.1 s.0 s.1 in
    let tail = tok (Sign symbols.Semicolon) last.0 ∷ [] in
    subst (Spelled SpellsLocal ts) (same_result _ _ s.2) (record {
      text = part.text ++ tail;
      cut = joined part.text tail s.0 part.cut last.1;
      spells = local last.0 part.spells;
    })

abbrev Groups : Type 0
Groups = List Group

abbrev section : Groups → List Lexeme → Reads Groups
section = several_at at_name local_at

record AddedLocals (us : Groups) (ts : List Lexeme) (x : Groups × List Lexeme) : Type 0 where
  items : Groups
  text : List Lexeme
  cut : ts ≡ text ++ x.1
  behind : x.0 ≡ us ++ items
  spells : SpellsLocals items text

sections_on : (others : Groups → List Lexeme → Reads Groups) → ((us : Groups) (ts : List Lexeme) (x : Groups × List Lexeme) → others us ts ≡ Ok x → AddedLocals us ts x)
    → (us : Groups) (ts : List Lexeme) (x : Groups × List Lexeme) (o : Option (List Lexeme)) → after (Keyword words.Var) ts ≡ o → repeat_on (after (Keyword words.Var)) section others us ts o ≡ Ok x → AddedLocals us ts x
sections_on others later us ts x None at e = subst (AddedLocals us ts) (same_result (us, ts) x e) (record { items = []; text = []; cut = refl; behind = sym (append-nil us); spells = no_locals })
sections_on others later us ts x (Some r) at e =
    let b = bind_ok _ _ _ e in
    let w = after_is (Keyword words.Var) ts r at in
    let one = several_sound Nothing SpellsLocal at_name local_at (named_next SpellsLocal local_at) local_sound us r b.0 b.1 in
    let m = later b.0.0 b.0.1 x b.2 in
    record {
      items = one.items ++ m.items;
      text = tok (Keyword words.Var) w.0 ∷ (one.text ++ m.text);
      cut = glue w.1 (joined one.text m.text x.1 one.cut m.cut);
      behind = m.behind ∙ ap (λ q. q ++ m.items) one.behind ∙ append_assoc us one.items m.items;
      spells = locals w.0 one.spells m.spells;
    }

sections_sound : (k : ℕ) (us : Groups) (ts : List Lexeme) (x : Groups × List Lexeme) → repeat_at (after (Keyword words.Var)) section k us ts ≡ Ok x → AddedLocals us ts x
unfolding repeat_at
sections_sound zero us ts x e = absurd cc
sections_sound (suc k) us ts x e = sections_on (repeat_at (after (Keyword words.Var)) section k) (sections_sound k) us ts x (after (Keyword words.Var) ts) refl e

pub locals_sound : (ts : List Lexeme) (x : Groups × List Lexeme) → locals_at ts ≡ Ok x → Spelled SpellsLocals ts x
locals_sound ts x e =
    let m = sections_sound (suc (length ts)) [] ts x e in
    record { text = m.text; cut = m.cut; spells = subst (λ (q : Groups). SpellsLocals q m.text) (sym m.behind) m.spells }

-- ---- equations and nodes

pub left_sound : (ts : List Lexeme) (x : List Named × List Lexeme) → left_at ts ≡ Ok x → Spelled SpellsLeft ts x
unfolding left_at
left_sound ts x e = go (front (Sign symbols.Open) ts) refl e
  where
    go : (o : Option (Span × List Lexeme)) → front (Sign symbols.Open) ts ≡ o → left_on ts o ≡ Ok x → Spelled SpellsLeft ts x
    go None at h = let ns = names_sound ts x h in record { text = ns.text; cut = ns.cut; spells = left ns.spells }
    go (Some y) at h =
        let ns = bind_ok _ _ _ h in
        let c = bind_ok _ _ _ ns.2 in
        let names = names_sound y.1 ns.0 ns.1 in
        let close = expect_is (Sign symbols.Close) ns.0.1 c.0 c.1 in
        let tail = tok (Sign symbols.Close) close.0 ∷ [] in
        subst (Spelled SpellsLeft ts) (same_result _ _ c.2) (record {
          text = tok (Sign symbols.Open) y.0 ∷ (names.text ++ tail);
          cut = glue (front_is (Sign symbols.Open) ts y at) (joined names.text tail c.0 names.cut close.1);
          spells = left_in y.0 close.0 names.spells;
        })

ended_is : (ts : List Lexeme) → (es : List Lexeme) × (ts ≡ es ++ ended ts) × SpellsEnd es
ended_is ts = by_semicolon (front (Sign symbols.Semicolon) ts) refl
  where
    by_dot : (o : Option (Span × List Lexeme)) → front (Sign symbols.Dot) ts ≡ o → (es : List Lexeme) × (ts ≡ es ++ skipped ts o) × SpellsEnd es
    by_dot None at = ([], refl, unmarked)
    by_dot (Some x) at = (tok (Sign symbols.Dot) x.0 ∷ [], front_is (Sign symbols.Dot) ts x at, dot x.0)

    by_semicolon : (o : Option (Span × List Lexeme)) → front (Sign symbols.Semicolon) ts ≡ o → (es : List Lexeme) × (ts ≡ es ++ ended_on ts o) × SpellsEnd es
    by_semicolon None at = by_dot (front (Sign symbols.Dot) ts) refl
    by_semicolon (Some x) at = (tok (Sign symbols.Semicolon) x.0 ∷ [], front_is (Sign symbols.Semicolon) ts x at, semicolon x.0)

module _ (n : ℕ) where
  -- within the limit
  abbrev pub EquationWithin : Equation → List Lexeme → Type 0
  EquationWithin q ts = SpellsEquation q ts × (equation_depth q ≤ n)

  abbrev pub NodeWithin : Node → List Lexeme → Type 0
  NodeWithin m ts = SpellsNode m ts × (node_depth m ≤ n)

  pub equation_sound : (ts : List Lexeme) (x : Equation × List Lexeme) → equation_at n ts ≡ Ok x → Spelled EquationWithin ts x
  unfolding equation_at
  equation_sound ts x e =
      let l = bind_ok _ _ _ e in
      let q = bind_ok _ _ _ l.2 in
      let f = bind_ok _ _ _ q.2 in
      let s = bind_ok _ _ _ f.2 in
      let names = left_sound ts l.0 l.1 in
      let equals = expect_is (Sign symbols.Equal) l.0.1 q.0 q.1 in
      let right = read_sound n Whole q.0 f.0 f.1 in
      let last = expect_is (Sign symbols.Semicolon) f.0.rest s.0 s.1 in
      let closing = tok (Sign symbols.Semicolon) last.0 ∷ [] in
      let tail = tok (Sign symbols.Equal) equals.0 ∷ (right.text ++ closing) in
      let deep = right.deep in
      subst (Spelled EquationWithin ts) (same_result _ _ s.2) (record {
        text = names.text ++ tail;
        cut = joined names.text tail s.0 names.cut (glue equals.1 (joined right.text closing s.0 right.cut last.1));
        spells = (equation equals.0 last.0 names.spells right.spells, omega (arith, deep, right.within));
      })

  all_within : {qs : List Equation} {ts : List Lexeme} → Repeated Nothing EquationWithin qs ts → Repeated Nothing SpellsEquation qs ts × (greatest_by equation_depth qs ≤ n)
  all_within none = (none, omega arith)
  all_within (again s i d) = let m = all_within d in (again s i.0 m.0, max-le i.1 m.1)

  abbrev BodyWithin : List Equation → List Lexeme → Type 0
  BodyWithin qs ts = SpellsBody qs ts × (greatest_by equation_depth qs ≤ n)

  body_sound : (ts : List Lexeme) (x : List Equation × List Lexeme) → body_at n ts ≡ Ok x → Spelled BodyWithin ts x
  unfolding body_at
  body_sound ts x e =
      let l = bind_ok _ _ _ e in
      let qs = bind_ok _ _ _ l.2 in
      let t = bind_ok _ _ _ qs.2 in
      let begin = expect_is (Keyword words.Let) ts l.0 l.1 in
      let all = repeat_sound Nothing EquationWithin at_equation (equation_at n) (equation_next EquationWithin (equation_at n)) equation_sound (suc (length l.0)) [] l.0 qs.0 qs.1 in
      let finish = expect_is (Keyword words.Tel) qs.0.1 t.0 t.1 in
      let last = ended_is t.0 in
      let tail = tok (Keyword words.Tel) finish.0 ∷ last.0 in
      let whole = all_within all.spells in
      let same : all.items ≡ qs.0.0 = sym all.behind in
      subst (Spelled BodyWithin ts) (same_result _ _ t.2) (record {
        text = tok (Keyword words.Let) begin.0 ∷ (all.text ++ tail);
        cut = glue begin.1 (joined all.text tail (ended t.0) all.cut (glue finish.1 last.1));
        spells = subst (λ (us : List Equation). BodyWithin us (tok (Keyword words.Let) begin.0 ∷ (all.text ++ tail))) same (body begin.0 finish.0 whole.0 last.2, whole.1);
      })

  pub node_sound : (k : NodeKind) (w : Span) (us ts : List Lexeme) (x : Node × List Lexeme) → us ≡ tok (Keyword (kind_word k)) w ∷ ts → node_at n k ts ≡ Ok x → Spelled NodeWithin us x
  unfolding node_at
  node_sound k w us ts x at e =
      let m = bind_ok _ _ _ e in
      let i = bind_ok _ _ _ m.2 in
      let o = bind_ok _ _ _ i.2 in
      let v = bind_ok _ _ _ o.2 in
      let q = bind_ok _ _ _ v.2 in
      let is = inputs_sound m.0.1 i.0 i.1 in
      let os = outputs_sound i.0.1 o.0 o.1 in
      let vs = locals_sound o.0.1 v.0 v.1 in
      let qs = body_sound v.0.1 q.0 q.1 in
      subst (Spelled NodeWithin us) (same_result _ _ q.2) (record {
        text = tok (Keyword (kind_word k)) w ∷ ident m.0.0 ∷ (is.text ++ (os.text ++ (vs.text ++ qs.text)));
        cut = glue at (glue (ident_is ts m.0 m.1) (joined is.text (os.text ++ (vs.text ++ qs.text)) q.0.1 is.cut (joined os.text (vs.text ++ qs.text) q.0.1 os.cut (joined vs.text qs.text q.0.1 vs.cut qs.cut))));
        spells = (node k w m.0.0 is.spells os.spells vs.spells qs.spells.0, qs.spells.1);
      })

  -- ---- the whole source

  record AddedTree (t : Tree) (ts : List Lexeme) (y : Tree × List Lexeme) : Type 0 where
    more : Tree
    ended : y.1 ≡ []
    behind : y.0 ≡ tree (t.types ++ more.types) (t.constants ++ more.constants) (t.nodes ++ more.nodes)
    spells : SpellsProgram more ts
    within : tree_depth more ≤ n

  more_types : (t : Tree) (s : Span) (ts : List Lexeme) (ds : List TypeDeclaration × List Lexeme) (y : Tree × List Lexeme) → several_at at_name type_at t.types ts ≡ Ok ds → AddedTree (tree ds.0 t.constants t.nodes) ds.1 y → AddedTree t (tok (Keyword words.Type) s ∷ ts) y
  more_types t s ts ds y e h =
      let m = several_sound Nothing SpellsType at_name type_at (named_next SpellsType type_at) type_sound t.types ts ds e in
      record {
        more = tree (m.items ++ h.more.types) h.more.constants h.more.nodes;
        ended = h.ended;
        behind = h.behind ∙ ap (λ q. tree q (t.constants ++ h.more.constants) (t.nodes ++ h.more.nodes)) (ap (λ q. q ++ h.more.types) m.behind ∙ append_assoc t.types m.items h.more.types);
        spells = subst (SpellsProgram (tree (m.items ++ h.more.types) h.more.constants h.more.nodes)) (ap (λ q. tok (Keyword words.Type) s ∷ q) (sym m.cut)) (with_types (types s m.spells) h.spells);
        within = h.within;
      }

  more_constants : (t : Tree) (s : Span) (ts : List Lexeme) (cs : List Constant × List Lexeme) (y : Tree × List Lexeme) → several_at at_name constant_at t.constants ts ≡ Ok cs → AddedTree (tree t.types cs.0 t.nodes) cs.1 y → AddedTree t (tok (Keyword words.Const) s ∷ ts) y
  more_constants t s ts cs y e h =
      let m = several_sound Nothing SpellsConstant at_name constant_at (named_next SpellsConstant constant_at) constant_sound t.constants ts cs e in
      record {
        more = tree h.more.types (m.items ++ h.more.constants) h.more.nodes;
        ended = h.ended;
        behind = h.behind ∙ ap (λ q. tree (t.types ++ h.more.types) q (t.nodes ++ h.more.nodes)) (ap (λ q. q ++ h.more.constants) m.behind ∙ append_assoc t.constants m.items h.more.constants);
        spells = subst (SpellsProgram (tree h.more.types (m.items ++ h.more.constants) h.more.nodes)) (ap (λ q. tok (Keyword words.Const) s ∷ q) (sym m.cut)) (with_constants (constants s m.spells) h.spells);
        within = h.within;
      }

  one_more_node : (k : NodeKind) (t : Tree) (s : Span) (ts : List Lexeme) (m : Node × List Lexeme) (y : Tree × List Lexeme) → node_at n k ts ≡ Ok m → AddedTree (tree t.types t.constants (t.nodes ++ m.0 ∷ [])) m.1 y → AddedTree t (tok (Keyword (kind_word k)) s ∷ ts) y
  one_more_node k t s ts m y e h =
      let one = node_sound k s (tok (Keyword (kind_word k)) s ∷ ts) ts m refl e in
      record {
        more = tree h.more.types h.more.constants (m.0 ∷ h.more.nodes);
        ended = h.ended;
        behind = h.behind ∙ ap (λ q. tree (t.types ++ h.more.types) (t.constants ++ h.more.constants) q) (append_assoc t.nodes (m.0 ∷ []) h.more.nodes);
        spells = subst (SpellsProgram (tree h.more.types h.more.constants (m.0 ∷ h.more.nodes))) (sym one.cut) (with_node one.spells.0 h.spells);
        within = max-le one.spells.1 h.within;
      }

  declared : (t : Tree) (s : Span) (k : Kind) (ts : List Lexeme) (d y : Tree × List Lexeme) → declaration_on n t k ts ≡ Ok d → AddedTree d.0 d.1 y → AddedTree t (tok k s ∷ ts) y
  declared t s (Keyword words.Type) ts d y e =
      let b = bind_ok _ _ _ e in
      subst (λ (q : Tree × List Lexeme). AddedTree q.0 q.1 y → AddedTree t (tok (Keyword words.Type) s ∷ ts) y) (same_result _ _ b.2) (more_types t s ts b.0 y b.1)
  declared t s (Keyword words.Const) ts d y e =
      let b = bind_ok _ _ _ e in
      subst (λ (q : Tree × List Lexeme). AddedTree q.0 q.1 y → AddedTree t (tok (Keyword words.Const) s ∷ ts) y) (same_result _ _ b.2) (more_constants t s ts b.0 y b.1)
  declared t s (Keyword words.Node) ts d y e =
      let b = bind_ok _ _ _ e in
      subst (λ (q : Tree × List Lexeme). AddedTree q.0 q.1 y → AddedTree t (tok (Keyword words.Node) s ∷ ts) y) (same_result _ _ b.2) (one_more_node kinds.Node t s ts b.0 y b.1)
  declared t s (Keyword words.Function) ts d y e =
      let b = bind_ok _ _ _ e in
      subst (λ (q : Tree × List Lexeme). AddedTree q.0 q.1 y → AddedTree t (tok (Keyword words.Function) s ∷ ts) y) (same_result _ _ b.2) (one_more_node kinds.Function t s ts b.0 y b.1)
  declared t s _ ts d y e = absurd cc

  declared_front : (t : Tree) (ts : List Lexeme) (d y : Tree × List Lexeme) → declaration_at n t ts ≡ Ok d → AddedTree d.0 d.1 y → AddedTree t ts y
  unfolding declaration_at
  declared_front t [] d y e h = absurd cc
  declared_front t (k ∷ ts) d y e h = declared t k.span k.kind ts d y e h

  declarations_on : (others : Tree → List Lexeme → Reads Tree) → ((t : Tree) (ts : List Lexeme) (y : Tree × List Lexeme) → others t ts ≡ Ok y → AddedTree t ts y)
      → (t : Tree) (ts : List Lexeme) (y : Tree × List Lexeme) → repeat_on at_token (declaration_at n) others t ts (at_token ts) ≡ Ok y → AddedTree t ts y
  declarations_on others later t [] y e =
      subst (AddedTree t []) (same_result (t, []) y e) (record {
        more = tree [] [] [];
        ended = refl;
        behind = rw (append-nil t.types, append-nil t.constants, append-nil t.nodes) refl;
        spells = empty;
        within = omega arith;
      })
  declarations_on others later t (k ∷ ts) y e =
      let b = bind_ok _ _ _ e in
      declared_front t (k ∷ ts) b.0 y b.1 (later b.0.0 b.0.1 y b.2)

  declarations_sound : (k : ℕ) (t : Tree) (ts : List Lexeme) (y : Tree × List Lexeme) → repeat_at at_token (declaration_at n) k t ts ≡ Ok y → AddedTree t ts y
  unfolding repeat_at
  declarations_sound zero t ts y e = absurd cc
  declarations_sound (suc k) t ts y e = declarations_on (repeat_at at_token (declaration_at n) k) (declarations_sound k) t ts y e

  abbrev ok_tree : Tree → Result Tree Fault
  ok_tree t = Ok t

  -- what is read of all the tokens is spelled by them, within the limit
  pub program_sound : (ts : List Lexeme) (t : Tree) → program_at n ts ≡ Ok t → SpellsProgram t ts × (tree_depth t ≤ n)
  unfolding program_at
  program_sound ts t e =
      let b = bind_ok _ _ _ e in
      let m = declarations_sound (suc (length ts)) (tree [] [] []) ts b.0 b.1 in
      let same : m.more ≡ t = sym m.behind ∙ same_result b.0.0 t b.2 in
      subst (λ (u : Tree). SpellsProgram u ts × (tree_depth u ≤ n)) same (m.spells, m.within)
