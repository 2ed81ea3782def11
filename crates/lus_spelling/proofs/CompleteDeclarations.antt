-- Declarations that are spelled are read, if no right side is too deep.
use Rattle.std.proofs.Common.{◌≡◌, ℕ, zero, suc, ◌<◌, max, Bool, true, false, cond, leb, length, List, [], ◌∷◌, ◌++◌, Option, Some, None, Result, Ok, Err, refl, sym, ap, ◌∙◌, append_assoc, length-append, arith, inl, inr}
use Rattle.std.proofs.lemmas.Bool.{le-leb, lt-leb, cases_lt}
use Rattle.std.proofs.lemmas.List.{append-nil}
use Rattle.std.proofs.Math.Nat.{max-le, le-max_left, le-max_right}
use Rattle.lus_syntax.specs.declared.token.Span.{Span}
use Rattle.lus_syntax.specs.declared.token.Symbol.TheVariants as symbols
use Rattle.lus_syntax.specs.declared.token.Word.TheVariants as words
use Rattle.lus_syntax.specs.declared.tree.NodeKind.{NodeKind}
use Rattle.lus_syntax.specs.declared.tree.NodeKind.TheVariants as kinds
use Rattle.lus_syntax.specs.Lexemes.{Sign, Keyword, Lexeme, tok}
use Rattle.lus_syntax.specs.Trees.{Named, Test, TypeName, BoolName, IntName, DeclaredName, Fields, Definition, Alias, Enumeration, StructureOf, TypeDeclaration, Literal, Positive, Negative, TruthValue, ConstructorName, Constant, Group, Equation, Node, Tree}
use Rattle.lus_spelling.specs.Expressions.{ident, depth}
use Rattle.lus_spelling.specs.Lists.{Mark, mark, Nothing, nothing, Optional, absent, present, Repeated, Listed, listed}
use Rattle.lus_spelling.specs.Declarations.{SpellsName, name, SpellsNames, type_token, SpellsFields, fields, SpellsDefinition, alias, enumeration, structure, SpellsType, type_declaration, types, literal, SpellsTypeOf, untyped, typed, SpellsConstant, constant, constants, SpellsClock, always, sampled, SpellsGroup, group, SpellsVariables, variables, SpellsInputs, no_inputs, inputs, SpellsOutputs, outputs, SpellsLocal, local, SpellsLocals, no_locals, locals, SpellsLeft, left, left_in, SpellsEquation, equation, SpellsEnd, unmarked, semicolon, dot, SpellsBody, body, kind_word, SpellsNode, node, tree, SpellsProgram, empty, with_types, with_constants, with_node, greatest_by, equation_depth, node_depth, tree_depth}
use Rattle.lus_spelling.specs.Reading.{Fault, Deep, ◌>>=◌, front, identifier_at}
use Rattle.lus_spelling.specs.ReadingDeclarations.{Reads, repeat_at, others_at, several_at, after, further, at_name, at_equation, at_token, skipped, skip, names_at, type_name_at, fields_at, enumeration_at, structure_at, definition_at, type_at, negative_at, literal_at, type_of_on, type_of_at, constant_at, clock_on, clock_at, group_at, variables_at, inputs_at, outputs_at, local_at, locals_at, left_at, ended, equation_at, body_at, node_at, add_node, declaration_at, program_at}
use Rattle.lus_spelling.proofs.Complete.{weight, no_light, test_again, complete}
use Rattle.lus_spelling.proofs.Repeats.{same_result, every, every_true, repeat_complete, several_complete}

abbrev Anything : List Lexeme → Type 0
Anything ts = Unit {0}

abbrev any : {A : Type 0} → A → Bool
any a = true

-- ---- lists whose items can't be too deep

module _ {A : Type 0} (Separator : List Lexeme → Type 0) (Item : A → List Lexeme → Type 0) (turn : List Lexeme → Option (List Lexeme)) (item : List Lexeme → Reads A) (Follows : List Lexeme → Type 0)
    (read_item : (a : A) (xs : List Lexeme) → Item a xs → (rest : List Lexeme) → Follows rest → item (xs ++ rest) ≡ Ok (a, rest))
    (turns : (ss : List Lexeme) (a : A) (xs : List Lexeme) → Separator ss → Item a xs → (rest : List Lexeme) → turn (ss ++ (xs ++ rest)) ≡ Some (xs ++ rest))
    (follows : (ss : List Lexeme) (a : A) (xs : List Lexeme) → Separator ss → Item a xs → (rest : List Lexeme) → Follows (ss ++ (xs ++ rest)))
    (long : (a : A) (xs : List Lexeme) → Item a xs → 0 < length xs) where
  all_read : {bs : List A} {text : List Lexeme} → Listed Separator Item bs text → (us : List A) (rest : List Lexeme) → Follows rest → turn rest ≡ None → several_at turn item us (text ++ rest) ≡ Ok (us ++ bs, rest)
  all_read {bs} {text} d us rest f stop =
      several_complete Separator Item turn item any Follows read_item turns follows long d us rest f stop
      ∙ ap (λ (b : Bool). cond b (Ok (us ++ bs, rest)) (Err Deep)) (every_true bs)

-- ---- names and types

name_read : (n : Named) (xs : List Lexeme) → SpellsName n xs → (rest : List Lexeme) → Anything rest → identifier_at (xs ++ rest) ≡ Ok (n, rest)
unfolding identifier_at
name_read n xs (name m) rest u = refl

comma_turns : (ss : List Lexeme) (n : Named) (xs : List Lexeme) → Mark (Sign symbols.Comma) ss → SpellsName n xs → (rest : List Lexeme) → after (Sign symbols.Comma) (ss ++ (xs ++ rest)) ≡ Some (xs ++ rest)
comma_turns ss n xs (mark s) d rest = refl

pub name_long : (n : Named) (xs : List Lexeme) → SpellsName n xs → 0 < length xs
name_long n xs (name m) = omega arith

pub names_read : {ns : List Named} {xs : List Lexeme} → SpellsNames ns xs → (rest : List Lexeme) → after (Sign symbols.Comma) rest ≡ None → names_at (xs ++ rest) ≡ Ok (ns, rest)
names_read d rest stop = all_read (Mark (Sign symbols.Comma)) SpellsName (after (Sign symbols.Comma)) identifier_at Anything name_read comma_turns (λ ss a xs s i r. tt) name_long d [] rest tt stop

type_name_read : (t : TypeName) (rest : List Lexeme) → type_name_at (type_token t ∷ rest) ≡ Ok (t, rest)
unfolding type_name_at
type_name_read (BoolName s) rest = refl
type_name_read (IntName s) rest = refl
type_name_read (DeclaredName n) rest = refl

-- names and their type
typed_read : {ns : List Named} {xs : List Lexeme} → SpellsNames ns xs → (c : Span) (t : TypeName) (rest : List Lexeme) → fields_at (xs ++ tok (Sign symbols.Colon) c ∷ type_token t ∷ rest) ≡ Ok (record { names = ns; type_name = t }, rest)
unfolding fields_at
typed_read d c t rest = rw (names_read d (tok (Sign symbols.Colon) c ∷ type_token t ∷ rest) refl, type_name_read t rest) refl

fields_read : (f : Fields) (xs : List Lexeme) → SpellsFields f xs → (rest : List Lexeme) → Anything rest → fields_at (xs ++ rest) ≡ Ok (f, rest)
fields_read f xs (fields c t {ns = ns} {xs = ys} d) rest u = ap fields_at (append_assoc ys (tok (Sign symbols.Colon) c ∷ type_token t ∷ []) rest) ∙ typed_read d c t rest

fields_turn : (ss : List Lexeme) (f : Fields) (xs : List Lexeme) → Mark (Sign symbols.Semicolon) ss → SpellsFields f xs → (rest : List Lexeme) → further symbols.CloseBrace (ss ++ (xs ++ rest)) ≡ Some (xs ++ rest)
fields_turn ss f xs (mark s) (fields c t (listed (name n) d)) rest = refl

pub fields_long : (f : Fields) (xs : List Lexeme) → SpellsFields f xs → 0 < length xs
fields_long f xs (fields c t (listed (name n) d)) = omega arith

brace_stops : {ss : List Lexeme} → Optional (Sign symbols.Semicolon) ss → (c : Span) (rest : List Lexeme) → further symbols.CloseBrace (ss ++ tok (Sign symbols.CloseBrace) c ∷ rest) ≡ None
brace_stops absent c rest = refl
brace_stops (present s) c rest = refl

brace_skips : {ss : List Lexeme} → Optional (Sign symbols.Semicolon) ss → (c : Span) (rest : List Lexeme) → skip (Sign symbols.Semicolon) (ss ++ tok (Sign symbols.CloseBrace) c ∷ rest) ≡ tok (Sign symbols.CloseBrace) c ∷ rest
brace_skips absent c rest = refl
brace_skips (present s) c rest = refl

enumeration_read : (e o c : Span) {ns : List Named} {xs : List Lexeme} → SpellsNames ns xs → (rest : List Lexeme) → definition_at (tok (Keyword words.Enum) e ∷ tok (Sign symbols.OpenBrace) o ∷ (xs ++ tok (Sign symbols.CloseBrace) c ∷ rest)) ≡ Ok (Enumeration ns, rest)
unfolding definition_at enumeration_at
enumeration_read e o c d rest = rw (names_read d (tok (Sign symbols.CloseBrace) c ∷ rest) refl) refl

structure_read : (o c : Span) {fs : List Fields} {xs ss : List Lexeme} → Listed (Mark (Sign symbols.Semicolon)) SpellsFields fs xs → Optional (Sign symbols.Semicolon) ss → (rest : List Lexeme)
    → structure_at (tok (Sign symbols.OpenBrace) o ∷ (xs ++ (ss ++ tok (Sign symbols.CloseBrace) c ∷ rest))) ≡ Ok (StructureOf fs, rest)
unfolding structure_at
structure_read o c {fs} {xs} {ss} d last rest =
    rw (all_read (Mark (Sign symbols.Semicolon)) SpellsFields (further symbols.CloseBrace) fields_at Anything fields_read fields_turn (λ us a ys s i r. tt) fields_long d [] (ss ++ tok (Sign symbols.CloseBrace) c ∷ rest) tt (brace_stops last c rest), brace_skips last c rest) refl

braced : {ws : List Lexeme} → Optional (Keyword words.Struct) ws → (o : Span) (rest : List Lexeme) → definition_at (ws ++ tok (Sign symbols.OpenBrace) o ∷ rest) ≡ structure_at (tok (Sign symbols.OpenBrace) o ∷ rest)
unfolding definition_at
braced absent o rest = refl
braced (present w) o rest = refl

alias_read : (t : TypeName) (rest : List Lexeme) → definition_at (type_token t ∷ rest) ≡ Ok (Alias t, rest)
unfolding definition_at type_name_at
alias_read (BoolName s) rest = refl
alias_read (IntName s) rest = refl
alias_read (DeclaredName n) rest = refl

pub definition_read : {d : Definition} {xs : List Lexeme} → SpellsDefinition d xs → (rest : List Lexeme) → definition_at (xs ++ rest) ≡ Ok (d, rest)
definition_read (alias t) rest = alias_read t rest
definition_read (enumeration e o c {ns} {xs} d) rest =
    ap (λ q. definition_at (tok (Keyword words.Enum) e ∷ tok (Sign symbols.OpenBrace) o ∷ q)) (append_assoc xs (tok (Sign symbols.CloseBrace) c ∷ []) rest) ∙ enumeration_read e o c d rest
definition_read (structure o c {fs} {ws} {xs} {ss} w d last) rest =
    let closing = tok (Sign symbols.CloseBrace) c ∷ [] in
    ap definition_at (append_assoc ws (tok (Sign symbols.OpenBrace) o ∷ (xs ++ (ss ++ closing))) rest)
    ∙ ap (λ q. definition_at (ws ++ tok (Sign symbols.OpenBrace) o ∷ q)) (append_assoc xs (ss ++ closing) rest ∙ ap (λ q. xs ++ q) (append_assoc ss closing rest))
    ∙ braced w o (xs ++ (ss ++ tok (Sign symbols.CloseBrace) c ∷ rest)) ∙ structure_read o c d last rest

type_read : (d : TypeDeclaration) (xs : List Lexeme) → SpellsType d xs → (rest : List Lexeme) → Anything rest → type_at (xs ++ rest) ≡ Ok (d, rest)
unfolding type_at identifier_at
type_read d xs (type_declaration n e s {d = f} {xs = ys} h) rest u =
    ap (λ q. type_at (ident n ∷ tok (Sign symbols.Equal) e ∷ q)) (append_assoc ys (tok (Sign symbols.Semicolon) s ∷ []) rest) ∙ rw (definition_read h (tok (Sign symbols.Semicolon) s ∷ rest)) refl

type_turns : (ss : List Lexeme) (d : TypeDeclaration) (xs : List Lexeme) → Nothing ss → SpellsType d xs → (rest : List Lexeme) → at_name (ss ++ (xs ++ rest)) ≡ Some (xs ++ rest)
type_turns ss d xs nothing (type_declaration n e s h) rest = refl

pub type_long : (d : TypeDeclaration) (xs : List Lexeme) → SpellsType d xs → 0 < length xs
type_long d xs (type_declaration n e s h) = omega arith

pub types_read : {ds : List TypeDeclaration} {xs : List Lexeme} → Listed Nothing SpellsType ds xs → (us : List TypeDeclaration) (rest : List Lexeme) → at_name rest ≡ None → several_at at_name type_at us (xs ++ rest) ≡ Ok (us ++ ds, rest)
types_read d us rest stop = all_read Nothing SpellsType at_name type_at Anything type_read type_turns (λ ss a xs s i r. tt) type_long d us rest tt stop

-- ---- constants

literal_read : (v : Literal) (rest : List Lexeme) → literal_at (literal v ++ rest) ≡ Ok (v, rest)
unfolding literal_at negative_at
literal_read (Positive n s) rest = refl
literal_read (Negative m n s) rest = refl
literal_read (TruthValue true s) rest = refl
literal_read (TruthValue false s) rest = refl
literal_read (ConstructorName n) rest = refl

type_of_read : {t : Option TypeName} {xs : List Lexeme} → SpellsTypeOf t xs → (rest : List Lexeme) → front (Sign symbols.Colon) rest ≡ None → type_of_at (xs ++ rest) ≡ Ok (t, rest)
unfolding type_of_at
type_of_read untyped rest stop = ap (type_of_on rest) stop
type_of_read (typed c t) rest stop = rw (type_name_read t rest) refl

constant_read : (k : Constant) (xs : List Lexeme) → SpellsConstant k xs → (rest : List Lexeme) → Anything rest → constant_at (xs ++ rest) ≡ Ok (k, rest)
unfolding constant_at identifier_at
constant_read k xs (constant n e s v {t = t} {xs = ys} h) rest u =
    let closing = tok (Sign symbols.Semicolon) s ∷ [] in
    let more = literal v ++ tok (Sign symbols.Semicolon) s ∷ rest in
    ap (λ q. constant_at (ident n ∷ q)) (append_assoc ys (tok (Sign symbols.Equal) e ∷ (literal v ++ closing)) rest ∙ ap (λ q. ys ++ tok (Sign symbols.Equal) e ∷ q) (append_assoc (literal v) closing rest))
    ∙ rw (type_of_read h (tok (Sign symbols.Equal) e ∷ more) refl, literal_read v (tok (Sign symbols.Semicolon) s ∷ rest)) refl

constant_turns : (ss : List Lexeme) (k : Constant) (xs : List Lexeme) → Nothing ss → SpellsConstant k xs → (rest : List Lexeme) → at_name (ss ++ (xs ++ rest)) ≡ Some (xs ++ rest)
constant_turns ss k xs nothing (constant n e s v h) rest = refl

pub constant_long : (k : Constant) (xs : List Lexeme) → SpellsConstant k xs → 0 < length xs
constant_long k xs (constant n e s v h) = omega arith

pub constants_read : {cs : List Constant} {xs : List Lexeme} → Listed Nothing SpellsConstant cs xs → (us : List Constant) (rest : List Lexeme) → at_name rest ≡ None → several_at at_name constant_at us (xs ++ rest) ≡ Ok (us ++ cs, rest)
constants_read d us rest stop = all_read Nothing SpellsConstant at_name constant_at Anything constant_read constant_turns (λ ss a xs s i r. tt) constant_long d us rest tt stop

-- ---- variables

abbrev Light : List Lexeme → Type 0
Light ts = weight ts < 1

clock_read : {c : Option Test} {xs : List Lexeme} → SpellsClock c xs → (rest : List Lexeme) → Light rest → clock_at (xs ++ rest) ≡ Ok (c, rest)
unfolding clock_at
clock_read always rest lt = ap (clock_on rest) (no_light (Keyword words.When) rest lt)
clock_read (sampled w d) rest lt = rw (test_again d rest lt) refl

group_read : (g : Group) (xs : List Lexeme) → SpellsGroup g xs → (rest : List Lexeme) → Light rest → group_at (xs ++ rest) ≡ Ok (g, rest)
unfolding group_at
group_read g xs (group k t {ns = ns} {c = c} {xs = ys} {ys = zs} d h) rest lt =
    ap group_at (append_assoc ys (tok (Sign symbols.Colon) k ∷ type_token t ∷ zs) rest) ∙ rw (typed_read d k t (zs ++ rest), clock_read h rest lt) refl

group_turn : (ss : List Lexeme) (g : Group) (xs : List Lexeme) → Mark (Sign symbols.Semicolon) ss → SpellsGroup g xs → (rest : List Lexeme) → further symbols.Close (ss ++ (xs ++ rest)) ≡ Some (xs ++ rest)
group_turn ss g xs (mark s) (group k t (listed (name n) d) h) rest = refl

group_light : (ss : List Lexeme) (g : Group) (xs : List Lexeme) → Mark (Sign symbols.Semicolon) ss → SpellsGroup g xs → (rest : List Lexeme) → Light (ss ++ (xs ++ rest))
group_light ss g xs (mark s) d rest = omega arith

pub group_long : (g : Group) (xs : List Lexeme) → SpellsGroup g xs → 0 < length xs
group_long g xs (group k t (listed (name n) d) h) = omega arith

close_stops : {ss : List Lexeme} → Optional (Sign symbols.Semicolon) ss → (c : Span) (rest : List Lexeme) → further symbols.Close (ss ++ tok (Sign symbols.Close) c ∷ rest) ≡ None
close_stops absent c rest = refl
close_stops (present s) c rest = refl

close_skips : {ss : List Lexeme} → Optional (Sign symbols.Semicolon) ss → (c : Span) (rest : List Lexeme) → skip (Sign symbols.Semicolon) (ss ++ tok (Sign symbols.Close) c ∷ rest) ≡ tok (Sign symbols.Close) c ∷ rest
close_skips absent c rest = refl
close_skips (present s) c rest = refl

close_light : {ss : List Lexeme} → Optional (Sign symbols.Semicolon) ss → (c : Span) (rest : List Lexeme) → Light (ss ++ tok (Sign symbols.Close) c ∷ rest)
close_light absent c rest = omega arith
close_light (present s) c rest = omega arith

variables_read : {gs : List Group} {xs : List Lexeme} → SpellsVariables gs xs → (c : Span) (rest : List Lexeme) → variables_at (xs ++ tok (Sign symbols.Close) c ∷ rest) ≡ Ok (gs, tok (Sign symbols.Close) c ∷ rest)
unfolding variables_at
variables_read (variables {gs} {xs} {ss} d last) c rest =
    ap variables_at (append_assoc xs ss (tok (Sign symbols.Close) c ∷ rest))
    ∙ rw (all_read (Mark (Sign symbols.Semicolon)) SpellsGroup (further symbols.Close) group_at Light group_read group_turn group_light group_long d [] (ss ++ tok (Sign symbols.Close) c ∷ rest) (close_light last c rest) (close_stops last c rest), close_skips last c rest) refl

-- variables begin with a name
not_closed : {gs : List Group} {xs : List Lexeme} → SpellsVariables gs xs → (rest : List Lexeme) → front (Sign symbols.Close) (xs ++ rest) ≡ None
not_closed (variables (listed (group k t (listed (name n) d) h) more) last) rest = refl

pub inputs_read : {gs : List Group} {xs : List Lexeme} → SpellsInputs gs xs → (rest : List Lexeme) → inputs_at (xs ++ rest) ≡ Ok (gs, rest)
unfolding inputs_at
inputs_read (no_inputs o c) rest = refl
inputs_read (inputs o c {gs} {xs} d) rest =
    let more = tok (Sign symbols.Close) c ∷ rest in
    ap (λ q. inputs_at (tok (Sign symbols.Open) o ∷ q)) (append_assoc xs (tok (Sign symbols.Close) c ∷ []) rest) ∙ rw (not_closed d more, variables_read d c rest) refl

skips : {ss : List Lexeme} → Optional (Sign symbols.Semicolon) ss → (rest : List Lexeme) → front (Sign symbols.Semicolon) rest ≡ None → skip (Sign symbols.Semicolon) (ss ++ rest) ≡ rest
skips absent rest stop = ap (skipped rest) stop
skips (present s) rest stop = refl

pub outputs_read : {gs : List Group} {xs : List Lexeme} → SpellsOutputs gs xs → (rest : List Lexeme) → front (Sign symbols.Semicolon) rest ≡ None → outputs_at (xs ++ rest) ≡ Ok (gs, rest)
unfolding outputs_at
outputs_read (outputs r o c {gs} {xs} {ss} d last) rest stop =
    ap (λ q. outputs_at (tok (Keyword words.Returns) r ∷ tok (Sign symbols.Open) o ∷ q)) (append_assoc xs (tok (Sign symbols.Close) c ∷ ss) rest)
    ∙ rw (variables_read d c (ss ++ rest), skips last rest stop) refl

local_read : (g : Group) (xs : List Lexeme) → SpellsLocal g xs → (rest : List Lexeme) → Anything rest → local_at (xs ++ rest) ≡ Ok (g, rest)
unfolding local_at
local_read g xs (local s {g = h} {xs = ys} d) rest u =
    ap local_at (append_assoc ys (tok (Sign symbols.Semicolon) s ∷ []) rest) ∙ rw (group_read h ys d (tok (Sign symbols.Semicolon) s ∷ rest) (omega arith)) refl

local_turns : (ss : List Lexeme) (g : Group) (xs : List Lexeme) → Nothing ss → SpellsLocal g xs → (rest : List Lexeme) → at_name (ss ++ (xs ++ rest)) ≡ Some (xs ++ rest)
local_turns ss g xs nothing (local s (group k t (listed (name n) d) h)) rest = refl

pub local_long : (g : Group) (xs : List Lexeme) → SpellsLocal g xs → 0 < length xs
local_long g xs (local s (group k t (listed (name n) d) h)) = omega arith

section_read : {gs : List Group} {xs : List Lexeme} → Listed Nothing SpellsLocal gs xs → (us : List Group) (rest : List Lexeme) → at_name rest ≡ None → several_at at_name local_at us (xs ++ rest) ≡ Ok (us ++ gs, rest)
section_read d us rest stop = all_read Nothing SpellsLocal at_name local_at Anything local_read local_turns (λ ss a xs s i r. tt) local_long d us rest tt stop

-- no name follows a section
unnamed : {gs : List Group} {xs : List Lexeme} → SpellsLocals gs xs → (rest : List Lexeme) → at_name rest ≡ None → at_name (xs ++ rest) ≡ None
unnamed no_locals rest stop = stop
unnamed (locals w d h) rest stop = refl

sections_read : {gs : List Group} {xs : List Lexeme} → SpellsLocals gs xs → (k : ℕ) (us : List Group) (rest : List Lexeme) → length (xs ++ rest) < k → after (Keyword words.Var) rest ≡ None → at_name rest ≡ None
    → repeat_at (after (Keyword words.Var)) (several_at at_name local_at) k us (xs ++ rest) ≡ Ok (us ++ gs, rest)
unfolding repeat_at
sections_read no_locals zero us rest lt stop end = absurd (omega (arith, lt))
sections_read no_locals (suc k) us rest lt stop end = rw (stop, append-nil us) refl
sections_read (locals w d h) zero us rest lt stop end = absurd (omega (arith, lt))
sections_read (locals w {gs} {hs} {xs} {ys} d h) (suc k) us rest lt stop end =
    let section = several_at at_name local_at in
    let others = repeat_at (after (Keyword words.Var)) section k in
    let all = append_assoc xs ys rest in
    let n = ap length all in
    let m = length-append xs (ys ++ rest) in
    ap (λ q. section us q >>= λ x. others x.0 x.1) all
    ∙ ap (λ (r : Reads (List Group)). r >>= λ x. others x.0 x.1) (section_read d us (ys ++ rest) (unnamed h rest end))
    ∙ sections_read h k (us ++ gs) rest (omega (arith, lt, n, m)) stop end
    ∙ ap (λ (q : List Group). Ok (q, rest)) (append_assoc us gs hs)

pub locals_read : {gs : List Group} {xs : List Lexeme} → SpellsLocals gs xs → (rest : List Lexeme) → after (Keyword words.Var) rest ≡ None → at_name rest ≡ None → locals_at (xs ++ rest) ≡ Ok (gs, rest)
locals_read {gs} {xs} d rest stop end = sections_read d (suc (length (xs ++ rest))) [] rest (omega arith) stop end

-- ---- equations and nodes

left_read : {ns : List Named} {xs : List Lexeme} → SpellsLeft ns xs → (e : Span) (rest : List Lexeme) → left_at (xs ++ tok (Sign symbols.Equal) e ∷ rest) ≡ Ok (ns, tok (Sign symbols.Equal) e ∷ rest)
unfolding left_at
left_read (left d) e rest = rw (unopened d (tok (Sign symbols.Equal) e ∷ rest)) (names_read d (tok (Sign symbols.Equal) e ∷ rest) refl)
  where
    unopened : {ns : List Named} {xs : List Lexeme} → SpellsNames ns xs → (us : List Lexeme) → front (Sign symbols.Open) (xs ++ us) ≡ None
    unopened (listed (name n) more) us = refl
left_read (left_in o c {ns} {xs} d) e rest =
    ap (λ q. left_at (tok (Sign symbols.Open) o ∷ q)) (append_assoc xs (tok (Sign symbols.Close) c ∷ []) (tok (Sign symbols.Equal) e ∷ rest)) ∙ rw (names_read d (tok (Sign symbols.Close) c ∷ tok (Sign symbols.Equal) e ∷ rest) refl) refl

-- the greatest is within a limit where each is
every_within : {A : Type 0} (f : A → ℕ) (n : ℕ) (us : List A) → every (λ a. leb (f a) n) us ≡ leb (greatest_by f us) n
every_within f n [] = sym (le-leb 0 n (omega arith))
every_within f n (a ∷ us) = ap (λ b. cond (leb (f a) n) b false) (every_within f n us) ∙ both (f a) (greatest_by f us)
  where
    both : (x y : ℕ) → cond (leb x n) (leb y n) false ≡ leb (max x y) n
    both x y = elim (cases_lt n x) [
      | inl far ↦ let l = le-max_left x y in rw (lt-leb x n far, lt-leb (max x y) n (omega (arith, far, l))) refl
      | inr le ↦ rw (le-leb x n le) (elim (cases_lt n y) [
        | inl far ↦ let r = le-max_right x y in rw (lt-leb y n far, lt-leb (max x y) n (omega (arith, far, r))) refl
        | inr also ↦ rw (le-leb y n also, le-leb (max x y) n (max-le le also)) refl
      ])
    ]

-- what is read after what isn't too deep
when_within : {A B : Type 0} (b : Bool) (x : A) (f : A → Result B Fault) (y : B) → f x ≡ Ok y → (cond b (Ok x) (Err Deep) >>= f) ≡ cond b (Ok y) (Err Deep)
when_within true x f y e = e
when_within false x f y e = refl

abbrev ok_tree : Tree → Result Tree Fault
ok_tree t = Ok t

module _ (n : ℕ) where
  equation_read : (q : Equation) (xs : List Lexeme) → SpellsEquation q xs → (rest : List Lexeme) → Anything rest → equation_at n (xs ++ rest) ≡ cond (leb (equation_depth q) n) (Ok (q, rest)) (Err Deep)
  unfolding equation_at
  equation_read q us (equation e s {ns = ns} {t = t} {xs = xs} {ys = ys} l d) rest u =
      let closing = tok (Sign symbols.Semicolon) s ∷ [] in
      let last = tok (Sign symbols.Semicolon) s ∷ rest in
      ap (equation_at n) (append_assoc xs (tok (Sign symbols.Equal) e ∷ (ys ++ closing)) rest ∙ ap (λ r. xs ++ tok (Sign symbols.Equal) e ∷ r) (append_assoc ys closing rest))
      ∙ rw (left_read l e (ys ++ last), complete d n last (omega arith)) (when_within (leb (depth t) n) _ _ _ refl)

  equation_turns : (ss : List Lexeme) (q : Equation) (xs : List Lexeme) → Nothing ss → SpellsEquation q xs → (rest : List Lexeme) → at_equation (ss ++ (xs ++ rest)) ≡ Some (xs ++ rest)
  equation_turns ss q xs nothing (equation e s (left (listed (name m) more)) d) rest = refl
  equation_turns ss q xs nothing (equation e s (left_in o c h) d) rest = refl

  pub equation_long : (q : Equation) (xs : List Lexeme) → SpellsEquation q xs → 0 < length xs
  equation_long q xs (equation e s (left (listed (name m) more)) d) = omega arith
  equation_long q xs (equation e s (left_in o c h) d) = omega arith

  equations_read : {qs : List Equation} {xs : List Lexeme} → Repeated Nothing SpellsEquation qs xs → (rest : List Lexeme) → at_equation rest ≡ None → others_at at_equation (equation_at n) [] (xs ++ rest) ≡ cond (leb (greatest_by equation_depth qs) n) (Ok (qs, rest)) (Err Deep)
  equations_read {qs} {xs} d rest stop =
      repeat_complete Nothing SpellsEquation at_equation (equation_at n) (λ q. leb (equation_depth q) n) Anything equation_read equation_turns (λ ss a us s i r. tt) equation_long d (suc (length (xs ++ rest))) [] rest (omega arith) tt stop
      ∙ ap (λ b. cond b (Ok (qs, rest)) (Err Deep)) (every_within equation_depth n qs)

  ended_read : {es : List Lexeme} → SpellsEnd es → (rest : List Lexeme) → front (Sign symbols.Semicolon) rest ≡ None → front (Sign symbols.Dot) rest ≡ None → ended (es ++ rest) ≡ rest
  ended_read unmarked rest no_semicolon no_dot = rw (no_semicolon, no_dot) refl
  ended_read (semicolon s) rest no_semicolon no_dot = refl
  ended_read (dot s) rest no_semicolon no_dot = refl

  body_read : {qs : List Equation} {xs : List Lexeme} → SpellsBody qs xs → (rest : List Lexeme) → front (Sign symbols.Semicolon) rest ≡ None → front (Sign symbols.Dot) rest ≡ None
      → body_at n (xs ++ rest) ≡ cond (leb (greatest_by equation_depth qs) n) (Ok (qs, rest)) (Err Deep)
  unfolding body_at
  body_read (body l t {qs} {xs} {es} d end) rest no_semicolon no_dot =
      let last = tok (Keyword words.Tel) t ∷ (es ++ rest) in
      ap (λ q. body_at n (tok (Keyword words.Let) l ∷ q)) (append_assoc xs (tok (Keyword words.Tel) t ∷ es) rest)
      ∙ rw (equations_read d last refl) (when_within (leb (greatest_by equation_depth qs) n) _ _ _ (ap (λ (q : List Lexeme). Ok (qs, q)) (ended_read end rest no_semicolon no_dot)))

  -- what begins with a declaration's word, or is nothing
  record Fresh (ts : List Lexeme) : Type 0 where
    no_semicolon : front (Sign symbols.Semicolon) ts ≡ None
    no_dot : front (Sign symbols.Dot) ts ≡ None
    no_name : at_name ts ≡ None

  fresh : {t : Tree} {ts : List Lexeme} → SpellsProgram t ts → Fresh ts
  fresh empty = record { no_semicolon = refl; no_dot = refl; no_name = refl }
  fresh (with_types (types w d) h) = record { no_semicolon = refl; no_dot = refl; no_name = refl }
  fresh (with_constants (constants w d) h) = record { no_semicolon = refl; no_dot = refl; no_name = refl }
  fresh (with_node (node kinds.Node w m i o v q) h) = record { no_semicolon = refl; no_dot = refl; no_name = refl }
  fresh (with_node (node kinds.Function w m i o v q) h) = record { no_semicolon = refl; no_dot = refl; no_name = refl }

  -- what stands after the outputs
  not_marked : {vs : List Group} {ys zs : List Lexeme} {qs : List Equation} → SpellsLocals vs ys → SpellsBody qs zs → (rest : List Lexeme) → front (Sign symbols.Semicolon) (ys ++ (zs ++ rest)) ≡ None
  not_marked no_locals (body l t d e) rest = refl
  not_marked (locals w d h) b rest = refl

  not_var : {zs : List Lexeme} {qs : List Equation} → SpellsBody qs zs → (rest : List Lexeme) → after (Keyword words.Var) (zs ++ rest) ≡ None
  not_var (body l t d e) rest = refl

  not_named : {zs : List Lexeme} {qs : List Equation} → SpellsBody qs zs → (rest : List Lexeme) → at_name (zs ++ rest) ≡ None
  not_named (body l t d e) rest = refl

  node_read : (k : NodeKind) (m : Named) {is os vs : List Group} {qs : List Equation} {ws xs ys zs : List Lexeme} → SpellsInputs is ws → SpellsOutputs os xs → SpellsLocals vs ys → SpellsBody qs zs → (rest : List Lexeme) → Fresh rest
      → node_at n k (ident m ∷ ((ws ++ (xs ++ (ys ++ zs))) ++ rest)) ≡ cond (leb (greatest_by equation_depth qs) n) (Ok (record { kind = k; name = m; inputs = is; outputs = os; locals = vs; equations = qs }, rest)) (Err Deep)
  unfolding node_at identifier_at
  node_read k m {is} {os} {vs} {qs} {ws} {xs} {ys} {zs} i o v q rest f =
      let all : (ws ++ (xs ++ (ys ++ zs))) ++ rest ≡ ws ++ (xs ++ (ys ++ (zs ++ rest))) = append_assoc ws (xs ++ (ys ++ zs)) rest ∙ ap (λ u. ws ++ u) (append_assoc xs (ys ++ zs) rest ∙ ap (λ u. xs ++ u) (append_assoc ys zs rest)) in
      ap (λ u. node_at n k (ident m ∷ u)) all
      ∙ rw (inputs_read i (xs ++ (ys ++ (zs ++ rest))), outputs_read o (ys ++ (zs ++ rest)) (not_marked v q rest), locals_read v (zs ++ rest) (not_var q rest) (not_named q rest), body_read q rest f.no_semicolon f.no_dot)
      (when_within (leb (greatest_by equation_depth qs) n) _ _ _ refl)

  -- ---- the whole source

  abbrev joined_tree : Tree → Tree → Tree
  joined_tree u t = tree (u.types ++ t.types) (u.constants ++ t.constants) (u.nodes ++ t.nodes)

  types_step : (w : Span) {more : List TypeDeclaration} {xs : List Lexeme} → Listed Nothing SpellsType more xs → (u : Tree) (ys : List Lexeme) → at_name ys ≡ None → declaration_at n u (tok (Keyword words.Type) w ∷ (xs ++ ys)) ≡ Ok (tree (u.types ++ more) u.constants u.nodes, ys)
  unfolding declaration_at
  types_step w d u ys stop = rw (types_read d u.types ys stop) refl

  constants_step : (w : Span) {more : List Constant} {xs : List Lexeme} → Listed Nothing SpellsConstant more xs → (u : Tree) (ys : List Lexeme) → at_name ys ≡ None → declaration_at n u (tok (Keyword words.Const) w ∷ (xs ++ ys)) ≡ Ok (tree u.types (u.constants ++ more) u.nodes, ys)
  unfolding declaration_at
  constants_step w d u ys stop = rw (constants_read d u.constants ys stop) refl

  word_step : (k : NodeKind) (w : Span) (u : Tree) (ts : List Lexeme) → declaration_at n u (tok (Keyword (kind_word k)) w ∷ ts) ≡ (node_at n k ts >>= add_node n u)
  unfolding declaration_at
  word_step kinds.Node w u ts = refl
  word_step kinds.Function w u ts = refl

  node_step : {m : Node} {xs : List Lexeme} → SpellsNode m xs → (u : Tree) (ys : List Lexeme) → Fresh ys → declaration_at n u (xs ++ ys) ≡ cond (leb (node_depth m) n) (Ok (tree u.types u.constants (u.nodes ++ m ∷ []), ys)) (Err Deep)
  node_step (node k w m {qs = qs} {ws = ws} {xs = xs} {ys = ys} {zs = zs} i o v q) u rest f =
      word_step k w u (ident m ∷ ((ws ++ (xs ++ (ys ++ zs))) ++ rest))
      ∙ rw (node_read k m i o v q rest f) (when_within (leb (greatest_by equation_depth qs) n) _ _ _ refl)

  then_within : {A B : Type 0} (b c : Bool) (x : A) (f : A → Result B Fault) (y : B) → f x ≡ cond c (Ok y) (Err Deep) → (cond b (Ok x) (Err Deep) >>= f) ≡ cond (cond b c false) (Ok y) (Err Deep)
  then_within true c x f y e = e
  then_within false c x f y e = refl

  abbrev others : ℕ → Tree → List Lexeme → Reads Tree
  others k = repeat_at at_token (declaration_at n) k

  abbrev all_fit : List Node → Bool
  all_fit = every (λ m. leb (node_depth m) n)

  front_token : (k : ℕ) (u : Tree) (t : Lexeme) (ts : List Lexeme) → others (suc k) u (t ∷ ts) ≡ (declaration_at n u (t ∷ ts) >>= λ x. others k x.0 x.1)
  unfolding repeat_at
  front_token k u t ts = refl

  node_front : {m : Node} {xs : List Lexeme} → SpellsNode m xs → (k : ℕ) (u : Tree) (ys : List Lexeme) → others (suc k) u (xs ++ ys) ≡ (declaration_at n u (xs ++ ys) >>= λ x. others k x.0 x.1)
  node_front (node kind w m {ws = ws} {xs = xs} {ys = zs} {zs = vs} i o v q) k u ys = front_token k u (tok (Keyword (kind_word kind)) w) (ident m ∷ ((ws ++ (xs ++ (zs ++ vs))) ++ ys))

  pub node_long : {m : Node} {xs : List Lexeme} → SpellsNode m xs → 0 < length xs
  node_long (node kind w m i o v q) = omega arith

  declarations_read : {t : Tree} {ts : List Lexeme} → SpellsProgram t ts → (k : ℕ) (u : Tree) → length ts < k → others k u ts ≡ cond (all_fit t.nodes) (Ok (joined_tree u t, [])) (Err Deep)
  unfolding repeat_at
  declarations_read d zero u lt = absurd (omega (arith, lt))
  declarations_read empty (suc k) u lt = rw (append-nil u.types, append-nil u.constants, append-nil u.nodes) refl
  declarations_read (with_types {more} {ds} {cs} {ns} {ys = ys} (types w {xs = xs} d) h) (suc k) u lt =
      let m = length-append xs ys in
      ap (λ (r : Reads Tree). r >>= λ x. others k x.0 x.1) (types_step w d u ys (fresh h).no_name)
      ∙ declarations_read h k (tree (u.types ++ more) u.constants u.nodes) (omega (arith, lt, m))
      ∙ ap (λ q. cond (all_fit ns) (Ok (tree q (u.constants ++ cs) (u.nodes ++ ns), [])) (Err Deep)) (append_assoc u.types more ds)
  declarations_read (with_constants {more} {cs} {ds} {ns} {ys = ys} (constants w {xs = xs} d) h) (suc k) u lt =
      let m = length-append xs ys in
      ap (λ (r : Reads Tree). r >>= λ x. others k x.0 x.1) (constants_step w d u ys (fresh h).no_name)
      ∙ declarations_read h k (tree u.types (u.constants ++ more) u.nodes) (omega (arith, lt, m))
      ∙ ap (λ q. cond (all_fit ns) (Ok (tree (u.types ++ ds) q (u.nodes ++ ns), [])) (Err Deep)) (append_assoc u.constants more cs)
  declarations_read (with_node {n = m} {ns = ns} {ds = ds} {cs = cs} {xs = xs} {ys = ys} d h) (suc k) u lt =
      let long = node_long d in
      let l = length-append xs ys in
      node_front d k u ys
      ∙ ap (λ (r : Reads Tree). r >>= λ x. others k x.0 x.1) (node_step d u ys (fresh h))
      ∙ then_within (leb (node_depth m) n) (all_fit ns) (tree u.types u.constants (u.nodes ++ m ∷ []), ys) (λ x. others k x.0 x.1) (joined_tree (tree u.types u.constants (u.nodes ++ m ∷ [])) (tree ds cs ns), [])
      (declarations_read h k (tree u.types u.constants (u.nodes ++ m ∷ [])) (omega (arith, lt, long, l)))
      ∙ ap (λ q. cond (all_fit (m ∷ ns)) (Ok (tree (u.types ++ ds) (u.constants ++ cs) q, [])) (Err Deep)) (append_assoc u.nodes (m ∷ []) ns)

  -- what all the tokens spell is read, within the limit
  pub program_read : {t : Tree} {ts : List Lexeme} → SpellsProgram t ts → program_at n ts ≡ cond (leb (tree_depth t) n) (Ok t) (Err Deep)
  unfolding program_at
  program_read {t} {ts} d =
      rw (declarations_read d (suc (length ts)) (tree [] [] []) (omega arith), every_within node_depth n t.nodes) (when_within (leb (tree_depth t) n) _ _ _ refl)

-- tokens spell at most one tree
pub one_tree : (ts : List Lexeme) (t u : Tree) → SpellsProgram t ts → SpellsProgram u ts → t ≡ u
one_tree ts t u d e =
    let n = max (tree_depth t) (tree_depth u) in
    let a = program_read n d ∙ ap (λ b. cond b (ok_tree t) (Err Deep)) (le-leb (tree_depth t) n (le-max_left (tree_depth t) (tree_depth u))) in
    let b = program_read n e ∙ ap (λ b. cond b (ok_tree u) (Err Deep)) (le-leb (tree_depth u) n (le-max_right (tree_depth t) (tree_depth u))) in
    same_result t u (sym a ∙ b)
