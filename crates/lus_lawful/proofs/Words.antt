-- The names of an accepted program are words, since a source's names are.
use Rattle.std.proofs.Common.{◌≡◌, ◌∙◌, ◌==◌, ◌&&◌, ◌++◌, ◌+◌, ℕ, zero, suc, Bool, true, false, cond, not, refl, ap, ap₂, sym, subst, List, [], ◌∷◌, map, Option, Some, None, Ok, inl, inr, arith}
use Rattle.std.specs.Prelude.{slice_get}
use Rattle.std.specs.List.{list_all, position_from}
use Rattle.std.specs.Str.{bytes_eq}
use Rattle.std.proofs.lemmas.Bool.{and_from, and_parts}
use Rattle.std.proofs.lemmas.Bool.Decides.{nat_tests}
use Rattle.std.proofs.lemmas.Option.{same_Some}
use Rattle.std.proofs.lemmas.Slice.Eq.{bytes_eq-Decides}
use Rattle.lus_values.specs.Lists.{Each}
use Rattle.lus_values.specs.Names.{Names, Text, name_of}
use Rattle.lus_values.proofs.Lists.{each_append, each_left, each_right}
use Rattle.lus_syntax.specs.declared.token.Place.{Place}
use Rattle.lus_syntax.specs.declared.token.Symbol.{Symbol}
use Rattle.lus_syntax.specs.declared.token.Symbol.TheVariants as signs
use Rattle.lus_syntax.specs.declared.token.Word.{Word}
use Rattle.lus_syntax.specs.Lexemes.{Identifier, Lexeme, Sign, tok}
use Rattle.lus_syntax.specs.Places.{end_of, start}
use Rattle.lus_syntax.specs.Texts.{continues_name, is_text, look_up, meaning, number_within, of_name, of_number, of_symbol, symbols, words}
use Rattle.lus_syntax.specs.Tokens.{Run}
use Rattle.lus_syntax.specs.Trees.{Definition, Named, Node, Tree, TypeDeclaration}
use Rattle.lus_syntax.proofs.Longest.{digit_no_name, of_first}
use Rattle.lus_syntax.proofs.Meanings.{name_meaning, number_meaning, symbol_meaning, text_is_utf8}
use Rattle.lus_spelling.specs.Declarations.{SpellsDefinition, SpellsName, SpellsNames, SpellsNode, SpellsProgram, SpellsType, SpellsTypes, alias, empty, enumeration, name, node, structure, type_declaration, types, with_constants, with_node, with_types}
use Rattle.lus_spelling.specs.Lists.{Listed, Mark, Nothing, Repeated, again, listed, none}
use Rattle.lus_program.specs.Programs.{Node as ProgramNode, Program}
use Rattle.lus_source.specs.Meaning.{node_meant, program_of}
use Rattle.lus_source.specs.Tables.{declared_as, text_of}
use Rattle.lus_asked.specs.Asked.{IsCaller, is_unbroken}
use Rattle.lus_lines.specs.Lines.{IsPlain}
use Rattle.lus_live_instance.specs.MachineSpecs.Acceptance.{IsAccepted}
use Rattle.lus_live_instance.specs.MachineSpecs.Constructors.{constructors_of, names_from, names_of}
use Rattle.lus_live_instance.specs.MachineSpecs.Formals.{node_named}
use Rattle.lus_replay.specs.Replays.{ArePlain}

-- ---- identifiers

continues_unbroken : (b : ℕ) → continues_name b ≡ true → is_unbroken b ≡ true
continues_unbroken b h = grind (arith, nat_tests)

word_unbroken : (bs : Text) → list_all continues_name bs ≡ true → list_all is_unbroken bs ≡ true
word_unbroken [] all = refl
word_unbroken (b ∷ bs) all =
    let parts = and_parts (continues_name b) (list_all continues_name bs) all in
    and_from (is_unbroken b) (list_all is_unbroken bs) (continues_unbroken b parts.0) (word_unbroken bs parts.1)

of_name_is : (text word : Text) (o : Option (Option Word)) → of_name text o ≡ Ok (Identifier word) → text ≡ word
of_name_is text word None is = cc
of_name_is text word (Some None) is = absurd (cc)
of_name_is text word (Some (Some w)) is = absurd (cc)

of_number_no : (word : Text) (o : Option ℕ) → of_number o ≡ Ok (Identifier word) → ⊥
of_number_no word None is = cc
of_number_no word (Some n) is = cc

of_symbol_no : (word : Text) (o : Option Symbol) → of_symbol o ≡ Ok (Identifier word) → ⊥
of_symbol_no word None is = cc
of_symbol_no word (Some s) is = cc

-- the name of an identifier is a word
identifier_word : (text word : Text) → is_text text ≡ true → meaning text ≡ Ok (Identifier word) → IsCaller word
identifier_word [] word one is = absurd (of_first [] one)
identifier_word (b ∷ bs) word one is =
    elim (of_first (b ∷ bs) one) [
      | inl first ↦
          subst IsCaller (of_name_is (b ∷ bs) word (look_up (b ∷ bs) words) (sym (name_meaning (b ∷ bs) one first.0) ∙ is))
          (record { characters = text_is_utf8 (b ∷ bs) one; one_word = word_unbroken (b ∷ bs) first.1 })
      | inr (inl first) ↦
          absurd (of_number_no word (number_within (b ∷ bs)) (sym (number_meaning (b ∷ bs) one (digit_no_name b first.0) first.0) ∙ is))
      | inr (inr first) ↦ absurd (of_symbol_no word (look_up (b ∷ bs) symbols) (sym (symbol_meaning (b ∷ bs) one first.0 first.1) ∙ is))
    ]

-- a token that is an identifier has a word
abbrev IsWordToken : Lexeme → Type 0
IsWordToken t = (word : Text) → t.kind ≡ Identifier word → IsCaller word

tokens_words : (ts : List Lexeme) (at : Place) (text : Text) (to : Place) (rest : Text) → Run ts at text to rest → Each IsWordToken ts
tokens_words [] at text to rest run = tt
tokens_words (t ∷ ts) at text to rest run =
    let here = run.1.token in (
      λ word is. identifier_word here.text word here.longest.is_one (here.means ∙ ap Ok is),
      tokens_words ts (end_of t.span) run.0 to rest run.2,
    )

-- ---- what tokens spell

name_word : {n : Named} {ts : List Lexeme} → SpellsName n ts → Each IsWordToken ts → IsCaller n.text
name_word (name n) all = all.0 n.text refl

further_words : {ns : List Named} {ts : List Lexeme} → Repeated (Mark (Sign signs.Comma)) SpellsName ns ts → Each IsWordToken ts → Each (λ n. IsCaller n.text) ns
further_words none all = tt
further_words (again {a} {bs} {ss} {xs} {ys} apart h k) all =
    let behind = each_right IsWordToken ss (xs ++ ys) all in
    (name_word h (each_left IsWordToken xs ys behind), further_words k (each_right IsWordToken xs ys behind))

names_words : {ns : List Named} {ts : List Lexeme} → SpellsNames ns ts → Each IsWordToken ts → Each (λ n. IsCaller n.text) ns
names_words (listed {a} {bs} {xs} {ys} h k) all = (name_word h (each_left IsWordToken xs ys all), further_words k (each_right IsWordToken xs ys all))

texts_words : (ns : List Named) → Each (λ n. IsCaller n.text) ns → Each IsCaller (map text_of ns)
texts_words [] all = tt
texts_words (n ∷ ns) all = (all.0, texts_words ns all.1)

module _ (p : Tree) where
  abbrev HasWords : TypeDeclaration → Type 0
  HasWords d = Each IsCaller (constructors_of (declared_as p d.definition))

  definition_words : {d : Definition} {ts : List Lexeme} → SpellsDefinition d ts → Each IsWordToken ts → Each IsCaller (constructors_of (declared_as p d))
  definition_words (alias t) all = tt
  definition_words (enumeration e o c {ns} {xs} h) all =
      texts_words ns (names_words h (each_left IsWordToken xs (tok (Sign signs.CloseBrace) c ∷ []) all.1.1))
  definition_words (structure o c {fs} {ws} {xs} {ss} before h behind) all = tt

  type_words : {d : TypeDeclaration} {ts : List Lexeme} → SpellsType d ts → Each IsWordToken ts → HasWords d
  type_words (type_declaration n e s {d} {xs} h) all = definition_words h (each_left IsWordToken xs (tok (Sign signs.Semicolon) s ∷ []) all.1.1)

  further_types : {ds : List TypeDeclaration} {ts : List Lexeme} → Repeated Nothing SpellsType ds ts → Each IsWordToken ts → Each HasWords ds
  further_types none all = tt
  further_types (again {a} {bs} {ss} {xs} {ys} apart h k) all =
      let behind = each_right IsWordToken ss (xs ++ ys) all in
      (type_words h (each_left IsWordToken xs ys behind), further_types k (each_right IsWordToken xs ys behind))

  listed_types : {ds : List TypeDeclaration} {ts : List Lexeme} → Listed Nothing SpellsType ds ts → Each IsWordToken ts → Each HasWords ds
  listed_types (listed {a} {bs} {xs} {ys} h k) all =
      (type_words h (each_left IsWordToken xs ys all), further_types k (each_right IsWordToken xs ys all))

  types_words : {ds : List TypeDeclaration} {ts : List Lexeme} → SpellsTypes ds ts → Each IsWordToken ts → Each HasWords ds
  types_words (types w {ds} {xs} h) all = listed_types h all.1

  node_words : {n : Node} {ts : List Lexeme} → SpellsNode n ts → Each IsWordToken ts → IsCaller n.name.text
  node_words (node k w n {is} {os} {vs} {qs} {ws} {xs} {ys} {zs} ins outs others h) all = all.1.0 n.text refl

  program_words : {t : Tree} {ts : List Lexeme} → SpellsProgram t ts → Each IsWordToken ts
      → Each (λ n. IsCaller n.name.text) t.nodes × Each HasWords t.types
  program_words empty all = (tt, tt)
  program_words (with_types {more} {ds} {cs} {ns} {xs} {ys} h k) all =
      let behind = program_words k (each_right IsWordToken xs ys all) in
      (behind.0, each_append HasWords more ds (types_words h (each_left IsWordToken xs ys all)) behind.1)
  program_words (with_constants {more} {cs} {ds} {ns} {xs} {ys} h k) all = program_words k (each_right IsWordToken xs ys all)
  program_words (with_node {n} {ns} {ds} {cs} {xs} {ys} h k) all =
      let behind = program_words k (each_right IsWordToken xs ys all) in
      ((node_words h (each_left IsWordToken xs ys all), behind.0), behind.1)

  -- ---- what the tree means

  nodes_meant : (ns : List Node) → Each (λ n. IsCaller n.name.text) ns → Each (λ f. IsCaller f.name) (map (node_meant p) ns)
  nodes_meant [] all = tt
  nodes_meant (n ∷ ns) all = (all.0, nodes_meant ns all.1)

  types_meant : (ds : List TypeDeclaration) → Each HasWords ds → Each (Each IsCaller) (names_from (map (λ d. declared_as p d.definition) ds))
  types_meant [] all = tt
  types_meant (d ∷ ds) all = (all.0, types_meant ds all.1)

-- the names of nodes and of constructors
record HasNames (p : Program) : Type 0 where
  nodes : Each (λ f. IsCaller f.name) p.nodes
  constructors : Each (Each IsCaller) (names_of p)

has_names : (p : Program) → IsAccepted p → HasNames p
has_names p accepted =
    let a = accepted.1 in
    let spelled = program_words a.tree a.read.spelled
    (tokens_words a.read.tokens start accepted.0 a.read.lexed.to a.read.lexed.rest a.read.lexed.run) in
    let meant : HasNames (program_of a.tree) = record {
      nodes = nodes_meant a.tree a.tree.nodes spelled.0;
      constructors = types_meant a.tree a.tree.types spelled.1;
    } in
    subst HasNames (sym a.means) meant

-- ---- names that are found

found_word : (word : Text) (k f : ℕ) (fs : List ProgramNode) → Each (λ g. IsCaller g.name) fs
    → position_from (λ g. bytes_eq g.name word) k fs ≡ Some f → IsCaller word
found_word word k f [] all is = absurd (cc)
found_word word k f (g ∷ gs) all is = go (bytes_eq g.name word) refl is (found_word word (k + 1) f gs all.1)
  where
    go : (b : Bool) → bytes_eq g.name word ≡ b → cond b (Some k) (position_from (λ h. bytes_eq h.name word) (k + 1) gs) ≡ Some f
        → (position_from (λ h. bytes_eq h.name word) (k + 1) gs ≡ Some f → IsCaller word) → IsCaller word
    go true same found later = subst IsCaller ((bytes_eq-Decides g.name word).0 same) all.0
    go false same found later = later found

-- the name of a node is a word
pub node_word : (p : Program) → IsAccepted p → (word : Text) (f : ℕ) → node_named p word ≡ Some f → IsCaller word
node_word p accepted word f is = found_word word 0 f p.nodes (has_names p accepted).nodes is

pub unbroken_plain : (bs : Text) → list_all is_unbroken bs ≡ true → IsPlain bs
unbroken_plain [] all = refl
unbroken_plain (b ∷ bs) all =
    let parts = and_parts (is_unbroken b) (list_all is_unbroken bs) all in
    let here = (and_parts (not (b == 32)) (not (b == 10)) parts.0).1 in
    ap₂ (λ x y. x && y) here (unbroken_plain bs parts.1)

got_word : (ws : List Text) (i : ℕ) (word : Text) → Each IsCaller ws → slice_get ws i ≡ Some word → IsCaller word
got_word [] i word all is = absurd (cc)
got_word (w ∷ ws) zero word all is = subst IsCaller (same_Some w word is) all.0
got_word (w ∷ ws) (suc i) word all is = got_word ws i word all.1 is

name_got : (names : Names) (t c : ℕ) (word : Text) → Each (Each IsCaller) names → name_of names t c ≡ Some word → IsCaller word
name_got [] t c word all is = absurd (cc)
name_got (ws ∷ names) zero c word all is = got_word ws c word all.0 is
name_got (ws ∷ names) (suc t) c word all is = name_got names t c word all.1 is

-- no name of a constructor has a line feed
pub names_plain : (p : Program) → IsAccepted p → ArePlain (names_of p)
names_plain p accepted t c word is =
    unbroken_plain word (name_got (names_of p) t c word (has_names p accepted).constructors is).one_word
