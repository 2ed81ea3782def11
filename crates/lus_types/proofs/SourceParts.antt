-- A program has no more parts than its source has bytes: what an expression means has no more than its tokens weigh.
use Rattle.std.proofs.Common.{arith, ◌≡◌, ◌∙◌, refl, ap, ℕ, suc, ◌+◌, ◌≤◌, List, [], ◌∷◌, ◌++◌, length, map, sum_by}
use Rattle.std.proofs.lemmas.List.Sums.{sum_by-cons}
use Rattle.lus_syntax.specs.declared.token.Symbol.TheVariants as symbols
use Rattle.lus_syntax.specs.declared.token.Word.TheVariants as words
use Rattle.lus_syntax.specs.declared.tree.Infix.{Infix}
use Rattle.lus_syntax.specs.declared.tree.Infix.TheVariants as infixes
use Rattle.lus_syntax.specs.declared.tree.Prefix.{Prefix}
use Rattle.lus_syntax.specs.declared.tree.Prefix.TheVariants as prefixes
use Rattle.lus_syntax.specs.Lexemes.{Sign, Keyword, Lexeme, Text, tok}
use Rattle.lus_syntax.specs.Tokens.{Tokens}
use Rattle.lus_syntax.specs.Trees as tree
use Rattle.lus_syntax.specs.Trees.{Lead, Parts, Tree}
use Rattle.lus_spelling.specs.declared.form.Form.{Form}
use Rattle.lus_spelling.specs.Expressions.{ident, label, Level, Spells, SpellsAll, SpellsPart, name, call_empty, call, structure, variadic, parentheses, undotted, dotted, primary, merge, prefixed, bare, first, next, choice, else_choice, else_value, arrow_choice, arrow_value, arrow, whole, fby, when, final, further, argument, init, branch}
use Rattle.lus_spelling.specs.Lists.{Repeated, none, again, Nothing}
use Rattle.lus_spelling.specs.Declarations.{SpellsEquation, equation, SpellsBody, body, SpellsNode, node, SpellsProgram, empty, with_types, with_constants, with_node}
use Rattle.lus_spelling.proofs.Complete.{joined_by}
use Rattle.lus_values.specs.declared.operator.Op.{Op}
use Rattle.lus_values.specs.declared.operator.Operator.TheVariants as operators
use Rattle.lus_program.specs.Programs.{Expression, operate, calls}
use Rattle.lus_program.specs.Parts.{parts, parts_all, node_parts, program_parts}
use Rattle.lus_program.proofs.Parts.{parts-numbered}
use Rattle.lus_source.specs.Heads.{kind_by}
use Rattle.lus_source.specs.Scopes.{Scope}
use Rattle.lus_source.specs.Tables.{scope}
use Rattle.lus_source.specs.Meaning.{are_arguments, list_operation, prefix_meant, infix_meant, meant, all_meant, equation_meant, equations_meant, node_meant, program_of}
use Rattle.lus_types.proofs.FormsMeant.{where_holds, name_holds, call_holds, field_holds, when_holds, merge_holds, structure_holds}
use Rattle.lus_types.proofs.PartSums.{ordered_parts}
use Rattle.lus_types.proofs.Weights.{weight_some, weights, weights_append, tokens_fit}

abbrev HasAtMost : ℕ → Expression → Type 0
HasAtMost n e = parts e ≤ n

prefix_parts : (op : Prefix) (a : Expression) → parts (prefix_meant op a) ≡ suc (parts a)
prefix_parts prefixes.Pre a = refl
prefix_parts op a = omega arith

computed_parts : (op : Infix) (o : Op) (a b : Expression) → op ≡ infixes.Compute o → parts (infix_meant op a b) ≡ suc (parts a + parts b)
computed_parts op o a b is = ap (λ j. parts (infix_meant j a b)) is ∙ omega arith

module _ (s : Scope) where
  mutual
    parts_fit : {level : Level} {t : tree.Expression} {ts : List Lexeme} → Spells level t ts → parts (meant s t) ≤ weights ts
    parts_fit (name n) = name_holds s (HasAtMost 1) (omega arith) n.text (λ x. omega arith) (λ v. omega arith)
    parts_fit (call_empty n o e) = call_holds s (HasAtMost 3) (omega arith) n.text tree.End (all_meant s tree.End) (λ g is. omega arith)
    parts_fit (call n o {us} {ts} h) = call_holds s (HasAtMost (1 + (1 + weights ts))) (omega arith) n.text us (all_meant s us) (λ g is. omega (arith, all_fit h))
    parts_fit (structure n o {us} {ts} h) =
        structure_holds s (HasAtMost (1 + (1 + weights ts))) (omega arith) n.text us (λ t m ns long once. omega (arith, ordered_parts m ns (all_meant s us) long once, all_fit h))
    parts_fit (variadic l op c o {us} {ts} e h) =
        let all = all_fit h in
        let some = weight_some l in
        where_holds s (HasAtMost (weights (tok l c ∷ tok (Sign symbols.Open) o ∷ ts))) (omega arith) (are_arguments us) (operate (operators.Compute (list_operation op)) (all_meant s us)) (omega arith)
    parts_fit (parentheses c e {t} {ts} h) = omega (arith, weights_append ts (tok (Sign symbols.Close) e ∷ []), parts_fit h)
    parts_fit (undotted {t} {ts} h) = parts_fit h
    parts_fit (dotted d x {t} {ts} h) =
        let all = weights_append ts (tok (Sign symbols.Dot) d ∷ ident x ∷ []) in
        omega (arith, all, field_holds s (HasAtMost (suc (weights ts))) (omega arith) (kind_by s (meant s t)) x.text (meant s t) (λ n. omega (arith, parts_fit h)))
    parts_fit (primary {t} {ts} h) = parts_fit h
    parts_fit (merge c n {us} {ts} h) =
        merge_holds s (HasAtMost (1 + (1 + weights ts))) (omega arith) n.text us (λ x m ns long once. omega (arith, ordered_parts m ns (all_meant s us) long once, all_fit h))
    parts_fit (prefixed {level} {operand} {other} l op c {t} {ts} heads e h) = omega (arith, weight_some l, prefix_parts op (meant s t), parts_fit h)
    parts_fit (bare {level} {operand} {other} {t} {ts} heads h) = parts_fit h
    parts_fit (first {level} {operand} {t} {ts} joins h) = parts_fit h
    parts_fit (next {level} {operand} l op c {a} {b} {xs} {ys} joins e may h k) =
        let computed = joined_by level l op e in
        omega (arith, weights_append xs (tok l c ∷ ys), computed_parts op computed.0 (meant s a) (meant s b) computed.1, weight_some l, parts_fit h, parts_fit k)
    parts_fit (choice i t e {c} {a} {b} {xs} {ys} {zs} h k m) =
        let last = tok (Keyword words.Else) e ∷ zs in
        omega (arith, weights_append xs (tok (Keyword words.Then) t ∷ (ys ++ last)), weights_append ys last, parts_fit h, parts_fit k, parts_fit m)
    parts_fit (else_choice {t} {ts} h) = parts_fit h
    parts_fit (else_value {t} {ts} h) = parts_fit h
    parts_fit (arrow_choice {t} {ts} h) = parts_fit h
    parts_fit (arrow_value {t} {ts} h) = parts_fit h
    parts_fit (arrow c {a} {b} {xs} {ys} h k) = omega (arith, weights_append xs (tok (Sign symbols.Arrow) c ∷ ys), parts_fit h, parts_fit k)
    parts_fit (whole {t} {ts} h) = parts_fit h
    parts_fit (fby c {a} {b} {xs} {ys} h k) = omega (arith, weights_append xs (tok (Keyword words.Fby) c ∷ ys), parts_fit h, parts_fit k)
    parts_fit (when w {a} {c} {xs} {ys} h k) =
        let all = weights_append xs (tok (Keyword words.When) w ∷ ys) in
        omega (arith, all, when_holds s (HasAtMost (suc (weights xs))) (omega arith) c (meant s a) (λ u. omega (arith, parts_fit h)))
    parts_fit h = omega arith

    all_fit : {form : Form} {us : Parts} {ts : List Lexeme} → SpellsAll form us ts → parts_all (all_meant s us) ≤ weights ts
    all_fit (final {form} {l} {t} {xs} {es} h closes) = omega (arith, weights_append xs es, part_fits h)
    all_fit (further {form} {l} {t} {us} {xs} {ss} {ys} h separates k) = omega (arith, weights_append xs (ss ++ ys), weights_append ss ys, part_fits h, all_fit k)

    part_fits : {form : Form} {l : Lead} {t : tree.Expression} {ts : List Lexeme} → SpellsPart form l t ts → parts (meant s t) ≤ weights ts
    part_fits (argument {t} {ts} h) = parts_fit h
    part_fits (init x e {t} {ts} h) = omega (arith, parts_fit h)
    part_fits (branch l o a c {t} {ts} h) = omega (arith, weight_some (label l).kind, weights_append ts (tok (Sign symbols.Close) c ∷ []), parts_fit h)

  equation_fits : {q : tree.Equation} {ts : List Lexeme} (n : ℕ) → SpellsEquation q ts → suc (parts (equation_meant s n q).right) ≤ weights ts
  equation_fits n (equation e c {ns} {t} {xs} {ys} targets h) =
      let last = ys ++ tok (Sign symbols.Semicolon) c ∷ [] in
      omega (arith, weights_append xs (tok (Sign symbols.Equal) e ∷ last), weights_append ys (tok (Sign symbols.Semicolon) c ∷ []), parts-numbered n (meant s t), parts_fit h)

  equations_fit : {qs : List tree.Equation} {ts : List Lexeme} (n : ℕ) → Repeated Nothing SpellsEquation qs ts → sum_by (λ q. suc (parts q.right)) (equations_meant s n qs) ≤ weights ts
  equations_fit n none = omega arith
  equations_fit n (again {a} {bs} {ss} {xs} {ys} apart h k) =
      let next = n + calls (meant s a.right) in
      omega (arith, sum_by-cons (λ q. suc (parts q.right)) (equation_meant s n a) (equations_meant s next bs), weights_append ss (xs ++ ys), weights_append xs ys, equation_fits n h, equations_fit next k)

  body_fits : {qs : List tree.Equation} {ts : List Lexeme} → SpellsBody qs ts → sum_by (λ q. suc (parts q.right)) (equations_meant s 0 qs) ≤ weights ts
  body_fits (body l t {qs} {xs} {es} h end) = omega (arith, weights_append xs (tok (Keyword words.Tel) t ∷ es), equations_fit 0 h)

module _ (p : Tree) where
  node_fits : {f : tree.Node} {ts : List Lexeme} → SpellsNode f ts → node_parts (node_meant p f) ≤ weights ts
  node_fits (node k w n {is} {os} {vs} {qs} {ws} {xs} {ys} {zs} ins outs others h) =
      let f : tree.Node = record { kind = k; name = n; inputs = is; outputs = os; locals = vs; equations = qs } in
      omega (arith, weights_append ws (xs ++ (ys ++ zs)), weights_append xs (ys ++ zs), weights_append ys zs, body_fits (scope p f) h)

  nodes_fit : {q : Tree} {ts : List Lexeme} → SpellsProgram q ts → sum_by node_parts (map (node_meant p) q.nodes) ≤ weights ts
  nodes_fit empty = omega arith
  nodes_fit (with_types {more} {ds} {cs} {ns} {xs} {ys} h k) = omega (arith, weights_append xs ys, nodes_fit k)
  nodes_fit (with_constants {more} {cs} {ds} {ns} {xs} {ys} h k) = omega (arith, weights_append xs ys, nodes_fit k)
  nodes_fit (with_node {n} {ns} {ds} {cs} {xs} {ys} h k) = omega (arith, sum_by-cons node_parts (node_meant p n) (map (node_meant p) ns), weights_append xs ys, node_fits h, nodes_fit k)

pub few_parts : (text : Text) (tokens : List Lexeme) (t : Tree) → Tokens text tokens → SpellsProgram t tokens → program_parts (program_of t) ≤ length text
few_parts text tokens t lexed spelled = omega (arith, tokens_fit text tokens lexed, nodes_fit t spelled)
