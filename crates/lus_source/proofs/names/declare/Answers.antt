use Rattle.std.proofs.Common.{rules, ◌≡◌, ◌∙◌, ◌+◌, ◌++◌, ◌∷◌, [], List, sym, ap, arith, map, drop, true, false}
use Rattle.std.specs.Prelude.{string_bytes}
use Rattle.std.proofs.lemmas.Grind.{common_steps}
use Rattle.lus_syntax.specs.declared.tree.Name.{Name}
use Rattle.lus_syntax.specs.Lexemes.{Text}
use Rattle.lus_syntax.specs.View.{names_seen}
use Rattle.lus_source.specs.Tables.{text_of}
use Rattle.lus_source.specs.Named.{is_in, all_new}
use Rattle.lus_source.specs.NameView.{texts}
use Rattle.lus_source.proofs.AppendedNames.{is_in_keys, not_new, is_new_too, grown_keys}
use Rattle.lus_source.proofs.names.declare.Goals as goal

pub returns-then-not-is_new-clause-new : goal.returns-then-not-is_new-clause-new
returns-then-not-is_new-clause-new c =
    let n = string_bytes c.name-item.result.text in
    let keys = c.loop-name.table.keys in
    let split : drop c.loop-name.name-index c.args.names.now ≡ c.name-item.result ∷ drop (c.loop-name.name-index + 1) c.args.names.now = grind (arith, common_steps) in
    let found : is_in (map string_bytes keys) n ≡ true = sym (is_in_keys n keys) ∙ search rules in
    sym c.loop-name.invariant.same ∙ ap (λ (l : List Name). all_new (texts keys) (map text_of (names_seen l))) split ∙ not_new (texts keys) n (map text_of (names_seen (drop (c.loop-name.name-index + 1) c.args.names.now))) found

pub loop-name-preserved : goal.loop-name-preserved
loop-name-preserved c =
    let n = string_bytes c.name-item.result.text in
    let keys = c.loop-name.table.keys in
    let rest = drop (c.loop-name.name-index + 1) c.args.names.now in
    let split : drop c.loop-name.name-index c.args.names.now ≡ c.name-item.result ∷ rest = grind (arith, common_steps) in
    let absent : is_in (map string_bytes keys) n ≡ false = sym (is_in_keys n keys) ∙ search rules in
    let grown : texts c.insert_full.new.self.keys ≡ texts keys ++ n ∷ [] = ap (map string_bytes) c.in_ok-is_new.ensures.keys ∙ grown_keys keys c.in_ok-clone.field-0 n (search rules) absent in
    record {
      kept = grown ∙ grind (arith, common_steps);
      same = ap (λ (k : List Text). all_new k (map text_of (names_seen rest))) grown
          ∙ sym (is_new_too (texts keys) n (map text_of (names_seen rest)) absent)
          ∙ ap (λ (l : List Name). all_new (texts keys) (map text_of (names_seen l))) (sym split) ∙ c.loop-name.invariant.same;
    }
