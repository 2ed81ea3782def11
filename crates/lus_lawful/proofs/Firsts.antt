-- First lines of journals that can be read back.
use Rattle.std.proofs.Common.{◌≡◌, ◌∙◌, ◌==◌, ◌++◌, inl, inr, ℕ, true, false, refl, ap, sym, subst, List, [], ◌∷◌, Option, Some, None, append_assoc, codes}
use Rattle.std.specs.List.{All, list_all}
use Rattle.std.proofs.lemmas.Bool.{and_parts, eq-eqb, true≢false}
use Rattle.std.proofs.lemmas.List.{append_cancel_left, append_cancel_right}
use Rattle.std.proofs.lemmas.List.Elements.{All-head}
use Rattle.std.proofs.lemmas.List.Folds.{list_all-append}
use Rattle.lus_values.specs.Names.{Text}
use Rattle.lus_program.specs.Programs.{Program}
use Rattle.lus_asked.specs.Asked.{IsCaller, is_unbroken}
use Rattle.lus_lines.specs.Lines.{IsPlain}
use Rattle.lus_live_instance.specs.MachineSpecs.Acceptance.{IsAccepted}
use Rattle.lus_live_instance.specs.MachineSpecs.Constructors.{names_of}
use Rattle.lus_replay.specs.Replays.{IsCutShort, IsFirst, items_text}
use Rattle.lus_replay.proofs.Splits.{plain_append, same_before}
use Rattle.lus_lawful.specs.Findings.{IsBehind, IsReadableJournal, behind_text, first_line, texts}
use Rattle.lus_lawful.specs.Heads.{IsHead, ReadsHead}
use Rattle.lus_lawful.specs.Journals.{Journal, head_of, tail_before}
use Rattle.lus_lawful.specs.declared.head.Head.{Head}
use Rattle.lus_lawful.proofs.Places.{places}
use Rattle.lus_lawful.proofs.Words.{node_word, unbroken_plain}

-- ---- the last blank

no_blank_in : (front behind : Text) → list_all is_unbroken (front ++ 32 ∷ behind) ≡ true → ⊥
no_blank_in front behind all =
    let both = and_parts (list_all is_unbroken front) (list_all is_unbroken (32 ∷ behind)) (sym (list_all-append is_unbroken front (32 ∷ behind)) ∙ all) in
    true≢false (sym both.1)

blank_split : (x y a b : Text) → list_all is_unbroken a ≡ true → list_all is_unbroken b ≡ true → x ++ 32 ∷ a ≡ y ++ 32 ∷ b → (x ≡ y) × (a ≡ b)
blank_split x y a b first second same =
    elim (places x y a b 32 32 same) [
      | inl here ↦
          (let tails : 32 ∷ a ≡ 32 ∷ b = append_cancel_left y (32 ∷ a) (32 ∷ b) (ap (λ t. t ++ 32 ∷ a) (sym here.0) ∙ same) in
          let rest : a ≡ b = cc in (here.0, rest))
      | inr (inl later) ↦
          (let spelled : x ++ 32 ∷ a ≡ x ++ 32 ∷ (later.0 ++ 32 ∷ b) =
          same ∙ ap (λ t. t ++ 32 ∷ b) later.1 ∙ append_assoc x (32 ∷ later.0) (32 ∷ b) in
          let tails = append_cancel_left x (32 ∷ a) (32 ∷ (later.0 ++ 32 ∷ b)) spelled in
          let rest : a ≡ later.0 ++ 32 ∷ b = cc in
          absurd (no_blank_in later.0 b (subst (λ t. list_all is_unbroken t ≡ true) rest first)))
      | inr (inr before) ↦
          (let spelled : y ++ 32 ∷ b ≡ y ++ 32 ∷ (before.0 ++ 32 ∷ a) =
          sym same ∙ ap (λ t. t ++ 32 ∷ a) before.1 ∙ append_assoc y (32 ∷ before.0) (32 ∷ a) in
          let tails = append_cancel_left y (32 ∷ b) (32 ∷ (before.0 ++ 32 ∷ a)) spelled in
          let rest : b ≡ before.0 ++ 32 ∷ a = cc in
          absurd (no_blank_in before.0 a (subst (λ t. list_all is_unbroken t ≡ true) rest second)))
    ]

-- ---- first lines

apart : (b c : ℕ) → (b == c) ≡ false → b ≡ c → ⊥
apart b c other same = true≢false (sym (eq-eqb b c same) ∙ other)

-- the first line of an instance and a node in one word each is whole, and not what a crash left of a line
module _ (instance node : Text) (is_instance : IsCaller instance) (is_node : IsCaller node) where
  not_cut : IsCutShort (first_line instance node) → ⊥
  not_cut cut =
      let tail = cut.0 in
      let x = codes "instance " ++ instance in
      let names : (x ++ codes " ") ++ node ≡ tail ++ codes "# cut short" =
      append_cancel_right ((x ++ codes " ") ++ node) (tail ++ codes "# cut short") (codes "\n")
      (cut.1 ∙ sym (append_assoc tail (codes "# cut short") (codes "\n"))) in
      let nodes = blank_split x (tail ++ codes "# cut") node (codes "short") is_node.one_word refl
      (sym (append_assoc x (codes " ") node) ∙ names ∙ sym (append_assoc tail (codes "# cut") (codes " short"))) in
      let instances = blank_split (codes "instance") (tail ++ codes "#") instance (codes "cut") is_instance.one_word refl
      (nodes.0 ∙ sym (append_assoc tail (codes "#") (codes " cut"))) in
      apart 101 35 refl (same_before (codes "instanc") tail [] 101 35 instances.0)

  first_is : IsFirst (first_line instance node)
  first_is =
      let word = plain_append (codes "instance ") instance refl (unbroken_plain instance is_instance.one_word) in
      let blank = plain_append (codes "instance " ++ instance) (codes " ") word refl in
      record {
        ended = record {
          bytes = head_of instance node;
          ended = refl;
          plain = plain_append ((codes "instance " ++ instance) ++ codes " ") node blank (unbroken_plain node is_node.one_word);
        };
        begins = (((instance ++ codes " ") ++ node) ++ codes "\n", refl);
        whole = not_cut;
      }

module _ (p : Program) (accepted : IsAccepted p) where
  word_of : (j : Journal) → IsReadableJournal p j → IsCaller j.node
  word_of j readable = node_word p accepted j.node readable.node readable.named

  pub journal_first : (j : Journal) → IsReadableJournal p j → IsFirst (first_line j.instance j.node)
  journal_first j readable = first_is j.instance j.node readable.instance (word_of j readable)

  pub head_read : (first : Text) (o : Option Head) → ReadsHead first o → (j : Journal) → IsReadableJournal p j
      → first ≡ first_line j.instance j.node → IsHead j.instance j.node o
  head_read first o reads j readable is = reads j.instance j.node readable.instance (word_of j readable) is

  -- what is behind a journal, before the bytes at the end
  abbrev pub rest_of : List Journal → Text → Option (Text × Text)
  rest_of [] tail = None
  rest_of (j ∷ js) tail = Some (first_line j.instance j.node, items_text (names_of p) 0 j.items ++ (texts p js ++ tail))

  pub texts_are : (j : Journal) (js : List Journal) (tail : Text)
      → texts p (j ∷ js) ++ tail ≡ first_line j.instance j.node ++ (items_text (names_of p) 0 j.items ++ (texts p js ++ tail))
  texts_are j js tail =
      let first = first_line j.instance j.node in
      let items = items_text (names_of p) 0 j.items in
      append_assoc (first ++ items) (texts p js) tail ∙ append_assoc first items (texts p js ++ tail)

  pub rest_is : (js : List Journal) (tail : Text) → behind_text (rest_of js tail) (tail_before js tail) ≡ texts p js ++ tail
  rest_is [] tail = refl
  rest_is (j ∷ js) tail = sym (texts_are j js tail)

  pub rest_behind : (js : List Journal) (tail : Text) → All (IsReadableJournal p) js → IsPlain tail → IsBehind (rest_of js tail) (tail_before js tail)
  rest_behind [] tail all plain = plain
  rest_behind (j ∷ js) tail all plain = (journal_first j (All-head (IsReadableJournal p) j js all), refl)
