-- The first line of a journal, taken apart.
use Rattle.std.proofs.Common.{◌≡◌, ◌≢◌, ◌∙◌, ◌==◌, ◌++◌, ◌<◌, ℕ, zero, suc, not, true, refl, sym, subst, [], ◌∷◌, length, get_or, drop, append_assoc, arith, codes}
use Rattle.std.specs.Prelude.{IsUtf8, nat_lt}
use Rattle.std.specs.Str.{IsAscii}
use Rattle.std.specs.List.{list_all}
use Rattle.std.proofs.lemmas.Bool.{and_parts, ltb-true, true≢false}
use Rattle.std.proofs.lemmas.List.{append_cancel_left, append_cancel_right}
use Rattle.std.proofs.lemmas.Str.{IsUtf8-append, IsUtf8-from_ascii}
use Rattle.std.proofs.lemmas.Str.Ascii.{IsAscii-cons, IsAscii-nil}
use Rattle.lus_values.specs.Names.{Text}
use Rattle.lus_asked.specs.Asked.{IsCaller, is_unbroken}
use Rattle.lus_lawful.specs.Journals.{head_of}

-- a word has no blank
pub no_blank : (bs : Text) → list_all is_unbroken bs ≡ true → (i : ℕ) → i < length bs → get_or bs i 0 ≢ 32
no_blank [] all i few is = omega (arith, few)
no_blank (b ∷ bs) all zero few is =
    let here = (and_parts (not (b == 32)) (not (b == 10)) (and_parts (is_unbroken b) (list_all is_unbroken bs) all).0).0 in
    true≢false (sym (subst (λ c. not (c == 32) ≡ true) is here))
no_blank (b ∷ bs) all (suc i) few is = no_blank bs (and_parts (is_unbroken b) (list_all is_unbroken bs) all).1 i (omega (arith, few)) is

ascii_utf8 : (bs : Text) → list_all (λ b. nat_lt b 128) bs ≡ true → IsUtf8 bs
ascii_utf8 bs all = IsUtf8-from_ascii bs (ascii bs all)
  where
    ascii : (cs : Text) → list_all (λ b. nat_lt b 128) cs ≡ true → IsAscii cs
    ascii [] all = IsAscii-nil
    ascii (c ∷ cs) all =
        let parts = and_parts (nat_lt c 128) (list_all (λ b. nat_lt b 128) cs) all in IsAscii-cons c cs (ltb-true c 128 parts.0) (ascii cs parts.1)

module _ (line instance node : Text) (is_instance : IsCaller instance) (is_node : IsCaller node) (is : line ≡ head_of instance node ++ codes "\n") where
  pub head_utf8 : IsUtf8 line
  head_utf8 =
      let a = codes "instance " ++ instance in
      let b = a ++ codes " " in
      let c = b ++ node in
      subst IsUtf8 (sym is)
      (IsUtf8-append c (codes "\n")
      (IsUtf8-append b node
      (IsUtf8-append a (codes " ") (IsUtf8-append (codes "instance ") instance (ascii_utf8 (codes "instance ") refl) is_instance.characters) (ascii_utf8 (codes " ") refl))
      is_node.characters) (ascii_utf8 (codes "\n") refl))

  abbrev names : Text
  names = (instance ++ codes " ") ++ node

  -- behind its first word
  pub behind_word : (text rest : Text) (n : ℕ) → text ≡ line → text ≡ codes "instance " ++ drop n text → rest ≡ drop n text → rest ≡ names ++ codes "\n"
  behind_word text rest n same spelled there = there ∙ append_cancel_left (codes "instance ") (drop n text) (names ++ codes "\n") (sym spelled ∙ same ∙ is)

  -- before its line feed
  pub before_feed : (text front : Text) → text ≡ names ++ codes "\n" → text ≡ front ++ 10 ∷ [] → front ≡ instance ++ 32 ∷ node
  before_feed text front same spelled =
      append_cancel_right front names (10 ∷ []) (sym spelled ∙ same) ∙ append_assoc instance (32 ∷ []) node
