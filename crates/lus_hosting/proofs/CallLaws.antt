-- The words of a line that is to be a call.
use Rattle.std.proofs.Common.{◌≡◌, ◌∙◌, ◌++◌, true, false, refl, ap, sym, subst, ◌∷◌, Option, Some, None, option_map, arith}
use Rattle.std.specs.Borrow.{Bor}
use Rattle.std.proofs.lemmas.Bool.{true≢false}
use Rattle.std.proofs.lemmas.Str.Pattern.{IsSplitOnceResult, split_after, split_parts}
use Rattle.lus_values.specs.Names.{Text}
use Rattle.lus_hosting.specs.Logs.{IsWord, is_named}
use Rattle.lus_hosting.specs.Turns.{AreCallWords, IsSpelledSo, SplitsCall, calls}
use Rattle.lus_hosting.specs.declared.words.Words.TheVariants as words
use Rattle.lus_hosting.proofs.AnswerLaws.{named_word}
use Rattle.lus_hosting.proofs.WordLaws.{words_split}

-- the one caller as plain data
abbrev pub caller_seen : Option (Bor Text) → Option Text
caller_seen o = option_map (λ t. t.now) o

-- what stands behind the name of an instance
abbrev pub behind : Option Text → Text → Text → Text
behind None c k = c ++ 32 ∷ k
behind (Some n) c k = k

-- a split at the first blank
pub splits_at : (text : Text) (o : Option (Bor Text × Bor Text)) → IsSplitOnceResult 32 text o → SplitsCall None text o
splits_at text None cases = λ caller call word is. absurd (split_after 32 text caller call None cases (omega arith) is word)
splits_at text (Some x) cases = split_parts 32 text (Some x) cases (omega arith)

-- ---- a call's line by its names and what is asked

module _ (o : Option Text) (line i c k : Text) where
  pub spelled_line : IsSpelledSo (calls o) line i c k → line ≡ i ++ 32 ∷ behind o c k
  spelled_line = go o
    where
      go : (o : Option Text) → IsSpelledSo (calls o) line i c k → line ≡ i ++ 32 ∷ behind o c k
      go None spelled = spelled.0
      go (Some n) spelled = spelled.0

  pub spelled_names : IsSpelledSo (calls o) line i c k → (is_named i ≡ true) × (is_named c ≡ true)
  spelled_names = go o
    where
      go : (o : Option Text) → IsSpelledSo (calls o) line i c k → (is_named i ≡ true) × (is_named c ≡ true)
      go None spelled = (spelled.1, spelled.2)
      go (Some n) spelled = (spelled.1, spelled.2)

-- it is read
pub call_read : (o : Option Text) (line : Text) (instance text caller call : Bor Text) → line ≡ instance.now ++ 32 ∷ text.now → is_named instance.now ≡ true
    → is_named caller.now ≡ true → SplitsCall o text.now (Some (caller, call)) → IsSpelledSo (calls o) line instance.now caller.now call.now
call_read None line instance text caller call spelled one other splits =
    (spelled ∙ ap (λ t. instance.now ++ 32 ∷ t) splits.0, one, other)
call_read (Some n) line instance text caller call spelled one other splits =
    (spelled ∙ ap (λ t. instance.now ++ 32 ∷ t) (sym splits.1), one, other, splits.0)

-- ---- whatever it is read as

abbrev IsBack : Option (Bor Text × Bor Text) → Text → Text → Type 0
IsBack None c k = ⊥
IsBack (Some x) c k = (x.0.now ≡ c) × (x.1.now ≡ k)

split_back : (o : Option Text) (line i c k : Text) (s : Option (Bor Text × Bor Text)) → IsSpelledSo (calls o) line i c k → SplitsCall o (behind o c k) s → IsBack s c k
split_back None line i c k None spelled splits = splits c k (named_word c spelled.2) refl
split_back None line i c k (Some x) spelled splits = words_split x.0.now c x.1.now k splits.1 (named_word c spelled.2) (sym splits.0)
split_back (Some n) line i c k None spelled splits = absurd splits
split_back (Some n) line i c k (Some x) spelled splits = (splits.0 ∙ sym spelled.3, splits.1)

module _ (o : Option Text) (line : Text) where
  -- it has a blank
  pub unbroken_no_call : IsSplitOnceResult 32 line None → (i c k : Text) → IsSpelledSo (calls o) line i c k → ⊥
  unbroken_no_call cases i c k spelled =
      let names = spelled_names o line i c k spelled in
      absurd (split_after 32 line i (behind o c k) None cases (omega arith) (spelled_line o line i c k spelled) (named_word i names.0))

  module _ (instance text : Bor Text) (cases : IsSplitOnceResult 32 line (Some (instance, text))) where
    pub line_parts : (line ≡ instance.now ++ 32 ∷ text.now) × IsWord instance.now
    line_parts = split_parts 32 line (Some (instance, text)) cases (omega arith)

    module _ (i c k : Text) (spelled : IsSpelledSo (calls o) line i c k) where
      parts : (instance.now ≡ i) × (text.now ≡ behind o c k)
      parts =
          let names = spelled_names o line i c k spelled in
          split_after 32 line i (behind o c k) (Some (instance, text)) cases (omega arith) (spelled_line o line i c k spelled) (named_word i names.0)

      -- by the name of its instance
      pub instance_named : is_named instance.now ≡ false → ⊥
      instance_named none =
          let names = spelled_names o line i c k spelled in true≢false (sym names.0 ∙ ap is_named (sym parts.0) ∙ none)

      back : (s : Option (Bor Text × Bor Text)) → SplitsCall o text.now s → IsBack s c k
      back s splits = split_back o line i c k s spelled (subst (λ t. SplitsCall o t s) parts.1 splits)

      -- and a caller
      pub caller_split : SplitsCall o text.now None → ⊥
      caller_split splits = back None splits

      module _ (caller call : Bor Text) (splits : SplitsCall o text.now (Some (caller, call))) where
        pub caller_named : is_named caller.now ≡ false → ⊥
        caller_named none =
            let names = spelled_names o line i c k spelled in
            let there = back (Some (caller, call)) splits in
            true≢false (sym names.1 ∙ ap is_named (sym there.0) ∙ none)

        pub call_back : AreCallWords i c k (words.Call instance caller call)
        call_back = let there = back (Some (caller, call)) splits in (parts.0, there.0, there.1)
