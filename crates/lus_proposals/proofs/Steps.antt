-- A step of the walk over the words of an expression.
use Rattle.std.specs.Prelude.{◌≡◌, ℕ, suc, ◌+◌, ◌-◌, ◌<◌, ◌≤◌, Bool, true, false, List, [], ◌∷◌, ◌++◌, length, get_or, drop, codes, if◌then◌else◌}
use Rattle.std.specs.Borrow.{Bor}
use Rattle.std.proofs.Common.{◌∙◌, ap, sym, arith}
use Rattle.std.proofs.lemmas.List.{append_assoc, at_drop_more}
use Rattle.lus_proposals.specs.declared.binding.Operator.{Operator}
use Rattle.lus_proposals.specs.Words.{Word, is_among, texts}
use Rattle.lus_proposals.specs.Binding.{deeper, depth_behind, ends_operand, higher, operators, shown, stands_free}

chosen : (a b : Bool) (d : ℕ) → (if a then suc d else (if b then d - 1 else d)) ≤ suc d
chosen true b d = omega arith
chosen false true d = omega arith
chosen false false d = omega arith

one_deeper : (w : Word) (d i later : ℕ) → d ≤ i → later ≡ depth_behind w d → later ≤ i + 1
one_deeper w d i later h e =
    let most : depth_behind w d ≤ suc d = chosen (is_among w deeper) (is_among w higher) d in
    omega (arith, e, most, h)

pub one_more : (words : List (Bor (List ℕ))) (i : ℕ) (x : Bor (List ℕ)) (depth later : ℕ) (behind sampled free behind' sampled' : Bool)
    (found found' all : List Operator) → i < length words → depth ≤ i
    → found ++ operators depth behind sampled (texts (drop i words)) ≡ all
    → free ≡ stands_free depth sampled
    → found' ≡ found ++ shown free behind (get_or words i x).now
    → later ≡ depth_behind (get_or words i x).now depth
    → behind' ≡ ends_operand (get_or words i x).now
    → sampled' ≡ is_among (get_or words i x).now (codes "when" ∷ [])
    → (later ≤ i + 1) × (found' ++ operators later behind' sampled' (texts (drop (i + 1) words)) ≡ all)
one_more words i x depth later behind sampled free behind' sampled' found found' all lt le h hs hf hl hb hw =
    let w : Word = (get_or words i x).now in
    let rest : List Word = texts (drop (i + 1) words) in
    let first : operators depth behind sampled (texts (drop i words))
    ≡ shown (stands_free depth sampled) behind w
    ++ operators (depth_behind w depth) (ends_operand w) (is_among w (codes "when" ∷ [])) rest =
    at_drop_more (λ ws. operators depth behind sampled (texts ws)) words i x lt in (
      one_deeper w depth i later le hl,
      ap (λ f. f ++ operators later behind' sampled' rest) hf
          ∙ ap (λ b. (found ++ shown b behind w) ++ operators later behind' sampled' rest) hs
          ∙ ap (λ d. (found ++ shown (stands_free depth sampled) behind w) ++ operators d behind' sampled' rest) hl
          ∙ ap (λ b. (found ++ shown (stands_free depth sampled) behind w) ++ operators (depth_behind w depth) b sampled' rest) hb
          ∙ ap (λ b. (found ++ shown (stands_free depth sampled) behind w) ++ operators (depth_behind w depth) (ends_operand w) b rest) hw
          ∙ append_assoc found (shown (stands_free depth sampled) behind w)
          (operators (depth_behind w depth) (ends_operand w) (is_among w (codes "when" ∷ [])) rest)
          ∙ ap (λ r. found ++ r) (sym first)
          ∙ h,
    )
