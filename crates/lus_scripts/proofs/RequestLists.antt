-- Requests that are read by themselves.
use Rattle.std.proofs.Common.{◌≡◌, ◌∙◌, ℕ, ap, sym, List, length, map, min, take, Option, Some, None, option_and_then, Result, Ok, Err, IfOk, IfErr, IsUtf8, ◌⊎◌, inl, inr}
use Rattle.std.proofs.lemmas.List.{take-map, take_min}
use Rattle.serde_json.specs.Data.{Data}
use Rattle.serde_json.specs.Read.{read}
use Rattle.lus_values.specs.Names.{Text, Names}
use Rattle.lus_program.specs.Programs.{Node, Program}
use Rattle.lus_requests.specs.declared.request.Request.{Request}
use Rattle.lus_scripts.specs.declared.refusal.ScriptRefusal.{ScriptRefusal}
use Rattle.lus_scripts.specs.declared.refusal.ScriptRefusal.TheVariants.{Json, Memory}
use Rattle.lus_scripts.specs.Requests.{request_alone, request_in}

-- as many of the first as there are
pub first_mapped : {X Y : Type 0} (f : X → Y) (n m : ℕ) (xs ys : List X) → m ≡ min n (length xs) → ys ≡ xs → map f (take m ys) ≡ take n (map f xs)
first_mapped f n m xs ys least same = rw (least, same) (ap (map f) (take_min n xs) ∙ sym (take-map f n xs))

module _ (p : Program) (names : Names) (f : Option Node) (text : Text) where
  pub request_unread : read text ≡ None → request_in p names f text ≡ None
  unfolding request_in
  request_unread none = ap (option_and_then (request_alone p names f)) none

  pub request_read : (d : Data) (r : Option Request) (g : Option Node) → read text ≡ Some d → g ≡ f → request_alone p names g d ≡ r → request_in p names f text ≡ r
  unfolding request_in
  request_read d r g some same is = ap (option_and_then (request_alone p names f)) some ∙ ap (λ h. request_alone p names h d) (sym same) ∙ is

  pub request_accepted : (d : Data) (g : Option Node) (r : Result Request ScriptRefusal) → IsUtf8 text × (read text ≡ Some d) → g ≡ f
      → IfOk r (λ q. request_alone p names g d ≡ Some q) → IfOk r (λ q. IsUtf8 text × (request_in p names f text ≡ Some q))
  request_accepted d g (Ok q) some same is = (some.0, request_read d (Some q) g some.1 same is)
  request_accepted d g (Err e) some same is = tt

  pub request_refused : (d : Data) (g : Option Node) (r : Result Request ScriptRefusal) → IsUtf8 text × (read text ≡ Some d) → g ≡ f
      → IfErr r (λ e. (e ≡ Memory) ⊎ (request_alone p names g d ≡ None)) → IfErr r (λ e. (e ≡ Memory) ⊎ (IsUtf8 text → request_in p names f text ≡ None))
  request_refused d g (Ok q) some same is = tt
  request_refused d g (Err e) some same is =
      elim is [ inl memory ↦ inl memory | inr none ↦ inr (λ utf8. request_read d None g some.1 same none) ]

  pub request_no_json : (e : ScriptRefusal) → (e ≡ Memory) ⊎ ((e ≡ Json) × (IsUtf8 text → read text ≡ None))
      → (e ≡ Memory) ⊎ (IsUtf8 text → request_in p names f text ≡ None)
  request_no_json e is = elim is [ inl memory ↦ inl memory | inr none ↦ inr (λ utf8. request_unread (none.1 utf8)) ]
