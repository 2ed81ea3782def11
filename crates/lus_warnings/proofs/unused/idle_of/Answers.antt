-- One more declaration is idle, and is pushed, or isn't.
use Rattle.std.proofs.Common.{◌≡◌, ◌∙◌, ◌+◌, ◌<◌, ◌++◌, ℕ, List, [], ◌∷◌, Bool, true, false, ap, cond, get_or, length, rules, arith, sym, take, append-nil}
use Rattle.std.specs.List.{filter}
use Rattle.std.proofs.lemmas.Grind.{common_steps}
use Rattle.std.proofs.lemmas.List.Elements.{filter_more}
use Rattle.lus_warnings.specs.Uses.{is_idle_by}
use Rattle.lus_warnings.proofs.unused.idle_of.Goals as goal
use Rattle.lus_warnings.proofs.unused.idle_of.Goals.{then-is_idle+in_ok-push, else-is_idle}

filter_kept : {X : Type 0} (p : X → Bool) (xs : List X) (i : ℕ) (x : X) → i < length xs → x ≡ get_or xs i x → p x ≡ true → filter p (take (i + 1) xs) ≡ filter p (take i xs) ++ (x ∷ [])
filter_kept p xs i x inside is passes =
    filter_more p xs i x inside ∙ ap (λ y. filter p (take i xs) ++ cond (p y) (y ∷ []) []) (sym is)
    ∙ ap (λ b. filter p (take i xs) ++ cond b (x ∷ []) []) passes

filter_left : {X : Type 0} (p : X → Bool) (xs : List X) (i : ℕ) (x : X) → i < length xs → x ≡ get_or xs i x → p x ≡ false → filter p (take (i + 1) xs) ≡ filter p (take i xs)
filter_left p xs i x inside is fails =
    filter_more p xs i x inside ∙ ap (λ y. filter p (take i xs) ++ cond (p y) (y ∷ []) []) (sym is)
    ∙ ap (λ b. filter p (take i xs) ++ cond b (x ∷ []) []) fails ∙ append-nil (filter p (take i xs))

pub loop-declaration-preserved : goal.loop-declaration-preserved
loop-declaration-preserved c =
    let inside : c.loop-declaration.declaration-index < length c.args.declared.now = search rules in
    elim c.if-is_idle.branch [
      | then-is_idle+in_ok-push w ↦
          let passes : is_idle_by c.args.names.now c.declaration-item.result ≡ true = cc in
          let kept = filter_kept (is_idle_by c.args.names.now) c.args.declared.now c.loop-declaration.declaration-index c.declaration-item.result inside c.declaration-item.is passes in
          grind (arith, kept)
      | else-is_idle w ↦
          let fails : is_idle_by c.args.names.now c.declaration-item.result ≡ false = cc in
          let left = filter_left (is_idle_by c.args.names.now) c.args.declared.now c.loop-declaration.declaration-index c.declaration-item.result inside c.declaration-item.is fails in
          grind (arith, left)
    ]
