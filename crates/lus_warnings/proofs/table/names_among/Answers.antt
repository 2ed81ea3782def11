-- The words that were counted are those of the tokens.
use Rattle.std.proofs.Common.{◌≡◌, ◌+◌, ◌∙◌, ℕ, List, [], ◌∷◌, Bor, Bool, true, false, ap, refl, cond, count_by, map, bytes_eq, sym}
use Rattle.std.proofs.lemmas.List.Sums.{sum_by-cons}
use Rattle.std.proofs.lemmas.Result.{IfOk-weaker}
use Rattle.lus_syntax.specs.View.{kind_seen}
use Rattle.lus_warnings.specs.Uses.{word_of}
use Rattle.lus_warnings.proofs.table.names_among.Goals as goal

count_by-map : {X Y : Type 0} (p : Y → Bool) (f : X → Y) (xs : List X) → count_by (λ x. p (f x)) xs ≡ count_by p (map f xs)
count_by-map p f [] = refl
count_by-map p f (x ∷ xs) =
    sum_by-cons (λ y. cond (p (f y)) 1 0) x xs ∙ ap (λ n. cond (p (f x)) 1 0 + n) (count_by-map p f xs)
    ∙ sym (sum_by-cons (λ y. cond (p y) 1 0) (f x) (map f xs))

pub returns : goal.returns
returns c =
    IfOk-weaker c.counted.result _ _ (λ names counts q. counts q ∙ ap (count_by (λ w. bytes_eq q w.now)) c.deref.ensures.value
    ∙ count_by-map (bytes_eq q) (λ w. w.now) c.in_ok-words.words.items ∙ ap (count_by (bytes_eq q)) c.in_ok-words.ensures) c.counted.ensures
