-- Names that are a head are that head.
use Rattle.std.proofs.Common.{◌≡◌, ◌∙◌, refl, Result, Ok, Err, IfOk, Bool, true, false, List, [], ◌∷◌, Option, Some, None, option_map, if◌then◌else◌}
use Rattle.std.specs.Prelude.{option_and_then}
use Rattle.lus_values.specs.Names.{Text}
use Rattle.lus_scripts.specs.Forms.{both, each}
use Rattle.lus_scripts.specs.Scripts.{all_distinct, stands_in}
use Rattle.lus_records.specs.Heads.{distinct, head_of, known}

one_more : (b : Bool) (x : Text) (xs h : List Text) (rest : Option (List Text)) → ((t : List Text) → Some t ≡ rest → t ≡ xs)
    → Some h ≡ option_map (λ p. p.0 ∷ p.1) (both (if b then Some x else None) rest) → h ≡ x ∷ xs
one_more true x xs h None before is = absurd (cc)
one_more true x xs h (Some t) before is = let e : t ≡ xs = before t refl in cc
one_more false x xs h rest before is = absurd (cc)

each_known : (columns names h : List Text) → Some h ≡ each (known columns) names → h ≡ names
each_known columns [] h is = cc
each_known columns (x ∷ xs) h is =
    one_more (stands_in columns x) x xs h (each (known columns) xs) (each_known columns xs) is

one_of : (b : Bool) (t h : List Text) → Some h ≡ (if b then Some t else None) → h ≡ t
one_of true t h is = cc
one_of false t h is = absurd (cc)

of_known : (names h : List Text) (o : Option (List Text)) → ((t : List Text) → Some t ≡ o → t ≡ names) → Some h ≡ option_and_then distinct o → h ≡ names
of_known names h None known is = absurd (cc)
of_known names h (Some t) known is = one_of (all_distinct t) t h is ∙ known t refl

pub head_names : (columns names h : List Text) → Some h ≡ head_of columns names → h ≡ names
head_names columns names h is = of_known names h (each (known columns) names) (each_known columns names) is

-- what holds of a value by two facts of it
pub by_both : {A E : Type 0} (r : Result A E) (P Q R : A → Type 0) → ((x : A) → P x → Q x → R x) → IfOk r P → IfOk r Q → IfOk r R
by_both (Ok x) P Q R f p q = f x p q
by_both (Err e) P Q R f p q = tt
