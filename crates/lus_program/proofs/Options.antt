-- What gave Some, and which tests of kinds hold.
use Rattle.std.proofs.Common.{◌≡◌, Bool, true, false, List, [], ◌∷◌, Option, Some, None, refl, sym, ap, ap₂, true≢false}
use Rattle.std.proofs.lemmas.Bool.{eqb-true, eq-eqb}
use Rattle.std.specs.Prelude.{option_map}
use Rattle.std.specs.Option.{option_and_then}
use Rattle.lus_program.specs.declared.types.Kind.{Kind}
use Rattle.lus_program.specs.declared.types.Kind.TheVariants as kinds
use Rattle.lus_program.specs.Kinds.{same, all_same, where_true}
use Rattle.lus_values.proofs.Equalities.{and_left, and_right, and_true}

pub and_then_gives : {X Y : Type 0} (f : X → Option Y) (o : Option X) (y : Y) → option_and_then f o ≡ Some y → (x : X) × (o ≡ Some x) × (f x ≡ Some y)
and_then_gives f None y e = cc
and_then_gives f (Some x) y e = (x, refl, e)

pub map_gives : {X Y : Type 0} (f : X → Y) (o : Option X) (y : Y) → option_map f o ≡ Some y → (x : X) × (o ≡ Some x) × (f x ≡ y)
map_gives f None y e = cc
map_gives f (Some x) y e = (x, refl, cc)

pub where_true_gives : {X : Type 0} (b : Bool) (o : Option X) (y : X) → where_true b o ≡ Some y → (b ≡ true) × (o ≡ Some y)
where_true_gives true o y e = (refl, e)
where_true_gives false o y e = cc

pub same_is : (k l : Kind) → same k l ≡ true → k ≡ l
same_is kinds.Bool kinds.Bool e = refl
same_is kinds.Int kinds.Int e = refl
same_is (kinds.Enum t) (kinds.Enum u) e = ap kinds.Enum (eqb-true t u e)
same_is (kinds.Struct t) (kinds.Struct u) e = ap kinds.Struct (eqb-true t u e)
same_is _ _ e = absurd (true≢false (sym e))

pub all_same_is : (ks ls : List Kind) → all_same ks ls ≡ true → ks ≡ ls
all_same_is [] [] e = refl
all_same_is (k ∷ ks) (l ∷ ls) e = ap₂ ◌∷◌ (same_is k l (and_left (same k l) (all_same ks ls) e)) (all_same_is ks ls (and_right (same k l) (all_same ks ls) e))
all_same_is _ _ e = absurd (true≢false (sym e))

pub where_true_is : {X : Type 0} (b : Bool) (o : Option X) → b ≡ true → where_true b o ≡ o
where_true_is true o e = refl
where_true_is false o e = absurd (true≢false (sym e))

pub same_self : (k : Kind) → same k k ≡ true
same_self kinds.Bool = refl
same_self kinds.Int = refl
same_self (kinds.Enum t) = eq-eqb t t refl
same_self (kinds.Struct t) = eq-eqb t t refl

pub all_same_self : (ks : List Kind) → all_same ks ks ≡ true
all_same_self [] = refl
all_same_self (k ∷ ks) = and_true (same k k) (all_same ks ks) (same_self k) (all_same_self ks)
