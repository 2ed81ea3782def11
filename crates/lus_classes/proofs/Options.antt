-- Lemmas on truth values, and on values that may be absent.
use Rattle.std.proofs.Common.{◌≡◌, Bool, true, false, Option, Some, None, is_some, IsSome, true≢false, refl, sym, ap, ◌∙◌}
use Rattle.lus_values.specs.Values.{Value}
use Rattle.lus_streams.specs.Streams.{where_on}
use Rattle.lus_classes.specs.Steps.{guarded}

-- false is not true
pub never : false ≡ true → ⊥
never e = true≢false (sym e)

-- one of two values, by a test
abbrev pub either : Bool → Option Value → Option Value → Option Value
either b u v = elim b [ true ↦ u | false ↦ v ]

pub either_same : (b : Bool) (u u2 v v2 : Option Value) → (b ≡ true → u ≡ u2) → (b ≡ false → v ≡ v2) → either b u v ≡ either b u2 v2
either_same true u u2 v v2 f g = f refl
either_same false u u2 v v2 f g = g refl

pub either_true : (b : Bool) (u v : Option Value) → b ≡ true → either b u v ≡ u
either_true true u v e = refl
either_true false u v e = absurd (never e)

pub either_false : (b : Bool) (u v : Option Value) → b ≡ false → either b u v ≡ v
either_false true u v e = absurd (never (sym e))
either_false false u v e = refl

-- what a guarded value says of the entry that it gives
pub guarded_where : (b : Bool) (v e : Option Value) → guarded b v ≡ Some e → e ≡ where_on b v
guarded_where false v e h = cc
guarded_where true None e h = absurd (cc)
guarded_where true (Some v) e h = cc

pub guarded_some : (b : Bool) (v e : Option Value) → guarded b v ≡ Some e → b ≡ true → IsSome v
guarded_some false v e h t = absurd (never t)
guarded_some true None e h t = absurd (cc)
guarded_some true (Some v) e h t = refl

pub guarded_present : (b : Bool) (v e : Option Value) → guarded b v ≡ Some e → is_some e ≡ b
guarded_present false v None h = refl
guarded_present false v (Some u) h = absurd (cc)
guarded_present true None e h = absurd (cc)
guarded_present true (Some v) None h = absurd (cc)
guarded_present true (Some v) (Some u) h = refl

-- and back
pub where_guarded : (b : Bool) (v e : Option Value) → e ≡ where_on b v → (b ≡ true → IsSome v) → guarded b v ≡ Some e
where_guarded false v e h s = cc
where_guarded true None e h s = absurd (never (s refl))
where_guarded true (Some v) e h s = cc

pub where_same : (b : Bool) (u v : Option Value) → (b ≡ true → u ≡ v) → where_on b u ≡ where_on b v
where_same true u v h = h refl
where_same false u v h = refl

pub where_some : (b : Bool) (v e : Option Value) → e ≡ where_on b v → is_some e ≡ b → b ≡ true → IsSome v
where_some true v e h s t = ap is_some (sym h) ∙ s
where_some false v e h s t = absurd (never t)

pub where_present : (b : Bool) (v : Option Value) → (b ≡ true → IsSome v) → is_some (where_on b v) ≡ b
where_present true v h = h refl
where_present false v h = refl
