-- Operators give no nil on operands without nil.
use Rattle.std.proofs.Common.{◌≡◌, ℕ, zero, suc, Bool, true, false, cond, ◌||◌, List, [], ◌∷◌, Option, Some, None, refl, sym, ap, ◌∙◌, subst, IsTrue, if◌then◌else◌}
use Rattle.lus_values.specs.declared.operator.Operator.{Operator}
use Rattle.lus_values.specs.declared.operator.Operator.TheVariants.{Compute, If, Structure, Field}
use Rattle.lus_values.specs.Values.{Value, bool, int, struct, nil, Fields, end, field, fields_of}
use Rattle.lus_values.specs.Lists.{Each}
use Rattle.std.specs.Option.{option_and_then, option_map}
use Rattle.lus_values.specs.Operators.{one_int, two_ints, one_bool, two_bools, two_values, count_true, Rule, of_int, of_ints, comparing, of_bool, of_bools, of_alike, counting, rule, computed, choose, field_at, project, is_nil, any_nil, give, apply}
pub use Rattle.lus_values.proofs.Equalities.{and_left, and_right, and_true}
use Rattle.lus_streams.specs.Flags.{nil_free, nil_free_fields, IsNilFree}

abbrev pub AreNilFree : List Value → Type 0
AreNilFree vs = Each (λ v. IsTrue (nil_free v)) vs

pub or_more : (a b a' b' : Bool) → (a ≡ true → a' ≡ true) → (b ≡ true → b' ≡ true) → (a || b) ≡ true → (a' || b') ≡ true
or_more true b a' b' f g h = ap (λ x. x || b') (f refl)
or_more false b true b' f g h = refl
or_more false b false b' f g h = g h

-- what an operand gives on, if every value that it may give is without nil
then_nil_free : {A : Type 0} (f : A → Option Value) → ((a : A) → IsNilFree (f a)) → (o : Option A) → IsNilFree (option_and_then f o)
then_nil_free f h None = tt
then_nil_free f h (Some a) = h a

map_nil_free : {A : Type 0} (f : A → Value) → ((a : A) → IsTrue (nil_free (f a))) → (o : Option A) → IsNilFree (option_map f o)
map_nil_free f h None = tt
map_nil_free f h (Some a) = h a

computed_nil_free : (r : Rule) (vs : List Value) → IsNilFree (computed r vs)
computed_nil_free (of_int f) vs = then_nil_free (λ a. option_map int (f a)) (λ a. map_nil_free int (λ z. refl) (f a)) (one_int vs)
computed_nil_free (of_ints f) vs = then_nil_free (λ p. option_map int (f p.0 p.1)) (λ p. map_nil_free int (λ z. refl) (f p.0 p.1)) (two_ints vs)
computed_nil_free (comparing f) vs = map_nil_free (λ p. bool (f p.0 p.1)) (λ p. refl) (two_ints vs)
computed_nil_free (of_bool f) vs = map_nil_free (λ a. bool (f a)) (λ a. refl) (one_bool vs)
computed_nil_free (of_bools f) vs = map_nil_free (λ p. bool (f p.0 p.1)) (λ p. refl) (two_bools vs)
computed_nil_free (of_alike f) vs = map_nil_free (λ p. bool (f p.0 p.1)) (λ p. refl) (two_values vs)
computed_nil_free (counting f) vs = map_nil_free (λ n. bool (f n)) (λ n. refl) (count_true vs)

if_nil_free : (c : Bool) (a b : Value) → IsTrue (nil_free a) → IsTrue (nil_free b) → IsTrue (nil_free (if c then a else b))
if_nil_free true a b h k = h
if_nil_free false a b h k = k

choose_nil_free : (vs : List Value) → AreNilFree vs → IsNilFree (choose vs)
choose_nil_free (bool c ∷ a ∷ b ∷ []) h = if_nil_free c a b h.1.0 h.1.1.0
choose_nil_free _ h = tt

fields_nil_free : (vs : List Value) → AreNilFree vs → IsTrue (nil_free_fields (fields_of vs))
fields_nil_free [] h = refl
fields_nil_free (v ∷ vs) h = and_true (nil_free v) (nil_free_fields (fields_of vs)) h.0 (fields_nil_free vs h.1)

field_nil_free : (fs : Fields) (n : ℕ) → IsTrue (nil_free_fields fs) → IsNilFree (field_at fs n)
field_nil_free end n h = tt
field_nil_free (field v fs) zero h = and_left (nil_free v) (nil_free_fields fs) h
field_nil_free (field v fs) (suc n) h = field_nil_free fs n (and_right (nil_free v) (nil_free_fields fs) h)

project_nil_free : (n : ℕ) (vs : List Value) → AreNilFree vs → IsNilFree (project n vs)
project_nil_free n (struct fs ∷ []) h = field_nil_free fs n h.0
project_nil_free n _ h = tt

give_nil_free : (o : Operator) (vs : List Value) → AreNilFree vs → IsNilFree (give o vs)
give_nil_free (Compute op) vs h = computed_nil_free (rule op) vs
give_nil_free If vs h = choose_nil_free vs h
give_nil_free (Structure n) vs h = fields_nil_free vs h
give_nil_free (Field n) vs h = project_nil_free n vs h

not_nil : (v : Value) → IsTrue (nil_free v) → is_nil v ≡ false
not_nil nil h = sym h
not_nil _ h = refl

none_nil : (vs : List Value) → AreNilFree vs → any_nil vs ≡ false
none_nil [] h = refl
none_nil (v ∷ vs) h = ap (λ b. b || any_nil vs) (not_nil v h.0) ∙ none_nil vs h.1

pub apply_nil_free : (o : Operator) (vs : List Value) → AreNilFree vs → IsNilFree (apply o vs)
apply_nil_free o vs h = subst (λ b. IsNilFree (cond b (Some nil) (give o vs))) (sym (none_nil vs h)) (give_nil_free o vs h)
