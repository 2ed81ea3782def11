-- Values of JSON at the place of a type.
use Rattle.std.proofs.Common.{◌≡◌, ◌∙◌, refl, ap, ap₂, sym, ℕ, zero, suc, ◌-◌, ◌<◌, ◌==◌, List, length, Option, Some, None, option_map, true, if◌then◌else◌, arith, Result, IfOk}
use Rattle.std.specs.Prelude.{option_and_then}
use Rattle.std.specs.Option.{ok_or}
use Rattle.std.proofs.lemmas.Grind.{common_steps}
use Rattle.serde_json.specs.Data.{Data, null, boolean, number, string, array, object, Members}
use Rattle.serde_json.specs.Find.{as_object, get}
use Rattle.lus_values.specs.Names.{Names}
use Rattle.lus_values.specs.Values.{Value, struct, fields_of}
use Rattle.lus_program.specs.declared.types.Kind.{Kind}
use Rattle.lus_syntax.specs.Limits.{most_nesting}
use Rattle.lus_program.specs.Programs.{Field, Program}
use Rattle.lus_scripts.specs.Forms.{each, members_count}
use Rattle.lus_scripts.specs.Scripts.{fields_at, fields_value, scalar, value_at, value_of_json}

pub value_at-scalar : (levels : ℕ) (p : Program) (names : Names) (kind : Option Kind) (d : Data) → as_object d ≡ None → value_at levels p names kind d ≡ scalar names d
value_at-scalar zero p names kind d is = refl
value_at-scalar (suc n) p names kind null is = refl
value_at-scalar (suc n) p names kind (boolean b) is = refl
value_at-scalar (suc n) p names kind (number x) is = refl
value_at-scalar (suc n) p names kind (string t) is = refl
value_at-scalar (suc n) p names kind (array ds) is = refl
value_at-scalar (suc n) p names kind (object ms) is = absurd (cc)

-- the value of an object with as many members as the type has fields
pub value_at-object : (levels : ℕ) (p : Program) (names : Names) (kind : Option Kind) (d : Data) (ms : Members) (fs : List Field) → 0 < levels
    → Some ms ≡ as_object d → Some fs ≡ fields_at p kind
    → value_at levels p names kind d
    ≡ (if members_count d == length fs
    then option_map (λ vs. struct (fields_of vs)) (each (λ f. option_and_then (value_at (levels - 1) p names (Some f.kind)) (get f.name d)) fs) else None)
value_at-object zero p names kind d ms fs some is fields = absurd (omega arith)
value_at-object (suc n) p names kind null ms fs some is fields = absurd (cc)
value_at-object (suc n) p names kind (boolean b) ms fs some is fields = absurd (cc)
value_at-object (suc n) p names kind (number x) ms fs some is fields = absurd (cc)
value_at-object (suc n) p names kind (string t) ms fs some is fields = absurd (cc)
value_at-object (suc n) p names kind (array ds) ms fs some is fields = absurd (cc)
value_at-object (suc n) p names kind (object ns) ms fs some is fields =
    let less : suc n - 1 ≡ n = omega arith in
    ap (option_and_then (fields_value (value_at n p names) ns)) (sym fields)
    ∙ ap (λ m. if members_count (object ns) == length fs
    then option_map (λ vs. struct (fields_of vs)) (each (λ f. option_and_then (value_at m p names (Some f.kind)) (get f.name (object ns))) fs) else None) (sym less)

-- the value of an object with exactly the fields of its type
pub value_at-struct : (levels : ℕ) (p : Program) (names : Names) (kind : Option Kind) (d : Data) (ms : Members) (fs : List Field) (vs : List Value) → 0 < levels
    → Some ms ≡ as_object d → Some fs ≡ fields_at p kind → members_count d ≡ length fs
    → each (λ f. option_and_then (value_at (levels - 1) p names (Some f.kind)) (get f.name d)) fs ≡ Some vs
    → value_at levels p names kind d ≡ Some (struct (fields_of vs))
value_at-struct levels p names kind d ms fs vs some is fields count values =
    let exact : (members_count d == length fs) ≡ true = grind (arith, common_steps) in
    value_at-object levels p names kind d ms fs some is fields
    ∙ ap₂ (λ b o. if b then option_map (λ vs'. struct (fields_of vs')) o else None) exact values

pub ok_part : {X Y E : Type 0} (show : X → Y) (e : E) (o : Option X) (r : Result X E) (a : Option Y) → r ≡ ok_or o e → a ≡ option_map show o → IfOk r (λ x. a ≡ Some (show x))
ok_part show e None r a is same = rw is tt
ok_part show e (Some x) r a is same = rw is same

pub value_of_json-is : (levels : ℕ) (p : Program) (names : Names) (kind : Option Kind) (d : Data) → levels ≡ most_nesting → value_of_json p names kind d ≡ value_at levels p names kind d
unfolding value_of_json
value_of_json-is levels p names kind d is = ap (λ n. value_at n p names kind d) (sym is)
