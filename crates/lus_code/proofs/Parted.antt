-- The parts of one class more.
use Rattle.std.proofs.Common.{◌≡◌, zero, suc, List, [], ◌∷◌, ◌++◌, length, refl, subst, arith, Vec, Global}
use Rattle.lus_classes.specs.Parts.{ArePartsOf}
use Rattle.lus_instructions.specs.declared.class.Class.{Class}
use Rattle.lus_instructions.specs.declared.class.Part.{Part}
use Rattle.lus_emission.specs.Sources.{HaveParts}

pub more_parts : (cs : List Class) (ps : List (Vec Part Global)) (c : Class) (own : Vec Part Global) → length ps ≡ length cs → HaveParts cs ps
    → ArePartsOf c own.items → HaveParts (cs ++ c ∷ []) (ps ++ own ∷ [])
more_parts [] [] c own size have are zero d here =
    let same : c ≡ d = cc in
    record { own = own; found = refl; are = subst (λ (e : Class). ArePartsOf e own.items) same are }
more_parts [] [] c own size have are (suc g) d here = cc
more_parts [] (p ∷ ps) c own size have are g d here = absurd (omega arith)
more_parts (e ∷ cs) [] c own size have are g d here = absurd (omega arith)
more_parts (e ∷ cs) (p ∷ ps) c own size have are zero d here = let was = have zero d here in record { own = was.own; found = was.found; are = was.are }
more_parts (e ∷ cs) (p ∷ ps) c own size have are (suc g) d here =
    let rest = more_parts cs ps c own (omega arith) (λ k x at. let was = have (suc k) x at in record { own = was.own; found = was.found; are = was.are }) are g d here in
    record { own = rest.own; found = rest.found; are = rest.are }
