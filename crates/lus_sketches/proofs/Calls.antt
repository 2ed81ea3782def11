-- Calls of nodes of a name, among parts.
use Rattle.std.proofs.Common.{◌≡◌, ◌++◌, Bool, true, false, List, [], ◌∷◌, refl, ap, cond, map, filter, flat_map, if◌then◌else◌}
use Rattle.std.specs.Str.{bytes_eq}
use Rattle.lus_program.specs.Programs.{call, Program, node_at}
use Rattle.lus_streams.specs.Clocks.{Part, at}
use Rattle.lus_streams.specs.Equations.{Site, sites_in}
use Rattle.lus_values.specs.Names.{Text}
use Rattle.lus_sketches.specs.Paths.{Called, called_by, calls_at, is_of}

module _ (p : Program) (name : Text) where
  one_call : (b : Bool) (s : Site) (cs : List Called) (ss : List Site) → cs ≡ map called_by ss
      → (if b then called_by s ∷ [] else []) ++ cs ≡ map called_by (cond b (s ∷ ss) ss)
  one_call true s cs ss e = ap (λ l. called_by s ∷ l) e
  one_call false s cs ss e = e

  -- the calls among parts are those of the sites
  pub calls_are : (es : List Part) → flat_map (calls_at p name) es ≡ map called_by (filter (is_of p name) (sites_in p es))
  calls_are [] = refl
  calls_are (at k (call g c args) ∷ es) = one_call (bytes_eq (node_at p g).name name) _ _ _ (calls_are es)
  calls_are (_ ∷ es) = calls_are es
