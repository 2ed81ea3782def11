use Rattle.std.proofs.Common.{◌≡◌, ◌++◌, drop, length}
use Rattle.std.specs.Prelude.{option_map}
use Rattle.lus_source.specs.ScopeView.{scope_of}
use Rattle.lus_types.specs.Wholes.{member_places, parts_seen}
use Rattle.lus_types.proofs.elaboration.parts.member_places.Given as goal

abbrev pub invariant-loop-part : goal.invariant-loop-part
invariant-loop-part l = record {
  so_far : member_places (scope_of l.scope) l.members l.kind (parts_seen l.parts) ≡ option_map (λ ps. l.places.items ++ ps) (member_places (scope_of l.scope) l.members l.kind (parts_seen (drop l.part-index l.parts)));
  alike : length l.places.items ≡ l.part-index;
}
