use Rattle.std.proofs.Common.{◌≡◌, ◌++◌, map, drop}
use Rattle.std.specs.List.{zip}
use Rattle.lus_syntax.specs.View.{node_seen}
use Rattle.lus_syntax.specs.Lexemes.{Text}
use Rattle.lus_source.specs.Scopes.{Signature}
use Rattle.lus_source.specs.ScopeView.{signature_of}
use Rattle.lus_source.specs.Tables.{numbered_from, signature_by, signatures_by}
use Rattle.lus_source.specs.ByTable.{kind_in}
use Rattle.lus_source.proofs.signatures.nodes.Given as goal

abbrev pub invariant-loop-place : goal.invariant-loop-place
invariant-loop-place l =
    map signature_of l.all.items ++ map (λ (e : Text × Signature). e.1) (map (λ e. (e.0.name.text, signature_by (kind_in (zip l.types l.kinds)) e.0 e.1)) (numbered_from l.place (map node_seen (drop l.place l.nodes))))
    ≡ map (λ e. e.1) (signatures_by (kind_in (zip l.types l.kinds)) (map node_seen l.nodes))
