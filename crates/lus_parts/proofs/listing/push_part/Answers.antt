-- The part that is appended is the expression on the clock.
use Rattle.std.proofs.Common.{◌∙◌, [], ◌∷◌, ◌++◌, ap, map}
use Rattle.std.proofs.lemmas.List.{map-append}
use Rattle.lus_program.specs.Programs.{numbered}
use Rattle.lus_program.specs.View.{expression_of}
use Rattle.lus_streams.specs.Clocks.{at}
use Rattle.lus_parts.specs.Parts.{part_of}
use Rattle.lus_parts.proofs.listing.push_part.Goals as goal

pub returns-clause-found : goal.returns-clause-found
returns-clause-found c =
    let old = map part_of c.args.found.now.items in
    ap (map part_of) c.in_ok-push.ensures.items
    ∙ map-append part_of c.args.found.now.items (_ ∷ [])
    ∙ ap (λ k. old ++ at k (numbered c.args.number (expression_of c.args.expr.now)) ∷ []) c.in_ok-own.ensures
