use Rattle.std.proofs.Common.{subst}
use Rattle.std.specs.List.{All}
use Rattle.lus_occurrences.specs.Occurrences.{StandsFor}
use Rattle.lus_occurrences.proofs.names.names_of.Goals as goal

pub returns-clause-tokens : goal.returns-clause-tokens
returns-clause-tokens c = c.in_ok-tokens.ensures

pub returns-clause-names : goal.returns-clause-names
returns-clause-names c =
    subst (λ ts. All (StandsFor ts c.in_ok-scopes.scopes.declarations.items) c.in_ok-occurrences.occurrences.items) c.deref-4.ensures.value c.in_ok-occurrences.ensures
