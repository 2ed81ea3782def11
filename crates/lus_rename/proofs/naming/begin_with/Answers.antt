-- What was found is the name.
use Rattle.std.proofs.Common.{rules, ◌≡◌, subst}
use Rattle.lus_syntax.specs.Lexemes.{Text}
use Rattle.lus_rename.specs.Renaming.{HaveNameAt}
use Rattle.lus_rename.proofs.naming.begin_with.Goals as goal

pub returns-in-Some : goal.returns-in-Some
returns-in-Some c holds =
    let same : c.in-Some.found.now ≡ c.args.name.now = search rules in
    subst (λ (n : Text). HaveNameAt c.args.tokens.now 0 n) same c.in-Some.ensures
