-- What is kept is kept of the name that stands there.
use Rattle.std.proofs.Common.{rules, subst}
use Rattle.lus_syntax.specs.Lexemes.{Text}
use Rattle.lus_edits.specs.Kept.{RenamesTokens}
use Rattle.lus_rename.specs.Renaming.{Keeps, SameButForNames}
use Rattle.lus_rename.proofs.Standing.{stands_in_renamed}
use Rattle.lus_rename.proofs.renaming.renamed.Goals as goal

pub returns-clause-tokens : goal.returns-clause-tokens
returns-clause-tokens c =
    let old = c.in-Some-named_at.old.now in
    let kept : Keeps old c.args.name.now c.args.source.now c.as_str.result.now = c.in_ok-keeps.ensures (search rules) in (
      old,
      stands_in_renamed c.args.source.now c.as_str.result.now old c.args.name.now c.in_ok-names.names.tokens.items c.deref.result.now c.args.byte
          c.deref.ensures.value c.in_ok-names.ensures.tokens c.in-Some-named_at.ensures kept.0,
      subst (λ (t : Text). RenamesTokens old c.args.name.now c.args.source.now t) c.as_str.ensures.value kept.0,
    )

pub returns-clause-program : goal.returns-clause-program
returns-clause-program c =
    let kept : Keeps c.in-Some-named_at.old.now c.args.name.now c.args.source.now c.as_str.result.now = c.in_ok-keeps.ensures (search rules) in
    subst (λ (t : Text). SameButForNames c.args.source.now t) c.as_str.ensures.value kept.2
