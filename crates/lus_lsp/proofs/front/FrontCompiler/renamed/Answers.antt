-- What a renaming keeps is what is asked of it.
use Rattle.lus_lsp.proofs.front.FrontCompiler.renamed.Goals as goal

pub returns-in-Ok : goal.returns-in-Ok
returns-in-Ok c =
    let kept = c.in-Ok.ensures in
    record {
      is_name = kept.name;
      old = kept.tokens.0;
      at = kept.tokens.1;
      tokens = kept.tokens.2;
      comments = kept.comments;
      program = kept.program;
    }
