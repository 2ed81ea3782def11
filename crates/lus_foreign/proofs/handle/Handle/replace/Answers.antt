-- What is asked is what was held, and what is given back is held.
use Rattle.std.proofs.Common.{◌∙◌, sym}
use Rattle.lus_foreign.proofs.handle.Handle.replace.Goals as goal

pub returns : goal.returns
returns g c = rw c.in-Some.ensures.0 (c.ask-held.result.0, rw (sym (c.replace-held.ensures.value ∙ c.deref_mut.ensures.value)) c.ask-held.ensures, search)
