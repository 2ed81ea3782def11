-- With an id or without one.
use Rattle.std.proofs.Common.{Option, None, Some, refl, string_bytes, subst}
use Rattle.serde_json.specs.Data.{Data}
use Rattle.lus_editing.specs.Serving.{IsNamelessAnswered}
use Rattle.lus_editing.proofs.serving.serve_nameless.Goals as goal

pub returns-in-Some : goal.returns-in-Some
returns-in-Some c = subst (λ (i : Option Data). IsNamelessAnswered i None) c.in-Some.ensures refl

pub returns-in_ok-said-in-None : goal.returns-in_ok-said-in-None
returns-in_ok-said-in-None c = subst (λ (i : Option Data). IsNamelessAnswered i (Some (string_bytes c.in_ok-said-in-None.said))) c.in-None.ensures c.in_ok-said-in-None.ensures
