-- Nothing was seen, and no instance is named.
use Rattle.std.proofs.Common.{[], sym, subst}
use Rattle.indexmap.specs.IndexMap.{get_by_text}
use Rattle.lus_audit.specs.LogReasons.{TellsLog, begins}
use Rattle.lus_audit.proofs.LogLaws.{follows_none, none_named}
use Rattle.lus_audit.proofs.log_reasons.Explanations.new.Goals as goal

pub returns : goal.returns
returns c = λ p f follows.
    record {
      followed = follows;
      unfollowed = follows_none p f [] (get_by_text c.with_hasher.result) (none_named c.with_hasher.result c.with_hasher.ensures.empty);
      tells = λ whole. subst (TellsLog p f []) (sym c.new.ensures.bytes) begins;
    }
