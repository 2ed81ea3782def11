use Rattle.lus_types.proofs.SourceParts.{few_parts}
use Rattle.lus_types.proofs.laws.few_parts.Goals as goal

pub returns : goal.returns
returns c = few_parts
