use Rattle.lus_occurrences.proofs.names.tokens_of.Goals as goal

pub returns : goal.returns
returns c ts read = absurd (c.in_default.not-Memory (c.in-Err.ensures.only ts read))
