use Rattle.lus_callers.proofs.columns.+turn.Given as goal

abbrev pub decreases-turn : goal.decreases-turn
decreases-turn g l = l.width
