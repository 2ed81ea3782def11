use Rattle.lus_types.proofs.ProgramsMeant.{meant_programs_are_sound}
use Rattle.lus_types.proofs.laws.sound.Goals as goal

pub returns : goal.returns
returns c = meant_programs_are_sound
