-- What is drawn is what was asked for, and the file had failed so often when it was opened.
use Rattle.std.proofs.Common.{None}
use Rattle.lus_draw.specs.CommandLine.{drawing_seen}
use Rattle.lus_draw.proofs.shell.draw_file.Given as goal

abbrev pub ghosts-journal_page : goal.ghosts-journal_page
ghosts-journal_page g a = record { wanted = drawing_seen a.wanted; failures = None }

abbrev pub ghosts-drawing : goal.ghosts-drawing
ghosts-drawing g a = record { wanted = drawing_seen a.wanted; failures = g.D.File.Source.failures a.file }
