-- What a run leaves to be written.
use Rattle.std.specs.Prelude.{Bool, List, is_some, map, not}
use Rattle.std.specs.List.{list_all}
use Rattle.std.specs.Arc.{arc_value}
use Rattle.lus_requests.specs.declared.request.Entry.{Entry}
use Rattle.lus_callers.specs.CodeSpecs.Codes.{program_of}
use Rattle.lus_scripts.specs.View.{scripts_seen}
use Rattle.lus_devices.specs.Devices.{Bytes}
use Rattle.lus_host.specs.Runs.{run_text}
use Rattle.lus_host.specs.declared.running.Ended.{Ended}

abbrev pub histories : Ended → List (List Entry)
histories e = map (λ j. j.entries.items) e.journals.journals.items

-- no caller ran out of anything
abbrev pub none_wanted : Ended → Bool
none_wanted e = list_all (λ w. not (is_some w)) e.journals.wants.items

-- the text of the journals that a run leaves
abbrev pub ended_text : Ended → Bytes
ended_text e = run_text (program_of (arc_value e.program)) (scripts_seen e.scripts) (histories e)
