-- Which machine a key names.
use Rattle.lus_shared.specs.declared.rule.Key.{Key}
use Rattle.lus_shared.specs.Knowledge.{Origin}

abbrev pub origin_of : Key → Origin
origin_of key = record { program = key.machine.value.program; node = key.machine.value.node; callers = key.callers }
