-- What the values of the code stand for.
use Rattle.std.specs.Prelude.{List, map, string_bytes}
use Rattle.serde_json.specs.View.{view}
use Rattle.lus_program.specs.View.{program_seen}
use Rattle.lus_requests.specs.declared.call.Call.{Call}
use Rattle.lus_requests.specs.declared.call.Caller.{Caller}
use Rattle.lus_scripts.specs.Forms as forms
use Rattle.lus_scripts.specs.Scripts as scripts
use Rattle.lus_scripts.specs.declared.form.Ask.{Ask}
use Rattle.lus_scripts.specs.declared.form.Ask.TheVariants as asks
use Rattle.lus_scripts.specs.declared.form.CallForm.{CallForm}
use Rattle.lus_scripts.specs.declared.form.CallerForm.{CallerForm}
use Rattle.lus_scripts.specs.declared.form.InstanceForm.{InstanceForm}
use Rattle.lus_scripts.specs.declared.form.Form.{Form}
use Rattle.lus_scripts.specs.declared.reading.Scope.{Scope}
use Rattle.lus_scripts.specs.declared.scripts.Instance.{Instance}
use Rattle.lus_scripts.specs.declared.scripts.Scripts.{Scripts}

abbrev pub ask_seen : Ask → forms.Ask
ask_seen (asks.Step items) = forms.step (map view items.now)
ask_seen asks.Reset = forms.reset
ask_seen (asks.Save n) = forms.save n
ask_seen (asks.Restore n) = forms.restore n
ask_seen (asks.Burst rows) = forms.burst (map view rows.now)

abbrev pub call_seen : CallForm → forms.CallForm
call_seen c = record { on = c.on.now; ask = ask_seen c.ask }

abbrev pub instance_seen : InstanceForm → forms.InstanceForm
instance_seen i = record { name = i.name.now; node = i.node.now }

abbrev pub caller_seen : CallerForm → forms.CallerForm
caller_seen c = record { name = c.name.now; calls = map call_seen c.calls.items }

abbrev pub form_seen : Form → forms.Form
form_seen f = record { instances = map instance_seen f.instances.items; callers = map caller_seen f.callers.items }

abbrev pub instance_kept : Instance → scripts.Instance
instance_kept i = record { name = string_bytes i.name; node = string_bytes i.node; place = i.id.0 }

abbrev pub calls_kept : Caller → List Call
calls_kept c = c.calls.items

abbrev pub scripts_seen : Scripts → scripts.Scripts
scripts_seen s = record {
  instances = map instance_kept s.instances.items;
  callers = map string_bytes s.names.items;
  calls = map calls_kept s.callers.items;
}

abbrev pub scope_seen : Scope → scripts.Scope
scope_seen s = record {
  program = program_seen s.program.now;
  names = s.names.now;
  instances = map string_bytes s.table.now.keys;
  nodes = map (λ i. i.id.0) s.instances.now;
}
