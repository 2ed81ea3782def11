use Rattle.std.proofs.Common.{◌∙◌, ap, option_map}
use Rattle.lus_values.specs.View.{value_of}
use Rattle.lus_source.proofs.Lookups.{copied_map, entry_map}
use Rattle.lus_source.proofs.scope.Scope.constant.Goals as goal

pub returns : goal.returns
returns c =
    let t = c.args.self.now.tables.now in
    copied_map value_of c.find.result ∙ ap (option_map value_of) (rw c.deref.ensures.value at c.find.ensures) ∙ entry_map value_of t.names.now.constants t.constants.items c.args.name.now
