-- By what clap says of the words.
use Rattle.std.proofs.Common.{◌∙◌, ap, true}
use Rattle.clap.specs.Words.{App}
use Rattle.clap.specs.Simple.{app_of_fields, on_top}
use Rattle.lus_cli.proofs.tool.bare.Goals as goal

abbrev unnamed : App → App
unnamed = on_top (λ s. record s { no_binary_name = true })

abbrev helpless : App → App
helpless = on_top (λ s. record s { disable_help_flag = true })

abbrev versionless : App → App
versionless = on_top (λ s. record s { disable_version_flag = true })

pub returns : goal.returns
returns c =
    ap app_of_fields c.disable_version_flag.ensures
    ∙ ap versionless (ap app_of_fields c.disable_help_flag.ensures
    ∙ ap helpless (ap app_of_fields c.no_binary_name.ensures ∙ ap unnamed c.new.ensures.app))
