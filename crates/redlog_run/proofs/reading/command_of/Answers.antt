use Rattle.std.proofs.Common.{◌≡◌, ◌∙◌, ap, ap₂, codes, true}
use Rattle.std.proofs.lemmas.Result.{IfOk-weaker}
use Rattle.clap.specs.Simple.{app_of_fields, on_top}
use Rattle.clap.specs.Words.{App, app_of, new_app, with_rule}
use Rattle.clap.specs.declared.builder.command.Command.{Command}
use Rattle.clap.specs.declared.builder.command.Command.TheViews.{out-Command as fields_of}
use Rattle.redlog_run.proofs.reading.command_of.Goals as goal

abbrev unnamed : App → App
unnamed = on_top (λ s. record s { no_binary_name = true })

abbrev helpless : App → App
helpless = on_top (λ s. record s { disable_help_flag = true })

abbrev versionless : App → App
versionless = on_top (λ s. record s { disable_version_flag = true })

-- the settings change their fields alone
unnamed_is : (c d : Command) → fields_of d ≡ record (fields_of c) { no_binary_name = true } → app_of d ≡ unnamed (app_of c)
unnamed_is c d e = ap app_of_fields e

helpless_is : (c d : Command) → fields_of d ≡ record (fields_of c) { disable_help_flag = true } → app_of d ≡ helpless (app_of c)
helpless_is c d e = ap app_of_fields e

versionless_is : (c d : Command) → fields_of d ≡ record (fields_of c) { disable_version_flag = true } → app_of d ≡ versionless (app_of c)
versionless_is c d e = ap app_of_fields e

pub returns : goal.returns
returns c =
    let set : app_of c.disable_version_flag.result ≡ versionless (helpless (unnamed (new_app (codes "redlog")))) =
    versionless_is c.disable_help_flag.result c.disable_version_flag.result c.disable_version_flag.ensures
    ∙ ap versionless (helpless_is c.no_binary_name.result c.disable_help_flag.result c.disable_help_flag.ensures)
    ∙ ap versionless (ap helpless (unnamed_is c.new.result c.no_binary_name.result c.no_binary_name.ensures ∙ ap unnamed c.new.ensures.app)) in
    let one = c.in_ok-arg.ensures.shape c.arg_of.ensures.local ∙ ap₂ with_rule set c.arg_of.ensures.rule in
    let two = c.in_ok-arg-2.ensures.shape c.arg_of-2.ensures.local ∙ ap₂ with_rule one c.arg_of-2.ensures.rule in
    let three = c.in_ok-arg-3.ensures.shape c.arg_of-3.ensures.local ∙ ap₂ with_rule two c.arg_of-3.ensures.rule in
    IfOk-weaker c.arg-4.result _ _ (λ command adds. adds.shape c.flag_arg.ensures.local ∙ ap₂ with_rule three c.flag_arg.ensures.rule) c.arg-4.ensures
