use Rattle.std.proofs.Common.{sym, ap, ◌∙◌}
use Rattle.std.specs.List.{list_any}
use Rattle.smt_language.specs.Faults.{kinds, begins_unfit, is_bad}
use Rattle.smt_tokens.proofs.BadTokens.{bad_kinds}
use Rattle.smt_tokens.proofs.fault.has_bad.Goals as goal

pub returns : goal.returns
returns c =
    c.any_bad.ensures ∙ ap (λ unfit. list_any (λ t. is_bad unfit t.token) c.args.tokens.now) c.begins_unfit.ensures ∙ sym (bad_kinds (begins_unfit (kinds c.args.tokens.now)) c.args.tokens.now)
