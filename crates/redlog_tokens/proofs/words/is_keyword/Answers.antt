use Rattle.std.proofs.Common.{ap, ◌∙◌}
use Rattle.std.specs.Prelude.{is_some}
use Rattle.redlog_tokens.proofs.Known.{keyword_known}
use Rattle.redlog_tokens.proofs.words.is_keyword.Goals as goal

pub returns : goal.returns
returns c = c.is_some.ensures ∙ ap is_some c.known_word.ensures ∙ keyword_known c.args.text.now
