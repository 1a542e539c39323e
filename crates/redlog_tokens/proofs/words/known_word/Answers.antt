use Rattle.std.proofs.Common.{sym, ap, ◌∙◌}
use Rattle.language_meaning.specs.Terminals.{words, known}
use Rattle.redlog_tokens.proofs.Known.{known_filter}
use Rattle.redlog_tokens.proofs.words.known_word.Goals as goal

pub returns : goal.returns
returns c =
    c.among.ensures ∙ ap (known c.args.text.now) c.of_length.ensures ∙ sym (known_filter c.args.text.now words)
