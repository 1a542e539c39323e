use Rattle.redlog_run.proofs.Spelling.{words_spell_once}
use Rattle.redlog_run.proofs.command_words_laws.words_spell_once.Goals as goal

pub returns : goal.returns
returns c = words_spell_once
