use Rattle.redlog_run.proofs.Spelling.{BeginsNoneBelow}
use Rattle.redlog_run.proofs.words.first_option.Given as goal

-- the words begin with none of the options so far
abbrev pub invariant-choices : goal.invariant-choices
invariant-choices l = BeginsNoneBelow l.words l.choice-index
