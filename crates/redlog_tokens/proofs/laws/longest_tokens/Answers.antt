use Rattle.redlog_tokens.proofs.Longest.{longest}
use Rattle.redlog_tokens.proofs.laws.longest_tokens.Goals as goal

pub returns : goal.returns
returns c = longest
