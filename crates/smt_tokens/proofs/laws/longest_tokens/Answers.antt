use Rattle.smt_tokens.proofs.Longest.{longest}
use Rattle.smt_tokens.proofs.Texts.{texts}
use Rattle.smt_tokens.proofs.laws.longest_tokens.Goals as goal

pub returns : goal.returns
returns c = record { texts = texts; longest = longest }
