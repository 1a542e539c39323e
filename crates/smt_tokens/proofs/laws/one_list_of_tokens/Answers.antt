use Rattle.smt_tokens.proofs.Lexed.{lexed, same_lexemes}
use Rattle.smt_tokens.proofs.laws.one_list_of_tokens.Goals as goal

pub returns : goal.returns
returns c = record { some = λ bytes. lexed bytes 0; one = λ bytes ts us l m. same_lexemes l m }
