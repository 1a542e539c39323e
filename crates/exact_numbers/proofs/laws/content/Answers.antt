use Rattle.exact_numbers.proofs.Contents.{content_is, content_unique}
use Rattle.exact_numbers.proofs.laws.content.Goals as goal

pub returns : goal.returns
returns c = record { is_one = content_is; only_one = λ xs g p. content_unique p (content_is xs) }
