use Rattle.std.proofs.Common.{ℕ, length}
use Rattle.std.proofs.lemmas.List.{drop-replicate}
use Rattle.logic_meaning.proofs.name.padded.Goals as goal

-- what is past the bytes that were copied is the 0 that was there
pub returns : goal.returns
returns c = rw (c.copy_from_slice.ensures.after, drop-replicate {X = ℕ} (length c.args.bytes.now) 64 0)
