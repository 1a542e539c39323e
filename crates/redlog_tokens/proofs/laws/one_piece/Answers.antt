use Rattle.redlog_tokens.proofs.Cutting.{piece_or_none, none_or_piece, same_piece}
use Rattle.redlog_tokens.proofs.laws.one_piece.Goals as goal

pub returns : goal.returns
returns c = record { some = piece_or_none; not_both = none_or_piece; one = same_piece }
