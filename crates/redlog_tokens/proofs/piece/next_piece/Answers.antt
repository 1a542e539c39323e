use Rattle.std.proofs.Common.{sym, ◌∙◌}
use Rattle.redlog_tokens.proofs.PieceLemmas.{piece_marked, piece_later}
use Rattle.redlog_tokens.proofs.piece.next_piece.Goals as goal

pub returns-then-is_end-clause-found : goal.returns-then-is_end-clause-found
returns-then-is_end-clause-found c = piece_marked c.args.bytes.now c.args.from c.in_ok-first.first c.in_ok-first.ensures.3 (sym c.is_end.ensures ∙ c.if-is_end.true)

pub returns-else-is_end-clause-found : goal.returns-else-is_end-clause-found
returns-else-is_end-clause-found c =
    piece_later c.args.bytes.now c.args.from c.in_ok-first.first c.in_ok-first.ensures.3 c.piece_end-end.result (sym c.is_end.ensures ∙ c.if-is_end.false) c.piece_end-end.ensures.end
