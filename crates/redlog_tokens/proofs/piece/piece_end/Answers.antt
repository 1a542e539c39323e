use Rattle.std.proofs.Common.{arith, sym, ◌∙◌}
use Rattle.redlog_tokens.proofs.PieceLemmas.{piece_marked, piece_later, ends_from, ends_last}
use Rattle.redlog_tokens.proofs.piece.piece_end.Goals as goal

pub returns-then-is_end-clause-end : goal.returns-then-is_end-clause-end
returns-then-is_end-clause-end c =
    c.tokens.invariant.on _ (ends_from _ _ _ _ (piece_marked c.args.bytes.now c.tokens.at c.in-Some.lexeme c.in-Some.ensures.3 (sym c.is_end.ensures ∙ c.if-is_end.true)))

pub tokens-preserved : goal.tokens-preserved
tokens-preserved c = record {
  later = omega (arith, c.in-Some.ensures.0, c.in-Some.ensures.1);
  within = c.in-Some.ensures.2;
  on = λ end later. c.tokens.invariant.on end (ends_from _ _ _ _ (piece_later c.args.bytes.now c.tokens.at c.in-Some.lexeme c.in-Some.ensures.3 end (sym c.is_end.ensures ∙ c.if-is_end.false) later));
}

pub returns-clause-end : goal.returns-clause-end
returns-clause-end c = c.tokens.invariant.on _ (ends_last c.args.bytes.now c.tokens.at c.in_default.ensures)
