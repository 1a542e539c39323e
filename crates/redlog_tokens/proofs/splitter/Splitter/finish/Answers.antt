use Rattle.std.proofs.Common.{arith, drop, length-drop, sym, ap, ◌∙◌, subst}
use Rattle.redlog_tokens.specs.Pieces.{Held, Follows}
use Rattle.redlog_tokens.proofs.Following.{last_piece, none_last}
use Rattle.redlog_tokens.proofs.splitter.Splitter.finish.Goals as goal

pub returns-then-self-clause-none : goal.returns-then-self-clause-none
returns-then-self-clause-none c = λ fed from f.
    let g = subst (Follows fed from) (sym c.self.view_is) f in
    none_last fed from _ g (ap (λ (s : Held). s.whole) c.self.view_is ∙ c.requires.none) c.if-self.true

pub returns-clause-last : goal.returns-clause-last
returns-clause-last c = λ fed from f.
    let s = c.self.inside in
    let g = subst (Follows fed from) (sym c.self.view_is) f in
    let bytes = c.within_limit-bytes.ensures (drop s.start fed) (omega (arith, g.count, c.self.invariant, length-drop s.start fed)) g.kept in
    last_piece fed from _ g (ap (λ (s : Held). s.whole) c.self.view_is ∙ c.requires.none) (omega (arith, c.self.invariant, c.if-self.false)) c.within_limit-bytes.result bytes
