use Rattle.std.proofs.Common.{arith, length, take, nat_lt, ◌++◌, sym, ap, ◌∙◌, subst, refl}
use Rattle.redlog_tokens.specs.Pieces.{Held, Follows, IsKept}
use Rattle.redlog_tokens.proofs.Following.{fed_follows, slice_of_front, taken_marked, taken_all, Taken, AreBlanks}
use Rattle.redlog_tokens.proofs.splitter.Splitter.feed.Goals as goal
use Rattle.redlog_tokens.proofs.splitter.Splitter.feed.Goals.{then-whole, else-whole, then-self, else-self}

pub returns-clause-follows : goal.returns-clause-follows
returns-clause-follows c = λ fed from f.
    let s = c.self.inside in
    let g = subst (Follows fed from) (sym c.self.view_is) f in
    let bytes = c.args.bytes.now in
    let m = c.front_of-inside.result.length in
    let n = c.if-whole.taken in
    let k = c.if-self.blanks in
    let taken : Taken (nat_lt m (length bytes)) m n = elim c.if-whole.branch [ then-whole w ↦ taken_marked m n (length bytes) w.if-whole.true w.taken-is | else-whole w ↦ taken_all m n (length bytes) w.if-whole.false w.taken-is ] in
    let blanks : AreBlanks s.comment s.fed s.start (take n bytes) k = elim c.if-self.branch [
      | then-self w ↦ record { begun = λ h. w.blanks-is; none = λ h. absurd (omega (arith, h, w.if-self.true)) }
      | else-self w ↦ record { begun = λ h. absurd (omega (arith, h, w.if-self.false)); none = λ h. w.blanks-is ∙ w.front_of.ensures.length }
    ] in
    fed_follows fed bytes c.keep.new.bytes.items from m n k _ c.front_of-inside.result.comment (nat_lt m (length bytes)) c.front_of-inside.ensures.comment
    (ap (λ (s : Held). s.whole) c.self.view_is ∙ c.requires.none) c.self.invariant c.front_of-inside.ensures.length refl taken blanks (λ piece e k. subst (λ xs. IsKept (piece ++ xs) c.keep.new.bytes.items) (slice_of_front n c.if-self.blanks bytes) (c.in_ok-keep.ensures.kept piece e k)) g
