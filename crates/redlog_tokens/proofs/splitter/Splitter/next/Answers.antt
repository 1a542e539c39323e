use Rattle.std.proofs.Common.{arith, ◌≡◌, List, ℕ, false, [], drop, length, length-drop, sym, ap, ◌∙◌, subst, refl}
use Rattle.std.specs.declared.alloc.Global.{Global}
use Rattle.std.specs.declared.vec.Vec.{Vec}
use Rattle.redlog_tokens.specs.Pieces.{Held, Follows, IsKept}
use Rattle.redlog_tokens.proofs.Following.{cut_off, after_cut, still_open}
use Rattle.redlog_tokens.proofs.splitter.Splitter.next.Goals as goal

pub returns-then-not-self-clause-none : goal.returns-then-not-self-clause-none
returns-then-not-self-clause-none c =
    let no : c.args.self.now.whole ≡ false = ap (λ (s : Held). s.whole) (sym c.self.view_is) ∙ c.if-not-self.true in
    (no, refl, λ fed from f. still_open fed from c.args.self.now f no)

pub returns-clause-cut : goal.returns-clause-cut
returns-clause-cut c = λ fed from f.
    let s = c.self.inside in
    let g = subst (Follows fed from) (sym c.self.view_is) f in
    let kept : IsKept (drop s.start fed) c.replace-bytes.result.items = subst (λ (v : Vec ℕ Global). IsKept (drop s.start fed) v.items) (sym c.replace-bytes.ensures.value) g.kept in
    let bytes = c.within_limit-bytes.ensures (drop s.start fed) (omega (arith, g.count, c.self.invariant, length-drop s.start fed)) kept in
    let empty : c.replace-bytes.new.dest.items ≡ [] = ap (λ (v : Vec ℕ Global). v.items) c.replace-bytes.ensures.after ∙ c.new.ensures.items in
    (cut_off fed from _ g c.if-not-self.false c.within_limit-bytes.result bytes, subst (λ (xs : List ℕ). Follows fed (length fed) (record { bytes = xs; fed = s.fed; start = s.fed; comment = s.comment; whole = false })) (sym empty) (after_cut fed from _ g c.if-not-self.false))
