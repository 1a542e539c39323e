use Rattle.std.proofs.Common.{◌+◌, ◌++◌, [], ◌∷◌, refl, subst, sym, drop, ◌∙◌, map}
use Rattle.language_meaning.specs.Trees.{Negative}
use Rattle.written_syntax.proofs.EntryLists.{none_left}
use Rattle.std.proofs.lemmas.Result.{IfOk-weaker}
use Rattle.smt_resolver.specs.Values.{AreTermValues}
use Rattle.smt_resolver.proofs.Lists.{item_at}
use Rattle.smt_resolver.proofs.TermLaws.{DifferenceState, difference_step, difference_done}
use Rattle.smt_resolver.proofs.terms.difference.Goals as goal

pub loop-other-init : goal.loop-other-init
loop-other-init c = λ d t ts h k.
    let e = c.in_ok-push.ensures.items ∙ (λ i. (c.new-terms.ensures.items i) ++ (c.in_ok-copied.field-0 ∷ [])) in
    record { done = []; rest = ts; parts = refl; ready = subst (AreTermValues d c.args.limit (t ∷ [])) (sym e) (c.in_ok-copied.ensures d c.args.limit t h, tt); values = k }

pub loop-other-preserved : goal.loop-other-preserved
loop-other-preserved c = λ d t ts h k.
    let i = c.loop-other.other-index in let vs = c.args.others.now in
    let e = item_at vs i c.other-item.result c.other-item.result c.loop-other-test.true c.other-item.is refl in
    difference_step d c.args.limit t ts c.loop-other.terms.items c.push-in-loop-other.new.self.items (drop (i + 1) vs) c.other-item.result c.in_ok-negative.field-0
    (subst (λ xs. DifferenceState d c.args.limit t ts c.loop-other.terms.items xs) e (c.loop-other.invariant d t ts h k)) (c.in_ok-negative.ensures d) c.in_ok-push-2.ensures.items

pub returns : goal.returns
returns c =
    IfOk-weaker c.sum.result _ _
    (λ r f d t ts h k.
    let e = none_left c.args.others.now c.loop-other.other-index c.loop-other-test.false in
    f d (t ∷ map Negative ts) (subst (AreTermValues d c.args.limit (t ∷ map Negative ts)) (sym c.deref.ensures.value) (difference_done d c.args.limit t ts c.loop-other.terms.items (subst (λ xs. DifferenceState d c.args.limit t ts c.loop-other.terms.items xs) e (c.loop-other.invariant d t ts h k)))))
    c.sum.ensures
