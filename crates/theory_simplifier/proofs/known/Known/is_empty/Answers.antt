use Rattle.std.proofs.Common.{rules, ◌≡◌, true, List, [], ◌∷◌, take, get_or, ap, ◌∙◌}
use Rattle.std.proofs.lemmas.List.{take_more}
use Rattle.theory_simplifier.specs.declared.known.Frame.{Frame}
use Rattle.theory_simplifier.specs.Known.{inside, known_atoms}
use Rattle.theory_simplifier.proofs.Knowing.{known_inside-append}
use Rattle.theory_simplifier.proofs.known.Known.is_empty.Goals as goal

pub loop-frame-preserved : goal.loop-frame-preserved
loop-frame-preserved c =
    let fs : List Frame = c.deref-frame-items.result.now in
    let i = c.loop-frame.frame-index in
    let f : Frame = c.frame-item.result in
    let here : get_or fs i f ≡ f = search rules in
    let silent : c.is_silent.result ≡ true = search rules in
    ap known_atoms (take_more fs i f c.loop-frame-test.true) ∙ known_inside-append [] (take i fs) (get_or fs i f ∷ []) ∙ ap (λ g. inside g (known_atoms (take i fs))) here ∙ ap (inside f) c.loop-frame.invariant ∙ c.is_silent.ensures silent
