use Rattle.std.proofs.Common.{◌≡◌, List, All, true, map, sym, ap, ◌∙◌, subst}
use Rattle.logic_meaning.specs.Answer.{Place}
use Rattle.logic_meaning.specs.Tree.{Tree}
use Rattle.logic_meaning.specs.declared.side.Side.TheVariants.{Lower}
use Rattle.logic_meaning.specs.Atoms.{atoms_of}
use Rattle.logic_meaning.specs.BothTheories.{IsPlaceIn, test_points}
use Rattle.logic_meaning.specs.Limits.{each}
use Rattle.logic_meaning.specs.StopLimits.{step_within}
use Rattle.logic_meaning.specs.Reference.{full_step}
use Rattle.logic_meaning.specs.Measured.{done}
use Rattle.normal_atoms.specs.Atoms.{context_of}
use Rattle.nnf_trees.specs.Nnfs.{nnf_of}
use Rattle.nnf_trees.specs.Placed.{point_within}
use Rattle.test_points.specs.Points.{place_of}
use Rattle.reference_engine.specs.Paid.{paid_for}
use Rattle.reference_engine.proofs.Paying.{all_places}
use Rattle.reference_engine.specs.Stand.{StandFor, results_at}
use Rattle.reference_engine.proofs.Standing.{tells_of}
use Rattle.reference_engine.proofs.Stepping.{full_left}
use Rattle.reference_engine.proofs.step.full_step.Goals as goal

pub leaves_at-requires-clause-places : goal.leaves_at-requires-clause-places
leaves_at-requires-clause-places c =
    let o = context_of c.args.setting.context in
    subst (All (λ t. IsPlaceIn o (place_of t))) (sym c.deref.ensures.value)
    (all_places o c.args.x.number (nnf_of c.args.leaf.now.formula) c.in_ok-points.points.items c.requires.inside c.in_ok-points.ensures.points.places)

pub returns-in-Ok-clause-told : goal.returns-in-Ok-clause-told
returns-in-Ok-clause-told c = λ b h.
    let o = context_of c.args.setting.context in
    let x = c.args.x.number in
    let limit = c.args.setting.limit in
    let cost = c.args.cost.now in
    let after = c.paid_points.new.cost in
    let f = nnf_of c.args.leaf.now.formula in
    let left = c.in-Ok.left.items in
    let paid = c.in_ok-points.ensures.points in
    let places : map place_of c.deref.result.now ≡ test_points o Lower x (atoms_of f) = ap (map place_of) c.deref.ensures.value ∙ paid.places in
    let paid_b = subst (λ (g : Tree). paid_for o limit x g cost ≡ done (tt, after)) h.formula paid.paid in
    let within = subst (λ (g : Tree). step_within o x g ≡ true) h.formula (sym (ap (each (point_within o x f)) places) ∙ c.in-Ok.ensures.within) in
    let stand = subst (λ (ss : List Place). StandFor left (results_at o x b ss)) (places ∙ ap (λ (g : Tree). test_points o Lower x (atoms_of g)) h.formula) (c.in-Ok.ensures.left b h) in
    tells_of left (results_at o x b (test_points o Lower x (atoms_of b.tree))) after (full_step o limit x b cost) (full_left o limit x b cost after paid_b within) stand
