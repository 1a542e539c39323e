use Rattle.std.proofs.Common.{rules, ◌≡◌, List, All, true, map, sym, ap, ◌∙◌, subst}
use Rattle.elimination_theory.specs.StepTheorems.{trees_left}
use Rattle.logic_meaning.specs.declared.side.Side.TheVariants.{Lower}
use Rattle.logic_meaning.specs.Atoms.{atoms_of}
use Rattle.logic_meaning.specs.BothTheories.{IsPlaceIn, test_points}
use Rattle.logic_meaning.specs.Steps.{results}
use Rattle.logic_meaning.specs.Limits.{each}
use Rattle.logic_meaning.specs.StopLimits.{step_within}
use Rattle.logic_meaning.specs.Measured.{done}
use Rattle.normal_atoms.specs.Atoms.{context_of}
use Rattle.logic_meaning.specs.NormalForm.{normal_atom}
use Rattle.nnf_trees.specs.Nnfs.{nnf_of}
use Rattle.nnf_trees.specs.Placed.{point_within}
use Rattle.test_points.specs.Points.{place_of}
use Rattle.reference_engine.proofs.Paying.{all_places, left_after, numbers_stop, fails_told}
use Rattle.reference_engine.proofs.steps.full_step.Goals as goal

pub formulas_at-requires-clause-places : goal.formulas_at-requires-clause-places
formulas_at-requires-clause-places c =
    let o = context_of c.args.setting.context in
    subst (All (λ t. IsPlaceIn o (place_of t))) (sym c.deref.ensures.value)
    (all_places o c.args.x.number (nnf_of c.args.branch.now) c.in_ok-points.points.items c.requires.in_context c.in_ok-points.ensures.points.places)

pub returns-in-Ok-clause-told : goal.returns-in-Ok-clause-told
returns-in-Ok-clause-told c =
    let o = context_of c.args.setting.context in
    let x = c.args.x.number in
    let f = nnf_of c.args.branch.now in
    let paid = c.in_ok-points.ensures.points in
    let places : map place_of c.deref.result.now ≡ test_points o Lower x (atoms_of f) = ap (map place_of) c.deref.ensures.value ∙ paid.places in
    let within : step_within o x f ≡ true = sym (ap (each (point_within o x f)) places) ∙ c.in-Ok.ensures.within in
    left_after o c.args.setting.limit x f c.args.cost.now c.paid_points.new.cost paid.paid within
    ∙ ap (λ ts. done (ts, c.paid_points.new.cost)) (sym (c.in-Ok.ensures.formulas ∙ ap (λ ss. trees_left (results o (normal_atom o) x f ss)) places))
