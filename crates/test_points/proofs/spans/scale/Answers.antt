use Rattle.std.proofs.Common.{◌≡◌, Option, map, sym, ◌∙◌, subst, rules}
use Rattle.std.proofs.Math.IntN.{ℤ, pos}
use Rattle.std.specs.Option.{MatchOption}
use Rattle.exact_numbers.specs.Limit.{InLimit, PastLimit}
use Rattle.exact_numbers.proofs.Casts.{read_back}
use Rattle.logic_meaning.specs.IntegersPoints.{scale_of}
use Rattle.normal_atoms.specs.Atoms.{atom_of}
use Rattle.test_points.proofs.Multiples.{scale_from_one}
use Rattle.test_points.proofs.Steps.{scale_step, scale_fails, scale_ends}
use Rattle.test_points.proofs.spans.scale.Goals as goal

pub loop-atom-init : goal.loop-atom-init
loop-atom-init c = record { rest = scale_from_one c.args.x.number (map atom_of c.args.atoms.now); positive = search rules; within = search rules }

pub loop-atom-preserved : goal.loop-atom-preserved
loop-atom-preserved c =
    let back = read_back c.in_ok-scale.scale c.in_ok-scale.ensures.1 in
    let e = read_back c.coefficient.result c.coefficient.ensures.within ∙ c.coefficient.ensures.value in
    let s = scale_step c.args.x.number c.loop-atom.left.now c.in-Some.before.now c.in-Some.atom.now _ _ _ c.in-Some.ensures.cases.0 c.loop-atom.invariant.positive e c.loop-atom.invariant.rest _ (back ∙ c.in_ok-scale.ensures.0) in
    record { rest = s.rest; positive = s.positive; within = subst InLimit (sym back) c.in_ok-scale.ensures.1 }

pub returns : goal.returns
returns c = (scale_ends c.args.x.number c.loop-atom.left.now _ _ c.in_default.ensures.cases c.loop-atom.invariant.positive c.loop-atom.invariant.rest, c.loop-atom.invariant.within)

pub returns-in_err-scale : goal.returns-in_err-scale
returns-in_err-scale c =
    let e = read_back c.coefficient.result c.coefficient.ensures.within ∙ c.coefficient.ensures.value in
    let p = scale_fails c.args.x.number c.loop-atom.left.now c.in-Some.before.now c.in-Some.atom.now _ _ _ c.in-Some.ensures.cases.0 c.loop-atom.invariant.positive e c.loop-atom.invariant.rest c.in_err-scale.ensures in
    let total = scale_of c.args.x.number (map atom_of c.args.atoms.now) in
    subst (λ (o : Option ℤ). MatchOption o (PastLimit (pos total)) (λ n. (n ≡ pos total) × InLimit n)) (sym c.from_residual.ensures) p
