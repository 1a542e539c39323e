use Rattle.std.proofs.Common.{◌≡◌, Option, map, sym, ◌∙◌, subst, to_z, of_z, unsigned_abs}
use Rattle.std.proofs.Math.IntN.{ℤ, pos}
use Rattle.std.specs.Int.{w128}
use Rattle.std.specs.Option.{MatchOption}
use Rattle.exact_numbers.specs.Limit.{InLimit, PastLimit}
use Rattle.exact_numbers.proofs.Casts.{read_back}
use Rattle.logic_meaning.specs.IntegersPoints.{own_span}
use Rattle.normal_atoms.specs.Atoms.{atom_of}
use Rattle.test_points.proofs.Steps.{positive_abs, span_step, span_fails, span_ends, span_before, span_last, begins_spanned, begins_span, scale_is_positive, well_formed_split, first_well_formed}
use Rattle.test_points.proofs.spans.span.Goals as goal

pub loop-atom-init : goal.loop-atom-init
loop-atom-init c =
    let x = c.args.x.number in let atoms = c.args.atoms.now in let s = to_z w128 (of_z w128 c.args.scale) in
    let back = read_back c.args.scale c.requires.within in
    let e = back ∙ c.requires.scale in
    record { rest = begins_span x atoms s e; positive = scale_is_positive x atoms s e; within = subst InLimit (sym back) c.requires.within; well_formed = c.requires.well_formed; spanned = begins_spanned x atoms s c.requires.well_formed e }

pub spanned-requires-clause-well_formed : goal.spanned-requires-clause-well_formed
spanned-requires-clause-well_formed c = (first_well_formed c.in-Some.before.now c.in-Some.atom.now (well_formed_split c.loop-atom.left.now c.in-Some.before.now c.in-Some.atom.now c.in-Some.ensures.cases.0 c.loop-atom.invariant.well_formed)).1

pub spanned-requires-clause-scale_positive : goal.spanned-requires-clause-scale_positive
spanned-requires-clause-scale_positive c = scale_is_positive c.args.x.number c.args.atoms.now _ (read_back c.args.scale c.requires.within ∙ c.requires.scale)

pub spanned-requires-clause-reached : goal.spanned-requires-clause-reached
spanned-requires-clause-reached c =
    let x = c.args.x.number in let s = to_z w128 (of_z w128 c.args.scale) in
    let h = scale_is_positive x c.args.atoms.now s (read_back c.args.scale c.requires.within ∙ c.requires.scale) in
    (span_last (unsigned_abs s) x c.loop-atom.left.now c.in-Some.before.now c.in-Some.atom.now _ _ c.in-Some.ensures.cases.0 (positive_abs s h) c.loop-atom.invariant.positive c.loop-atom.invariant.spanned c.loop-atom.invariant.rest).1

pub loop-atom-preserved : goal.loop-atom-preserved
loop-atom-preserved c =
    let x = c.args.x.number in let s = to_z w128 (of_z w128 c.args.scale) in
    let left = c.loop-atom.left.now in let before = c.in-Some.before.now in let a = c.in-Some.atom.now in
    let h = positive_abs s (scale_is_positive x c.args.atoms.now s (read_back c.args.scale c.requires.within ∙ c.requires.scale)) in
    let i = c.loop-atom.invariant in let e = c.in-Some.ensures.cases.0 in
    let back = read_back c.in_ok-span.span c.in_ok-span.ensures.1 in
    let t = span_step (unsigned_abs s) x left before a _ _ e h i.positive i.spanned i.rest _ (back ∙ c.in_ok-span.ensures.0) in
    record {
      rest = t.rest;
      positive = t.positive;
      within = subst InLimit (sym back) c.in_ok-span.ensures.1;
      well_formed = (first_well_formed before a (well_formed_split left before a e i.well_formed)).0;
      spanned = span_before (unsigned_abs s) x left before a _ _ e h i.positive i.spanned i.rest;
    }

pub returns : goal.returns
returns c =
    let s = to_z w128 (of_z w128 c.args.scale) in
    (span_ends (unsigned_abs s) c.args.x.number c.loop-atom.left.now _ _ c.in_default.ensures.cases c.loop-atom.invariant.positive c.loop-atom.invariant.rest, c.loop-atom.invariant.within)

pub returns-in_err-span : goal.returns-in_err-span
returns-in_err-span c =
    let x = c.args.x.number in let s = to_z w128 (of_z w128 c.args.scale) in
    let h = positive_abs s (scale_is_positive x c.args.atoms.now s (read_back c.args.scale c.requires.within ∙ c.requires.scale)) in
    let i = c.loop-atom.invariant in
    let p = span_fails (unsigned_abs s) x c.loop-atom.left.now c.in-Some.before.now c.in-Some.atom.now _ _ c.in-Some.ensures.cases.0 h i.positive i.spanned i.rest c.in_err-span.ensures in
    let total = own_span x (map atom_of c.args.atoms.now) in
    subst (λ (o : Option ℤ). MatchOption o (PastLimit (pos total)) (λ n. (n ≡ pos total) × InLimit n)) (sym c.from_residual.ensures) p
