use Rattle.std.proofs.Common.{List, ◌++◌, map, flat_map, sym, ap, ◌∙◌, subst, arith, unsigned_abs}
use Rattle.exact_numbers.specs.Limit.{InLimit}
use Rattle.exact_numbers.proofs.Casts.{read_back}
use Rattle.logic_meaning.specs.IntegersPoints.{class_points}
use Rattle.normal_atoms.specs.Atoms.{atom_of}
use Rattle.test_points.specs.declared.points.TestPoint.{TestPoint}
use Rattle.test_points.specs.Points.{place_of}
use Rattle.test_points.specs.Starts.{beside_atom}
use Rattle.test_points.proofs.Steps.{scale_is_positive, span_is_positive}
use Rattle.test_points.proofs.Whole.{each_reached, scale_divides, passed_classes, too_many, whole, all_within, some_fails, many_ends, many_classes, same_error}
use Rattle.test_points.proofs.cooper_periods_points.integer_points.Goals as goal

pub quotient-requires-clause-number_positive : goal.quotient-requires-clause-number_positive
quotient-requires-clause-number_positive c =
    let p = c.requires.period in span_is_positive c.args.x.number c.args.atoms.now _ c.requires.well_formed (read_back c.args.period.now.span p.span_within ∙ p.span)

pub quotient-requires-clause-divisor_positive : goal.quotient-requires-clause-divisor_positive
quotient-requires-clause-divisor_positive c =
    let p = c.requires.period in scale_is_positive c.args.x.number c.args.atoms.now _ (read_back c.args.period.now.scale p.scale_within ∙ p.scale)

pub quotient-requires-clause-divides : goal.quotient-requires-clause-divides
quotient-requires-clause-divides c =
    let p = c.requires.period in let n = c.args.period.now in
    scale_divides c.args.x.number c.args.atoms.now _ _ c.requires.well_formed (read_back n.scale p.scale_within ∙ p.scale) (read_back n.span p.span_within ∙ p.span)

pub push_atoms-requires-clause-usable : goal.push_atoms-requires-clause-usable
push_atoms-requires-clause-usable c =
    let p = c.requires.period in let n = c.args.period.now in
    record {
      scale = scale_is_positive c.args.x.number c.args.atoms.now n.scale p.scale;
      span = span_is_positive c.args.x.number c.args.atoms.now n.span c.requires.well_formed p.span;
      scale_within = p.scale_within;
      span_within = p.span_within;
    }

pub push_atoms-requires-clause-reached : goal.push_atoms-requires-clause-reached
push_atoms-requires-clause-reached c = each_reached c.args.x.number c.args.atoms.now c.args.period.now.scale c.requires.well_formed c.requires.period.scale

pub returns-in_default-try_from-clause-many : goal.returns-in_default-try_from-clause-many
returns-in_default-try_from-clause-many c k =
    let p = c.requires.period in let n = c.args.period.now in let x = c.args.x.number in let atoms = c.args.atoms.now in
    let q = passed_classes c.quotient.result n.scale n.span _ _ c.quotient.ensures.within p.scale_within p.span_within c.quotient.ensures.value p.scale p.span in
    let fits = c.ranges.limit.fits in
    many_classes c.args.side x atoms c.args.limit (omega arith) (too_many _ _ q c.in_default-try_from.ensures)

pub returns-in_ok-with_ends-in-Ok-push_atoms-clause-points : goal.returns-in_ok-with_ends-in-Ok-push_atoms-clause-points
returns-in_ok-with_ends-in-Ok-push_atoms-clause-points c =
    let p = c.requires.period in let n = c.args.period.now in let x = c.args.x.number in let atoms = c.args.atoms.now in
    let q = passed_classes c.quotient.result n.scale n.span _ _ c.quotient.ensures.within p.scale_within p.span_within c.quotient.ensures.value p.scale p.span in
    let m = c.in-Ok.ensures.1 ∙ ap unsigned_abs q in
    whole c.args.side x atoms _ (map place_of c.push_classes.new.points.items) (map place_of c.push_atoms.new.points.items) c.in-Ok.classes n.scale n.span p.scale p.span m
    (c.in_ok-push_classes.ensures.places ∙ ap (λ ts. map place_of ts ++ class_points c.args.side c.in-Ok.classes) c.new-points.ensures.items)
    (c.in-Ok-push_atoms.ensures.places ∙ ap (λ (ts : List TestPoint). map place_of ts ++ flat_map (beside_atom c.args.side (unsigned_abs n.scale) (unsigned_abs n.span) x) (map atom_of atoms)) c.new-ends.ensures.items)
    c.in_ok-with_ends-in-Ok-push_atoms.ensures.places

pub returns-in_ok-with_ends-in-Ok-push_atoms-clause-within : goal.returns-in_ok-with_ends-in-Ok-push_atoms-clause-within
returns-in_ok-with_ends-in-Ok-push_atoms-clause-within c =
    let p = c.requires.period in let n = c.args.period.now in let x = c.args.x.number in let atoms = c.args.atoms.now in
    let q = passed_classes c.quotient.result n.scale n.span _ _ c.quotient.ensures.within p.scale_within p.span_within c.quotient.ensures.value p.scale p.span in
    let w = subst InLimit (sym (read_back c.quotient.result c.quotient.ensures.within) ∙ q) c.quotient.ensures.within in
    all_within c.args.side x atoms n.scale n.span p.scale p.span w c.in-Ok-push_atoms.ensures.within

pub returns-in-Err-clause-many : goal.returns-in-Err-clause-many
returns-in-Err-clause-many c k =
    let p = c.requires.period in let n = c.args.period.now in let fits = c.ranges.limit.fits in
    many_ends c.args.side c.args.x.number c.args.atoms.now n.scale n.span c.args.limit p.scale p.span (omega arith) (c.push_atoms.ensures.many (c.in-Err.is ∙ same_error c.in-Err.error _ k))

pub returns-in-Err-clause-overflow : goal.returns-in-Err-clause-overflow
returns-in-Err-clause-overflow c k =
    let p = c.requires.period in let n = c.args.period.now in
    some_fails c.args.side c.args.x.number c.args.atoms.now n.scale n.span p.scale p.span (c.push_atoms.ensures.overflow (c.in-Err.is ∙ same_error c.in-Err.error _ k))
