use Rattle.std.proofs.Common.{rules, arith, ◌≡◌, ◌<◌, ◌≤◌, ◌^◌, ◌+◌, ◌*◌, ℕ, All, map, true, false, Some, Err, sym, ap, ap₂, ◌∙◌, subst}
use Rattle.std.proofs.Math.IntN.{pos}
use Rattle.std.specs.Option.{MatchOption, SomeIff}
use Rattle.normal_atoms.specs.Atoms.{atom_of}
use Rattle.logic_meaning.specs.Atom.{Atom}
use Rattle.logic_meaning.specs.Tree.{Tree}
use Rattle.logic_meaning.specs.Reference.{full_step}
use Rattle.logic_meaning.specs.StopLimits.{atom_within, span_within}
use Rattle.reference_engine.specs.declared.measured.Measured.{Measured}
use Rattle.reference_engine.specs.declared.measured.Measured.TheVariants as measured
use Rattle.std.specs.Prelude.{List, Option}
use Rattle.exact_numbers.specs.Limit.{InLimit}
use Rattle.logic_meaning.specs.Context.{Integers}
use Rattle.logic_meaning.specs.Sizes.{nodes}
use Rattle.logic_meaning.specs.declared.side.Side.TheVariants.{Lower}
use Rattle.logic_meaning.specs.Atoms.{atoms_of}
use Rattle.logic_meaning.specs.IntegersPoints.{own_span, integer_count, integer_count_of, integer_points_of}
use Rattle.elimination_theory.proofs.StandOnce.{points_once}
use Rattle.formula_laws.specs.StandsOnce.{StandsOnce}
use Rattle.logic_meaning.specs.Limits.{each, place_within}
use Rattle.logic_meaning.specs.Measured.{done, pay}
use Rattle.nnf_trees.specs.Forms.{limited}
use Rattle.nnf_trees.specs.Nnfs.{nnf_of}
use Rattle.test_points.specs.declared.error.PointError.TheVariants as error
use Rattle.reference_engine.specs.Told.{StopsWith, seen, bare}
use Rattle.reference_engine.specs.Paid.{charge_of, paid_for}
use Rattle.reference_engine.proofs.Seen.{stops_along}
use Rattle.reference_engine.proofs.Paying.{found_limited, some_limited, charge_limited, spanned, is_in_limit, payment_stops, numbers_stop, if_err_told, error_told, each_fails, count_few}
use Rattle.reference_engine.proofs.points.paid_in_integers.Goals as goal

-- what is charged is the cost of the step
charge_is : (x : ℕ) (f : Tree) (charge count size : Option ℕ) (atoms : List Atom) → charge ≡ charge_of count size → MatchOption count (2 ^ 64 ≤ integer_count_of Lower x atoms) (λ k. k ≡ integer_count_of Lower x atoms) →
    MatchOption count (Unit {0}) (λ k. k < 2 ^ 64) → SomeIff size (nodes f < 2 ^ 64) (nodes f) → atoms ≡ atoms_of f → charge ≡ limited (integer_count Lower x f * (nodes f + 2))
charge_is x f charge count size atoms e h b k a =
    let found = found_limited count (integer_count_of Lower x atoms) h b ∙ ap (λ (bs : List Atom). limited (integer_count_of Lower x bs)) a in
    e ∙ ap₂ charge_of found (some_limited size (nodes f) k) ∙ charge_limited (integer_count Lower x f) (nodes f)

pub returns-in_err-pay-clause-stops : goal.returns-in_err-pay-clause-stops
returns-in_err-pay-clause-stops c =
    let f = nnf_of c.args.branch.now in
    let x = c.args.x.number in
    let limit = c.args.setting.limit in
    let m = integer_count Lower x f in
    let within : span_within Integers x f ≡ true = is_in_limit (pos (own_span x (atoms_of f))) (subst InLimit (c.in-Ok.ensures.span ∙ ap (λ (bs : List Atom). pos (own_span x bs)) c.requires.atoms) c.in-Ok.ensures.span_within) in
    let bounded : MatchOption c.points_count-count.result (Unit {0}) (λ k. k < 2 ^ 64) = search rules in
    let charged : c.charge.result ≡ limited (m * (nodes f + 2)) = charge_is x f c.charge.result c.points_count-count.result c.nodes.result (map atom_of c.args.atoms.now) c.charge.ensures c.points_count-count.ensures bounded c.nodes.ensures c.requires.atoms in
    let e = c.in_err-pay.field-0.0 in
    let is : c.from_residual.result ≡ Err e = search rules in
    if_err_told c.from_residual.result e _ is (payment_stops Integers limit x f e c.args.cost.now (stops_along e _ _ (sym (spanned limit x f c.args.cost.now within)) (c.in_err-pay.ensures (m * (nodes f + 2)) charged)))

pub returns-in-Ok-integer_points-clause-points : goal.returns-in-Ok-integer_points-clause-points
returns-in-Ok-integer_points-clause-points c =
    let f = nnf_of c.args.branch.now in
    let x = c.args.x.number in
    let limit = c.args.setting.limit in
    let m = integer_count Lower x f in
    let within : span_within Integers x f ≡ true = is_in_limit (pos (own_span x (atoms_of f))) (subst InLimit (c.in-Ok.ensures.span ∙ ap (λ (bs : List Atom). pos (own_span x bs)) c.requires.atoms) c.in-Ok.ensures.span_within) in
    let bounded : MatchOption c.points_count-count.result (Unit {0}) (λ k. k < 2 ^ 64) = search rules in
    let charged : c.charge.result ≡ limited (m * (nodes f + 2)) = charge_is x f c.charge.result c.points_count-count.result c.nodes.result (map atom_of c.args.atoms.now) c.charge.ensures c.points_count-count.ensures bounded c.nodes.ensures c.requires.atoms in
    record {
      places = c.in-Ok-integer_points.ensures.points ∙ ap (integer_points_of Lower x) c.requires.atoms;
      points_of = c.in-Ok-integer_points.ensures.well_formed;
      paid = spanned limit x f c.args.cost.now within ∙ c.in_ok-pay.ensures (m * (nodes f + 2)) charged;
    }

pub returns-in-Err-integer_points-clause-stops : goal.returns-in-Err-integer_points-clause-stops
returns-in-Err-integer_points-clause-stops c =
    let f = nnf_of c.args.branch.now in
    let x = c.args.x.number in
    let limit = c.args.setting.limit in
    let m = integer_count Lower x f in
    let within : span_within Integers x f ≡ true = is_in_limit (pos (own_span x (atoms_of f))) (subst InLimit (c.in-Ok.ensures.span ∙ ap (λ (bs : List Atom). pos (own_span x bs)) c.requires.atoms) c.in-Ok.ensures.span_within) in
    let bounded : MatchOption c.points_count-count.result (Unit {0}) (λ k. k < 2 ^ 64) = search rules in
    let charged : c.charge.result ≡ limited (m * (nodes f + 2)) = charge_is x f c.charge.result c.points_count-count.result c.nodes.result (map atom_of c.args.atoms.now) c.charge.ensures c.points_count-count.ensures bounded c.nodes.ensures c.requires.atoms in
    let o = seen (full_step Integers limit x (bare f) c.args.cost.now) in
    let e = c.in-Err-integer_points.error in
    let paid : pay limit (m * (nodes f + 2)) c.args.cost.now ≡ done (tt, c.pay.new.cost) = c.in_ok-pay.ensures (m * (nodes f + 2)) charged in
    let past : e ≡ error.Overflow → StopsWith measured.Overflow o
    = λ h.
    let fails : each place_within (integer_points_of Lower x (atoms_of f)) ≡ false
    = sym (ap (λ (bs : List Atom). each place_within (integer_points_of Lower x bs)) c.requires.atoms) ∙ c.integer_points.ensures.overflow (c.in-Err-integer_points.is ∙ ap Err h) in
    numbers_stop Integers limit x f c.args.cost.now c.pay.new.cost (spanned limit x f c.args.cost.now within ∙ paid)
    (each_fails place_within (λ s. each (atom_within Integers x s) (atoms_of f)) (integer_points_of Lower x (atoms_of f)) fails) in
    let few : e ≡ error.Nodes → ⊥
    = λ h.
    let many : limit < m = subst (λ (bs : List Atom). limit < integer_count_of Lower x bs) c.requires.atoms (c.integer_points.ensures.many (c.in-Err-integer_points.is ∙ ap Err h)) in
    let k = count_few limit m (nodes f) c.args.cost.now c.pay.new.cost paid in
    omega (arith, many, k) in
    subst (λ (k : Measured). StopsWith k o) (sym c.stopped-in-Err-integer_points.ensures) (error_told o e past few)

pub points_count-count-requires-clause-once : goal.points_count-count-requires-clause-once
points_count-count-requires-clause-once c = subst StandsOnce (sym c.requires.atoms) (let o = points_once Lower c.args.x.number (nnf_of c.args.branch.now) in o.0)

pub integer_points-requires-clause-once : goal.integer_points-requires-clause-once
integer_points-requires-clause-once c = subst StandsOnce (sym c.requires.atoms) (let o = points_once Lower c.args.x.number (nnf_of c.args.branch.now) in o.0)
