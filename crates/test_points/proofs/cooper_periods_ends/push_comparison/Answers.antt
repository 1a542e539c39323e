use Rattle.std.proofs.Common.{◌≡◌, ◌≤◌, ◌^◌, ◌/◌, ◌++◌, List, map, flat_map, length, sym, ap, ap₂, ◌∙◌, subst, arith, unsigned_abs, int_div, to_z, of_z}
use Rattle.std.proofs.Math.IntN.{ℤ, pos}
use Rattle.std.specs.Prelude.{◌<ℤ◌}
use Rattle.std.specs.Int.{w128}
use Rattle.std.proofs.lemmas.Int.{ints}
use Rattle.exact_numbers.specs.Limit.{InLimit}
use Rattle.exact_numbers.proofs.Casts.{read_back}
use Rattle.logic_meaning.specs.Form.{without}
use Rattle.logic_meaning.specs.Answer.{Place}
use Rattle.logic_meaning.specs.IntegersPoints.{next_points, comparison_starts}
use Rattle.elimination_theory.proofs.LowestTerms.{natural}
use Rattle.logic_meaning.specs.Limits.{each, place_within}
use Rattle.normal_atoms.specs.Atoms.{relation_of}
use Rattle.test_points.specs.Points.{place_of}
use Rattle.test_points.proofs.Steps.{on_map, abs_within}
use Rattle.test_points.proofs.Beside.{starts_same}
use Rattle.test_points.proofs.cooper_periods_ends.push_comparison.Goals as goal

factor_passed : (s t f a : ℤ) → pos 0 <ℤ s → InLimit s → InLimit t → InLimit f → a ≡ pos (unsigned_abs (to_z w128 (of_z w128 t))) →
    f ≡ int_div (to_z w128 (of_z w128 s)) (to_z w128 (of_z w128 a)) → to_z w128 (of_z w128 f) ≡ pos (unsigned_abs s / unsigned_abs t)
factor_passed s t f a h ws wt wf e g =
    let b = e ∙ ap (λ (z : ℤ). pos (unsigned_abs z)) (read_back t wt) in
    read_back f wf ∙ g ∙ ap₂ int_div (read_back s ws ∙ natural s (omega (arith, ints))) (read_back a (subst InLimit (sym b) (abs_within t wt)) ∙ b)

nonzero : (t c : ℤ) → t ≡ c → (of_z w128 t ≡ 0 → ⊥) → ¬ (c ≡ pos 0)
nonzero t c e n z = n (ap (of_z w128) (e ∙ z))

pub returns : goal.returns
returns c =
    let s = c.args.side in let l = unsigned_abs c.args.period.now.scale in let d = unsigned_abs c.args.period.now.span in
    let x = c.args.x.number in let f = c.args.form.now in let u = c.requires.usable in
    let t = c.coefficient-times.result in let v = c.coefficient-times.ensures.value in let w = c.coefficient-times.ensures.within in
    let back = read_back t w in
    let factor = factor_passed c.args.period.now.scale t c.quotient-factor.result c.abs.result u.scale u.scale_within w c.quotient-factor.ensures.within c.abs.ensures.value c.quotient-factor.ensures.value in
    let same = starts_same s l _ _ (relation_of c.args.relation) (relation_of c.seen-relation.result) (without x f) c.in_ok-end.end (nonzero t _ (sym back) c.if-times-eq0.false) c.seen-relation.ensures c.in_ok-end.ensures.value (factor ∙ ap (λ (z : ℤ). pos (l / unsigned_abs z)) (sym back)) in
    let all = ap (flat_map (next_points s l d)) (same ∙ ap (λ (z : ℤ). comparison_starts s l z (relation_of c.args.relation) (without x f)) (back ∙ v)) in
    record {
      places = on_map c.push_end.result (λ q. q ∙ ap (λ (ps : List Place). map place_of c.args.points.now.items ++ ps) all) c.push_end.ensures.places;
      well_formed = c.push_end.ensures.well_formed;
      within = on_map c.push_end.result (λ q. ap (each place_within) (sym all) ∙ q) c.push_end.ensures.within;
      overflow = λ k. ap (each place_within) (sym all) ∙ c.push_end.ensures.overflow k;
      many = λ k. subst (λ (ps : List Place). 2 ^ 64 ≤ length ps) all (c.push_end.ensures.many k);
    }
