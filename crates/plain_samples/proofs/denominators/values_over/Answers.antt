use Rattle.std.proofs.Common.{rules, ◌≡◌, ◌+◌, ℤ, ℕ, List, drop, Some, nat_eq, sym, ap, ◌∙◌, subst, to_z, of_z}
use Rattle.std.specs.Int.{w128}
use Rattle.std.specs.Prelude.{if◌then◌else◌}
use Rattle.std.proofs.lemmas.Int.{to_z-of_z}
use Rattle.exact_numbers.specs.declared.fraction.Fraction.{Fraction}
use Rattle.exact_numbers.specs.Limit.{checked}
use Rattle.exact_numbers.specs.Frac.{scaled}
use Rattle.exact_numbers.specs.Fraction.{frac_of}
use Rattle.exact_numbers.proofs.Casts.{fits}
use Rattle.exact_numbers.proofs.Limits.{formed_by}
use Rattle.logic_meaning.specs.declared.form.VarId.{VarId}
use Rattle.nnf_trees.proofs.Counting.{drop_at}
use Rattle.linear_forms.specs.Values.{Numbers, number_at}
use Rattle.sample_reference.specs.Seen.{value_of, values_of}
use Rattle.logic_meaning.specs.Values.{Value}
use Rattle.plain_samples.proofs.OneDenominator.{AreOverBefore, over_more, over_refused}
use Rattle.plain_samples.proofs.denominators.values_over.Goals as goal

-- the invariant, over the denominator
before : (z d : ℤ) (vs : List (VarId × Fraction)) (rest : List Value) (v : Numbers) → z ≡ d → AreOverBefore z (values_of vs) rest v → AreOverBefore d (values_of vs) rest v
before z d vs rest v e h = subst (λ (y : ℤ). AreOverBefore y (values_of vs) rest v) e h

pub returns-in_default : goal.returns-in_default
returns-in_default c =
    let vs = c.args.found.now in
    let i = c.loop-value.value-index in
    let a = c.value-item.result in
    let d = c.args.denominator in
    let fd = c.ranges.denominator in
    let split = drop_at vs i a c.loop-value-test.true c.value-item.is in
    let rule : c.scaled.result ≡ checked (scaled (frac_of a.1) d) = simp to_z-of_z at c.scaled.ensures in
    let inv = before _ d vs _ c.loop-value.values (to_z-of_z w128 d fd) c.loop-value.invariant in
    over_refused d (values_of vs) (values_of (drop (i + 1) vs)) (value_of a) c.loop-value.values
    (subst (λ (xs : List (VarId × Fraction)). AreOverBefore d (values_of vs) (values_of xs) c.loop-value.values) split inv)
    (sym c.in_default.is ∙ rule)

pub loop-value-preserved : goal.loop-value-preserved
loop-value-preserved c =
    let vs = c.args.found.now in
    let i = c.loop-value.value-index in
    let a = c.value-item.result in
    let d = c.args.denominator in
    let fd = c.ranges.denominator in
    let split = drop_at vs i a c.loop-value-test.true c.value-item.is in
    let n = c.in-Some.number in
    let rule : Some n ≡ checked (scaled (frac_of a.1) d) = simp to_z-of_z at c.in-Some.ensures in
    let f = formed_by (scaled (frac_of a.1) d) n rule in
    let fn = fits n f.within in
    let inv = before _ d vs _ c.loop-value.values (to_z-of_z w128 d fd) c.loop-value.invariant in
    let put : (x : ℕ) → number_at c.put.new.self x ≡ (if nat_eq a.0.number x then to_z w128 (of_z w128 n) else number_at c.loop-value.values x) = search rules in
    before d _ vs _ c.put.new.self (sym (to_z-of_z w128 d fd))
    (over_more d n (values_of vs) (values_of (drop (i + 1) vs)) (value_of a) c.loop-value.values c.put.new.self
    (subst (λ (xs : List (VarId × Fraction)). AreOverBefore d (values_of vs) (values_of xs) c.loop-value.values) split inv)
    rule (λ x. put x ∙ ap (λ m. if nat_eq a.0.number x then m else number_at c.loop-value.values x) (to_z-of_z w128 n fn)) c.put.ensures.denominator)
