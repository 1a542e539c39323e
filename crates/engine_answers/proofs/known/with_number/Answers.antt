use Rattle.std.proofs.Common.{rules, ◌≡◌, Some, None, nat_eq, ℕ, to_z, of_z, ap, ◌∙◌, arith, FitsSigned}
use Rattle.std.specs.Int.{w128}
use Rattle.std.specs.Prelude.{if◌then◌else◌}
use Rattle.std.proofs.lemmas.Int.{ints, to_z-of_z}
use Rattle.exact_numbers.specs.Limit.{checked}
use Rattle.exact_numbers.specs.Frac.{scaled}
use Rattle.exact_numbers.specs.Fraction.{frac_of}
use Rattle.exact_numbers.proofs.Casts.{fits}
use Rattle.exact_numbers.proofs.Limits.{formed_by}
use Rattle.linear_forms.specs.Values.{number_at}
use Rattle.sample_reference.specs.Seen.{value_of}
use Rattle.engine_answers.proofs.Pointing.{with_is, with_none}
use Rattle.engine_answers.proofs.known.with_number.Goals as goal

pub returns-in_ok-map_err-in-Some : goal.returns-in_ok-map_err-in-Some
returns-in_ok-map_err-in-Some c =
    let v = c.args.numbers in
    let a = c.args.value in
    let n = c.in-Some.number in
    let fd : FitsSigned w128 c.denominator.result = omega (arith, ints, c.denominator.type_inv) in
    let read : Some n ≡ checked (scaled (frac_of a.1) c.denominator.result) = simp to_z-of_z at c.in-Some.ensures in
    let rule : Some n ≡ checked (scaled (frac_of a.1) v.denominator) = read ∙ ap (λ d. checked (scaled (frac_of a.1) d)) c.denominator.ensures.value in
    let fn = fits n (formed_by (scaled (frac_of a.1) v.denominator) n rule).within in
    let put : (x : ℕ) → number_at c.put.new.self x ≡ (if nat_eq a.0.number x then to_z w128 (of_z w128 n) else number_at v x) = search rules in
    with_is (value_of a) v c.put.new.self n rule (λ x. put x ∙ ap (λ m. if nat_eq a.0.number x then m else number_at v x) (to_z-of_z w128 n fn)) c.put.ensures.denominator

pub returns-in-None : goal.returns-in-None
returns-in-None c =
    let a = c.args.value in
    let fd : FitsSigned w128 c.denominator.result = omega (arith, ints, c.denominator.type_inv) in
    let read : None ≡ checked (scaled (frac_of a.1) c.denominator.result) = simp to_z-of_z at c.in-None.ensures in
    with_none (value_of a) c.args.numbers (read ∙ ap (λ d. checked (scaled (frac_of a.1) d)) c.denominator.ensures.value)
