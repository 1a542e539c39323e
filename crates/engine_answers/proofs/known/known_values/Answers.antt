use Rattle.std.proofs.Common.{rules, ◌≡◌, ◌∷◌, [], ◌++◌, pos, ◌<ℤ◌, ap, ◌∙◌, subst, arith, get_or, FitsSigned}
use Rattle.std.specs.Int.{w128}
use Rattle.std.proofs.lemmas.Int.{ints, to_z-of_z}
use Rattle.exact_numbers.specs.Frac.{lowest}
use Rattle.exact_numbers.specs.Fraction.{frac_of}
use Rattle.linear_forms.specs.Values.{number_at}
use Rattle.engine_answers.proofs.Pointing.{known_more}
use Rattle.engine_answers.proofs.known.known_values.Goals as goal

pub loop-name-preserved : goal.loop-name-preserved
loop-name-preserved c =
    let at = c.args.at.now in
    let names = c.deref-name-items.result.now in
    let i = c.loop-name.name-index in
    let name = get_or names i (record { number = 0 }) in
    let d = c.denominator-denominator.result in
    let positive = subst (λ z. pos 0 <ℤ z) c.denominator-denominator.ensures.value c.denominator-denominator.ensures.positive in
    let items : c.push.new.self.items ≡ c.loop-name.known.items ++ ((name, c.in-Some.value) ∷ []) = search rules in
    let fn : FitsSigned w128 c.get.result = omega (arith, ints, c.get.type_inv) in
    let fd : FitsSigned w128 d = omega (arith, ints, c.denominator-denominator.type_inv) in
    let read : frac_of c.in-Some.value ≡ lowest c.get.result d = simp to_z-of_z at c.in-Some.ensures in
    let rule : frac_of c.in-Some.value ≡ lowest (number_at at name.number) at.denominator = read ∙ ap (λ n. lowest n d) c.get.ensures ∙ ap (lowest (number_at at name.number)) c.denominator-denominator.ensures.value in
    known_more at names i (record { number = 0 }) c.in-Some.value c.loop-name.known.items c.push.new.self.items _ positive c.loop-name-test.true items rule c.loop-name.invariant
