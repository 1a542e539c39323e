use Rattle.std.proofs.Common.{rules, ◌≡◌, ◌++◌, ◌∷◌, [], List, Some, Err, ap, subst, ◌∙◌}
use Rattle.std.proofs.lemmas.List.{map-append}
use Rattle.exact_numbers.specs.Fraction.{frac_of}
use Rattle.logic_meaning.specs.Some.{EachOf}
use Rattle.elimination_theory.proofs.SomeListed.{each_left, each_right}
use Rattle.certificates.specs.Rows.{kept_of, all_kept}
use Rattle.certificates.specs.Search.{Kept, AreBounds, ascent}
use Rattle.certificates.specs.Found.{ValueList}
use Rattle.certificates.specs.declared.steps.Step.{Step}
use Rattle.certificates.proofs.Ascents.{value_more, value_lacks, err_lacks}
use Rattle.certificates.proofs.found.Found.ascend.Goals as goal

-- the last step behind the others
split : (all rest : List Step) (s : Step) → all ≡ rest ++ s ∷ [] → all_kept all ≡ all_kept rest ++ kept_of s ∷ []
split all rest s e = ap all_kept e ∙ map-append kept_of rest (s ∷ [])

pub step_value-requires : goal.step_value-requires
step_value-requires c =
    let e = split c.loop-step.steps.items c.pop.new.self.items c.in-Some.step c.in-Some.ensures.items in
    (each_right AreBounds (all_kept c.pop.new.self.items) (kept_of c.in-Some.step ∷ []) (subst (EachOf AreBounds) e c.loop-step.invariant.bounds)).0

pub returns-in_err-value-clause-stops : goal.returns-in_err-value-clause-stops
returns-in_err-value-clause-stops c =
    let e = c.in_err-value.field-0.0 in
    let is : c.from_residual.result ≡ Err e = search rules in
    let all = ascent (all_kept c.args.steps.items) (Some []) in
    let s = split c.loop-step.steps.items c.pop.new.self.items c.in-Some.step c.in-Some.ensures.items in
    let before = subst (λ (ks : List Kept). ascent ks (Some c.loop-step.found) ≡ all) s c.loop-step.invariant.told in
    err_lacks c.from_residual.result e all is (value_lacks (all_kept c.pop.new.self.items) (kept_of c.in-Some.step) c.loop-step.found all before e c.in_err-value.ensures.stops)

pub loop-step-preserved : goal.loop-step-preserved
loop-step-preserved c =
    let all = ascent (all_kept c.args.steps.items) (Some []) in
    let rest = all_kept c.pop.new.self.items in
    let s = split c.loop-step.steps.items c.pop.new.self.items c.in-Some.step c.in-Some.ensures.items in
    let before = subst (λ (ks : List Kept). ascent ks (Some c.loop-step.found) ≡ all) s c.loop-step.invariant.told in
    record {
      told = ap (λ (vs : ValueList). ascent rest (Some vs)) c.in_ok-found.ensures ∙ value_more rest (kept_of c.in-Some.step) c.loop-step.found all before (frac_of c.in_ok-value.value) c.in_ok-value.ensures.value;
      bounds = each_left AreBounds rest (kept_of c.in-Some.step ∷ []) (subst (EachOf AreBounds) s c.loop-step.invariant.bounds);
    }
