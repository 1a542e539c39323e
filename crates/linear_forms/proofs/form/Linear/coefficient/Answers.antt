use Rattle.std.proofs.Common.{◌≡◌, FitsSigned, rules, ap, sym, ◌∙◌, subst, ℤ}
use Rattle.std.specs.Int.{w128}
use Rattle.std.proofs.lemmas.Int.{to_z-of_z}
use Rattle.logic_meaning.specs.Form.{multiple, coefficient}
use Rattle.exact_numbers.specs.Limit.{InLimit}
use Rattle.linear_forms.specs.Linear.{terms_of}
use Rattle.linear_forms.proofs.Search.{multiple_within}
use Rattle.linear_forms.proofs.form.Linear.coefficient.Goals as goal

pub returns : goal.returns
unfolding coefficient
returns c =
    let v = c.args.v.number in
    let xs = c.self.inside.terms.items in
    let r = c.coefficient.result in
    let f : FitsSigned w128 r = search rules in
    let e : r ≡ multiple v (terms_of xs) = c.coefficient.ensures ∙ ap (λ ys. multiple v (terms_of ys)) c.deref.ensures.value in
    record {
      value = to_z-of_z w128 r f ∙ e ∙ ap (coefficient v) c.self.view_is;
      within = subst (λ (z : ℤ). InLimit z) (sym (to_z-of_z w128 r f ∙ e)) (multiple_within v (terms_of xs) c.self.invariant.sorted.rising c.self.invariant.within);
    }
