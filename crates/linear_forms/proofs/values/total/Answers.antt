use Rattle.std.proofs.Common.{◌≡◌, ◌+◌, None, Some, pos, ℤ, FitsSigned, rules, get_or, drop, ap, sym, ◌∙◌, to_z, [], ◌∷◌}
use Rattle.std.specs.Prelude.{◌*ℤ◌, ◌+ℤ◌}
use Rattle.std.specs.Int.{w128}
use Rattle.std.proofs.lemmas.List.{drop_all}
use Rattle.std.proofs.lemmas.Int.{to_z-of_z}
use Rattle.exact_numbers.specs.Limit.{checked}
use Rattle.exact_numbers.proofs.Casts.{fits}
use Rattle.exact_numbers.proofs.Limits.{formed_by}
use Rattle.logic_meaning.specs.declared.form.VarId.{VarId}
use Rattle.linear_forms.specs.Linear.{term_of, terms_of}
use Rattle.logic_meaning.specs.Terms.{total_steps}
use Rattle.linear_forms.specs.Values.{number_at}
use Rattle.linear_forms.proofs.Steps.{step_product_none, step_sum_none, step_on, step_end, terms_from}
use Rattle.linear_forms.proofs.values.total.Goals as goal

pub returns-in_err-part : goal.returns-in_err-part
returns-in_err-part c =
    let d : VarId × ℤ = (record { number = 0 }, pos 0) in
    let i = c.loop-term.term-index in
    let p = get_or c.args.terms.now i d in
    let rest = terms_of (drop (i + 1) c.args.terms.now) in
    let at = number_at c.args.at.now in
    let s = to_z w128 c.loop-term.total-bits in
    let fp : FitsSigned w128 p.1 = search rules in
    let fv : FitsSigned w128 c.get.result = search rules in
    let here : total_steps s (term_of p ∷ rest) at ≡ total_steps (pos 0) (terms_of c.args.terms.now) at = ap (λ ts. total_steps s ts at) (sym (terms_from c.args.terms.now i d c.loop-term-test.true)) ∙ c.loop-term.invariant in
    let e : None ≡ checked (p.1 *ℤ at p.0.number) = rw c.get.ensures at (simp to_z-of_z at c.in_err-part.ensures.rule) in
    c.from_residual.ensures ∙ sym (step_product_none s (term_of p) rest at (sym e)) ∙ here

pub returns-in_err-total : goal.returns-in_err-total
returns-in_err-total c =
    let d : VarId × ℤ = (record { number = 0 }, pos 0) in
    let i = c.loop-term.term-index in
    let p = get_or c.args.terms.now i d in
    let rest = terms_of (drop (i + 1) c.args.terms.now) in
    let at = number_at c.args.at.now in
    let s = to_z w128 c.loop-term.total-bits in
    let fp : FitsSigned w128 p.1 = search rules in
    let fv : FitsSigned w128 c.get.result = search rules in
    let here : total_steps s (term_of p ∷ rest) at ≡ total_steps (pos 0) (terms_of c.args.terms.now) at = ap (λ ts. total_steps s ts at) (sym (terms_from c.args.terms.now i d c.loop-term-test.true)) ∙ c.loop-term.invariant in
    let m : Some c.in_ok-part.part ≡ checked (p.1 *ℤ at p.0.number) = rw c.get.ensures at (simp to_z-of_z at c.in_ok-part.ensures.rule) in
    let f = formed_by (p.1 *ℤ at p.0.number) c.in_ok-part.part m in
    let fm = fits c.in_ok-part.part f.within in
    let e : None ≡ checked (s +ℤ p.1 *ℤ at p.0.number) = rw f.same at (simp to_z-of_z at c.in_err-total.ensures.rule) in
    c.from_residual-in_err-total.ensures ∙ sym (step_sum_none s (term_of p) rest at f.formed (sym e)) ∙ here

pub loop-term-preserved : goal.loop-term-preserved
loop-term-preserved c =
    let d : VarId × ℤ = (record { number = 0 }, pos 0) in
    let i = c.loop-term.term-index in
    let p = get_or c.args.terms.now i d in
    let rest = terms_of (drop (i + 1) c.args.terms.now) in
    let at = number_at c.args.at.now in
    let s = to_z w128 c.loop-term.total-bits in
    let fp : FitsSigned w128 p.1 = search rules in
    let fv : FitsSigned w128 c.get.result = search rules in
    let here : total_steps s (term_of p ∷ rest) at ≡ total_steps (pos 0) (terms_of c.args.terms.now) at = ap (λ ts. total_steps s ts at) (sym (terms_from c.args.terms.now i d c.loop-term-test.true)) ∙ c.loop-term.invariant in
    let m : Some c.in_ok-part.part ≡ checked (p.1 *ℤ at p.0.number) = rw c.get.ensures at (simp to_z-of_z at c.in_ok-part.ensures.rule) in
    let f = formed_by (p.1 *ℤ at p.0.number) c.in_ok-part.part m in
    let fm = fits c.in_ok-part.part f.within in
    let e : Some c.in_ok-total.total ≡ checked (s +ℤ p.1 *ℤ at p.0.number) = rw f.same at (simp to_z-of_z at c.in_ok-total.ensures.rule) in
    let g = formed_by (s +ℤ p.1 *ℤ at p.0.number) c.in_ok-total.total e in
    let ft = fits c.in_ok-total.total g.within in
    ap (λ n. total_steps n rest at) (to_z-of_z w128 c.in_ok-total.total ft ∙ g.same) ∙ sym (step_on s (term_of p) rest at f.formed g.formed) ∙ here

pub returns : goal.returns
returns c =
    let at = number_at c.args.at.now in
    let s = to_z w128 c.loop-term.total-bits in
    let e : drop c.loop-term.term-index c.args.terms.now ≡ [] = drop_all c.loop-term.term-index c.args.terms.now c.loop-term-test.false in
    sym (step_end s at) ∙ ap (λ xs. total_steps s (terms_of xs) at) (sym e) ∙ c.loop-term.invariant
