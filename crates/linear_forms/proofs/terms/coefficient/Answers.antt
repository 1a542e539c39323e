use Rattle.std.proofs.Common.{◌≡◌, pos, ℤ, FitsSigned, rules, nat_cmp, get_or}
use Rattle.std.specs.Int.{w128}
use Rattle.std.proofs.lemmas.Int.{to_z-of_z}
use Rattle.std.proofs.lemmas.Fn.{always_returns_same}
use Rattle.logic_meaning.specs.declared.form.VarId.{VarId}
use Rattle.linear_forms.proofs.Search.{found, not_found, names_compare}
use Rattle.linear_forms.proofs.terms.coefficient.Goals as goal

pub returns-in-Ok : goal.returns-in-Ok
returns-in-Ok c =
    let v = c.args.name.number in
    let key = λ (p : VarId × ℤ). nat_cmp p.0.number v in
    let at = c.in-Ok.ensures.position key (always_returns_same _ (λ a r. r ≡ key a.0.now) _ (λ a r g k. (search rules, search rules))) in
    let d : VarId × ℤ = (record { number = 0 }, pos 0) in
    let p = get_or c.args.terms.now c.in-Ok.place d in
    let f : FitsSigned w128 p.1 = search rules in
    simp to_z-of_z (found c.args.terms.now v c.in-Ok.place d c.requires c.in-Ok.ensures.bound at)

pub returns-in-Err : goal.returns-in-Err
returns-in-Err c =
    let v = c.args.name.number in
    let key = λ (p : VarId × ℤ). nat_cmp p.0.number v in
    let at = c.in-Err.ensures.position key (always_returns_same _ (λ a r. r ≡ key a.0.now) _ (λ a r g k. (search rules, search rules))) in
    not_found c.args.terms.now v c.in-Err.field-0 (at (names_compare c.args.terms.now v c.requires))
