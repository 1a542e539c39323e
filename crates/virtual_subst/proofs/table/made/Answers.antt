use Rattle.std.proofs.Common.{◌≡◌, rules, nat_cmp}
use Rattle.std.proofs.lemmas.Fn.{always_returns_same}
use Rattle.formula_store.specs.declared.id.FormulaId.{FormulaId}
use Rattle.virtual_subst.proofs.Noted.{found, not_found, keys_compare}
use Rattle.virtual_subst.proofs.table.made.Goals as goal

pub returns-in-Ok : goal.returns-in-Ok
returns-in-Ok c =
    let v = c.args.id.number in
    let key = λ (p : FormulaId × FormulaId). nat_cmp p.0.number v in
    let at = c.in-Ok.ensures.position key (always_returns_same _ (λ a r. r ≡ key a.0.now) _ (λ a r g k. (search rules, search rules))) in
    let d : FormulaId × FormulaId = (record { number = 0 }, record { number = 0 }) in
    found c.args.table.now c.args.id c.in-Ok.place d c.requires c.in-Ok.ensures.bound at

pub returns-in-Err : goal.returns-in-Err
returns-in-Err c =
    let v = c.args.id.number in
    let key = λ (p : FormulaId × FormulaId). nat_cmp p.0.number v in
    let at = c.in-Err.ensures.position key (always_returns_same _ (λ a r. r ≡ key a.0.now) _ (λ a r g k. (search rules, search rules))) in
    not_found c.args.table.now c.args.id c.in-Err.field-0 (at (keys_compare c.args.table.now v c.requires))
