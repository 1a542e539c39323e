use Rattle.std.proofs.Common.{rules, ◌≡◌, ◌∙◌, ap, subst, Err, FitsSigned}
use Rattle.std.specs.Int.{w128}
use Rattle.std.specs.Result.{IfOk}
use Rattle.std.proofs.lemmas.Int.{to_z-of_z}
use Rattle.linear_forms.specs.declared.error.LinError.TheVariants.{Overflow}
use Rattle.linear_forms.proofs.Lookups.{on_ok}
use Rattle.logic_meaning.specs.Rows as search
use Rattle.certificates.specs.Rows.{row_of, pair_of}
use Rattle.certificates.proofs.NewRow.{factors_are, joined_is, within_is, refused_is}
use Rattle.certificates.proofs.rows.without_name.Goals as goal

pub returns-in_err-row-clause-overflow : goal.returns-in_err-row-clause-overflow
returns-in_err-row-clause-overflow c =
    let k = c.factors-upper_factor in
    let a = c.coefficient-above in let b = c.coefficient-below in
    let fu : FitsSigned w128 k.result.0 = search rules in
    let fl : FitsSigned w128 k.result.1 = search rules in
    let n = factors_are a.result b.result _ _ a.ensures.value b.ensures.value a.ensures.within b.ensures.within k.result.0 k.result.1 k.ensures.upper_factor k.ensures.lower_factor in
    let e : c.from_residual.result ≡ Err c.in_err-row.field-0.0 = search rules in
    let p = simp to_z-of_z at c.combine.ensures.overflow in
    λ o. let m : c.in_err-row.field-0.0 ≡ Overflow = cc in refused_is c.args.name.number (pair_of c.args.upper.now c.args.lower.now) k.result.0 k.result.1 n.0 n.1 (p (c.in_err-row.was ∙ ap Err m))

pub returns-clause-row : goal.returns-clause-row
returns-clause-row c =
    let k = c.factors-upper_factor in
    let a = c.coefficient-above in let b = c.coefficient-below in
    let fu : FitsSigned w128 k.result.0 = search rules in
    let fl : FitsSigned w128 k.result.1 = search rules in
    let n = factors_are a.result b.result _ _ a.ensures.value b.ensures.value a.ensures.within b.ensures.within k.result.0 k.result.1 k.ensures.upper_factor k.ensures.lower_factor in
    let e = joined_is c.args.name.number (pair_of c.args.upper.now c.args.lower.now) k.result.0 k.result.1 n.0 n.1 (row_of c.in_ok-row.row) (simp to_z-of_z at c.in_ok-row.ensures.row) in
    subst (λ (q : search.Row). IfOk c.lowest.result (λ r. row_of r ≡ search.lowest_row q)) e c.lowest.ensures.row

pub returns-clause-within : goal.returns-clause-within
returns-clause-within c =
    let k = c.factors-upper_factor in
    let a = c.coefficient-above in let b = c.coefficient-below in
    let fu : FitsSigned w128 k.result.0 = search rules in
    let fl : FitsSigned w128 k.result.1 = search rules in
    let n = factors_are a.result b.result _ _ a.ensures.value b.ensures.value a.ensures.within b.ensures.within k.result.0 k.result.1 k.ensures.upper_factor k.ensures.lower_factor in
    on_ok c.lowest.result (within_is c.args.name.number (pair_of c.args.upper.now c.args.lower.now) k.result.0 k.result.1 n.0 n.1 (simp to_z-of_z at c.in_ok-row.ensures.within))
