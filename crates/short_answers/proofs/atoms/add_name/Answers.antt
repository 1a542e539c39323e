use Rattle.std.proofs.Common.{◌≡◌, false, List, nat_eq, sym, ap, subst, ◌∙◌}
use Rattle.std.specs.List.{list_any}
use Rattle.formula_laws.specs.StandsOnce.{StandsOnce}
use Rattle.logic_meaning.specs.declared.form.VarId.{VarId}
use Rattle.branch_rounds.specs.Branches.{numbers}
use Rattle.short_answers.proofs.Adding.{once_more}
use Rattle.short_answers.proofs.atoms.add_name.Goals as goal

pub returns-in_ok-push : goal.returns-in_ok-push
returns-in_ok-push c =
    let names : List VarId = c.args.names.now.items in
    let new : list_any (λ (y : VarId). nat_eq y.number c.args.name.number) names ≡ false =
    ap (list_any (λ (y : VarId). nat_eq y.number c.args.name.number)) (sym c.deref.ensures.value) ∙ sym c.contains.ensures.value ∙ c.if-not-contains.true in
    subst (λ (ns : List VarId). StandsOnce (numbers ns)) (sym c.in_ok-push.ensures.items) (once_more c.args.name names new c.requires)
