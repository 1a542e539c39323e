use Rattle.std.proofs.Common.{List, subst, ◌<◌, length, rules, map}
use Rattle.normal_atoms.proofs.Stepped.{ok_map}
use Rattle.formula_tree.specs.Makers.{AreMade}
use Rattle.formula_store.specs.declared.id.FormulaId.{FormulaId}
use Rattle.formula_store.specs.Nodes.{tree, IsId}
use Rattle.short_answers.specs.Cases.{each_joined}
use Rattle.short_answers.proofs.Distributed.{distributed}
use Rattle.short_answers.proofs.cases.cases_of.Goals as goal

pub returns-in-Some-clause-cases : goal.returns-in-Some-clause-cases
returns-in-Some-clause-cases c =
    let old = c.args.store.now in
    let new = c.each_with.new.store in
    let parts : List FormulaId = c.in_ok-rest.rest.items in
    let rest : List FormulaId = c.remove-disjunction.new.self.items in
    let ms : List FormulaId = c.in_ok-members-in-Some.members.items in
    let within : c.in-Some.place < length parts = search rules in
    ok_map c.each_with.result
    (λ v made. distributed (tree old c.args.id) old new parts rest ms v.items c.in-Some.place c.remove-disjunction.result c.in_ok-rest.ensures within c.remove-disjunction.ensures.value c.remove-disjunction.ensures.by_index.2 c.in_ok-members-in-Some.ensures
    (subst (λ (xs : List FormulaId). AreMade (IsId new) (tree new) v.items (each_joined (map (tree old) ms) (map (tree old) xs))) c.deref-in-Some-2.ensures.value
    (subst (λ (xs : List FormulaId). AreMade (IsId new) (tree new) v.items (each_joined (map (tree old) xs) (map (tree old) c.deref-in-Some-2.result.now))) c.deref-in-Some.ensures.value made)))
    c.each_with.ensures.made
