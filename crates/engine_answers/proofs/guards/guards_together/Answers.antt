use Rattle.std.proofs.Common.{rules, ◌≡◌, List, Some, map, sym, ap, ◌∙◌, subst}
use Rattle.std.proofs.lemmas.Result.{IfOk-weaker}
use Rattle.std.specs.List.{AllByRecursion}
use Rattle.logic_meaning.specs.Fold.{from_pieces}
use Rattle.logic_meaning.specs.declared.junction.Junction.TheVariants.{Disjunction}
use Rattle.formula_tree.specs.Makers.{IsMade}
use Rattle.formula_tree.specs.Trees.{members}
use Rattle.formula_store.specs.declared.id.FormulaId.{FormulaId}
use Rattle.formula_store.specs.Nodes.{tree, IsId}
use Rattle.engine_answers.specs.declared.case_tree.Case.{Case}
use Rattle.engine_answers.specs.CaseTrees.{cases_seen, guards_together}
use Rattle.engine_answers.proofs.Together.{guards_seen, guards_are}
use Rattle.engine_answers.proofs.guards.guards_together.Goals as goal

pub disjunction-requires : goal.disjunction-requires
disjunction-requires c =
    let cases = c.args.case_tree.now.cases.items in
    let listed : c.in-Ok.guards.items ≡ map (λ (k : Case). k.guard) c.deref.result.now = search rules in
    subst (AllByRecursion (IsId c.args.store.now)) (sym (listed ∙ ap (map (λ (k : Case). k.guard)) c.deref.ensures.value)) (guards_are (IsId c.args.store.now) cases c.requires)

pub returns-clause-made : goal.returns-clause-made
returns-clause-made c =
    let old = c.args.store.now in
    let new = c.disjunction.new.store in
    let cases = c.args.case_tree.now.cases.items in
    let listed : c.in-Ok.guards.items ≡ map (λ (k : Case). k.guard) c.deref.result.now = search rules in
    let ids : c.in-Ok.guards.items ≡ map (λ (k : Case). k.guard) cases = listed ∙ ap (map (λ (k : Case). k.guard)) c.deref.ensures.value in
    IfOk-weaker c.disjunction.result (λ id. IsMade (IsId new) (tree new) id (from_pieces Disjunction (Some (members (map (tree old) c.in-Ok.guards.items)))))
    (λ id. IsMade (IsId new) (tree new) id (guards_together (cases_seen old cases)))
    (λ id m. record {
      is = m.is;
      same = m.same ∙ ap (λ (l : List FormulaId). from_pieces Disjunction (Some (members (map (tree old) l)))) ids ∙ ap (λ gs. from_pieces Disjunction (Some gs)) (guards_seen old cases);
    })
    c.disjunction.ensures.made
