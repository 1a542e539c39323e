use Rattle.std.proofs.Common.{◌+◌, ◌∷◌, List, get_or, map, take, sym, subst, ◌∙◌}
use Rattle.std.specs.List.{AllByRecursion}
use Rattle.logic_meaning.specs.declared.junction.Junction.TheVariants.{Conjunction}
use Rattle.logic_meaning.specs.Fold.{fold_list}
use Rattle.formula_tree.specs.Makers.{AreMade, IsMade}
use Rattle.formula_tree.specs.Trees.{members}
use Rattle.formula_store.specs.declared.id.FormulaId.{FormulaId}
use Rattle.formula_store.specs.Nodes.{tree, IsId}
use Rattle.formula_store.proofs.Makes.{keeps_then}
use Rattle.short_answers.specs.Cases.{each_joined}
use Rattle.short_answers.proofs.Adding.{each_at}
use Rattle.short_answers.proofs.Distributed.{joined_more, kept_ids}
use Rattle.short_answers.proofs.cases.each_with.Goals as goal

pub fold-requires : goal.fold-requires
fold-requires c =
    let old = c.args.store.now in
    let now = c.loop-id.store in
    let ids : List FormulaId = c.args.ids.now in
    let id : FormulaId = get_or ids c.loop-id.id-index (record { number = 0 }) in
    subst (AllByRecursion (IsId now)) (sym (c.deref.ensures.value ∙ c.in_ok-all.ensures))
    (kept_ids old now c.loop-id.invariant.kept (id ∷ c.args.others.now) (each_at (IsId old) ids c.loop-id.id-index (record { number = 0 }) c.loop-id-test.true c.requires.ids, c.requires.others))

pub returns-in_err-together-clause-kept : goal.returns-in_err-together-clause-kept
returns-in_err-together-clause-kept c = keeps_then c.args.store.now c.loop-id.store c.fold.new.formulas c.loop-id.invariant.kept c.fold.ensures.kept

pub returns-in_err-push-clause-kept : goal.returns-in_err-push-clause-kept
returns-in_err-push-clause-kept c = keeps_then c.args.store.now c.loop-id.store c.fold.new.formulas c.loop-id.invariant.kept c.fold.ensures.kept

pub loop-id-preserved : goal.loop-id-preserved
loop-id-preserved c =
    let old = c.args.store.now in
    let now = c.loop-id.store in
    let new = c.fold.new.formulas in
    let i = c.loop-id.id-index in
    let ids : List FormulaId = c.args.ids.now in
    let others : List FormulaId = c.args.others.now in
    let id : FormulaId = get_or ids i (record { number = 0 }) in
    let together : FormulaId = c.in_ok-together.together in
    let one = subst (λ (all : List FormulaId). IsMade (IsId new) (tree new) together (fold_list Conjunction (members (map (tree now) all)))) (c.deref.ensures.value ∙ c.in_ok-all.ensures) c.in_ok-together.ensures.made in
    record {
      made = subst (λ (each : List FormulaId). AreMade (IsId new) (tree new) each (each_joined (map (tree old) (take (i + 1) ids)) (map (tree old) others))) (sym c.in_ok-push.ensures.items)
          (joined_more old now new ids others c.loop-id.each.items i together c.loop-id.invariant.kept c.fold.ensures.kept c.requires.ids c.requires.others c.loop-id-test.true c.loop-id.invariant.made one);
      kept = keeps_then old now new c.loop-id.invariant.kept c.fold.ensures.kept;
    }
