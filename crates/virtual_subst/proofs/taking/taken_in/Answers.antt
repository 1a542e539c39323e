use Rattle.std.proofs.Common.{rules, ◌≡◌, ◌≤◌, List, [], ◌∷◌, ◌++◌, map, length, sym, ap, ◌∙◌, subst, append_assoc}
use Rattle.std.proofs.lemmas.List.{map-append}
use Rattle.std.specs.List.{AllByRecursion}
use Rattle.logic_meaning.specs.Tree.{Tree}
use Rattle.formula_tree.specs.Makers.{IsMade, AreMade}
use Rattle.formula_store.specs.declared.id.FormulaId.{FormulaId}
use Rattle.formula_store.specs.Changes.{Change, tree_on}
use Rattle.formula_store.specs.Nodes.{tree, IsId}
use Rattle.formula_store.proofs.Grown.{stays_on}
use Rattle.formula_store.proofs.Makes.{keeps_then}
use Rattle.virtual_subst.proofs.Taken.{made_more}
use Rattle.virtual_subst.proofs.taking.taken_in.Goals as goal

pub loop-delta-preserved : goal.loop-delta-preserved
loop-delta-preserved c =
    let old = c.args.store.now in
    let mid = c.loop-delta.store in
    let new = c.absorb.new.self in
    let so_far = c.loop-delta.invariant in
    let step = c.in-Ok.ensures in
    let id = c.in-Ok.id in
    let ids : List FormulaId = c.loop-delta.ids.items in
    let split : c.loop-delta.delta-iterator.rest.items ≡ c.in-Some.delta ∷ c.next.new.self.rest.items = search rules in
    let begun = subst (AllByRecursion (λ (d : Change). d.begun ≤ length old)) split so_far.begun in
    let here : IsMade (IsId new) (tree new) id (tree_on old c.in-Some.delta) = record { is = step.made.is; same = step.made.same ∙ stays_on old mid c.in-Some.delta begun.0 so_far.grown } in
    record {
      can = tt;
      finite = tt;
      grown = record { more = so_far.grown.more ++ step.grown.more; is = step.grown.is ∙ ap (λ ns. ns ++ step.grown.more) so_far.grown.is ∙ append_assoc old so_far.grown.more step.grown.more };
      kept = keeps_then old mid new so_far.kept step.kept;
      made = subst (λ (l : List FormulaId). AreMade (IsId new) (tree new) l (map (tree_on old) (c.loop-delta.yielded ++ c.in-Some.delta ∷ []))) (sym c.in_ok-push.ensures.items)
          (subst (λ (fs : List Tree). AreMade (IsId new) (tree new) (ids ++ id ∷ []) fs) (sym (map-append (tree_on old) c.loop-delta.yielded (c.in-Some.delta ∷ [])))
          (made_more mid new step.kept id (tree_on old c.in-Some.delta) here ids (map (tree_on old) c.loop-delta.yielded) so_far.made));
      begun = begun.1;
    }

pub returns-in_err-push-clause-kept : goal.returns-in_err-push-clause-kept
returns-in_err-push-clause-kept c = keeps_then c.args.store.now c.loop-delta.store c.absorb.new.self c.loop-delta.invariant.kept c.in-Ok.ensures.kept
