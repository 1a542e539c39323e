use Rattle.std.proofs.Common.{rules, ◌≡◌, ◌+◌, ◌≤◌, ◌∙◌, ◌++◌, ◌∷◌, [], sym, subst, get_or, take, map, length, arith, Some, List}
use Rattle.std.proofs.lemmas.List.{take_all}
use Rattle.std.specs.List.{AllByRecursion}
use Rattle.logic_meaning.specs.Fold.{from_pieces}
use Rattle.logic_meaning.specs.declared.junction.Junction.{Junction}
use Rattle.normal_atoms.specs.Atoms.{context_of}
use Rattle.formula_tree.specs.Trees.{members}
use Rattle.formula_tree.specs.Makers.{IsMade}
use Rattle.formula_store.specs.declared.id.FormulaId.{FormulaId}
use Rattle.formula_store.specs.Nodes.{tree, IsId}
use Rattle.logic_meaning.specs.Ways.{form_of_lines}
use Rattle.normal_forms.specs.Atoms.{AreAtomIds, AreLineIds, lines}
use Rattle.normal_forms.proofs.Grown.{keeps_then, ids_stay}
use Rattle.normal_forms.proofs.LineSteps.{all_get}
use Rattle.normal_forms.proofs.Parts.{if_ok}
use Rattle.normal_forms.proofs.Formed.{AreForms, form_step, whole_made, ids_are}
use Rattle.normal_forms.proofs.normal.lines_form.Goals as goal

pub joined-requires : goal.joined-requires
joined-requires c =
    let item : List FormulaId = c.line-item.result in
    let items : List (List FormulaId) = c.deref-line-items.result.now in
    let valid = subst (λ (ls : List (List FormulaId)). AreLineIds (context_of c.args.context) c.args.store.now ls) (sym c.deref-line-items.ensures.value) c.requires in
    let here = all_get (AreAtomIds (context_of c.args.context) c.args.store.now) items c.loop-line.line-index item c.loop-line-test.true valid in
    let ids = ids_are (context_of c.args.context) c.loop-line.store (get_or items c.loop-line.line-index item) (ids_stay (context_of c.args.context) c.args.store.now c.loop-line.store c.loop-line.invariant.kept (get_or items c.loop-line.line-index item) here) in
    subst (λ (us : List FormulaId). AllByRecursion (IsId c.loop-line.store) us) (sym c.line-item.is ∙ sym c.items.ensures ∙ sym c.in_ok-line.ensures.copy) ids

pub returns-in_err-id-clause-kept : goal.returns-in_err-id-clause-kept
returns-in_err-id-clause-kept c = keeps_then c.args.store.now c.loop-line.store c.joined.new.store c.loop-line.invariant.kept c.joined.ensures.kept

pub returns-in_err-push-clause-kept : goal.returns-in_err-push-clause-kept
returns-in_err-push-clause-kept c = keeps_then c.args.store.now c.loop-line.store c.joined.new.store c.loop-line.invariant.kept c.joined.ensures.kept

pub loop-line-preserved : goal.loop-line-preserved
loop-line-preserved c =
    let item : List FormulaId = c.line-item.result in
    let items : List (List FormulaId) = c.deref-line-items.result.now in
    let valid = subst (λ (ls : List (List FormulaId)). AreLineIds (context_of c.args.context) c.args.store.now ls) (sym c.deref-line-items.ensures.value) c.requires in
    let made = subst (λ (us : List FormulaId). IsMade (IsId c.joined.new.store) (tree c.joined.new.store) c.in_ok-id.id (from_pieces c.args.inner (Some (members (map (tree c.loop-line.store) us)))))
    (c.in_ok-line.ensures.copy ∙ c.items.ensures ∙ c.line-item.is) c.in_ok-id.ensures.made in
    let pushed : c.push.new.self.items ≡ c.loop-line.ids.items ++ c.in_ok-id.id ∷ [] = search rules in
    record {
      kept = keeps_then c.args.store.now c.loop-line.store c.joined.new.store c.loop-line.invariant.kept c.joined.ensures.kept;
      made = subst (λ (us : List FormulaId). AreForms c.args.inner c.joined.new.store (lines c.args.store.now (take (c.loop-line.line-index + 1) items)) us) (sym pushed)
          (form_step (context_of c.args.context) c.args.inner c.args.store.now c.loop-line.store c.joined.new.store items c.loop-line.line-index item c.loop-line.ids.items c.in_ok-id.id
          c.loop-line-test.true c.loop-line.invariant.kept c.joined.ensures.kept valid c.loop-line.invariant.made made);
    }

pub returns-clause-kept : goal.returns-clause-kept
returns-clause-kept c = keeps_then c.args.store.now c.loop-line.store c.joined-2.new.store c.loop-line.invariant.kept c.joined-2.ensures.kept

pub returns-clause-made : goal.returns-clause-made
returns-clause-made c =
    let items : List (List FormulaId) = c.deref-line-items.result.now in
    let past : length items ≤ c.loop-line.line-index = omega arith in
    let whole : take c.loop-line.line-index items ≡ items = take_all c.loop-line.line-index items past in
    let all = subst (λ (ls : List (List FormulaId)). AreForms c.args.inner c.loop-line.store (lines c.args.store.now ls) c.loop-line.ids.items) (whole ∙ c.deref-line-items.ensures.value) c.loop-line.invariant.made in
    if_ok (λ (r : FormulaId). IsMade (IsId c.joined-2.new.store) (tree c.joined-2.new.store) r (from_pieces c.turned.result (Some (members (map (tree c.loop-line.store) c.of.result)))))
    (λ (r : FormulaId). IsMade (IsId c.joined-2.new.store) (tree c.joined-2.new.store) r (form_of_lines c.args.inner (lines c.args.store.now c.args.lines.items)))
    c.joined-2.result c.joined-2.ensures.made
    (λ r m. whole_made c.args.inner c.args.store.now c.loop-line.store c.joined-2.new.store c.args.lines.items c.loop-line.ids.items r all
    (subst (λ (j : Junction). IsMade (IsId c.joined-2.new.store) (tree c.joined-2.new.store) r (from_pieces j (Some (members (map (tree c.loop-line.store) c.loop-line.ids.items))))) c.turned.ensures
    (subst (λ (us : List FormulaId). IsMade (IsId c.joined-2.new.store) (tree c.joined-2.new.store) r (from_pieces c.turned.result (Some (members (map (tree c.loop-line.store) us))))) c.of.ensures m)))
