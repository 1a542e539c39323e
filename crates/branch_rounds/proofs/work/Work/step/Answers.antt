use Rattle.std.proofs.Common.{◌≡◌, ◌<◌, ◌≤◌, ◌+◌, ◌*◌, false, length, List, map, sym, ap, ◌∙◌, subst, inl, inr, arith}
use Rattle.logic_meaning.specs.Sizes.{nodes}
use Rattle.logic_meaning.specs.Some.{SomeOf}
use Rattle.normal_atoms.specs.Atoms.{context_of, atom_of}
use Rattle.nnf_trees.specs.Placed.{all_within}
use Rattle.test_points.specs.declared.points.TestPoint.{TestPoint}
use Rattle.test_points.specs.Points.{place_of}
use Rattle.logic_meaning.specs.declared.form.VarId.{VarId}
use Rattle.formula_store.specs.declared.id.FormulaId.{FormulaId}
use Rattle.formula_store.specs.Nodes.{tree}
use Rattle.branch_points.specs.declared.error.ChoiceError.TheVariants as choice
use Rattle.branch_points.specs.Chosen.{IsByRule, IsChosen, NeedsCounting}
use Rattle.branch_rounds.specs.Branches.{Seen, branch_at, others_of, numbers}
use Rattle.branch_rounds.specs.Children.{AreChildrenOf}
use Rattle.branch_rounds.specs.Rounds.{IsStep, IsLeftAlone}
use Rattle.branch_rounds.proofs.Alone.{only_memory, never_counted, chosen_alone, never_passes, one_point, left_alone}
use Rattle.branch_rounds.proofs.Grown.{step_is}
use Rattle.branch_rounds.proofs.work.Work.step.Goals as goal

no_memory : choice.Overflow ≡ choice.Memory → ⊥
no_memory h = cc

not_memory : choice.Nodes ≡ choice.Memory → ⊥
not_memory h = cc

pub returns-clause-step : goal.returns-clause-step
returns-clause-step g c =
    let w = c.args.self.now in
    let old = c.args.store.now in
    let new = c.children.new.store in
    let b = c.args.branch in
    let x = c.in-Ok.choice.name in
    let kids = c.in-Ok-children.children.items in
    let chosen : IsChosen w.context (tree old b.formula) b.left c.in-Ok.choice =
    subst (λ (l : List VarId). IsChosen w.context (tree old b.formula) l c.in-Ok.choice) c.left.ensures (subst (λ (i : FormulaId). IsChosen w.context (tree old i) c.left.result.now c.in-Ok.choice) c.formula-formula.ensures c.in-Ok.ensures.chosen) in
    let are : AreChildrenOf w (tree old b.formula) c.in-Ok.choice new kids =
    subst (λ (i : FormulaId). AreChildrenOf w (tree old i) c.in-Ok.choice new kids) c.formula-formula.ensures c.in-Ok-children.ensures.children in
    let left : c.deref-2.result.now ≡ others_of x b.left = c.deref-2.ensures.value ∙ c.in_ok-left.ensures ∙ ap (others_of x) c.left-2.ensures in
    let is : c.in_ok-branches_at.field-0.items ≡ map (branch_at b.points (others_of x b.left)) kids = c.in_ok-branches_at.ensures ∙ (λ i. map (branch_at (c.points.ensures i) (left i)) kids) in
    subst (λ (bs : List Seen). IsStep w old b new bs) (sym is) (step_is w old new b c.requires.are_open c.in-Ok.choice chosen kids are)

pub returns-in-Err-clause-overflow : goal.returns-in-Err-clause-overflow
returns-in-Err-clause-overflow g c e =
    let over : c.in-Err.error ≡ choice.Overflow = c.of_choice.ensures.overflow e in
    let refused = c.in-Err.ensures.refused (λ h. no_memory (sym over ∙ h)) in
    inl (subst (λ (l : List VarId). NeedsCounting (tree c.args.store.now c.args.branch.formula) (numbers l)) c.left.ensures (subst (λ (i : FormulaId). NeedsCounting (tree c.args.store.now i) (numbers c.left.result.now)) c.formula-formula.ensures refused))

pub returns-in-Err-children-clause-overflow : goal.returns-in-Err-children-clause-overflow
returns-in-Err-children-clause-overflow g c e =
    let w = c.args.self.now in
    let old = c.args.store.now in
    let b = c.args.branch in
    let chosen : IsChosen w.context (tree old b.formula) b.left c.in-Ok.choice =
    subst (λ (l : List VarId). IsChosen w.context (tree old b.formula) l c.in-Ok.choice) c.left.ensures (subst (λ (i : FormulaId). IsChosen w.context (tree old i) c.left.result.now c.in-Ok.choice) c.formula-formula.ensures c.in-Ok.ensures.chosen) in
    inr (
      c.in-Ok.choice,
      chosen,
      subst (λ (i : FormulaId). SomeOf (λ (t : TestPoint). all_within (context_of w.context) t.name.number (place_of t) (tree old i) ≡ false) c.in-Ok.choice.points.items) c.formula-formula.ensures (c.in-Err-children.ensures.overflow e),
    )

pub returns-in-Err-clause-direct : goal.returns-in-Err-clause-direct
returns-in-Err-clause-direct g c x s d =
    let w = c.args.self.now in
    let f = tree c.args.store.now c.args.branch.formula in
    let counted : ¬ (c.in-Err.error ≡ choice.Memory) → NeedsCounting f (numbers c.args.branch.left) =
    λ n. subst (λ (l : List VarId). NeedsCounting f (numbers l)) c.left.ensures (subst (λ (i : FormulaId). NeedsCounting (tree c.args.store.now i) (numbers c.left.result.now)) c.formula-formula.ensures (c.in-Err.ensures.refused n)) in
    let never = never_counted w f c.args.branch.left x s c.args.budget.now.nodes d in
    only_memory c.of_choice.result
    (λ e. let over : c.in-Err.error ≡ choice.Overflow = c.of_choice.ensures.overflow e in never (counted (λ h. no_memory (sym over ∙ h))))
    (λ e. let dear : c.in-Err.error ≡ choice.Nodes = c.of_choice.ensures.nodes e in never (counted (λ h. not_memory (sym dear ∙ h))))

pub returns-in-Err-pay-clause-direct : goal.returns-in-Err-pay-clause-direct
returns-in-Err-pay-clause-direct g c x s d =
    let w = c.args.self.now in
    let b = c.args.branch in
    let f = tree c.args.store.now b.formula in
    let rule : IsByRule w.context f b.left c.most-most.result c.in-Ok.choice =
    subst (λ (l : List VarId). IsByRule w.context f l c.most-most.result c.in-Ok.choice) c.left.ensures (subst (λ (i : FormulaId). IsByRule w.context (tree c.args.store.now i) c.left.result.now c.most-most.result c.in-Ok.choice) c.formula-formula.ensures c.in-Ok.ensures.rule) in
    let alone = chosen_alone w f b.left x s c.args.budget.now.nodes d c.most-most.result c.in-Ok.choice rule in
    let one : length c.in-Ok.choice.points.items ≡ 1 = one_point w f b.left x s c.args.budget.now.nodes d c.in-Ok.choice alone in
    let point : c.len.result ≡ 1 = omega (arith, one, c.len.ensures) in
    let same : nodes (tree c.args.store.now c.formula-formula.result) ≡ nodes f = ap (λ (i : FormulaId). nodes (tree c.args.store.now i)) c.formula-formula.ensures in
    let counted = c.facts-nodes.ensures.facts.nodes_are in
    let cheap : c.facts-nodes.result.nodes ≤ nodes f = omega (arith, same, counted) in
    let paid = d.paid in
    let begun : c.begin.new.self.nodes ≡ c.args.budget.now.nodes = c.begin.ensures in
    let dear : c.begin.new.self.nodes < 1 * (c.facts-nodes.result.nodes + 2) = subst (λ n. c.begin.new.self.nodes < n * (c.facts-nodes.result.nodes + 2)) point c.in-Err-pay.ensures.dear in
    absurd (omega (arith, cheap, begun, paid, dear))

pub returns-in-Err-children-clause-direct : goal.returns-in-Err-children-clause-direct
returns-in-Err-children-clause-direct g c x s d =
    let w = c.args.self.now in
    let b = c.args.branch in
    let f = tree c.args.store.now b.formula in
    let rule : IsByRule w.context f b.left c.most-most.result c.in-Ok.choice =
    subst (λ (l : List VarId). IsByRule w.context f l c.most-most.result c.in-Ok.choice) c.left.ensures (subst (λ (i : FormulaId). IsByRule w.context (tree c.args.store.now i) c.left.result.now c.most-most.result c.in-Ok.choice) c.formula-formula.ensures c.in-Ok.ensures.rule) in
    let alone = chosen_alone w f b.left x s c.args.budget.now.nodes d c.most-most.result c.in-Ok.choice rule in
    only_memory c.in-Err-children.error
    (λ e. never_passes w f b.left x s c.args.budget.now.nodes d c.in-Ok.choice alone
    (subst (λ (i : FormulaId). SomeOf (λ (t : TestPoint). all_within (context_of w.context) t.name.number (place_of t) (tree c.args.store.now i) ≡ false) c.in-Ok.choice.points.items) c.formula-formula.ensures (c.in-Err-children.ensures.overflow e)))
    c.in-Err-children.ensures.word

pub returns-clause-direct : goal.returns-clause-direct
returns-clause-direct g c x s d =
    let w = c.args.self.now in
    let o = context_of w.context in
    let ks = map atom_of w.assumed.now in
    let old = c.args.store.now in
    let new = c.children.new.store in
    let b = c.args.branch in
    let f = tree old b.formula in
    let kids = c.in-Ok-children.children.items in
    let rule : IsByRule w.context f b.left c.most-most.result c.in-Ok.choice =
    subst (λ (l : List VarId). IsByRule w.context f l c.most-most.result c.in-Ok.choice) c.left.ensures (subst (λ (i : FormulaId). IsByRule w.context (tree old i) c.left.result.now c.most-most.result c.in-Ok.choice) c.formula-formula.ensures c.in-Ok.ensures.rule) in
    let alone = chosen_alone w f b.left x s c.args.budget.now.nodes d c.most-most.result c.in-Ok.choice rule in
    let are : AreChildrenOf w f c.in-Ok.choice new kids = subst (λ (i : FormulaId). AreChildrenOf w (tree old i) c.in-Ok.choice new kids) c.formula-formula.ensures c.in-Ok-children.ensures.children in
    subst (λ (bs : List Seen). IsLeftAlone o x.number s f new bs) (sym c.in_ok-branches_at.ensures)
    (left_alone w f b.left x s c.args.budget.now.nodes d c.in-Ok.choice alone new kids are c.points.result.now c.deref-2.result.now)
