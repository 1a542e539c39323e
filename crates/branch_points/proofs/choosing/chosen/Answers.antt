use Rattle.std.proofs.Common.{◌≡◌, ◌≤◌, max, length, List, ◌∙◌, Result, Ok, Err, map, nat_eq, sym, subst}
use Rattle.std.specs.Prelude.{IfErr}
use Rattle.std.proofs.lemmas.Option.{MatchOption-at_some, MatchOption-at_none}
use Rattle.std.proofs.lemmas.Result.{IfOk-weaker}
use Rattle.formula_store.specs.Nodes.{tree}
use Rattle.std.specs.HashMap.{get}
use Rattle.formula_store.specs.declared.id.FormulaId.{FormulaId}
use Rattle.normal_atoms.specs.Atoms.{atom_of}
use Rattle.branch_points.specs.Chosen.{listed_atoms, AreAtomsOf, IsRootAmong, HasNoEquation, IsOnSide, IsChosen, IsByRule, NeedsCounting, conjuncts}
use Rattle.branch_points.specs.declared.error.ChoiceError.TheVariants.{Memory}
use Rattle.branch_points.specs.Ends.{AreEnds}
use Rattle.branch_points.proofs.Names.{numbers}
use Rattle.branch_points.proofs.Choices.{standing, zero_chosen, root_chosen, side_chosen, needs_counting, zero_rule, root_rule, side_rule, side_few}
use Rattle.branch_points.proofs.choosing.chosen.Goals as goal

pub returns-in-Some-clause-chosen : goal.returns-in-Some-clause-chosen
returns-in-Some-clause-chosen c =
    let f = tree c.args.store.now c.args.id in
    let are = subst (λ (is : List FormulaId). AreAtomsOf f (listed_atoms c.args.store.now is)) (sym c.deref.ensures.value) c.in_ok-ids.ensures.atoms in
    zero_chosen c.args.context f c.args.left.now c.args.most c.requires.tidy (listed_atoms c.args.store.now c.deref.result.now) are c.in_ok-alone.field-0 c.at_zero.result c.in-Some.name c.in-Some.ensures.0 (sym (c.in_ok-table.ensures.stands c.in-Some.name.number) ∙ c.in-Some.ensures.1)
    c.at_zero.ensures.place c.at_zero.ensures.well_formed c.in_ok-alone.ensures.name c.in_ok-alone.ensures.points

pub returns-in-Some-clause-rule : goal.returns-in-Some-clause-rule
returns-in-Some-clause-rule c =
    let f = tree c.args.store.now c.args.id in
    let are = subst (λ (is : List FormulaId). AreAtomsOf f (listed_atoms c.args.store.now is)) (sym c.deref.ensures.value) c.in_ok-ids.ensures.atoms in
    zero_rule c.args.context f c.args.left.now c.args.most c.requires.tidy (listed_atoms c.args.store.now c.deref.result.now) are c.in_ok-alone.field-0 c.at_zero.result c.in-Some.name c.in-Some.ensures.0 (sym (c.in_ok-table.ensures.stands c.in-Some.name.number) ∙ c.in-Some.ensures.1)
    c.at_zero.ensures.place c.at_zero.ensures.well_formed c.in_ok-alone.ensures.name c.in_ok-alone.ensures.points

pub returns-in-Some-2-clause-rule : goal.returns-in-Some-2-clause-rule
returns-in-Some-2-clause-rule c =
    let f = tree c.args.store.now c.args.id in
    let are = subst (λ (is : List FormulaId). AreAtomsOf f (listed_atoms c.args.store.now is)) (sym c.deref.ensures.value) c.in_ok-ids.ensures.atoms in
    let r : IsRootAmong c.args.context (conjuncts f) c.args.left.now c.in-Some-2.root =
    MatchOption-at_some (HasNoEquation (conjuncts f) c.args.left.now) (IsRootAmong c.args.context (conjuncts f) c.args.left.now) c.in-Some-2.root c.in-Some-2.is c.in_ok-root.ensures in
    root_rule c.args.context f c.args.left.now c.args.most c.requires.tidy (listed_atoms c.args.store.now c.deref.result.now) are (standing (map atom_of (listed_atoms c.args.store.now c.deref.result.now)) (get nat_eq c.in_ok-table.table) c.in_ok-table.ensures c.args.left.now c.in_default.ensures) c.in_ok-alone-2.field-0 c.in-Some-2.root r c.in_ok-alone-2.ensures.name c.in_ok-alone-2.ensures.points

pub returns-in-Some-2-clause-chosen : goal.returns-in-Some-2-clause-chosen
returns-in-Some-2-clause-chosen c =
    let f = tree c.args.store.now c.args.id in
    let r : IsRootAmong c.args.context (conjuncts f) c.args.left.now c.in-Some-2.root =
    MatchOption-at_some (HasNoEquation (conjuncts f) c.args.left.now) (IsRootAmong c.args.context (conjuncts f) c.args.left.now) c.in-Some-2.root c.in-Some-2.is c.in_ok-root.ensures in
    root_chosen c.args.context f c.args.left.now c.args.most c.requires.tidy c.in_ok-alone-2.field-0 c.in-Some-2.root r c.in_ok-alone-2.ensures.name c.in_ok-alone-2.ensures.points

if_err : {T E : Type 0} (r : Result T E) (A : E → Type 0) (Q : Type 0) → Q → IfErr r (λ e. A e → Q)
if_err (Ok x) A Q q = tt
if_err (Err e) A Q q = λ a. q

pub returns-clause-chosen : goal.returns-clause-chosen
returns-clause-chosen c =
    let f = tree c.args.store.now c.args.id in
    let are = subst (λ (is : List FormulaId). AreAtomsOf f (listed_atoms c.args.store.now is)) (sym c.deref-2.ensures.value) c.in_ok-ids.ensures.atoms in
    let nowhere : HasNoEquation (conjuncts f) c.args.left.now =
    MatchOption-at_none (HasNoEquation (conjuncts f) c.args.left.now) (IsRootAmong c.args.context (conjuncts f) c.args.left.now) c.in_default-2.is c.in_ok-root.ensures in
    IfOk-weaker c.counted.result (IsOnSide c.args.context (map atom_of (listed_atoms c.args.store.now c.deref-2.result.now)) c.args.left.now c.args.most) (IsChosen c.args.context f c.args.left.now)
    (λ ch o. side_chosen c.args.context f c.args.left.now c.args.most c.requires.tidy (listed_atoms c.args.store.now c.deref-2.result.now) are nowhere ch o) c.counted.ensures.chosen

pub returns-clause-refused : goal.returns-clause-refused
returns-clause-refused c =
    let f = tree c.args.store.now c.args.id in
    let are = subst (λ (is : List FormulaId). AreAtomsOf f (listed_atoms c.args.store.now is)) (sym c.deref.ensures.value) c.in_ok-ids.ensures.atoms in
    let nowhere : HasNoEquation (conjuncts f) c.args.left.now =
    MatchOption-at_none (HasNoEquation (conjuncts f) c.args.left.now) (IsRootAmong c.args.context (conjuncts f) c.args.left.now) c.in_default-2.is c.in_ok-root.ensures in
    if_err c.counted.result (λ e. ¬ (e ≡ Memory)) (NeedsCounting f (numbers c.args.left.now)) (needs_counting c.args.context f c.args.left.now c.args.most c.requires.tidy (listed_atoms c.args.store.now c.deref.result.now) are (standing (map atom_of (listed_atoms c.args.store.now c.deref.result.now)) (get nat_eq c.in_ok-table.table) c.in_ok-table.ensures c.args.left.now c.in_default.ensures) nowhere)

pub returns-clause-rule : goal.returns-clause-rule
returns-clause-rule c =
    let f = tree c.args.store.now c.args.id in
    let first : c.deref.result.now ≡ c.deref-2.result.now = c.deref.ensures.value ∙ sym c.deref-2.ensures.value in
    let are = subst (λ (is : List FormulaId). AreAtomsOf f (listed_atoms c.args.store.now is)) (sym c.deref-2.ensures.value) c.in_ok-ids.ensures.atoms in
    let ends = subst (λ (is : List FormulaId). AreEnds (map atom_of (listed_atoms c.args.store.now is)) (get nat_eq c.in_ok-table.table)) first c.in_ok-table.ensures in
    let each = standing (map atom_of (listed_atoms c.args.store.now c.deref-2.result.now)) (get nat_eq c.in_ok-table.table) ends c.args.left.now c.in_default.ensures in
    let nowhere : HasNoEquation (conjuncts f) c.args.left.now =
    MatchOption-at_none (HasNoEquation (conjuncts f) c.args.left.now) (IsRootAmong c.args.context (conjuncts f) c.args.left.now) c.in_default-2.is c.in_ok-root.ensures in
    IfOk-weaker c.counted.result (IsOnSide c.args.context (map atom_of (listed_atoms c.args.store.now c.deref-2.result.now)) c.args.left.now c.args.most) (IsByRule c.args.context f c.args.left.now c.args.most)
    (λ ch o. side_rule c.args.context f c.args.left.now c.args.most c.requires.tidy (listed_atoms c.args.store.now c.deref-2.result.now) are each nowhere ch o) c.counted.ensures.chosen

pub returns-clause-few : goal.returns-clause-few
returns-clause-few c =
    let f = tree c.args.store.now c.args.id in
    let are = subst (λ (is : List FormulaId). AreAtomsOf f (listed_atoms c.args.store.now is)) (sym c.deref-2.ensures.value) c.in_ok-ids.ensures.atoms in
    IfOk-weaker c.counted.result (IsOnSide c.args.context (map atom_of (listed_atoms c.args.store.now c.deref-2.result.now)) c.args.left.now c.args.most) (λ ch. length ch.points.items ≤ max 1 c.args.most)
    (λ ch o. side_few c.args.context f c.args.left.now c.args.most c.requires.tidy (listed_atoms c.args.store.now c.deref-2.result.now) are ch o) c.counted.ensures.chosen

pub counted-requires-clause-ends : goal.counted-requires-clause-ends
counted-requires-clause-ends c =
    let first : c.deref.result.now ≡ c.deref-2.result.now = c.deref.ensures.value ∙ sym c.deref-2.ensures.value in
    subst (λ (is : List FormulaId). AreEnds (map atom_of (listed_atoms c.args.store.now is)) (get nat_eq c.in_ok-table.table)) first c.in_ok-table.ensures
