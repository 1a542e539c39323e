use Rattle.std.proofs.Common.{false, List, map, sym, subst}
use Rattle.exact_numbers.specs.declared.fraction.Fraction.{Fraction}
use Rattle.normal_atoms.specs.Atoms.{context_of}
use Rattle.logic_meaning.specs.declared.form.VarId.{VarId}
use Rattle.linear_forms.specs.Values.{point_of, number_of}
use Rattle.logic_meaning.specs.Formula.{Or}
use Rattle.logic_meaning.specs.Some.{Among, EachOf}
use Rattle.logic_meaning.specs.AnswerParts.{guards_of}
use Rattle.formula_store.specs.Nodes.{tree}
use Rattle.formula_store.specs.Truths.{Tells}
use Rattle.engine_answers.specs.declared.case_tree.Case.{Case}
use Rattle.engine_answers.specs.CaseTrees.{cases_seen}
use Rattle.sample_reference.specs.Seen.{values_of}
use Rattle.logic_meaning.specs.Values.{value_names}
use Rattle.engine_answers.specs.Truths.{CanBeTold}
use Rattle.engine_answers.specs.Samples.{AreInOrder}
use Rattle.engine_answers.proofs.Told.{match_some, match_none, tree_told, none_true}
use Rattle.engine_answers.proofs.EngineAnswersSampled.{none_sampled, case_points, case_sampled, block_valued, sample_given}
use Rattle.engine_answers.proofs.engine.Engine.found.Goals as goal

pub true_case-requires : goal.true_case-requires
true_case-requires g c =
    subst (EachOf (CanBeTold c.args.store.now c.args.at.now.denominator)) (sym c.deref.ensures.value)
    (tree_told (context_of c.args.self.now.context) c.args.store.now (tree c.args.store.now c.args.id) c.args.cases.now c.requires.cases c.args.at.now.denominator c.requires.positive c.requires.point)

pub returns-in-Ok-None-clause-truth : goal.returns-in-Ok-None-clause-truth
returns-in-Ok-None-clause-truth g c =
    let o = context_of c.args.self.now.context in
    let nodes = c.args.store.now in
    let p = point_of c.args.at.now in
    let t = c.args.cases.now in
    let none = match_none c.in-Ok-None.field-0 _ _ c.in-Ok-None.field-0-is c.in-Ok-None.ensures in
    none_sampled o (tree c.args.store.now c.args.id) c.requires.normal p c.requires.point (Or (guards_of (cases_seen nodes t.cases.items))) c.requires.cases.cases.together
    (none_true o nodes p t.cases.items (subst (EachOf (λ (k : Case). Tells false (tree nodes k.guard) p)) c.deref.ensures.value none))

pub concrete-requires-clause-points : goal.concrete-requires-clause-points
concrete-requires-clause-points g c =
    let k = c.in-Ok-Some.case.now in
    let found = match_some c.in-Ok-Some.field-0 _ _ c.in-Ok-Some.case c.in-Ok-Some.field-0-is c.in-Ok-Some.ensures in
    case_points (context_of c.args.self.now.context) c.args.store.now (tree c.args.store.now c.args.id) (point_of c.args.at.now) c.requires.point c.args.cases.now c.requires.cases k
    (subst (λ (xs : List Case). Among xs k) c.deref.ensures.value found.0) found.1

pub concrete-requires-clause-sampleable : goal.concrete-requires-clause-sampleable
concrete-requires-clause-sampleable g c =
    let k = c.in-Ok-Some.case.now in
    let found = match_some c.in-Ok-Some.field-0 _ _ c.in-Ok-Some.case c.in-Ok-Some.field-0-is c.in-Ok-Some.ensures in
    case_sampled (context_of c.args.self.now.context) c.args.store.now (tree c.args.store.now c.args.id) (point_of c.args.at.now) c.requires.point c.args.cases.now c.requires.cases k
    (subst (λ (xs : List Case). Among xs k) c.deref.ensures.value found.0) found.1

pub in_order-requires : goal.in_order-requires
in_order-requires g c =
    let k = c.in-Ok-Some.case.now in
    let found = match_some c.in-Ok-Some.field-0 _ _ c.in-Ok-Some.case c.in-Ok-Some.field-0-is c.in-Ok-Some.ensures in
    λ y m.
    subst (λ (vs : List (VarId × Fraction)). Among (value_names (values_of vs)) y) (sym c.deref-3.ensures.value)
    (block_valued (context_of c.args.self.now.context) c.args.store.now (tree c.args.store.now c.args.id) (point_of c.args.at.now) c.requires.point c.args.cases.now c.requires.cases k
    (subst (λ (xs : List Case). Among xs k) c.deref.ensures.value found.0) found.1 (values_of c.in-Ok.values.items) c.in-Ok.ensures.sample y
    (subst (λ (xs : List VarId). Among (map number_of xs) y) c.deref-2.ensures.value m))

pub returns-in-Ok-in_order-clause-truth : goal.returns-in-Ok-in_order-clause-truth
returns-in-Ok-in_order-clause-truth g c =
    let k = c.in-Ok-Some.case.now in
    let found = match_some c.in-Ok-Some.field-0 _ _ c.in-Ok-Some.case c.in-Ok-Some.field-0-is c.in-Ok-Some.ensures in
    let ordered = values_of c.in-Ok-in_order.ordered.items in
    sample_given (context_of c.args.self.now.context) c.args.store.now (tree c.args.store.now c.args.id) (point_of c.args.at.now) c.requires.point c.args.cases.now c.requires.cases k
    (subst (λ (xs : List Case). Among xs k) c.deref.ensures.value found.0) found.1 (values_of c.in-Ok.values.items) c.in-Ok.ensures.sample ordered
    (subst (λ (xs : List VarId). AreInOrder (map number_of xs) (values_of c.in-Ok.values.items) ordered) c.deref-2.ensures.value
    (subst (λ (vs : List (VarId × Fraction)). AreInOrder (map number_of c.deref-2.result.now) (values_of vs) ordered) c.deref-3.ensures.value c.in-Ok-in_order.ensures))
