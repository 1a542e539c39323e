use Rattle.std.proofs.Common.{false, List, sym, subst}
use Rattle.normal_atoms.specs.Atoms.{context_of}
use Rattle.linear_forms.specs.Values.{point_of}
use Rattle.logic_meaning.specs.Some.{Among, EachOf}
use Rattle.formula_store.specs.Nodes.{tree}
use Rattle.formula_store.specs.Truths.{Tells}
use Rattle.engine_answers.specs.declared.case_tree.Case.{Case}
use Rattle.engine_answers.specs.Truths.{CanBeTold}
use Rattle.engine_answers.proofs.Told.{match_some, match_none, tree_told, told_some, told_none, some_true, none_true}
use Rattle.engine_answers.proofs.engine.Engine.told.Goals as goal

pub true_case-requires : goal.true_case-requires
true_case-requires g c =
    subst (EachOf (CanBeTold c.cases.new.store c.args.at.now.denominator)) (sym c.deref.ensures.value)
    (tree_told (context_of c.args.self.now.context) c.cases.new.store (tree c.args.store.now c.args.id) c.in-Ok.cases c.in-Ok.ensures.cases c.args.at.now.denominator c.requires.positive c.requires.point)

pub returns-in-Ok-Some-clause-truth : goal.returns-in-Ok-Some-clause-truth
returns-in-Ok-Some-clause-truth g c =
    let o = context_of c.args.self.now.context in
    let nodes = c.cases.new.store in
    let p = point_of c.args.at.now in
    let t = c.in-Ok.cases in
    let k = c.in-Ok-Some.field-0-0.now in
    let found = match_some c.in-Ok-Some.field-0 _ _ c.in-Ok-Some.field-0-0 c.in-Ok-Some.field-0-is c.in-Ok-Some.ensures in
    told_some o nodes p (tree c.args.store.now c.args.id) c.requires.normal c.requires.point t c.in-Ok.ensures.cases
    (some_true o nodes p t.cases.items k (subst (λ (xs : List Case). Among xs k) c.deref.ensures.value found.0) found.1)

pub returns-in-Ok-None-clause-truth : goal.returns-in-Ok-None-clause-truth
returns-in-Ok-None-clause-truth g c =
    let o = context_of c.args.self.now.context in
    let nodes = c.cases.new.store in
    let p = point_of c.args.at.now in
    let t = c.in-Ok.cases in
    let none = match_none c.in-Ok-None.field-0 _ _ c.in-Ok-None.field-0-is c.in-Ok-None.ensures in
    told_none o nodes p (tree c.args.store.now c.args.id) c.requires.normal c.requires.point t c.in-Ok.ensures.cases
    (none_true o nodes p t.cases.items (subst (EachOf (λ (k : Case). Tells false (tree nodes k.guard) p)) c.deref.ensures.value none))
