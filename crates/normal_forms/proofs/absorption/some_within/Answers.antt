use Rattle.std.proofs.Common.{◌≡◌, sym, ◌∙◌, true, false, subst, get_or, List}
use Rattle.formula_store.specs.declared.id.FormulaId.{FormulaId}
use Rattle.normal_forms.specs.Atoms.{is_within}
use Rattle.normal_forms.proofs.Absorbing.{some_more, some_here}
use Rattle.normal_forms.proofs.absorption.some_within.Goals as goal

pub returns-then-is_within : goal.returns-then-is_within
returns-then-is_within c =
    let line : List FormulaId = c.args.line.now in
    let item : List FormulaId = c.other-item.result in
    let items : List (List FormulaId) = c.args.lines.now in
    let told : is_within c.items.result.now line ≡ true = sym c.is_within.ensures ∙ c.if-is_within.true in
    let e : is_within (get_or items c.loop-other.other-index item) line ≡ true = subst (λ (us : List FormulaId). is_within us line ≡ true) (c.items.ensures ∙ c.other-item.is) told in
    sym (some_here items line c.loop-other.other-index item c.loop-other-test.true e)

pub loop-other-preserved : goal.loop-other-preserved
loop-other-preserved c =
    let line : List FormulaId = c.args.line.now in
    let item : List FormulaId = c.other-item.result in
    let items : List (List FormulaId) = c.args.lines.now in
    let told : is_within c.items.result.now line ≡ false = sym c.is_within.ensures ∙ c.if-is_within.false in
    let e : is_within (get_or items c.loop-other.other-index item) line ≡ false = subst (λ (us : List FormulaId). is_within us line ≡ false) (c.items.ensures ∙ c.other-item.is) told in
    some_more items line c.loop-other.other-index item c.loop-other-test.true c.loop-other.invariant e
