use Rattle.std.proofs.Common.{◌≡◌, ◌++◌, List, Some, ap₂, sym, ◌∙◌, subst}
use Rattle.std.specs.declared.vec.Vec.{Vec}
use Rattle.std.specs.declared.alloc.Global.{Global}
use Rattle.exact_numbers.specs.declared.fraction.Fraction.{Fraction}
use Rattle.normal_atoms.specs.Atoms.{context_of}
use Rattle.normal_atoms.proofs.Stepped.{ok_map}
use Rattle.formula_store.specs.Nodes.{tree}
use Rattle.formula_store.specs.declared.id.FormulaId.{FormulaId}
use Rattle.logic_meaning.specs.declared.form.VarId.{VarId}
use Rattle.test_points.specs.declared.points.TestPoint.{TestPoint}
use Rattle.logic_meaning.specs.Calculated.{values_from}
use Rattle.sample_reference.specs.Seen.{values_of}
use Rattle.engine_answers.specs.Branches.{shared_steps, AreBranches}
use Rattle.engine_answers.proofs.Sampled.{sample_found}
use Rattle.engine_answers.proofs.sampling.concrete.Goals as goal

pub returns-in-Ok-branches_of-clause-sample : goal.returns-in-Ok-branches_of-clause-sample
returns-in-Ok-branches_of-clause-sample c =
    let k = context_of c.args.context in
    let nodes = c.branches_of.new.store in
    let f = tree c.args.store.now c.args.matrix in
    let ts = c.args.case.now.answers.items in
    let ids = c.in-Ok-branches_of.branches.items in
    let known = c.in-Ok.known.items in
    let branches = subst (λ (l : List TestPoint). AreBranches k nodes l f ids) c.deref.ensures.value c.in-Ok-branches_of.ensures.branches in
    let steps = ap₂ (λ (l : List TestPoint) (m : List FormulaId). values_from k (shared_steps nodes l m) (values_of known)) c.deref-in-Ok-branches_of.ensures.value c.deref-in-Ok-branches_of-2.ensures.value in
    ok_map c.answer_values.result {P = λ (v : Vec (VarId × Fraction) Global). values_from k (shared_steps nodes c.deref-in-Ok-branches_of.result.now c.deref-in-Ok-branches_of-2.result.now) (values_of known) ≡ Some (values_of known ++ values_of v.items)}
    (λ v e. sample_found k nodes ts f ids c.args.at.now known v.items c.requires.sampleable branches c.in-Ok.ensures.known (sym steps ∙ e)) c.answer_values.ensures.values
