use Rattle.std.proofs.Common.{rules, ◌≡◌, false, [], List, map, sym, ap, ◌∙◌, subst}
use Rattle.logic_meaning.specs.Sizes.{nodes}
use Rattle.normal_atoms.specs.Atoms.{context_of}
use Rattle.logic_meaning.specs.Cases.{case_sign}
use Rattle.logic_meaning.specs.Reference.{branches, normal_tree}
use Rattle.formula_tree.specs.Trees.{tree_of}
use Rattle.logic_meaning.specs.declared.form.VarId.{VarId}
use Rattle.nnf_trees.specs.Nnfs.{nnf_of}
use Rattle.nnf_trees.specs.Forms.{form}
use Rattle.reference_engine.specs.Ready.{IsReady}
use Rattle.reference_engine.specs.Told.{numbers}
use Rattle.reference_engine.proofs.Readiness.{form_ready}
use Rattle.reference_engine.specs.Case.{leaf_case}
use Rattle.reference_engine.specs.Stand.{TellsOf}
use Rattle.reference_engine.proofs.Standing.{leaf_cases}
use Rattle.reference_engine.proofs.Chaining.{cases_are}
use Rattle.reference_engine.proofs.cases.case_leaves.Goals as goal

pub leaves-requires-clause-ready : goal.leaves-requires-clause-ready
leaves-requires-clause-ready c =
    let f = tree_of c.args.tree.now in
    let made : nnf_of c.in_ok-form.form ≡ form false f = search rules in
    subst (IsReady (context_of c.args.context)) (sym made) (form_ready (context_of c.args.context) c.args.limit f c.requires.normal)

-- the cases of the reference
pub returns-clause-cases : goal.returns-clause-cases
returns-clause-cases c =
    let o = context_of c.args.context in
    let limit = c.args.limit in
    let f = tree_of c.args.tree.now in
    let n = c.pay.new.cost in
    let g = nnf_of c.in_ok-form.form in
    let made : g ≡ form false f = search rules in
    let same : branches o limit (numbers c.new.result.items) c.is_asked.result g n ≡ branches o limit [] (case_sign (normal_tree f)) (normal_tree f) n
    = ap (λ (xs : List VarId). branches o limit (numbers xs) c.is_asked.result g n) c.new.ensures.items ∙ ap (λ b. branches o limit [] b g n) c.is_asked.ensures ∙ ap (λ h. branches o limit [] (case_sign h) h n) made in
    let ls = c.in_ok-left.left.items in
    (c.leaves.new.cost, cases_are o limit f n ls c.leaves.new.cost (map leaf_case ls) (c.in_ok-pay.ensures (nodes (form false f)) c.form_sizes.ensures.plain) (subst (TellsOf c.in_ok-left.left.items c.leaves.new.cost) same c.in_ok-left.ensures.told) (leaf_cases ls))
