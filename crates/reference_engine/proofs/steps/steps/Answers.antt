use Rattle.std.proofs.Common.{rules, ◌≡◌, List, ◌∷◌, ◌++◌, length, sym, ap, ◌∙◌, subst}
use Rattle.formula_laws.specs.TheoryAtoms.{AtomIn}
use Rattle.logic_meaning.specs.Every.{EveryOf}
use Rattle.logic_meaning.specs.Fold.{append}
use Rattle.normal_atoms.specs.Atoms.{context_of}
use Rattle.logic_meaning.specs.Measured.{done}
use Rattle.logic_meaning.specs.Reference.{steps}
use Rattle.nnf_trees.specs.declared.nnf.Nnf.{Nnf}
use Rattle.nnf_trees.specs.Nnfs.{AreProper, nnf_of}
use Rattle.nnf_trees.proofs.Pieces.{empty, members_proper, lists_joined}
use Rattle.reference_engine.specs.Told.{seen, all_bare, formulas_of, prefixed}
use Rattle.reference_engine.proofs.Seen.{one_branch_more, append_none, prefixed_none}
use Rattle.reference_engine.proofs.steps.steps.Goals as goal

pub one_step-requires-clause-proper : goal.one_step-requires-clause-proper
one_step-requires-clause-proper c =
    let split : c.loop-branch.branch-iterator.rest.items ≡ c.in-Some.branch ∷ c.next.new.self.rest.items = search rules in
    (subst AreProper split c.loop-branch.invariant.rest).0

pub one_step-requires-clause-in_context : goal.one_step-requires-clause-in_context
one_step-requires-clause-in_context c =
    let split : c.loop-branch.branch-iterator.rest.items ≡ c.in-Some.branch ∷ c.next.new.self.rest.items = search rules in
    (subst (λ (xs : List Nnf). EveryOf (AtomIn (context_of c.args.setting.context)) (formulas_of xs)) split c.loop-branch.invariant.inside).0

pub loop-branch-init : goal.loop-branch-init
loop-branch-init c =
    let all = c.into_iter-branch-iterator.ensures.into_iter_gives.0 in
    let rule = λ (xs : List Nnf). seen (steps (context_of c.args.setting.context) c.args.setting.limit c.args.x.number (all_bare (formulas_of xs)) c.args.cost.now) in
    record {
      can = tt;
      finite = tt;
      told = ap (λ (xs : List Nnf). prefixed (formulas_of xs) (rule c.into_iter-branch-iterator.result.rest.items)) c.new-left.ensures.items ∙ prefixed_none (context_of c.args.setting.context) c.args.setting.limit c.args.x.number (rule c.into_iter-branch-iterator.result.rest.items) ∙ ap rule all;
      left = subst AreProper (sym c.new-left.ensures.items) tt;
      rest = subst AreProper (sym all) c.requires.proper;
      inside = subst (λ (xs : List Nnf). EveryOf (AtomIn (context_of c.args.setting.context)) (formulas_of xs)) (sym all) c.requires.in_context;
    }

pub loop-branch-preserved : goal.loop-branch-preserved
loop-branch-preserved c =
    let split : c.loop-branch.branch-iterator.rest.items ≡ c.in-Some.branch ∷ c.next.new.self.rest.items = search rules in
    let all = seen (steps (context_of c.args.setting.context) c.args.setting.limit c.args.x.number (all_bare (formulas_of c.args.branches.items)) c.args.cost.now) in
    let before = subst (λ (xs : List Nnf). prefixed (formulas_of c.loop-branch.left.items) (seen (steps (context_of c.args.setting.context) c.args.setting.limit c.args.x.number (all_bare (formulas_of xs)) c.loop-branch.cost)) ≡ all) split c.loop-branch.invariant.told in
    let appended : c.append.new.self.items ≡ c.loop-branch.left.items ++ c.in_ok-made.made.items = search rules in
    let more : formulas_of c.append.new.self.items ≡ append (formulas_of c.loop-branch.left.items) (formulas_of c.in_ok-made.made.items)
    = ap formulas_of appended ∙ lists_joined c.loop-branch.left.items c.in_ok-made.made.items in
    record {
      can = tt;
      finite = tt;
      told = ap (λ fs. prefixed fs (seen (steps (context_of c.args.setting.context) c.args.setting.limit c.args.x.number (all_bare (formulas_of c.next.new.self.rest.items)) c.one_step.new.cost))) more
          ∙ one_branch_more (context_of c.args.setting.context) c.args.setting.limit c.args.x.number (nnf_of c.in-Some.branch) (formulas_of c.next.new.self.rest.items) (formulas_of c.loop-branch.left.items) (formulas_of c.in_ok-made.made.items) c.loop-branch.cost c.one_step.new.cost all before c.in_ok-made.ensures.told;
      left = members_proper c.in_ok-made.made.items c.loop-branch.left.items c.append.new.self.items c.loop-branch.invariant.left c.in_ok-made.ensures.proper appended;
      rest = (subst AreProper split c.loop-branch.invariant.rest).1;
      inside = (subst (λ (xs : List Nnf). EveryOf (AtomIn (context_of c.args.setting.context)) (formulas_of xs)) split c.loop-branch.invariant.inside).1;
    }

pub returns-clause-told : goal.returns-clause-told
returns-clause-told c =
    let none_left : length c.loop-branch.branch-iterator.rest.items ≡ 0 = search rules in
    let rule = λ (xs : List Nnf). seen (steps (context_of c.args.setting.context) c.args.setting.limit c.args.x.number (all_bare (formulas_of xs)) c.loop-branch.cost) in
    sym (ap (λ (xs : List Nnf). prefixed (formulas_of c.loop-branch.left.items) (rule xs)) (sym (empty c.loop-branch.branch-iterator.rest.items none_left)) ∙ c.loop-branch.invariant.told)
    ∙ ap (λ fs. done (fs, c.loop-branch.cost)) (append_none (context_of c.args.setting.context) c.args.setting.limit c.args.x.number (formulas_of c.loop-branch.left.items))
