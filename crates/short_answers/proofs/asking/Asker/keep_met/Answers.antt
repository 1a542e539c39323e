use Rattle.std.proofs.Common.{◌≡◌, ◌∷◌, [], map, true, true≢false, sym, ◌∙◌, arith}
use Rattle.normal_atoms.specs.Atoms.{context_of, atom_of}
use Rattle.formula_store.specs.declared.id.FormulaId.{FormulaId}
use Rattle.formula_store.specs.Nodes.{tree}
use Rattle.formula_store.proofs.Makes.{keeps_then}
use Rattle.short_answers.specs.Asking.{NeverTogether}
use Rattle.short_answers.proofs.Adding.{each_whole}
use Rattle.short_answers.proofs.Hulls.{case_tidy, never_more}
use Rattle.short_answers.proofs.Keeping.{asking_kept}
use Rattle.short_answers.proofs.asking.Asker.keep_met.Goals as goal
use Rattle.short_answers.proofs.asking.Asker.keep_met.Goals.{then-branch, else-branch}

pub is_met-requires-clause-asking : goal.is_met-requires-clause-asking
is_met-requires-clause-asking g c κs within =
    let s = c.args.self.now in
    asking_kept s.work.now s.assumed.now s.names.now c.args.store.now c.loop-case.store c.loop-case.invariant.kept c.requires.asking

pub is_met-requires-clause-case : goal.is_met-requires-clause-case
is_met-requires-clause-case g c κs within = case_tidy (context_of c.args.self.now.work.now.context) (map atom_of c.args.self.now.work.now.assumed.now) c.args.store.now c.loop-case.store c.loop-case.invariant.kept c.args.cases.now c.loop-case.case-index c.loop-case-test.true c.requires.cases

pub is_met-requires-clause-context : goal.is_met-requires-clause-context
is_met-requires-clause-context g c κs within = c.loop-case.invariant.context ∙ c.requires.context

pub returns-in_err-is_met-clause-kept : goal.returns-in_err-is_met-clause-kept
returns-in_err-is_met-clause-kept g c = keeps_then c.args.store.now c.loop-case.store c.is_met.new.store c.loop-case.invariant.kept c.is_met.ensures.kept

pub loop-case-preserved : goal.loop-case-preserved
loop-case-preserved g c =
    let w = c.args.self.now.work.now in
    let i = c.loop-case.invariant in
    record {
      kept = keeps_then c.args.store.now c.loop-case.store c.is_met.new.store i.kept c.is_met.ensures.kept;
      context = c.in_ok-is_met.ensures.context ∙ i.context;
      candidates = c.in_ok-is_met.ensures.candidates;
      few = omega (arith, i.few, c.in_ok-is_met.ensures.few);
      nowhere = λ yes_nowhere.
          elim c.if-branch.branch [
            | then-branch v ↦ cc
            | else-branch v ↦
                never_more (context_of w.context) (map atom_of w.assumed.now) c.args.store.now c.loop-case.store i.kept c.args.cases.now c.loop-case.case-index c.loop-case-test.true c.requires.cases (i.nowhere (sym v.nowhere-is ∙ yes_nowhere))
                (c.in_ok-is_met.ensures.nowhere (λ (yes_met : c.in_ok-is_met.field-0 ≡ true). absurd (true≢false (sym yes_met ∙ v.if-branch.false))))
          ];
    }

pub returns-clause-nowhere : goal.returns-clause-nowhere
returns-clause-nowhere g c = λ yes_nowhere.
    let o = context_of c.args.self.now.work.now.context in
    let ks = map atom_of c.args.self.now.work.now.assumed.now in
    each_whole (λ (id : FormulaId). NeverTogether o ks (tree c.args.store.now id ∷ [])) c.args.cases.now c.loop-case.case-index c.loop-case-test.false (c.loop-case.invariant.nowhere yes_nowhere)
