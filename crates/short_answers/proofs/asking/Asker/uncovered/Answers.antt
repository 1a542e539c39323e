use Rattle.std.proofs.Common.{◌+◌, List, Bool, get_or, map, take, sym, subst}
use Rattle.normal_atoms.specs.Atoms.{context_of, atom_of}
use Rattle.formula_store.specs.declared.id.FormulaId.{FormulaId}
use Rattle.formula_store.specs.Nodes.{tree}
use Rattle.formula_store.proofs.Makes.{keeps_then}
use Rattle.short_answers.specs.Asking.{IsTidyId}
use Rattle.short_answers.proofs.Adding.{each_at}
use Rattle.short_answers.proofs.Covering.{SoFar, so_far_more}
use Rattle.short_answers.proofs.Keeping.{asking_kept, tidy_kept}
use Rattle.short_answers.proofs.asking.Asker.uncovered.Goals as goal

pub is_covered-requires-clause-asking : goal.is_covered-requires-clause-asking
is_covered-requires-clause-asking g c κs within =
    let s = c.args.self.now in
    asking_kept s.work.now s.assumed.now s.names.now c.args.store.now c.loop-id.store c.loop-id.invariant.kept c.requires.asking

pub is_covered-requires-clause-id : goal.is_covered-requires-clause-id
is_covered-requires-clause-id g c κs within =
    let o = context_of c.args.self.now.work.now.context in
    let old = c.args.store.now in
    let ids : List FormulaId = c.args.formulas.now in
    let id : FormulaId = get_or ids c.loop-id.id-index (record { number = 0 }) in
    tidy_kept o old c.loop-id.store c.loop-id.invariant.kept id (each_at (IsTidyId o old) ids c.loop-id.id-index (record { number = 0 }) c.loop-id-test.true c.requires.formulas)

pub returns-in_err-covered-clause-kept : goal.returns-in_err-covered-clause-kept
returns-in_err-covered-clause-kept g c = keeps_then c.args.store.now c.loop-id.store c.is_covered.new.store c.loop-id.invariant.kept c.is_covered.ensures.kept

pub returns-in_err-push-clause-kept : goal.returns-in_err-push-clause-kept
returns-in_err-push-clause-kept g c = keeps_then c.args.store.now c.loop-id.store c.is_covered.new.store c.loop-id.invariant.kept c.is_covered.ensures.kept

pub loop-id-preserved : goal.loop-id-preserved
loop-id-preserved g c =
    let w = c.args.self.now.work.now in
    let o = context_of w.context in
    let ks = map atom_of w.assumed.now in
    let old = c.args.store.now in
    let now = c.loop-id.store in
    let new = c.is_covered.new.store in
    let i = c.loop-id.id-index in
    let ids : List FormulaId = c.args.formulas.now in
    let more : List FormulaId = c.is_covered.new.opposites.items in
    record {
      kept = keeps_then old now new c.loop-id.invariant.kept c.is_covered.ensures.kept;
      opposites = c.in_ok-covered.ensures.tidy;
      so_far = subst (λ (bs : List Bool). SoFar o ks (map (tree old) (take (i + 1) ids)) bs (map (tree new) more)) (sym c.in_ok-push.ensures.items)
          (so_far_more o ks old now new ids c.loop-id.opposites.items more i c.loop-id.marks.items c.in_ok-covered.covered c.loop-id.invariant.kept c.requires.formulas c.loop-id-test.true c.loop-id.invariant.so_far c.in_ok-covered.ensures.covered c.in_ok-covered.ensures.stay);
    }
