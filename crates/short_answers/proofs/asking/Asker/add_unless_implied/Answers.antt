use Rattle.std.proofs.Common.{List, sym, subst, ◌∙◌}
use Rattle.normal_atoms.specs.Atoms.{context_of}
use Rattle.formula_store.specs.declared.id.FormulaId.{FormulaId}
use Rattle.formula_store.specs.Nodes.{tree}
use Rattle.formula_store.proofs.Makes.{keeps_then}
use Rattle.short_answers.specs.Asking.{AreFollowing, AreTidyIds, IsFollowing, IsTidyId}
use Rattle.short_answers.proofs.Adding.{each_then}
use Rattle.short_answers.proofs.Hulls.{following_kept, one_following_kept}
use Rattle.short_answers.proofs.Keeping.{asking_kept, all_kept, tidy_kept, both_tidy, negation_tidy}
use Rattle.short_answers.proofs.asking.Asker.add_unless_implied.Goals as goal

pub is_never-requires-clause-asking : goal.is_never-requires-clause-asking
is_never-requires-clause-asking g c κs within =
    let s = c.args.self.now in
    asking_kept s.work.now s.assumed.now s.names.now c.args.store.now c.negation.new.store c.negation.ensures.kept c.requires.asking

pub is_never-requires-clause-id : goal.is_never-requires-clause-id
is_never-requires-clause-id g c κs within = negation_tidy (context_of c.args.self.now.work.now.context) c.negation.new.store c.in_ok-not.not (tree c.args.store.now c.args.id) c.in_ok-not.ensures.made c.requires.id.tidy

pub is_never-requires-clause-others : goal.is_never-requires-clause-others
is_never-requires-clause-others g c κs within =
    let o = context_of c.args.self.now.work.now.context in
    let old = c.args.store.now in
    let new = c.negation.new.store in
    let left : List FormulaId = c.args.left.now in
    let lean : List FormulaId = c.deref.result.now in
    subst (AreTidyIds o new) (sym (c.deref-2.ensures.value ∙ c.in_ok-others.ensures))
    (both_tidy o new left lean (all_kept o old new c.negation.ensures.kept left c.requires.left) (subst (AreTidyIds o new) (sym c.deref.ensures.value) (all_kept o old new c.negation.ensures.kept c.args.lean.now.items c.requires.lean)))

pub returns-in_err-is_never-clause-kept : goal.returns-in_err-is_never-clause-kept
returns-in_err-is_never-clause-kept g c = keeps_then c.args.store.now c.negation.new.store c.is_never.new.store c.negation.ensures.kept c.is_never.ensures.kept

pub returns-then-branch-clause-tidy : goal.returns-then-branch-clause-tidy
returns-then-branch-clause-tidy g c =
    all_kept (context_of c.args.self.now.work.now.context) c.args.store.now c.is_never.new.store (keeps_then c.args.store.now c.negation.new.store c.is_never.new.store c.negation.ensures.kept c.is_never.ensures.kept) c.args.lean.now.items c.requires.lean

pub returns-then-branch-clause-following : goal.returns-then-branch-clause-following
returns-then-branch-clause-following g c = λ f one each.
    following_kept c.args.self.now.work.now f c.args.store.now c.is_never.new.store c.args.lean.now.items (keeps_then c.args.store.now c.negation.new.store c.is_never.new.store c.negation.ensures.kept c.is_never.ensures.kept) each

pub returns-then-branch-clause-kept : goal.returns-then-branch-clause-kept
returns-then-branch-clause-kept g c = keeps_then c.args.store.now c.negation.new.store c.is_never.new.store c.negation.ensures.kept c.is_never.ensures.kept

pub returns-in_err-push-clause-kept : goal.returns-in_err-push-clause-kept
returns-in_err-push-clause-kept g c = keeps_then c.args.store.now c.negation.new.store c.is_never.new.store c.negation.ensures.kept c.is_never.ensures.kept

pub returns-clause-tidy : goal.returns-clause-tidy
returns-clause-tidy g c =
    let o = context_of c.args.self.now.work.now.context in
    let old = c.args.store.now in
    let new = c.is_never.new.store in
    let kept = keeps_then old c.negation.new.store new c.negation.ensures.kept c.is_never.ensures.kept in
    subst (AreTidyIds o new) (sym c.in_ok-push.ensures.items)
    (each_then (IsTidyId o new) c.args.lean.now.items c.args.id (all_kept o old new kept c.args.lean.now.items c.requires.lean) (tidy_kept o old new kept c.args.id c.requires.id))

pub returns-clause-following : goal.returns-clause-following
returns-clause-following g c = λ f one each.
    let w = c.args.self.now.work.now in
    let old = c.args.store.now in
    let new = c.is_never.new.store in
    let kept = keeps_then old c.negation.new.store new c.negation.ensures.kept c.is_never.ensures.kept in
    subst (AreFollowing w f new) (sym c.in_ok-push.ensures.items)
    (each_then (IsFollowing w f new) c.args.lean.now.items c.args.id (following_kept w f old new c.args.lean.now.items kept each) (one_following_kept w f old new c.args.id kept one))

pub returns-clause-kept : goal.returns-clause-kept
returns-clause-kept g c = keeps_then c.args.store.now c.negation.new.store c.is_never.new.store c.negation.ensures.kept c.is_never.ensures.kept
