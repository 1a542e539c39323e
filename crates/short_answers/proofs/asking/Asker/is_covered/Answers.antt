use Rattle.std.proofs.Common.{List, map, sym, subst}
use Rattle.normal_atoms.specs.Atoms.{context_of}
use Rattle.formula_store.specs.declared.id.FormulaId.{FormulaId}
use Rattle.formula_store.specs.Nodes.{tree}
use Rattle.formula_store.proofs.Makes.{keeps_then}
use Rattle.short_answers.specs.Asking.{AreTidyIds, IsTidyId}
use Rattle.short_answers.specs.Opposites.{StayTrueWithout}
use Rattle.short_answers.proofs.Adding.{each_then}
use Rattle.short_answers.proofs.Covering.{stay_kept, stay_pushed}
use Rattle.short_answers.proofs.Keeping.{all_kept, negation_tidy, tidy_kept}
use Rattle.short_answers.proofs.asking.Asker.is_covered.Goals as goal

pub returns-then-branch-clause-tidy : goal.returns-then-branch-clause-tidy
returns-then-branch-clause-tidy g c = all_kept (context_of c.args.self.now.work.now.context) c.args.store.now c.is_never.new.store c.is_never.ensures.kept c.args.opposites.now.items c.requires.opposites

pub returns-then-branch-clause-stay : goal.returns-then-branch-clause-stay
returns-then-branch-clause-stay g c =
    stay_kept (context_of c.args.self.now.work.now.context) c.args.store.now c.is_never.new.store c.is_never.ensures.kept (tree c.args.store.now c.args.id) c.args.opposites.now.items c.requires.opposites

pub returns-in_err-opposite-clause-kept : goal.returns-in_err-opposite-clause-kept
returns-in_err-opposite-clause-kept g c = keeps_then c.args.store.now c.is_never.new.store c.negation.new.store c.is_never.ensures.kept c.negation.ensures.kept

pub returns-in_err-push-clause-kept : goal.returns-in_err-push-clause-kept
returns-in_err-push-clause-kept g c = keeps_then c.args.store.now c.is_never.new.store c.negation.new.store c.is_never.ensures.kept c.negation.ensures.kept

pub returns-in_ok-push-clause-tidy : goal.returns-in_ok-push-clause-tidy
returns-in_ok-push-clause-tidy g c =
    let o = context_of c.args.self.now.work.now.context in
    let old = c.args.store.now in
    let now = c.is_never.new.store in
    let new = c.negation.new.store in
    let kept = keeps_then old now new c.is_never.ensures.kept c.negation.ensures.kept in
    let id = tidy_kept o old now c.is_never.ensures.kept c.args.id c.requires.id in
    subst (AreTidyIds o new) (sym c.in_ok-push.ensures.items)
    (each_then (IsTidyId o new) c.args.opposites.now.items c.in_ok-opposite.opposite (all_kept o old new kept c.args.opposites.now.items c.requires.opposites)
    (negation_tidy o new c.in_ok-opposite.opposite (tree now c.args.id) c.in_ok-opposite.ensures.made id.tidy))

pub returns-in_ok-push-clause-stay : goal.returns-in_ok-push-clause-stay
returns-in_ok-push-clause-stay g c =
    let o = context_of c.args.self.now.work.now.context in
    let old = c.args.store.now in
    let new = c.negation.new.store in
    let opposites : List FormulaId = c.args.opposites.now.items in
    subst (λ (ids : List FormulaId). StayTrueWithout o (tree old c.args.id) (map (tree old) opposites) (map (tree new) ids)) (sym c.in_ok-push.ensures.items)
    (stay_pushed o old c.is_never.new.store new c.args.id c.in_ok-opposite.opposite opposites c.is_never.ensures.kept c.negation.ensures.kept c.requires.id c.requires.opposites c.in_ok-opposite.ensures.made)

pub returns-in_ok-push-clause-kept : goal.returns-in_ok-push-clause-kept
returns-in_ok-push-clause-kept g c = keeps_then c.args.store.now c.is_never.new.store c.negation.new.store c.is_never.ensures.kept c.negation.ensures.kept

pub returns-else-len-lt-MOST_BEFORE-clause-tidy : goal.returns-else-len-lt-MOST_BEFORE-clause-tidy
returns-else-len-lt-MOST_BEFORE-clause-tidy g c =
    all_kept (context_of c.args.self.now.work.now.context) c.args.store.now c.is_never.new.store c.is_never.ensures.kept c.args.opposites.now.items c.requires.opposites

pub returns-else-len-lt-MOST_BEFORE-clause-stay : goal.returns-else-len-lt-MOST_BEFORE-clause-stay
returns-else-len-lt-MOST_BEFORE-clause-stay g c =
    stay_kept (context_of c.args.self.now.work.now.context) c.args.store.now c.is_never.new.store c.is_never.ensures.kept (tree c.args.store.now c.args.id) c.args.opposites.now.items c.requires.opposites
