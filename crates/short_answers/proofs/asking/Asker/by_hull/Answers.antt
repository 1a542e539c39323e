use Rattle.std.proofs.Common.{subst}
use Rattle.std.specs.Prelude.{IfOk}
use Rattle.logic_meaning.specs.Tree.{Tree}
use Rattle.normal_atoms.specs.Atoms.{context_of}
use Rattle.formula_store.specs.Nodes.{tree}
use Rattle.formula_store.proofs.Makes.{keeps_then}
use Rattle.short_answers.specs.Shorter.{IsShortenedTo}
use Rattle.short_answers.proofs.Keeping.{asking_kept, kept_thrice, tidy_kept}
use Rattle.short_answers.proofs.Steps.{same_of_both, shortened_itself, shortened_kept}
use Rattle.short_answers.proofs.asking.Asker.by_hull.Goals as goal

pub is_enough-requires-clause-asking : goal.is_enough-requires-clause-asking
is_enough-requires-clause-asking g c κs within =
    let s = c.args.self.now in
    asking_kept s.work.now s.assumed.now s.names.now c.args.store.now c.hull.new.store c.hull.ensures.kept c.requires.asking

pub is_enough-requires-clause-id : goal.is_enough-requires-clause-id
is_enough-requires-clause-id g c κs within = tidy_kept (context_of c.args.self.now.work.now.context) c.args.store.now c.hull.new.store c.hull.ensures.kept c.args.id c.requires.id

pub is_enough-requires-clause-hull : goal.is_enough-requires-clause-hull
is_enough-requires-clause-hull g c κs within = c.in_ok-hull.ensures.follows.tidy

pub returns-in_err-is_enough-clause-kept : goal.returns-in_err-is_enough-clause-kept
returns-in_err-is_enough-clause-kept g c = keeps_then c.args.store.now c.hull.new.store c.is_enough.new.store c.hull.ensures.kept c.is_enough.ensures.kept

pub smaller-requires-clause-id : goal.smaller-requires-clause-id
smaller-requires-clause-id g c κs within =
    let kept = keeps_then c.args.store.now c.hull.new.store c.is_enough.new.store c.hull.ensures.kept c.is_enough.ensures.kept in
    tidy_kept (context_of c.args.self.now.work.now.context) c.args.store.now c.is_enough.new.store kept c.args.id c.requires.id

pub smaller-requires-clause-other : goal.smaller-requires-clause-other
smaller-requires-clause-other g c κs within = tidy_kept (context_of c.args.self.now.work.now.context) c.hull.new.store c.is_enough.new.store c.is_enough.ensures.kept c.in_ok-hull.hull c.in_ok-hull.ensures.follows.tidy

pub smaller-requires-clause-same : goal.smaller-requires-clause-same
smaller-requires-clause-same g c κs within =
    same_of_both c.args.self.now.work.now c.args.store.now c.hull.new.store c.is_enough.new.store c.args.id c.in_ok-hull.hull c.hull.ensures.kept c.is_enough.ensures.kept c.requires.id c.in_ok-hull.ensures.follows
    (c.in_ok-is_enough.ensures.enough c.if-branch.true)

pub returns-then-branch-clause-shortened : goal.returns-then-branch-clause-shortened
returns-then-branch-clause-shortened g c =
    let kept = keeps_then c.args.store.now c.hull.new.store c.is_enough.new.store c.hull.ensures.kept c.is_enough.ensures.kept in
    subst (λ (f : Tree). IfOk c.smaller.result (IsShortenedTo c.args.self.now.work.now f c.smaller.new.store)) (kept.same c.args.id c.requires.id.is) c.smaller.ensures.shortened

pub returns-then-branch-clause-kept : goal.returns-then-branch-clause-kept
returns-then-branch-clause-kept g c = kept_thrice c.args.store.now c.hull.new.store c.is_enough.new.store c.smaller.new.store c.hull.ensures.kept c.is_enough.ensures.kept c.smaller.ensures.kept

pub returns-else-branch-clause-shortened : goal.returns-else-branch-clause-shortened
returns-else-branch-clause-shortened g c =
    let w = c.args.self.now.work.now in
    let old = c.args.store.now in
    let kept = keeps_then old c.hull.new.store c.is_enough.new.store c.hull.ensures.kept c.is_enough.ensures.kept in
    shortened_kept w (tree old c.args.id) old c.is_enough.new.store c.args.id kept (shortened_itself w old c.args.id c.requires.id)

pub returns-else-branch-clause-kept : goal.returns-else-branch-clause-kept
returns-else-branch-clause-kept g c = keeps_then c.args.store.now c.hull.new.store c.is_enough.new.store c.hull.ensures.kept c.is_enough.ensures.kept
