use Rattle.formula_store.proofs.Makes.{keeps_then}
use Rattle.short_answers.proofs.Keeping.{asking_kept, kept_thrice}
use Rattle.short_answers.proofs.asking.Asker.searched.Goals as goal

pub by_thinning-requires-clause-asking : goal.by_thinning-requires-clause-asking
by_thinning-requires-clause-asking g c κs within =
    let s = c.args.self.now in
    asking_kept s.work.now s.assumed.now s.names.now c.args.store.now c.by_hull.new.store c.by_hull.ensures.kept c.requires.asking

pub returns-in_err-thin-clause-kept : goal.returns-in_err-thin-clause-kept
returns-in_err-thin-clause-kept g c = keeps_then c.args.store.now c.by_hull.new.store c.by_thinning.new.store c.by_hull.ensures.kept c.by_thinning.ensures.kept

pub returns-then-eq-clause-kept : goal.returns-then-eq-clause-kept
returns-then-eq-clause-kept g c = keeps_then c.args.store.now c.by_hull.new.store c.by_thinning.new.store c.by_hull.ensures.kept c.by_thinning.ensures.kept

pub by_hull-requires-2-clause-asking : goal.by_hull-requires-2-clause-asking
by_hull-requires-2-clause-asking g c κs within =
    let s = c.args.self.now in
    asking_kept s.work.now s.assumed.now s.names.now c.args.store.now c.by_thinning.new.store (keeps_then c.args.store.now c.by_hull.new.store c.by_thinning.new.store c.by_hull.ensures.kept c.by_thinning.ensures.kept) c.requires.asking

pub returns-clause-kept : goal.returns-clause-kept
returns-clause-kept g c = kept_thrice c.args.store.now c.by_hull.new.store c.by_thinning.new.store c.by_hull-2.new.store c.by_hull.ensures.kept c.by_thinning.ensures.kept c.by_hull-2.ensures.kept
