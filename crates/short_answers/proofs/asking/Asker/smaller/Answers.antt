use Rattle.normal_atoms.specs.Atoms.{context_of}
use Rattle.formula_store.specs.Nodes.{tree}
use Rattle.text_extents.proofs.Written.{tidy_written}
use Rattle.short_answers.proofs.Keeping.{tidy_kept}
use Rattle.short_answers.proofs.Steps.{shortened_itself, shortened_kept}
use Rattle.short_answers.proofs.asking.Asker.smaller.Goals as goal

pub has_fewer_nodes-requires-clause-other : goal.has_fewer_nodes-requires-clause-other
has_fewer_nodes-requires-clause-other g c = c.simplified.ensures.kept.is c.args.id c.requires.id.is

pub is_no_larger-requires-clause-large : goal.is_no_larger-requires-clause-large
is_no_larger-requires-clause-large g c = c.simplified.ensures.kept.is c.args.id c.requires.id.is

pub is_no_larger-requires-clause-large_written : goal.is_no_larger-requires-clause-large_written
is_no_larger-requires-clause-large_written g c =
    let o = context_of c.args.self.now.work.now.context in
    let new = c.simplified.new.store in
    tidy_written o (tree new c.args.id) (tidy_kept o c.args.store.now new c.simplified.ensures.kept c.args.id c.requires.id).tidy

pub is_no_larger-requires-clause-small_written : goal.is_no_larger-requires-clause-small_written
is_no_larger-requires-clause-small_written g c =
    let o = context_of c.args.self.now.work.now.context in
    tidy_written o (tree c.simplified.new.store c.in_ok-small.small) c.in_ok-small.ensures.pruned.worked.tidy

pub returns-else-has_fewer_nodes-clause-shortened : goal.returns-else-has_fewer_nodes-clause-shortened
returns-else-has_fewer_nodes-clause-shortened g c =
    let w = c.args.self.now.work.now in
    let old = c.args.store.now in
    let new = c.simplified.new.store in
    shortened_kept w (tree old c.args.id) old new c.args.id c.simplified.ensures.kept (shortened_itself w old c.args.id c.requires.id)
