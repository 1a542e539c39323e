use Rattle.std.proofs.Common.{map, sym, subst}
use Rattle.std.specs.Prelude.{IfOk}
use Rattle.logic_meaning.specs.Tree.{Tree}
use Rattle.shape_theory.specs.Simplifiable.{EquivalentUnder}
use Rattle.normal_atoms.specs.Atoms.{context_of, atom_of}
use Rattle.formula_store.specs.Nodes.{tree}
use Rattle.formula_store.proofs.Makes.{keeps_then}
use Rattle.short_answers.specs.Shorter.{IsShortenedTo}
use Rattle.short_answers.proofs.Keeping.{tidy_kept}
use Rattle.short_answers.proofs.asking.Asker.by_thinning.Goals as goal

pub smaller-requires-clause-id : goal.smaller-requires-clause-id
smaller-requires-clause-id g c κs within = tidy_kept (context_of c.args.self.now.work.now.context) c.args.store.now c.thinned.new.store c.thinned.ensures.kept c.args.id c.requires.id

pub smaller-requires-clause-other : goal.smaller-requires-clause-other
smaller-requires-clause-other g c κs within = c.in_ok-thin.ensures.same.tidy

pub smaller-requires-clause-same : goal.smaller-requires-clause-same
smaller-requires-clause-same g c κs within =
    let w = c.args.self.now.work.now in
    subst (λ (f : Tree). EquivalentUnder (context_of w.context) (map atom_of w.assumed.now) f (tree c.thinned.new.store c.in_ok-thin.thin)) (sym (c.thinned.ensures.kept.same c.args.id c.requires.id.is)) c.in_ok-thin.ensures.same.same

pub returns-clause-shortened : goal.returns-clause-shortened
returns-clause-shortened g c =
    subst (λ (f : Tree). IfOk c.smaller.result (IsShortenedTo c.args.self.now.work.now f c.smaller.new.store)) (c.thinned.ensures.kept.same c.args.id c.requires.id.is) c.smaller.ensures.shortened

pub returns-clause-kept : goal.returns-clause-kept
returns-clause-kept g c = keeps_then c.args.store.now c.thinned.new.store c.smaller.new.store c.thinned.ensures.kept c.smaller.ensures.kept
