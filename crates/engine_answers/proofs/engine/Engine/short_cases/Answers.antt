use Rattle.std.proofs.Common.{map}
use Rattle.normal_atoms.specs.Atoms.{context_of, atom_of}
use Rattle.formula_store.specs.Nodes.{tree}
use Rattle.formula_store.proofs.Makes.{keeps_then}
use Rattle.engine_answers.specs.Assumed.{lacking}
use Rattle.engine_answers.proofs.ShortCases.{lacking_block, thinned_tree, tidy_guards, tree_kept}
use Rattle.engine_answers.proofs.engine.Engine.short_cases.Goals as goal

pub thinned-requires-clause-guards : goal.thinned-requires-clause-guards
thinned-requires-clause-guards g c κs within =
    tidy_guards (context_of c.args.self.now.context) c.cases.new.store (map atom_of c.args.atoms.now) (tree c.args.store.now c.args.id) c.in-Ok.case_tree c.in-Ok.ensures.cases

pub returns-in-Ok-thinned-clause-cases : goal.returns-in-Ok-thinned-clause-cases
returns-in-Ok-thinned-clause-cases g c =
    let o = context_of c.args.self.now.context in
    let ks = map atom_of c.args.atoms.now in
    let f = tree c.args.store.now c.args.id in
    let t = c.in-Ok.case_tree in
    let us = map atom_of (lacking t.block.items c.args.atoms.now) in
    let left = c.in-Ok-thinned.case_tree in
    tree_kept o c.cases.new.store c.thinned.new.store c.thinned.ensures.kept ks f left
    (thinned_tree o c.cases.new.store ks us f (lacking_block c.args.atoms.now f t.block.items c.in-Ok.ensures.cases.block) t left c.in-Ok.ensures.cases c.in-Ok-thinned.ensures.thinned)

pub returns-in-Ok-thinned-clause-kept : goal.returns-in-Ok-thinned-clause-kept
returns-in-Ok-thinned-clause-kept g c = keeps_then c.args.store.now c.cases.new.store c.thinned.new.store c.cases.ensures.kept c.thinned.ensures.kept

pub returns-in-Err-thinned-clause-kept : goal.returns-in-Err-thinned-clause-kept
returns-in-Err-thinned-clause-kept g c = keeps_then c.args.store.now c.cases.new.store c.thinned.new.store c.cases.ensures.kept c.thinned.ensures.kept
