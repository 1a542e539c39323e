use Rattle.std.proofs.Common.{List, map, sym, subst, ap, ◌∙◌}
use Rattle.logic_meaning.specs.Fold.{fold_list}
use Rattle.logic_meaning.specs.Some.{EachOf}
use Rattle.logic_meaning.specs.declared.form.VarId.{VarId}
use Rattle.logic_meaning.specs.declared.junction.Junction.TheVariants.{Disjunction}
use Rattle.normal_atoms.specs.declared.atoms.Context as code
use Rattle.normal_atoms.specs.Atoms.{context_of, atom_of}
use Rattle.elimination_theory.specs.Theorems.{IsTidy}
use Rattle.formula_laws.specs.StandsOnce.{StandsOnce}
use Rattle.formula_tree.specs.Trees.{members}
use Rattle.formula_store.specs.Nodes.{tree, IsId}
use Rattle.formula_store.proofs.Makes.{keeps_then}
use Rattle.case_theory.proofs.Worked.{working_goes_on}
use Rattle.case_theory.specs.Under.{Lack}
use Rattle.branch_rounds.specs.Branches.{Seen, AreBranchesOf, numbers}
use Rattle.engine_answers.proofs.Closing.{left_ids, together_tidy, under_has_none, block_short}
use Rattle.engine_answers.proofs.FewerNames.{left_lack}
use Rattle.engine_answers.proofs.inner_blocks_block.Block.short_over.Goals as goal

pub block_branches-requires-clause-tidy : goal.block_branches-requires-clause-tidy
block_branches-requires-clause-tidy g c κs within =
    subst (λ (d : code.Context). IsTidy (context_of d) (tree c.args.store.now c.args.left.matrix)) (sym c.requires.block.under.context) c.requires.left.1.narrowed.tidy

pub block_branches-requires-clause-lack : goal.block_branches-requires-clause-lack
block_branches-requires-clause-lack g c κs within =
    let b = c.args.self.now in
    let us = map atom_of b.under.now.assumed.now in
    let n = c.requires.left in
    subst (λ (ns : List VarId). EachOf (Lack us) (numbers ns)) (sym c.deref.ensures.value)
    (left_lack (context_of b.work.now.context) us (numbers b.names.now) (numbers c.args.left.names.items) n.0 (tree c.args.store.now c.args.left.matrix) n.1.narrowed (under_has_none b c.requires.block))

pub block_branches-requires-clause-once : goal.block_branches-requires-clause-once
block_branches-requires-clause-once g c κs within = subst (λ (ns : List VarId). StandsOnce (numbers ns)) (sym c.deref.ensures.value) c.requires.left.1.narrowed.once

pub disjunction-requires : goal.disjunction-requires
disjunction-requires g c =
    let nodes = c.block_branches.new.store in
    subst (EachOf (λ (d : Seen). IsId nodes d.formula)) (sym c.deref-2.ensures.value) (left_ids nodes c.args.self.now.under.now c.in-Ok.branches.items c.in-Ok.ensures.branches.are_open)

pub returns-in_err-together-clause-kept : goal.returns-in_err-together-clause-kept
returns-in_err-together-clause-kept g c = keeps_then c.args.store.now c.block_branches.new.store c.disjunction.new.store c.block_branches.ensures.kept c.disjunction.ensures.kept

pub pruned-requires-clause-tidy : goal.pruned-requires-clause-tidy
pruned-requires-clause-tidy g c =
    let u = c.args.self.now.under.now in
    let nodes = c.block_branches.new.store in
    let bs = c.in-Ok.branches.items in
    let joined = c.in_ok-together.ensures.made.same ∙ ap (λ (ds : List Seen). fold_list Disjunction (members (map (λ (d : Seen). tree nodes d.formula) ds))) c.deref-2.ensures.value in
    subst (IsTidy (context_of c.args.self.now.work.now.context)) (sym joined)
    (subst (λ (d : code.Context). IsTidy (context_of d) (fold_list Disjunction (members (map (λ (d : Seen). tree nodes d.formula) bs)))) c.requires.block.under.context (together_tidy nodes u bs c.in-Ok.ensures.branches.are_open))

pub returns-in_err-small-clause-kept : goal.returns-in_err-small-clause-kept
returns-in_err-small-clause-kept g c =
    keeps_then c.args.store.now c.disjunction.new.store c.pruned.new.store (keeps_then c.args.store.now c.block_branches.new.store c.disjunction.new.store c.block_branches.ensures.kept c.disjunction.ensures.kept) c.pruned.ensures.kept

pub shortened-requires-clause-id : goal.shortened-requires-clause-id
shortened-requires-clause-id g c κs within = record { is = c.in_ok-small.ensures.pruned.is; tidy = c.in_ok-small.ensures.pruned.worked.tidy }

pub returns-in_err-shortened-clause-kept : goal.returns-in_err-shortened-clause-kept
returns-in_err-shortened-clause-kept g c =
    let two = keeps_then c.args.store.now c.block_branches.new.store c.disjunction.new.store c.block_branches.ensures.kept c.disjunction.ensures.kept in
    keeps_then c.args.store.now c.pruned.new.store c.shortened.new.store (keeps_then c.args.store.now c.disjunction.new.store c.pruned.new.store two c.pruned.ensures.kept) c.shortened.ensures.kept

pub returns-clause-kept : goal.returns-clause-kept
returns-clause-kept g c =
    let two = keeps_then c.args.store.now c.block_branches.new.store c.disjunction.new.store c.block_branches.ensures.kept c.disjunction.ensures.kept in
    keeps_then c.args.store.now c.pruned.new.store c.shortened.new.store (keeps_then c.args.store.now c.disjunction.new.store c.pruned.new.store two c.pruned.ensures.kept) c.shortened.ensures.kept

pub returns-clause-short : goal.returns-clause-short
returns-clause-short g c f m narrowed worked =
    let b = c.args.self.now in
    let nodes = c.block_branches.new.store in
    let o = context_of b.work.now.context in
    let ks = map atom_of b.work.now.assumed.now in
    let joined = c.in_ok-together.ensures.made.same ∙ ap (λ (ds : List Seen). fold_list Disjunction (members (map (λ (d : Seen). tree nodes d.formula) ds))) c.deref-2.ensures.value in
    let g = tree c.args.store.now c.args.left.matrix in
    let together = tree c.disjunction.new.store c.in_ok-together.together in
    let small = tree c.pruned.new.store c.in_ok-small.small in
    let short = tree c.shortened.new.store c.in_ok-shortened.field-0 in
    let shorter = (working_goes_on o ks).further together small short c.in_ok-small.ensures.pruned.worked c.in_ok-shortened.ensures.shortened.worked in
    let are = subst (λ (ns : List VarId). AreBranchesOf b.under.now g (numbers ns) nodes c.in-Ok.branches.items) c.deref.ensures.value c.in-Ok.ensures.branches in
    record {
      is = c.in_ok-shortened.ensures.shortened.is;
      worked = block_short b c.requires.block g (numbers c.args.left.names.items) nodes c.in-Ok.branches.items are together short joined shorter f m narrowed worked;
    }
