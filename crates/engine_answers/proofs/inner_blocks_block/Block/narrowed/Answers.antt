use Rattle.std.proofs.Common.{List, map, sym, subst}
use Rattle.logic_meaning.specs.declared.form.VarId.{VarId}
use Rattle.normal_atoms.specs.declared.atoms.Context as code
use Rattle.normal_atoms.specs.Atoms.{context_of, atom_of}
use Rattle.normal_atoms.proofs.Stepped.{ok_map}
use Rattle.elimination_theory.specs.Theorems.{IsTidy}
use Rattle.formula_store.specs.Nodes.{tree}
use Rattle.branch_rounds.specs.Branches.{numbers}
use Rattle.narrowed_blocks.specs.Narrowing.{IsNarrowed, IsNarrowedTo}
use Rattle.engine_answers.proofs.Closing.{under_has_none}
use Rattle.engine_answers.proofs.FewerNames.{narrowed_self}
use Rattle.engine_answers.proofs.inner_blocks_block.Block.narrowed.Goals as goal

pub narrowed-requires-clause-tidy : goal.narrowed-requires-clause-tidy
narrowed-requires-clause-tidy c =
    subst (λ (d : code.Context). IsTidy (context_of d) (tree c.args.store.now c.args.matrix)) (sym c.requires.block.under.context) c.requires.tidy

pub narrowed-requires-clause-lack : goal.narrowed-requires-clause-lack
narrowed-requires-clause-lack c = under_has_none c.args.self.now c.requires.block

pub returns-then-branch-clause-left : goal.returns-then-branch-clause-left
returns-then-branch-clause-left c =
    let b = c.args.self.now in
    let k = context_of b.work.now.context in
    let us = map atom_of b.under.now.assumed.now in
    let m = tree c.args.store.now c.args.matrix in
    let itself = narrowed_self k us (numbers b.names.now) m c.requires.tidy c.requires.block.once in
    record { is = c.requires.id; narrowed = subst (λ (ns : List VarId). IsNarrowed k us m (numbers b.names.now) m (numbers ns)) (sym c.in_ok-names.ensures) itself }

pub returns-clause-left : goal.returns-clause-left
returns-clause-left c =
    let b = c.args.self.now in
    let us = map atom_of b.under.now.assumed.now in
    let m = tree c.args.store.now c.args.matrix in
    ok_map c.narrowed.result (λ n h. subst (λ (d : code.Context). IsNarrowedTo (context_of d) us m (numbers b.names.now) c.narrowed.new.store n) c.requires.block.under.context h) c.narrowed.ensures.narrowed
