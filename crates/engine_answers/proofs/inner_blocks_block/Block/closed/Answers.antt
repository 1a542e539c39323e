use Rattle.std.proofs.Common.{sym, subst}
use Rattle.normal_atoms.specs.Atoms.{context_of}
use Rattle.elimination_theory.specs.Theorems.{IsTidy}
use Rattle.formula_store.specs.Nodes.{tree}
use Rattle.formula_store.proofs.Makes.{keeps_then}
use Rattle.engine_answers.specs.Blocks.{is_asked}
use Rattle.engine_answers.proofs.Closing.{turned_tidy, block_closed}
use Rattle.engine_answers.proofs.inner_blocks_block.Block.closed.Goals as goal

pub narrowed-requires-clause-tidy : goal.narrowed-requires-clause-tidy
narrowed-requires-clause-tidy g c =
    let o = context_of c.args.self.now.work.now.context in
    subst (IsTidy o) (sym c.in_ok-matrix.ensures.made.same) (turned_tidy o (is_asked c.args.self.now.quantifier) (tree c.args.store.now c.args.inner) c.requires.tidy)

pub short_over-requires-clause-left : goal.short_over-requires-clause-left
short_over-requires-clause-left g c κs within = (tree c.asked.new.store c.in_ok-matrix.matrix, c.in_ok-left.ensures.left)

pub returns-in_err-left-clause-kept : goal.returns-in_err-left-clause-kept
returns-in_err-left-clause-kept g c = keeps_then c.args.store.now c.asked.new.store c.narrowed.new.store c.asked.ensures.kept c.narrowed.ensures.kept

pub returns-in-Err-clause-kept : goal.returns-in-Err-clause-kept
returns-in-Err-clause-kept g c =
    keeps_then c.args.store.now c.narrowed.new.store c.short_over.new.store (keeps_then c.args.store.now c.asked.new.store c.narrowed.new.store c.asked.ensures.kept c.narrowed.ensures.kept) c.short_over.ensures.kept

pub returns-in_err-asked-clause-kept : goal.returns-in_err-asked-clause-kept
returns-in_err-asked-clause-kept g c =
    let two = keeps_then c.args.store.now c.asked.new.store c.narrowed.new.store c.asked.ensures.kept c.narrowed.ensures.kept in
    keeps_then c.args.store.now c.short_over.new.store c.asked-2.new.store (keeps_then c.args.store.now c.narrowed.new.store c.short_over.new.store two c.short_over.ensures.kept) c.asked-2.ensures.kept

pub returns-clause-kept : goal.returns-clause-kept
returns-clause-kept g c =
    let two = keeps_then c.args.store.now c.asked.new.store c.narrowed.new.store c.asked.ensures.kept c.narrowed.ensures.kept in
    keeps_then c.args.store.now c.short_over.new.store c.asked-2.new.store (keeps_then c.args.store.now c.narrowed.new.store c.short_over.new.store two c.short_over.ensures.kept) c.asked-2.ensures.kept

pub returns-clause-closes : goal.returns-clause-closes
returns-clause-closes g c f inner over worked =
    let b = c.args.self.now in
    let m = tree c.asked.new.store c.in_ok-matrix.matrix in
    record {
      is = c.in_ok-asked.ensures.made.is;
      worked = block_closed b (tree c.args.store.now c.args.inner) m (tree c.short_over.new.store c.in-Ok.short) (tree c.asked-2.new.store c.in_ok-asked.field-0) c.in_ok-matrix.ensures.made.same
          (λ h w. (c.in-Ok.ensures.short h m c.in_ok-left.ensures.left.narrowed w).worked) c.in_ok-asked.ensures.made.same f inner over worked;
    }
