use Rattle.std.proofs.Common.{sym, ◌∙◌, arith}
use Rattle.shape_theory.specs.AtomKit.{atom_kit}
use Rattle.formula_store.specs.Nodes.{tree, IsId}
use Rattle.formula_store.proofs.Marked.{all_at}
use Rattle.theory_simplifier.proofs.FreeMembers.{nodes_at, none_more, some_here}
use Rattle.theory_simplifier.proofs.free.+free.Goals as goal

pub is_free_in_some-is_free-requires : goal.is_free_in_some-is_free-requires
is_free_in_some-is_free-requires t c =
    let few = nodes_at (tree c.args.store.now) c.args.ids.now c.loop-id.id-index (record { number = 0 }) c.loop-id-test.true in
    (omega arith, all_at (IsId c.args.store.now) c.args.ids.now c.loop-id.id-index (record { number = 0 }) c.loop-id-test.true c.requires)

pub is_free_in_some-returns-then-is_free : goal.is_free_in_some-returns-then-is_free
is_free_in_some-returns-then-is_free t c o =
    some_here (tree c.args.store.now) (atom_kit o) c.args.x.number c.args.ids.now c.loop-id.id-index (record { number = 0 }) c.loop-id-test.true (sym (c.is_free.ensures o) ∙ c.if-is_free.true)

pub is_free_in_some-loop-id-preserved : goal.is_free_in_some-loop-id-preserved
is_free_in_some-loop-id-preserved t c o =
    none_more (tree c.args.store.now) (atom_kit o) c.args.x.number c.args.ids.now c.loop-id.id-index (record { number = 0 }) c.loop-id-test.true (c.loop-id.invariant o) (sym (c.is_free.ensures o) ∙ c.if-is_free.false)
