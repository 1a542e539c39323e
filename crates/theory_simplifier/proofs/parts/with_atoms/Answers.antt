use Rattle.std.proofs.Common.{[], map, ◌∙◌, arith}
use Rattle.logic_meaning.specs.Formula.{none}
use Rattle.normal_atoms.specs.Atoms.{context_of}
use Rattle.normal_atoms.specs.Computed.{IsNormalWithin}
use Rattle.shape_theory.specs.AtomKit.{atom_kit}
use Rattle.shape_theory.specs.Pass.{Open, with_atom_first}
use Rattle.formula_store.specs.Nodes.{tree}
use Rattle.theory_simplifier.specs.Known.{known_atoms}
use Rattle.theory_simplifier.proofs.Members.{through_atoms, through_next, through_all, orderly_at}
use Rattle.theory_simplifier.proofs.parts.with_atoms.Goals as goal

pub with_atom_first-requires-clause-formula : goal.with_atom_first-requires-clause-formula
with_atom_first-requires-clause-formula c = orderly_at (IsNormalWithin (context_of c.args.context)) (tree c.args.store.now) c.args.ids.now c.loop-id.id-index _ c.loop-id-test.true c.requires.formulas

pub loop-id-preserved : goal.loop-id-preserved
loop-id-preserved c =
    record {
      list = c.in_ok-parts.ensures.list;
      ids = c.in_ok-parts.ensures.ids;
      so_far = through_next (with_atom_first (atom_kit (context_of c.args.context)) c.args.junction (known_atoms c.args.known.now)) (tree c.args.store.now) c.args.ids.now c.loop-id.id-index (record { number = 0 }) (Open [] none) _ _
          c.loop-id-test.true c.in_ok-parts.ensures.with c.loop-id.invariant.so_far;
    }

pub returns-clause-with : goal.returns-clause-with
returns-clause-with c =
    let o = context_of c.args.context in
    let j = c.args.junction in
    let ks = known_atoms c.args.known.now in
    let t = tree c.args.store.now in
    c.loop-id.invariant.so_far ∙ through_all (with_atom_first (atom_kit o) j ks) t c.args.ids.now c.loop-id.id-index (Open [] none) (omega arith)
    ∙ through_atoms o j ks (map t c.args.ids.now) (Open [] none)
