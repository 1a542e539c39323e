use Rattle.std.proofs.Common.{rules, ◌≡◌, map, ap, sym, ◌∙◌, subst}
use Rattle.logic_meaning.specs.Some.{EachOf}
use Rattle.normal_atoms.specs.Atoms.{context_of, atom_of}
use Rattle.formula_store.specs.Nodes.{IsId, tree}
use Rattle.branch_pruning.specs.Pruned.{AreCovering}
use Rattle.branch_rounds.specs.Branches.{Seen}
use Rattle.branch_rounds.proofs.Thinned.{each_formula, trees_of}
use Rattle.branch_rounds.proofs.work.Work.thinned.Goals as goal

pub uncovered-requires-clause-ids : goal.uncovered-requires-clause-ids
uncovered-requires-clause-ids c =
    let formulas : c.deref-2.result.now ≡ map (λ (b : Seen). b.formula) c.args.branches.items = search rules in
    subst (EachOf (IsId c.args.store.now)) (sym formulas) (each_formula c.args.store.now c.args.branches.items c.requires.ids)

pub returns : goal.returns
returns c =
    let formulas : c.deref-2.result.now ≡ map (λ (b : Seen). b.formula) c.args.branches.items = search rules in
    let trees = ap (map (tree c.args.store.now)) formulas ∙ trees_of c.args.store.now c.args.branches.items in
    record {
      thinned = record {
        marks = c.in_ok-marks.marks.items;
        is = search rules;
        cover = subst (λ ts. AreCovering (context_of c.args.self.now.context) (map atom_of c.args.self.now.assumed.now) ts c.in_ok-marks.marks.items) trees c.in_ok-marks.ensures.cover;
      };
    }
