use Rattle.std.proofs.Common.{◌≡◌, take}
use Rattle.std.specs.List.{AllByRecursion}
use Rattle.formula_tree.specs.Makers.{Keeps}
use Rattle.formula_store.specs.Nodes.{tree, IsId, Front}
use Rattle.virtual_subst.specs.Shared.{made_of}
use Rattle.virtual_subst.proofs.Copied.{IsCopied}
use Rattle.virtual_subst.proofs.Noted.{IsBehind}
use Rattle.virtual_subst.proofs.putting.put_in.Given as goal

-- what the table has for the formulas so far stands for them at the point
abbrev pub invariant-loop-id : goal.invariant-loop-id
invariant-loop-id g l =
    let old = g.M.Formulas.nodes l.fn.formulas in
    let now = g.M.Formulas.nodes l.formulas in
    record {
      held : AllByRecursion (λ id. IsCopied l.fn.at.context l.fn.at.point.now now id (made_of l.table.items id)) (take l.id-index l.ids);
      behind : IsBehind l.table.items l.ids l.id-index;
      kept : Keeps (IsId old) (tree old) (IsId now) (tree now);
      front : Front old now;
      base : g.M.Formulas.base l.formulas ≡ g.M.Formulas.base l.fn.formulas;
    }
