use Rattle.std.proofs.Common.{◌≡◌, ◌++◌, List, map, sym, ap, subst, ◌∙◌}
use Rattle.std.specs.Prelude.{IfOk}
use Rattle.std.specs.List.{AllByRecursion}
use Rattle.logic_meaning.specs.Fold.{fold_list}
use Rattle.logic_meaning.specs.declared.junction.Junction.TheVariants.{Conjunction as And}
use Rattle.logic_meaning.specs.Tree.{Trees}
use Rattle.normal_atoms.specs.declared.atoms.Atom.{Atom}
use Rattle.normal_atoms.specs.Atoms.{atom_of}
use Rattle.formula_tree.specs.Makers.{IsMade}
use Rattle.formula_tree.specs.Trees.{members}
use Rattle.formula_store.specs.declared.id.FormulaId.{FormulaId}
use Rattle.formula_store.specs.Nodes.{tree, IsId}
use Rattle.formula_store.proofs.Makes.{keeps_then}
use Rattle.narrowed_blocks.specs.Narrowing.{listed}
use Rattle.narrowed_blocks.proofs.Lasts.{all_made, members_listed}
use Rattle.narrowed_blocks.proofs.conjunction.joined.Goals as goal

pub fold-requires : goal.fold-requires
fold-requires c =
    let b = c.made.new.store in
    let others : List FormulaId = c.args.others.now in
    let path : c.deref.result.now ≡ c.in_ok-ids.ids.items ++ others = c.deref.ensures.value ∙ c.in_ok-extend_from_slice.ensures.items in
    subst (λ (l : List FormulaId). AllByRecursion (IsId b) l) (sym path) (all_made c.args.store.now b c.in_ok-ids.ensures.kept c.args.atoms.items c.in_ok-ids.ids.items others c.in_ok-ids.ensures.made c.requires.others).are

pub returns-clause-made : goal.returns-clause-made
returns-clause-made c =
    let a = c.args.store.now in
    let b = c.made.new.store in
    let n = c.fold.new.formulas in
    let others : List FormulaId = c.args.others.now in
    let atoms : List Atom = c.args.atoms.items in
    let path : c.deref.result.now ≡ c.in_ok-ids.ids.items ++ others = c.deref.ensures.value ∙ c.in_ok-extend_from_slice.ensures.items in
    let same : members (map (tree b) c.deref.result.now) ≡ listed (map atom_of atoms) (members (map (tree a) others)) =
    ap (λ (l : List FormulaId). members (map (tree b) l)) path ∙ ap members (all_made a b c.in_ok-ids.ensures.kept atoms c.in_ok-ids.ids.items others c.in_ok-ids.ensures.made c.requires.others).same ∙ members_listed atoms (map (tree a) others) in
    subst (λ (fs : Trees). IfOk c.fold.result (λ (r : FormulaId). IsMade (IsId n) (tree n) r (fold_list And fs))) same c.fold.ensures.made

pub returns-clause-kept : goal.returns-clause-kept
returns-clause-kept c = keeps_then c.args.store.now c.made.new.store c.fold.new.formulas c.in_ok-ids.ensures.kept c.fold.ensures.kept
