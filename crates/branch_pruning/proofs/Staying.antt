-- What is cut while the assumptions stay.
use Rattle.std.proofs.Common.{◌≡◌, List, sym, subst, ◌∙◌, arith}
use Rattle.std.specs.Prelude.{OnOk}
use Rattle.std.specs.declared.result.Result.{Result}
use Rattle.std.specs.declared.result.Result.TheVariants.{Ok, Err}
use Rattle.logic_meaning.specs.Context.{Context}
use Rattle.logic_meaning.specs.Tree.{Tree}
use Rattle.normal_atoms.specs.Atoms.{context_of}
use Rattle.formula_tree.specs.declared.shape.Shape.{Shape}
use Rattle.formula_tree.specs.Makers.{IsMade}
use Rattle.formula_store.specs.declared.id.FormulaId.{FormulaId}
use Rattle.formula_store.specs.Nodes.{tree, IsId}
use Rattle.atom_pruning.specs.declared.rows.AtomRows.{AtomRows}
use Rattle.atom_pruning.specs.Rows.{AreRows}
use Rattle.branch_pruning.specs.declared.cutting.Cutter.{Cutter}
use Rattle.branch_pruning.specs.Cuts.{IsIn, AreOfAtoms, StaysAt}

pub stays_then : (a b c : Cutter) → StaysAt a b → StaysAt b c → StaysAt a c
stays_then a b c h k = record { context = k.context ∙ h.context; assumed = k.assumed ∙ h.assumed; effort = let i = h.effort in let j = k.effort in omega arith }

-- the rows are still those of some atoms
pub stays_atoms : (old new : Cutter) → StaysAt old new → AreOfAtoms (context_of old.context) old.assumed.items → AreOfAtoms (context_of new.context) new.assumed.items
stays_atoms old new s h = record {
  atoms = h.atoms;
  are = subst (λ c. AreRows (context_of c) h.atoms new.assumed.items) (sym s.context) (subst (AreRows (context_of old.context) h.atoms) (sym s.assumed) h.are);
}

-- what was cut afterwards is cut under the same
pub stays_cut : (R : Context → List AtomRows → Tree → Tree → Type 0) (old new : Cutter) → StaysAt old new → (f g : Tree) (nodes : List (Shape FormulaId)) (id : FormulaId) → f ≡ g → IsIn (R (context_of new.context) new.assumed.items) f nodes id →
    IsIn (R (context_of old.context) old.assumed.items) g nodes id
stays_cut R old new s f g nodes id e h =
    subst (λ c. IsIn (R (context_of c) old.assumed.items) g nodes id) s.context (subst (λ rows. IsIn (R (context_of new.context) rows) g nodes id) s.assumed (subst (λ k. IsIn (R (context_of new.context) new.assumed.items) k nodes id) e h))

-- a formula that is made
pub made_in : (R : Tree → Tree → Type 0) (f g : Tree) (nodes : List (Shape FormulaId)) (id : FormulaId) → IsMade (IsId nodes) (tree nodes) id g → R f g → IsIn R f nodes id
made_in R f g nodes id m h = record { is = m.is; to = subst (R f) (sym m.same) h }

pub on_ok_map : {X E P Q : Type 0} (r : Result X E) → (P → Q) → OnOk r P → OnOk r Q
on_ok_map (Ok x) k h = k h
on_ok_map (Err e) k h = tt
