-- Two ids of nodes that stand once are equal where their trees are.
use Rattle.std.proofs.Common.{◌≡◌, ℕ, zero, suc, ◌<◌, List, get_or, slice_get, Some, length, ap, sym, ◌∙◌, arith}
use Rattle.std.proofs.lemmas.Option.{slice_get-get_or}
use Rattle.formula_tree.specs.declared.shape.Shape.{Shape}
use Rattle.formula_tree.specs.declared.shape.Shape.TheVariants as shape
use Rattle.formula_tree.specs.Shapes.{tree_over, AllIds}
use Rattle.formula_tree.proofs.Shapes.{all_ids_map}
use Rattle.formula_tree.proofs.Tells.{over_tells}
use Rattle.formula_tree.proofs.AtomsTell.{atoms_tell}
use Rattle.formula_store.specs.declared.id.FormulaId.{FormulaId}
use Rattle.formula_store.specs.Nodes.{tree, IsId, AreNodes}
use Rattle.formula_store.proofs.Trees.{node_tree}

-- the node of a place
node_at : (nodes : List (Shape FormulaId)) (i : ℕ) → i < length nodes → slice_get nodes i ≡ Some (get_or nodes i shape.True)
node_at nodes i h = slice_get-get_or nodes i shape.True h

-- one node is at both places
one_place : (nodes : List (Shape FormulaId)) (a : AreNodes nodes) (i j : ℕ) (n m : Shape FormulaId) → slice_get nodes i ≡ Some n → slice_get nodes j ≡ Some m → n ≡ m → i ≡ j
one_place nodes a i j n m e f s = a.once i j m (e ∙ ap Some s) f

pub tells_below : (nodes : List (Shape FormulaId)) → AreNodes nodes → (bound i j : ℕ) → i < bound → j < bound → i < length nodes → j < length nodes
    → tree nodes (record { number = i }) ≡ tree nodes (record { number = j }) → i ≡ j
tells_below nodes a zero i j hi hj li lj e = absurd (omega arith)
tells_below nodes a (suc bound) i j hi hj li lj e =
    let n = get_or nodes i shape.True in
    let m = get_or nodes j shape.True in
    let in_i = node_at nodes i li in
    let in_j = node_at nodes j lj in
    let trees_meet : tree_over (tree nodes) n ≡ tree_over (tree nodes) m = sym (node_tree nodes i n a in_i) ∙ e ∙ node_tree nodes j m a in_j in
    let first : AllIds (λ x. (y : FormulaId) → y.number < j → tree nodes x ≡ tree nodes y → x ≡ y) n =
    all_ids_map (λ id. id.number < i) (λ x. (y : FormulaId) → y.number < j → tree nodes x ≡ tree nodes y → x ≡ y)
    (λ x k y l d. let s : x.number ≡ y.number = tells_below nodes a bound x.number y.number (omega arith) (omega arith) (omega arith) (omega arith) d in λ t. record { number = s t }) n (a.below i n in_i) in
    one_place nodes a i j n m in_i in_j
    (over_tells (tree nodes) (λ y. y.number < j) atoms_tell n m (a.proper i n in_i) (a.proper j m in_j) first (a.below j m in_j) trees_meet)

-- two ids with one tree are one
pub same_tree : (nodes : List (Shape FormulaId)) → (x y : FormulaId) → IsId nodes x → IsId nodes y → tree nodes x ≡ tree nodes y → x ≡ y
same_tree nodes x y hx hy e =
    let s : x.number ≡ y.number = tells_below nodes hx.are (length nodes) x.number y.number hx.below hy.below hx.below hy.below e in λ t. record { number = s t }
