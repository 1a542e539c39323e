-- The trees of nodes.
use Rattle.std.proofs.Common.{◌≡◌, ℕ, zero, suc, ◌+◌, ◌<◌, List, [], ◌∷◌, ◌++◌, get_or, slice_get, Some, length, refl, ap, sym, ◌∙◌, subst, arith, length-append}
use Rattle.std.proofs.lemmas.List.{get_or_append_left}
use Rattle.std.proofs.Math.Seq.{get_or-append_seam}
use Rattle.logic_meaning.specs.Formula.{Yes}
use Rattle.logic_meaning.specs.Tree.{Tree}
use Rattle.formula_tree.specs.declared.shape.Shape.{Shape}
use Rattle.formula_tree.specs.Shapes.{tree_over, AllIds}
use Rattle.formula_tree.proofs.Shapes.{over_same, all_ids_map}
use Rattle.formula_store.specs.declared.id.FormulaId.{FormulaId}
use Rattle.formula_store.specs.Nodes.{at, trees_from, trees, tree, AreNodes}

-- one more node has its tree over the trees of those before it
pub trees_from-push : (before : List Tree) (ns : List (Shape FormulaId)) (n : Shape FormulaId)
    → trees_from before (ns ++ n ∷ []) ≡ trees_from before ns ++ tree_over (at (trees_from before ns)) n ∷ []
unfolding trees_from
trees_from-push before [] n = refl
trees_from-push before (m ∷ ns) n = trees_from-push (before ++ tree_over (at before) m ∷ []) ns n

-- the trees before come first
pub length-trees_from : (before : List Tree) (ns : List (Shape FormulaId)) → length (trees_from before ns) ≡ length before + length ns
unfolding trees_from
length-trees_from before [] = omega arith
length-trees_from before (n ∷ ns) =
    let h = length-trees_from (before ++ tree_over (at before) n ∷ []) ns in
    let k : length (before ++ tree_over (at before) n ∷ []) ≡ length before + 1 = simp length-append in
    omega arith

pub get_or-trees_from : (before : List Tree) (ns : List (Shape FormulaId)) (i : ℕ) → i < length before → get_or (trees_from before ns) i Yes ≡ get_or before i Yes
unfolding trees_from
get_or-trees_from before [] i h = refl
get_or-trees_from before (n ∷ ns) i h =
    let k : length (before ++ tree_over (at before) n ∷ []) ≡ length before + 1 = simp length-append in
    get_or-trees_from (before ++ tree_over (at before) n ∷ []) ns i (omega arith) ∙ get_or_append_left before (tree_over (at before) n ∷ []) Yes i h

-- a node's tree is the shape over the trees of its ids
pub node_tree_from : (before : List Tree) (ns : List (Shape FormulaId)) (i : ℕ) (n : Shape FormulaId) → slice_get ns i ≡ Some n → AllIds (λ id. id.number < length before + i) n
    → get_or (trees_from before ns) (length before + i) Yes ≡ tree_over (at (trees_from before ns)) n
unfolding trees_from
node_tree_from before [] i n e h = cc
node_tree_from before (m ∷ ns) zero n e h =
    let front : List Tree = before ++ tree_over (at before) m ∷ [] in
    let longer : length front ≡ length before + 1 = simp length-append in
    let same : m ≡ n = cc in
    let start : get_or (trees_from front ns) (length before + 0) Yes ≡ get_or front (length before + 0) Yes = get_or-trees_from front ns (length before + 0) (omega arith) in
    let none : length before + 0 ≡ length before = omega arith in
    let put : get_or front (length before + 0) Yes ≡ tree_over (at before) m = ap (λ k. get_or front k Yes) none ∙ get_or-append_seam before (tree_over (at before) m) [] Yes in
    let ids : AllIds (λ id. at before id ≡ at (trees_from front ns) id) n =
    all_ids_map (λ id. id.number < length before + 0) (λ id. at before id ≡ at (trees_from front ns) id)
    (λ id k. sym (get_or-trees_from front ns id.number (omega arith) ∙ get_or_append_left before (tree_over (at before) m ∷ []) Yes id.number (omega arith))) n h in
    start ∙ put ∙ ap (tree_over (at before)) same ∙ over_same (at before) (at (trees_from front ns)) n ids
node_tree_from before (m ∷ ns) (suc i) n e h =
    let front : List Tree = before ++ tree_over (at before) m ∷ [] in
    let longer : length front ≡ length before + 1 = simp length-append in
    let moved : length front + i ≡ length before + suc i = omega arith in
    subst (λ k. get_or (trees_from front ns) k Yes ≡ tree_over (at (trees_from front ns)) n) moved
    (node_tree_from front ns i n e (all_ids_map (λ id. id.number < length before + suc i) (λ id. id.number < length front + i) (λ id k. omega arith) n h))

-- the same of nodes, where the ids of this one are those of nodes before it
pub node_tree_below : (nodes : List (Shape FormulaId)) (i : ℕ) (n : Shape FormulaId) → AllIds (λ id. id.number < i) n → slice_get nodes i ≡ Some n → tree nodes (record { number = i }) ≡ tree_over (tree nodes) n
node_tree_below nodes i n b e =
    let z : 0 + i ≡ i = omega arith in
    subst (λ k. get_or (trees nodes) k Yes ≡ tree_over (tree nodes) n) z
    (node_tree_from [] nodes i n e (all_ids_map (λ id. id.number < i) (λ id. id.number < 0 + i) (λ id k. omega arith) n b))

pub node_tree : (nodes : List (Shape FormulaId)) (i : ℕ) (n : Shape FormulaId) → AreNodes nodes → slice_get nodes i ≡ Some n → tree nodes (record { number = i }) ≡ tree_over (tree nodes) n
node_tree nodes i n a e = node_tree_below nodes i n (a.below i n e) e

pub length-trees : (nodes : List (Shape FormulaId)) → length (trees nodes) ≡ length nodes
length-trees nodes = let h = length-trees_from [] nodes in omega arith

trees_from-append : (before : List Tree) (xs ys : List (Shape FormulaId)) → trees_from before (xs ++ ys) ≡ trees_from (trees_from before xs) ys
unfolding trees_from
trees_from-append before [] ys = refl
trees_from-append before (n ∷ xs) ys = trees_from-append (before ++ tree_over (at before) n ∷ []) xs ys

-- nodes that follow leave the trees of the others
pub tree_front : (nodes more : List (Shape FormulaId)) (id : FormulaId) → id.number < length nodes → tree (nodes ++ more) id ≡ tree nodes id
tree_front nodes more id h =
    let n = length-trees nodes in
    ap (λ ts. at ts id) (trees_from-append [] nodes more) ∙ get_or-trees_from (trees nodes) more id.number (omega arith)
