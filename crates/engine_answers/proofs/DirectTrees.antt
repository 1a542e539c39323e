-- The branches of a direct formula, as the cases of a case tree.
use Rattle.std.proofs.Common.{◌≡◌, ℕ, ◌≤◌, ◌+◌, ◌*◌, List, [], ◌∷◌, length, map, refl, ap, sym, ◌∙◌, subst, arith}
use Rattle.std.proofs.lemmas.List.{length-map}
use Rattle.logic_meaning.specs.Answer.{Place}
use Rattle.logic_meaning.specs.Context as meaning
use Rattle.logic_meaning.specs.Context.{Fields}
use Rattle.logic_meaning.specs.Every.{Every}
use Rattle.logic_meaning.specs.Fold.{folded}
use Rattle.logic_meaning.specs.Formula.{And}
use Rattle.logic_meaning.specs.Shape.{IsQuantifierFree}
use Rattle.logic_meaning.specs.Plain.{IsPlain}
use Rattle.logic_meaning.specs.Sizes.{nodes}
use Rattle.logic_meaning.specs.Some.{EachOf}
use Rattle.logic_meaning.specs.Tree.{Tree, Trees}
use Rattle.logic_meaning.specs.BothTheories.{IsPlaceIn}
use Rattle.logic_meaning.specs.Steps.{result_at}
use Rattle.elimination_theory.proofs.BothSubstitutions.{place_in}
use Rattle.normal_atoms.specs.Atoms.{context_of}
use Rattle.logic_meaning.specs.NormalForm.{IsNormal, normal_atom}
use Rattle.logic_meaning.specs.Cases.{case_matrix}
use Rattle.logic_meaning.specs.Reference.{normal_tree}
use Rattle.elimination_theory.proofs.Sound.{normal_normal_tree}
use Rattle.elimination_theory.proofs.Turning.{normal_inside}
use Rattle.normal_atoms.specs.declared.atoms.Context.TheVariants as code
use Rattle.logic_meaning.specs.declared.form.VarId.{VarId}
use Rattle.formula_tree.specs.declared.shape.Shape.{Shape}
use Rattle.formula_store.specs.declared.id.FormulaId.{FormulaId}
use Rattle.formula_store.specs.Nodes.{tree}
use Rattle.test_points.specs.declared.points.TestPoint.{TestPoint}
use Rattle.logic_meaning.specs.Direct.{IsDirect, direct_answer, first_equation}
use Rattle.logic_meaning.specs.Roots.{IsRoot}
use Rattle.case_theory.proofs.Points.{root_point}
use Rattle.case_theory.proofs.Simplified.{plain_free}
use Rattle.branch_rounds.specs.FromBranchPoints.{conjuncts}
use Rattle.branch_rounds.proofs.FromBranchPoints.{conjunct_is}
use Rattle.nnf_trees.specs.Placed.{all_within}
use Rattle.engine_answers.specs.declared.block.LeadingBlock.{LeadingBlock}
use Rattle.engine_answers.specs.Blocks.{IsLeadingBlock}
use Rattle.branch_rounds.specs.Branches.{Seen, numbers}
use Rattle.branch_rounds.specs.Rounds.{IsDirectAt, IsLeftAlone}
use Rattle.engine_answers.specs.declared.case_tree.Case.{Case}
use Rattle.engine_answers.specs.declared.case_tree.CaseTree.{CaseTree}
use Rattle.engine_answers.specs.declared.task.Task.{Task}
use Rattle.shape_theory.specs.Texts.{IsNoLarger}
use Rattle.engine_answers.specs.Direct.{IsDirectTree}
use Rattle.engine_answers.specs.Listed.{told_case, told_branch}
use Rattle.engine_answers.proofs.DirectForms.{matrix_is, names_are, atoms_plain, folded_nodes, folded_equation, folded_within, folded_answer}

-- ---- the formula

module _ (limit : ℕ) (f : Tree) (x : ℕ) (fs : Trees) (s : Place) (d : IsDirect limit (normal_tree f) x fs s) (n : Every (IsNormal Fields) f) where
  normal : Every (IsNormal Fields) (normal_tree f)
  normal = normal_normal_tree Fields limit f n

  matrix_normal : Every (IsNormal Fields) (And fs)
  matrix_normal = subst (Every (IsNormal Fields)) d.is normal

  root_in : IsPlaceIn Fields s
  root_in =
      let e = d.equation in
      place_in Fields x s (And fs) (root_point Fields x (And fs) e.0 s (atoms_plain fs d.atoms) (normal_inside Fields (And fs) matrix_normal) (conjunct_is x (And fs) e.0 e.1) e.2).each.0.suits

  -- the matrix with the name at the root is the direct answer
  pub matrix_answer : (y : ℕ) (matrix : Tree) → y ≡ x → matrix ≡ folded (And fs) → result_at Fields (normal_atom Fields) y s matrix ≡ direct_answer x fs s
  matrix_answer y matrix e i =
      ap (λ z. result_at Fields (normal_atom Fields) z s matrix) e ∙ ap (result_at Fields (normal_atom Fields) x s) i ∙ folded_answer x s fs root_in matrix_normal d.atoms

  -- its matrix is one into which one point goes
  pub matrix_plain : IsPlain (case_matrix f)
  matrix_plain = subst IsPlain (sym (matrix_is f x fs d.is)) (atoms_plain fs d.atoms)

  pub matrix_few : nodes (case_matrix f) + 1 ≤ limit
  matrix_few = let same = ap nodes (matrix_is f x fs d.is) in let whole = ap nodes d.is in let few = d.few in omega (arith, same, whole, few)

  pub matrix_direct : (names : List VarId) (y : VarId) (matrix : Tree) → names ≡ y ∷ [] → y.number ≡ x → matrix ≡ folded (And fs) → IsDirectAt Fields (2 * limit + 8) matrix names y s
  matrix_direct names y matrix e i k =
      let q = d.equation in
      let place : y.number ≡ x = i in
      let few = d.few in
      let whole = ap nodes d.is in
      let less = folded_nodes fs d.atoms in
      let same = ap nodes k in
      record {
        alone = e;
        equation = (
          q.0,
          ap (first_equation y.number) (ap conjuncts k) ∙ ap (λ z. first_equation z (conjuncts (folded (And fs)))) i ∙ folded_equation x fs q.0 d.atoms q.1,
          subst (λ z. IsRoot Fields z q.0 s) (sym i) q.2,
        );
        within = ap (all_within Fields y.number s) k ∙ ap (λ z. all_within Fields z s (folded (And fs))) i ∙ folded_within x s fs q.0 d.atoms q.2 d.within;
        paid = omega (arith, few, whole, less, same);
      }

-- and so with more nodes left
pub direct_with_more : (c : meaning.Context) (m n : ℕ) (f : Tree) (names : List VarId) (x : VarId) (s : Place) → m ≤ n → IsDirectAt c m f names x s → IsDirectAt c n f names x s
direct_with_more c m n f names x s more d =
    let paid = d.paid in
    record { alone = d.alone; equation = d.equation; within = d.within; paid = omega (arith, more, paid) }

-- one name alone
pub record IsOneName (names : List VarId) (x : ℕ) : Type 0 where
  pub name : VarId
  pub alone : names ≡ name ∷ []
  pub number : name.number ≡ x

pub one_name : (names : List VarId) (x : ℕ) → numbers names ≡ x ∷ [] → IsOneName names x
one_name [] x e = cc
one_name (y ∷ []) x e = record { name = y; alone = refl; number = cc }
one_name (y ∷ z ∷ names) x e = cc

-- ---- the cases

each_case : (nodes : List (Shape FormulaId)) (P : Tree → Type 0) (ks : List Case) (bs : List Seen) → map told_case ks ≡ map told_branch bs → EachOf (λ (b : Seen). P (tree nodes b.formula)) bs → EachOf (λ (k : Case). P (tree nodes k.guard)) ks
each_case nodes P [] bs e h = tt
each_case nodes P (k ∷ ks) [] e h = cc
each_case nodes P (k ∷ ks) (b ∷ bs) e h =
    let first : told_case k ≡ told_branch b = (cc) in
    let rest : map told_case ks ≡ map told_branch bs = (cc) in
    let guard : k.guard ≡ b.formula = ap (λ (q : FormulaId × List TestPoint). q.0) first in
    (subst (λ i. P (tree nodes i)) (sym guard) h.0, each_case nodes P ks bs rest h.1)

-- they are those of a direct formula where the one branch is what is left at the root
pub direct_tree : (x : ℕ) (fs : Trees) (s : Place) (y : ℕ) (matrix : Tree) (nodes : List (Shape FormulaId)) (bs : List Seen) (t : CaseTree) → result_at Fields (normal_atom Fields) y s matrix ≡ direct_answer x fs s →
    IsLeftAlone Fields y s matrix nodes bs → map told_case t.cases.items ≡ map told_branch bs → IsDirectTree x fs s nodes t
direct_tree x fs s y matrix nodes bs t same_answer left told =
    let one = left.few in
    let many = length-map t.cases.items told_case in
    let as_many = length-map bs told_branch in
    let same = ap length told in
    record {
      few = omega (arith, one, many, as_many, same);
      guards = each_case nodes (IsNoLarger (direct_answer x fs s)) t.cases.items bs told
          (subst (λ g. EachOf (λ (b : Seen). IsNoLarger g (tree nodes b.formula)) bs) same_answer left.no_larger);
    }

-- ---- the block of a direct formula

module _ (t : Task) (f : Tree) (n : Every (IsNormal (context_of t.context)) f) (x : ℕ) (fs : Trees) (s : Place) (e : t.context ≡ code.Fields) (d : IsDirect t.limits.nodes (normal_tree f) x fs s)
    (one : List (Shape FormulaId)) (block : LeadingBlock) (b : IsLeadingBlock f one block) where
  over : context_of t.context ≡ Fields
  over = ap context_of e

  field_normal : Every (IsNormal Fields) f
  field_normal = subst (λ k. Every (IsNormal k) f) over n

  name : IsOneName block.names.items x
  name = one_name block.names.items x (b.names ∙ names_are f x fs d.is)

  pub block_name : VarId
  block_name = name.name

  -- its matrix has no quantifiers, and few nodes
  pub block_free : IsQuantifierFree (tree one block.matrix)
  block_free = plain_free Fields (tree one block.matrix) (subst IsPlain (sym b.matrix.same) (matrix_plain t.limits.nodes f x fs s d field_normal))

  pub block_few : nodes (tree one block.matrix) + length block.names.items ≤ t.limits.nodes
  block_few =
      let few = subst (λ g. nodes g + 1 ≤ t.limits.nodes) (sym b.matrix.same) (matrix_few t.limits.nodes f x fs s d field_normal) in
      let one_alone = ap length name.alone in
      omega (arith, few, one_alone)

  module _ (two : List (Shape FormulaId)) (m : FormulaId) (worked : tree two m ≡ folded (tree one block.matrix)) where
    matrix_same : tree one block.matrix ≡ And fs
    matrix_same = b.matrix.same ∙ matrix_is f x fs d.is

    folded_same : tree two m ≡ folded (And fs)
    folded_same = worked ∙ ap folded matrix_same

    -- one point goes into it
    pub block_direct : IsDirectAt (context_of t.context) (2 * t.limits.nodes + 8) (tree two m) block.names.items block_name s
    unfolding block_name
    block_direct =
        subst (λ k. IsDirectAt k (2 * t.limits.nodes + 8) (tree two m) block.names.items name.name s) (sym over)
        (matrix_direct t.limits.nodes f x fs s d field_normal block.names.items name.name (tree two m) name.alone name.number folded_same)

    -- and its cases are those of a direct formula
    pub block_tree : (nodes : List (Shape FormulaId)) (bs : List Seen) (tree_of : CaseTree) → IsLeftAlone (context_of t.context) block_name.number s (tree two m) nodes bs →
        map told_case tree_of.cases.items ≡ map told_branch bs → IsDirectTree x fs s nodes tree_of
    unfolding block_name
    block_tree nodes bs tree_of left told =
        direct_tree x fs s name.name.number (tree two m) nodes bs tree_of
        (matrix_answer t.limits.nodes f x fs s d field_normal name.name.number (tree two m) name.number folded_same)
        (subst (λ k. IsLeftAlone k name.name.number s (tree two m) nodes bs) over left) told
