-- What each branch has, as a round goes on.
use Rattle.std.proofs.Common.{◌≡◌, ℕ, suc, ◌<◌, ◌+◌, List, [], ◌∷◌, map, length, drop, sym, subst, refl, arith, ⊎_elim, length-drop}
use Rattle.formula_laws.specs.StandsOnce.{StandsOnce}
use Rattle.logic_meaning.specs.Some.{EachOf}
use Rattle.elimination_theory.proofs.SomeListed.{each_append}
use Rattle.elimination_theory.specs.Theorems.{IsTidy}
use Rattle.normal_atoms.specs.Atoms.{context_of, atom_of}
use Rattle.case_theory.specs.Under.{Lack}
use Rattle.case_theory.specs.Pending.{begun}
use Rattle.case_theory.proofs.Pending.{pending_begins}
use Rattle.logic_meaning.specs.declared.form.VarId.{VarId}
use Rattle.formula_tree.specs.declared.shape.Shape.{Shape}
use Rattle.formula_store.specs.declared.id.FormulaId.{FormulaId}
use Rattle.formula_store.specs.Nodes.{tree, IsId}
use Rattle.branch_rounds.specs.declared.work.Work.{Work}
use Rattle.branch_rounds.specs.Branches.{Seen, IsOpen, ArePendingOf, numbers}
use Rattle.branch_rounds.specs.Rounds.{HaveFewer, IsSpreadOver}

pub each_is : (w : Work) (nodes : List (Shape FormulaId)) (bs : List Seen) → EachOf (IsOpen w nodes) bs → EachOf (λ (b : Seen). IsId nodes b.formula) bs
each_is w nodes [] h = tt
each_is w nodes (b ∷ bs) h = (h.0.is, each_is w nodes bs h.1)

-- what those that are made and those that come have, all have
pub spread_each : (P : Seen → Type 0) (made bs new : List Seen) → EachOf P made → EachOf P bs → IsSpreadOver made bs new → EachOf P new
spread_each P made [] new h k s = subst (EachOf P) (sym s) h
spread_each P made (b ∷ bs) new h k s =
    spread_each P s.0 bs new (⊎_elim (λ e. subst (EachOf P) (sym e) (each_append P made (b ∷ []) h (k.0, tt))) (λ e. subst (EachOf P) (sym e.0) h) s.1) k.1 s.2

pub all_fewer_by : (left : List VarId) (n : ℕ) → length left ≡ suc n → (bs : List Seen) → HaveFewer left bs → EachOf (λ (b : Seen). length b.left ≡ n) bs
all_fewer_by left n e [] h = tt
all_fewer_by left n e (b ∷ bs) h = (omega (arith, e, h.0), all_fewer_by left n e bs h.1)

-- n + 1 names are some
pub all_some : (n : ℕ) (bs : List Seen) → EachOf (λ (b : Seen). length b.left ≡ suc n) bs → EachOf (λ (b : Seen). 0 < length b.left) bs
all_some n [] h = tt
all_some n (b ∷ bs) h = (omega (arith, h.0), all_some n bs h.1)

-- no name is left
pub all_ended : (bs : List Seen) → EachOf (λ (b : Seen). length b.left ≡ 0) bs → EachOf (λ (b : Seen). b.left ≡ []) bs
all_ended [] h = tt
all_ended (b ∷ bs) h = (none b.left h.0, all_ended bs h.1)
  where
    none : (names : List VarId) → length names ≡ 0 → names ≡ []
    none [] e = refl
    none (y ∷ names) e = absurd (omega (arith, e))

-- the matrix as the only branch stands for the block
pub begun_pending : (w : Work) (nodes : List (Shape FormulaId)) (matrix : FormulaId) (block : List VarId) → IsTidy (context_of w.context) (tree nodes matrix) → EachOf (Lack (map atom_of w.assumed.now)) (numbers block) → StandsOnce (numbers block) →
    ArePendingOf w (tree nodes matrix) (numbers block) nodes (record { formula = matrix; points = []; left = block } ∷ [])
begun_pending w nodes matrix block tidy lack once = record {
  meant = begun (tree nodes matrix) (numbers block) ∷ [];
  stand = (record { formula = refl; answers = refl; left = refl }, tt);
  pending = pending_begins (context_of w.context) (map atom_of w.assumed.now) (tree nodes matrix) (numbers block) tidy lack once;
}

-- one name less is to come
pub one_less : {X : Type 0} (xs : List X) (i : ℕ) → i < length xs → length (drop i xs) ≡ suc (length (drop (i + 1) xs))
one_less xs i lt = let a = length-drop i xs in let b = length-drop (i + 1) xs in omega (arith, a, b, lt)
