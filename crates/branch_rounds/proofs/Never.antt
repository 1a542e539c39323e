-- A block over a formula that is never true under the assumptions has no branches.
use Rattle.std.proofs.Common.{ℕ, List, [], ◌∷◌, map, arith}
use Rattle.logic_meaning.specs.Answer.{Place}
use Rattle.logic_meaning.specs.Context.{Context}
use Rattle.logic_meaning.specs.Formula.{No}
use Rattle.logic_meaning.specs.Point.{Point, move}
use Rattle.logic_meaning.specs.Some.{EachOf}
use Rattle.logic_meaning.specs.Tree.{Tree, TrueAt}
use Rattle.normal_atoms.specs.Atoms.{context_of, atom_of}
use Rattle.formula_tree.specs.declared.shape.Shape.{Shape}
use Rattle.formula_store.specs.declared.id.FormulaId.{FormulaId}
use Rattle.std.specs.Prelude.{nat_eq}
use Rattle.case_theory.specs.Block.{ex_all}
use Rattle.case_theory.specs.Under.{Lack}
use Rattle.case_theory.specs.Worked.{IsNeverUnder}
use Rattle.case_theory.proofs.Ends.{block_under}
use Rattle.branch_rounds.specs.declared.work.Work.{Work}
use Rattle.branch_rounds.specs.Branches.{AreBranchesOf}
use Rattle.branch_rounds.specs.Rounds.{IsLeftAlone}

-- no values make false true
nothing_there : (c : Context) (names : List ℕ) (p : Point ℕ) → TrueAt c (ex_all names No) p → ⊥
nothing_there c [] p u = u
nothing_there c (x ∷ names) p u = nothing_there c names (move nat_eq p x u.0 u.1) u.3

pub no_branches : (w : Work) (matrix : Tree) (block : List ℕ) (nodes : List (Shape FormulaId)) → EachOf (Lack (map atom_of w.assumed.now)) block → IsNeverUnder (context_of w.context) (map atom_of w.assumed.now) matrix →
    AreBranchesOf w matrix block nodes []
no_branches w matrix block nodes lack never =
    let c = context_of w.context in
    let ks = map atom_of w.assumed.now in
    record {
      are_open = tt;
      pending = record {
        meant = [];
        stand = tt;
        pending = record {
          lack = lack;
          each = tt;
          together = λ p o t. (λ u. nothing_there c block p ((block_under c ks block matrix No lack (λ q n k. (λ v. never q n k v, λ v. absurd v)) p o t).0 u), λ u. absurd u);
        };
      };
      ended = tt;
    }

pub none_alone : (c : Context) (x : ℕ) (s : Place) (f : Tree) (nodes : List (Shape FormulaId)) → IsLeftAlone c x s f nodes []
none_alone c x s f nodes = record { few = omega arith; no_larger = tt }
