-- Atoms may be brought to normal form before the quantifiers go in front.
use Rattle.std.proofs.Common.{◌≡◌, suc, max, [], ◌∷◌, refl, sym, ap, ap₂, ◌∙◌, if◌then◌else◌}
use Rattle.std.specs.Prelude.{nat_lt}
use Rattle.logic_meaning.specs.Formula.{Formula, Formulas, Yes, No, One, Not, And, Or, Impl, Repl, Equiv, Ex, All, none, also}
use Rattle.logic_meaning.specs.Replaced.{replaced, all_replaced}
use Rattle.logic_meaning.specs.Shape.{blocks_from, most_blocks}
use Rattle.logic_meaning.specs.Plain.{IsAtomic, IsNegationNormal, AreNegationNormal}
use Rattle.logic_meaning.specs.declared.quantifier.Quantifier.{Quantifier}
use Rattle.logic_meaning.specs.declared.quantifier.Quantifier.TheVariants.{Exists, ForAll}
use Rattle.logic_meaning.specs.Blocks.{in_first, joined_blocks, blocks, blocks_of, matrix, matrices}
use Rattle.logic_meaning.specs.Front.{prefixed, first_kind, in_front}
use Rattle.shape_theory.proofs.Shapes.{replaced_prefixed}

module _ {A N : Type 0} (by : A → Formula A N) (atomic : (a : A) → IsAtomic (by a)) where
  atomic_blocks : (f : Formula A N) → IsAtomic f → (q : Quantifier) → blocks f q ≡ []
  atomic_blocks Yes h q = refl
  atomic_blocks No h q = refl
  atomic_blocks (One a) h q = refl
  atomic_blocks (Not f) h q = absurd h
  atomic_blocks (And fs) h q = absurd h
  atomic_blocks (Or fs) h q = absurd h
  atomic_blocks (Impl f g) h q = absurd h
  atomic_blocks (Repl f g) h q = absurd h
  atomic_blocks (Equiv f g) h q = absurd h
  atomic_blocks (Ex x f) h q = absurd h
  atomic_blocks (All x f) h q = absurd h

  atomic_from : (f : Formula A N) → IsAtomic f → (q : Quantifier) → blocks_from f q ≡ 0
  atomic_from Yes h q = refl
  atomic_from No h q = refl
  atomic_from (One a) h q = refl
  atomic_from (Not f) h q = absurd h
  atomic_from (And fs) h q = absurd h
  atomic_from (Or fs) h q = absurd h
  atomic_from (Impl f g) h q = absurd h
  atomic_from (Repl f g) h q = absurd h
  atomic_from (Equiv f g) h q = absurd h
  atomic_from (Ex x f) h q = absurd h
  atomic_from (All x f) h q = absurd h

  atomic_matrix : (f : Formula A N) → IsAtomic f → matrix f ≡ f
  atomic_matrix Yes h = refl
  atomic_matrix No h = refl
  atomic_matrix (One a) h = refl
  atomic_matrix (Not f) h = absurd h
  atomic_matrix (And fs) h = absurd h
  atomic_matrix (Or fs) h = absurd h
  atomic_matrix (Impl f g) h = absurd h
  atomic_matrix (Repl f g) h = absurd h
  atomic_matrix (Equiv f g) h = absurd h
  atomic_matrix (Ex x f) h = absurd h
  atomic_matrix (All x f) h = absurd h

  mutual
    blocks_done : (f : Formula A N) (q : Quantifier) → blocks (replaced by (λ x. x) f) q ≡ blocks f q
    blocks_done Yes q = refl
    blocks_done No q = refl
    blocks_done (One a) q = atomic_blocks (by a) (atomic a) q
    blocks_done (Not f) q = refl
    blocks_done (And fs) q = all_blocks_done fs q
    blocks_done (Or fs) q = all_blocks_done fs q
    blocks_done (Impl f g) q = refl
    blocks_done (Repl f g) q = refl
    blocks_done (Equiv f g) q = refl
    blocks_done (Ex x f) Exists = ap (in_first x) (blocks_done f Exists)
    blocks_done (Ex x f) ForAll = ap (λ bs. [] ∷ in_first x bs) (blocks_done f Exists)
    blocks_done (All x f) Exists = ap (λ bs. [] ∷ in_first x bs) (blocks_done f ForAll)
    blocks_done (All x f) ForAll = ap (in_first x) (blocks_done f ForAll)

    all_blocks_done : (fs : Formulas A N) (q : Quantifier) → blocks_of (all_replaced by (λ x. x) fs) q ≡ blocks_of fs q
    all_blocks_done none q = refl
    all_blocks_done (also f fs) q = ap₂ joined_blocks (blocks_done f q) (all_blocks_done fs q)

  mutual
    from_done : (f : Formula A N) (q : Quantifier) → blocks_from (replaced by (λ x. x) f) q ≡ blocks_from f q
    from_done Yes q = refl
    from_done No q = refl
    from_done (One a) q = atomic_from (by a) (atomic a) q
    from_done (Not f) q = refl
    from_done (And fs) q = most_done fs q
    from_done (Or fs) q = most_done fs q
    from_done (Impl f g) q = refl
    from_done (Repl f g) q = refl
    from_done (Equiv f g) q = refl
    from_done (Ex x f) Exists = ap (max 1) (from_done f Exists)
    from_done (Ex x f) ForAll = ap (λ n. suc (max 1 n)) (from_done f Exists)
    from_done (All x f) Exists = ap (λ n. suc (max 1 n)) (from_done f ForAll)
    from_done (All x f) ForAll = ap (max 1) (from_done f ForAll)

    most_done : (fs : Formulas A N) (q : Quantifier) → most_blocks (all_replaced by (λ x. x) fs) q ≡ most_blocks fs q
    most_done none q = refl
    most_done (also f fs) q = ap₂ max (from_done f q) (most_done fs q)

  mutual
    matrix_done : (f : Formula A N) → IsNegationNormal f → matrix (replaced by (λ x. x) f) ≡ replaced by (λ x. x) (matrix f)
    matrix_done Yes n = refl
    matrix_done No n = refl
    matrix_done (One a) n = atomic_matrix (by a) (atomic a)
    matrix_done (Not f) n = absurd n
    matrix_done (And fs) n = ap And (matrices_done fs n)
    matrix_done (Or fs) n = ap Or (matrices_done fs n)
    matrix_done (Impl f g) n = absurd n
    matrix_done (Repl f g) n = absurd n
    matrix_done (Equiv f g) n = absurd n
    matrix_done (Ex x f) n = matrix_done f n
    matrix_done (All x f) n = matrix_done f n

    matrices_done : (fs : Formulas A N) → AreNegationNormal fs → matrices (all_replaced by (λ x. x) fs) ≡ all_replaced by (λ x. x) (matrices fs)
    matrices_done none n = refl
    matrices_done (also f fs) n = ap₂ also (matrix_done f n.0) (matrices_done fs n.1)

  -- the quantifiers go in front of a formula whose atoms are replaced as they do of the formula
  pub front_done : (f : Formula A N) → IsNegationNormal f → in_front (replaced by (λ x. x) f) ≡ replaced by (λ x. x) (in_front f)
  front_done f n =
      let k : first_kind (replaced by (λ x. x) f) ≡ first_kind f = ap₂ (λ a b. if nat_lt a b then ForAll else Exists) (from_done f ForAll) (from_done f Exists) in
      ap (λ q. prefixed q (blocks (replaced by (λ x. x) f) q) (matrix (replaced by (λ x. x) f))) k
      ∙ ap₂ (prefixed (first_kind f)) (blocks_done f (first_kind f)) (matrix_done f n)
      ∙ sym (replaced_prefixed by (first_kind f) (blocks f (first_kind f)) (matrix f))
