-- The shape of a formula with its quantifiers in front, where its atoms are replaced.
use Rattle.std.proofs.Common.{◌≡◌, suc, List, [], ◌∷◌, length, ap, ap₂, ◌∙◌, refl}
use Rattle.logic_meaning.specs.Formula.{Formula, Formulas, Yes, No, One, Not, And, Or, Impl, Repl, Equiv, Ex, All, none, also}
use Rattle.logic_meaning.specs.Every.{Every, EveryOf, EveryBound, EveryBoundOf}
use Rattle.logic_meaning.specs.Some.{EachOf}
use Rattle.logic_meaning.specs.Replaced.{replaced, all_replaced}
use Rattle.logic_meaning.specs.Shape.{IsQuantifierFree, AreQuantifierFree, IsPrenex}
use Rattle.logic_meaning.specs.Plain.{IsNegationNormal, AreNegationNormal, IsPlain, ArePlain, IsAtomic}
use Rattle.logic_meaning.specs.declared.quantifier.Quantifier.{Quantifier}
use Rattle.logic_meaning.specs.declared.quantifier.Quantifier.TheVariants.{Exists, ForAll}
use Rattle.logic_meaning.specs.Blocks.{other_kind, blocks, matrix, matrices, later_blocks, block_count}
use Rattle.logic_meaning.specs.Front.{block, prefixed}
use Rattle.shape_theory.proofs.Blocks.{IsFilled, AreFilled}

module _ {A N : Type 0} where
  mutual
    -- a matrix is plain
    pub matrix_plain : (f : Formula A N) → IsNegationNormal f → IsPlain (matrix f)
    matrix_plain Yes n = n
    matrix_plain No n = n
    matrix_plain (One a) n = n
    matrix_plain (Not f) n = n
    matrix_plain (And fs) n = matrices_plain fs n
    matrix_plain (Or fs) n = matrices_plain fs n
    matrix_plain (Impl f g) n = n
    matrix_plain (Repl f g) n = n
    matrix_plain (Equiv f g) n = n
    matrix_plain (Ex x f) n = matrix_plain f n
    matrix_plain (All x f) n = matrix_plain f n

    matrices_plain : (fs : Formulas A N) → AreNegationNormal fs → ArePlain (matrices fs)
    matrices_plain none n = n
    matrices_plain (also f fs) n = (matrix_plain f n.0, matrices_plain fs n.1)

  mutual
    plain_free : (f : Formula A N) → IsPlain f → IsQuantifierFree f
    plain_free Yes p = p
    plain_free No p = p
    plain_free (One a) p = p
    plain_free (Not f) p = absurd p
    plain_free (And fs) p = all_plain_free fs p
    plain_free (Or fs) p = all_plain_free fs p
    plain_free (Impl f g) p = absurd p
    plain_free (Repl f g) p = absurd p
    plain_free (Equiv f g) p = absurd p
    plain_free (Ex x f) p = p
    plain_free (All x f) p = p

    all_plain_free : (fs : Formulas A N) → ArePlain fs → AreQuantifierFree fs
    all_plain_free none p = p
    all_plain_free (also f fs) p = (plain_free f p.0, all_plain_free fs p.1)

  plain_prenex : (f : Formula A N) → IsPlain f → IsPrenex f
  plain_prenex Yes p = p
  plain_prenex No p = p
  plain_prenex (One a) p = p
  plain_prenex (Not f) p = absurd p
  plain_prenex (And fs) p = all_plain_free fs p
  plain_prenex (Or fs) p = all_plain_free fs p
  plain_prenex (Impl f g) p = absurd p
  plain_prenex (Repl f g) p = absurd p
  plain_prenex (Equiv f g) p = absurd p
  plain_prenex (Ex x f) p = absurd p
  plain_prenex (All x f) p = absurd p

  pub atomic_plain : (f : Formula A N) → IsAtomic f → IsPlain f
  atomic_plain Yes a = a
  atomic_plain No a = a
  atomic_plain (One b) a = a
  atomic_plain (Not f) a = a
  atomic_plain (And fs) a = absurd a
  atomic_plain (Or fs) a = absurd a
  atomic_plain (Impl f g) a = a
  atomic_plain (Repl f g) a = a
  atomic_plain (Equiv f g) a = a
  atomic_plain (Ex x f) a = a
  atomic_plain (All x f) a = a

  block_prenex : (q : Quantifier) (xs : List N) (f : Formula A N) → IsPrenex f → IsPrenex (block q xs f)
  block_prenex q [] f p = p
  block_prenex Exists (x ∷ xs) f p = block_prenex Exists xs f p
  block_prenex ForAll (x ∷ xs) f p = block_prenex ForAll xs f p

  pub prefix_prenex : (q : Quantifier) (bs : List (List N)) (f : Formula A N) → IsPlain f → IsPrenex (prefixed q bs f)
  prefix_prenex q [] f p = plain_prenex f p
  prefix_prenex q (b ∷ bs) f p = block_prenex q b (prefixed (other_kind q) bs f) (prefix_prenex (other_kind q) bs f p)

  -- ---- how many blocks a prefix has

  plain_later : (q : Quantifier) (f : Formula A N) → IsPlain f → later_blocks q f ≡ 0
  plain_later Exists Yes p = refl
  plain_later Exists No p = refl
  plain_later Exists (One a) p = refl
  plain_later Exists (And fs) p = refl
  plain_later Exists (Or fs) p = refl
  plain_later ForAll Yes p = refl
  plain_later ForAll No p = refl
  plain_later ForAll (One a) p = refl
  plain_later ForAll (And fs) p = refl
  plain_later ForAll (Or fs) p = refl
  plain_later q (Not f) p = absurd p
  plain_later q (Impl f g) p = absurd p
  plain_later q (Repl f g) p = absurd p
  plain_later q (Equiv f g) p = absurd p
  plain_later q (Ex x f) p = absurd p
  plain_later q (All x f) p = absurd p

  plain_count : (f : Formula A N) → IsPlain f → block_count f ≡ 0
  plain_count Yes p = refl
  plain_count No p = refl
  plain_count (One a) p = refl
  plain_count (Not f) p = absurd p
  plain_count (And fs) p = refl
  plain_count (Or fs) p = refl
  plain_count (Impl f g) p = absurd p
  plain_count (Repl f g) p = absurd p
  plain_count (Equiv f g) p = absurd p
  plain_count (Ex x f) p = absurd p
  plain_count (All x f) p = absurd p

  later_block : (q : Quantifier) (xs : List N) (f : Formula A N) → later_blocks q (block q xs f) ≡ later_blocks q f
  later_block q [] f = refl
  later_block Exists (x ∷ xs) f = later_block Exists xs f
  later_block ForAll (x ∷ xs) f = later_block ForAll xs f

  later_other : (q : Quantifier) (xs : List N) (f : Formula A N) → IsFilled xs → later_blocks q (block (other_kind q) xs f) ≡ suc (later_blocks (other_kind q) f)
  later_other q [] f h = absurd h
  later_other Exists (x ∷ xs) f h = ap suc (later_block ForAll xs f)
  later_other ForAll (x ∷ xs) f h = ap suc (later_block Exists xs f)

  later_prefixed : (q : Quantifier) (bs : List (List N)) (f : Formula A N) → AreFilled bs → IsPlain f → later_blocks q (prefixed (other_kind q) bs f) ≡ length bs
  later_prefixed q [] f h p = plain_later q f p
  later_prefixed q (b ∷ bs) f h p = later_other q b (prefixed (other_kind (other_kind q)) bs f) h.0 ∙ ap suc (later_prefixed (other_kind q) bs f h.1 p)

  count_block : (q : Quantifier) (xs : List N) (f : Formula A N) → IsFilled xs → block_count (block q xs f) ≡ suc (later_blocks q f)
  count_block q [] f h = absurd h
  count_block Exists (x ∷ xs) f h = ap suc (later_block Exists xs f)
  count_block ForAll (x ∷ xs) f h = ap suc (later_block ForAll xs f)

  pub count_prefixed : (q : Quantifier) (bs : List (List N)) (f : Formula A N) → AreFilled bs → IsPlain f → block_count (prefixed q bs f) ≡ length bs
  count_prefixed q [] f h p = plain_count f p
  count_prefixed q (b ∷ bs) f h p = count_block q b (prefixed (other_kind q) bs f) h.0 ∙ ap suc (later_prefixed q bs f h.1 p)

  -- ---- what stands in a prefix

  module _ (P : A → Type 0) where
    block_every : (q : Quantifier) (xs : List N) (f : Formula A N) → Every P f → Every P (block q xs f)
    block_every q [] f h = h
    block_every Exists (x ∷ xs) f h = block_every Exists xs f h
    block_every ForAll (x ∷ xs) f h = block_every ForAll xs f h

    prefix_every : (q : Quantifier) (bs : List (List N)) (f : Formula A N) → Every P f → Every P (prefixed q bs f)
    prefix_every q [] f h = h
    prefix_every q (b ∷ bs) f h = block_every q b (prefixed (other_kind q) bs f) (prefix_every (other_kind q) bs f h)

    mutual
      matrix_every : (f : Formula A N) → Every P f → Every P (matrix f)
      matrix_every Yes h = h
      matrix_every No h = h
      matrix_every (One a) h = h
      matrix_every (Not f) h = h
      matrix_every (And fs) h = matrices_every fs h
      matrix_every (Or fs) h = matrices_every fs h
      matrix_every (Impl f g) h = h
      matrix_every (Repl f g) h = h
      matrix_every (Equiv f g) h = h
      matrix_every (Ex x f) h = matrix_every f h
      matrix_every (All x f) h = matrix_every f h

      matrices_every : (fs : Formulas A N) → EveryOf P fs → EveryOf P (matrices fs)
      matrices_every none h = h
      matrices_every (also f fs) h = (matrix_every f h.0, matrices_every fs h.1)

    -- the atoms in front and behind are those of the formula
    pub front_every : (q r : Quantifier) (f : Formula A N) → Every P f → Every P (prefixed q (blocks f r) (matrix f))
    front_every q r f h = prefix_every q (blocks f r) (matrix f) (matrix_every f h)

  module _ (K : N → Type 0) where
    mutual
      plain_bound : (f : Formula A N) → IsPlain f → EveryBound K f
      plain_bound Yes p = tt
      plain_bound No p = tt
      plain_bound (One a) p = tt
      plain_bound (Not f) p = absurd p
      plain_bound (And fs) p = all_plain_bound fs p
      plain_bound (Or fs) p = all_plain_bound fs p
      plain_bound (Impl f g) p = absurd p
      plain_bound (Repl f g) p = absurd p
      plain_bound (Equiv f g) p = absurd p
      plain_bound (Ex x f) p = absurd p
      plain_bound (All x f) p = absurd p

      all_plain_bound : (fs : Formulas A N) → ArePlain fs → EveryBoundOf K fs
      all_plain_bound none p = tt
      all_plain_bound (also f fs) p = (plain_bound f p.0, all_plain_bound fs p.1)

    block_bound : (q : Quantifier) (xs : List N) (f : Formula A N) → EachOf K xs → EveryBound K f → EveryBound K (block q xs f)
    block_bound q [] f k h = h
    block_bound Exists (x ∷ xs) f k h = (k.0, block_bound Exists xs f k.1 h)
    block_bound ForAll (x ∷ xs) f k h = (k.0, block_bound ForAll xs f k.1 h)

    pub prefix_bound : (q : Quantifier) (bs : List (List N)) (f : Formula A N) → EachOf (EachOf K) bs → IsPlain f → EveryBound K (prefixed q bs f)
    prefix_bound q [] f k p = plain_bound f p
    prefix_bound q (b ∷ bs) f k p = block_bound q b (prefixed (other_kind q) bs f) k.0 (prefix_bound (other_kind q) bs f k.1 p)

  module _ (by : A → Formula A N) where
    abbrev in_place : Formula A N → Formula A N
    in_place f = replaced by (λ x. x) f

    replaced_block : (q : Quantifier) (xs : List N) (f : Formula A N) → replaced by (λ x. x) (block q xs f) ≡ block q xs (replaced by (λ x. x) f)
    replaced_block q [] f = refl
    replaced_block Exists (x ∷ xs) f = ap (Ex x) (replaced_block Exists xs f)
    replaced_block ForAll (x ∷ xs) f = ap (All x) (replaced_block ForAll xs f)

    -- atoms are replaced behind the prefix
    pub replaced_prefixed : (q : Quantifier) (bs : List (List N)) (f : Formula A N) → replaced by (λ x. x) (prefixed q bs f) ≡ prefixed q bs (replaced by (λ x. x) f)
    replaced_prefixed q [] f = refl
    replaced_prefixed q (b ∷ bs) f = replaced_block q b (prefixed (other_kind q) bs f) ∙ ap (block q b) (replaced_prefixed (other_kind q) bs f)

  mutual
    -- atoms that are replaced by themselves
    pub replaced_itself : (f : Formula A N) → replaced One (λ x. x) f ≡ f
    replaced_itself Yes = refl
    replaced_itself No = refl
    replaced_itself (One a) = refl
    replaced_itself (Not f) = ap Not (replaced_itself f)
    replaced_itself (And fs) = ap And (all_replaced_itself fs)
    replaced_itself (Or fs) = ap Or (all_replaced_itself fs)
    replaced_itself (Impl f g) = ap₂ Impl (replaced_itself f) (replaced_itself g)
    replaced_itself (Repl f g) = ap₂ Repl (replaced_itself f) (replaced_itself g)
    replaced_itself (Equiv f g) = ap₂ Equiv (replaced_itself f) (replaced_itself g)
    replaced_itself (Ex x f) = ap (Ex x) (replaced_itself f)
    replaced_itself (All x f) = ap (All x) (replaced_itself f)

    all_replaced_itself : (fs : Formulas A N) → all_replaced One (λ x. x) fs ≡ fs
    all_replaced_itself none = refl
    all_replaced_itself (also f fs) = ap₂ also (replaced_itself f) (all_replaced_itself fs)
