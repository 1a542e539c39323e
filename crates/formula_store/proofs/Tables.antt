-- A table with a value at the number of each id of a rising list, filled one after another.
use Rattle.std.proofs.Common.{◌≡◌, ℕ, zero, suc, ◌+◌, ◌<◌, List, [], ◌∷◌, length, get_or, set, take, sym, subst, arith}
use Rattle.std.proofs.lemmas.List.{take_more}
use Rattle.std.proofs.Math.Seq.{get_or-set_same, get_or-set_other}
use Rattle.std.specs.List.{AllByRecursion}
use Rattle.formula_store.specs.declared.id.FormulaId.{FormulaId}
use Rattle.formula_store.specs.Order.{Rises, RisesFrom}
use Rattle.formula_store.proofs.Marked.{all_on, all_joined}

below_from : (a : ℕ) (ids : List FormulaId) (i : ℕ) (d : FormulaId) → RisesFrom a ids → i < length ids → a < (get_or ids i d).number
below_from a [] i d r h = absurd (omega arith)
below_from a (b ∷ ids) zero d r h = r.0
below_from a (b ∷ ids) (suc i) d r h = let k = below_from b.number ids i d r.1 (omega arith) in let l = r.0 in omega arith

before_from : (a : ℕ) (ids : List FormulaId) (i : ℕ) (d : FormulaId) → RisesFrom a ids → i < length ids → AllByRecursion (λ (x : FormulaId). x.number < (get_or ids i d).number) (take i ids)
before_from a [] i d r h = absurd (omega arith)
before_from a (b ∷ ids) zero d r h = tt
before_from a (b ∷ ids) (suc i) d r h = (below_from b.number ids i d r.1 (omega arith), before_from b.number ids i d r.1 (omega arith))

-- the ids before a place have smaller numbers
pub numbers_before : (ids : List FormulaId) (i : ℕ) (d : FormulaId) → Rises ids → i < length ids → AllByRecursion (λ (x : FormulaId). x.number < (get_or ids i d).number) (take i ids)
numbers_before [] i d r h = absurd (omega arith)
numbers_before (b ∷ ids) zero d r h = tt
numbers_before (b ∷ ids) (suc i) d r h = (below_from b.number ids i d r (omega arith), before_from b.number ids i d r (omega arith))

both_all : (P Q : FormulaId → Type 0) (xs : List FormulaId) → AllByRecursion P xs → AllByRecursion Q xs → AllByRecursion (λ x. P x × Q x) xs
both_all P Q [] h k = tt
both_all P Q (x ∷ xs) h k = ((h.0, k.0), both_all P Q xs h.1 k.1)

-- P holds of each id before a place and its value; at the place there is a new value of which Q holds, and Q holds where P did
pub filled : {V : Type 0} (P Q : FormulaId → V → Type 0) (table : List V) (d : V) (ids : List FormulaId) (i : ℕ) (e : FormulaId) (v : V) → Rises ids → i < length ids
    → (get_or ids i e).number < length table → ((x : FormulaId) (w : V) → P x w → Q x w) → Q (get_or ids i e) v
    → AllByRecursion (λ (x : FormulaId). P x (get_or table x.number d)) (take i ids)
    → AllByRecursion (λ (x : FormulaId). Q x (get_or (set table (get_or ids i e).number v) x.number d)) (take (i + 1) ids)
filled P Q table d ids i e v r h within grows new done =
    let id = get_or ids i e in
    let old = all_on (λ (x : FormulaId). P x (get_or table x.number d) × (x.number < id.number)) (λ (x : FormulaId). Q x (get_or (set table id.number v) x.number d))
    (λ x p. let l = p.1 in subst (λ w. Q x w) (sym (get_or-set_other table id.number x.number v d (λ (s : x.number ≡ id.number). omega arith))) (grows x (get_or table x.number d) p.0)) (take i ids)
    (both_all (λ (x : FormulaId). P x (get_or table x.number d)) (λ (x : FormulaId). x.number < id.number) (take i ids) done (numbers_before ids i e r h)) in
    rw (take_more ids i e h)
    (all_joined (λ (x : FormulaId). Q x (get_or (set table id.number v) x.number d)) (take i ids) (id ∷ []) old (subst (λ w. Q id w) (sym (get_or-set_same table id.number v d within)) new, tt))
