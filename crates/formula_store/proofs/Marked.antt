-- Lists of ids.
use Rattle.std.proofs.Common.{subst, ◌≡◌, ℕ, zero, suc, ◌<◌, ◌⊎◌, inl, inr, ⊎_elim, Bool, true, false, List, [], ◌∷◌, ◌++◌, length, get_or, refl, sym, ◌∙◌, arith, nat_eq, true≢false}
use Rattle.std.specs.Cmp.{unsigned_Decides}
use Rattle.std.specs.List.{AllByRecursion}
use Rattle.logic_meaning.specs.Some.{SomeOf, Among}
use Rattle.formula_store.specs.declared.id.FormulaId.{FormulaId}

pub all_on : (P Q : FormulaId → Type 0) → ((x : FormulaId) → P x → Q x) → (xs : List FormulaId) → AllByRecursion P xs → AllByRecursion Q xs
all_on P Q k [] h = tt
all_on P Q k (x ∷ xs) h = (k x h.0, all_on P Q k xs h.1)

pub all_joined : (P : FormulaId → Type 0) (xs ys : List FormulaId) → AllByRecursion P xs → AllByRecursion P ys → AllByRecursion P (xs ++ ys)
all_joined P [] ys h k = k
all_joined P (x ∷ xs) ys h k = (h.0, all_joined P xs ys h.1 k)

pub some_left : (P : FormulaId → Type 0) (xs ys : List FormulaId) → SomeOf P xs → SomeOf P (xs ++ ys)
some_left P [] ys h = absurd h
some_left P (x ∷ xs) ys h = ⊎_elim (λ p. inl p) (λ p. inr (some_left P xs ys p)) h

pub some_right : (P : FormulaId → Type 0) (xs ys : List FormulaId) → SomeOf P ys → SomeOf P (xs ++ ys)
some_right P [] ys h = h
some_right P (x ∷ xs) ys h = inr (some_right P xs ys h)

pub some_either : (P : FormulaId → Type 0) (xs ys : List FormulaId) → SomeOf P (xs ++ ys) → SomeOf P xs ⊎ SomeOf P ys
some_either P [] ys h = inr h
some_either P (x ∷ xs) ys (inl p) = inl (inl p)
some_either P (x ∷ xs) ys (inr h) = ⊎_elim (λ p. inl (inr p)) (λ p. inr p) (some_either P xs ys h)

-- what holds of each holds of one of them
pub among_all : (P : FormulaId → Type 0) (ids : List FormulaId) (x : FormulaId) → AllByRecursion P ids → Among ids x → P x
among_all P [] x h m = absurd m
among_all P (i ∷ ids) x h (inl e) = subst P e h.0
among_all P (i ∷ ids) x h (inr m) = among_all P ids x h.1 m

either : (b : Bool) → (b ≡ true) ⊎ (b ≡ false)
either true = inl refl
either false = inr refl

pub equal_or_not : (i k : ℕ) → (i ≡ k) ⊎ (¬ (i ≡ k))
equal_or_not i k = ⊎_elim (λ h. inl ((unsigned_Decides i k).0 h)) (λ h. inr (λ e. true≢false (sym ((unsigned_Decides i k).1 e) ∙ h))) (either (nat_eq i k))

pub all_at : (P : FormulaId → Type 0) (ids : List FormulaId) (i : ℕ) (d : FormulaId) → i < length ids → AllByRecursion P ids → P (get_or ids i d)
all_at P [] i d h k = absurd (omega arith)
all_at P (x ∷ ids) zero d h k = k.0
all_at P (x ∷ ids) (suc i) d h k = all_at P ids i d (omega arith) k.1
