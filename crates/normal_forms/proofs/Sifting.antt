-- Lists of which the first are among the paths.
use Rattle.std.proofs.Common.{◌≡◌, ℕ, zero, suc, ◌≤◌, Bool, true, false, List, [], ◌∷◌, ◌++◌, Result, Ok, Err, length, take, refl, sym, ap, ◌∙◌, subst, arith}
use Rattle.std.specs.Prelude.{◌||◌, IfOk}
use Rattle.formula_store.specs.declared.id.FormulaId.{FormulaId}
use Rattle.normal_forms.specs.declared.paths.Paths.{Paths}
use Rattle.normal_forms.specs.Atoms.{is_within, some_within}
use Rattle.normal_forms.specs.Paths.{Grows, CanGoOn}
use Rattle.normal_forms.specs.Sieves.{IsSortedOf, IsPath, ArePaths, IsSifted}
use Rattle.normal_forms.proofs.PathLaws.{leads_stays}
use Rattle.normal_forms.proofs.Members.{sorted_within}

pub if_ok : {T E : Type 0} (P Q : T → Type 0) (r : Result T E) → IfOk r P → ((t : T) → P t → Q t) → IfOk r Q
if_ok P Q (Ok t) h f = f t h
if_ok P Q (Err e) h f = tt

pub paths_stay : (p q : Paths) → Grows p q → (ls : List (List FormulaId)) → ArePaths p ls → ArePaths q ls
paths_stay p q g [] h = tt
paths_stay p q g (us ∷ ls) h = (record { atoms = h.0.atoms; sorted = h.0.sorted; leads = leads_stays p q g 0 h.0.atoms h.0.leads }, paths_stay p q g ls h.1)

pub paths_more : (p : Paths) (ls : List (List FormulaId)) (us : List FormulaId) → ArePaths p ls → IsPath p 0 us → ArePaths p (ls ++ us ∷ [])
paths_more p [] us h k = (k, tt)
paths_more p (vs ∷ ls) us h k = (h.0, paths_more p ls us h.1 k)

take_front : (n : ℕ) (ls ks : List (List FormulaId)) → n ≤ length ls → take n (ls ++ ks) ≡ take n ls
take_front zero ls ks l = refl
take_front (suc n) [] ks l = absurd (omega arith)
take_front (suc n) (us ∷ ls) ks l = ap (λ hs. us ∷ hs) (take_front n ls ks (omega arith))

-- one list more, of which no path is known
pub sifted_more : (p q : Paths) → Grows p q → (ls ks : List (List FormulaId)) (us : List FormulaId) (n : ℕ) → ks ≡ ls ++ us ∷ [] → IsSifted p (record { lines = ls; count = n }) → IsSifted q (record { lines = ks; count = n })
sifted_more p q g ls ks us n e h =
    subst (λ hs. IsSifted q (record { lines = hs; count = n })) (sym e) (record {
      within = longer ls n h.within;
      paths = subst (ArePaths q) (sym (take_front n ls (us ∷ []) h.within)) (paths_stay p q g (take n ls) h.paths);
    })
  where
    longer : (hs : List (List FormulaId)) (m : ℕ) → m ≤ length hs → m ≤ length (hs ++ us ∷ [])
    longer [] m l = omega arith
    longer (vs ∷ hs) zero l = omega arith
    longer (vs ∷ hs) (suc m) l = let k = longer hs m (omega arith) in omega arith

-- where the search finds nothing, no list whose path is known is within
pub none_within : (p : Paths) (line atoms : List FormulaId) → IsSortedOf line atoms → (CanGoOn p atoms (record { place = 0; from = 0 }) → ⊥) → (ls : List (List FormulaId)) → ArePaths p ls → some_within ls line ≡ false
none_within p line atoms s n [] h = refl
none_within p line atoms s n (us ∷ ls) h = ap (λ b. b || some_within ls line) (outside (is_within us line) refl) ∙ none_within p line atoms s n ls h.1
  where
    outside : (b : Bool) → is_within us line ≡ b → is_within us line ≡ false
    outside false e = e
    outside true e = absurd (n (record { ahead = h.0.atoms; leads = h.0.leads; rise = h.0.sorted.rises; within = sorted_within us line h.0.atoms atoms h.0.sorted s e }))
