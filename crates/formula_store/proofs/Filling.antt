-- A table of values by ids that gets one more.
use Rattle.std.proofs.Common.{◌≡◌, ℕ, ◌+◌, ◌<◌, Bool, true, false, cond, List, [], ◌∷◌, Some, length, get_or, take, refl, ap, sym, ◌∙◌, subst}
use Rattle.std.specs.HashMap.{get}
use Rattle.std.specs.List.{AllByRecursion}
use Rattle.std.proofs.lemmas.List.{take_more}
use Rattle.formula_store.specs.declared.id.FormulaId.{FormulaId}
use Rattle.formula_store.specs.Tables.{TableOf, same_id, Has}
use Rattle.formula_store.proofs.Keys.{same_id as one_id, itself_id}
use Rattle.formula_store.proofs.Marked.{all_on, all_joined}

module _ {V : Type 0} (P Q : FormulaId → V → Type 0) (table table2 : TableOf V) (id : FormulaId) (v : V)
    (put : (q : FormulaId) → get same_id table2 q ≡ cond (same_id id q) (Some v) (get same_id table q)) (grows : (x : FormulaId) (w : V) → P x w → Q x w) (new : Q id v) where
  has_new : Has Q table2 id
  has_new = record { value = v; there = put id ∙ ap (λ t. cond t (Some v) (get same_id table id)) (itself_id id); holds = new }

  has_old : (x : FormulaId) → Has P table x → (t : Bool) → same_id id x ≡ t → Has Q table2 x
  has_old x h true e = subst (Has Q table2) (one_id id x e) has_new
  has_old x h false e = record {
    value = h.value;
    there = put x ∙ ap (λ t. cond t (Some v) (get same_id table x)) e ∙ h.there;
    holds = grows x h.value h.holds;
  }

  -- what it has of the ids before one in a list, and of that one
  pub has_more : (ids : List FormulaId) (i : ℕ) (d : FormulaId) → i < length ids → get_or ids i d ≡ id → AllByRecursion (Has P table) (take i ids) → AllByRecursion (Has Q table2) (take (i + 1) ids)
  has_more ids i d h e known =
      rw (take_more ids i d h)
      (all_joined (Has Q table2) (take i ids) (get_or ids i d ∷ []) (all_on (Has P table) (Has Q table2) (λ x p. has_old x p (same_id id x) refl) (take i ids) known) (subst (Has Q table2) (sym e) has_new, tt))
