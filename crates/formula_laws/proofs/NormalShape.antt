-- The negation normal form: its shape, its atoms and its free names.
use Rattle.std.proofs.Common.{◌⊎◌, inl, inr, ⊎_elim}
use Rattle.logic_meaning.specs.Formula.{Formula, Formulas, Yes, No, One, Not, And, Or, Impl, Repl, Equiv, Ex, All, none, also}
use Rattle.logic_meaning.specs.Every.{Every, EveryOf, Free, FreeInSome}
use Rattle.logic_meaning.specs.Shape.{IsQuantifierFree, AreQuantifierFree}
use Rattle.logic_meaning.specs.Plain.{IsNegationNormal, AreNegationNormal}
use Rattle.logic_meaning.specs.NegationNormal.{normal_form, normal_form_of_not, normal_forms, normal_forms_of_not}

module _ {A N : Type 0} (opposite : A → A) where
  mutual
    pub normal_form_shape : (f : Formula A N) → IsNegationNormal (normal_form opposite f) × IsNegationNormal (normal_form_of_not opposite f)
    normal_form_shape Yes = (tt, tt)
    normal_form_shape No = (tt, tt)
    normal_form_shape (One a) = (tt, tt)
    normal_form_shape (Not f) = let i = normal_form_shape f in (i.1, i.0)
    normal_form_shape (And fs) = normal_forms_shape fs
    normal_form_shape (Or fs) = normal_forms_shape fs
    normal_form_shape (Impl f g) = let i = normal_form_shape f in let j = normal_form_shape g in ((i.1, (j.0, tt)), (i.0, (j.1, tt)))
    normal_form_shape (Repl f g) = let i = normal_form_shape f in let j = normal_form_shape g in ((i.0, (j.1, tt)), (i.1, (j.0, tt)))
    normal_form_shape (Equiv f g) =
        let i = normal_form_shape f in let j = normal_form_shape g in
        (((i.0, (j.0, tt)), ((i.1, (j.1, tt)), tt)), ((i.0, (j.1, tt)), ((i.1, (j.0, tt)), tt)))
    normal_form_shape (Ex x f) = normal_form_shape f
    normal_form_shape (All x f) = normal_form_shape f

    normal_forms_shape : (fs : Formulas A N) → AreNegationNormal (normal_forms opposite fs) × AreNegationNormal (normal_forms_of_not opposite fs)
    normal_forms_shape none = (tt, tt)
    normal_forms_shape (also f fs) = let i = normal_form_shape f in let j = normal_forms_shape fs in ((i.0, j.0), (i.1, j.1))

  mutual
    -- no quantifier is new
    pub normal_form_quantifier_free : (f : Formula A N) → IsQuantifierFree f → IsQuantifierFree (normal_form opposite f) × IsQuantifierFree (normal_form_of_not opposite f)
    normal_form_quantifier_free Yes h = (tt, tt)
    normal_form_quantifier_free No h = (tt, tt)
    normal_form_quantifier_free (One a) h = (tt, tt)
    normal_form_quantifier_free (Not f) h = let i = normal_form_quantifier_free f h in (i.1, i.0)
    normal_form_quantifier_free (And fs) h = normal_forms_quantifier_free fs h
    normal_form_quantifier_free (Or fs) h = normal_forms_quantifier_free fs h
    normal_form_quantifier_free (Impl f g) h =
        let i = normal_form_quantifier_free f h.0 in let j = normal_form_quantifier_free g h.1 in ((i.1, (j.0, tt)), (i.0, (j.1, tt)))
    normal_form_quantifier_free (Repl f g) h =
        let i = normal_form_quantifier_free f h.0 in let j = normal_form_quantifier_free g h.1 in ((i.0, (j.1, tt)), (i.1, (j.0, tt)))
    normal_form_quantifier_free (Equiv f g) h =
        let i = normal_form_quantifier_free f h.0 in let j = normal_form_quantifier_free g h.1 in
        (((i.0, (j.0, tt)), ((i.1, (j.1, tt)), tt)), ((i.0, (j.1, tt)), ((i.1, (j.0, tt)), tt)))
    normal_form_quantifier_free (Ex x f) h = absurd h
    normal_form_quantifier_free (All x f) h = absurd h

    normal_forms_quantifier_free : (fs : Formulas A N) → AreQuantifierFree fs → AreQuantifierFree (normal_forms opposite fs) × AreQuantifierFree (normal_forms_of_not opposite fs)
    normal_forms_quantifier_free none h = (tt, tt)
    normal_forms_quantifier_free (also f fs) h = let i = normal_form_quantifier_free f h.0 in let j = normal_forms_quantifier_free fs h.1 in ((i.0, j.0), (i.1, j.1))

  -- what each atom and its opposite have, each atom of the normal form has
  module _ (P : A → Type 0) where
    mutual
      pub normal_form_every : (f : Formula A N) → Every (λ a. P a × P (opposite a)) f → Every P (normal_form opposite f) × Every P (normal_form_of_not opposite f)
      normal_form_every Yes h = (tt, tt)
      normal_form_every No h = (tt, tt)
      normal_form_every (One a) h = h
      normal_form_every (Not f) h = let i = normal_form_every f h in (i.1, i.0)
      normal_form_every (And fs) h = normal_forms_every fs h
      normal_form_every (Or fs) h = normal_forms_every fs h
      normal_form_every (Impl f g) h = let i = normal_form_every f h.0 in let j = normal_form_every g h.1 in ((i.1, (j.0, tt)), (i.0, (j.1, tt)))
      normal_form_every (Repl f g) h = let i = normal_form_every f h.0 in let j = normal_form_every g h.1 in ((i.0, (j.1, tt)), (i.1, (j.0, tt)))
      normal_form_every (Equiv f g) h =
          let i = normal_form_every f h.0 in let j = normal_form_every g h.1 in
          (((i.0, (j.0, tt)), ((i.1, (j.1, tt)), tt)), ((i.0, (j.1, tt)), ((i.1, (j.0, tt)), tt)))
      normal_form_every (Ex x f) h = normal_form_every f h
      normal_form_every (All x f) h = normal_form_every f h

      normal_forms_every : (fs : Formulas A N) → EveryOf (λ a. P a × P (opposite a)) fs → EveryOf P (normal_forms opposite fs) × EveryOf P (normal_forms_of_not opposite fs)
      normal_forms_every none h = (tt, tt)
      normal_forms_every (also f fs) h = let i = normal_form_every f h.0 in let j = normal_forms_every fs h.1 in ((i.0, j.0), (i.1, j.1))

  -- a name that is free in the normal form is free in the formula, and the other way, where it is so for each atom and its opposite
  module _ (mentions : A → N → Type 0) (x : N) where
    pair : {P Q R S : Type 0} → (P → R) → (Q → S) → P ⊎ (Q ⊎ ⊥) → R ⊎ S
    pair f g = ⊎_elim (λ t. inl (f t)) (⊎_elim (λ t. inr (g t)) absurd)

    -- each of two formulas in both polarities
    pairs : {P Q S T R U : Type 0} → (P → R) → (Q → U) → (S → R) → (T → U) → (P ⊎ (Q ⊎ ⊥)) ⊎ ((S ⊎ (T ⊎ ⊥)) ⊎ ⊥) → R ⊎ U
    pairs f g h i = ⊎_elim (pair f g) (⊎_elim (pair h i) absurd)

    unpaired : {P Q R S : Type 0} → (R → P) → (S → Q) → R ⊎ S → P ⊎ (Q ⊎ ⊥)
    unpaired f g = ⊎_elim (λ t. inl (f t)) (λ t. inr (inl (g t)))

    mutual
      pub normal_form_brings : (f : Formula A N) → Every (λ a. mentions (opposite a) x → mentions a x) f →
          (Free mentions (normal_form opposite f) x → Free mentions f x) × (Free mentions (normal_form_of_not opposite f) x → Free mentions f x)
      normal_form_brings Yes h = (λ t. t, λ t. t)
      normal_form_brings No h = (λ t. t, λ t. t)
      normal_form_brings (One a) h = (λ t. t, h)
      normal_form_brings (Not f) h = let i = normal_form_brings f h in (i.1, i.0)
      normal_form_brings (And fs) h = normal_forms_bring fs h
      normal_form_brings (Or fs) h = normal_forms_bring fs h
      normal_form_brings (Impl f g) h = let i = normal_form_brings f h.0 in let j = normal_form_brings g h.1 in (pair i.1 j.0, pair i.0 j.1)
      normal_form_brings (Repl f g) h = let i = normal_form_brings f h.0 in let j = normal_form_brings g h.1 in (pair i.0 j.1, pair i.1 j.0)
      normal_form_brings (Equiv f g) h = let i = normal_form_brings f h.0 in let j = normal_form_brings g h.1 in (pairs i.0 j.0 i.1 j.1, pairs i.0 j.1 i.1 j.0)
      normal_form_brings (Ex y f) h = let i = normal_form_brings f h in (λ t. (t.0, i.0 t.1), λ t. (t.0, i.1 t.1))
      normal_form_brings (All y f) h = let i = normal_form_brings f h in (λ t. (t.0, i.0 t.1), λ t. (t.0, i.1 t.1))

      normal_forms_bring : (fs : Formulas A N) → EveryOf (λ a. mentions (opposite a) x → mentions a x) fs →
          (FreeInSome mentions (normal_forms opposite fs) x → FreeInSome mentions fs x) × (FreeInSome mentions (normal_forms_of_not opposite fs) x → FreeInSome mentions fs x)
      normal_forms_bring none h = (λ t. t, λ t. t)
      normal_forms_bring (also f fs) h =
          let i = normal_form_brings f h.0 in let j = normal_forms_bring fs h.1 in
          (⊎_elim (λ t. inl (i.0 t)) (λ t. inr (j.0 t)), ⊎_elim (λ t. inl (i.1 t)) (λ t. inr (j.1 t)))

    mutual
      pub normal_form_keeps : (f : Formula A N) → Every (λ a. mentions a x → mentions (opposite a) x) f →
          (Free mentions f x → Free mentions (normal_form opposite f) x) × (Free mentions f x → Free mentions (normal_form_of_not opposite f) x)
      normal_form_keeps Yes h = (λ t. t, λ t. t)
      normal_form_keeps No h = (λ t. t, λ t. t)
      normal_form_keeps (One a) h = (λ t. t, h)
      normal_form_keeps (Not f) h = let i = normal_form_keeps f h in (i.1, i.0)
      normal_form_keeps (And fs) h = normal_forms_keep fs h
      normal_form_keeps (Or fs) h = normal_forms_keep fs h
      normal_form_keeps (Impl f g) h = let i = normal_form_keeps f h.0 in let j = normal_form_keeps g h.1 in (unpaired i.1 j.0, unpaired i.0 j.1)
      normal_form_keeps (Repl f g) h = let i = normal_form_keeps f h.0 in let j = normal_form_keeps g h.1 in (unpaired i.0 j.1, unpaired i.1 j.0)
      normal_form_keeps (Equiv f g) h =
          let i = normal_form_keeps f h.0 in let j = normal_form_keeps g h.1 in
          (λ t. inl (unpaired i.0 j.0 t), λ t. inl (unpaired i.0 j.1 t))
      normal_form_keeps (Ex y f) h = let i = normal_form_keeps f h in (λ t. (t.0, i.0 t.1), λ t. (t.0, i.1 t.1))
      normal_form_keeps (All y f) h = let i = normal_form_keeps f h in (λ t. (t.0, i.0 t.1), λ t. (t.0, i.1 t.1))

      normal_forms_keep : (fs : Formulas A N) → EveryOf (λ a. mentions a x → mentions (opposite a) x) fs →
          (FreeInSome mentions fs x → FreeInSome mentions (normal_forms opposite fs) x) × (FreeInSome mentions fs x → FreeInSome mentions (normal_forms_of_not opposite fs) x)
      normal_forms_keep none h = (λ t. t, λ t. t)
      normal_forms_keep (also f fs) h =
          let i = normal_form_keeps f h.0 in let j = normal_forms_keep fs h.1 in
          (⊎_elim (λ t. inl (i.0 t)) (λ t. inr (j.0 t)), ⊎_elim (λ t. inl (i.1 t)) (λ t. inr (j.1 t)))
