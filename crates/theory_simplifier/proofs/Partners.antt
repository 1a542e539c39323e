-- What becomes of a list with an atom more, by the first atom that merges with it.
use Rattle.std.proofs.Common.{◌≡◌, ℕ, zero, suc, ◌<◌, refl, sym, ap, ◌∙◌, Option, Some, None, List, [], ◌∷◌, ◌++◌, length, take, get_or, arith}
use Rattle.std.proofs.Math.ListN.{set}
use Rattle.logic_meaning.specs.Context.{Context}
use Rattle.logic_meaning.specs.Some.{EachOf}
use Rattle.logic_meaning.specs.Atom.{Atom}
use Rattle.logic_meaning.specs.declared.junction.Junction.{Junction}
use Rattle.normal_atoms.specs.Computed.{Settled, Into, Kept, merged}
use Rattle.shape_theory.specs.AtomKit.{atom_kit}
use Rattle.shape_theory.specs.Pass.{where_merged, with_one}
use Rattle.theory_simplifier.specs.Partners.{AreApart}

module _ (c : Context) (j : Junction) (a : Atom) where
  abbrev with_a : List Atom → Option (List Atom)
  with_a us = with_one (atom_kit c) j a us

  -- it comes last where it merges with none
  pub with_last : (us : List Atom) → AreApart c j a us → with_a us ≡ Some (us ++ a ∷ [])
  with_last [] h = refl
  with_last (b ∷ bs) h = ap (λ m. where_merged m b bs (with_a bs)) h.0 ∙ ap (where_merged Kept b bs) (with_last bs h.1)

  -- the list is settled where the first that it merges with settles it
  pub with_settled : (us : List Atom) (i : ℕ) → i < length us → AreApart c j a (take i us) → Settled ≡ merged c j (get_or us i a) a → with_a us ≡ None
  with_settled [] i l h e = absurd (omega arith)
  with_settled (b ∷ bs) zero l h e = ap (λ m. where_merged m b bs (with_a bs)) (sym e)
  with_settled (b ∷ bs) (suc i) l h e = ap (λ m. where_merged m b bs (with_a bs)) h.0 ∙ ap (where_merged Kept b bs) (with_settled bs i (omega arith) h.1 e)

  -- the merged atom takes the place of the first that it merges with
  pub with_merged : (us : List Atom) (i : ℕ) (d : Atom) → i < length us → AreApart c j a (take i us) → Into d ≡ merged c j (get_or us i a) a → with_a us ≡ Some (set us i d)
  with_merged [] i d l h e = absurd (omega arith)
  with_merged (b ∷ bs) zero d l h e = ap (λ m. where_merged m b bs (with_a bs)) (sym e)
  with_merged (b ∷ bs) (suc i) d l h e = ap (λ m. where_merged m b bs (with_a bs)) h.0 ∙ ap (where_merged Kept b bs) (with_merged bs i d (omega arith) h.1 e)

module _ {A : Type 0} (P : A → Type 0) where
  pub each_last : (us : List A) (a : A) → EachOf P us → P a → EachOf P (us ++ a ∷ [])
  each_last [] a h p = (p, tt)
  each_last (u ∷ us) a h p = (h.0, each_last us a h.1 p)

  pub each_set : (us : List A) (i : ℕ) (a : A) → EachOf P us → P a → EachOf P (set us i a)
  each_set [] i a h p = tt
  each_set (u ∷ us) zero a h p = (p, h.1)
  each_set (u ∷ us) (suc i) a h p = (h.0, each_set us i a h.1 p)

  pub each_at : (us : List A) (i : ℕ) (d : A) → i < length us → EachOf P us → P (get_or us i d)
  each_at [] i d l h = absurd (omega arith)
  each_at (u ∷ us) zero d l h = h.0
  each_at (u ∷ us) (suc i) d l h = each_at us i d (omega arith) h.1
