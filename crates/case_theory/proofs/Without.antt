-- Assumptions without the names of a block.
use Rattle.std.proofs.Common.{◌≡◌, ℕ, Bool, true, false, not, List, [], ◌∷◌, refl, if◌then◌else◌}
use Rattle.std.proofs.Math.IntN.{pos}
use Rattle.std.specs.Ordering.{int_eq}
use Rattle.std.specs.Cmp.{signed_Decides}
use Rattle.logic_meaning.specs.Form.{coefficient}
use Rattle.logic_meaning.specs.Atom.{Atom, Mentions, form_of}
use Rattle.logic_meaning.specs.Some.{EachOf}
use Rattle.logic_meaning.specs.AtomKit.{without}
use Rattle.logic_meaning.specs.Contained.{contains}
use Rattle.elimination_theory.proofs.Branches.{true_is_not_false}
use Rattle.case_theory.specs.CaseTree.{without_all}
use Rattle.case_theory.specs.Under.{Lack}
use Rattle.elimination_theory.proofs.SomeListed.{each_map}

-- what the test leaves out has not the name
not_there : (a : Atom) (x : ℕ) → contains a x ≡ false → ¬ (Mentions a x)
not_there a x e m = go (int_eq (coefficient x (form_of a)) (pos 0)) refl e
  where
    go : (b : Bool) → int_eq (coefficient x (form_of a)) (pos 0) ≡ b → not b ≡ false → ⊥
    go true h i = m ((signed_Decides (coefficient x (form_of a)) (pos 0)).0 h)
    go false h i = true_is_not_false i

module _ (P : Atom → Type 0) where
  without_each : (x : ℕ) (ks : List Atom) → EachOf P ks → EachOf P (without contains x ks)
  without_each x [] t = tt
  without_each x (k ∷ ks) t = go (contains k x) (without_each x ks t.1)
    where
      go : (b : Bool) → EachOf P (without contains x ks) → EachOf P (if b then without contains x ks else k ∷ without contains x ks)
      go true r = r
      go false r = (t.0, r)

  -- what each atom has, each of those without the block has
  pub without_all_each : (block : List ℕ) (ks : List Atom) → EachOf P ks → EachOf P (without_all block ks)
  without_all_each [] ks t = t
  without_all_each (x ∷ xs) ks t = without_each x (without_all xs ks) (without_all_each xs ks t)

without_lacks : (x : ℕ) (ks : List Atom) → Lack (without contains x ks) x
without_lacks x [] = tt
without_lacks x (k ∷ ks) = go (contains k x) refl (without_lacks x ks)
  where
    go : (b : Bool) → contains k x ≡ b → Lack (without contains x ks) x → Lack (if b then without contains x ks else k ∷ without contains x ks) x
    go true e r = r
    go false e r = (not_there k x e, r)

-- they have no name of the block
pub without_all_lack : (block : List ℕ) (ks : List Atom) → EachOf (Lack (without_all block ks)) block
without_all_lack [] ks = tt
without_all_lack (x ∷ xs) ks = (
  without_lacks x (without_all xs ks),
  each_map (Lack (without_all xs ks)) (Lack (without contains x (without_all xs ks))) (λ y l. without_each (λ (k : Atom). ¬ (Mentions k y)) x (without_all xs ks) l) xs (without_all_lack xs ks),
)
