-- The first atom of a list with which an atom merges.
use Rattle.std.proofs.Common.{◌≡◌, ℕ, zero, suc, ◌+◌, ◌<◌, List, [], ◌∷◌, length, take, get_or, refl, ap, ◌∙◌, arith}
use Rattle.std.specs.Prelude.{remove}
use Rattle.std.specs.List.{AllByRecursion}
use Rattle.logic_meaning.specs.Context.{Context}
use Rattle.logic_meaning.specs.Atom.{Atom}
use Rattle.logic_meaning.specs.declared.junction.Junction.{Junction}
use Rattle.normal_atoms.specs.Computed.{Settled, Into, Kept, merged}
use Rattle.formula_tree.specs.declared.shape.Shape.{Shape}
use Rattle.formula_store.specs.declared.id.FormulaId.{FormulaId}
use Rattle.shape_theory.specs.AtomKit.{atom_kit}
use Rattle.shape_theory.specs.Lines as clean
use Rattle.shape_theory.specs.Lines.{met, Alone, Void, Meets}
use Rattle.std.proofs.lemmas.List.{take_more}
use Rattle.formula_store.proofs.Marked.{all_joined}
use Rattle.normal_forms.specs.Atoms.{atom_at, atoms}

module _ (c : Context) (j : Junction) (nodes : List (Shape FormulaId)) (a : FormulaId) where
  abbrev pub partner : List FormulaId → clean.Met Atom
  partner us = clean.partner (atom_kit c) j (atom_at nodes a) (atoms nodes us)

  -- the two do not merge
  abbrev pub Keeps : FormulaId → Type 0
  Keeps u = merged c j (atom_at nodes u) (atom_at nodes a) ≡ Kept

  pub none_met : (us : List FormulaId) → AllByRecursion Keeps us → partner us ≡ Alone
  none_met [] h = refl
  none_met (u ∷ us) h =
      ap (λ m. met m (atom_at nodes u) (atoms nodes us) (partner us)) h.0 ∙ ap (λ r. met Kept (atom_at nodes u) (atoms nodes us) r) (none_met us h.1)

  pub void_met : (us : List FormulaId) (i : ℕ) (d : FormulaId) → i < length us → AllByRecursion Keeps (take i us) → merged c j (atom_at nodes (get_or us i d)) (atom_at nodes a) ≡ Settled → partner us ≡ Void
  void_met [] i d l h e = absurd (omega arith)
  void_met (u ∷ us) zero d l h e = ap (λ m. met m (atom_at nodes u) (atoms nodes us) (partner us)) e
  void_met (u ∷ us) (suc i) d l h e =
      ap (λ m. met m (atom_at nodes u) (atoms nodes us) (partner us)) h.0 ∙ ap (λ r. met Kept (atom_at nodes u) (atoms nodes us) r) (void_met us i d (omega arith) h.1 e)

  pub one_met : (us : List FormulaId) (i : ℕ) (d : FormulaId) (b : Atom) → i < length us → AllByRecursion Keeps (take i us) → merged c j (atom_at nodes (get_or us i d)) (atom_at nodes a) ≡ Into b → partner us ≡ Meets b (atoms nodes (remove us i))
  one_met [] i d b l h e = absurd (omega arith)
  one_met (u ∷ us) zero d b l h e = ap (λ m. met m (atom_at nodes u) (atoms nodes us) (partner us)) e
  one_met (u ∷ us) (suc i) d b l h e =
      ap (λ m. met m (atom_at nodes u) (atoms nodes us) (partner us)) h.0 ∙ ap (λ r. met Kept (atom_at nodes u) (atoms nodes us) r) (one_met us i d b (omega arith) h.1 e)

  pub keeps_more : (us : List FormulaId) (i : ℕ) (d : FormulaId) → i < length us → AllByRecursion Keeps (take i us) → Keeps (get_or us i d) → AllByRecursion Keeps (take (i + 1) us)
  keeps_more us i d l h k = rw (take_more us i d l) (all_joined Keeps (take i us) (get_or us i d ∷ []) h (k, tt))
