-- The pass until no node goes: orderly, without new names, no larger, with the same truth, and Reduced.
use Rattle.std.proofs.Common.{◌≡◌, ℕ, zero, suc, ◌≤◌, Bool, true, false, refl, arith, ◌↔◌, List}
use Rattle.std.specs.Prelude.{nat_lt, if◌then◌else◌}
use Rattle.std.proofs.Math.IntN.{ℤ}
use Rattle.std.proofs.lemmas.Bool.{ltb-true, ltb-false}
use Rattle.logic_meaning.specs.Context.{Context}
use Rattle.logic_meaning.specs.Formula.{Formula}
use Rattle.logic_meaning.specs.Truth.{True}
use Rattle.logic_meaning.specs.Sizes.{nodes}
use Rattle.logic_meaning.specs.Every.{Free}
use Rattle.logic_meaning.specs.Some.{EachOf}
use Rattle.logic_meaning.specs.declared.junction.Junction.{Junction}
use Rattle.formula_laws.proofs.Sizes.{nodes_positive}
use Rattle.formula_laws.proofs.Iff.{both_ways}
use Rattle.normal_atoms.specs.Computed.{Kept}
use Rattle.shape_theory.specs.Kit.{Kit}
use Rattle.logic_meaning.specs.Reduced.{Reduced}
use Rattle.shape_theory.specs.Orderly.{IsOrderly}
use Rattle.logic_meaning.specs.Measure.{Measure, size}
use Rattle.shape_theory.specs.NodeMeasure.{node_measure}
use Rattle.shape_theory.specs.Pass.{pass, repeated, simplified}
use Rattle.shape_theory.proofs.FreeTests.{NamesTold}
use Rattle.shape_theory.proofs.Keeps.{MergesWithin, pass_within}
use Rattle.shape_theory.proofs.Sizes.{MeasureLaws, pass_smaller}
use Rattle.shape_theory.proofs.Nodes.{node_laws, nodes_size}
use Rattle.shape_theory.proofs.Shape.{Keeps, Undecided, pass_reduced}
use Rattle.shape_theory.proofs.Sound.{Truthful, pass_true}

-- what one pass keeps, all keep
module _ {A : Type 0} (kit : Kit A) (ks : List A) (H : Formula A ℕ → Type 0) (kept : (g : Formula A ℕ) → H g → H (pass kit g ks)) where
  pub repeated_keeps : (n : ℕ) (g : Formula A ℕ) → H g → H (repeated kit n g ks)
  repeated_keeps zero g h = h
  repeated_keeps (suc n) g h = split (nat_lt (nodes (pass kit g ks)) (nodes g)) (repeated_keeps n (pass kit g ks) (kept g h))
    where
      split : (b : Bool) → H (repeated kit n (pass kit g ks) ks) → H (if b then repeated kit n (pass kit g ks) ks else pass kit g ks)
      split true i = i
      split false i = kept g h

module _ {A : Type 0} (kit : Kit A) (P : A → Type 0) (Mentions : A → ℕ → Type 0) (within : MergesWithin kit P Mentions) (names : NamesTold kit Mentions) where
  -- orderly, and with no name that is not free in f
  abbrev IsFrom : Formula A ℕ → Formula A ℕ → Type 0
  IsFrom f g = IsOrderly P g × ((x : ℕ) → Free Mentions g x → Free Mentions f x)

  from_pass : (f g : Formula A ℕ) (ks : List A) → IsFrom f g → IsFrom f (pass kit g ks)
  from_pass f g ks h = let w = pass_within kit P Mentions within names g ks h.0 in (w.orderly, λ x t. h.1 x (w.names x t))

  pub simplified_within : (f : Formula A ℕ) (ks : List A) → IsOrderly P f → IsOrderly P (simplified kit f ks) × ((x : ℕ) → Free Mentions (simplified kit f ks) x → Free Mentions f x)
  simplified_within f ks h = repeated_keeps kit ks (IsFrom f) (λ g k. from_pass f g ks k) (nodes f) f (h, λ x t. t)

  module _ (m : Measure A) (low : ℕ) (laws : MeasureLaws kit P m low) where
    abbrev IsWithinSize : ℕ → Formula A ℕ → Type 0
    IsWithinSize n g = IsOrderly P g × (size m g ≤ n)

    smaller_pass : (n : ℕ) (g : Formula A ℕ) (ks : List A) → IsWithinSize n g → IsWithinSize n (pass kit g ks)
    smaller_pass n g ks h = let w = pass_within kit P Mentions within names g ks h.0 in let l = (pass_smaller kit P Mentions within names m low laws g ks h.0).alone in (w.orderly, omega arith)

    pub simplified_smaller : (f : Formula A ℕ) (ks : List A) → IsOrderly P f → size m (simplified kit f ks) ≤ size m f
    simplified_smaller f ks h = (repeated_keeps kit ks (IsWithinSize (size m f)) (λ g k. smaller_pass (size m f) g ks k) (nodes f) f (h, omega arith)).1

  module _ (self : (j : Junction) (a : A) → P a → ¬ (kit.merge j a a ≡ Kept)) (alike : (a : A) → kit.same a a ≡ true) where
    abbrev IsReduced : Formula A ℕ → List A → Type 0
    IsReduced f ks = Reduced (Keeps kit P Mentions within names self alike) (Undecided kit P Mentions within names self alike) kit.opposite kit.contains Mentions f ks

    -- each repetition takes a node
    repeated_reduced : (n : ℕ) (f : Formula A ℕ) (ks : List A) → IsOrderly P f → nodes f ≤ n → IsReduced (repeated kit n f ks) ks
    repeated_reduced zero f ks h l = let k = nodes_positive f in absurd (omega arith)
    repeated_reduced (suc n) f ks h l = split (nat_lt (nodes (pass kit f ks)) (nodes f)) refl (λ q. repeated_reduced n (pass kit f ks) ks (pass_within kit P Mentions within names f ks h).orderly q)
      where
        split : (b : Bool) → nat_lt (nodes (pass kit f ks)) (nodes f) ≡ b → (nodes (pass kit f ks) ≤ n → IsReduced (repeated kit n (pass kit f ks) ks) ks) → IsReduced (if b then repeated kit n (pass kit f ks) ks else pass kit f ks) ks
        split true e i = let k = ltb-true (nodes (pass kit f ks)) (nodes f) e in i (omega arith)
        split false e i =
            let k = ltb-false (nodes (pass kit f ks)) (nodes f) e in
            let t = (pass_within kit P Mentions within names f ks h).orderly in
            let a = nodes_size P f h in
            let b = nodes_size P (pass kit f ks) t in
            let m = (pass_smaller kit P Mentions within names node_measure 1 (node_laws kit P) f ks h).alone in
            pass_reduced kit P Mentions within names self alike f ks h (omega arith)

    pub simplified_reduced : (f : Formula A ℕ) (ks : List A) → IsOrderly P f → IsReduced (simplified kit f ks) ks
    simplified_reduced f ks h = repeated_reduced (nodes f) f ks h (omega arith)

  module _ {Q : Type 0} (says : A → Q → Type 0) (move : Q → ℕ → ℤ → ℕ → Q) (c : Context) (OfTheory : Q → Type 0) (laws : Truthful kit P Mentions says move c OfTheory) where
    abbrev IsSame : List A → Formula A ℕ → Formula A ℕ → Type 0
    IsSame ks f g = IsOrderly P g × ((p : Q) → OfTheory p → EachOf (λ k. says k p) ks → True says move c g p ↔ True says move c f p)

    same_pass : (f g : Formula A ℕ) (ks : List A) → EachOf P ks → IsSame ks f g → IsSame ks f (pass kit g ks)
    same_pass f g ks k h =
        let w = pass_within kit P Mentions within names g ks h.0 in
        (w.orderly, λ p o t. both_ways (pass_true kit P Mentions says move c OfTheory within names laws g ks p o h.0 k t) (h.1 p o t))

    pub simplified_true : (f : Formula A ℕ) (ks : List A) → IsOrderly P f → EachOf P ks → (p : Q) → OfTheory p → EachOf (λ k. says k p) ks → True says move c (simplified kit f ks) p ↔ True says move c f p
    simplified_true f ks h k = (repeated_keeps kit ks (IsSame ks f) (λ g i. same_pass f g ks k i) (nodes f) f (h, λ p o t. (λ u. u, λ u. u))).1
