-- A pass that is repeated while nodes go, one pass at a time.
use Rattle.std.proofs.Common.{◌≡◌, ℕ, zero, suc, ◌<◌, ◌≤◌, Bool, true, false, refl, ap, ◌∙◌, List, arith}
use Rattle.std.specs.Prelude.{nat_lt, if◌then◌else◌}
use Rattle.std.proofs.lemmas.Bool.{ltb-true, ltb-false}
use Rattle.logic_meaning.specs.Atom.{Atom}
use Rattle.logic_meaning.specs.Sizes.{nodes}
use Rattle.logic_meaning.specs.Tree.{Tree}
use Rattle.formula_laws.proofs.Sizes.{nodes_positive}
use Rattle.shape_theory.specs.Kit.{Kit}
use Rattle.shape_theory.specs.Pass.{pass, repeated, simplified}

module _ (kit : Kit Atom) (ks : List Atom) where
  -- as many passes as nodes are enough
  repeated_enough : (n m : ℕ) (f : Tree) → nodes f ≤ n → nodes f ≤ m → repeated kit n f ks ≡ repeated kit m f ks
  repeated_enough zero m f h k = let p = nodes_positive f in absurd (omega arith)
  repeated_enough (suc n) zero f h k = let p = nodes_positive f in absurd (omega arith)
  repeated_enough (suc n) (suc m) f h k = split (nat_lt (nodes (pass kit f ks)) (nodes f)) refl (λ u v. repeated_enough n m (pass kit f ks) u v)
    where
      split : (b : Bool) → nat_lt (nodes (pass kit f ks)) (nodes f) ≡ b → (nodes (pass kit f ks) ≤ n → nodes (pass kit f ks) ≤ m → repeated kit n (pass kit f ks) ks ≡ repeated kit m (pass kit f ks) ks)
          → (if b then repeated kit n (pass kit f ks) ks else pass kit f ks) ≡ (if b then repeated kit m (pass kit f ks) ks else pass kit f ks)
      split true e i = let l = ltb-true (nodes (pass kit f ks)) (nodes f) e in i (omega arith) (omega arith)
      split false e i = refl

  module _ (f : Tree) where
    abbrev g : Tree
    g = pass kit f ks

    test_true : (b : Bool) → nat_lt (nodes g) (nodes f) ≡ b → nodes g < nodes f → b ≡ true
    test_true true e h = refl
    test_true false e h = let l = ltb-false (nodes g) (nodes f) e in absurd (omega arith)

    test_false : (b : Bool) → nat_lt (nodes g) (nodes f) ≡ b → nodes f ≤ nodes g → b ≡ false
    test_false true e h = let l = ltb-true (nodes g) (nodes f) e in absurd (omega arith)
    test_false false e h = refl

    unrolled : (n : ℕ) → nodes f ≡ suc n → simplified kit f ks ≡ (if nat_lt (nodes g) (nodes f) then repeated kit n g ks else g)
    unrolled n e = ap (λ m. repeated kit m f ks) e

    again : (n : ℕ) → nodes f ≡ n → nodes g < nodes f → simplified kit f ks ≡ simplified kit g ks
    again zero e h = absurd (omega arith)
    again (suc n) e h =
        unrolled n e ∙ ap (λ (b : Bool). if b then repeated kit n g ks else g) (test_true (nat_lt (nodes g) (nodes f)) refl h)
        ∙ repeated_enough n (nodes g) g (omega arith) (omega arith)

    done : (n : ℕ) → nodes f ≡ n → nodes f ≤ nodes g → simplified kit f ks ≡ g
    done zero e h = let p = nodes_positive f in absurd (omega arith)
    done (suc n) e h = unrolled n e ∙ ap (λ (b : Bool). if b then repeated kit n g ks else g) (test_false (nat_lt (nodes g) (nodes f)) refl h)

    -- a pass that takes a node away is followed by others
    pub simplified_again : nodes g < nodes f → simplified kit f ks ≡ simplified kit g ks
    simplified_again h = again (nodes f) refl h

    -- one that does not is the last
    pub simplified_done : nodes f ≤ nodes g → simplified kit f ks ≡ g
    simplified_done h = done (nodes f) refl h
