-- The truth of an atom from the value of its form.
use Rattle.std.proofs.Common.{◌≡◌, ◌<◌, ℕ, Bool, true, false, not, sym, ◌∙◌, ap, subst, refl, arith, ◌↔◌}
use Rattle.std.proofs.Math.IntN.{ℤ, pos}
use Rattle.std.specs.Prelude.{◌<ℤ◌, MatchBool, unsigned_abs}
use Rattle.std.specs.Ordering.{int_cmp, int_eq}
use Rattle.std.specs.Cmp.{signed_Decides}
use Rattle.std.proofs.Math.Bool.{beq}
use Rattle.std.proofs.lemmas.Int.{ints}
use Rattle.exact_numbers.specs.Divides.{Divides, residue_of}
use Rattle.exact_numbers.proofs.Floor.{residue_of_multiple, divides_from_residue}
use Rattle.logic_meaning.specs.Point.{Point}
use Rattle.logic_meaning.specs.Form.{Form, value}
use Rattle.logic_meaning.specs.Atom.{Atom, Compare, Congruent, Says, form_of}
use Rattle.logic_meaning.specs.NormalForm.{holds}
use Rattle.normal_atoms.specs.AtomTruth.{is_true_at}
use Rattle.normal_atoms.proofs.Relations.{holds_so, chain}
use Rattle.normal_atoms.proofs.Congruences.{congruent_says}

-- the atom may be asked at the point
abbrev pub IsAskable : Atom → Point ℕ → Type 0
IsAskable (Compare r f) p = Unit {0}
IsAskable (Congruent b n f) p = (0 < n) × (p.below ≡ 1)

match_test : (b : Bool) {P : Type 0} → P ↔ (b ≡ true) → MatchBool b P (¬ P)
match_test true e = e.1 refl
match_test false e = λ h. let k = e.0 h in absurd (cc)

match_not : (b : Bool) {P : Type 0} → P ↔ (b ≡ true) → MatchBool (not b) (¬ P) (¬ (¬ P))
match_not true e = λ n. n (e.1 refl)
match_not false e = λ h. let k = e.0 h in absurd (cc)

residue_so : (n : ℕ) (v : ℤ) → 0 < n → Divides (pos n) v ↔ (int_eq (residue_of v (pos n)) (pos 0) ≡ true)
residue_so n v h =
    let p : pos 0 <ℤ pos n = omega (arith, ints) in
    let d = signed_Decides (residue_of v (pos n)) (pos 0) in
    (λ k. d.1 (residue_of_multiple p k), λ e. divides_from_residue p (d.0 e))

pub true_at_says : (a : Atom) (p : Point ℕ) → IsAskable a p → MatchBool (is_true_at a (value (form_of a) p)) (Says a p) (¬ (Says a p))
true_at_says (Compare r f) p i = match_test (holds r (int_cmp (value f p) (pos 0))) (holds_so r (value f p) (pos 0))
true_at_says (Congruent true n f) p i = match_test (int_eq (residue_of (value f p) (pos n)) (pos 0)) (chain (congruent_says true n f p i.1) (residue_so n (value f p) i.0))
true_at_says (Congruent false n f) p i = match_not (int_eq (residue_of (value f p) (pos n)) (pos 0)) (chain (congruent_says true n f p i.1) (residue_so n (value f p) i.0))

beq_true : (d : Bool) → beq d true ≡ d
beq_true true = refl
beq_true false = refl

beq_false : (d : Bool) → beq d false ≡ not d
beq_false true = refl
beq_false false = refl

told_test : (d h : Bool) (n : ℕ) (v : ℤ) (f : Form) → d ≡ int_eq (residue_of v (pos n)) (pos 0) → beq d h ≡ is_true_at (Congruent h n f) v
told_test d true n v f t = beq_true d ∙ t
told_test d false n v f t = beq_false d ∙ ap not t

-- a test held against what the congruence says
pub congruent_outcome : (d h : Bool) (m n : ℤ) (f : Form) (p : Point ℕ) → pos 0 <ℤ m → p.below ≡ 1 → d ≡ int_eq (residue_of n m) (pos 0) → n ≡ value f p →
    MatchBool (beq d h) (Says (Congruent h (unsigned_abs m) f) p) (¬ (Says (Congruent h (unsigned_abs m) f) p))
congruent_outcome d h m n f p k w e v =
    let i : 0 < unsigned_abs m = omega (arith, ints) in
    let q : m ≡ pos (unsigned_abs m) = omega (arith, ints) in
    let t : d ≡ int_eq (residue_of (value f p) (pos (unsigned_abs m))) (pos 0) = e ∙ (λ j. int_eq (residue_of (v j) (q j)) (pos 0)) in
    subst (λ b. MatchBool b (Says (Congruent h (unsigned_abs m) f) p) (¬ (Says (Congruent h (unsigned_abs m) f) p))) (sym (told_test d h (unsigned_abs m) (value f p) f t)) (true_at_says (Congruent h (unsigned_abs m) f) p (i, w))
