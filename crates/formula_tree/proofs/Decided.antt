-- The test of equality of shapes tells them apart.
use Rattle.std.proofs.Common.{◌≡◌, true, false, Bool, refl, ◌&&◌, ap, sym, true≢false, List, [], ◌∷◌}
use denote.RattleType.{RattleType}
use mir.Syntax.{Dict}
use Rattle.std.specs.Cmp.{first_so, second_so, signed_Decides, unsigned_Decides}
use Rattle.std.specs.Cmp.Lexicographic.{pointwise}
use Rattle.std.specs.Prelude.{nat_eq, ℤ}
use Rattle.std.specs.Ordering.{int_eq}
use Rattle.std.specs.declared.cmp.PartialEq.{Ghosts}
use Rattle.logic_meaning.specs.Form.{Form}
use Rattle.normal_atoms.specs.FromLinearForms.{form_eq, form_decides}
use Rattle.logic_meaning.specs.declared.form.VarId.{VarId}
use Rattle.normal_atoms.specs.declared.atoms.Rel.{Rel}
use Rattle.normal_atoms.specs.declared.atoms.Rel.TheVariants as rel
use Rattle.normal_atoms.specs.declared.atoms.Atom.{Atom}
use Rattle.normal_atoms.specs.declared.atoms.Atom.TheVariants as atom
use Rattle.formula_tree.specs.declared.shape.Shape.{Shape}
use Rattle.formula_tree.specs.declared.shape.Shape.TheVariants as shape
use Rattle.formula_tree.specs.contracts.shape.ShapePartialEq.TheImpl as impl
use Rattle.normal_atoms.specs.contracts.atoms.RelPartialEq.TheImpl as relations
use Rattle.normal_atoms.specs.contracts.atoms.AtomPartialEq.TheImpl as atoms

pub same_relation : (r s : Rel) → relations.ghosts.eq r s ≡ true → r ≡ s
same_relation rel.Equal rel.Equal h = refl
same_relation rel.Differs rel.Differs h = refl
same_relation rel.Less rel.Less h = refl
same_relation rel.AtMost rel.AtMost h = refl
same_relation rel.Greater rel.Greater h = refl
same_relation rel.AtLeast rel.AtLeast h = refl
same_relation r s h = absurd (true≢false (sym h))

same_numbers : (m n : ℤ) (f g : Form) → (int_eq m n && form_eq f g) ≡ true → (m ≡ n) × (f ≡ g)
same_numbers m n f g h = ((signed_Decides m n).0 (first_so (int_eq m n) (form_eq f g) h), (form_decides f g).0 (second_so (int_eq m n) (form_eq f g) h))

pub same_atom : (a b : Atom) → atoms.ghosts.eq a b ≡ true → a ≡ b
same_atom (atom.Compare r f) (atom.Compare s g) h =
    let p = same_relation r s (first_so (relations.ghosts.eq r s) (form_eq f g) h) in
    let q = (form_decides f g).0 (second_so (relations.ghosts.eq r s) (form_eq f g) h) in
    λ i. atom.Compare (p i) (q i)
same_atom (atom.Congruent true m f) (atom.Congruent true n g) h = let p = same_numbers m n f g h in λ i. atom.Congruent true (p.0 i) (p.1 i)
same_atom (atom.Congruent false m f) (atom.Congruent false n g) h = let p = same_numbers m n f g h in λ i. atom.Congruent false (p.0 i) (p.1 i)
same_atom (atom.Congruent true m f) (atom.Congruent false n g) h = absurd (true≢false (sym h))
same_atom (atom.Congruent false m f) (atom.Congruent true n g) h = absurd (true≢false (sym h))
same_atom a b h = absurd (true≢false (sym h))

module _ (I : RattleType) (gs : Ghosts I.Denot) (d : Dict) (same : (a b : I.Denot) → gs.eq a b ≡ true → a ≡ b) where
  same_pair : (a b c e : I.Denot) → (gs.eq a c && gs.eq b e) ≡ true → (a ≡ c) × (b ≡ e)
  same_pair a b c e h = (same a c (first_so (gs.eq a c) (gs.eq b e) h), same b e (second_so (gs.eq a c) (gs.eq b e) h))

  same_list : (these those : List I.Denot) → pointwise gs.eq these those ≡ true → these ≡ those
  same_list [] [] h = refl
  same_list (a ∷ these) (b ∷ those) h =
      let p = same a b (first_so (gs.eq a b) (pointwise gs.eq these those) h) in let q = same_list these those (second_so (gs.eq a b) (pointwise gs.eq these those) h) in λ i. p i ∷ q i
  same_list these those h = absurd (true≢false (sym h))

  same_bound : (x y : VarId) (a b : I.Denot) → (nat_eq x.number y.number && gs.eq a b) ≡ true → (x ≡ y) × (a ≡ b)
  same_bound x y a b h =
      let n : x.number ≡ y.number = (unsigned_Decides x.number y.number).0 (first_so (nat_eq x.number y.number) (gs.eq a b) h) in
      (λ i. record { number = n i }, same a b (second_so (nat_eq x.number y.number) (gs.eq a b) h))

  pub same_shape : (s t : Shape I.Denot) → (impl.eq-value I gs d).it s t ≡ true → s ≡ t
  same_shape shape.True shape.True h = refl
  same_shape shape.False shape.False h = refl
  same_shape (shape.One a) (shape.One b) h = ap shape.One (same_atom a b h)
  same_shape (shape.And ids) (shape.And more) h = ap shape.And (same_list ids more h)
  same_shape (shape.Or ids) (shape.Or more) h = ap shape.Or (same_list ids more h)
  same_shape (shape.Not a) (shape.Not b) h = ap shape.Not (same a b h)
  same_shape (shape.Impl a b) (shape.Impl c e) h = let p = same_pair a b c e h in λ i. shape.Impl (p.0 i) (p.1 i)
  same_shape (shape.Repl a b) (shape.Repl c e) h = let p = same_pair a b c e h in λ i. shape.Repl (p.0 i) (p.1 i)
  same_shape (shape.Equiv a b) (shape.Equiv c e) h = let p = same_pair a b c e h in λ i. shape.Equiv (p.0 i) (p.1 i)
  same_shape (shape.Ex x a) (shape.Ex y b) h = let p = same_bound x y a b h in λ i. shape.Ex (p.0 i) (p.1 i)
  same_shape (shape.All x a) (shape.All y b) h = let p = same_bound x y a b h in λ i. shape.All (p.0 i) (p.1 i)
  same_shape s t h = absurd (true≢false (sym h))

-- each is the same as itself
itself_relation : (r : Rel) → relations.ghosts.eq r r ≡ true
itself_relation rel.Equal = refl
itself_relation rel.Differs = refl
itself_relation rel.Less = refl
itself_relation rel.AtMost = refl
itself_relation rel.Greater = refl
itself_relation rel.AtLeast = refl

both_so : (a b : Bool) → a ≡ true → b ≡ true → (a && b) ≡ true
both_so a b h k = λ i. h i && k i

itself_form : (f : Form) → form_eq f f ≡ true
itself_form f = (form_decides f f).1 refl

itself_number : (m : ℤ) → int_eq m m ≡ true
itself_number m = (signed_Decides m m).1 refl

pub itself_atom : (a : Atom) → atoms.ghosts.eq a a ≡ true
itself_atom (atom.Compare r f) = both_so (relations.ghosts.eq r r) (form_eq f f) (itself_relation r) (itself_form f)
itself_atom (atom.Congruent true m f) = both_so (int_eq m m) (form_eq f f) (itself_number m) (itself_form f)
itself_atom (atom.Congruent false m f) = both_so (int_eq m m) (form_eq f f) (itself_number m) (itself_form f)

module _ (I : RattleType) (gs : Ghosts I.Denot) (d : Dict) (itself : (a : I.Denot) → gs.eq a a ≡ true) where
  itself_list : (ids : List I.Denot) → pointwise gs.eq ids ids ≡ true
  itself_list [] = refl
  itself_list (a ∷ ids) = both_so (gs.eq a a) (pointwise gs.eq ids ids) (itself a) (itself_list ids)

  itself_bound : (x : VarId) (a : I.Denot) → (nat_eq x.number x.number && gs.eq a a) ≡ true
  itself_bound x a = both_so (nat_eq x.number x.number) (gs.eq a a) ((unsigned_Decides x.number x.number).1 refl) (itself a)

  pub itself_shape : (s : Shape I.Denot) → (impl.eq-value I gs d).it s s ≡ true
  itself_shape shape.True = refl
  itself_shape shape.False = refl
  itself_shape (shape.One a) = itself_atom a
  itself_shape (shape.And ids) = itself_list ids
  itself_shape (shape.Or ids) = itself_list ids
  itself_shape (shape.Not a) = itself a
  itself_shape (shape.Impl a b) = both_so (gs.eq a a) (gs.eq b b) (itself a) (itself b)
  itself_shape (shape.Repl a b) = both_so (gs.eq a a) (gs.eq b b) (itself a) (itself b)
  itself_shape (shape.Equiv a b) = both_so (gs.eq a a) (gs.eq b b) (itself a) (itself b)
  itself_shape (shape.Ex x a) = itself_bound x a
  itself_shape (shape.All x a) = itself_bound x a
