-- Names of a list, and the names that stand in some atom of a formula.
use Rattle.std.proofs.Common.{◌≡◌, ℕ, suc, zero, ◌<◌, Bool, true, false, if◌then◌else◌, List, [], ◌∷◌, map, length, get_or, refl, ap, sym, ◌∙◌, subst, arith, inl, inr, ⊎_elim, ◌↔◌, true≢false, int_eq}
use Rattle.std.specs.Prelude.{pos}
use Rattle.std.specs.Cmp.{signed_Decides}
use Rattle.logic_meaning.specs.Formula.{Yes, No, One, Not, And, Or, Impl, Repl, Equiv, Ex, All, none, also}
use Rattle.logic_meaning.specs.Every.{FreeInSome}
use Rattle.logic_meaning.specs.Some.{Among}
use Rattle.logic_meaning.specs.Form.{coefficient}
use Rattle.logic_meaning.specs.Plain.{IsPlain, ArePlain}
use Rattle.logic_meaning.specs.Atom.{Atom, Mentions, form_of}
use Rattle.logic_meaning.specs.Same.{same_atom}
use Rattle.logic_meaning.specs.Tree.{Tree, Trees, IsFree}
use Rattle.formula_laws.proofs.Listed.{among_left, among_right, among_distinct}
use Rattle.formula_laws.proofs.Same.{atom_same}
use Rattle.logic_meaning.specs.Atoms.{atoms_in, atoms_in_all, atoms_of}
use Rattle.elimination_theory.proofs.FieldsNames.{atom_free}
use Rattle.logic_meaning.specs.Reference.{stands_among}
use Rattle.logic_meaning.specs.declared.form.VarId.{VarId}

-- ---- lists

module _ {X : Type 0} where
  -- the element at a place
  pub at_place : (xs : List X) (i : ℕ) (d : X) → i < length xs → Among xs (get_or xs i d)
  at_place [] i d h = absurd (omega arith)
  at_place (x ∷ xs) zero d h = inl refl
  at_place (x ∷ xs) (suc i) d h = inr (at_place xs i d (omega arith))

abbrev pub numbers : List VarId → List ℕ
numbers left = map (λ (x : VarId). x.number) left

pub number_among : (left : List VarId) (x : VarId) → Among left x → Among (numbers left) x.number
number_among [] x m = absurd m
number_among (y ∷ left) x (inl e) = inl (ap (λ (z : VarId). z.number) e)
number_among (y ∷ left) x (inr m) = inr (number_among left x m)

pub among_numbers : (left : List VarId) (n : ℕ) → Among (numbers left) n → (x : VarId) × Among left x × (x.number ≡ n)
among_numbers [] n m = absurd m
among_numbers (y ∷ left) n (inl e) = (y, inl refl, e)
among_numbers (y ∷ left) n (inr m) = let r = among_numbers left n m in (r.0, inr r.1, r.2)

-- where there is one name, a name of the list is it
pub only_name : (left : List VarId) (x : VarId) (n : ℕ) → numbers left ≡ n ∷ [] → Among left x → x.number ≡ n
only_name left x n e m = ⊎_elim (λ i. sym i) absurd (subst (λ (ns : List ℕ). Among ns x.number) e (number_among left x m))

-- ---- formulas

mutual
  -- a free name stands in some atom
  named_atom : (f : Tree) (y : ℕ) → IsPlain f → IsFree f y → (a : Atom) × Among (atoms_in f) a × Mentions a y
  named_atom Yes y p h = absurd h
  named_atom No y p h = absurd h
  named_atom (One a) y p h = (a, inl refl, h)
  named_atom (Not f) y p h = absurd p
  named_atom (And fs) y p h = named_atoms fs y p h
  named_atom (Or fs) y p h = named_atoms fs y p h
  named_atom (Impl f g) y p h = absurd p
  named_atom (Repl f g) y p h = absurd p
  named_atom (Equiv f g) y p h = absurd p
  named_atom (Ex x f) y p h = absurd p
  named_atom (All x f) y p h = absurd p

  named_atoms : (fs : Trees) (y : ℕ) → ArePlain fs → FreeInSome Mentions fs y → (a : Atom) × Among (atoms_in_all fs) a × Mentions a y
  named_atoms none y p h = absurd h
  named_atoms (also f fs) y p (inl h) = let r = named_atom f y p.0 h in (r.0, among_left (atoms_in f) (atoms_in_all fs) r.0 r.1, r.2)
  named_atoms (also f fs) y p (inr h) = let r = named_atoms fs y p.1 h in (r.0, among_right (atoms_in f) (atoms_in_all fs) r.0 r.1, r.2)

-- ---- the test for a name

stands_in : (x : ℕ) (atoms : List Atom) → stands_among x atoms ≡ true → (a : Atom) × Among atoms a × Mentions a x
stands_in x [] e = absurd (true≢false (sym e))
stands_in x (a ∷ atoms) e = go (int_eq (coefficient x (form_of a)) (pos 0)) refl e (stands_in x atoms)
  where
    go : (b : Bool) → int_eq (coefficient x (form_of a)) (pos 0) ≡ b → (if b then stands_among x atoms else true) ≡ true →
        (stands_among x atoms ≡ true → (d : Atom) × Among atoms d × Mentions d x) → (d : Atom) × Among (a ∷ atoms) d × Mentions d x
    go true i h r = let q = r h in (q.0, inr q.1, q.2)
    go false i h r = (a, inl refl, λ z. true≢false (sym ((signed_Decides (coefficient x (form_of a)) (pos 0)).1 z) ∙ i))

stands_nowhere : (x : ℕ) (atoms : List Atom) (a : Atom) → stands_among x atoms ≡ false → Among atoms a → ¬ (Mentions a x)
stands_nowhere x [] a e m = absurd m
stands_nowhere x (b ∷ atoms) a e m = go (int_eq (coefficient x (form_of b)) (pos 0)) refl e m (stands_nowhere x atoms a)
  where
    go : (t : Bool) → int_eq (coefficient x (form_of b)) (pos 0) ≡ t → (if t then stands_among x atoms else true) ≡ false → Among (b ∷ atoms) a →
        (stands_among x atoms ≡ false → Among atoms a → ¬ (Mentions a x)) → ¬ (Mentions a x)
    go true i h (inl s) r n = subst (λ (d : Atom). Mentions d x) (sym s) n ((signed_Decides (coefficient x (form_of b)) (pos 0)).0 i)
    go true i h (inr k) r n = r h k n
    go false i h k r n = absurd (true≢false h)

-- with the atoms of a formula it tells the free names
pub free_where_standing : (f : Tree) (x : ℕ) (atoms : List Atom) → IsPlain f → ((a : Atom) → Among atoms a ↔ Among (atoms_of f) a) → stands_among x atoms ≡ true → IsFree f x
free_where_standing f x atoms p same e = let r = stands_in x atoms e in atom_free f x p r.0 ((same r.0).0 r.1) r.2

pub absent_where_not : (f : Tree) (x : ℕ) (atoms : List Atom) → IsPlain f → ((a : Atom) → Among atoms a ↔ Among (atoms_of f) a) → stands_among x atoms ≡ false → ¬ (IsFree f x)
absent_where_not f x atoms p same e h =
    let r = named_atom f x p h in
    stands_nowhere x atoms r.0 e ((same r.0).1 (among_distinct same_atom atom_same (atoms_in f) r.0 r.1)) r.2
