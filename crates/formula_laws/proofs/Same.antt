-- The equality tests of forms, atoms and places: what is the same is equal.
use Rattle.std.proofs.Common.{◌≡◌, ℕ, zero, suc, Bool, true, false, ◌&&◌, List, [], ◌∷◌, ap, ap₂, sym, ◌∙◌, refl, nat_eq, eqb-true}
use Rattle.std.proofs.Math.IntN.{ℤ}
use Rattle.std.specs.Ordering.{int_eq}
use Rattle.std.proofs.lemmas.Bool.{eq-eqb}
use Rattle.std.proofs.lemmas.Bool.Decides.{Decides-int_eq}
use Rattle.logic_meaning.specs.Form.{Form, Term}
use Rattle.logic_meaning.specs.Atom.{Atom, Compare, Congruent, Relation, Equals, Differs, Below, AtMost, Above, AtLeast}
use Rattle.logic_meaning.specs.Answer.{Place, Exact, AboveBy, BelowBy, PlusInfinity, MinusInfinity, Periodic, same_place}
use Rattle.logic_meaning.specs.Same.{same_terms, same_form, rank, same_atom}

-- ---- what is the same is equal

pub and_left : (a b : Bool) → (a && b) ≡ true → a ≡ true
and_left true b e = refl
and_left false b e = e

pub and_right : (a b : Bool) → (a && b) ≡ true → b ≡ true
and_right true b e = e
and_right false b e = absurd (cc (e))

int_same : (a b : ℤ) → int_eq a b ≡ true → a ≡ b
int_same a b e = (Decides-int_eq a b).0 e

term_same : (t u : Term) → t.times ≡ u.times → t.name ≡ u.name → t ≡ u
term_same t u e f = ap₂ (λ a (n : ℕ). let r : Term = record { times = a; name = n } in r) e f

pub terms_same : (ts us : List Term) → same_terms ts us ≡ true → ts ≡ us
terms_same [] [] e = refl
terms_same [] (u ∷ us) e = absurd (cc (e))
terms_same (t ∷ ts) [] e = absurd (cc (e))
terms_same (t ∷ ts) (u ∷ us) e =
    let r = and_right (int_eq t.times u.times) _ e in
    ap₂ (λ x xs. x ∷ xs)
    (term_same t u (int_same _ _ (and_left (int_eq t.times u.times) _ e)) (eqb-true _ _ (and_left (nat_eq t.name u.name) _ r)))
    (terms_same ts us (and_right (nat_eq t.name u.name) _ r))

pub form_same : (f g : Form) → same_form f g ≡ true → f ≡ g
form_same f g e =
    ap₂ (λ xs a. let r : Form = record { terms = xs; constant = a } in r)
    (terms_same f.terms g.terms (and_right (int_eq f.constant g.constant) _ e))
    (int_same f.constant g.constant (and_left (int_eq f.constant g.constant) _ e))

unranked : ℕ → Relation
unranked zero = Equals
unranked (suc zero) = Differs
unranked (suc (suc zero)) = Below
unranked (suc (suc (suc zero))) = AtMost
unranked (suc (suc (suc (suc zero)))) = Above
unranked (suc (suc (suc (suc (suc n))))) = AtLeast

unranked_rank : (r : Relation) → unranked (rank r) ≡ r
unfolding unranked
unranked_rank Equals = refl
unranked_rank Differs = refl
unranked_rank Below = refl
unranked_rank AtMost = refl
unranked_rank Above = refl
unranked_rank AtLeast = refl

relation_same : (r s : Relation) → nat_eq (rank r) (rank s) ≡ true → r ≡ s
relation_same r s e = sym (unranked_rank r) ∙ ap unranked (eqb-true _ _ e) ∙ unranked_rank s

numbered : {T : Type 0} (make : ℕ → Form → T) (m n : ℕ) (f g : Form) → (nat_eq m n && same_form f g) ≡ true → make m f ≡ make n g
numbered make m n f g e = ap₂ make (eqb-true _ _ (and_left (nat_eq m n) _ e)) (form_same f g (and_right (nat_eq m n) _ e))

pub atom_same : (a b : Atom) → same_atom a b ≡ true → a ≡ b
atom_same (Compare r f) (Compare s g) e = ap₂ Compare (relation_same r s (and_left (nat_eq (rank r) (rank s)) _ e)) (form_same f g (and_right (nat_eq (rank r) (rank s)) _ e))
atom_same (Congruent true m f) (Congruent true n g) e = numbered (Congruent true) m n f g e
atom_same (Congruent false m f) (Congruent false n g) e = numbered (Congruent false) m n f g e
atom_same _ _ e = absurd (cc (e))

placed : (make : Form → ℕ → Place) (c d : ℕ) (e f : Form) → (nat_eq c d && same_form e f) ≡ true → make e c ≡ make f d
placed make c d e f h = ap₂ make (form_same e f (and_right (nat_eq c d) _ h)) (eqb-true _ _ (and_left (nat_eq c d) _ h))

pub place_same : (s t : Place) → same_place s t ≡ true → s ≡ t
place_same (Exact e c) (Exact f d) h = placed Exact c d e f h
place_same (AboveBy e c) (AboveBy f d) h = placed AboveBy c d e f h
place_same (BelowBy e c) (BelowBy f d) h = placed BelowBy c d e f h
place_same PlusInfinity PlusInfinity h = refl
place_same MinusInfinity MinusInfinity h = refl
place_same (Periodic a p) (Periodic b q) h = ap₂ Periodic (int_same a b (and_left (int_eq a b) _ h)) (int_same p q (and_right (int_eq a b) _ h))
place_same _ _ h = absurd (cc (h))

-- ---- and the other way

pub both_true : (a b : Bool) → a ≡ true → b ≡ true → (a && b) ≡ true
both_true true b e f = f
both_true false b e f = e

same_number : (n : ℕ) → nat_eq n n ≡ true
same_number n = eq-eqb n n refl

same_whole : (a : ℤ) → int_eq a a ≡ true
same_whole a = (Decides-int_eq a a).1 refl

terms_alike : (ts : List Term) → same_terms ts ts ≡ true
terms_alike [] = refl
terms_alike (t ∷ ts) = both_true _ _ (same_whole t.times) (both_true _ _ (same_number t.name) (terms_alike ts))

pub form_alike : (f : Form) → same_form f f ≡ true
form_alike f = both_true _ _ (same_whole f.constant) (terms_alike f.terms)

pub atom_alike : (a : Atom) → same_atom a a ≡ true
atom_alike (Compare r f) = both_true _ _ (same_number (rank r)) (form_alike f)
atom_alike (Congruent true n f) = both_true _ _ (same_number n) (form_alike f)
atom_alike (Congruent false n f) = both_true _ _ (same_number n) (form_alike f)

pub place_alike : (s : Place) → same_place s s ≡ true
place_alike (Exact e d) = both_true _ _ (same_number d) (form_alike e)
place_alike (AboveBy e d) = both_true _ _ (same_number d) (form_alike e)
place_alike (BelowBy e d) = both_true _ _ (same_number d) (form_alike e)
place_alike PlusInfinity = refl
place_alike MinusInfinity = refl
place_alike (Periodic a q) = both_true _ _ (same_whole a) (same_whole q)
