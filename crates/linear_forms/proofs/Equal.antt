-- Lists of pairs are equal, and feed a hash, as the lists of their terms.
use Rattle.std.proofs.Common.{◌≡◌, suc, Bool, ◌&&◌, List, [], ◌∷◌, ◌++◌, length, ap, ◌∙◌, refl, nat_eq}
use Rattle.std.proofs.Math.IntN.{ℤ}
use Rattle.std.specs.Ordering.{int_eq}
use Rattle.std.specs.List.{flat_map}
use Rattle.std.specs.Hash.{slice, usize, i128}
use Rattle.std.specs.Cmp.Lexicographic.{pointwise}
use Rattle.logic_meaning.specs.declared.form.VarId.{VarId}
use Rattle.linear_forms.specs.Linear.{term_of, terms_of}
use Rattle.linear_forms.specs.Equality.{term_eq, form_eq, term_writes}
use Rattle.logic_meaning.specs.Form.{Form}

pub pairs_eq : (xs ys : List (VarId × ℤ)) → pointwise (λ p q. nat_eq p.0.number q.0.number && int_eq p.1 q.1) xs ys ≡ pointwise term_eq (terms_of xs) (terms_of ys)
pairs_eq [] [] = refl
pairs_eq [] (q ∷ ys) = refl
pairs_eq (p ∷ xs) [] = refl
pairs_eq (p ∷ xs) (q ∷ ys) = ap (λ b. term_eq (term_of p) (term_of q) && b) (pairs_eq xs ys)

-- the forms are tested as their pairs and constants
pub forms_eq : (xs ys : List (VarId × ℤ)) (m n : ℤ) (f g : Form) (b : Bool) → b ≡ pointwise (λ p q. nat_eq p.0.number q.0.number && int_eq p.1 q.1) xs ys →
    record { terms = terms_of xs; constant = m } ≡ f → record { terms = terms_of ys; constant = n } ≡ g → (b && int_eq m n) ≡ form_eq f g
forms_eq xs ys m n f g b h e i = ap (λ a. a && int_eq m n) (h ∙ pairs_eq xs ys) ∙ ap (λ (k : Form). form_eq k (record { terms = terms_of ys; constant = n })) e ∙ ap (form_eq f) i

pub length_terms_of : (xs : List (VarId × ℤ)) → length xs ≡ length (terms_of xs)
length_terms_of [] = refl
length_terms_of (p ∷ xs) = ap suc (length_terms_of xs)

pairs_fed : (xs : List (VarId × ℤ)) → flat_map (λ p. usize p.0.number ++ i128 p.1) xs ≡ flat_map term_writes (terms_of xs)
pairs_fed [] = refl
pairs_fed (p ∷ xs) = ap (λ ws. term_writes (term_of p) ++ ws) (pairs_fed xs)

-- the pairs feed what their terms do
pub slice_fed : (xs : List (VarId × ℤ)) → slice (λ p. usize p.0.number ++ i128 p.1) xs ≡ slice term_writes (terms_of xs)
slice_fed xs = λ i. usize (length_terms_of xs i) ++ pairs_fed xs i
