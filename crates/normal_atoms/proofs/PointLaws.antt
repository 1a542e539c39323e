-- What merging and deciding say at the points of the theory.
use Rattle.std.proofs.Common.{◌≡◌, ◌↔◌, ℕ, Bool, true, false, sym, ◌∙◌, ap, inl, inr, arith}
use Rattle.std.proofs.Math.IntN.{ℤ, pos, ◌+ℤ◌, ◌*ℤ◌}
use Rattle.std.proofs.lemmas.Int.{ints}
use Rattle.exact_numbers.specs.Divides.{Divides}
use Rattle.exact_numbers.proofs.Ring.{mul_zero}
use Rattle.exact_numbers.proofs.Order.{cancel}
use Rattle.exact_numbers.proofs.Contents.{content_is}
use Rattle.logic_meaning.specs.Context.{Context, Fields, Integers}
use Rattle.logic_meaning.specs.Point.{Point, Of}
use Rattle.logic_meaning.specs.Form.{Form, total, multiple, value, coefficient}
use Rattle.logic_meaning.specs.Atom.{Relation, Relates, Atom, Compare, Congruent, Says, Mentions}
use Rattle.logic_meaning.specs.declared.junction.Junction.{Junction}
use Rattle.logic_meaning.specs.declared.junction.Junction.TheVariants.{Conjunction, Disjunction}
use Rattle.logic_meaning.specs.Terms.{coefficients}
use Rattle.linear_forms.proofs.Quotients.{total_quotients, multiple_quotients}
use Rattle.logic_meaning.specs.NormalForm.{IsNormal}
use Rattle.normal_atoms.proofs.Relations.{chain, back, along, never}
use Rattle.normal_atoms.proofs.Comparisons.{value_whole}
use Rattle.normal_atoms.proofs.Congruences.{congruent_says}
use Rattle.logic_meaning.specs.Merging.{variable_part, SamePart, StandsFor, Joined, IsSettled, Settles, MergesInto, Implies, Excludes}
use Rattle.normal_atoms.proofs.Thresholds.{content_positive_in}
use Rattle.normal_atoms.proofs.JoinedComparisons.{content, normal_content}

-- ---- the value of the variable part at a point

abbrev pub place_of : Atom → Point ℕ → ℤ
place_of (Compare r f) p = total (variable_part f.terms) p.at
place_of (Congruent b m f) p = total f.terms p.at

same_place : (a b : Atom) (p : Point ℕ) → SamePart a b → place_of a p ≡ place_of b p
same_place (Compare r f) (Compare s g) p h = ap (λ ts. total ts p.at) h
same_place (Congruent b m f) (Congruent d n g) p h = ap (λ ts. total ts p.at) h.1
same_place (Compare r f) (Congruent d n g) p h = absurd h
same_place (Congruent b m f) (Compare s g) p h = absurd h

content_nonzero : (c : Context) (r : Relation) (f : Form) → IsNormal c (Compare r f) → ¬ (content f ≡ pos 0)
content_nonzero c r f n = let p = content_positive_in c (content f) (normal_content c r f n) in λ (e : content f ≡ pos 0). omega (arith, ints)

comparison_value : (c : Context) (r : Relation) (f : Form) (p : Point ℕ) → IsNormal c (Compare r f) → value f p ≡ content f *ℤ total (variable_part f.terms) p.at +ℤ f.constant *ℤ pos p.below
unfolding value
comparison_value c r f p n = ap (λ z. z +ℤ f.constant *ℤ pos p.below) (sym (total_quotients (content f) (content_nonzero c r f n) f.terms p.at (content_is (coefficients f.terms)).divides))

congruence_stands : (b : Bool) (m : ℕ) (f : Form) (p : Point ℕ) → p.below ≡ 1 → Says (Congruent b m f) p ↔ StandsFor (Congruent b m f) (total f.terms p.at) p.below
congruence_stands true m f p e = chain (congruent_says true m f p e) (along (Divides (pos m)) (value_whole f p e))
congruence_stands false m f p e = chain (congruent_says false m f p e) (never (along (Divides (pos m)) (value_whole f p e)))

-- a normal atom is true at a point exactly where it stands for the value of its variable part there
says_stands : (c : Context) (a : Atom) (p : Point ℕ) → IsNormal c a → Of c p → Says a p ↔ StandsFor a (place_of a p) p.below
says_stands Fields (Compare r f) p n o = along (λ z. Relates r z (pos 0)) (comparison_value Fields r f p n)
says_stands Integers (Compare r f) p n o = along (λ z. Relates r z (pos 0)) (comparison_value Integers r f p n)
says_stands Integers (Congruent b m f) p n o = congruence_stands b m f p o
says_stands Fields (Congruent b m f) p n o = absurd n

stands_at : (c : Context) (a b : Atom) (p : Point ℕ) → IsNormal c b → Of c p → SamePart a b → Says b p ↔ StandsFor b (place_of a p) p.below
stands_at c a b p n o s = chain (says_stands c b p n o) (along (λ z. StandsFor b z p.below) (sym (same_place a b p s)))

-- ---- joins

joined_both : (j : Junction) {P Q R S : Type 0} → P ↔ R → Q ↔ S → Joined j P Q ↔ Joined j R S
joined_both Conjunction p q = (λ h. (p.0 h.0, q.0 h.1), λ h. (p.1 h.0, q.1 h.1))
joined_both Disjunction p q = (λ h. elim h [ inl x ↦ inl (p.0 x) | inr y ↦ inr (q.0 y) ], λ h. elim h [ inl x ↦ inl (p.1 x) | inr y ↦ inr (q.1 y) ])

settled_both : (j : Junction) {P Q R S : Type 0} → P ↔ R → Q ↔ S → IsSettled j R S → IsSettled j P Q
settled_both Conjunction p q n = λ h. n (p.0 h.0, q.0 h.1)
settled_both Disjunction p q h = elim h [ inl x ↦ inl (p.1 x) | inr y ↦ inr (q.1 y) ]

pub merged_says : (c : Context) (j : Junction) (a b e : Atom) → IsNormal c a → IsNormal c b → MergesInto c j a b e → (p : Point ℕ) → Of c p → Says e p ↔ Joined j (Says a p) (Says b p)
merged_says c j a b e x y m p o =
    chain (stands_at c a e p m.normal o m.keeps_part)
    (chain (m.stands_for (place_of a p) p.below o)
    (back (joined_both j (says_stands c a p x o) (stands_at c a b p y o m.same_part))))

pub settled_says : (c : Context) (j : Junction) (a b : Atom) → IsNormal c a → IsNormal c b → Settles c j a b → (p : Point ℕ) → Of c p → IsSettled j (Says a p) (Says b p)
settled_says c j a b x y s p o = settled_both j (says_stands c a p x o) (stands_at c a b p y o s.same_part) (s.settled (place_of a p) p.below o)

pub implied_says : (c : Context) (a b : Atom) → IsNormal c a → IsNormal c b → (p : Point ℕ) → Of c p → Implies c a b → Says a p → Says b p
implied_says c a b x y p o h s = (stands_at c a b p y o h.same_part).1 (h.within (place_of a p) p.below o ((says_stands c a p x o).0 s))

pub excluded_says : (c : Context) (a b : Atom) → IsNormal c a → IsNormal c b → (p : Point ℕ) → Of c p → Excludes c a b → Says a p → ¬ (Says b p)
excluded_says c a b x y p o h s t = settled_says c Conjunction a b x y h p o (s, t)

-- ---- names

same_names : (c : Context) (a b : Atom) (x : ℕ) → IsNormal c a → IsNormal c b → SamePart a b → Mentions b x → Mentions a x
unfolding coefficient
same_names c (Compare r f) (Compare s g) x n m h k e =
    let u = content_nonzero c r f n in
    let v = content_nonzero c s g m in
    let p = multiple_quotients (content f) u x f.terms (content_is (coefficients f.terms)).divides in
    let q = multiple_quotients (content g) v x g.terms (content_is (coefficients g.terms)).divides in
    let z : multiple x (variable_part f.terms) ≡ pos 0 = cancel (content f) u (p ∙ e ∙ sym (mul_zero (content f))) in
    k (sym q ∙ ap (λ w. content g *ℤ w) (sym (ap (multiple x) h) ∙ z) ∙ mul_zero (content g))
same_names c (Congruent b m f) (Congruent d o g) x n i h k e = k (sym (ap (multiple x) h.1) ∙ e)
same_names c (Compare r f) (Congruent d o g) x n i h k e = absurd h
same_names c (Congruent b m f) (Compare s g) x n i h k e = absurd h

part_back : (a b : Atom) → SamePart a b → SamePart b a
part_back (Compare r f) (Compare s g) h = sym h
part_back (Congruent b m f) (Congruent d n g) h = (sym h.0, sym h.1)
part_back (Compare r f) (Congruent d n g) h = absurd h
part_back (Congruent b m f) (Compare s g) h = absurd h

pub merged_names : (c : Context) (j : Junction) (a b e : Atom) → IsNormal c a → IsNormal c b → MergesInto c j a b e → (x : ℕ) → Mentions e x → Mentions a x × Mentions b x
merged_names c j a b e n m h x k =
    let s = same_names c a e x n h.normal h.keeps_part k in
    (s, same_names c b a x m n (part_back a b h.same_part) s)
