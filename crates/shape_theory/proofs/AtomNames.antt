-- The normal form of a normal atom whose names are changed one to one loses no name.
use Rattle.std.proofs.Common.{◌≡◌, ◌<◌, ℕ, Bool, true, false, not, List, [], ◌∷◌, inl, inr, ap, sym, ◌∙◌, subst, refl, arith, if◌then◌else◌}
use Rattle.std.proofs.Math.IntN.{ℤ, pos, negsuc, neg_ℤ, ◌-ℤ◌, ◌*ℤ◌}
use Rattle.std.specs.Prelude.{◌<ℤ◌, ◌≤ℤ◌, int_div}
use Rattle.std.specs.Ordering.{int_cmp, is_gt}
use Rattle.std.proofs.lemmas.Int.{ints}
use Rattle.std.proofs.lemmas.Bool.{cases_eq}
use Rattle.exact_numbers.specs.Divides.{Divides, content_of, floor_of, residue_of}
use Rattle.exact_numbers.specs.Division.{DividesAll, IsResidue}
use Rattle.exact_numbers.proofs.Ring.{mul_zero}
use Rattle.exact_numbers.proofs.Divisibility.{one_divides, divides_along, divides_neg, divides_same}
use Rattle.exact_numbers.proofs.Floor.{residue_is, residue_unique}
use Rattle.exact_numbers.proofs.Contents.{content_is, content_unique}
use Rattle.logic_meaning.specs.Context.{Context, Fields, Integers}
use Rattle.logic_meaning.specs.Formula.{Yes, No, One}
use Rattle.logic_meaning.specs.Form.{Form, Term, multiple, coefficient, scale}
use Rattle.logic_meaning.specs.Sorted.{AllAbove, IsRising, AllNonzero, IsSorted, gathered}
use Rattle.logic_meaning.specs.Some.{Among, EachOf}
use Rattle.logic_meaning.specs.Atom.{Atom, Relation, Equals, Differs, Below, AtMost, Above, AtLeast, Compare, Congruent, Mentions, form_of}
use Rattle.logic_meaning.specs.Tree.{Tree, IsFree}
use Rattle.formula_laws.proofs.Sorted.{here, elsewhere, scale_sorted}
use Rattle.formula_laws.proofs.Coefficients.{coefficient_scale}
use Rattle.formula_laws.proofs.Gathered.{coefficient_gathered, constant_gathered, gathered_sorted}
use Rattle.logic_meaning.specs.Terms.{coefficients}
use Rattle.logic_meaning.specs.Reduction.{quotients, quotient, residue_form, AllReduced}
use Rattle.linear_forms.proofs.Reduced.{by_equal}
use Rattle.linear_forms.proofs.Quotients.{quotient_one, one_quotient, multiple_quotients}
use Rattle.linear_forms.proofs.Residues.{multiple_residues, residue_form_stays}
use Rattle.logic_meaning.specs.NormalForm.{constant_tree, first, turned, facing, compared_in_fields, bound, rounded, compared_over_integers, smaller, congruence, coprime_congruence, reduced_congruence, congruent, normal_atom, IsNormal}
use Rattle.normal_atoms.proofs.Relations.{turned_nonzero, turned_divides_all, content_positive}
use Rattle.normal_atoms.proofs.Comparisons.{residue_one}
use Rattle.normal_atoms.proofs.Congruences.{congruence_coefficient}
use Rattle.logic_meaning.specs.Renaming.{form_named, atom_named}
use Rattle.shape_theory.specs.Links.{IsOneToOne}
use Rattle.shape_theory.proofs.NamedAtoms.{names_of, among_mentions, named_above, named_multiple, image_mentioned, coefficient_named}

-- ---- numbers of terms

module _ (P : ℤ → Type 0) where
  -- what holds of the coefficients holds of the multiples of the names, where these rise,
  from_terms : (ts : List Term) → IsRising ts → EachOf P (coefficients ts) → (z : ℕ) → Among (names_of ts) z → P (multiple z ts)
  from_terms [] r h z m = absurd m
  from_terms (t ∷ ts) r h z m =
      elim (cases_eq t.name z) [
        | inl e ↦ subst P (sym (here z t ts e (subst (λ (x : ℕ). AllAbove x ts) e r.0))) h.0
        | inr n ↦ subst P (sym (elsewhere z t ts n)) (from_terms ts r.1 h.1 z (later m n))
      ]
    where
      later : Among (names_of (t ∷ ts)) z → ¬ (t.name ≡ z) → Among (names_of ts) z
      later (inl e) n = absurd (n e)
      later (inr k) n = k

  -- and the other way round
  to_terms : (ts : List Term) → IsRising ts → ((z : ℕ) → Among (names_of ts) z → P (multiple z ts)) → EachOf P (coefficients ts)
  to_terms [] r h = tt
  to_terms (t ∷ ts) r h = (
    subst P (here t.name t ts refl r.0) (h t.name (inl refl)),
    to_terms ts r.1 (λ z m. let l = named_above z t.name ts r.0 m in subst P (elsewhere z t ts (λ (e : t.name ≡ z). omega arith)) (h z (inr m))),
  )

  -- each multiple of the second terms is one of the first
  abbrev HasMultiplesOf : List Term → List Term → Type 0
  HasMultiplesOf us ts = (w : ℕ) → Among (names_of us) w → (z : ℕ) × Among (names_of ts) z × (multiple z ts ≡ multiple w us)

  carried : (ts us : List Term) → IsRising ts → IsRising us → HasMultiplesOf us ts → EachOf P (coefficients ts) → EachOf P (coefficients us)
  carried ts us r s h k = to_terms us s (λ w m. let i = h w m in subst P i.2 (from_terms ts r k i.0 i.1))

pub multiple_among : (x : ℕ) (ts : List Term) → ¬ (multiple x ts ≡ pos 0) → Among (names_of ts) x
multiple_among x [] n = absurd (n refl)
multiple_among x (t ∷ ts) n =
    elim (cases_eq t.name x) [
      | inl e ↦ inl e
      | inr d ↦ inr (multiple_among x ts (λ z. n (elsewhere x t ts d ∙ z)))
    ]

divides_each : (d : ℤ) (xs : List ℤ) → DividesAll d xs → EachOf (Divides d) xs
divides_each d [] h = tt
divides_each d (x ∷ xs) h = (h.0, divides_each d xs h.1)

each_divides : (d : ℤ) (xs : List ℤ) → EachOf (Divides d) xs → DividesAll d xs
each_divides d [] h = tt
each_divides d (x ∷ xs) h = (h.0, each_divides d xs h.1)

-- the number is a residue
abbrev IsReduced : ℤ → ℤ → Type 0
IsReduced m k = (pos 0 ≤ℤ k) × (k <ℤ m)

reduced_each : (m : ℤ) (xs : List ℤ) → AllReduced m xs → EachOf (IsReduced m) xs
reduced_each m [] h = tt
reduced_each m (x ∷ xs) h = (h.0, reduced_each m xs h.1)

each_reduced : (m : ℤ) (xs : List ℤ) → EachOf (IsReduced m) xs → AllReduced m xs
each_reduced m [] h = tt
each_reduced m (x ∷ xs) h = (h.0, each_reduced m xs h.1)

ones : (xs : List ℤ) → DividesAll (pos 1) xs
ones [] = tt
ones (x ∷ xs) = (one_divides x, ones xs)

-- ---- the forms of an atom and of the atom with other names

-- the two forms have the same multiples, of other names
record IsMoved (f s : Form) : Type 0 where
  sorted : IsSorted f
  sorted_too : IsSorted s
  onto : (w : ℕ) → Among (names_of s.terms) w → (z : ℕ) × Among (names_of f.terms) z × (multiple z f.terms ≡ multiple w s.terms)
  back : (z : ℕ) → Among (names_of f.terms) z → (w : ℕ) × Among (names_of s.terms) w × (multiple w s.terms ≡ multiple z f.terms)
  constant : s.constant ≡ f.constant

atom_moved : (a : Atom) (now : ℕ → ℕ) → IsSorted (form_of a) → IsOneToOne now a → IsMoved (form_of a) (gathered (form_of (atom_named now a)))
unfolding coefficient
atom_moved a now s one =
    let b = atom_named now a in
    let g = gathered_sorted (form_of b) in
    record {
      sorted = s;
      sorted_too = g;
      onto = λ w m.
          let n : Mentions b w = λ e. named_multiple w (gathered (form_of b)).terms g.rising g.nonzero m (coefficient_gathered w (form_of b) ∙ e) in
          let i = image_mentioned now a w s n in
          (i.0, multiple_among i.0 (form_of a).terms i.1, sym (coefficient_named now a i.0 s one i.1) ∙ ap (λ x. multiple x (form_of b).terms) i.2 ∙ sym (coefficient_gathered w (form_of b)));
      back = λ z m.
          let t = among_mentions a z s m in
          let e = coefficient_gathered (now z) (form_of b) ∙ coefficient_named now a z s one t in
          (now z, multiple_among (now z) (gathered (form_of b)).terms (λ y. t (sym e ∙ y)), e);
      constant = constant_gathered (form_of b) ∙ named_constant a;
    }
  where
    named_constant : (a : Atom) → (form_of (atom_named now a)).constant ≡ (form_of a).constant
    named_constant (Compare r f) = refl
    named_constant (Congruent b m f) = refl

content_moved : (f s : Form) → IsMoved f s → content_of (coefficients f.terms) ≡ pos 1 → content_of (coefficients s.terms) ≡ pos 1
content_moved f s i e = content_unique (content_is (coefficients s.terms)) (record {
  not_negative = omega (arith, ints);
  divides = ones (coefficients s.terms);
  greatest = λ d h. subst (Divides d) e ((content_is (coefficients f.terms)).greatest d (each_divides d (coefficients f.terms)
      (carried (Divides d) s.terms f.terms i.sorted_too.rising i.sorted.rising i.back (divides_each d (coefficients s.terms) h))));
})

modulus_moved : (m : ℤ) (f s : Form) → IsMoved f s → content_of (m ∷ coefficients f.terms) ≡ pos 1 → content_of (m ∷ coefficients s.terms) ≡ pos 1
modulus_moved m f s i e = content_unique (content_is (m ∷ coefficients s.terms)) (record {
  not_negative = omega (arith, ints);
  divides = (one_divides m, ones (coefficients s.terms));
  greatest = λ d h. subst (Divides d) e ((content_is (m ∷ coefficients f.terms)).greatest d (
    h.0,
    each_divides d (coefficients f.terms)
        (carried (Divides d) s.terms f.terms i.sorted_too.rising i.sorted.rising i.back (divides_each d (coefficients s.terms) h.1)),
  ));
})

reduced_moved : (m : ℤ) (f s : Form) → IsMoved f s → AllReduced m (f.constant ∷ coefficients f.terms) → AllReduced m (s.constant ∷ coefficients s.terms)
reduced_moved m f s i h = (
  subst (IsReduced m) (sym i.constant) h.0,
  each_reduced m (coefficients s.terms) (carried (IsReduced m) f.terms s.terms i.sorted.rising i.sorted_too.rising i.onto (reduced_each m (coefficients f.terms) h.1)),
)

-- ---- comparisons

-- a name of the terms stays where they are divided
divided_keep : (d : ℤ) (ts : List Term) (x : ℕ) → ¬ (d ≡ pos 0) → DividesAll d (coefficients ts) → ¬ (multiple x ts ≡ pos 0) → ¬ (multiple x (quotients d ts) ≡ pos 0)
divided_keep d ts x z h n e = n (sym (multiple_quotients d z x ts h) ∙ ap (λ k. d *ℤ k) e ∙ mul_zero d)

fields_keep : (r : Relation) (ts : List Term) (c : ℤ) (x : ℕ) → AllNonzero ts → ¬ (multiple x ts ≡ pos 0) → IsFree (compared_in_fields r ts c) x
unfolding coefficient quotient
fields_keep r [] c x z n = absurd (n refl)
fields_keep r (t ∷ ts) c x z n =
    let xs = c ∷ coefficients (t ∷ ts) in
    let h = (content_is xs).divides in
    divided_keep (turned t.times (content_of xs)) (t ∷ ts) x (turned_nonzero t.times (content_of xs) (content_positive xs t.times h.1.0 z.0)) (turned_divides_all t.times (content_of xs) xs h).1 n

rounded_keep : (r : Relation) (g : ℤ) (v : List Term) (c : ℤ) (x : ℕ) → g ≡ pos 1 → ¬ (multiple x v ≡ pos 0) → IsFree (rounded r g v c) x
unfolding coefficient
rounded_keep Equals g v c x e n = by_equal (λ t. IsFree (if t then bound Equals v (floor_of c g) else No) x) (residue_of c g) (pos 0) (λ _. n) (λ k. absurd (k (ap (residue_of c) e ∙ residue_one c)))
rounded_keep Differs g v c x e n = by_equal (λ t. IsFree (if t then bound Differs v (floor_of c g) else Yes) x) (residue_of c g) (pos 0) (λ _. n) (λ k. absurd (k (ap (residue_of c) e ∙ residue_one c)))
rounded_keep Below g v c x e n = n
rounded_keep AtMost g v c x e n = n
rounded_keep Above g v c x e n = n
rounded_keep AtLeast g v c x e n = n

integers_keep : (r : Relation) (ts : List Term) (c : ℤ) (x : ℕ) → AllNonzero ts → content_of (coefficients ts) ≡ pos 1 → ¬ (multiple x ts ≡ pos 0) → IsFree (compared_over_integers r ts c) x
integers_keep r [] c x z e n = absurd (n refl)
integers_keep r (t ∷ ts) c x z e n =
    let xs = coefficients (t ∷ ts) in
    let h = (content_is xs).divides in
    let d = turned t.times (content_of xs) in
    rounded_keep (facing t.times r) (content_of xs) (quotients d (t ∷ ts)) (turned t.times c) x e
    (divided_keep d (t ∷ ts) x (turned_nonzero t.times (content_of xs) (content_positive xs t.times h.0 z.0)) (turned_divides_all t.times (content_of xs) xs h) n)

-- ---- congruences

-- the negative of a residue other than 0 is not 0 modulo m
negative_keep : (m k : ℤ) → pos 0 <ℤ m → IsReduced m k → ¬ (k ≡ pos 0) → ¬ (residue_of (negsuc 0 *ℤ k) m ≡ pos 0)
negative_keep m k p h n e =
    let same : neg_ℤ m ≡ negsuc 0 *ℤ k -ℤ (m -ℤ k) = omega (arith, ints) in
    let r : IsResidue (negsuc 0 *ℤ k) m (m -ℤ k) = let l = h.0 in let g = h.1 in record {
      not_negative = omega (arith, ints);
      below = positive l n;
      same = divides_along same (divides_neg (divides_same m));
    } in
    let z : m -ℤ k ≡ pos 0 = sym (residue_unique (residue_is (negsuc 0 *ℤ k) m p) r) ∙ e in
    let g = h.1 in absurd (omega (arith, ints))
  where
    positive : pos 0 ≤ℤ k → ¬ (k ≡ pos 0) → (m -ℤ k) <ℤ m
    positive l n = omega (arith, ints)

module _ (m : ℤ) (p : pos 0 <ℤ m) (s : Form) (t : IsSorted s) (h : AllReduced m (s.constant ∷ coefficients s.terms)) where
  smaller_keep : (x : ℕ) → ¬ (coefficient x s ≡ pos 0) → ¬ (coefficient x (smaller m s) ≡ pos 0)
  unfolding coefficient residue_form scale
  smaller_keep x n = go (is_gt (int_cmp (first s.terms) (m -ℤ first s.terms)))
    where
      go : (b : Bool) → ¬ (coefficient x (if b then residue_form (scale (negsuc 0) s) m else s) ≡ pos 0)
      go true e =
          let a = multiple_residues m p x (scale (negsuc 0) s).terms (scale_sorted (negsuc 0) s (λ (z : negsuc 0 ≡ pos 0). omega (arith, ints)) t).rising in
          let k = from_terms (IsReduced m) s.terms t.rising (reduced_each m (coefficients s.terms) h.1) x (multiple_among x s.terms n) in
          negative_keep m (multiple x s.terms) p k n (ap (λ z. residue_of z m) (sym (coefficient_scale x (negsuc 0) s)) ∙ sym a ∙ e)
      go false e = n e

congruent_keep : (b : Bool) (m : ℕ) (s : Form) (x : ℕ) → 1 < m → IsSorted s → AllReduced (pos m) (s.constant ∷ coefficients s.terms) → content_of (pos m ∷ coefficients s.terms) ≡ pos 1 →
    ¬ (coefficient x s ≡ pos 0) → IsFree (congruent b (pos m) s) x
congruent_keep b m s x l t h e n =
    let p : pos 0 <ℤ pos m = omega (arith, ints) in
    let k : int_div (pos m) (pos 1) ≡ pos m = one_quotient (pos m) in
    let q : quotient s (pos 1) ≡ s = quotient_one s in
    let same = ap (λ g. reduced_congruence b (pos m) (content_of (pos m ∷ coefficients g.terms)) g) (residue_form_stays (pos m) p s t h) ∙ ap (λ z. reduced_congruence b (pos m) z s) e
    ∙ by_equal (λ t. (if t then coprime_congruence b (int_div (pos m) (pos 1)) (quotient s (pos 1)) else constant_tree (not b)) ≡ coprime_congruence b (pos m) s) (residue_of s.constant (pos 1)) (pos 0)
    (λ _ i. coprime_congruence b (k i) (q i)) (λ z. absurd (z (residue_one s.constant))) in
    subst (λ (f : Tree). IsFree f x) (sym same)
    (by_equal (λ t. IsFree (if t then constant_tree b else One (congruence b m (smaller (pos m) s))) x) (pos m) (pos 1)
    (λ (z : pos m ≡ pos 1). absurd (omega (arith, ints)))
    (λ _ z. smaller_keep (pos m) p s t h x n (sym (congruence_coefficient b m (smaller (pos m) s) x) ∙ z)))

-- ---- atoms

-- the normal form of the atom has all its names
abbrev pub KeepsNames : Context → Atom → Type 0
KeepsNames c b = (v : ℕ) → Mentions b v → IsFree (normal_atom c b) v

pub named_keeps : (c : Context) (a : Atom) (now : ℕ → ℕ) → IsNormal c a → IsOneToOne now a → KeepsNames c (atom_named now a)
unfolding normal_atom coefficient
named_keeps Fields (Compare r f) now n one v m =
    let g = form_named now f in
    fields_keep r (gathered g).terms (gathered g).constant v (gathered_sorted g).nonzero (λ e. m (sym (coefficient_gathered v g) ∙ e))
named_keeps Integers (Compare r f) now n one v m =
    let g = form_named now f in
    let i = atom_moved (Compare r f) now n.oriented.sorted one in
    integers_keep r (gathered g).terms (gathered g).constant v (gathered_sorted g).nonzero (content_moved f (gathered g) i n.coprime) (λ e. m (sym (coefficient_gathered v g) ∙ e))
named_keeps Fields (Congruent b d f) now n one v m = absurd n
named_keeps Integers (Congruent b d f) now n one v m =
    let g = form_named now f in
    let i = atom_moved (Congruent b d f) now n.sorted one in
    congruent_keep b d (gathered g) v n.above_one (gathered_sorted g) (reduced_moved (pos d) f (gathered g) i n.reduced) (modulus_moved (pos d) f (gathered g) i n.coprime) (λ e. m (sym (coefficient_gathered v g) ∙ e))
