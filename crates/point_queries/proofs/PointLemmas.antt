-- The point of a command, with the numbers of its names.
use Rattle.std.proofs.Common.{◌≡◌, ◌⊎◌, inl, inr, ⊎_elim, ℕ, zero, suc, ◌<◌, List, [], ◌∷◌, ◌++◌, Bool, true, false, Option, Some, None, sym, ap, ◌∙◌, subst, refl, arith, nat_eq, eq-eqb, eqb-true}
use Rattle.std.proofs.Math.IntN.{ℤ, pos, ◌*ℤ◌}
use Rattle.std.proofs.Math.Path.{fun_ext}
use Rattle.std.proofs.lemmas.Bool.{cases_eq}
use Rattle.std.proofs.lemmas.Int.{ints}
use Rattle.std.specs.Prelude.{Result, Ok, Err, ◌||◌, unwrap_or, option_map, slice_get, unsigned_abs, ◌<ℤ◌, if◌then◌else◌}
use Rattle.std.specs.List.{IsDistinct, fold}
use Rattle.exact_numbers.specs.Divides.{Divides, gcd_of, residue_of}
use Rattle.exact_numbers.specs.Frac.{lowest}
use Rattle.exact_numbers.proofs.Order.{by_zero}
use Rattle.exact_numbers.proofs.Ring.{mul_one}
use Rattle.exact_numbers.proofs.Divisibility.{divides_same, divides_along, cancel_divides, divisor_at_most}
use Rattle.exact_numbers.proofs.Floor.{divides_from_residue, residue_of_multiple}
use Rattle.exact_numbers.proofs.FractionRule.{divisor_positive}
use Rattle.exact_numbers.proofs.GreatestDivisor.{gcd_is}
use Rattle.exact_numbers.proofs.LeastMultiple.{exact_div}
use Rattle.logic_meaning.specs.Context.{Context, Fields, Integers}
use Rattle.logic_meaning.specs.Formula.{Formula, Formulas, Yes, No, One, Not, And, Or, Impl, Repl, Equiv, Ex, All, none, also}
use Rattle.logic_meaning.specs.Atom.{form_of}
use Rattle.logic_meaning.specs.Replaced.{replaced, all_replaced}
use Rattle.logic_meaning.specs.Shape.{IsQuantifierFree, AreQuantifierFree}
use Rattle.logic_meaning.specs.Plain.{IsAtomic}
use Rattle.logic_meaning.specs.Tree.{Tree}
use Rattle.formula_laws.proofs.SamePoint.{point_same}
use Rattle.normal_atoms.specs.declared.atoms.Context as atoms
use Rattle.normal_atoms.specs.Atoms.{context_of}
use Rattle.normal_atoms.proofs.NormalLaws.{normal_atomic}
use Rattle.logic_meaning.specs.Terms.{ValuePasses}
use Rattle.linear_forms.specs.Values.{Numbers, number_at, point_of}
use Rattle.logic_meaning.specs.Point.{Point, Of}
use Rattle.logic_meaning.specs.Some.{SomeOf}
use Rattle.language_meaning.specs.declared.entries.PointEntry.{PointEntry}
use Rattle.language_meaning.specs.declared.tree.Literal.{Literal}
use Rattle.language_meaning.specs.declared.tree.Literal.TheVariants.{Fits, Past}
use Rattle.language_meaning.specs.Point.{HasEntry, IsZeroBelow, IsBroken, lowest_terms, IsCommonMultiple, IsPointOf}
use Rattle.language_meaning.specs.declared.tree.Relation.{Relation}
use Rattle.language_meaning.specs.Trees.{WrittenAtom, Compare, Cong, Ncong, Bound, FormulaTree}
use Rattle.written_syntax.specs.Writable.{AreWritableEntries}
use Rattle.language_meaning.specs.Value.{NamedPoint, same_name}
use Rattle.written_syntax.specs.Valued.{IsIn}
use Rattle.written_syntax.proofs.EntryLists.{some_left, some_right, some_split, some_one}
use Rattle.written_syntax.proofs.EntryNumbers.{below_positive}
use Rattle.logic_meaning.specs.Names.{with_name, place}
use Rattle.logic_meaning.specs.Bindings.{bound_to}
use Rattle.language_meaning.specs.Causes.{atom_in_place}
use Rattle.logic_meaning.specs.Quantified.{has_quantifier, some_quantifier}
use Rattle.language_meaning.specs.RationalForms.{RationalForm, Missing, formed, formed_difference}
use Rattle.language_meaning.specs.Resolving.{BoundTrees, at_names, resolve, resolved_atom, compared, congruent}
use Rattle.resolved_formulas.proofs.PlaceLaws.{slice_place, one_place, at_place}
use Rattle.formula_store.specs.Truths.{Tells, SomeAtomPasses}
use Rattle.language_meaning.specs.Entries.{HasEntryAt}
use Rattle.program_meaning.specs.Points.{MeanNoPoint, IsQuantified, SomeAtomPassesAt}

-- ---- numbers put in

-- the numbers of these entries' names are those of the point, and all others are 0
pub record ArePut (names : List (List ℕ)) (p : NamedPoint) (es : List PointEntry) (at : ℕ → ℤ) : Type 0 where
  pub there : (n : ℕ) → HasEntryAt (place names) es n → at n ≡ (at_names names p).at n
  pub others : (n : ℕ) → ¬ (HasEntryAt (place names) es n) → at n ≡ pos 0

pub none_put : (names : List (List ℕ)) (p : NamedPoint) (at : ℕ → ℤ) → ((n : ℕ) → at n ≡ pos 0) → ArePut names p [] at
none_put names p at zeros = record { there = λ n h. absurd h; others = λ n h. zeros n }

module _ (names : List (List ℕ)) (p : NamedPoint) (es : List PointEntry) (e : PointEntry) (at new : ℕ → ℤ) (k : ℤ) (put : (n : ℕ) → new n ≡ (if nat_eq (place names e.name) n then k else at n)) (s : ArePut names p es at) where
  abbrev is_at : PointEntry → ℕ → Type 0
  is_at f n = place names f.name ≡ n

  there_now : (n : ℕ) (b : Bool) → nat_eq (place names e.name) n ≡ b → IsIn e.name names → k ≡ p.at e.name → HasEntryAt (place names) (es ++ e ∷ []) n → new n ≡ (at_names names p).at n
  there_now n true q i is h =
      put n ∙ ap (λ b. if b then k else at n) q ∙ is ∙ sym (at_place names p e.name i) ∙ ap (at_names names p).at (eqb-true (place names e.name) n q)
  there_now n false q i is h =
      put n ∙ ap (λ b. if b then k else at n) q
      ∙ s.there n (⊎_elim (λ u. u) (λ j. let r : place names e.name ≡ n = some_one (λ f. is_at f n) e j in absurd (apart n q r)) (some_split (λ f. is_at f n) es (e ∷ []) h))
    where
      apart : (n : ℕ) → nat_eq (place names e.name) n ≡ false → ¬ (place names e.name ≡ n)
      apart n q r = let t = sym (eq-eqb (place names e.name) n r) ∙ q in absurd (cc)

  others_now : (n : ℕ) (b : Bool) → nat_eq (place names e.name) n ≡ b → ¬ (HasEntryAt (place names) (es ++ e ∷ []) n) → new n ≡ pos 0
  others_now n true q h = absurd (h (some_right (λ f. is_at f n) es (e ∷ []) (inl (eqb-true (place names e.name) n q))))
  others_now n false q h = put n ∙ ap (λ b. if b then k else at n) q ∙ s.others n (λ i. h (some_left (λ f. is_at f n) es (e ∷ []) i))

  pub one_put : IsIn e.name names → k ≡ p.at e.name → ArePut names p (es ++ e ∷ []) new
  one_put i is = record { there = λ n h. there_now n (nat_eq (place names e.name) n) refl i is h; others = λ n h. others_now n (nat_eq (place names e.name) n) refl h }

slice_in : (names : List (List ℕ)) (n : ℕ) (x : List ℕ) → slice_get names n ≡ Some x → IsIn x names
slice_in [] n x e = absurd (cc)
slice_in (y ∷ ys) zero x e = inl (cc)
slice_in (y ∷ ys) (suc n) x e = inr (slice_in ys n x e)

entry_at : (names : List (List ℕ)) (x : List ℕ) (es : List PointEntry) → HasEntry x es → HasEntryAt (place names) es (place names x)
entry_at names x [] h = absurd h
entry_at names x (e ∷ es) (inl q) = inl (ap (place names) q)
entry_at names x (e ∷ es) (inr h) = inr (entry_at names x es h)

by_entry : (names : List (List ℕ)) (es : List PointEntry) (n : ℕ) → HasEntryAt (place names) es n ⊎ (¬ (HasEntryAt (place names) es n))
by_entry names [] n = inr (λ h. h)
by_entry names (e ∷ es) n = elim (cases_eq (place names e.name) n) [
  | inl q ↦ inl (inl q)
  | inr d ↦ ⊎_elim (λ h. inl (inr h)) (λ h. inr (λ k. ⊎_elim d h k)) (by_entry names es n)
]

module _ (names : List (List ℕ)) (p : NamedPoint) (es : List PointEntry) (distinct : IsDistinct same_name names) (meant : IsPointOf es p) where
  zero_at : (n : ℕ) (o : Option (List ℕ)) → slice_get names n ≡ o → ¬ (HasEntryAt (place names) es n) → pos 0 ≡ unwrap_or (option_map p.at o) (pos 0)
  zero_at n None q h = refl
  zero_at n (Some x) q h =
      let here : place names x ≡ n = one_place names (place names x) n x distinct (slice_place names x (slice_in names n x q)) q in
      sym (meant.others x (λ i. h (subst (HasEntryAt (place names) es) here (entry_at names x es i))))

  -- all numbers are those of the point
  pub all_put : (at : ℕ → ℤ) → ArePut names p es at → (n : ℕ) → at n ≡ (at_names names p).at n
  all_put at s n = ⊎_elim (λ h. s.there n h) (λ h. s.others n h ∙ zero_at n (slice_get names n) refl h) (by_entry names es n)

-- ---- points of the theory

-- a fraction of a multiple of its denominator has the denominator 1 in lowest terms
whole_lowest : (a b : ℤ) → pos 0 <ℤ b → Divides b a → Divides (lowest a b).denominator (pos 1)
whole_lowest a b h d =
    let g = gcd_of a b in
    let i = gcd_is a b in
    let positive : pos 0 <ℤ g = divisor_positive a b h in
    let exact = exact_div g b (λ (z : g ≡ pos 0). omega (arith, ints, positive)) i.right in
    cancel_divides g (λ (z : g ≡ pos 0). omega (arith, ints, positive))
    (subst (λ z. Divides z (g *ℤ pos 1)) (sym exact) (divides_along (sym (mul_one g)) (i.greatest b d (divides_same b))))

whole_terms : (above below : Literal) → ((b : ℤ) → below ≡ Fits b → pos 0 <ℤ b) → ((a b : ℤ) → above ≡ Fits a → below ≡ Fits b → ¬ (¬ (Divides b a))) → Divides (lowest_terms above below).denominator (pos 1)
whole_terms (Fits a) (Fits b) positive whole =
    let h : pos 0 <ℤ b = positive b refl in
    whole_lowest a b h (by_zero (residue_of a b) (λ z. divides_from_residue h z) (λ n. absurd (whole a b refl refl (λ d. n (residue_of_multiple h d)))))
whole_terms (Fits a) Past positive whole = divides_same (pos 1)
whole_terms Past below positive whole = divides_same (pos 1)

pub whole_entries : (es : List PointEntry) → AreWritableEntries es → ¬ (SomeOf IsZeroBelow es) → ¬ (SomeOf IsBroken es) → IsCommonMultiple es (pos 1)
whole_entries [] proper divided whole = tt
whole_entries (e ∷ es) proper divided whole = (
  whole_terms e.above e.below (λ b is. below_positive e b (proper.0.0, proper.0.1, tt) (λ z. divided (inl z)) is) (λ a b p q no. whole (inl (a, b, p, q, no))),
  whole_entries es proper.1 (λ h. divided (inr h)) (λ h. whole (inr h)),
)

above_none : (n : ℕ) → pos 0 <ℤ pos n → 0 < n
above_none n h = omega (arith, ints)

one_only : (n : ℕ) → pos 0 <ℤ pos n → Divides (pos n) (pos 1) → n ≡ 1
one_only n h d = let l = divisor_at_most {d = pos n} {a = pos 1} (omega (arith, ints)) d in omega (arith, ints, l)

-- the point that the entries mean is one of the theory
pub of_theory : (c : Context) (es : List PointEntry) (p : NamedPoint) → AreWritableEntries es → ¬ (MeanNoPoint c es) → IsPointOf es p → Of c p
of_theory Fields es p proper means meant = above_none p.below meant.least.positive
of_theory Integers es p proper means meant =
    one_only p.below meant.least.positive (meant.least.least (pos 1) (whole_entries es proper (λ h. means (inr (inl h))) (λ h. means (inr (inr h)))))

-- ---- the names of the entries

pub fold_more : (xs ys names : List (List ℕ)) → fold with_name names (xs ++ ys) ≡ fold with_name (fold with_name names xs) ys
fold_more [] ys names = refl
fold_more (x ∷ xs) ys names = fold_more xs ys (with_name names x)

-- ---- numbers as a point

pub abs_is : (d : ℤ) → pos 0 <ℤ d → pos (unsigned_abs d) ≡ d
abs_is d h = omega (arith, ints, h)

-- the same point is one of the theory of an engine for the state
pub point_there : (p q : Point ℕ) → p ≡ q → (c d : atoms.Context) → d ≡ c → Of (context_of c) q → Of (context_of d) p
point_there p q same c d is of = subst (λ r. Of (context_of d) r) (sym same) (subst (λ (x : atoms.Context). Of (context_of x) q) (sym is) of)

module _ (v : Numbers) (q : Point ℕ) (at : (n : ℕ) → number_at v n ≡ q.at n) where
  pub same_point : unsigned_abs v.denominator ≡ q.below → point_of v ≡ q
  same_point below = point_same (number_at v) q.at (unsigned_abs v.denominator) q.below at below

  pub tells_there : (b : Bool) (t : Tree) → unsigned_abs v.denominator ≡ q.below → Tells b t (point_of v) → Tells b t q
  tells_there b t below h = subst (Tells b t) (same_point below) h

  pub passes_there : (t : Tree) → v.denominator ≡ pos q.below → SomeAtomPasses t v → SomeAtomPassesAt t q
  passes_there t below h = (h.0, h.1, subst (λ (g : ℕ → ℤ). ValuePasses (form_of h.0) g (pos q.below)) (fun_ext at) (subst (λ (d : ℤ). ValuePasses (form_of h.0) (number_at v) d) below h.2))

-- ---- formulas without quantifiers

neither : (a b : Bool) → ¬ ((a || b) ≡ true) → (¬ (a ≡ true)) × (¬ (b ≡ true))
neither true b h = absurd (h refl)
neither false b h = (λ e. absurd (cc), h)

module _ {A N : Type 0} where
  mutual
    pub none_quantified : (f : Formula A N) → ¬ (has_quantifier f ≡ true) → IsQuantifierFree f
    none_quantified Yes h = tt
    none_quantified No h = tt
    none_quantified (One a) h = tt
    none_quantified (Not f) h = none_quantified f h
    none_quantified (And fs) h = none_quantified_in fs h
    none_quantified (Or fs) h = none_quantified_in fs h
    none_quantified (Impl f g) h = let p = neither (has_quantifier f) (has_quantifier g) h in (none_quantified f p.0, none_quantified g p.1)
    none_quantified (Repl f g) h = let p = neither (has_quantifier f) (has_quantifier g) h in (none_quantified f p.0, none_quantified g p.1)
    none_quantified (Equiv f g) h = let p = neither (has_quantifier f) (has_quantifier g) h in (none_quantified f p.0, none_quantified g p.1)
    none_quantified (Ex x f) h = absurd (h refl)
    none_quantified (All x f) h = absurd (h refl)

    pub none_quantified_in : (fs : Formulas A N) → ¬ (some_quantifier fs ≡ true) → AreQuantifierFree fs
    none_quantified_in none h = tt
    none_quantified_in (also f fs) h = let p = neither (has_quantifier f) (some_quantifier fs) h in (none_quantified f p.0, none_quantified_in fs p.1)

-- each atom replaced by formulas that have no quantifier where others have none
module _ {A B C N M K : Type 0} (by : A → Formula B M) (rename : N → M) (with : A → Formula C K) (other : N → K) (free : (a : A) → ¬ (has_quantifier (with a) ≡ true) → IsQuantifierFree (by a)) where
  mutual
    pub free_replaced : (f : Formula A N) → ¬ (has_quantifier (replaced with other f) ≡ true) → IsQuantifierFree (replaced by rename f)
    free_replaced Yes h = tt
    free_replaced No h = tt
    free_replaced (One a) h = free a h
    free_replaced (Not f) h = free_replaced f h
    free_replaced (And fs) h = all_free_replaced fs h
    free_replaced (Or fs) h = all_free_replaced fs h
    free_replaced (Impl f g) h = let p = neither (has_quantifier (replaced with other f)) (has_quantifier (replaced with other g)) h in (free_replaced f p.0, free_replaced g p.1)
    free_replaced (Repl f g) h = let p = neither (has_quantifier (replaced with other f)) (has_quantifier (replaced with other g)) h in (free_replaced f p.0, free_replaced g p.1)
    free_replaced (Equiv f g) h = let p = neither (has_quantifier (replaced with other f)) (has_quantifier (replaced with other g)) h in (free_replaced f p.0, free_replaced g p.1)
    free_replaced (Ex x f) h = absurd (h refl)
    free_replaced (All x f) h = absurd (h refl)

    pub all_free_replaced : (fs : Formulas A N) → ¬ (some_quantifier (all_replaced with other fs) ≡ true) → AreQuantifierFree (all_replaced by rename fs)
    all_free_replaced none h = tt
    all_free_replaced (also f fs) h = let p = neither (has_quantifier (replaced with other f)) (some_quantifier (all_replaced with other fs)) h in (free_replaced f p.0, all_free_replaced fs p.1)

atomic_free : {A N : Type 0} (f : Formula A N) → IsAtomic f → IsQuantifierFree f
atomic_free Yes h = tt
atomic_free No h = tt
atomic_free (One a) h = tt
atomic_free (Not f) h = absurd h
atomic_free (And fs) h = absurd h
atomic_free (Or fs) h = absurd h
atomic_free (Impl f g) h = absurd h
atomic_free (Repl f g) h = absurd h
atomic_free (Equiv f g) h = absurd h
atomic_free (Ex x f) h = absurd h
atomic_free (All x f) h = absurd h

compared_free : (c : Context) (rel : Relation) (r : Result RationalForm Missing) → IsQuantifierFree (compared c rel r)
compared_free c rel (Ok d) = atomic_free _ (normal_atomic c _)
compared_free c rel (Err e) = tt

congruent_free : (c : Context) (b : Bool) (r m : Result RationalForm Missing) → IsQuantifierFree (congruent c b r m)
congruent_free c b (Ok d) (Ok m) = atomic_free _ (normal_atomic c _)
congruent_free c b (Ok d) (Err e) = tt
congruent_free c b (Err e) m = tt

bound_free : (o : Option Tree) → ¬ (has_quantifier (unwrap_or o Yes) ≡ true) → IsQuantifierFree (unwrap_or o No)
bound_free None h = tt
bound_free (Some t) h = none_quantified t h

-- a resolved formula has no quantifier where the written one has none, with the bound formulas in their places
pub resolved_free : (c : Context) (bound : BoundTrees) (names : List (List ℕ)) (f : FormulaTree) → ¬ (IsQuantified bound f) → IsQuantifierFree (resolve c bound names f)
resolved_free c bound names f h = free_replaced (resolved_atom c bound (place names)) (place names) (atom_in_place bound) (λ x. 0) each f h
  where
    each : (a : WrittenAtom) → ¬ (has_quantifier (atom_in_place bound a) ≡ true) → IsQuantifierFree (resolved_atom c bound (place names) a)
    each (Compare rel s t) n = compared_free c rel (formed_difference c (place names) s t)
    each (Cong s t m) n = congruent_free c true (formed_difference c (place names) s t) (formed c (place names) m)
    each (Ncong s t m) n = congruent_free c false (formed_difference c (place names) s t) (formed c (place names) m)
    each (Bound x) n = bound_free (bound_to bound x) n
