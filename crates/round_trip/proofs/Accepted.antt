-- No cause of a refusal applies to the written formula of a tree.
use Rattle.std.proofs.Common.{◌≡◌, ◌⊎◌, ⊎_elim, ℕ, suc, ◌^◌, ◌<◌, Bool, true, false, List, [], ◌∷◌, ◌++◌, length, map, sym, refl, ap, ◌∙◌, subst, arith, if◌then◌else◌}
use Rattle.std.proofs.Math.IntN.{ℤ, pos, negsuc}
use Rattle.std.specs.Prelude.{unsigned_abs, nat_eq, Result, Ok}
use Rattle.std.specs.List.{AllByRecursion, IsDistinct}
use Rattle.std.specs.Ordering.{int_eq}
use Rattle.std.proofs.lemmas.Int.{ints}
use Rattle.logic_meaning.specs.Context.{Context, Fields, Integers}
use Rattle.logic_meaning.specs.Formula.{Yes, No, One, Not, And, Or, Impl, Repl, Equiv, Ex, All, none, also}
use Rattle.logic_meaning.specs.Form.{Form, Term}
use Rattle.logic_meaning.specs.Atom.{Atom, Compare, Congruent, form_of}
use Rattle.logic_meaning.specs.Every.{Every, EveryOf}
use Rattle.logic_meaning.specs.Replaced.{all_replaced}
use Rattle.logic_meaning.specs.Sizes.{height}
use Rattle.logic_meaning.specs.Tree.{Tree, Trees}
use Rattle.formula_laws.proofs.EachAtom.{every_map}
use Rattle.logic_meaning.specs.NormalForm.{IsNormal, ConstantPasses}
use Rattle.language_meaning.specs.Trees as tree
use Rattle.language_meaning.specs.Trees.{TermTree, TermTrees, Named, Product, Sum, terms_of, WrittenAtom, FormulaTree}
use Rattle.language_meaning.specs.Value.{same_name}
use Rattle.language_meaning.specs.Grammar.{sum_of}
use Rattle.language_meaning.specs.RationalForms.{RationalForm, Missing, is_constant, formed, product_of_forms}
use Rattle.language_meaning.specs.Resolving.{resolved_atom, resolve}
use Rattle.logic_meaning.specs.Names.{place}
use Rattle.language_meaning.specs.NamesAfter.{names_after}
use Rattle.language_meaning.specs.Somewhere.{Somewhere, SomewhereIn}
use Rattle.language_meaning.specs.Causes.{HasNoTree, IsBound, MentionsBound, IsVarying, IsNoDivisor, HasNonlinear, HaveNonlinear, HasForbidden, HaveForbidden, HasPast, HavePast, SomeTerm, IsCongruence, HasBadModulus, IsMissing, PassesInReading, IsNonlinear, Divides, CongruenceInFields, IsBadModulus, OverflowsInReading}
use Rattle.resolved_formulas.proofs.RuleLaw.{ok_same}
use Rattle.resolved_formulas.proofs.Nowhere.{every_both}
use Rattle.resolved_formulas.proofs.ResolvedHeight.{resolving_keeps_height}
use Rattle.logic_meaning.specs.Text.{name_at}
use Rattle.formula_laws.specs.Within.{IsAtomWithin}
use Rattle.round_trip.specs.Written.{number_term, signed_term, factor_term, multiple_term, constant_term, later_constant_terms, member_terms, form_term, written_atom, written_formula}
use Rattle.exact_numbers.specs.Limit.{InLimit}
use Rattle.logic_meaning.specs.Numbers.{IsFormInLimit, IsAtomInLimit}
use Rattle.round_trip.specs.Round.{WrittenIsResolved}
use Rattle.round_trip.proofs.Forms.{whole, form, number_product}
use Rattle.round_trip.proofs.Places.{no_new_name}
use Rattle.round_trip.proofs.Back.{form_fits, Known, difference_is, atom_back, tree_back}

-- ---- what is said of no atom

module _ (Q : WrittenAtom → Type 0) (K : List ℕ → Type 0) (none_bound : (x : List ℕ) → K x → ⊥) (names : List (List ℕ)) where
  mutual
    nowhere : (f : Tree) → Every (λ a. Q (written_atom names a) → ⊥) f → Somewhere Q K (written_formula names f) → ⊥
    nowhere Yes h s = s
    nowhere No h s = s
    nowhere (One a) h s = h s
    nowhere (Not f) h s = nowhere f h s
    nowhere (And fs) h s = nowhere_in fs h s
    nowhere (Or fs) h s = nowhere_in fs h s
    nowhere (Impl f g) h s = ⊎_elim (nowhere f h.0) (nowhere g h.1) s
    nowhere (Repl f g) h s = ⊎_elim (nowhere f h.0) (nowhere g h.1) s
    nowhere (Equiv f g) h s = ⊎_elim (nowhere f h.0) (nowhere g h.1) s
    nowhere (Ex x f) h s = ⊎_elim (none_bound (name_at names x)) (nowhere f h) s
    nowhere (All x f) h s = ⊎_elim (none_bound (name_at names x)) (nowhere f h) s

    nowhere_in : (fs : Trees) → EveryOf (λ a. Q (written_atom names a) → ⊥) fs → SomewhereIn Q K (all_replaced (λ a. One (written_atom names a)) (name_at names) fs) → ⊥
    nowhere_in none h s = s
    nowhere_in (also f fs) h s = ⊎_elim (nowhere f h.0) (nowhere_in fs h.1) s

-- ---- what is said of no term

-- P of a sum is P of one of its members
module _ (P : TermTree → Type 0) (Ps : TermTrees → Type 0) (none_has : Ps tree.none → ⊥) (also_has : (t : TermTree) (ts : TermTrees) → Ps (tree.also t ts) → P t ⊎ Ps ts) (sum_has : (ts : TermTrees) → P (Sum ts) → Ps ts)
    (names : List (List ℕ)) (no_constant : (k : ℤ) → P (constant_term k) → ⊥) where
  none_in : (ts : List TermTree) → AllByRecursion (λ t. P t → ⊥) ts → Ps (terms_of ts) → ⊥
  none_in [] h p = none_has p
  none_in (t ∷ ts) h p = ⊎_elim h.0 (none_in ts h.1) (also_has t (terms_of ts) p)

  none_in_sum : (ts : List TermTree) → AllByRecursion (λ t. P t → ⊥) ts → P (sum_of ts) → ⊥
  none_in_sum [] h p = none_in [] h (sum_has (terms_of []) p)
  none_in_sum (t ∷ []) h p = h.0 p
  none_in_sum (t ∷ u ∷ more) h p = none_in (t ∷ u ∷ more) h (sum_has (terms_of (t ∷ u ∷ more)) p)

  none_later : (us : List Term) (k : ℤ) → AllByRecursion (λ (u : Term). P (multiple_term names u) → ⊥) us → AllByRecursion (λ t. P t → ⊥) (map (multiple_term names) us ++ later_constant_terms k)
  none_later [] k h = go (int_eq k (pos 0))
    where
      go : (b : Bool) → AllByRecursion (λ t. P t → ⊥) (if b then [] else constant_term k ∷ [])
      go true = tt
      go false = (no_constant k, tt)
  none_later (u ∷ us) k h = (h.0, none_later us k h.1)

  none_members : (us : List Term) (k : ℤ) → AllByRecursion (λ (u : Term). P (multiple_term names u) → ⊥) us → AllByRecursion (λ t. P t → ⊥) (member_terms names us k)
  none_members [] k h = (no_constant k, tt)
  none_members (u ∷ us) k h = (h.0, none_later us k h.1)

  none_in_form : (f : Form) → AllByRecursion (λ (u : Term). P (multiple_term names u) → ⊥) f.terms → P (form_term names f) → ⊥
  none_in_form f h = none_in_sum (member_terms names f.terms f.constant) (none_members f.terms f.constant h)

none_in_atom : (P : TermTree → Type 0) (names : List (List ℕ)) (a : Atom) → (P (form_term names (form_of a)) → ⊥) → ((n : ℕ) → P (number_term n) → ⊥) → SomeTerm P (written_atom names a) → ⊥
none_in_atom P names (Compare r f) h n = ⊎_elim h (n 0)
none_in_atom P names (Congruent true m f) h n = ⊎_elim h (⊎_elim (n 0) (n m))
none_in_atom P names (Congruent false m f) h n = ⊎_elim h (⊎_elim (n 0) (n m))

-- for the terms of a form, one by one
each : {X : Type 0} (P Q : X → Type 0) → ((x : X) → P x → Q x) → (xs : List X) → AllByRecursion P xs → AllByRecursion Q xs
each P Q g [] h = tt
each P Q g (x ∷ xs) h = (g x h.0, each P Q g xs h.1)

each_of : {X : Type 0} {Q : X → Type 0} → ((x : X) → Q x) → (xs : List X) → AllByRecursion Q xs
each_of g [] = tt
each_of g (x ∷ xs) = (g x, each_of g xs)

-- a modulus of the theory is above 1
above_one : (c : Context) (b : Bool) (m : ℕ) (f : Form) → IsNormal c (Congruent b m f) → 1 < m
above_one Fields b m f n = absurd n
above_one Integers b m f n = n.above_one

-- ---- causes in terms

-- a form that is there and constant does not vary
not_varying : (r : Result RationalForm Missing) (v : RationalForm) → r ≡ Ok v → is_constant v ≡ true → IsVarying r → ⊥
not_varying r v e is h =
    let same : v ≡ h.form = ok_same v h.form (sym e ∙ h.there) in
    let varies : is_constant v ≡ false = ap is_constant same ∙ h.varies in
    absurd (cc)

module _ (c : Context) (number : List ℕ → ℕ) (names : List (List ℕ)) where
  constant_linear : (k : ℤ) → HasNonlinear c number (constant_term k) → ⊥
  constant_linear (pos n) h = h
  constant_linear (negsuc n) h = h

  factor_linear : (n : ℕ) (x : List ℕ) → n < 2 ^ 127 → HasNonlinear c number (factor_term n x) → ⊥
  factor_linear n x small = go (nat_eq n 1)
    where
      one : RationalForm
      one = whole (form [] (pos 1))

      go : (b : Bool) → HasNonlinear c number (if b then Named x else Product (terms_of (number_term n ∷ Named x ∷ []))) → ⊥
      go true h = h
      go false h =
          ⊎_elim (⊎_elim (λ p. not_varying (Ok (whole (form [] (pos 1)))) (whole (form [] (pos 1))) refl refl p.0)
          (⊎_elim (λ p. not_varying (product_of_forms (whole (form [] (pos 1))) (whole (form [] (pos n)))) (whole (form [] (pos n))) (number_product (pos n) small) refl p.0) (λ z. z)))
          (⊎_elim (λ z. z) (⊎_elim (λ z. z) (λ z. z))) h

  multiple_linear : (u : Term) → InLimit u.times → HasNonlinear c number (multiple_term names u) → ⊥
  multiple_linear u fits h = go u.times h
    where
      go : (z : ℤ) → HasNonlinear c number (signed_term z (factor_term (unsigned_abs u.times) (name_at names u.name))) → ⊥
      go (pos n) h = factor_linear (unsigned_abs u.times) (name_at names u.name) fits h
      go (negsuc n) h = factor_linear (unsigned_abs u.times) (name_at names u.name) fits h

  constant_whole : (k : ℤ) → HasForbidden c number (constant_term k) → ⊥
  constant_whole (pos n) h = h
  constant_whole (negsuc n) h = h

  factor_whole : (n : ℕ) (x : List ℕ) → HasForbidden c number (factor_term n x) → ⊥
  factor_whole n x = go (nat_eq n 1)
    where
      go : (b : Bool) → HasForbidden c number (if b then Named x else Product (terms_of (number_term n ∷ Named x ∷ []))) → ⊥
      go true h = h
      go false h = ⊎_elim (λ z. z) (⊎_elim (λ z. z) (λ z. z)) h

  multiple_whole : (u : Term) → HasForbidden c number (multiple_term names u) → ⊥
  multiple_whole u h = go u.times h
    where
      go : (z : ℤ) → HasForbidden c number (signed_term z (factor_term (unsigned_abs u.times) (name_at names u.name))) → ⊥
      go (pos n) h = factor_whole (unsigned_abs u.times) (name_at names u.name) h
      go (negsuc n) h = factor_whole (unsigned_abs u.times) (name_at names u.name) h

  form_linear : (f : Form) → IsFormInLimit f → HasNonlinear c number (form_term names f) → ⊥
  form_linear f h = none_in_form (HasNonlinear c number) (HaveNonlinear c number) (λ z. z) (λ t ts p. p) (λ ts p. p) names constant_linear f (each _ _ multiple_linear f.terms h.1)

  form_whole : (f : Form) → HasForbidden c number (form_term names f) → ⊥
  form_whole f = none_in_form (HasForbidden c number) (HaveForbidden c number) (λ z. z) (λ t ts p. p) (λ ts p. p) names constant_whole f (each_of multiple_whole f.terms)

literal_there : (n : ℕ) → HasPast (number_term n) → ⊥
literal_there n h = cc

constant_there : (k : ℤ) → HasPast (constant_term k) → ⊥
constant_there (pos n) h = literal_there n h
constant_there (negsuc n) h = literal_there (suc n) h

factor_there : (n : ℕ) (x : List ℕ) → HasPast (factor_term n x) → ⊥
factor_there n x = go (nat_eq n 1)
  where
    go : (b : Bool) → HasPast (if b then Named x else Product (terms_of (number_term n ∷ Named x ∷ []))) → ⊥
    go true h = h
    go false h = ⊎_elim (literal_there n) (⊎_elim (λ z. z) (λ z. z)) h

multiple_there : (names : List (List ℕ)) (u : Term) → HasPast (multiple_term names u) → ⊥
multiple_there names u h = go u.times h
  where
    go : (z : ℤ) → HasPast (signed_term z (factor_term (unsigned_abs u.times) (name_at names u.name))) → ⊥
    go (pos n) h = factor_there (unsigned_abs u.times) (name_at names u.name) h
    go (negsuc n) h = factor_there (unsigned_abs u.times) (name_at names u.name) h

form_there : (names : List (List ℕ)) (f : Form) → HasPast (form_term names f) → ⊥
form_there names f = none_in_form HasPast HavePast (λ z. z) (λ t ts p. p) (λ ts p. p) names constant_there f (each_of (multiple_there names) f.terms)

-- ---- causes in atoms

nothing_bound : (x : List ℕ) → IsBound [] x → ⊥
nothing_bound x h = let e = h.1 in absurd (cc)

no_name : (names : List (List ℕ)) (a : Atom) → HasNoTree [] (written_atom names a) → ⊥
no_name names (Compare r f) h = h
no_name names (Congruent true m f) h = h
no_name names (Congruent false m f) h = h

mentions_none : (names : List (List ℕ)) (a : Atom) → MentionsBound [] (written_atom names a) → ⊥
mentions_none names a h = nothing_bound h.0 h.2

module _ (c : Context) (names : List (List ℕ)) (d : IsDistinct same_name names) where
  linear_atom : (a : Atom) → Known c names a → SomeTerm (HasNonlinear c (place names)) (written_atom names a) → ⊥
  linear_atom a k = none_in_atom (HasNonlinear c (place names)) names a (form_linear c (place names) names (form_of a) (form_fits a k.1.1)) (λ n h. h)

  whole_atom : (a : Atom) → Known c names a → SomeTerm (HasForbidden c (place names)) (written_atom names a) → ⊥
  whole_atom a k = none_in_atom (HasForbidden c (place names)) names a (form_whole c (place names) names (form_of a)) (λ n h. h)

  past_atom : (a : Atom) → Known c names a → SomeTerm HasPast (written_atom names a) → ⊥
  past_atom a k = none_in_atom HasPast names a (form_there names (form_of a)) literal_there

  -- a modulus is above 1
  divisor : (m : ℕ) → 1 < m → IsNoDivisor (formed c (place names) (number_term m)) → ⊥
  divisor m h n =
      let v : RationalForm = whole (form [] (pos m)) in
      let same : v ≡ n.form = ok_same v n.form n.there in
      ⊎_elim (λ varies. let e : is_constant v ≡ false = ap is_constant same ∙ varies in absurd (cc))
      (λ zero. let e : pos m ≡ pos 0 = ap (λ (w : RationalForm). w.form.constant) same ∙ zero in omega (arith, ints)) n.fails

  bad_modulus : (a : Atom) → Known c names a → HasBadModulus c (place names) (written_atom names a) → ⊥
  bad_modulus (Compare r f) k h = h
  bad_modulus (Congruent true m f) k h = divisor m (above_one c true m f k.0) h
  bad_modulus (Congruent false m f) k h = divisor m (above_one c false m f k.0) h

  there : {v : RationalForm} (r : Result RationalForm Missing) → r ≡ Ok v → IsMissing r → ⊥
  there r e h = let f = h.1 in absurd (cc)

  constant_within : (a : Atom) → Known c names a → ConstantPasses (resolved_atom c [] (place names) (written_atom names a)) → ⊥
  constant_within a k h =
      let passes : ConstantPasses (One a) = subst ConstantPasses (atom_back c names d a k) h in
      let fits = form_fits a k.1.1 in
      let small = fits.0 in
      omega arith

  passes_atom : (a : Atom) → Known c names a → PassesInReading c [] (place names) (written_atom names a) → ⊥
  passes_atom (Compare r f) k h = ⊎_elim (there _ (difference_is c names d (Compare r f) k)) (constant_within (Compare r f) k) h
  passes_atom (Congruent true m f) k h = ⊎_elim (there _ (difference_is c names d (Congruent true m f) k)) (⊎_elim (there {v = whole (form [] (pos m))} _ refl) (constant_within (Congruent true m f) k)) h
  passes_atom (Congruent false m f) k h = ⊎_elim (there _ (difference_is c names d (Congruent false m f) k)) (⊎_elim (there {v = whole (form [] (pos m))} _ refl) (constant_within (Congruent false m f) k)) h

in_fields : (names : List (List ℕ)) (a : Atom) → Known Fields names a → IsCongruence (written_atom names a) → ⊥
in_fields names (Compare r f) k h = h
in_fields names (Congruent b m f) k h = k.0

-- ---- the formula

module _ (names : List (List ℕ)) (f : Tree) where
  abbrev written : FormulaTree
  written = written_formula names f

  no_congruence : (c : Context) → Every (Known c names) f → CongruenceInFields c written → ⊥
  no_congruence Fields k h = nowhere IsCongruence (λ x. ⊥) (λ x z. z) names f (every_map (Known Fields names) _ (in_fields names) f k) h
  no_congruence Integers k h = h

pub written_is_resolved : WrittenIsResolved
written_is_resolved c names f v p r =
    let known : Every (Known c names) f = every_both (IsNormal c) (λ a. IsAtomWithin (length names) a × IsAtomInLimit a) f r.atoms (every_both (IsAtomWithin (length names)) IsAtomInLimit f p.names.atoms p.numbers) in
    let same : names_after names (written_formula names f) ≡ names = no_new_name names f p.names.atoms p.names.quantified in
    let tree : resolve c [] names (written_formula names f) ≡ f = tree_back c names v.distinct f known p.names.quantified in
    let w : FormulaTree = written_formula names f in
    record {
      same_names = same;
      same_tree = tree;
      accepted = record {
        bound_names = nowhere (HasNoTree []) (λ x. ⊥) (λ x z. z) names f (every_map (Known c names) _ (λ a k. no_name names a) f known);
        variables = nowhere (MentionsBound []) (IsBound []) nothing_bound names f (every_map (Known c names) _ (λ a k. mentions_none names a) f known);
        linear = subst (λ ns. ¬ (IsNonlinear c (place ns) w)) (sym same) (nowhere (SomeTerm (HasNonlinear c (place names))) (λ x. ⊥) (λ x z. z) names f (every_map (Known c names) _ (linear_atom c names v.distinct) f known));
        undivided = subst (λ ns. ¬ (Divides c (place ns) w)) (sym same) (nowhere (SomeTerm (HasForbidden c (place names))) (λ x. ⊥) (λ x z. z) names f (every_map (Known c names) _ (whole_atom c names v.distinct) f known));
        congruences = no_congruence names f c known;
        moduli = subst (λ ns. ¬ (IsBadModulus c (place ns) w)) (sym same) (nowhere (HasBadModulus c (place names)) (λ x. ⊥) (λ x z. z) names f (every_map (Known c names) _ (bad_modulus c names v.distinct) f known));
        flat = λ h. let high = resolving_keeps_height c [] names w in let low = r.low in let same_height : height (resolve c [] names w) ≡ height f = ap height tree in omega arith;
        within = subst (λ ns. ¬ (OverflowsInReading c [] (place ns) w)) (sym same)
            (⊎_elim (nowhere (SomeTerm HasPast) (λ x. ⊥) (λ x z. z) names f (every_map (Known c names) _ (past_atom c names v.distinct) f known))
            (nowhere (PassesInReading c [] (place names)) (λ x. ⊥) (λ x z. z) names f (every_map (Known c names) _ (passes_atom c names v.distinct) f known)));
      };
    }
