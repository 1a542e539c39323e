-- The prenex form of a formula by its negation normal form and what a chooser chooses.
use Rattle.std.proofs.Common.{◌≡◌, ◌<◌, ◌+◌, ℕ, zero, suc, List, [], ◌∷◌, ◌++◌, length, inl, inr, refl, sym, ap, ap₂, ◌∙◌, subst, ◌↔◌, arith, nat_eq}
use Rattle.std.proofs.Math.Path.{fun_ext}
use Rattle.logic_meaning.specs.Context.{Context}
use Rattle.logic_meaning.specs.Formula.{Formula, Formulas, Yes, No, One, Not, And, Or, Impl, Repl, Equiv, Ex, All, none, also}
use Rattle.logic_meaning.specs.Form.{Term, coefficient}
use Rattle.logic_meaning.specs.Atom.{Atom, Mentions, form_of}
use Rattle.logic_meaning.specs.Every.{Every, EveryBound, EveryBoundOf}
use Rattle.logic_meaning.specs.NegationNormal.{normal_form, normal_form_of_not, normal_forms, normal_forms_of_not}
use Rattle.logic_meaning.specs.Replaced.{replaced}
use Rattle.logic_meaning.specs.Shape.{is_in, IsPrenex, fewest_blocks}
use Rattle.logic_meaning.specs.Some.{Among}
use Rattle.logic_meaning.specs.Tree.{Tree, IsFree, tree_names}
use Rattle.formula_laws.proofs.EachAtom.{every_map, every_both}
use Rattle.formula_laws.proofs.NormalShape.{normal_form_every, normal_form_shape, normal_form_brings, normal_form_keeps}
use Rattle.logic_meaning.specs.NormalForm.{normal_atom, negated_normal, IsNormal, ConstantPasses}
use Rattle.language_meaning.specs.Somewhere.{SomeAtom}
use Rattle.normal_atoms.proofs.NormalLaws.{normal_atomic, negated_normal_is, negated_names, negated_truth, normal_in, normal_sorted}
use Rattle.formula_laws.specs.Within.{IsTreeWithin, IsAtomWithin, AreTermsWithin}
use Rattle.formula_laws.specs.Equivalence.{Equivalent, IsNegation}
use Rattle.formula_laws.specs.TheoryAtoms.{AtomIn}
use Rattle.formula_laws.proofs.Iff.{both_ways}
use Rattle.formula_laws.proofs.Equivalence.{equivalent_then}
use Rattle.elimination_theory.proofs.NegationNormal.{negation_normal_keeps_truth}
use Rattle.elimination_theory.proofs.BothTheories.{decided}
use Rattle.logic_meaning.specs.Blocks.{block_count}
use Rattle.logic_meaning.specs.NewNames.{AddsNewNames}
use Rattle.shape_theory.proofs.Whole.{is_prenex, has_fewest_blocks, keeps_truth, keeps_names, is_normal, links, chosen_shape}
use Rattle.prenex_forms.proofs.Starts.{length_push}
use Rattle.logic_meaning.specs.Front.{in_front}
use Rattle.logic_meaning.specs.Renaming.{Chosen, nothing_chosen, after, renamed, with_chosen_names, new_count}
use Rattle.shape_theory.specs.Links.{Links}
use Rattle.logic_meaning.specs.Prenex.{prenex_of}
use Rattle.shape_theory.specs.Theorems.{HasNamesBelow, HasPrenexForm}
use Rattle.shape_theory.proofs.NamedAtoms.{names_of, among_mentions}
use Rattle.shape_theory.proofs.AtomNames.{multiple_among}
use Rattle.prenex_forms.specs.declared.chooser.Chooser.{Chooser}
use Rattle.language_meaning.specs.Forms.{OverflowsInRenaming}
use Rattle.prenex_forms.specs.NegationForm.{negation_form}
use Rattle.prenex_forms.specs.Named.{now_of}
use Rattle.prenex_forms.specs.Chosen.{flag, chosen_of, named_by, CanRename, IsRenamed, Overflows}
use Rattle.prenex_forms.proofs.Done.{front_done}

-- ---- names of the negation normal form

module _ {A N : Type 0} (K : N → Type 0) (opposite : A → A) where
  mutual
    pub bound_normal_form : (f : Formula A N) → EveryBound K f → EveryBound K (normal_form opposite f) × EveryBound K (normal_form_of_not opposite f)
    bound_normal_form Yes h = (tt, tt)
    bound_normal_form No h = (tt, tt)
    bound_normal_form (One a) h = (tt, tt)
    bound_normal_form (Not f) h = let i = bound_normal_form f h in (i.1, i.0)
    bound_normal_form (And fs) h = bound_normal_forms fs h
    bound_normal_form (Or fs) h = bound_normal_forms fs h
    bound_normal_form (Impl f g) h = let i = bound_normal_form f h.0 in let j = bound_normal_form g h.1 in ((i.1, (j.0, tt)), (i.0, (j.1, tt)))
    bound_normal_form (Repl f g) h = let i = bound_normal_form f h.0 in let j = bound_normal_form g h.1 in ((i.0, (j.1, tt)), (i.1, (j.0, tt)))
    bound_normal_form (Equiv f g) h =
        let i = bound_normal_form f h.0 in let j = bound_normal_form g h.1 in
        (((i.0, (j.0, tt)), ((i.1, (j.1, tt)), tt)), ((i.0, (j.1, tt)), ((i.1, (j.0, tt)), tt)))
    bound_normal_form (Ex x f) h = let i = bound_normal_form f h.1 in ((h.0, i.0), (h.0, i.1))
    bound_normal_form (All x f) h = let i = bound_normal_form f h.1 in ((h.0, i.0), (h.0, i.1))

    bound_normal_forms : (fs : Formulas A N) → EveryBoundOf K fs → EveryBoundOf K (normal_forms opposite fs) × EveryBoundOf K (normal_forms_of_not opposite fs)
    bound_normal_forms none h = (tt, tt)
    bound_normal_forms (also f fs) h = let i = bound_normal_form f h.0 in let j = bound_normal_forms fs h.1 in ((i.0, j.0), (i.1, j.1))

among_within : (n x : ℕ) (ts : List Term) → AreTermsWithin n ts → Among (names_of ts) x → x < n
among_within n x [] h m = absurd m
among_within n x (t ∷ ts) h (inl e) = subst (λ (z : ℕ). z < n) e h.0
among_within n x (t ∷ ts) h (inr m) = among_within n x ts h.1 m

within_below : (n : ℕ) (a : Atom) → IsAtomWithin n a → (x : ℕ) → Mentions a x → x < n
unfolding coefficient
within_below n a h x m = among_within n x (form_of a).terms h (multiple_among x (form_of a).terms m)

pub has_prenex_form : (c : Context) (n : ℕ) (f : Tree) → Every (IsNormal c) f → IsTreeWithin n f → HasPrenexForm c n (negation_form f)
has_prenex_form c n f h w = record {
  negation_normal = (normal_form_shape negated_normal f).0;
  normal = (normal_form_every negated_normal (IsNormal c) f (every_map _ _ (λ a k. (k, negated_normal_is c a k)) f h)).0;
  named = record {
    atoms = (normal_form_every negated_normal (λ a. (x : ℕ) → Mentions a x → x < n) f
        (every_map (IsAtomWithin n) (λ a. ((x : ℕ) → Mentions a x → x < n) × ((x : ℕ) → Mentions (negated_normal a) x → x < n))
        (λ a k. (within_below n a k, λ x m. within_below n a k x ((negated_names a x).0 m))) f w.atoms)).0;
    quantified = (bound_normal_form (λ x. x < n) negated_normal f w.quantified).0;
  };
}

terms_back : (n : ℕ) (ts : List Term) → ((x : ℕ) → Among (names_of ts) x → x < n) → AreTermsWithin n ts
terms_back n [] h = tt
terms_back n (t ∷ ts) h = (h t.name (inl refl), terms_back n ts (λ x m. h x (inr m)))

-- names of normal atoms that are below the count
pub within_back : (c : Context) (n : ℕ) (f : Tree) → Every (IsNormal c) f → HasNamesBelow n f → IsTreeWithin n f
within_back c n f h w = record {
  atoms = every_both (IsNormal c) (λ a. (x : ℕ) → Mentions a x → x < n) (IsAtomWithin n)
      (λ a k b. terms_back n (form_of a).terms (λ x m. b x (among_mentions a x (normal_sorted c a k) m))) f h w.atoms;
  quantified = w.quantified;
}

-- ---- what is chosen from the beginning

module _ (c : Context) (n : ℕ) (f : Tree) (s : Chooser) (h : HasPrenexForm c n f) (taken : (x : ℕ) → flag s.taken.items x ≡ is_in nat_eq x (tree_names f)) (made : s.made ≡ 0) (now : (x : ℕ) → now_of s.now.items x ≡ x)
    (count : s.count ≡ n) where
  begins : chosen_of s ≡ nothing_chosen (tree_names f)
  begins = let t = fun_ext taken in λ i. record { taken = t i; made = made i }

  stays : now_of s.now.items ≡ (λ x. x)
  stays = fun_ext now

  pub named_same : named_by s f ≡ with_chosen_names n f
  named_same = ap (λ k. renamed k (now_of s.now.items) f (chosen_of s)) count ∙ ap₂ (λ now t. renamed n now f t) stays begins

  pub ready : CanRename c s f
  ready = record {
    normal = h.normal;
    bound = subst (λ (k : ℕ). EveryBound (λ x. x < k) f) (sym count) h.named.quantified;
    links =
        let a = subst (λ (t : Chosen). Links n (IsFree f) (λ x. x) t) (sym begins) (links c n f h) in
        let b = subst (λ (g : ℕ → ℕ). Links n (IsFree f) g (chosen_of s)) (sym stays) a in
        subst (λ (k : ℕ). Links k (IsFree f) (now_of s.now.items) (chosen_of s)) (sym count) b;
  }

  pub whole_is : (g : Tree) (t : Chooser) → IsRenamed c s f g t → in_front g ≡ prenex_of c n f
  whole_is g t r =
      ap in_front (r.made ∙ ap (replaced (normal_atom c) (λ x. x)) named_same) ∙ front_done (normal_atom c) (normal_atomic c) (with_chosen_names n f) (chosen_shape n f h.negation_normal)

  pub new_names : (g : Tree) (t : Chooser) → IsRenamed c s f g t → t.made ≡ new_count n f
  new_names g t r = ap (λ (x : Chosen). x.made) (r.chosen ∙ ap₂ (λ k x. after k f x) count begins)

  pub fits_whole : (g : Tree) (t : Chooser) → IsRenamed c s f g t → ¬ (OverflowsInRenaming c n f)
  fits_whole g t r k = r.fits (subst (λ (x : Tree). SomeAtom (λ a. ConstantPasses (normal_atom c a)) x) (sym named_same) k)

  pub overflows_whole : Overflows c s f → OverflowsInRenaming c n f
  overflows_whole k = subst (λ (x : Tree). SomeAtom (λ a. ConstantPasses (normal_atom c a)) x) named_same k

-- ---- the whole

negation_keeps : (c : Context) (f : Tree) → Every (IsNormal c) f → Equivalent c f (negation_form f)
negation_keeps c f h p o =
    (negation_normal_keeps_truth c (decided c) negated_normal f p (every_map (IsNormal c) (AtomIn c) (normal_in c) f h)
    (every_map (IsNormal c) (λ a. IsNegation c a (negated_normal a)) (λ a k q u. negated_truth c a (normal_in c a k) q u) f h) o).0

-- what is promised of the prenex form of a formula
pub record IsFinished (c : Context) (n : ℕ) (f g : Tree) : Type 0 where
  pub prenex : IsPrenex g
  pub fewest : block_count g ≡ fewest_blocks (negation_form f)
  pub truth : Equivalent c f g
  pub free : (x : ℕ) → IsFree g x ↔ IsFree f x
  pub normal : Every (IsNormal c) g
  pub named : IsTreeWithin (n + new_count n (negation_form f)) g

finished_form : (c : Context) (n : ℕ) (f : Tree) → Every (IsNormal c) f → IsTreeWithin n f → IsFinished c n f (prenex_of c n (negation_form f))
finished_form c n f k w =
    let h = has_prenex_form c n f k w in
    let g = negation_form f in
    let m = is_normal c n g h in
    record {
      prenex = is_prenex c n g h.negation_normal;
      fewest = has_fewest_blocks c n g h.negation_normal;
      truth = equivalent_then c f g (prenex_of c n g) (negation_keeps c f k) (keeps_truth c n g h);
      free = λ x. both_ways (keeps_names c n g h x) (
        (normal_form_brings negated_normal Mentions x f (every_map (IsNormal c) (λ a. Mentions (negated_normal a) x → Mentions a x) (λ a _. (negated_names a x).0) f k)).0,
        (normal_form_keeps negated_normal Mentions x f (every_map (IsNormal c) (λ a. Mentions a x → Mentions (negated_normal a) x) (λ a _. (negated_names a x).1) f k)).0,
      );
      normal = m.0;
      named = within_back c (n + new_count n g) (prenex_of c n g) m.0 m.1;
    }

pub finished : (c : Context) (n : ℕ) (f g : Tree) → Every (IsNormal c) f → IsTreeWithin n f → g ≡ prenex_of c n (negation_form f) → IsFinished c n f g
finished c n f g k w e = subst (IsFinished c n f) (sym e) (finished_form c n f k w)

-- so many names more
pub length_more : (k : ℕ) (old new : List (List ℕ)) → AddsNewNames old k new → length new ≡ length old + k
length_more zero old new h = ap length h ∙ plus_zero (length old)
  where
    plus_zero : (m : ℕ) → m ≡ m + 0
    plus_zero m = omega arith
length_more (suc k) old new h = length_more k (old ++ h.0 ∷ []) new h.2 ∙ one_longer (length (old ++ h.0 ∷ [])) (length old) (length_push old h.0)
  where
    one_longer : (m n : ℕ) → m ≡ suc n → m + k ≡ n + suc k
    one_longer m n e = omega arith
