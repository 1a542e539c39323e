-- The clean lists of a formula against the lists of the formula with its constants folded, distributed.
use Rattle.std.proofs.Common.{◌≡◌, ℕ, ◌≤◌, Bool, true, false, not, refl, sym, ap, ◌∙◌, subst, Option, None, Some, List, [], ◌∷◌, ◌++◌, length, arith}
use Rattle.std.specs.Prelude.{if◌then◌else◌, ◌||◌}
use Rattle.logic_meaning.specs.Formula.{Formula, Formulas, none, also}
use Rattle.logic_meaning.specs.Some.{EachOf}
use Rattle.logic_meaning.specs.Shape.{IsQuantifierFree}
use Rattle.logic_meaning.specs.Fold.{pieces_of, folded}
use Rattle.logic_meaning.specs.declared.junction.Junction.{Junction}
use Rattle.logic_meaning.specs.declared.junction.Junction.TheVariants.{Conjunction}
use Rattle.shape_theory.specs.Kit.{Kit}
use Rattle.shape_theory.specs.Orderly.{IsOrderly}
use Rattle.logic_meaning.specs.Ways.{is_same}
use Rattle.logic_meaning.specs.PlainForms.{of_none, all_distributed}
use Rattle.shape_theory.specs.Lines.{is_within, some_within, not_above, add, add_all, add_products, joined_lines, clean_lines, more_clean_lines}
use Rattle.logic_meaning.specs.Clean.{IsUnmerged}
use Rattle.shape_theory.proofs.Inserting.{MergesLightly, Keeps}
use Rattle.shape_theory.proofs.Under.{Under, joined_under, none_under, one_under, under_each, under_unmerged, under_filled}
use Rattle.shape_theory.proofs.Shown.{Filled, JoinsLists, IsMadeOfMembers, Shows, shown}

-- ---- lists that settle the whole

module _ {A : Type 0} (kit : Kit A) (j : Junction) where
  no_products : (ls : List (List A)) → add_products kit j [] ls [] ≡ []
  no_products [] = refl
  no_products (us ∷ ls) = no_products ls

  all_within : (ls : List (List A)) → add_all kit j ([] ∷ []) ls ≡ [] ∷ []
  all_within [] = refl
  all_within (us ∷ ls) = all_within ls

  not_empty : (us : List A) → 1 ≤ length us → is_within kit j us [] ≡ false
  not_empty [] h = absurd (omega arith)
  not_empty (u ∷ us) h = refl

  none_empty : (ls : List (List A)) → Filled ls → some_within kit j ls [] ≡ false
  none_empty [] h = refl
  none_empty (us ∷ ls) h = ap (λ b. b || some_within kit j ls []) (not_empty us h.0) ∙ none_empty ls h.1

  all_above : (ls : List (List A)) → not_above kit j ls [] ≡ []
  all_above [] = refl
  all_above (us ∷ ls) = all_above ls

  empty_added : (ls : List (List A)) → Filled ls → add kit j ls [] ≡ [] ∷ []
  empty_added ls h = ap (λ b. if b then ls else not_above kit j ls [] ++ [] ∷ []) (none_empty ls h) ∙ ap (λ t. t ++ [] ∷ []) (all_above ls)

  pub settled_first : (b : Bool) (ls : List (List A)) → joined_lines kit j b (of_none (not b)) ls ≡ of_none (not b)
  settled_first false ls = all_within ls
  settled_first true ls = refl

  pub settled_last : (b : Bool) (ls : List (List A)) → Filled ls → joined_lines kit j b ls (of_none (not b)) ≡ of_none (not b)
  settled_last false ls h = empty_added ls h
  settled_last true ls h = no_products ls

  nothing_joined : (b : Bool) → joined_lines kit j b (of_none b) (of_none b) ≡ of_none b
  nothing_joined false = refl
  nothing_joined true = refl

-- ---- the lists

module _ {A : Type 0} (kit : Kit A) (j : Junction) (Q : A → Type 0) (w : A → ℕ) (light : MergesLightly kit j Q w) where
  settled_none : (b : Bool) → joined_lines kit j b (of_none b) (of_none (not b)) ≡ of_none (not b)
  settled_none false = refl
  settled_none true = refl

  lines_join : JoinsLists (Under kit j Q w light) (joined_lines kit j) of_none
  lines_join = record {
    empty = none_under kit j Q w light;
    crossed = λ ps qs x y r s. joined_under kit j Q w light true ps x qs y r s;
    beside = λ ps qs x y f g r s. joined_under kit j Q w light false ps x qs y r s;
    settled_first = settled_first kit j;
    settled_last = λ b ps x f r. settled_last kit j b x (under_filled kit j Q w light ps x r f);
    settled_nothing = settled_none;
    nothing_twice = nothing_joined kit j;
  }

  pub lines_made : IsMadeOfMembers j Q (Under kit j Q w light) (joined_lines kit j) of_none (clean_lines kit j) (more_clean_lines kit j)
  lines_made = record {
    joins = lines_join;
    yes = refl;
    no = refl;
    one = one_under kit j Q w light;
    conjunction = λ fs. refl;
    disjunction = λ fs. refl;
    no_more = λ b x. refl;
    one_more = λ b x f fs. refl;
  }

  abbrev pub LinesShow : Bool → Option (Formulas A ℕ) → List (List A) → Type 0
  LinesShow b o cs = Shows j Q (Under kit j Q w light) (joined_lines kit j) of_none (clean_lines kit j) (more_clean_lines kit j) b o cs

  -- ---- what each atom has

  abbrev AreSound : List (List A) → Type 0
  AreSound cs = EachOf (EachOf Q) cs × EachOf (IsUnmerged (Keeps kit j Q w light)) cs

  none_sound : (b : Bool) → AreSound (of_none b)
  none_sound false = (tt, tt)
  none_sound true = ((tt, tt), (tt, tt))

  shows_sound : (b : Bool) (o : Option (Formulas A ℕ)) (cs : List (List A)) → LinesShow b o cs → AreSound cs
  shows_sound b None cs h = subst AreSound (sym h) (none_sound (not b))
  shows_sound b (Some none) cs h = subst AreSound (sym h) (none_sound b)
  shows_sound b (Some (also f fs)) cs h = (under_each kit j Q w light (all_distributed j b (also f fs)) cs h.made, under_unmerged kit j Q w light (all_distributed j b (also f fs)) cs h.made)

  pub lines_shown : (f : Formula A ℕ) → IsOrderly Q f → IsQuantifierFree f → (k : Junction) → LinesShow (is_same j k) (pieces_of k (folded f)) (clean_lines kit j f)
  lines_shown = shown j Q (Under kit j Q w light) (joined_lines kit j) of_none (clean_lines kit j) (more_clean_lines kit j) lines_made

  pub lines_sound : (f : Formula A ℕ) → IsOrderly Q f → IsQuantifierFree f → EachOf (EachOf Q) (clean_lines kit j f) × EachOf (IsUnmerged (Keeps kit j Q w light)) (clean_lines kit j f)
  lines_sound f h q = shows_sound (is_same j Conjunction) (pieces_of Conjunction (folded f)) (clean_lines kit j f) (lines_shown f h q Conjunction)
