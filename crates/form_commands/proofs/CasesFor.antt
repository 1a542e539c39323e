-- What is left of cases under atoms, whichever way they were found.
use Rattle.std.proofs.Common.{◌≡◌, ◌↔◌, ◌⊎◌, inl, inr, ⊎_elim, ℕ, ◌<◌, List, [], ◌∷◌, ◌++◌, map, Bool, true, false, sym, ap, subst, refl, nat_eq, arith}
use Rattle.std.proofs.Math.IntN.{ℤ, pos, negsuc}
use Rattle.std.proofs.lemmas.Int.{ints}
use Rattle.std.proofs.lemmas.List.Elements.{All-from_recursion, recursion_from_All}
use Rattle.std.proofs.lemmas.List.Sorted.{IsPermutation-refl, IsPermutation-sym, IsPermutation-trans, IsPermutation-middle, IsPermutation-cons, All-permutation}
use Rattle.std.specs.Prelude.{◌<ℤ◌, IsPermutation, unsigned_abs}
use Rattle.std.specs.List.{AllByRecursion}
use Rattle.exact_numbers.specs.Limit.{InLimit}
use Rattle.logic_meaning.specs.Answer.{Answer, Holds, IsSortedPlace, PlaceMentions, Exact, AboveBy, BelowBy, PlusInfinity, MinusInfinity, Periodic}
use Rattle.logic_meaning.specs.Answer as meaning
use Rattle.logic_meaning.specs.Atom.{Atom, Says, Mentions}
use Rattle.logic_meaning.specs.Context.{Context}
use Rattle.formula_laws.specs.StandsOnce.{StandsOnce}
use Rattle.logic_meaning.specs.Every.{Every, FreeInSome}
use Rattle.logic_meaning.specs.Form.{Form, coefficient}
use Rattle.logic_meaning.specs.Formula.{Or}
use Rattle.formula_laws.specs.Giving.{Gives}
use Rattle.logic_meaning.specs.Point.{Point, Of, move}
use Rattle.logic_meaning.specs.Shape.{IsQuantifierFree}
use Rattle.logic_meaning.specs.Some.{Among, EachOf}
use Rattle.logic_meaning.specs.Tree.{Tree, TrueAt, IsFree}
use Rattle.formula_laws.specs.Within.{IsTreeWithin}
use Rattle.formula_laws.proofs.Iff.{both_ways, turn_round}
use Rattle.formula_laws.proofs.TreeReplacing.{moved_of}
use Rattle.logic_meaning.specs.BothTheories.{IsPlaceIn}
use Rattle.logic_meaning.specs.Overflow.{FormWithin, PlaceWithin}
use Rattle.elimination_theory.proofs.Meets.{meets_map}
use Rattle.elimination_theory.proofs.SomeListed.{each_among}
use Rattle.logic_meaning.specs.NormalForm.{IsNormal}
use Rattle.linear_forms.specs.Combinations.{IsLinear}
use Rattle.shape_theory.specs.Simplifiable.{EquivalentUnder}
use Rattle.logic_meaning.specs.Cases.{Case, case_sign, case_matrix, case_names}
use Rattle.logic_meaning.specs.Over.{AreAnswersOver}
use Rattle.elimination_theory.specs.CasesOver.{AreOver}
use Rattle.logic_meaning.specs.Reference.{normal_tree}
use Rattle.elimination_theory.specs.Theorems.{IsExactCase, AreExactCases, Says as SaysOf}
use Rattle.logic_meaning.specs.AnswerParts.{guards_of, answer_names}
use Rattle.elimination_theory.proofs.CasesExact.{cases_exact}
use Rattle.elimination_theory.proofs.Over.{cases_have_answers}
use Rattle.test_points.specs.declared.points.Place.{Place}
use Rattle.test_points.specs.declared.points.Place.TheVariants as place
use Rattle.test_points.specs.declared.points.TestPoint.{TestPoint}
use Rattle.test_points.specs.Points.{place_at, answer_of, IsTestPoint}
use Rattle.test_points.proofs.Forms.{coefficient_within}
use Rattle.session_state.specs.FromRedlogPrinter.{IsPlaceWithin, AreAnswersWithin, AreCasesWithin}
use Rattle.session_state.proofs.SoundLemmas.{terms_within}
use Rattle.case_theory.specs.CaseTree.{without_all, IsCaseUnder, SaysUnder, IsCaseTree}
use Rattle.case_theory.specs.PutThrough.{AreTrue}
use Rattle.case_theory.specs.Under.{Lack}
use Rattle.case_theory.proofs.Leading.{names_once}
use Rattle.case_theory.proofs.Lists.{once_head, each_from, taken_out}
use Rattle.case_theory.proofs.Moved.{lacking_stays}
use Rattle.case_theory.proofs.Without.{without_all_each, without_all_lack}
use Rattle.form_commands.specs.Cases.{IsCaseLeft, AreLeftOf, IsCaseFor, AreCasesFor, AreWantedCases, AreCasesBy}
use Rattle.form_commands.specs.declared.way.Way.{Way}
use Rattle.form_commands.specs.declared.way.Way.TheVariants as way
use Rattle.form_commands.proofs.CaseLemmas.{left_each, left_true, names_below}
use Rattle.form_commands.proofs.EliminatedLemmas.{plain_free, free_below, within_of_names, unquantified_bound}

-- ---- lists with each element once

module _ {X : Type 0} where
  -- an element stands somewhere
  parted : (x : X) (ys : List X) → Among ys x → (before : List X) × (after : List X) × (ys ≡ before ++ x ∷ after)
  parted x [] m = absurd m
  parted x (y ∷ ys) (inl e) = ([], ys, ap (λ z. z ∷ ys) e)
  parted x (y ∷ ys) (inr m) = let r = parted x ys m in (y ∷ r.0, r.1, ap (λ zs. y ∷ zs) r.2)

-- two with the same names are one in another order
once_permutes : (xs ys : List ℕ) → StandsOnce xs → StandsOnce ys → ((y : ℕ) → Among ys y ↔ Among xs y) → IsPermutation xs ys
once_permutes [] [] o u same = IsPermutation-refl []
once_permutes [] (y ∷ ys) o u same = absurd ((same y).0 (inl refl))
once_permutes (x ∷ xs) ys o u same = go (parted x ys ((same x).1 (inl refl))) (λ zs once there. once_permutes xs zs o.1 once there)
  where
    go : (before : List ℕ) × (after : List ℕ) × (ys ≡ before ++ x ∷ after) → ((zs : List ℕ) → StandsOnce zs → ((y : ℕ) → Among zs y ↔ Among xs y) → IsPermutation xs zs) → IsPermutation (x ∷ xs) ys
    go r others =
        let before = r.0 in
        let after = r.1 in
        let out = taken_out before after x (subst (λ (zs : List ℕ). StandsOnce zs) r.2 u) in
        let there : (y : ℕ) → Among (before ++ x ∷ after) y ↔ Among (x ∷ xs) y = λ y. subst (λ (zs : List ℕ). Among zs y ↔ Among (x ∷ xs) y) r.2 (same y) in
        let inner : IsPermutation xs (before ++ after) = others (before ++ after) out.once
        (λ y. (
          λ m. let t = (out.same y).0 m in ⊎_elim (λ e. absurd (t.0 e)) (λ n. n) ((there y).0 t.1),
          λ m. (out.same y).1 (λ e. once_head x xs o (subst (λ (z : ℕ). Among xs z) (sym e) m), (there y).1 (inr m)),
        )) in
        subst (IsPermutation (x ∷ xs)) (sym r.2)
        (IsPermutation-trans (x ∷ xs) (x ∷ (before ++ after)) (before ++ x ∷ after) (IsPermutation-cons x xs (before ++ after) inner)
        (IsPermutation-sym (before ++ x ∷ after) (x ∷ (before ++ after)) (IsPermutation-middle before x after)))

-- ---- answers

place_sorted : (s : Place) (e : Form) (d : ℕ) (q : ℤ) → IsLinear e → IsSortedPlace (place_at s e d q)
place_sorted place.Exact e d q l = l.sorted
place_sorted place.AboveBy e d q l = l.sorted
place_sorted place.BelowBy e d q l = l.sorted
place_sorted place.MinusInfinity e d q l = tt
place_sorted place.PlusInfinity e d q l = tt
place_sorted place.Periodic e d q l = tt

form_numbers : (e : Form) → IsLinear e → FormWithin e
form_numbers e l = record { coefficients = λ y. coefficient_within y e l; constant_within = l.constant_within }

place_numbers : (s : Place) (e : Form) (d : ℕ) (q : ℤ) → IsLinear e → InLimit (pos d) → InLimit q → PlaceWithin (place_at s e d q)
place_numbers place.Exact e d q l h i = (form_numbers e l, h)
place_numbers place.AboveBy e d q l h i = (form_numbers e l, h)
place_numbers place.BelowBy e d q l h i = (form_numbers e l, h)
place_numbers place.MinusInfinity e d q l h i = tt
place_numbers place.PlusInfinity e d q l h i = tt
place_numbers place.Periodic e d q l h i = (l.constant_within, i)

positive_within : (z : ℤ) → pos 0 <ℤ z → InLimit z → InLimit (pos (unsigned_abs z))
positive_within (pos n) p h = h
positive_within (negsuc n) p h = absurd (omega (arith, ints, p))

-- the place of a test point has a sorted form and numbers within the limit
pub point_numbers : (t : TestPoint) → IsTestPoint t → IsSortedPlace (answer_of t).place × PlaceWithin (answer_of t).place
point_numbers t w = (place_sorted t.place t.form _ t.period w.linear, place_numbers t.place t.form _ t.period w.linear (positive_within t.over w.positive w.over_within) w.period_within)

-- so have those of all
pub points_over : (c : Context) (P : ℕ → Type 0) (ts : List TestPoint) → AllByRecursion IsTestPoint ts → EachOf (λ (a : Answer). IsPlaceIn c a.place) (map answer_of ts) → AreOver P (map answer_of ts) → AreAnswersOver c P (map answer_of ts)
points_over c P [] w i o = tt
points_over c P (t ∷ ts) w i o = (
  record {
    place = i.0;
    sorted = (point_numbers t w.0).0;
    within = (point_numbers t w.0).1;
    names = o.0;
  },
  points_over c (λ y. P y ⊎ (t.name.number ≡ y)) ts w.1 i.1 o.1,
)

-- answers make true under atoms without their names what is equivalent there
holds_under : (c : Context) (ks : List Atom) (answers : List Answer) (f g : Tree) (p : Point ℕ) → EquivalentUnder c ks f g → EachOf (Lack ks) (answer_names answers) → EachOf (λ (a : Answer). IsPlaceIn c a.place) answers → Of c p → AreTrue ks p →
    Holds c answers f p → Holds c answers g p
holds_under c ks [] f g p e l i o t u = (e p o t).0 u
holds_under c ks (a ∷ rest) f g p e l i o t u =
    meets_map c a.place a.name (λ q. Holds c rest f q) (λ q. Holds c rest g q) p (λ k m w v. holds_under c ks rest f g (move nat_eq p a.name k m) e l.1 i.1 (moved_of c p a.name k m o w) (lacking_stays c ks p a.name k m l.0 w t) v) i.0 u

-- ---- the cases of a case tree

-- what is known of a case before its guard is simplified
record IsFound (c : Context) (ks : List Atom) (f : Tree) (k : Case) : Type 0 where
  pub free : IsQuantifierFree k.guard
  pub names : (y : ℕ) → IsFree k.guard y → IsFree f y
  pub once : IsPermutation (case_names f) (answer_names k.answers)
  pub answers : AreAnswersOver c (IsFree f) k.answers
  pub exact : (p : Point ℕ) → Of c p → AreTrue ks p → Holds c k.answers (case_matrix f) p ↔ TrueAt c k.guard p

module _ (c : Context) (ks : List Atom) (f : Tree) where
  left_is : (k m : Case) → IsFound c ks f k → IsCaseLeft c ks k m → IsCaseFor c ks f m
  left_is k m h l = record {
    free = l.simplified.free h.free;
    names = λ y u. h.names y (l.simplified.names y u);
    reduced = l.simplified.reduced;
    possible = l.possible;
    normal = l.simplified.normal;
    orderly = l.simplified.orderly;
    numbers = l.numbers;
    once = subst (λ answers. IsPermutation (case_names f) (answer_names answers)) (sym l.answers) h.once;
    answers = subst (AreAnswersOver c (IsFree f)) (sym l.answers) h.answers;
    exact = λ p o t. subst (λ answers. Holds c answers (case_matrix f) p ↔ TrueAt c m.guard p) (sym l.answers) (both_ways (h.exact p o t) (turn_round (l.simplified.truth p o t)));
  }

  says_left : (sign : Bool) (cases left : List Case) → SaysUnder c ks sign f (Or (guards_of cases)) → AreLeftOf c ks cases left → SaysUnder c ks sign f (Or (guards_of left))
  says_left true cases left h l = λ p o t. both_ways (h p o t) (turn_round (left_true c ks p o t cases left l))
  says_left false cases left h l = λ p o t. both_ways (h p o t) (turn_round (left_true c ks p o t cases left l))

  left_are : (cases left : List Case) → EachOf (IsFound c ks f) cases → SaysUnder c ks (case_sign (normal_tree f)) f (Or (guards_of cases)) → AreLeftOf c ks cases left → AreCasesFor c ks f left
  left_are cases left each says l = record {
    each = left_each c ks (IsFound c ks f) (IsCaseFor c ks f) left_is cases left each l;
    together = says_left (case_sign (normal_tree f)) cases left says l;
  }

  -- atoms that are true are true without those with a name of the block
  pub fewer_true : (p : Point ℕ) → AreTrue ks p → AreTrue (without_all (case_names f) ks) p
  fewer_true p t = without_all_each (λ k. Says k p) (case_names f) ks t

  module _ (matrix : Tree) (means : EquivalentUnder c (without_all (case_names f) ks) (case_matrix f) matrix) where
    abbrev fewer : List Atom
    fewer = without_all (case_names f) ks

    case_found : (k : Case) → IsCaseUnder c fewer f matrix (case_names f) k → AreAnswersOver c (IsFree f) k.answers → IsFound c ks f k
    case_found k h over =
        let lack : EachOf (Lack fewer) (answer_names k.answers) = each_from (Lack fewer) (answer_names k.answers) (λ y m. each_among (Lack fewer) (case_names f) y (without_all_lack (case_names f) ks) ((h.answered.same y).0 m)) in
        record {
          free = plain_free k.guard h.tidy.is_plain;
          names = h.names;
          once = once_permutes (case_names f) (answer_names k.answers) (names_once f) h.answered.once h.answered.same;
          answers = over;
          exact = λ p o t.
              let u = fewer_true p t in
              both_ways (
                holds_under c fewer k.answers (case_matrix f) matrix p means lack h.places o u,
                holds_under c fewer k.answers matrix (case_matrix f) p (λ q w v. turn_round (means q w v)) lack h.places o u,
              )
              (h.exact p o u);
        }

  says_fewer : (sign : Bool) (g : Tree) → SaysUnder c (without_all (case_names f) ks) sign f g → SaysUnder c ks sign f g
  says_fewer true g h = λ p o t. h p o (fewer_true p t)
  says_fewer false g h = λ p o t. h p o (fewer_true p t)

  cases_found : (matrix : Tree) (cases : List Case) → EquivalentUnder c (without_all (case_names f) ks) (case_matrix f) matrix → EachOf (IsCaseUnder c (without_all (case_names f) ks) f matrix (case_names f)) cases →
      EachOf (λ (k : Case). AreAnswersOver c (IsFree f) k.answers) cases → EachOf (IsFound c ks f) cases
  cases_found matrix [] means each over = tt
  cases_found matrix (k ∷ cases) means each over = (case_found matrix means k each.0 over.0, cases_found matrix cases means each.1 over.1)

  -- what is left of the cases of a case tree
  pub tree_cases : (matrix : Tree) (cases left : List Case) → IsCaseTree c ks f matrix cases → EachOf (λ (k : Case). AreAnswersOver c (IsFree f) k.answers) cases → AreLeftOf c ks cases left → AreCasesFor c ks f left
  tree_cases matrix cases left t over l =
      left_are cases left (cases_found matrix cases t.means t.each over) (says_fewer (case_sign (normal_tree f)) (Or (guards_of cases)) t.together) l

  -- ---- the cases of the reference elimination

  reference_found : (cases : List Case) → EachOf (IsExactCase c f) cases → ((y : ℕ) → FreeInSome Mentions (guards_of cases) y → IsFree f y) → EachOf (λ (k : Case). AreAnswersOver c (IsFree f) k.answers) cases → EachOf (IsFound c ks f) cases
  reference_found [] exact names over = tt
  reference_found (k ∷ cases) exact names over = (
    record {
      free = plain_free k.guard exact.0.tidy.is_plain;
      names = λ y t. names y (inl t);
      once = subst (IsPermutation (case_names f)) (sym exact.0.in_order) (IsPermutation-refl (case_names f));
      answers = over.0;
      exact = λ p o t. exact.0.exact p o;
    },
    reference_found cases exact.1 (λ y t. names y (inr t)) over.1,
  )

  says_always : (sign : Bool) (g : Tree) → SaysOf c sign f g → SaysUnder c ks sign f g
  says_always true g h = λ p o t. h p o
  says_always false g h = λ p o t. h p o

  -- what is left of the cases of the reference elimination
  pub wanted_for : (limit : ℕ) (left : List Case) → Every (IsNormal c) f → AreWantedCases c ks limit f left → AreCasesFor c ks f left
  wanted_for limit left normal w =
      let exact : AreExactCases c f w.cases = subst (Gives (λ (r : List Case × ℕ). AreExactCases c f r.0)) w.same (cases_exact c limit f normal) in
      let over : EachOf (λ (k : Case). AreAnswersOver c (IsFree f) k.answers) w.cases =
      subst (Gives (λ (r : List Case × ℕ). EachOf (λ (k : Case). AreAnswersOver c (IsFree f) k.answers) r.0)) w.same (cases_have_answers c limit f normal) in
      left_are w.cases left (reference_found w.cases exact.each exact.names over) (says_always (case_sign (normal_tree f)) (Or (guards_of w.cases)) exact.together) w.simplified

  -- so in either way
  pub cases_for : (way : Way) (limit : ℕ) (left : List Case) → Every (IsNormal c) f → AreCasesBy way c ks limit f left → AreCasesFor c ks f left
  cases_for way.ByCases limit left normal h = h
  cases_for way.ByReference limit left normal h = wanted_for limit left normal h

-- ---- numbers of names

place_below : (n : ℕ) (s : meaning.Place) → IsSortedPlace s → ((y : ℕ) → PlaceMentions s y → y < n) → IsPlaceWithin n s
unfolding coefficient
place_below n (Exact e d) s h = terms_within n e.terms s.rising s.nonzero h
place_below n (AboveBy e d) s h = terms_within n e.terms s.rising s.nonzero h
place_below n (BelowBy e d) s h = terms_within n e.terms s.rising s.nonzero h
place_below n PlusInfinity s h = tt
place_below n MinusInfinity s h = tt
place_below n (Periodic j q) s h = tt

answers_below : (c : Context) (n : ℕ) (answers : List Answer) (P : ℕ → Type 0) → ((y : ℕ) → P y → y < n) → EachOf (λ x. x < n) (answer_names answers) → AreAnswersOver c P answers → AreAnswersWithin n answers
answers_below c n [] P below names over = tt
answers_below c n (a ∷ answers) P below names over = (
  record { name = names.0; place = place_below n a.place over.0.sorted (λ y m. below y (over.0.names y m)) },
  answers_below c n answers (λ y. P y ⊎ (a.name ≡ y)) (λ y. ⊎_elim (λ u. below y u) (λ e. subst (λ x. x < n) e names.0)) names.1 over.1,
)

-- each of the names in another order
each_listed : (P : ℕ → Type 0) (xs : List ℕ) → EachOf P xs → AllByRecursion P xs
each_listed P [] t = tt
each_listed P (x ∷ xs) t = (t.0, each_listed P xs t.1)

listed_each : (P : ℕ → Type 0) (xs : List ℕ) → AllByRecursion P xs → EachOf P xs
listed_each P [] t = tt
listed_each P (x ∷ xs) t = (t.0, listed_each P xs t.1)

each_permuted : (P : ℕ → Type 0) (xs ys : List ℕ) → IsPermutation xs ys → EachOf P xs → EachOf P ys
each_permuted P xs ys h e = listed_each P ys (recursion_from_All P ys (All-permutation P xs ys h (All-from_recursion P xs (each_listed P xs e))))

-- the names of the cases of a formula are below a number where those of the formula are
pub cases_within : (c : Context) (ks : List Atom) (n : ℕ) (f : Tree) (left : List Case) → IsTreeWithin n f → AreCasesFor c ks f left → AreCasesWithin n left
cases_within c ks n f left within h = go left h.each
  where
    below : (y : ℕ) → IsFree f y → y < n
    below y t = free_below n y f within.atoms t

    go : (cases : List Case) → EachOf (IsCaseFor c ks f) cases → AreCasesWithin n cases
    go [] e = tt
    go (k ∷ cases) e = (
      record {
        guard =
            let bound = unquantified_bound (λ x. x < n) k.guard e.0.free in
            record { atoms = within_of_names c n k.guard e.0.normal bound (λ y t. below y (e.0.names y t)); quantified = bound };
        answers = answers_below c n k.answers (IsFree f) below (each_permuted (λ x. x < n) (case_names f) (answer_names k.answers) e.0.once (names_below n f within.quantified)) e.0.answers;
      },
      go cases e.1,
    )
