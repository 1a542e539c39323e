-- The values of answers, one after the other.
use Rattle.std.proofs.Common.{◌≡◌, ℕ, List, [], ◌∷◌, ◌++◌, Some, ◌↔◌, refl, sym, ap, ◌∙◌, subst, nat_eq, append_assoc, append-nil, inl, inr}
use Rattle.std.proofs.Math.IntN.{ℤ}
use Rattle.exact_numbers.specs.Frac.{Frac}
use Rattle.logic_meaning.specs.Context.{Context, Fields, Integers}
use Rattle.logic_meaning.specs.Point.{Point, Of, move}
use Rattle.formula_laws.specs.Points.{IsSamePoint}
use Rattle.logic_meaning.specs.Plain.{IsPlain}
use Rattle.logic_meaning.specs.Some.{Among, EachOf}
use Rattle.logic_meaning.specs.Answer.{Answer, Holds}
use Rattle.logic_meaning.specs.Tree.{Tree, TrueAt}
use Rattle.formula_laws.specs.Equivalence.{InContext}
use Rattle.formula_laws.proofs.Iff.{both_ways}
use Rattle.formula_laws.proofs.TreeFiner.{tree_same_point}
use Rattle.formula_laws.proofs.TreeReplacing.{moved_of}
use Rattle.elimination_theory.specs.AtPlace.{at_place}
use Rattle.logic_meaning.specs.BothTheories.{IsPlaceIn}
use Rattle.elimination_theory.proofs.BothSubstitutions.{place_holds}
use Rattle.elimination_theory.proofs.Meets.{meets_map}
use Rattle.elimination_theory.proofs.OneStep.{result_becomes}
use Rattle.elimination_theory.proofs.SomeListed.{each_append}
use Rattle.logic_meaning.specs.NormalForm.{normal_atom}
use Rattle.logic_meaning.specs.AnswerParts.{answer_names}
use Rattle.elimination_theory.proofs.Tidy.{normaliser}
use Rattle.case_theory.specs.Block.{DifferIn}
use Rattle.case_theory.specs.PutThrough.{put_through, FitWhere}
use Rattle.logic_meaning.specs.Values.{Value, value_names, with_value, with_values, IsValue, common_denominator, point_over, origin}
use Rattle.logic_meaning.specs.Calculated.{step_value, values_from}
use Rattle.sample_reference.proofs.SamePoints.{some_same, some_then, common_is, same_point, values_of_theory}
use Rattle.sample_reference.proofs.Chain.{origin_of, with_append, over_of, true_over, true_more}
use Rattle.case_theory.specs.Samples.{named_value, answer_steps, AreKnown, GivesAnswers, SampleOfAnswersIsTrue}
use Rattle.case_theory.proofs.OneValue.{value_true}
use Rattle.case_theory.proofs.Moving.{differ_self, differ_moved, differ_same, with_same}

-- the places are of the theory, and their names have P
abbrev pub AreIn : Context → (ℕ → Type 0) → List Answer → Type 0
AreIn c P answers = EachOf (λ (a : Answer). P a.name × IsPlaceIn c a.place) answers

pub each_in : (c : Context) (P : ℕ → Type 0) (answers : List Answer) → ((y : ℕ) → Among (answer_names answers) y → P y) → EachOf (λ (a : Answer). IsPlaceIn c a.place) answers → AreIn c P answers
each_in c P [] h k = tt
each_in c P (a ∷ rest) h k = ((h a.name (inl refl), k.0), each_in c P rest (λ y m. h y (inr m)) k.1)

-- the values behind those found before, which make the formula true
record AreBehind (c : Context) (f : Tree) (answers : List Answer) (found all : List Value) : Type 0 where
  values : List Value
  behind : all ≡ found ++ values
  names : value_names values ≡ answer_names answers
  each : EachOf (IsValue c) values
  matrix : TrueAt c f (with_values origin (found ++ values))

-- one value more behind those found
behind_more : (all found values : List Value) (v : Value) → all ≡ (found ++ (v ∷ [])) ++ values → all ≡ found ++ (v ∷ values)
behind_more all found values v e = e ∙ append_assoc found (v ∷ []) values

names_behind : (a : Answer) (r : Frac) (rest : List Answer) (values : List Value) → value_names values ≡ answer_names rest → value_names (named_value a.name r ∷ values) ≡ answer_names (a ∷ rest)
names_behind a r rest values e = ap (λ ns. a.name ∷ ns) e

true_behind : (c : Context) (f : Tree) (found values : List Value) (v : Value) → TrueAt c f (with_values origin ((found ++ (v ∷ [])) ++ values)) → TrueAt c f (with_values origin (found ++ (v ∷ values)))
true_behind c f found values v t = subst (λ vs. TrueAt c f (with_values origin vs)) (append_assoc found (v ∷ []) values) t

known_more : (K : Point ℕ → Type 0) (found : List Value) (v : Value) → K (with_value (with_values origin found) v) → K (with_values origin (found ++ (v ∷ [])))
known_more K found v k = subst K (sym (with_append found (v ∷ []) origin)) k

module _ (c : Context) (f : Tree) (plain : IsPlain f) (inside : InContext c f) where
  through_plain : (answers : List Answer) → EachOf (λ (a : Answer). IsPlaceIn c a.place) answers → IsPlain (put_through c answers f) × InContext c (put_through c answers f)
  through_plain [] h = (plain, inside)
  through_plain (a ∷ rest) h =
      let i = through_plain rest h.1 in
      let b = result_becomes c (normal_atom c) (normaliser c) a.name a.place (put_through c rest f) h.0 i.0 i.1 in
      (b.is_plain, b.in_context)

  -- K holds on where names with P move
  module _ (P : ℕ → Type 0) (K : Point ℕ → Type 0) (moves : (q : Point ℕ) (x : ℕ) (k : ℤ) (m : ℕ) → P x → K q → K (move nat_eq q x k m)) (same : (q r : Point ℕ) → Of c q → IsSamePoint q r → K q → K r) where
    places : (answers : List Answer) → AreIn c P answers → EachOf (λ (a : Answer). IsPlaceIn c a.place) answers
    places [] h = tt
    places (a ∷ rest) h = (h.0.1, places rest h.1)

    fits_here : (answers : List Answer) → FitWhere K c answers f → (q : Point ℕ) → Of c q → K q → Holds c answers f q ↔ TrueAt c (put_through c answers f) q
    fits_here [] t q o k = (λ u. u, λ u. u)
    fits_here (a ∷ rest) t q o k = t.0 q o k

    -- the first answer makes true the formula with the others put in
    first_holds : (a : Answer) (rest : List Answer) (q : Point ℕ) → FitWhere K c (a ∷ rest) f → P a.name → IsPlaceIn c a.place → Of c q → K q → TrueAt c (put_through c (a ∷ rest) f) q →
        Holds c (at_place a.name a.place) (put_through c rest f) q
    first_holds a rest q t h place o k u =
        meets_map c a.place a.name (λ z. Holds c rest f z) (λ z. TrueAt c (put_through c rest f) z) q
        (λ i m allowed v. (fits_here rest t.1 (move nat_eq q a.name i m) (moved_of c q a.name i m o allowed) (moves q a.name i m h k)).0 v) place ((t.0 q o k).1 u)

    found_behind : (answers : List Answer) (found all : List Value) → AreIn c P answers → FitWhere K c answers f → EachOf (IsValue c) found → K (with_values origin found) →
        TrueAt c (put_through c answers f) (with_values origin found) → values_from c (answer_steps c answers f) found ≡ Some all → AreBehind c f answers found all
    found_behind [] found all h t each k u e = record {
      values = [];
      behind = sym (some_same found all e) ∙ sym (append-nil found);
      names = refl;
      each = tt;
      matrix = subst (λ vs. TrueAt c f (with_values origin vs)) (sym (append-nil found)) u;
    }
    found_behind (a ∷ rest) found all h t each k u e =
        some_then (step_value c (record { name = a.name; place = a.place; branch = put_through c rest f }) found) _ all e (λ r formed y.
        some_then (common_denominator found) _ r formed (λ d w z.
        let v : Value = named_value a.name r in
        let b = put_through c rest f in
        let i = through_plain rest (places rest h.1) in
        let common = common_is c found d each w in
        let oq = values_of_theory c found origin each (origin_of c) in
        let ol = over_of c found d each w common in
        let kl = same (with_values origin found) (point_over d found) oq (same_point c found d each common) k in
        let holds = first_holds a rest (point_over d found) t h.0.0 h.0.1 ol kl ((true_over c (put_through c (a ∷ rest) f) found d each w).0 u) in
        let one = value_true c a.name a.place b (point_over d found) r h.0.1 i.0 i.1 ol holds z in
        let more = true_more c b found d v each w one.0 one.1 in
        let km = known_more K found v (moves (with_values origin found) a.name _ _ h.0.0 k) in
        let left = found_behind rest (found ++ (v ∷ [])) all h.1 t.1 (each_append (IsValue c) found (v ∷ []) each (one.0, tt)) km more y in
        record {
          values = v ∷ left.values;
          behind = behind_more all found left.values v left.behind;
          names = names_behind a r rest left.values left.names;
          each = (one.0, left.each);
          matrix = true_behind c f found left.values v left.matrix;
        }))

    gives : (answers : List Answer) (p : Point ℕ) (known all : List Value) → AreIn c P answers → FitWhere K c answers f → Of c p → K p → Holds c answers f p → AreKnown c known p →
        values_from c (answer_steps c answers f) known ≡ Some all → GivesAnswers c answers f p known all
    gives answers p known all h t o k holds known_is e =
        let q = with_values origin known in
        let oq = values_of_theory c known origin known_is.each (origin_of c) in
        let u = (tree_same_point c (put_through c answers f) p q o oq known_is.same).0 ((fits_here answers t p o k).0 holds) in
        let is = found_behind answers known all h t known_is.each (same p q o known_is.same k) u e in
        let there : TrueAt c f (with_values q is.values) = subst (TrueAt c f) (with_append known is.values origin) is.matrix in
        record {
          values = is.values;
          behind = is.behind;
          true_answers = record {
            names = is.names;
            each = is.each;
            true_with = (tree_same_point c f (with_values p is.values) (with_values q is.values) (values_of_theory c is.values p is.each o) (values_of_theory c is.values q is.each oq) (with_same is.values p q known_is.same)).1 there;
          };
        }

-- over the ordered fields an answer fits everywhere, where those after it do
module _ (f : Tree) (plain : IsPlain f) (inside : InContext Fields f) where
  rest_fits : (rest : List Answer) → FitWhere (λ q. Unit {0}) Fields rest f → (q : Point ℕ) → Of Fields q → Holds Fields rest f q ↔ TrueAt Fields (put_through Fields rest f) q
  rest_fits rest left q o = fits_here Fields f plain inside (λ y. Unit {0}) (λ r. Unit {0}) (λ r x k m u v. tt) (λ r s u v w. tt) rest left q o tt

  first_fits : (a : Answer) (rest : List Answer) → EachOf (λ (a : Answer). IsPlaceIn Fields a.place) (a ∷ rest) → FitWhere (λ q. Unit {0}) Fields rest f → (q : Point ℕ) → Of Fields q →
      Holds Fields (a ∷ rest) f q ↔ TrueAt Fields (put_through Fields (a ∷ rest) f) q
  first_fits a rest h left q o =
      let i = through_plain Fields f plain inside rest h.1 in
      let b = put_through Fields rest f in
      both_ways (
        meets_map Fields a.place a.name (λ z. Holds Fields rest f z) (λ z. TrueAt Fields b z) q (λ k m al v. (rest_fits rest left (move nat_eq q a.name k m) (moved_of Fields q a.name k m o al)).0 v) h.0,
        meets_map Fields a.place a.name (λ z. TrueAt Fields b z) (λ z. Holds Fields rest f z) q (λ k m al v. (rest_fits rest left (move nat_eq q a.name k m) (moved_of Fields q a.name k m o al)).1 v) h.0,
      )
      (both_ways (place_holds Fields a.name a.place b q h.0 i.0 i.1 o) ((result_becomes Fields (normal_atom Fields) (normaliser Fields) a.name a.place b h.0 i.0 i.1).equivalent q o))

  fields_fit : (answers : List Answer) → EachOf (λ (a : Answer). IsPlaceIn Fields a.place) answers → FitWhere (λ q. Unit {0}) Fields answers f
  fields_fit [] h = tt
  fields_fit (a ∷ rest) h = let left = fields_fit rest h.1 in (λ q o k. first_fits a rest h left q o, left)

pub sample_of_answers : (c : Context) → SampleOfAnswersIsTrue c
sample_of_answers Fields answers f p known all s k e =
    gives Fields f s.is_plain s.in_context (λ y. Unit {0}) (λ r. Unit {0}) (λ r x i m u v. tt) (λ r t u v w. tt) answers p known all (each_in Fields (λ y. Unit {0}) answers (λ y m. tt) s.places)
    (fields_fit f s.is_plain s.in_context answers s.places) s.of_theory tt s.holds k e
sample_of_answers Integers answers f p known all s k e =
    let P = Among (answer_names answers) in
    gives Integers f s.is_plain s.in_context P (DifferIn P p) (λ q x i m u v. differ_moved P p q x i m u v) (λ q r o same d. differ_same P p Integers q r o same d) answers p known all
    (each_in Integers P answers (λ y m. m) s.places) s.fit s.of_theory (differ_self P p) s.holds k e
