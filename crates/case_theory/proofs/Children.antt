-- The children of a branch, made point by point.
use Rattle.std.proofs.Common.{ℕ, List, [], ◌∷◌, ◌++◌, refl, sym, subst, inl, inr, ⊎_elim}
use Rattle.logic_meaning.specs.Context.{Context, Fields, Integers}
use Rattle.logic_meaning.specs.Formula.{Ex}
use Rattle.logic_meaning.specs.Some.{Among, EachOf}
use Rattle.logic_meaning.specs.Atom.{Atom}
use Rattle.logic_meaning.specs.Plain.{IsPlain}
use Rattle.logic_meaning.specs.Answer.{Place}
use Rattle.logic_meaning.specs.Tree.{Tree, TrueAt, IsFree}
use Rattle.formula_laws.specs.Equivalence.{InContext}
use Rattle.formula_laws.proofs.Iff.{both_ways}
use Rattle.formula_laws.proofs.Listed.{among_left, among_right}
use Rattle.elimination_theory.specs.NamesTheorems.{IsNameOf}
use Rattle.logic_meaning.specs.BothTheories.{IsPlaceIn}
use Rattle.elimination_theory.specs.Places.{substitution}
use Rattle.logic_meaning.specs.Steps.{Result, result_at}
use Rattle.elimination_theory.proofs.SomeListed.{each_map, each_append, some_left, some_right, some_either}
use Rattle.logic_meaning.specs.Answers.{zero_place}
use Rattle.elimination_theory.proofs.Answers.{absent_zero}
use Rattle.elimination_theory.proofs.BothSubstitutions.{place_in}
use Rattle.elimination_theory.proofs.FieldsNames.{field_substitution_names}
use Rattle.elimination_theory.proofs.IntegersNames.{integer_substitution_names}
use Rattle.elimination_theory.proofs.OneStep.{Becomes, result_becomes}
use Rattle.logic_meaning.specs.NormalForm.{normal_atom}
use Rattle.elimination_theory.specs.Theorems.{IsTidy}
use Rattle.elimination_theory.proofs.Tidy.{normaliser, tidy_in}
use Rattle.case_theory.specs.Points.{IsPointFor}
use Rattle.case_theory.specs.Worked.{IsWorked, IsNeverUnder}
use Rattle.case_theory.specs.Children.{IsChild, AreChildren, ChildrenAreMade}

substituted_names : (c : Context) (x : ℕ) (s : Place) (f : Tree) (y : ℕ) → IsPlaceIn c s → IsPlain f → InContext c f → IsFree (substitution c x s f) y → IsNameOf x s f y
substituted_names Fields x s f y place plain inside t = field_substitution_names x s f y place plain inside t
substituted_names Integers x s f y place plain inside t = integer_substitution_names x s f y place plain t

module _ (c : Context) (ks : List Atom) (x : ℕ) (f : Tree) where
  -- more points
  listed_more : (points more : List Place) → ((s : Place) → Among points s → Among more s) → (rs : List Result) → EachOf (IsChild c ks x f points) rs → EachOf (IsChild c ks x f more) rs
  listed_more points more h rs e =
      each_map (IsChild c ks x f points) (IsChild c ks x f more) (λ (r : Result) i. record { listed = h r.place i.listed; equivalent = i.equivalent; tidy = i.tidy; names = i.names }) rs e

  module _ (s : Place) (tidy : IsTidy c f) (point : IsPointFor c x f s) where
    put_is : Becomes c f (substitution c x s f) (result_at c (normal_atom c) x s f)
    put_is = result_becomes c (normal_atom c) (normaliser c) x s f (place_in c x s f point.suits) tidy.is_plain (tidy_in c f tidy)

    put_names : (y : ℕ) → IsFree (result_at c (normal_atom c) x s f) y → IsFree (Ex x f) y
    put_names y t = ⊎_elim (λ u. u) (point.names y) (substituted_names c x s f y (place_in c x s f point.suits) tidy.is_plain (tidy_in c f tidy) (put_is.names y t))

    one_child : (g : Tree) (points : List Place) (rs : List Result) → IsWorked c ks (result_at c (normal_atom c) x s f) g → AreChildren c ks x f points rs → AreChildren c ks x f (s ∷ points) (record { place = s; tree = g } ∷ rs)
    one_child g points rs w a = record {
      each = (
        record { listed = inl refl; equivalent = λ p o t. both_ways (put_is.equivalent p o) (w.equivalent p o t); tidy = w.tidy; names = λ y u. put_names y (w.names y u) },
        listed_more points (s ∷ points) (λ q m. inr m) rs a.each,
      );
      whole = λ p o t. ⊎_elim (λ u. inl ((w.equivalent p o t).0 ((put_is.equivalent p o).0 u))) (λ u. inr (a.whole p o t u));
    }

    no_child : (points : List Place) (rs : List Result) → IsNeverUnder c ks (result_at c (normal_atom c) x s f) → AreChildren c ks x f points rs → AreChildren c ks x f (s ∷ points) rs
    no_child points rs n a = record {
      each = listed_more points (s ∷ points) (λ q m. inr m) rs a.each;
      whole = λ p o t. ⊎_elim (λ u. absurd (n p o t ((put_is.equivalent p o).0 u))) (a.whole p o t);
    }

  joined_children : (before after : List Place) (rs us : List Result) → AreChildren c ks x f before rs → AreChildren c ks x f after us → AreChildren c ks x f (before ++ after) (rs ++ us)
  joined_children before after rs us a b = record {
    each = each_append (IsChild c ks x f (before ++ after)) rs us (listed_more before (before ++ after) (among_left before after) rs a.each) (listed_more after (before ++ after) (among_right before after) us b.each);
    whole = λ p o t u.
        ⊎_elim (λ v. some_left (λ (r : Result). TrueAt c r.tree p) rs us (a.whole p o t v)) (λ v. some_right (λ (r : Result). TrueAt c r.tree p) rs us (b.whole p o t v))
        (some_either (λ s. TrueAt c (substitution c x s f) p) before after u);
  }

  -- a branch without the name
  unchanged : IsTidy c f → ¬ (IsFree f x) → AreChildren c ks x f (zero_place ∷ []) (record { place = zero_place; tree = f } ∷ [])
  unchanged tidy n =
      let e = (absent_zero c x f tidy.is_plain (tidy_in c f tidy) n).equivalent in
      record {
        each = (record { listed = inl refl; equivalent = λ p o t. e p o; tidy = tidy; names = λ y u. (λ i. n (subst (IsFree f) (sym i) u), u) }, tt);
        whole = λ p o t. ⊎_elim (λ u. inl ((e p o).0 u)) absurd;
      }

  pub children_made : ChildrenAreMade c ks x f
  children_made = record {
    no_point = record { each = tt; whole = λ p o t u. u };
    one_child = λ s g points rs h i. one_child s h i g points rs;
    no_child = λ s points rs h i. no_child s h i points rs;
    unchanged = unchanged;
    joined = joined_children;
  }
