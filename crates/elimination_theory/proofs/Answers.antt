-- Answers found one after the other make a formula true exactly where the last branch is true.
use Rattle.std.proofs.Common.{◌≡◌, ℕ, [], ◌∷◌, refl, ◌∙◌, arith, ◌↔◌, nat_eq}
use Rattle.std.proofs.Math.IntN.{pos}
use Rattle.std.proofs.lemmas.Int.{ints}
use Rattle.exact_numbers.proofs.Ring.{zero_mul}
use Rattle.logic_meaning.specs.Context.{Context, Fields, Integers}
use Rattle.logic_meaning.specs.Point.{Point, Of, move}
use Rattle.logic_meaning.specs.Form.{value}
use Rattle.logic_meaning.specs.Answer.{MeetsAll, Holds}
use Rattle.logic_meaning.specs.Tree.{Tree, TrueAt, IsFree}
use Rattle.formula_laws.proofs.EachAtom.{every_all}
use Rattle.formula_laws.proofs.Equivalence.{absent_moved, one_allowed}
use Rattle.formula_laws.proofs.TreeReplacing.{moved_of}
use Rattle.elimination_theory.specs.AtPlace.{at_place}
use Rattle.elimination_theory.specs.IntegersTheorems.{Suits}
use Rattle.elimination_theory.specs.Places.{IsPlaceFor}
use Rattle.logic_meaning.specs.Answers.{Step, answers_of, zero_place}
use Rattle.elimination_theory.specs.AnswersTheorems.{Makes, AnswersHold, AbsentNameIsZero}
use Rattle.formula_laws.proofs.Iff.{both_ways}
use Rattle.elimination_theory.proofs.Meets.{meets_map}
use Rattle.elimination_theory.proofs.BothSubstitutions.{place_in, place_holds}

-- the answer of a step makes its branch true exactly where what it makes is true
pub step_holds : (c : Context) (s : Step) (g : Tree) (p : Point ℕ) → Makes c s g → Of c p → Holds c (at_place s.name s.place) s.branch p ↔ TrueAt c g p
step_holds c s g p m o = both_ways (place_holds c s.name s.place s.branch p m.suits m.is_plain m.in_context o) (m.equivalent p o)

pub answers_hold : (c : Context) → AnswersHold c
answers_hold c [] f g p l o = l p o
answers_hold c (s ∷ rest) f g p l o =
    both_ways (
      meets_map c s.place s.name (λ q. MeetsAll c (answers_of rest) (λ z. TrueAt c f z) q) (λ q. TrueAt c s.branch q) p (λ k m a t. (answers_hold c rest f s.branch (move nat_eq p s.name k m) l.0 (moved_of c p s.name k m o a)).0 t) (place_in c s.name s.place s.branch l.1.suits),
      meets_map c s.place s.name (λ q. TrueAt c s.branch q) (λ q. MeetsAll c (answers_of rest) (λ z. TrueAt c f z) q) p (λ k m a t. (answers_hold c rest f s.branch (move nat_eq p s.name k m) l.0 (moved_of c p s.name k m o a)).1 t) (place_in c s.name s.place s.branch l.1.suits),
    )
    (step_holds c s g p l.1 o)

-- ---- a name that does not stand in the branch

zero_suits : (c : Context) (x : ℕ) (f : Tree) → IsPlaceFor c x zero_place f
zero_suits Fields x f = omega arith
zero_suits Integers x f = (omega arith, every_all (Suits x zero_place) (λ a. tt) f)

zero_value : (p : Point ℕ) → value (record { terms = []; constant = pos 0 }) p ≡ pos 0
unfolding value
zero_value p = let z = zero_mul (pos p.below) in omega (arith, ints)

-- at 0 the branch is as it is
zero_holds : (c : Context) (x : ℕ) (f : Tree) (p : Point ℕ) → ¬ (IsFree f x) → Holds c (at_place x zero_place) f p ↔ TrueAt c f p
zero_holds Fields x f p n = let i = absent_moved Fields f p x (value (record { terms = []; constant = pos 0 }) p) 1 n (one_allowed Fields) in (i.1, i.0)
zero_holds Integers x f p n = (
  λ t. (absent_moved Integers f p x t.0 1 n refl).1 t.2,
  λ t. (pos 0, zero_value p ∙ refl, (absent_moved Integers f p x (pos 0) 1 n refl).0 t),
)

pub absent_zero : (c : Context) → AbsentNameIsZero c
absent_zero c x f plain inside n =
    let suits = zero_suits c x f in
    record {
      suits = suits;
      is_plain = plain;
      in_context = inside;
      equivalent = λ p o.
          let h = place_holds c x zero_place f p suits plain inside o in
          both_ways (h.1, h.0) (zero_holds c x f p n);
    }
