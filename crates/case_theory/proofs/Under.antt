-- Answers that are found one after the other under assumptions.
use Rattle.std.proofs.Common.{ℕ, List, [], ◌∷◌, ◌↔◌, nat_eq}
use Rattle.logic_meaning.specs.Context.{Context}
use Rattle.logic_meaning.specs.Point.{Point, Of, move}
use Rattle.logic_meaning.specs.Atom.{Atom}
use Rattle.logic_meaning.specs.Answer.{Holds, MeetsAll}
use Rattle.logic_meaning.specs.Tree.{Tree, TrueAt}
use Rattle.formula_laws.proofs.Iff.{both_ways}
use Rattle.formula_laws.proofs.TreeReplacing.{moved_of}
use Rattle.elimination_theory.specs.AtPlace.{at_place}
use Rattle.logic_meaning.specs.Answers.{Step, answers_of}
use Rattle.elimination_theory.proofs.Meets.{meets_map}
use Rattle.elimination_theory.proofs.BothSubstitutions.{place_in, place_holds}
use Rattle.shape_theory.specs.Simplifiable.{EquivalentUnder}
use Rattle.case_theory.specs.PutThrough.{AreTrue}
use Rattle.case_theory.specs.Under.{MakesUnder, AnswersHoldUnder}
use Rattle.case_theory.proofs.Moved.{lacking_stays}

pub under_self : (c : Context) (ks : List Atom) (f : Tree) → EquivalentUnder c ks f f
under_self c ks f p o t = (λ u. u, λ u. u)

pub under_turn : (c : Context) (ks : List Atom) (f g : Tree) → EquivalentUnder c ks f g → EquivalentUnder c ks g f
under_turn c ks f g e p o t = let i = e p o t in (i.1, i.0)

pub under_then : (c : Context) (ks : List Atom) (f g h : Tree) → EquivalentUnder c ks f g → EquivalentUnder c ks g h → EquivalentUnder c ks f h
under_then c ks f g h d e p o t = both_ways (d p o t) (e p o t)

-- the answer of a step makes its branch true exactly where what it makes is true
step_under : (c : Context) (ks : List Atom) (s : Step) (g : Tree) (p : Point ℕ) → MakesUnder c ks s g → Of c p → AreTrue ks p → Holds c (at_place s.name s.place) s.branch p ↔ TrueAt c g p
step_under c ks s g p m o t = both_ways (place_holds c s.name s.place s.branch p m.suits m.is_plain m.in_context o) (m.equivalent p o t)

pub answers_under : (c : Context) → AnswersHoldUnder c
answers_under c ks [] f g p l o t = l p o t
answers_under c ks (s ∷ rest) f g p l o t =
    both_ways (
      meets_map c s.place s.name (λ q. MeetsAll c (answers_of rest) (λ z. TrueAt c f z) q) (λ q. TrueAt c s.branch q) p
          (λ k m a u. (answers_under c ks rest f s.branch (move nat_eq p s.name k m) l.0 (moved_of c p s.name k m o a) (lacking_stays c ks p s.name k m l.1.lack a t)).0 u) (place_in c s.name s.place s.branch l.1.suits),
      meets_map c s.place s.name (λ q. TrueAt c s.branch q) (λ q. MeetsAll c (answers_of rest) (λ z. TrueAt c f z) q) p
          (λ k m a u. (answers_under c ks rest f s.branch (move nat_eq p s.name k m) l.0 (moved_of c p s.name k m o a) (lacking_stays c ks p s.name k m l.1.lack a t)).1 u) (place_in c s.name s.place s.branch l.1.suits),
    )
    (step_under c ks s g p l.1 o t)
