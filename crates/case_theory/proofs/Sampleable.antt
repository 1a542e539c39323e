-- Answers that were found under assumptions can be sampled where these are true.
use Rattle.std.proofs.Common.{ℕ, List, [], ◌∷◌, inl, inr, subst}
use Rattle.logic_meaning.specs.Context.{Context, Fields, Integers}
use Rattle.logic_meaning.specs.Point.{Point, Of}
use Rattle.logic_meaning.specs.Some.{Among}
use Rattle.logic_meaning.specs.Atom.{Atom}
use Rattle.logic_meaning.specs.Tree.{Tree}
use Rattle.logic_meaning.specs.Answers.{Step, answers_of}
use Rattle.elimination_theory.specs.Theorems.{IsTidy}
use Rattle.logic_meaning.specs.AnswerParts.{answer_names}
use Rattle.elimination_theory.proofs.Tidy.{tidy_in}
use Rattle.case_theory.specs.Block.{DifferIn}
use Rattle.case_theory.specs.PutThrough.{AreTrue}
use Rattle.case_theory.specs.Under.{Lack, LeadUnder}
use Rattle.case_theory.proofs.Ends.{lead_places}
use Rattle.case_theory.proofs.Fit.{answers_fit}
use Rattle.case_theory.proofs.FitAt.{fit_fewer}
use Rattle.case_theory.proofs.Pending.{atoms_elsewhere}
use Rattle.case_theory.proofs.Under.{answers_under}
use Rattle.case_theory.specs.Samples.{PeriodsFit, LeadIsSampleable}

-- the assumptions have none of the answered names
lead_lacks : (c : Context) (ks : List Atom) (steps : List Step) (f g : Tree) → LeadUnder c ks steps f g → (y : ℕ) → Among (answer_names (answers_of steps)) y → Lack ks y
lead_lacks c ks [] f g l y m = absurd m
lead_lacks c ks (s ∷ rest) f g l y (inl e) = subst (Lack ks) e l.1.lack
lead_lacks c ks (s ∷ rest) f g l y (inr m) = lead_lacks c ks rest f s.branch l.0 y m

lead_fits : (c : Context) (ks : List Atom) (steps : List Step) (f g : Tree) (p : Point ℕ) → LeadUnder c ks steps f g → IsTidy c f → Of c p → AreTrue ks p → PeriodsFit c (answers_of steps) f p
lead_fits Fields ks steps f g p l tidy o t = tt
lead_fits Integers ks steps f g p l tidy o t =
    let P = Among (answer_names (answers_of steps)) in
    fit_fewer (AreTrue ks) (DifferIn P p) Integers (answers_of steps) f (λ q u d. atoms_elsewhere Integers P ks p q o u d (lead_lacks Integers ks steps f g l) t) (answers_fit Integers ks steps f g tidy l)

pub lead_sampleable : (c : Context) → LeadIsSampleable c
lead_sampleable c ks steps f g p l tidy o t u = record {
  is_plain = tidy.is_plain;
  in_context = tidy_in c f tidy;
  of_theory = o;
  places = lead_places c ks steps f g l;
  holds = (answers_under c ks steps f g p l o t).1 u;
  fit = lead_fits c ks steps f g p l tidy o t;
}
