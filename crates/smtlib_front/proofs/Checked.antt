-- What a verdict on the sentence of a state says of the state.
use Rattle.std.proofs.Common.{inr, ℕ, zero, suc, List, [], ◌∷◌, map, length, sym, ap, ◌∙◌, subst}
use Rattle.std.specs.List.{AllByRecursion}
use Rattle.std.proofs.lemmas.List.{length-map}
use Rattle.exact_numbers.specs.Fraction.{frac_of}
use Rattle.exact_numbers.specs.Limit.{InLimit}
use Rattle.exact_numbers.specs.declared.fraction.Fraction.{Fraction}
use Rattle.logic_meaning.specs.Context.{Context}
use Rattle.logic_meaning.specs.Every.{Every}
use Rattle.logic_meaning.specs.Tree.{Tree, TrueAt}
use Rattle.logic_meaning.specs.Atom.{Atom}
use Rattle.logic_meaning.specs.Reference.{reference}
use Rattle.logic_meaning.specs.ReferenceSample.{reference_sample}
use Rattle.logic_meaning.specs.Values.{origin}
use Rattle.sample_reference.specs.Leading.{under_names}
use Rattle.engine_answers.specs.Decided.{Decides}
use Rattle.engine_answers.specs.declared.verdict.Verdict.{Verdict}
use Rattle.engine_answers.specs.declared.verdict.Verdict.TheVariants as verdict
use Rattle.program_meaning.specs.Checks.{Checks, sat, sat_alone, unsat, unknown}
use Rattle.program_meaning.specs.Sentence.{Holds}
use Rattle.program_meaning.specs.SmtState.{State}
use Rattle.smt_theorems.specs.Resolved.{asserted_tree, IsSentenceMade, IsSentenceMeant}
use Rattle.smtlib_front.specs.Represents.{kept_of}
use Rattle.smtlib_front.specs.Seen.{HasValueForEach}
use Rattle.smtlib_front.specs.Words.{word_of_verdict, kept_by}

-- fractions of the program are within the limit
pub within_limit : (vs : List Fraction) → AllByRecursion (λ v. InLimit v.numerator × InLimit v.denominator) (map frac_of vs)
within_limit [] = tt
within_limit (v ∷ vs) = ((v.numerator_within, v.denominator_within), within_limit vs)

-- atoms under names are those of the formula
pub every_under : (P : Atom → Type 0) (n count : ℕ) (f : Tree) → Every P f → Every P (under_names n count f)
every_under P n zero f h = h
every_under P n (suc count) f h = every_under P (suc n) count f h

module _ (c : Context) (s : State) (limit : ℕ) (made : IsSentenceMade c s) (meant : IsSentenceMeant c s) where
  holds : TrueAt c (under_names 0 (length s.declared) (asserted_tree c s)) origin → Holds c s
  holds h = meant.holds (subst (λ f. TrueAt c f origin) (sym made.tree) h)

  -- the verdict is a line that the check may print, with what it leaves
  pub verdict_checks : (v : Verdict) → Decides c limit (length s.declared) (asserted_tree c s) v → Checks c s limit (word_of_verdict v) (kept_of (kept_by v))
  verdict_checks verdict.False d = unsat (meant.fails (λ h. d (subst (λ f. TrueAt c f origin) made.tree h)))
  verdict_checks (verdict.True vs) d = sat (holds d.0) (meant.valued (map frac_of vs.items) d.1 (within_limit vs.items))
  verdict_checks verdict.TrueAlone d = sat_alone (holds d.0) (inr (d.1.0, ap (reference_sample c limit origin) made.tree ∙ d.1.1))
  verdict_checks verdict.Unknown d = unknown (d.0, ap (reference c limit) made.tree ∙ d.1)

-- and there is a value for each declared name
pub verdict_counted : (c : Context) (limit count : ℕ) (f : Tree) (v : Verdict) → Decides c limit count f v → HasValueForEach count (kept_by v)
verdict_counted c limit count f verdict.False d = tt
verdict_counted c limit count f (verdict.True vs) d = sym (length-map vs.items frac_of) ∙ d.1.one_each
verdict_counted c limit count f verdict.TrueAlone d = tt
verdict_counted c limit count f verdict.Unknown d = tt
