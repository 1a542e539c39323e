-- Where the theory is true at a point, the periods of a case fit the matrix at the points that differ from it in answered names.
use Rattle.std.proofs.Common.{ℕ, List, [], ◌∷◌}
use Rattle.logic_meaning.specs.Context.{Context}
use Rattle.logic_meaning.specs.Point.{Point, Of}
use Rattle.logic_meaning.specs.Some.{Among}
use Rattle.logic_meaning.specs.Atom.{Says}
use Rattle.logic_meaning.specs.Answer.{Answer}
use Rattle.logic_meaning.specs.Tree.{Tree}
use Rattle.elimination_theory.proofs.SomeListed.{each_among}
use Rattle.logic_meaning.specs.Cases.{case_names}
use Rattle.logic_meaning.specs.AnswerParts.{answer_names}
use Rattle.case_theory.specs.PutThrough.{FitWhere}
use Rattle.case_theory.specs.CaseTree.{without_all, IsCaseUnder, CasesFitAt}
use Rattle.case_theory.specs.Under.{Lack}
use Rattle.case_theory.proofs.Without.{without_all_each, without_all_lack}
use Rattle.case_theory.proofs.Pending.{atoms_elsewhere}

pub fit_fewer : (K L : Point ℕ → Type 0) (c : Context) (answers : List Answer) (g : Tree) → ((p : Point ℕ) → Of c p → L p → K p) → FitWhere K c answers g → FitWhere L c answers g
fit_fewer K L c [] g h t = tt
fit_fewer K L c (a ∷ rest) g h t = (λ p o l. t.0 p o (h p o l), fit_fewer K L c rest g h t.1)

pub cases_fit_at : (c : Context) → CasesFitAt c
cases_fit_at c theory f matrix cases k p tree m o t =
    let ks = without_all (case_names f) theory in
    let i = each_among (IsCaseUnder c ks f matrix (case_names f)) cases k tree.each m in
    fit_fewer _ _ c k.answers matrix
    (λ q u d. atoms_elsewhere c (Among (answer_names k.answers)) ks p q o u d (λ y n. each_among (Lack ks) (case_names f) y (without_all_lack (case_names f) theory) ((i.answered.same y).0 n)) (without_all_each (λ a. Says a p) (case_names f) theory t))
    i.fit
