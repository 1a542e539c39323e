-- What is worked on under the assumptions without some names.
use Rattle.std.proofs.Common.{◌≡◌, ◌≤◌, List, map, ap, sym, subst, ◌∙◌}
use Rattle.std.specs.List.{AllByRecursion}
use Rattle.logic_meaning.specs.Atom as meant
use Rattle.logic_meaning.specs.Some.{EachOf}
use Rattle.normal_atoms.specs.Atoms.{context_of, atom_of, IsWellFormed}
use Rattle.logic_meaning.specs.NormalForm.{IsNormal}
use Rattle.logic_meaning.specs.declared.form.VarId.{VarId}
use Rattle.case_theory.specs.Under.{Lack}
use Rattle.case_theory.proofs.Without.{without_all_each, without_all_lack}
use Rattle.branch_rounds.specs.declared.work.Work.{Work}
use Rattle.branch_rounds.specs.Branches.{numbers}
use Rattle.branch_rounds.specs.Worked.{IsWork}
use Rattle.engine_answers.specs.Assumed.{lacking}
use Rattle.engine_answers.specs.InnerBlocksBlocks.{IsUnder}
use Rattle.engine_answers.proofs.Lacking.{lacking_is, lacking_formed}

-- the assumptions without the names are such assumptions again
pub is_under : (w u : Work) (names : List VarId) → IsWork w → u.context ≡ w.context → u.workers ≡ w.workers → u.assumed.now ≡ lacking names w.assumed.now → IsUnder w (numbers names) u
is_under w u names h c n is =
    let ks = map atom_of w.assumed.now in
    let same = ap (map atom_of) is ∙ lacking_is names w.assumed.now in
    record {
      work = record {
        well_formed = subst (AllByRecursion IsWellFormed) (sym is) (lacking_formed names w.assumed.now h.well_formed);
        normal = subst (λ d. EachOf (IsNormal (context_of d)) (map atom_of u.assumed.now)) (sym c)
            (subst (EachOf (IsNormal (context_of w.context))) (sym same) (without_all_each (IsNormal (context_of w.context)) (numbers names) ks h.normal));
        workers = subst (λ k. 1 ≤ k) (sym n) h.workers;
      };
      context = c;
      assumed = same;
    }

-- none of them has one of the names
pub under_lack : (w u : Work) (names : List VarId) → IsUnder w (numbers names) u → EachOf (Lack (map atom_of u.assumed.now)) (numbers names)
under_lack w u names h = subst (λ (ks : List meant.Atom). EachOf (Lack ks) (numbers names)) (sym h.assumed) (without_all_lack (numbers names) (map atom_of w.assumed.now))
