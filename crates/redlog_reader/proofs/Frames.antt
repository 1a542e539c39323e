-- The stack of what has begun, of which the inmost stands last in the code.
use Rattle.std.proofs.Common.{◌≡◌, ℕ, ◌<◌, List, [], ◌∷◌, ◌++◌, map, length, ◌-◌, suc, sym, subst, refl, ap, ◌∙◌, arith}
use Rattle.std.specs.Prelude.{Some, None, slice_get, if◌then◌else◌}
use Rattle.std.proofs.lemmas.Bool.{lt-ltb}
use Rattle.logic_meaning.specs.Shape.{quantified}
use Rattle.logic_meaning.specs.declared.quantifier.Quantifier.{Quantifier}
use Rattle.language_meaning.specs.Holes.{over}
use Rattle.language_meaning.specs.Grammar.{Written, quantified_names}
use Rattle.redlog_reader.specs.Machine.{Reading, Frame, level, takes_last, takes, ended, folded}
use Rattle.std.proofs.lemmas.List.{reverse-append}
use Rattle.redlog_reader.specs.declared.pending.Pending.{Pending}
use Rattle.redlog_reader.specs.View.{frame_of, frames}
use Rattle.redlog_reader.proofs.Steps.{is_term, is_formula, no_term, no_formula, level_kept, folded_end}

pub frames_more : (list : List Pending) (top : Pending) → frames (list ++ top ∷ []) ≡ frame_of top ∷ frames list
frames_more list top = ap (map frame_of) (reverse-append list (top ∷ []))

-- the last of a list
last_at : (list : List Pending) (top : Pending) → slice_get list (length list - 1) ≡ Some top → (init : List Pending) × (list ≡ init ++ top ∷ [])
last_at [] top e = absurd (let no : ⊥ = cc in no)
last_at (x ∷ []) top e = ([], let same : x ≡ top = cc in ap (λ y. y ∷ []) same)
last_at (x ∷ y ∷ list) top e =
    let next : length (x ∷ y ∷ list) - 1 ≡ suc (length (y ∷ list) - 1) = omega arith in
    let rest = last_at (y ∷ list) top (subst (λ k. slice_get (x ∷ y ∷ list) k ≡ Some top) next e) in
    (x ∷ rest.0, ap (λ more. x ∷ more) rest.1)

no_last : (list : List Pending) → slice_get list (length list - 1) ≡ None → list ≡ []
no_last [] e = refl
no_last (x ∷ []) e = absurd (let no : ⊥ = cc in no)
no_last (x ∷ y ∷ list) e =
    let next : length (x ∷ y ∷ list) - 1 ≡ suc (length (y ∷ list) - 1) = omega arith in
    let none = no_last (y ∷ list) (subst (λ k. slice_get (x ∷ y ∷ list) k ≡ None) next e) in
    absurd (let no : ⊥ = cc in no)

pub takes_top : (goal : ℕ) (list : List Pending) (top : Pending) → slice_get list (length list - 1) ≡ Some top → takes_last (frame_of top) ≡ takes goal (frames list)
takes_top goal list top e = let at = last_at list top e in sym (ap (λ l. takes goal (frames l)) at.1 ∙ ap (takes goal) (frames_more at.0 top))

pub takes_goal : (goal : ℕ) (list : List Pending) → slice_get list (length list - 1) ≡ None → goal ≡ takes goal (frames list)
takes_goal goal list e = sym (ap (λ l. takes goal (frames l)) (no_last list e))

pub folded_none : (s : ℕ) (frame : Frame) (fs : List Frame) (h : Reading) → level frame < s → ended frame h ≡ None → folded s (frame ∷ fs) h ≡ None
folded_none s frame fs h less e =
    ap (λ b. if b then (elim (ended frame h) [ None ↦ None | Some k ↦ folded s fs k ]) else Some (frame ∷ fs, h)) (lt-ltb (level frame) s less)
    ∙ ap (λ o. elim o [ None ↦ None | Some k ↦ folded s fs k ]) e

-- one more name, the last
pub quantified_more : (quantifier : Quantifier) (xs : List (List ℕ)) (x : List ℕ) (f : Written) → quantified_names quantifier (xs ++ x ∷ []) f ≡ quantified_names quantifier xs (over (quantified quantifier x) f)
quantified_more quantifier [] x f = refl
quantified_more quantifier (y ∷ xs) x f = ap (over (quantified quantifier y)) (quantified_more quantifier xs x f)

pub ruleset folds = (frames_more, level_kept, folded_end, folded_none)

pub ruleset steps = (frames_more, is_term, is_formula, no_term, no_formula)

pub ruleset tops = (takes_top, takes_goal)
