-- The plain disjunctive form: constants are folded, then and is distributed over or, with no other change. The plain conjunctive
-- form is its dual. j joins the inner lists: and for the disjunctive form.
use Rattle.std.specs.Prelude.{ℕ, ◌+◌, ◌*◌, Bool, true, false, List, [], ◌∷◌, ◌++◌, map}
use Rattle.std.specs.List.{flat_map}
use Rattle.logic_meaning.specs.Formula.{Formula, Formulas, Yes, No, One, Not, And, Or, Impl, Repl, Equiv, Ex, All, none, also}
use Rattle.logic_meaning.specs.Fold.{folded}
use Rattle.logic_meaning.specs.declared.junction.Junction.{Junction}
use Rattle.logic_meaning.specs.declared.junction.Junction.TheVariants.{Conjunction, Disjunction}
use Rattle.logic_meaning.specs.Ways.{is_same, form_of_lines}

-- ---- sizes of two members together

-- of lists side by side the counts are added, of each with each they are multiplied
abbrev pub count_together : Bool → ℕ → ℕ → ℕ
count_together false m n = m + n
count_together true m n = m * n

-- how many lists no member gives: where j joins the members one, which is empty, else none
abbrev pub count_of_none : Bool → ℕ
count_of_none false = 0
count_of_none true = 1

-- the places of lists side by side are added; in each with each, those of one side stand once for each list of the other
abbrev pub places_together : Bool → ℕ → ℕ → ℕ → ℕ → ℕ
places_together false m s n t = s + t
places_together true m s n t = s * n + m * t

-- ---- the form and its sizes

module _ {A : Type 0} where
  -- each list of the first with each of the second
  abbrev pub products : List (List A) → List (List A) → List (List A)
  products ls ks = flat_map (λ us. map (λ vs. us ++ vs) ks) ls

  -- the lists of two members: side by side, or where j joins the members, each with each
  abbrev pub together : Bool → List (List A) → List (List A) → List (List A)
  together false ls ks = ls ++ ks
  together true ls ks = products ls ks

  -- the lists of no member
  abbrev pub of_none : Bool → List (List A)
  of_none false = []
  of_none true = [] ∷ []

  abbrev mutual
    -- the lists of the distributed formula
    pub distributed : Junction → Formula A ℕ → List (List A)
    distributed j Yes = of_none (is_same j Conjunction)
    distributed j No = of_none (is_same j Disjunction)
    distributed j (One a) = (a ∷ []) ∷ []
    distributed j (Not f) = []
    distributed j (And fs) = all_distributed j (is_same j Conjunction) fs
    distributed j (Or fs) = all_distributed j (is_same j Disjunction) fs
    distributed j (Impl f g) = []
    distributed j (Repl f g) = []
    distributed j (Equiv f g) = []
    distributed j (Ex x f) = []
    distributed j (All x f) = []

    -- those of the members together
    pub all_distributed : Junction → Bool → Formulas A ℕ → List (List A)
    all_distributed j b none = of_none b
    all_distributed j b (also f fs) = together b (distributed j f) (all_distributed j b fs)

  -- the plain form
  abbrev pub plain_form : Junction → Formula A ℕ → Formula A ℕ
  plain_form j f = form_of_lines j (distributed j (folded f))

  abbrev mutual
    -- how many inner lists the distributed formula has
    pub lines_count : Junction → Formula A ℕ → ℕ
    lines_count j Yes = count_of_none (is_same j Conjunction)
    lines_count j No = count_of_none (is_same j Disjunction)
    lines_count j (One a) = 1
    lines_count j (Not f) = 0
    lines_count j (And fs) = all_lines_count j (is_same j Conjunction) fs
    lines_count j (Or fs) = all_lines_count j (is_same j Disjunction) fs
    lines_count j (Impl f g) = 0
    lines_count j (Repl f g) = 0
    lines_count j (Equiv f g) = 0
    lines_count j (Ex x f) = 0
    lines_count j (All x f) = 0

    -- the same of the members together
    pub all_lines_count : Junction → Bool → Formulas A ℕ → ℕ
    all_lines_count j b none = count_of_none b
    all_lines_count j b (also f fs) = count_together b (lines_count j f) (all_lines_count j b fs)

  abbrev mutual
    -- how many places of atoms the distributed formula has
    pub atom_places : Junction → Formula A ℕ → ℕ
    atom_places j Yes = 0
    atom_places j No = 0
    atom_places j (One a) = 1
    atom_places j (Not f) = 0
    atom_places j (And fs) = all_atom_places j (is_same j Conjunction) fs
    atom_places j (Or fs) = all_atom_places j (is_same j Disjunction) fs
    atom_places j (Impl f g) = 0
    atom_places j (Repl f g) = 0
    atom_places j (Equiv f g) = 0
    atom_places j (Ex x f) = 0
    atom_places j (All x f) = 0

    -- the same of the members together
    pub all_atom_places : Junction → Bool → Formulas A ℕ → ℕ
    all_atom_places j b none = 0
    all_atom_places j b (also f fs) = places_together b (lines_count j f) (atom_places j f) (all_lines_count j b fs) (all_atom_places j b fs)

  -- the places of atoms of the plain form
  abbrev pub literals : Junction → Formula A ℕ → ℕ
  literals j f = atom_places j (folded f)
