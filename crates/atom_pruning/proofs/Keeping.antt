-- Atoms that are kept, and atoms that are implied, one place after another.
use Rattle.std.proofs.Common.{◌≡◌, ℕ, zero, suc, ◌+◌, ◌<◌, ◌≤◌, ◌≢◌, Bool, true, false, not, IsTrue, List, [], ◌∷◌, length, get_or, set, take, ap, sym, ◌∙◌, subst, refl, ⊎_elim, arith}
use Rattle.std.proofs.lemmas.Bool.{cases_lt, cases_eq}
use Rattle.std.proofs.lemmas.List.{get_or-set_other, get_or-set_same, get_or-take, length-set, length-take}
use Rattle.logic_meaning.specs.Context.{Context}
use Rattle.logic_meaning.specs.Point.{Point, Of}
use Rattle.logic_meaning.specs.Atom.{Atom}
use Rattle.atom_pruning.specs.declared.rows.AtomRows.{AtomRows}
use Rattle.atom_pruning.specs.Rows.{AreRows}
use Rattle.atom_pruning.specs.Kept.{AllSay, AreEnough, AreImpossible, Imply}
use Rattle.atom_pruning.specs.Asked.{Asked, negations, AreRefuted, AreEnoughFor, AreMarks}
use Rattle.atom_pruning.proofs.Decided.{of_fields}
use Rattle.atom_pruning.specs.Keeping.{SaysAt, KeepBelow, KeepEnough, needed}
use Rattle.atom_pruning.proofs.Said.{each_says, all_say, stable_at, marked_say, length_rows, row_fails, meets_marked}

-- ---- atoms that are kept

set_twice : (marks : List Bool) (i : ℕ) (a b : Bool) → set (set marks i a) i b ≡ set marks i b
set_twice [] i a b = refl
set_twice (m ∷ marks) zero a b = refl
set_twice (m ∷ marks) (suc i) a b = ap (λ (bs : List Bool). m ∷ bs) (set_twice marks i a b)

-- where each atom is kept
pub all_kept : (c : Context) (ks us : List Atom) (atoms : List AtomRows) (marks : List Bool) → AreRows c us atoms → length marks ≡ length atoms → ((k : ℕ) → k < length atoms → get_or marks k false ≡ true)
    → AreEnough c ks us marks
all_kept c ks us atoms marks given one all =
    let n = length_rows c us atoms given in
    record {
      one_each = one ∙ sym n;
      enough = λ p o say h. all_say us p (λ k l. marked_say marks us p h k (all k (omega arith)));
    }

module _ (assumed atoms : List AtomRows) where
  -- where the marked atoms are kept and imply the others
  pub kept_marks : (marks bs : List Bool) → length bs ≡ length atoms → ((k : ℕ) → k < length atoms → get_or bs k false ≡ get_or marks k false) → KeepEnough assumed atoms marks
      → (c : Context) (ks us : List Atom) → AreRows c ks assumed → AreRows c us atoms → AreEnough c ks us bs
  kept_marks marks bs one same enough c ks us known given =
      let n = length_rows c us atoms given in
      record {
        one_each = one ∙ sym n;
        enough = λ p o say h. all_say us p (λ k l. enough c ks us known given p o say (λ j m e. marked_say bs us p h j (same j m ∙ e)) k (omega arith));
      }

  pub taken_marks : (marks : List Bool) → length atoms ≤ length marks → KeepEnough assumed atoms marks
      → (c : Context) (ks us : List Atom) → AreRows c ks assumed → AreRows c us atoms → AreEnough c ks us (take (length atoms) marks)
  taken_marks marks l = kept_marks marks (take (length atoms) marks) (omega (arith, length-take (length atoms) marks)) (λ k m. get_or-take (length atoms) marks k false m)

  -- all rows together are refuted
  pub impossible : (marks : List Bool) → AreMarks (needed assumed atoms) marks → AreRefuted (needed assumed atoms) marks
      → (c : Context) (ks us : List Atom) → AreRows c ks assumed → AreRows c us atoms → AreImpossible c ks us
  impossible marks are refuted c ks us known given p o say all =
      refuted p (of_fields c p o) (meets_marked c p o (needed assumed atoms) ks us known given say marks (λ k l e. each_says us p all k) are.no_negation)

  module _ (marks : List Bool) (i : ℕ) (within : i < length atoms) where
    pub still_marks : (b : Bool) → AreMarks (needed assumed atoms) marks → AreMarks (needed assumed atoms) (set marks i b)
    still_marks b are = record {
      one_each = length-set marks i b ∙ are.one_each;
      no_negation = λ k. let n : negations (needed assumed atoms) + k ≢ i = omega arith in get_or-set_other marks i (negations (needed assumed atoms) + k) b false n ∙ are.no_negation k;
    }

    -- an atom that the others imply isn't needed
    left_out : AreMarks (needed assumed atoms) marks → KeepEnough assumed atoms marks → AreEnoughFor (needed assumed atoms) (set marks i false) i → KeepEnough assumed atoms (set marks i false)
    left_out are enough implied c ks us known given p o say says = enough c ks us known given p o say true_at
      where
        implied_at : SaysAt us i p
        implied_at =
            stable_at us i p (of_fields c p o) (λ n.
            implied p (of_fields c p o) (meets_marked c p o (needed assumed atoms) ks us known given say (set marks i false) says (still_marks false are).no_negation)
            (row_fails c p o us atoms given i n))

        true_at : (k : ℕ) → k < length atoms → get_or marks k false ≡ true → SaysAt us k p
        true_at k l e =
            ⊎_elim
            (λ (s : k ≡ i). subst (λ j. SaysAt us j p) (sym s) implied_at)
            (λ (n : k ≢ i). says k l (get_or-set_other marks i k false false n ∙ e))
            (cases_eq k i)

    -- and one that stays leaves all as it was
    stays : i < length marks → KeepEnough assumed atoms marks → KeepEnough assumed atoms (set marks i true)
    stays m enough c ks us known given p o say says =
        enough c ks us known given p o say (λ k l e.
        ⊎_elim
        (λ (s : k ≡ i). says k l (ap (λ j. get_or (set marks i true) j false) s ∙ get_or-set_same marks i true false m))
        (λ (n : k ≢ i). says k l (get_or-set_other marks i k true false n ∙ e))
        (cases_eq k i))

    pub goes_on : (implied : Bool) → AreMarks (needed assumed atoms) marks → KeepEnough assumed atoms marks → (IsTrue implied → AreEnoughFor (needed assumed atoms) (set marks i false) i)
        → KeepEnough assumed atoms (set (set marks i false) i (not implied))
    goes_on true are enough h = subst (KeepEnough assumed atoms) (sym (set_twice marks i false false)) (left_out are enough (h refl))
    goes_on false are enough h = let m : i < length marks = let e = are.one_each in omega arith in subst (KeepEnough assumed atoms) (sym (set_twice marks i false true)) (stays m enough)

-- ---- atoms that are taken in turn

module _ (assumed atoms : List AtomRows) (marks : List Bool) where
  pub first_kept : (n : ℕ) → n ≤ length atoms → ((k : ℕ) → k < n → get_or marks k false ≡ true) → KeepBelow assumed atoms marks n
  first_kept n l all c ks us known given p o say says k m = says k (omega arith) (all k m)

  module _ (i : ℕ) (within : i < length atoms) (before : KeepBelow assumed atoms marks i) where
    -- one that the marked ones imply needs no mark
    pub passed_over : AreMarks (needed assumed atoms) marks → AreEnoughFor (needed assumed atoms) marks i → KeepBelow assumed atoms marks (i + 1)
    passed_over are implied c ks us known given p o say says k l =
        ⊎_elim
        (λ (m : k < i). before c ks us known given p o say says k m)
        (λ (m : i ≤ k).
        let s : i ≡ k = omega arith in
        subst (λ j. SaysAt us j p) s (stable_at us i p (of_fields c p o) (λ f.
        implied p (of_fields c p o) (meets_marked c p o (needed assumed atoms) ks us known given say marks says are.no_negation) (row_fails c p o us atoms given i f))))
        (cases_lt k i)

    -- and another gets one
    pub takes_one : i < length marks → KeepBelow assumed atoms (set marks i true) (i + 1)
    takes_one room c ks us known given p o say says k l =
        ⊎_elim
        (λ (m : k < i). before c ks us known given p o say (λ j n e. still j n e) k m)
        (λ (m : i ≤ k). let s : i ≡ k = omega arith in says k (omega arith) (ap (λ j. get_or (set marks i true) j false) (sym s) ∙ get_or-set_same marks i true false room))
        (cases_lt k i)
      where
        still : (j : ℕ) → j < length atoms → get_or marks j false ≡ true → SaysAt us j p
        still j n e =
            ⊎_elim
            (λ (s : j ≡ i). says j n (ap (λ h. get_or (set marks i true) h false) s ∙ get_or-set_same marks i true false room))
            (λ (d : j ≢ i). says j n (get_or-set_other marks i j true false d ∙ e))
            (cases_eq j i)

-- ---- atoms that are implied

-- the atoms below a place are true where the assumptions and the given atoms are
abbrev pub ImpliedBelow : Asked → ℕ → Type 0
ImpliedBelow q n =
    (c : Context) (ks gs us : List Atom) → AreRows c ks q.assumed → AreRows c gs q.given → AreRows c us q.negated → (p : Point ℕ) → Of c p → AllSay ks p → AllSay gs p
    → (k : ℕ) → k < n → SaysAt us k p

module _ (q : Asked) where
  pub none_implied : ImpliedBelow q 0
  none_implied c ks gs us known given asked p o say says k l = absurd (omega arith)

  pub one_more : (marks : List Bool) (n : ℕ) → AreMarks q marks → AreEnoughFor q marks n → ImpliedBelow q n → ImpliedBelow q (n + 1)
  one_more marks n are implied below c ks gs us known given asked p o say says k l =
      ⊎_elim
      (λ (m : k < n). below c ks gs us known given asked p o say says k m)
      (λ (m : n ≤ k).
      let s : n ≡ k = omega arith in
      subst (λ j. SaysAt us j p) s (stable_at us n p (of_fields c p o) (λ f.
      implied p (of_fields c p o) (meets_marked c p o q ks gs known given say marks (λ j _ _. each_says gs p says j) are.no_negation) (row_fails c p o us q.negated asked n f))))
      (cases_lt k n)

  pub all_implied : ImpliedBelow q (length q.negated) → (c : Context) (ks gs us : List Atom) → AreRows c ks q.assumed → AreRows c gs q.given → AreRows c us q.negated → Imply c ks gs us
  all_implied below c ks gs us known given asked p o say says =
      let n = length_rows c us q.negated asked in
      all_say us p (λ k l. below c ks gs us known given asked p o say says k (omega arith))
