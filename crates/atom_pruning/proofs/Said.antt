-- Atoms by their places, and the rows that a point meets where they are true.
use Rattle.std.proofs.Common.{◌≡◌, ℕ, zero, suc, ◌+◌, ◌-◌, ◌<◌, ◌≤◌, Bool, true, false, List, [], ◌∷◌, length, get_or, ap, sym, ◌∙◌, subst, refl, ⊎_elim, arith}
use Rattle.std.proofs.lemmas.Bool.{cases_lt, false≢true}
use Rattle.logic_meaning.specs.Context.{Context, Fields}
use Rattle.logic_meaning.specs.Point.{Point, Of}
use Rattle.logic_meaning.specs.Atom.{Atom}
use Rattle.atom_pruning.specs.declared.rows.AtomRows.{AtomRows}
use Rattle.atom_pruning.specs.Rows.{MeetsAny, AreRows}
use Rattle.atom_pruning.specs.Kept.{AllSay, marked}
use Rattle.atom_pruning.specs.Keeping.{SaysAt}
use Rattle.atom_pruning.specs.Asked.{Asked, without_rows, negations, MeetsMarked}
use Rattle.atom_pruning.proofs.Decided.{says_stable}
use Rattle.atom_pruning.proofs.Places.{row_given, row_assumed}

pub each_says : (us : List Atom) (p : Point ℕ) → AllSay us p → (k : ℕ) → SaysAt us k p
each_says [] p h k = tt
each_says (a ∷ us) p h zero = h.0
each_says (a ∷ us) p h (suc k) = each_says us p h.1 k

pub all_say : (us : List Atom) (p : Point ℕ) → ((k : ℕ) → k < length us → SaysAt us k p) → AllSay us p
all_say [] p h = tt
all_say (a ∷ us) p h = (h 0 (omega arith), all_say us p (λ k l. h (suc k) (omega arith)))

pub stable_at : (us : List Atom) (k : ℕ) (p : Point ℕ) → Of Fields p → ¬ ¬ (SaysAt us k p) → SaysAt us k p
stable_at [] k p o n = tt
stable_at (a ∷ us) zero p o n = says_stable a p o n
stable_at (a ∷ us) (suc k) p o n = stable_at us k p o n

pub marked_say : (marks : List Bool) (us : List Atom) (p : Point ℕ) → AllSay (marked marks us) p → (k : ℕ) → get_or marks k false ≡ true → SaysAt us k p
marked_say [] us p h k e = absurd (false≢true e)
marked_say (b ∷ marks) [] p h k e = tt
marked_say (true ∷ marks) (a ∷ us) p h zero e = h.0
marked_say (true ∷ marks) (a ∷ us) p h (suc k) e = marked_say marks us p h.1 k e
marked_say (false ∷ marks) (a ∷ us) p h zero e = absurd (false≢true e)
marked_say (false ∷ marks) (a ∷ us) p h (suc k) e = marked_say marks us p h k e

-- ---- their rows

pub length_rows : (c : Context) (us : List Atom) (rows : List AtomRows) → AreRows c us rows → length us ≡ length rows
length_rows c [] [] h = refl
length_rows c (a ∷ us) (r ∷ rows) h = ap (λ n. suc n) (length_rows c us rows h.1)
length_rows c [] (r ∷ rows) h = absurd h
length_rows c (a ∷ us) [] h = absurd h

module _ (c : Context) (p : Point ℕ) (o : Of c p) where
  pub row_holds : (us : List Atom) (rows : List AtomRows) → AreRows c us rows → (k : ℕ) → SaysAt us k p → MeetsAny p (get_or rows k without_rows).holds
  row_holds [] [] h k s = tt
  row_holds (a ∷ us) (r ∷ rows) h zero s = h.0.holds p o s
  row_holds (a ∷ us) (r ∷ rows) h (suc k) s = row_holds us rows h.1 k s
  row_holds [] (r ∷ rows) h k s = absurd h
  row_holds (a ∷ us) [] h k s = absurd h

  pub row_fails : (us : List Atom) (rows : List AtomRows) → AreRows c us rows → (k : ℕ) → ¬ (SaysAt us k p) → MeetsAny p (get_or rows k without_rows).fails
  row_fails [] [] h k s = tt
  row_fails (a ∷ us) (r ∷ rows) h zero s = h.0.fails p o s
  row_fails (a ∷ us) (r ∷ rows) h (suc k) s = row_fails us rows h.1 k s
  row_fails [] (r ∷ rows) h k s = absurd h
  row_fails (a ∷ us) [] h k s = absurd h

  -- a point where the assumptions and the given atoms with a mark are true meets the marked rows, if no negation is marked
  module _ (q : Asked) (ks gs : List Atom) (known : AreRows c ks q.assumed) (given : AreRows c gs q.given) (say : AllSay ks p) (marks : List Bool) where
    pub meets_marked : ((k : ℕ) → k < length q.given → get_or marks k false ≡ true → SaysAt gs k p) → ((k : ℕ) → get_or marks (negations q + k) false ≡ false) → MeetsMarked p q marks
    meets_marked says none k e =
        ⊎_elim
        (λ (l : k < length q.given). subst (MeetsAny p) (sym (row_given q k l)) (row_holds gs q.given given k (says k l e)))
        (λ (m : length q.given ≤ k).
        ⊎_elim
        (λ (l : k < negations q). subst (MeetsAny p) (sym (row_assumed q k m l)) (row_holds ks q.assumed known (k - length q.given) (each_says ks p say (k - length q.given))))
        (λ (l : negations q ≤ k).
        let s : negations q + (k - negations q) ≡ k = omega arith in
        absurd (false≢true (sym (none (k - negations q)) ∙ ap (λ n. get_or marks n false) s ∙ e)))
        (cases_lt k (negations q)))
        (cases_lt k (length q.given))
