-- Assumptions that are true as they are written are true as atoms.
use Rattle.std.proofs.Common.{◌≡◌, ◌⊎◌, inl, inr, ⊎_elim, ◌↔◌, ℕ, List, [], ◌∷◌, ◌++◌, Option, Some, None, map, sym, ap, ◌∙◌, subst, refl, append_assoc, append-nil}
use Rattle.std.specs.List.{AllByRecursion, IsDistinct, fold}
use Rattle.logic_meaning.specs.Formula.{Yes, No, One, Not, And, Or, Impl, Repl, Equiv, Ex, All, none, also}
use Rattle.logic_meaning.specs.Atom.{Atom, Says}
use Rattle.logic_meaning.specs.Every.{Every}
use Rattle.logic_meaning.specs.Point.{Point, Of}
use Rattle.logic_meaning.specs.Some.{SomeOf, EachOf}
use Rattle.logic_meaning.specs.Tree.{Tree, TrueAt}
use Rattle.written_syntax.specs.declared.tree.Formula.{Formula}
use Rattle.language_meaning.specs.Trees.{FormulaTree, FormulaTrees, formulas_of}
use Rattle.written_syntax.specs.CodeTrees.{formula_tree}
use Rattle.language_meaning.specs.Value.{NamedPoint, same_name}
use Rattle.logic_meaning.specs.Names.{with_name}
use Rattle.language_meaning.specs.Resolving.{resolve, at_names, formula_variables, all_variables}
use Rattle.language_meaning.specs.declared.static_error.StaticError.{StaticError}
use Rattle.language_meaning.specs.declared.static_error.StaticError.TheVariants as static
use Rattle.language_meaning.specs.Refusals as reading
use Rattle.formula_resolving.specs.FirstCause.{IsFirstCause}
use Rattle.program_meaning.specs.declared.line.StatementError.{StatementError}
use Rattle.program_meaning.specs.State.{State, known}
use Rattle.program_meaning.specs.Assumptions.{atoms_alone, atoms_among, resolved_all, assumed, AllTrueAt, Hold}
use Rattle.program_meaning.specs.declared.line.StatementError.TheVariants as error
use Rattle.form_commands.specs.Refusals.{static_refusal}
use Rattle.form_commands.specs.Reading.{IsReadable, AreNumbered, AreReadable, AppliesAmong, HasNoEarlier, IsFirstCauseAmong, AreUnread, FirstAmong, IsEarlierOfBoth, AppliesToSome, IsFirstWith}
use Rattle.formula_resolving.proofs.OrderFacts.{each_before, each_earlier, each_no_later}
use Rattle.form_commands.proofs.PartLemmas.{some_listed, each_of_list, some_given, each_of_given}
use Rattle.form_commands.proofs.CauseLemmas.{readable_applies}
use Rattle.form_commands.proofs.ReadTruth.{truth_as_written}

module _ (F : Atom → Type 0) where
  pub each_both : (xs ys : List Atom) → EachOf F xs → EachOf F ys → EachOf F (xs ++ ys)
  each_both [] ys h k = k
  each_both (a ∷ xs) ys h k = (h.0, each_both xs ys h.1 k)

-- an atom that is alone has what each atom has
pub alone_has : (F : Atom → Type 0) (t : Tree) → Every F t → EachOf F (atoms_alone t)
alone_has F Yes h = tt
alone_has F No h = tt
alone_has F (One a) h = (h, tt)
alone_has F (Not f) h = tt
alone_has F (And fs) h = tt
alone_has F (Or fs) h = tt
alone_has F (Impl f g) h = tt
alone_has F (Repl f g) h = tt
alone_has F (Equiv f g) h = tt
alone_has F (Ex x f) h = tt
alone_has F (All x f) h = tt

alone_says : (s : State) (t : Tree) (p : Point ℕ) → TrueAt s.context t p → EachOf (λ k. Says k p) (atoms_alone t)
alone_says s Yes p h = tt
alone_says s No p h = tt
alone_says s (One a) p h = (h, tt)
alone_says s (Not f) p h = tt
alone_says s (And fs) p h = tt
alone_says s (Or fs) p h = tt
alone_says s (Impl f g) p h = tt
alone_says s (Repl f g) p h = tt
alone_says s (Equiv f g) p h = tt
alone_says s (Ex x f) p h = tt
alone_says s (All x f) p h = tt

-- the atoms of two lists of formulas
pub among_both : (ts us : List Tree) → atoms_among (ts ++ us) ≡ atoms_among ts ++ atoms_among us
among_both [] us = refl
among_both (t ∷ ts) us = ap (λ (ks : List Atom). atoms_alone t ++ ks) (among_both ts us) ∙ sym (append_assoc (atoms_alone t) (atoms_among ts) (atoms_among us))

module _ (s : State) (distinct : IsDistinct same_name s.names) (p : NamedPoint) (of : Of s.context p) where
  abbrev SaysThere : Atom → Type 0
  SaysThere k = Says k (at_names s.names p)

  -- the atoms of formulas that are true as they are written
  all_say : (gs : FormulaTrees) → AreReadable s gs → AreNumbered s.names gs → AllTrueAt s gs p → EachOf SaysThere (atoms_among (resolved_all s gs))
  all_say none readable numbers h = tt
  all_say (also g gs) readable numbers h =
      each_both SaysThere (atoms_alone (resolve s.context (known s) s.names g)) (atoms_among (resolved_all s gs))
      (alone_says s (resolve s.context (known s) s.names g) (at_names s.names p) ((truth_as_written s g numbers.0 distinct readable.0 p of).0 h.0)) (all_say gs readable.1 numbers.1 h.1)

  -- and those of formulas that are true
  each_say : (ts : List Tree) → EachOf (λ t. TrueAt s.context t (at_names s.names p)) ts → EachOf SaysThere (atoms_among ts)
  each_say [] h = tt
  each_say (t ∷ ts) h = each_both SaysThere (atoms_alone t) (atoms_among ts) (alone_says s t (at_names s.names p) h.0) (each_say ts h.1)

pub assumed_hold : (s : State) (f : FormulaTree) (gs : FormulaTrees) → AreReadable s (also f gs) → IsDistinct same_name s.names → AreNumbered s.names (also f gs) → (p : NamedPoint) → Of s.context p → Hold s gs p
    → EachOf (λ k. Says k (at_names s.names p)) (assumed s gs)
assumed_hold s f gs readable distinct numbers p of h =
    subst (EachOf (λ k. Says k (at_names s.names p))) (sym (among_both s.standing (resolved_all s gs)))
    (each_both (λ k. Says k (at_names s.names p)) (atoms_among s.standing) (atoms_among (resolved_all s gs)) (each_say s distinct p of s.standing h.0) (all_say s distinct p of gs readable.1 numbers.1 h.1))

-- ---- the first cause among several formulas

-- where it holds of none of these causes, a narrower fact does not either
none_less : (P Q : StaticError → Type 0) → ((d : StaticError) → P d → Q d) → (ds : List StaticError) → EachOf (λ d. ¬ (Q d)) ds → EachOf (λ d. ¬ (P d)) ds
none_less P Q less [] h = tt
none_less P Q less (d ∷ ds) h = (λ x. h.0 (less d x), none_less P Q less ds h.1)

module _ (P Q : StaticError → Type 0) where
  abbrev Either : StaticError → Type 0
  Either d = P d ⊎ Q d

  none_of_both : (ds : List StaticError) → EachOf (λ d. ¬ (P d)) ds → EachOf (λ d. ¬ (Q d)) ds → EachOf (λ d. ¬ (Either d)) ds
  none_of_both [] h k = tt
  none_of_both (d ∷ ds) h k = (⊎_elim h.0 k.0, none_of_both ds h.1 k.1)

  -- the earlier of the first causes of two is the first of both
  pub first_of_both : (a b o : Option StaticError) → FirstAmong P a → FirstAmong Q b → IsEarlierOfBoth a b o → FirstAmong Either o
  first_of_both None None o h k j = subst (FirstAmong Either) (sym j) (none_of_both reading.order h k)
  first_of_both (Some e) None o h k j = subst (FirstAmong Either) (sym j) (h.0, inl h.1, none_of_both (reading.before e) h.2 (each_before (λ d. ¬ (Q d)) e k))
  first_of_both a (Some e) None h k j = absurd j
  first_of_both None (Some e) (Some r) h k j = subst (λ d. FirstAmong Either (Some d)) (sym j) (k.0, inr k.1, none_of_both (reading.before e) (each_before (λ d. ¬ (P d)) e h) k.2)
  first_of_both (Some a) (Some e) (Some r) h k (inl j) =
      subst (λ d. FirstAmong Either (Some d)) (sym j.1) (h.0, inl h.1, none_of_both (reading.before a) h.2 (each_earlier (λ d. ¬ (Q d)) a e j.0 k.2))
  first_of_both (Some a) (Some e) (Some r) h k (inr j) =
      subst (λ d. FirstAmong Either (Some d)) (sym j.1) (k.0, inr k.1, none_of_both (reading.before e) (each_no_later (λ d. ¬ (P d)) a e h.0 j.0 h.2) k.2)

pub first_same : (P Q : StaticError → Type 0) → ((d : StaticError) → P d ↔ Q d) → (o : Option StaticError) → FirstAmong P o → FirstAmong Q o
first_same P Q same None h = none_less Q P (λ d. (same d).1) reading.order h
first_same P Q same (Some e) h = (h.0, (same e).0 h.1, none_less Q P (λ d. (same d).1) (reading.before e) h.2)

-- a formula that is not resolved
pub first_unread : (s : State) (g : FormulaTree) (e : StaticError) → ¬ (e ≡ static.Memory) → IsFirstCause s.context (known s) s.names g e → FirstAmong (λ d. reading.Applies s.context (known s) s.names g d) (Some e)
first_unread s g static.Unbound n h = (n, h.applies, h.first)
first_unread s g static.FormulaAsTerm n h = (n, h.applies, h.first)
first_unread s g static.Nonlinear n h = (n, h.applies, h.first)
first_unread s g static.Division n h = (n, h.applies, h.first)
first_unread s g static.CongruenceContext n h = (n, h.applies, h.first)
first_unread s g static.Modulus n h = (n, h.applies, h.first)
first_unread s g static.Depth n h = (n, h.applies, h.first)
first_unread s g static.Overflow n h = (n, h.applies, h.first)
first_unread s g static.Memory n h = absurd (n refl)

-- a formula to which no cause applies is resolved
pub readable_where_none : (s : State) (g : FormulaTree) → FirstAmong (λ d. reading.Applies s.context (known s) s.names g d) None → IsReadable s g
readable_where_none s g h = record {
  bound_names = h.0;
  variables = h.1.0;
  linear = h.1.1.0;
  undivided = h.1.1.1.0;
  congruences = h.1.1.1.1.0;
  moduli = h.1.1.1.1.1.0;
  flat = h.1.1.1.1.1.1.0;
  within = h.1.1.1.1.1.1.1.0;
}

-- ---- a list of assumptions, one after the other

some_last : {X : Type 0} (F : X → Type 0) (xs : List X) (x : X) → SomeOf F (xs ++ x ∷ []) ↔ (SomeOf F xs ⊎ F x)
some_last F [] x = (λ h. ⊎_elim inr absurd h, λ h. ⊎_elim absurd inl h)
some_last F (y ∷ ys) x =
    let r = some_last F ys x in
    (λ h. ⊎_elim (λ k. inl (inl k)) (λ k. ⊎_elim (λ p. inl (inr p)) inr (r.0 k)) h, λ h. ⊎_elim (λ k. ⊎_elim inl (λ p. inr (r.1 (inl p))) k) (λ k. inr (r.1 (inr k))) h)

pub first_of_more : (s : State) (gs : List Formula) (g : Formula) (stop after : Option StaticError) → FirstAmong (AppliesToSome s gs) stop → IsFirstWith s (formula_tree g) stop after → FirstAmong (AppliesToSome s (gs ++ g ∷ [])) after
first_of_more s gs g stop after h k =
    first_same (λ d. AppliesToSome s gs d ⊎ reading.Applies s.context (known s) s.names (formula_tree g) d) (AppliesToSome s (gs ++ g ∷ []))
    (λ d. let r = some_last (λ e. reading.Applies s.context (known s) s.names (formula_tree e) d) gs g in (r.1, r.0)) after
    (first_of_both (AppliesToSome s gs) (λ d. reading.Applies s.context (known s) s.names (formula_tree g) d) stop k.cause after h k.first k.joined)

-- where there is no first cause there was none before
pub none_before : (s : State) (g : FormulaTree) (stop after : Option StaticError) → IsFirstWith s g stop after → after ≡ None → stop ≡ None
none_before s g stop after h e = split h.cause (subst (IsEarlierOfBoth stop h.cause) e h.joined)
  where
    split : (o : Option StaticError) → IsEarlierOfBoth stop o None → stop ≡ None
    split None p = sym p
    split (Some d) p = absurd p

pub variables_more : (gs : List Formula) (g : Formula) → all_variables (formulas_of (map formula_tree (gs ++ g ∷ []))) ≡ all_variables (formulas_of (map formula_tree gs)) ++ formula_variables (formula_tree g)
variables_more [] g = append-nil (formula_variables (formula_tree g))
variables_more (d ∷ gs) g =
    ap (λ t. formula_variables (formula_tree d) ++ t) (variables_more gs g)
    ∙ sym (append_assoc (formula_variables (formula_tree d)) (all_variables (formulas_of (map formula_tree gs))) (formula_variables (formula_tree g)))

pub folded_more : (names : List (List ℕ)) (xs ys : List (List ℕ)) → fold with_name (fold with_name names xs) ys ≡ fold with_name names (xs ++ ys)
folded_more names [] ys = refl
folded_more names (x ∷ xs) ys = folded_more (with_name names x) xs ys

-- of want of memory nothing is said
pub memory_unread : (s : State) (fs : FormulaTrees) (e : StatementError) → e ≡ error.Memory → AreUnread s fs e
memory_unread s fs e p = (static.Memory, p, λ other. absurd (other refl))

each_listed_none : (s : State) (ds : List Formula) → FirstAmong (AppliesToSome s ds) None → AllByRecursion (λ g. IsReadable s (formula_tree g)) ds
each_listed_none s [] k = tt
each_listed_none s (d ∷ ds) k =
    let applies = (λ (e : StaticError). reading.Applies s.context (known s) s.names (formula_tree d) e) in
    (readable_where_none s (formula_tree d) (none_less applies (AppliesToSome s (d ∷ ds)) (λ e. inl) reading.order k), each_listed_none s ds (none_less (AppliesToSome s ds) (AppliesToSome s (d ∷ ds)) (λ e. inr) reading.order k))

-- ---- the formula and its assumptions together

module _ (s : State) (f : FormulaTree) (gs : List Formula) where
  abbrev given : FormulaTrees
  given = formulas_of (map formula_tree gs)

  abbrev Here : StaticError → Type 0
  Here d = reading.Applies s.context (known s) s.names f d

  -- the first cause in the formula, joined to that in its assumptions, is the first in any of them
  first_in_parts : (stop after : Option StaticError) → FirstAmong (AppliesToSome s gs) stop → IsFirstWith s f stop after → FirstAmong (AppliesAmong s (also f given)) after
  first_in_parts stop after h k =
      first_same (λ d. AppliesToSome s gs d ⊎ Here d) (AppliesAmong s (also f given))
      (λ d. let r = some_listed (λ g. reading.Applies s.context (known s) s.names g d) f gs in (λ x. r.1 (⊎_elim inr inl x), λ x. ⊎_elim inr inl (r.0 x))) after
      (first_of_both (AppliesToSome s gs) Here stop k.cause after h k.first k.joined)

  pub parts_unread : (stop : Option StaticError) (e : StaticError) → FirstAmong (AppliesToSome s gs) stop → IsFirstWith s f stop (Some e) → IsFirstCauseAmong s (also f given) e
  parts_unread stop e h k = let there = first_in_parts stop (Some e) h k in λ other. record { applies = there.1; first = there.2 }

  pub parts_readable : (stop : Option StaticError) → FirstAmong (AppliesToSome s gs) stop → IsFirstWith s f stop None → AreReadable s (also f given)
  parts_readable stop h k =
      let there = first_in_parts stop None h k in
      each_of_list (IsReadable s) f gs (readable_where_none s f (none_less Here (AppliesAmong s (also f given)) (λ d x. (some_listed (λ g. reading.Applies s.context (known s) s.names g d) f gs).1 (inl x)) reading.order there))
      (each_listed_none s gs (none_less (AppliesToSome s gs) (AppliesAmong s (also f given)) (λ d x. (some_listed (λ g. reading.Applies s.context (known s) s.names g d) f gs).1 (inr x)) reading.order there))

-- ---- formulas alone

pub all_readable : (s : State) (gs : List Formula) → FirstAmong (AppliesToSome s gs) None → AreReadable s (formulas_of (map formula_tree gs))
all_readable s gs k = each_of_given (IsReadable s) gs (each_listed_none s gs k)

pub all_unread : (s : State) (gs : List Formula) (e : StaticError) → FirstAmong (AppliesToSome s gs) (Some e) → IsFirstCauseAmong s (formulas_of (map formula_tree gs)) e
all_unread s gs e h =
    let there = first_same (AppliesToSome s gs) (AppliesAmong s (formulas_of (map formula_tree gs))) (λ d. let r = some_given (λ g. reading.Applies s.context (known s) s.names g d) gs in (r.1, r.0)) (Some e) h in
    λ other. record { applies = there.1; first = there.2 }

-- ---- a quantifier where none may be

-- no earlier cause applies to what is resolved
pub early_readable : (s : State) (f : FormulaTree) (gs : FormulaTrees) → AreReadable s (also f gs) → HasNoEarlier s (also f gs) static.Overflow
early_readable s f gs h = each_before (λ d. ¬ (AppliesAmong s (also f gs) d)) static.Overflow (readable_applies s (also f gs) h)

-- nor where the reading overflows
pub early_overflow : (s : State) (f : FormulaTree) (gs : FormulaTrees) → AreUnread s (also f gs) error.Overflow → HasNoEarlier s (also f gs) static.Overflow
early_overflow s f gs h = split h.0 h.1 h.2
  where
    split : (e : StaticError) → error.Overflow ≡ static_refusal e → IsFirstCauseAmong s (also f gs) e → HasNoEarlier s (also f gs) static.Overflow
    split static.Overflow p k = (k (λ e. absurd (cc (e)))).first
    split static.Unbound p k = absurd (cc (p))
    split static.FormulaAsTerm p k = absurd (cc (p))
    split static.Nonlinear p k = absurd (cc (p))
    split static.Division p k = absurd (cc (p))
    split static.CongruenceContext p k = absurd (cc (p))
    split static.Modulus p k = absurd (cc (p))
    split static.Depth p k = absurd (cc (p))
    split static.Memory p k = absurd (cc (p))
