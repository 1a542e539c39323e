-- How atoms hold a name, and the steps of the loops over them.
use Rattle.std.proofs.Common.{◌≡◌, ◌⊎◌, inl, inr, ⊎_elim, ℕ, Bool, true, false, List, [], ◌∷◌, ◌++◌, map, Option, Some, None, MatchOption, Bor, ap, sym, ◌∙◌, subst, refl, arith}
use Rattle.std.proofs.Math.IntN.{pos}
use Rattle.std.specs.List.{AllByRecursion}
use Rattle.std.specs.Option.{option_copied}
use Rattle.std.specs.Cmp.{signed_Decides}
use Rattle.std.proofs.lemmas.Int.{ints}
use Rattle.std.proofs.lemmas.List.{map-append}
use Rattle.logic_meaning.specs.Form.{Form, coefficient}
use Rattle.logic_meaning.specs.Some.{SomeOf, Among, EachOf}
use Rattle.logic_meaning.specs.Atom.{Atom, Compare, Congruent, Equals, Differs, Below, AtMost, Above, AtLeast, form_of}
use Rattle.linear_forms.specs.declared.form.Linear.{Linear}
use Rattle.elimination_theory.proofs.SomeListed.{each_map, some_left}
use Rattle.formula_laws.proofs.Listed.{among_left, among_right}
use Rattle.field_shadows.specs.declared.hold.Bound.{Bound}
use Rattle.field_shadows.specs.declared.hold.Hold.{Hold}
use Rattle.field_shadows.specs.declared.hold.Hold.TheVariants.{Absent, Equation, Upper, Lower, Other}
use Rattle.field_shadows.specs.Holds.{bound_relation, form_of_bound, atom_of_bound, IsRest, IsEquation, IsHold}
use Rattle.field_shadows.specs.declared.crossing.Split.{Split}
use Rattle.field_shadows.specs.Bounds.{IsSeen}
use Rattle.field_shadows.specs.Rest.{is_without}
use Rattle.field_shadows.proofs.Forms.{named_bound}

-- ---- what is told of an atom

pub equation_named : (x : ℕ) (u : Atom) → IsEquation x u → ¬ (coefficient x (form_of u) ≡ pos 0)
equation_named x (Compare Equals f) h = h
equation_named x (Compare Differs f) h = absurd h
equation_named x (Compare Below f) h = absurd h
equation_named x (Compare AtMost f) h = absurd h
equation_named x (Compare Above f) h = absurd h
equation_named x (Compare AtLeast f) h = absurd h
equation_named x (Congruent b m f) h = absurd h

no_bound_equation : (x : ℕ) (t s : Bool) (f : Form) → ¬ (IsEquation x (Compare (bound_relation t s) f))
no_bound_equation x false true f h = h
no_bound_equation x false false f h = h
no_bound_equation x true true f h = h
no_bound_equation x true false f h = h

pub not_equation : (x : ℕ) (u : Atom) (h : Hold) → IsHold x u h → ((f : Bor Linear) → h ≡ Equation f → ⊥) → ¬ (IsEquation x u)
not_equation x u Absent k n = λ e. equation_named x u e k
not_equation x u (Equation f) k n = absurd (n f refl)
not_equation x u (Upper b) k n = λ e. no_bound_equation x b.form.turned b.strict b.form.form.now (subst (IsEquation x) k.0 e)
not_equation x u (Lower b) k n = λ e. no_bound_equation x b.form.turned b.strict b.form.form.now (subst (IsEquation x) k.0 e)
not_equation x u Other k n = k.2

bound_named : (x : ℕ) (u : Atom) (b : Bound) → u ≡ atom_of_bound b → ¬ (coefficient x (form_of_bound b) ≡ pos 0) → ¬ (coefficient x (form_of u) ≡ pos 0)
bound_named x u b e n = λ z. named_bound b x n (ap (λ (a : Atom). coefficient x (form_of a)) (sym e) ∙ z)

pub held_named : (x : ℕ) (u : Atom) (h : Hold) → IsHold x u h → (h ≡ Absent → ⊥) → ¬ (coefficient x (form_of u) ≡ pos 0)
held_named x u Absent k n = absurd (n refl)
held_named x u (Equation f) k n = λ z. k.1 (ap (λ (a : Atom). coefficient x (form_of a)) (sym k.0) ∙ z)
held_named x u (Upper b) k n = let h = k.1 in bound_named x u b k.0 (λ z. absurd (omega (arith, ints)))
held_named x u (Lower b) k n = let h = k.1 in bound_named x u b k.0 (λ z. absurd (omega (arith, ints)))
held_named x u Other k n = k.1

pub is_without_true : (x : ℕ) (u : Atom) → coefficient x (form_of u) ≡ pos 0 → is_without x u ≡ true
is_without_true x u e = (signed_Decides (coefficient x (form_of u)) (pos 0)).1 e

pub is_without_false : (x : ℕ) (u : Atom) → ¬ (coefficient x (form_of u) ≡ pos 0) → is_without x u ≡ false
is_without_false x u n = go (is_without x u) refl
  where
    go : (b : Bool) → is_without x u ≡ b → b ≡ false
    go true e = absurd (n ((signed_Decides (coefficient x (form_of u)) (pos 0)).0 e))
    go false e = refl

-- ---- the best equation

pub match_map : {X : Type 0} (o : Option X) (A B : Type 0) (P : X → Type 0) → (A → B) → MatchOption o A P → MatchOption o B P
match_map None A B P f h = f h
match_map (Some x) A B P f h = h

pub best_kept : (P : Form → Type 0) (A : Type 0) (best : Option (Bor Linear)) (r : Bor Linear) (f : Form) → MatchOption best A (λ (b : Bor Linear). P b.now) → P f → (r.now ≡ f) ⊎ (option_copied best ≡ Some r.now) → P r.now
best_kept P A None r f m g (inl e) = subst P (sym e) g
best_kept P A None r f m g (inr e) = absurd cc
best_kept P A (Some b) r f m g (inl e) = subst P (sym e) g
best_kept P A (Some b) r f m g (inr e) = let d : b.now ≡ r.now = cc in subst P d m

-- ---- one atom more

-- with one more new atom, each has its own
pub each_some_more : {X Y : Type 0} (A : X → Type 0) (Q : X → Y → Type 0) (xs : List X) (ys zs : List Y) → EachOf (λ x. A x ⊎ SomeOf (Q x) ys) xs → EachOf (λ x. A x ⊎ SomeOf (Q x) (ys ++ zs)) xs
each_some_more A Q xs ys zs h = each_map (λ x. A x ⊎ SomeOf (Q x) ys) (λ x. A x ⊎ SomeOf (Q x) (ys ++ zs)) (λ x k. ⊎_elim (λ a. inl a) (λ s. inr (some_left (Q x) ys zs s)) k) xs h

pub each_one_more : {X Y : Type 0} (Q : X → Y → Type 0) (xs : List X) (ys zs : List Y) → EachOf (λ x. SomeOf (Q x) ys) xs → EachOf (λ x. SomeOf (Q x) (ys ++ zs)) xs
each_one_more Q xs ys zs h = each_map (λ x. SomeOf (Q x) ys) (λ x. SomeOf (Q x) (ys ++ zs)) (λ x k. some_left (Q x) ys zs k) xs h

pub each_by_recursion : {X : Type 0} (P : X → Type 0) (xs : List X) → EachOf P xs → AllByRecursion P xs
each_by_recursion P [] h = tt
each_by_recursion P (x ∷ xs) h = (h.0, each_by_recursion P xs h.1)

pub by_recursion_each : {X : Type 0} (P : X → Type 0) (xs : List X) → AllByRecursion P xs → EachOf P xs
by_recursion_each P [] h = tt
by_recursion_each P (x ∷ xs) h = (h.0, by_recursion_each P xs h.1)

-- ---- one bound more

module _ (bs : List Bound) (b : Bound) where
  pub bound_stays : (u : Atom) → Among (map atom_of_bound bs) u → Among (map atom_of_bound (bs ++ b ∷ [])) u
  bound_stays u m = subst (λ (us : List Atom). Among us u) (sym (map-append atom_of_bound bs (b ∷ []))) (among_left (map atom_of_bound bs) (atom_of_bound b ∷ []) u m)

  pub bound_added : Among (map atom_of_bound (bs ++ b ∷ [])) (atom_of_bound b)
  bound_added = subst (λ (us : List Atom). Among us (atom_of_bound b)) (sym (map-append atom_of_bound bs (b ∷ []))) (among_right (map atom_of_bound bs) (atom_of_bound b ∷ []) (atom_of_bound b) (inl refl))

-- what is seen stays so
pub seen_stays : (x : ℕ) (s t : Split) → ((u : Atom) → Among (map atom_of_bound s.uppers.items) u → Among (map atom_of_bound t.uppers.items) u)
    → ((u : Atom) → Among (map atom_of_bound s.lowers.items) u → Among (map atom_of_bound t.lowers.items) u) → (s.others ≡ true → t.others ≡ true) → (u : Atom) → IsSeen x s u → IsSeen x t u
seen_stays x s t f g h u k = ⊎_elim (λ e. inl e) (λ i. inr (⊎_elim (λ m. inl (f u m)) (λ j. inr (⊎_elim (λ m. inl (g u m)) (λ r. inr (r.0, h r.1)) j)) i)) k

-- an equation, and what is neither a bound nor without the name
pub rest_held : (x : ℕ) (u : Atom) (h : Hold) → IsHold x u h → ((f : Bor Linear) × (h ≡ Equation f)) ⊎ (h ≡ Other) → IsRest u
rest_held x u Absent k (inl e) = (let d = e.1 in absurd cc)
rest_held x u Absent k (inr e) = absurd cc
rest_held x u (Equation f) k i = subst IsRest (sym k.0) tt
rest_held x u (Upper b) k (inl e) = (let d = e.1 in absurd cc)
rest_held x u (Upper b) k (inr e) = absurd cc
rest_held x u (Lower b) k (inl e) = (let d = e.1 in absurd cc)
rest_held x u (Lower b) k (inr e) = absurd cc
rest_held x u Other k i = k.0
