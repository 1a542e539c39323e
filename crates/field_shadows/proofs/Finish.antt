-- What the parts together say: the shadow.
use Rattle.std.proofs.Common.{◌≡◌, ◌⊎◌, inl, inr, ⊎_elim, ℕ, Bool, true, false, cond, List, [], ◌∷◌, ◌++◌, map, ap, sym, ◌∙◌, subst, refl}
use Rattle.std.proofs.Math.IntN.{pos}
use Rattle.std.specs.Prelude.{filter}
use Rattle.std.specs.List.{AllByRecursion}
use Rattle.std.specs.Cmp.{signed_Decides}
use Rattle.logic_meaning.specs.Context.{Fields}
use Rattle.logic_meaning.specs.Point.{Point, Of}
use Rattle.logic_meaning.specs.Form.{Form, coefficient}
use Rattle.logic_meaning.specs.Some.{SomeOf, Among, EachOf}
use Rattle.logic_meaning.specs.Atom.{Atom, Compare, Equals, Says, Mentions, form_of}
use Rattle.logic_meaning.specs.NormalForm.{IsNormal}
use Rattle.formula_laws.specs.TheoryAtoms.{AtomIn}
use Rattle.formula_laws.proofs.Listed.{some_among, among_some}
use Rattle.linear_theory.proofs.Lists.{each_from}
use Rattle.elimination_theory.proofs.SomeListed.{each_append, each_left, each_right, each_among}
use Rattle.normal_atoms.specs.declared.atoms.Atom.{Atom as Written}
use Rattle.normal_atoms.specs.Atoms.{atom_of, IsWellFormed}
use Rattle.case_theory.specs.PutThrough.{AreTrue}
use Rattle.shadow_theory.specs.declared.shadow.Shadow.{Shadow}
use Rattle.shadow_theory.specs.declared.shadow.Shadow.TheVariants.{Never, Atoms, Unknown}
use Rattle.shadow_theory.specs.Shadows.{HasValue, HasNamesOf, IsShadowOf}
use Rattle.field_shadows.specs.declared.hold.Bound.{Bound}
use Rattle.field_shadows.specs.declared.crossing.Split.{Split}
use Rattle.field_shadows.specs.Holds.{atom_of_bound, IsRest, IsEquation}
use Rattle.field_shadows.specs.Bounds.{IsSplit, IsJoined, AreJoined}
use Rattle.field_shadows.specs.Equations.{IsPutAway, ArePutAway}
use Rattle.field_shadows.specs.Normalised.{HasOnlyNamesOf, IsNormalised}
use Rattle.field_shadows.specs.Rest.{is_without, AreTrueWithout, AreRest}
use Rattle.field_shadows.proofs.Forms.{without_true}
use Rattle.field_shadows.proofs.Listing.{among_mapped, each_mapped_back, each_unmapped}
use Rattle.field_shadows.proofs.Steps.{each_by_recursion, by_recursion_each, is_without_true}
use Rattle.field_shadows.proofs.Pairs.{pairs_exact, pairs_names}
use Rattle.field_shadows.proofs.Open.{open_down, open_up}
use Rattle.field_shadows.proofs.PutAway.{put_away_exact, put_away_names}

-- ---- what is left, by each way

in_fields_by : (a v : Atom) → AtomIn Fields a → v ≡ a → AtomIn Fields v
in_fields_by a v i e = subst (AtomIn Fields) (sym e) i

pub rest_put_away : (x : ℕ) (g : Form) (us : List Atom) (vs : List Written) → EachOf (IsNormal Fields) us → ¬ (coefficient x g ≡ pos 0) → Among us (Compare Equals g) → ArePutAway x g us vs → AreRest x us vs
rest_put_away x g us vs normal named here all = record {
  exact = λ p o. put_away_exact x g us vs named here all normal p;
  names = put_away_names x g us vs named here all;
  in_fields = each_by_recursion (λ v. AtomIn Fields (atom_of v)) vs (each_from (λ v. AtomIn Fields (atom_of v)) vs (λ v m. let u = from v m in in_fields_by (Compare u.2.relation u.2.new_form) (atom_of v) tt u.2.is));
  well_formed = each_by_recursion IsWellFormed vs (each_from IsWellFormed vs (λ v m. (from v m).2.well_formed));
}
  where
    from : (v : Written) → Among vs v → (u : Atom) × Among us u × IsPutAway x g u v
    from v m = some_among (λ (u : Atom). IsPutAway x g u v) us (each_among (λ (w : Written). SomeOf (λ (u : Atom). IsPutAway x g u w) us) vs v all.from m)

pub rest_open : (x : ℕ) (us : List Atom) (s : Split) → EachOf (IsNormal Fields) us → EachOf (λ u. ¬ (IsEquation x u)) us → IsSplit x us s → (s.uppers.items ≡ []) ⊎ (s.lowers.items ≡ []) → AreRest x us []
rest_open x us s normal none split side = record {
  exact = λ p o. (λ h. ⊎_elim (λ e. open_up x p o us normal none h.0 s.lowers.items split.lowers (no_upper e)) (λ e. open_down x p o us normal none h.0 s.uppers.items split.uppers (no_lower e)) side, λ v. (without_true us normal x p v.0 v.1 v.2 v.3, tt));
  names = tt;
  in_fields = tt;
  well_formed = tt;
}
  where
    nothing : (bs : List Bound) (u : Atom) → bs ≡ [] → Among (map atom_of_bound bs) u → ⊥
    nothing bs u e m = subst (λ (ds : List Bound). Among (map atom_of_bound ds) u) e m

    no_upper : s.uppers.items ≡ [] → (u : Atom) → Among us u → (coefficient x (form_of u) ≡ pos 0) ⊎ (Among (map atom_of_bound s.lowers.items) u ⊎ IsRest u)
    no_upper e u m =
        ⊎_elim (λ z. inl z) (⊎_elim (λ n. absurd (nothing s.uppers.items u e n)) (⊎_elim (λ n. inr (inl n)) (λ r. inr (inr r.0))))
        (each_among (λ (v : Atom). (coefficient x (form_of v) ≡ pos 0) ⊎ (Among (map atom_of_bound s.uppers.items) v ⊎ (Among (map atom_of_bound s.lowers.items) v ⊎ (IsRest v × (s.others ≡ true))))) us u split.seen m)

    no_lower : s.lowers.items ≡ [] → (u : Atom) → Among us u → (coefficient x (form_of u) ≡ pos 0) ⊎ (Among (map atom_of_bound s.uppers.items) u ⊎ IsRest u)
    no_lower e u m =
        ⊎_elim (λ z. inl z) (⊎_elim (λ n. inr (inl n)) (⊎_elim (λ n. absurd (nothing s.lowers.items u e n)) (λ r. inr (inr r.0))))
        (each_among (λ (v : Atom). (coefficient x (form_of v) ≡ pos 0) ⊎ (Among (map atom_of_bound s.uppers.items) v ⊎ (Among (map atom_of_bound s.lowers.items) v ⊎ (IsRest v × (s.others ≡ true))))) us u split.seen m)

pub rest_pairs : (x : ℕ) (us : List Atom) (s : Split) (vs : List Written) → EachOf (IsNormal Fields) us → IsSplit x us s → s.others ≡ false → AreJoined x s.uppers.items s.lowers.items vs → AreRest x us vs
rest_pairs x us s vs normal split no_others all = record {
  exact = λ p o. pairs_exact x us s.uppers.items s.lowers.items split.uppers split.lowers vs all p normal seen o;
  names = pairs_names x us s.uppers.items s.lowers.items split.uppers split.lowers vs all;
  in_fields = each_by_recursion (λ v. AtomIn Fields (atom_of v)) vs (each_from (λ v. AtomIn Fields (atom_of v)) vs (λ v m. let b = from v m in in_fields_by (Compare _ b.2.form) (atom_of v) tt b.2.is));
  well_formed = each_by_recursion IsWellFormed vs (each_from IsWellFormed vs (λ v m. (from v m).2.well_formed));
}
  where
    from : (v : Written) → Among vs v → (a : Bound) × (b : Bound) × IsJoined x a b v
    from v m =
        let i = some_among (λ (b : Bound). SomeOf (λ (a : Bound). IsJoined x a b v) s.uppers.items) s.lowers.items (each_among (λ (w : Written). SomeOf (λ (b : Bound). SomeOf (λ (a : Bound). IsJoined x a b w) s.uppers.items) s.lowers.items) vs v all.from m) in
        let j = some_among (λ (a : Bound). IsJoined x a i.0 v) s.uppers.items i.2 in
        (j.0, i.0, j.2)

    seen : (u : Atom) → Among us u → (coefficient x (form_of u) ≡ pos 0) ⊎ (Among (map atom_of_bound s.uppers.items) u ⊎ Among (map atom_of_bound s.lowers.items) u)
    seen u m =
        ⊎_elim (λ z. inl z) (⊎_elim (λ n. inr (inl n)) (⊎_elim (λ n. inr (inr n)) (λ r. let e : true ≡ false = sym r.1 ∙ no_others in absurd cc)))
        (each_among (λ (v : Atom). (coefficient x (form_of v) ≡ pos 0) ⊎ (Among (map atom_of_bound s.uppers.items) v ⊎ (Among (map atom_of_bound s.lowers.items) v ⊎ (IsRest v × (s.others ≡ true))))) us u split.seen m)

-- ---- the atoms without the name

module _ {X : Type 0} (test : X → Bool) (P : X → Type 0) where
  filter_each : (xs : List X) → ((x : X) → Among xs x → test x ≡ true → P x) → EachOf P (filter test xs)
  filter_each [] f = tt
  filter_each (x ∷ xs) f = go (test x) refl (filter_each xs (λ y m e. f y (inr m) e))
    where
      go : (b : Bool) → test x ≡ b → EachOf P (filter test xs) → EachOf P (cond b (x ∷ filter test xs) (filter test xs))
      go true e h = (f x (inl refl) e, h)
      go false e h = h

  each_filter : (xs : List X) → EachOf P (filter test xs) → (x : X) → Among xs x → test x ≡ true → P x
  each_filter [] h x m e = absurd m
  each_filter (y ∷ xs) h x m e = go (test y) refl h m (λ g n. each_filter xs g x n e)
    where
      go : (b : Bool) → test y ≡ b → EachOf P (cond b (y ∷ filter test xs) (filter test xs)) → Among (y ∷ xs) x → (EachOf P (filter test xs) → Among xs x → P x) → P x
      go true d h (inl is) f = subst P is h.0
      go true d h (inr n) f = f h.1 n
      go false d h (inl is) f = absurd cc (sym d ∙ ap test is ∙ e)
      go false d h (inr n) f = f h n

module _ (x : ℕ) (all : List Written) where
  abbrev us : List Atom
  us = map atom_of all

  abbrev test : Written → Bool
  test a = is_without x (atom_of a)

  abbrev kept : List Written
  kept = filter test all

  absent_of : (a : Written) → test a ≡ true → coefficient x (form_of (atom_of a)) ≡ pos 0
  absent_of a e = (signed_Decides (coefficient x (form_of (atom_of a))) (pos 0)).0 e

  pub kept_normal : EachOf (IsNormal Fields) us → EachOf (IsNormal Fields) (map atom_of kept)
  kept_normal h = each_mapped_back (IsNormal Fields) atom_of kept (filter_each test (λ a. IsNormal Fields (atom_of a)) all (λ a m e. each_among (IsNormal Fields) us (atom_of a) h (among_mapped atom_of all a m)))

  pub kept_well_formed : AllByRecursion IsWellFormed all → AllByRecursion IsWellFormed kept
  kept_well_formed h = each_by_recursion IsWellFormed kept (filter_each test IsWellFormed all (λ a m e. each_among IsWellFormed all a (by_recursion_each IsWellFormed all h) m))

  kept_names : EachOf (HasNamesOf x us) (map atom_of kept)
  kept_names =
      each_mapped_back (HasNamesOf x us) atom_of kept
      (filter_each test (λ a. HasNamesOf x us (atom_of a)) all (λ a m e y n. (λ d. n (ap (λ z. coefficient z (form_of (atom_of a))) d ∙ absent_of a e), among_some (λ (u : Atom). Mentions u y) us (atom_of a) (among_mapped atom_of all a m) n)))

  module _ (p : Point ℕ) where
    kept_true : AreTrueWithout x us p → AreTrue (map atom_of kept) p
    kept_true h =
        each_mapped_back (λ (u : Atom). Says u p) atom_of kept
        (filter_each test (λ a. Says (atom_of a) p) all (λ a m e. each_among (λ (u : Atom). coefficient x (form_of u) ≡ pos 0 → Says u p) us (atom_of a) h (among_mapped atom_of all a m) (absent_of a e)))

    true_kept : AreTrue (map atom_of kept) p → AreTrueWithout x us p
    true_kept h =
        each_mapped_back (λ (u : Atom). coefficient x (form_of u) ≡ pos 0 → Says u p) atom_of all
        (each_from (λ a. coefficient x (form_of (atom_of a)) ≡ pos 0 → Says (atom_of a) p) all
        (λ a m e. each_filter test (λ a. Says (atom_of a) p) all (each_unmapped (λ (u : Atom). Says u p) atom_of kept h) a m (is_without_true x (atom_of a) e)))

  -- ---- the shadow

  module _ (vs : List Written) (rest : AreRest x us vs) where
    all_names : EachOf (HasNamesOf x us) (map atom_of kept ++ map atom_of vs)
    all_names = each_append (HasNamesOf x us) (map atom_of kept) (map atom_of vs) kept_names rest.names

    all_true : (p : Point ℕ) → Of Fields p → HasValue Fields x us p → AreTrue (map atom_of kept ++ map atom_of vs) p
    all_true p o v = let h = (rest.exact p o).1 v in each_append (λ (u : Atom). Says u p) (map atom_of kept) (map atom_of vs) (kept_true p h.0) h.1

    true_all : (p : Point ℕ) → Of Fields p → AreTrue (map atom_of kept ++ map atom_of vs) p → HasValue Fields x us p
    true_all p o h =
        (rest.exact p o).0
        (true_kept p (each_left (λ (u : Atom). Says u p) (map atom_of kept) (map atom_of vs) h), each_right (λ (u : Atom). Says u p) (map atom_of kept) (map atom_of vs) h)

    names_through : (v : Atom) → HasOnlyNamesOf (map atom_of kept ++ map atom_of vs) v → HasNamesOf x us v
    names_through v h y n =
        let i = some_among (λ (u : Atom). Mentions u y) (map atom_of kept ++ map atom_of vs) (h y n) in
        each_among (HasNamesOf x us) (map atom_of kept ++ map atom_of vs) i.0 all_names i.1 y i.2

    pub is_shadow : (s : Shadow) → IsNormalised (map atom_of kept ++ map atom_of vs) s → IsShadowOf Fields [] x us s
    is_shadow Never h = λ p o g v. h p o (all_true p o v)
    is_shadow (Atoms ws) h = record {
      is = record {
        exact = λ p o g. (λ t. true_all p o ((h.same p o).0 t), λ v. (h.same p o).1 (all_true p o v));
        names = each_from (HasNamesOf x us) (map atom_of ws.items) (λ v m. names_through v (each_among (HasOnlyNamesOf (map atom_of kept ++ map atom_of vs)) (map atom_of ws.items) v h.names m));
        normal = h.normal;
      };
      well_formed = h.well_formed;
    }
    is_shadow Unknown h = tt
