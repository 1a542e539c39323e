-- Pairs of bounds, one more after another.
use Rattle.std.proofs.Common.{◌≡◌, ℕ, ◌+◌, ◌<◌, ◌≤◌, ◌↔◌, Option, Some, None, MatchOption, List, [], ◌∷◌, ◌++◌, map, take, length, get_or, sym, ap, ◌∙◌, subst, arith}
use Rattle.std.proofs.Math.IntN.{ℤ, pos, neg_ℤ, ◌+ℤ◌, ◌*ℤ◌}
use Rattle.std.specs.Prelude.{◌≤ℤ◌}
use Rattle.std.specs.List.{AllByRecursion}
use Rattle.std.proofs.lemmas.Int.{ints}
use Rattle.exact_numbers.proofs.Ring.{mul_comm, neg_mul, mul_zero}
use Rattle.logic_meaning.specs.Context.{Integers}
use Rattle.logic_meaning.specs.Point.{Point, Of}
use Rattle.logic_meaning.specs.Form.{Form, value, coefficient}
use Rattle.logic_meaning.specs.Atom.{Atom, Compare, AtLeast, Says}
use Rattle.linear_forms.specs.Combinations.{IsCombination}
use Rattle.normal_atoms.specs.declared.atoms.Atom.{Atom as Code}
use Rattle.normal_atoms.specs.declared.atoms.Atom.TheVariants as code
use Rattle.normal_atoms.specs.declared.atoms.Rel.TheVariants as rel
use Rattle.normal_atoms.specs.Atoms.{atom_of, IsWellFormed}
use Rattle.case_theory.specs.PutThrough.{AreTrue}
use Rattle.integer_shadows.specs.declared.pairs.Pair.{Pair}
use Rattle.integer_shadows.specs.declared.pairs.Paired.{Paired}
use Rattle.integer_shadows.specs.Told.{IsTrueIn, IsWith}
use Rattle.integer_shadows.specs.Forms.{IsOver, IsRaised}
use Rattle.integer_shadows.specs.Pairs.{gap_of, need_for, need_of, IsPair, GapsAreOpen, GapsSuffice, IsMore, IsMoreByPair, IsMoreByBound, IsMoreByBounds}
use Rattle.integer_shadows.proofs.Moved.{names_of, over_two}
use Rattle.integer_shadows.proofs.Keeping.{all_joined, each_more, each_whole, each_start, mapped_joined}

-- ---- one pair

pub need_value : (b a step first all nb na one two n : ℤ) → first ≡ b *ℤ a → all ≡ first *ℤ step → nb ≡ neg_ℤ b → na ≡ neg_ℤ a → one ≡ all +ℤ nb → two ≡ one +ℤ na → n ≡ two +ℤ pos 1 → n ≡ need_for b a step
need_value b a step first all nb na one two n e f g h i j k = let l = ap (λ z. z *ℤ step) e in omega (arith, ints)

no_name : (a b s : ℤ) → s ≡ neg_ℤ a *ℤ b +ℤ b *ℤ a → s ≡ pos 0
no_name a b s e = let g = neg_mul a b in let h = mul_comm a b in omega (arith, ints)

no_names : (a b f g s : ℤ) → f ≡ pos 0 → g ≡ pos 0 → s ≡ a *ℤ f +ℤ b *ℤ g → s ≡ pos 0
no_names a b f g s e h i = let k = ap (λ z. a *ℤ z) e in let l = ap (λ z. b *ℤ z) h in let m = mul_zero a in let n = mul_zero b in omega (arith, ints)

pub pair_of : (x : ℕ) (step : ℤ) (l u g : Form) (b a : ℤ) (s : Option Form) → b ≡ coefficient x l → a ≡ neg_ℤ (coefficient x u) → IsCombination a l b u g →
    MatchOption s (need_of x step l u ≡ pos 0) (IsRaised (neg_ℤ (need_of x step l u)) g) → IsPair x step l u (record { gap = g; surplus = s })
pair_of x step l u g b a s e f h m =
    let cl = coefficient x l in let cu = coefficient x u in record {
      linear = h.linear;
      gone = no_name cu cl (coefficient x g) (h.coefficients_add x ∙ ap (λ z. z *ℤ cl +ℤ b *ℤ cu) f ∙ ap (λ z. neg_ℤ cu *ℤ cl +ℤ z *ℤ cu) e);
      others = λ y z w. no_names a b (coefficient y l) (coefficient y u) (coefficient y g) z w (h.coefficients_add y);
      values = λ p. h.values_add p ∙ ap (λ z. z *ℤ value l p +ℤ b *ℤ value u p) f ∙ ap (λ z. neg_ℤ cu *ℤ value l p +ℤ z *ℤ value u p) e;
      surplus = m;
    }

above_need : (v g n s : ℤ) → s ≡ v +ℤ neg_ℤ n → v ≡ g → pos 0 ≤ℤ s → n ≤ℤ g
above_need v g n s e f h = omega (arith, ints)

no_need : (n g : ℤ) → n ≡ pos 0 → pos 0 ≤ℤ g → n ≤ℤ g
no_need n g e h = omega (arith, ints)

-- the needs with that of one pair more
record AreNeeds (x : ℕ) (step : ℤ) (l u : Form) (old new : List Code) : Type 0 where
  needed : (p : Point ℕ) → Of Integers p → pos 0 ≤ℤ gap_of x l u p → AreTrue (map atom_of new) p → AreTrue (map atom_of old) p × (need_of x step l u ≤ℤ gap_of x l u p)
  well_formed : AllByRecursion IsWellFormed old → AllByRecursion IsWellFormed new

needs_more : (x : ℕ) (step : ℤ) (l u g : Form) (s : Option Form) (old new : List Code) → ((p : Point ℕ) → value g p ≡ gap_of x l u p) → MatchOption s (need_of x step l u ≡ pos 0) (IsRaised (neg_ℤ (need_of x step l u)) g) →
    MatchOption s (new ≡ old) (λ f. new ≡ old ++ code.Compare rel.AtLeast f ∷ []) → AreNeeds x step l u old new
needs_more x step l u g None old new values m e = record {
  needed = λ p o h t. (subst (λ vs. AreTrue (map atom_of vs) p) e t, no_need (need_of x step l u) (gap_of x l u p) m h);
  well_formed = λ w. subst (λ vs. AllByRecursion IsWellFormed vs) (sym e) w;
}
needs_more x step l u g (Some f) old new values m e = record {
  needed = λ p o h t.
      let r = (mapped_joined atom_of (λ k. Says k p) old (code.Compare rel.AtLeast f)).0 (subst (λ vs. AreTrue (map atom_of vs) p) e t) in
      (r.0, above_need (value g p) (gap_of x l u p) (need_of x step l u) (value f p) (m.values p o) (values p) r.1);
  well_formed = λ w. subst (λ vs. AllByRecursion IsWellFormed vs) (sym e) (all_joined IsWellFormed old (code.Compare rel.AtLeast f) w m.linear);
}

pub more_by_pair : (x : ℕ) (step : ℤ) (l u : Form) (pair : Pair) (old new : Paired) → IsPair x step l u pair → IsWith old.shadow new.shadow (Compare AtLeast pair.gap) →
    MatchOption pair.surplus (new.needs.items ≡ old.needs.items) (λ f. new.needs.items ≡ old.needs.items ++ code.Compare rel.AtLeast f ∷ []) → IsMoreByPair x step l u old new
more_by_pair x step l u pair old new h w n =
    let g = pair.gap in
    let m = needs_more x step l u g pair.surplus old.needs.items new.needs.items h.values h.surplus n in
    record {
      told = w.told;
      truth = λ t p o. subst (λ z. IsTrueIn new.shadow p ↔ (IsTrueIn old.shadow p × (pos 0 ≤ℤ z))) (h.values p) (w.truth t p o);
      needed = λ t p o s k. m.needed p o (subst (λ z. pos 0 ≤ℤ z) (h.values p) ((w.truth t p o).0 s).1) k;
      names = λ us k o. w.names x us k (names_of x us (Compare AtLeast g) h.gone (over_two us l u g h.others o.0 o.1));
      made = w.made;
      well_formed = m.well_formed;
    }

-- ---- more and more

module _ (x : ℕ) where
  then_more : (H J : List Atom → Type 0) (G K N M : Point ℕ → Type 0) (a b c : Paired) → IsMore x H G N a b → IsMore x J K M b c → IsMore x (λ us. H us × J us) (λ p. G p × K p) (λ p. N p × M p) a c
  then_more H J G K N M a b c h k = record {
    told = λ t. h.told (k.told t);
    truth = λ t p o.
        let r = h.truth (k.told t) p o in let s = k.truth t p o in
        (λ z. let y = s.0 z in let v = r.0 y.0 in (v.0, (v.1, y.1)), λ z. s.1 (r.1 (z.0, z.1.0), z.1.1));
    needed = λ t p o z n. let r = k.needed t p o z n in let s = h.needed (k.told t) p o ((k.truth t p o).0 z).0 r.0 in (s.0, (s.1, r.1));
    names = λ us n o. k.names us (h.names us n o.0) o.1;
    made = λ m. k.made (h.made m);
    well_formed = λ w. k.well_formed (h.well_formed w);
  }

  same_more : (H J : List Atom → Type 0) (G K N M : Point ℕ → Type 0) (a b : Paired) → ((us : List Atom) → J us → H us) → ((p : Point ℕ) → G p ↔ K p) → ((p : Point ℕ) → N p → M p) → IsMore x H G N a b → IsMore x J K M a b
  same_more H J G K N M a b e f g h = record {
    told = h.told;
    truth = λ t p o. let r = h.truth t p o in (λ z. let y = r.0 z in (y.0, (f p).0 y.1), λ z. r.1 (z.0, (f p).1 z.1));
    needed = λ t p o z n. let r = h.needed t p o z n in (r.0, g p r.1);
    names = λ us n o. h.names us n (e us o);
    made = h.made;
    well_formed = h.well_formed;
  }

  nothing_more : (H : List Atom → Type 0) (G N : Point ℕ → Type 0) (a : Paired) → ((p : Point ℕ) → G p) → ((p : Point ℕ) → N p) → IsMore x H G N a a
  nothing_more H G N a g n = record {
    told = λ t. t;
    truth = λ t p o. (λ z. (z, g p), λ z. z.0);
    needed = λ t p o z k. (k, n p);
    names = λ us k o. k;
    made = λ m. m;
    well_formed = λ w. w;
  }

  module _ (step : ℤ) where
    -- ---- the upper bounds of one lower bound

    module _ (l : Form) (us : List Form) where
      pub bound_start : (a : Paired) → IsMoreByBound x step l (take 0 us) a a
      bound_start a = nothing_more _ _ _ a (λ p. each_start (λ (u : Form). pos 0 ≤ℤ gap_of x l u p) us) (λ p. each_start (λ (u : Form). need_of x step l u ≤ℤ gap_of x l u p) us)

      pub bound_more : (i : ℕ) (u : Form) (a b c : Paired) → i < length us → u ≡ get_or us i u → IsMoreByBound x step l (take i us) a b → IsMoreByPair x step l u b c → IsMoreByBound x step l (take (i + 1) us) a c
      bound_more i u a b c lt e h k =
          same_more _ _ _ _ _ _ a c
          (λ ws o. let r = (each_more (IsOver ws) us i u lt e).0 o.1 in ((o.0, r.0), (o.0, r.1)))
          (λ p. let r = each_more (λ (v : Form). pos 0 ≤ℤ gap_of x l v p) us i u lt e in (r.1, r.0))
          (λ p. (each_more (λ (v : Form). need_of x step l v ≤ℤ gap_of x l v p) us i u lt e).1)
          (then_more _ _ _ _ _ _ a b c h k)

      pub bound_whole : (i : ℕ) (a b : Paired) → length us ≤ i → IsMoreByBound x step l (take i us) a b → IsMoreByBound x step l us a b
      bound_whole i a b lt h =
          same_more _ _ _ _ _ _ a b
          (λ ws o. (o.0, (each_whole (IsOver ws) us i lt).1 o.1))
          (λ p. each_whole (λ (v : Form). pos 0 ≤ℤ gap_of x l v p) us i lt)
          (λ p. (each_whole (λ (v : Form). need_of x step l v ≤ℤ gap_of x l v p) us i lt).0)
          h

    -- ---- all lower bounds

    module _ (ls us : List Form) where
      pub bounds_start : (a : Paired) → IsMoreByBounds x step (take 0 ls) us a a
      bounds_start a = nothing_more _ _ _ a (λ p. each_start (λ (l : Form). GapsAreOpen x l us p) ls) (λ p. each_start (λ (l : Form). GapsSuffice x step l us p) ls)

      pub bounds_more : (i : ℕ) (l : Form) (a b c : Paired) → i < length ls → l ≡ get_or ls i l → IsMoreByBounds x step (take i ls) us a b → IsMoreByBound x step l us b c → IsMoreByBounds x step (take (i + 1) ls) us a c
      bounds_more i l a b c lt e h k =
          same_more _ _ _ _ _ _ a c
          (λ ws o. let r = (each_more (IsOver ws) ls i l lt e).0 o.0 in ((r.0, o.1), (r.1, o.1)))
          (λ p. let r = each_more (λ (v : Form). GapsAreOpen x v us p) ls i l lt e in (r.1, r.0))
          (λ p. (each_more (λ (v : Form). GapsSuffice x step v us p) ls i l lt e).1)
          (then_more _ _ _ _ _ _ a b c h k)

      pub bounds_whole : (i : ℕ) (a b : Paired) → length ls ≤ i → IsMoreByBounds x step (take i ls) us a b → IsMoreByBounds x step ls us a b
      bounds_whole i a b lt h =
          same_more _ _ _ _ _ _ a b
          (λ ws o. ((each_whole (IsOver ws) ls i lt).1 o.0, o.1))
          (λ p. each_whole (λ (v : Form). GapsAreOpen x v us p) ls i lt)
          (λ p. (each_whole (λ (v : Form). GapsSuffice x step v us p) ls i lt).0)
          h
