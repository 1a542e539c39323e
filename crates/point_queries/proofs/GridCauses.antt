-- Why the truths at the points of a grid are refused, and when they are not.
use Rattle.std.proofs.Common.{inl, inr, ⊎_elim, ℕ, List, Bool, None, sym, subst, refl}
use Rattle.language_meaning.specs.declared.grid.GridAxis.{GridAxis}
use Rattle.language_meaning.specs.Statements.{Grid}
use Rattle.language_meaning.specs.Trees.{FormulaTree}
use Rattle.language_meaning.specs.Causes.{OverflowsInReading}
use Rattle.language_meaning.specs.Resolving.{resolve}
use Rattle.logic_meaning.specs.Names.{place}
use Rattle.program_meaning.specs.declared.axis.Axis.{Axis}
use Rattle.program_meaning.specs.GridPoints.{grid_of}
use Rattle.program_meaning.specs.declared.line.StatementError.{StatementError}
use Rattle.program_meaning.specs.declared.line.StatementError.TheVariants as error
use Rattle.program_meaning.specs.State.{State, known}
use Rattle.program_meaning.specs.Grids.{lows, AreAxes, MeanNoGrid, PassesGrid, HasTooManyPoints}
use Rattle.program_meaning.specs.Meaning.{Meaning, meaning}
use Rattle.program_meaning.specs.Points.{IsQuantified}
use Rattle.program_meaning.specs.Causes.{HasNone}
use Rattle.program_meaning.specs.Words.{before}
use Rattle.form_commands.specs.Replies.{use_of}
use Rattle.form_commands.specs.Reading.{HasNumbers, IsReadable}
use Rattle.form_commands.proofs.CauseLemmas.{then_clear, overflow_here}
use Rattle.point_queries.specs.Asked.{Asks, IsClear, IsValued, ValuedStop}
use Rattle.point_queries.specs.GridSteps.{RefusesGrid, AcceptsGrid, AxesStop, NoGrid, TruthsStop}
use Rattle.point_queries.proofs.AskedLemmas.{asking_below_point}

pub grid_asks : (f : FormulaTree) (axes : List GridAxis) → Asks f (lows axes) (meaning (Grid f axes))
grid_asks f axes = record { formulas = refl; further = refl; context = λ s limit h. h }

module _ (s : State) (f : FormulaTree) (axes : List GridAxis) (numbers : HasNumbers s.names f) where
  abbrev m : Meaning
  m = meaning (Grid f axes)

  abbrev IsGridClear : StatementError → Type 0
  IsGridClear e = (limit : ℕ) (printed : Bool) → HasNone m s limit (use_of None printed) (before e)

  memory : (limit : ℕ) → RefusesGrid s limit f axes error.Memory
  memory limit printed other = absurd (other refl)

  -- ---- one cause after another

  module _ (clear : IsClear s f (lows axes)) where
    below_point : IsGridClear error.Point
    below_point limit printed = asking_below_point s f (lows axes) numbers (Grid f axes) (grid_asks f axes) clear limit printed

    pub no_grid : (limit : ℕ) (e : StatementError) → AxesStop s.context axes e → RefusesGrid s limit f axes e
    no_grid limit e (inl h) = subst (RefusesGrid s limit f axes) (sym h.0) (λ printed other. record { applies = inl h.1; first = below_point limit printed })
    no_grid limit e (inr h) = subst (RefusesGrid s limit f axes) (sym h) (memory limit)

    module _ (meant : ¬ (MeanNoGrid s.context axes)) where
      below_unvalued : IsGridClear error.Unvalued
      below_unvalued limit printed = then_clear m s limit (use_of None printed) error.Point error.Unvalued refl (below_point limit printed) meant

      pub names_unvalued : (limit : ℕ) (e : StatementError) → ValuedStop s f (lows axes) e → RefusesGrid s limit f axes e
      names_unvalued limit e (inl h) = subst (RefusesGrid s limit f axes) (sym h.0) (λ printed other. record { applies = inl h.1; first = below_unvalued limit printed })
      names_unvalued limit e (inr h) = subst (RefusesGrid s limit f axes) (sym h) (memory limit)

      module _ (valued : IsValued s f (lows axes)) where
        below_quantified : IsGridClear error.Quantified
        below_quantified limit printed = then_clear m s limit (use_of None printed) error.Unvalued error.Quantified refl (below_unvalued limit printed) valued

        pub grid_quantified : (limit : ℕ) → IsQuantified (known s) f → RefusesGrid s limit f axes error.Quantified
        grid_quantified limit h = λ printed other. record { applies = inl h; first = below_quantified limit printed }

        module _ (free : ¬ (IsQuantified (known s) f)) where
          below_overflow : IsGridClear error.Overflow
          below_overflow limit printed = then_clear m s limit (use_of None printed) error.Quantified error.Overflow refl (below_quantified limit printed) free

          pub grid_unread : (limit : ℕ) → OverflowsInReading s.context (known s) (place s.names) f → RefusesGrid s limit f axes error.Overflow
          grid_unread limit h = λ printed other. record { applies = inl (inl (inl h)); first = below_overflow limit printed }

          module _ (readable : IsReadable s f) where
            below_nodes : ¬ (PassesGrid (place s.names) axes) → IsGridClear error.Nodes
            below_nodes within limit printed =
                then_clear m s limit (use_of None printed) error.Overflow error.Nodes refl (below_overflow limit printed)
                (λ k. ⊎_elim (λ p. ⊎_elim readable.within absurd (overflow_here m s limit (use_of None printed) (numbers, tt) p)) within k)

            -- numbers of the grid pass the limit, or it has too many points
            pub grid_stops : (limit : ℕ) (e : StatementError) → NoGrid (place s.names) axes e → RefusesGrid s limit f axes e
            grid_stops limit e (inl h) = subst (RefusesGrid s limit f axes) (sym h.0) (λ printed other. record { applies = inl (inr h.1); first = below_overflow limit printed })
            grid_stops limit e (inr (inl h)) = subst (RefusesGrid s limit f axes) (sym h.0) (λ printed other. record { applies = inl h.2; first = below_nodes h.1 limit printed })
            grid_stops limit e (inr (inr h)) = subst (RefusesGrid s limit f axes) (sym h) (memory limit)

            module _ (within : ¬ (PassesGrid (place s.names) axes)) (few : ¬ (HasTooManyPoints (place s.names) axes)) where
              -- truths have no formula to bind or to print
              pub grid_accepted : AcceptsGrid s f axes
              grid_accepted limit printed =
                  let u = use_of None printed in
                  let bindings = then_clear m s limit u error.Nodes error.Bindings refl (below_nodes within limit printed) few in
                  let text = then_clear m s limit u error.Bindings error.Text refl bindings (λ k. ⊎_elim (λ p. p) (λ g. g.1) k) in
                  then_clear m s limit u error.Text error.Memory refl text (λ k. ⊎_elim (λ l. l.determined) (λ n. n) k.1)

              -- a number passes the limit at a point of the grid
              pub truths_stop : (limit : ℕ) (numbered : List Axis) → AreAxes (place s.names) axes numbered → (e : StatementError) → TruthsStop (resolve s.context (known s) s.names f) (grid_of numbered) e → RefusesGrid s limit f axes e
              truths_stop limit numbered are e (inl h) =
                  subst (RefusesGrid s limit f axes) (sym h.0) (λ printed other. record { applies = inr (λ k. k, record { axes = numbered; meant = are; few = λ many. few (numbered, are, many); passes = h.1 }); first = below_overflow limit printed })
              truths_stop limit numbered are e (inr h) = subst (RefusesGrid s limit f axes) (sym h) (memory limit)
