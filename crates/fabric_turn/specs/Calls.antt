-- What calls say to their callers.
use Rattle.std.specs.Prelude.{◌≡◌, ℕ, List, [], ◌∷◌, ◌++◌, Some, IfSome}
use Rattle.atomic_table.specs.Table.{Me}
use Rattle.fabric_turn.specs.declared.view.View.{View}
use Rattle.fabric_turn.specs.declared.view.Stage.TheVariants.{Idle, Serves}
use Rattle.fabric_turn.specs.History.{own_entries, NoneOf, Adds, AppendsAtMostOne}
use Rattle.fabric_turn.specs.Plays.{serving_view, resting_view}

-- Of a seat at the table, which has a view and the values that are out with it.

module _ {S E D : Type 0} where
  -- the seat is between two calls
  abbrev pub IsAtRest : Me S (View E D) → Type 0
  IsAtRest me = (me.0.stage ≡ Idle) × (me.1 ≡ []) × (me.0.heard ≡ [])

  -- this value is out with the seat
  abbrev pub HasOut : S → Me S (View E D) → Type 0
  HasOut book me = me.1 ≡ (0, book) ∷ []

module _ {S E D : Type 0} (history : S → List E) (start_of : S → D) (owner : E → ℕ) where
  -- the turn of the seat that had this view has come: the value is out with it, and it has seen the whole history,
  -- in which only entries of other callers are new
  abbrev pub TurnComes : View E D → Me S (View E D) → Type 0
  TurnComes view me =
      (ticket : ℕ) × (book : S) × (between : List E)
      × (me ≡ (serving_view ticket (history book) view, (0, book) ∷ []))
      × (history book ≡ view.seen ++ between) × NoneOf owner view.number between
      × (view.start ≡ Some (start_of book)) × (own_entries owner view.seen view.number ≡ view.mine)

  -- the value is out with the seat, and represents what the seat has seen and at most one more entry, of this
  -- caller
  abbrev pub IsInTurn : Me S (View E D) → Type 0
  IsInTurn me =
      (ticket : ℕ) × (book : S) × (me.0.stage ≡ Serves ticket) × HasOut book me
      × AppendsAtMostOne owner me.0.number me.0.seen (history book) × (me.0.start ≡ Some (start_of book))

module _ {S E D : Type 0} (history : S → List E) (owner : E → ℕ) where
  -- the seat has given the value back, and has seen its history
  abbrev pub GivesBack : Me S (View E D) → Me S (View E D) → Type 0
  GivesBack me after =
      (book : S) → HasOut book me
      → after ≡ (resting_view (history book) (own_entries owner (history book) me.0.number) me.0, [])

-- Of the views of callers

module _ {E D A : Type 0} (fit : D → List E → ℕ → A → Type 0) where
  -- the ask is fit for what the caller has seen
  abbrev pub IsFitFor : View E D → A → Type 0
  IsFitFor view ask = IfSome view.start (λ start. fit start view.seen view.number ask)

module _ {E D : Type 0} where
  -- calls changed what the caller has seen and what it added, and nothing else that it knows
  abbrev pub DifferByCalls : View E D → View E D → Type 0
  DifferByCalls before after = after ≡ record before { seen = after.seen; mine = after.mine }

module _ {E D A R : Type 0} (owner : E → ℕ) (answers : D → List E → ℕ → A → R → List E → Type 0) where
  -- A caller with the view `before` asked `ask`, got `reply`, and now has the view `after`.
  pub record Called (before : View E D) (ask : A) (reply : R) (after : View E D) : Type 0 where
    pub start : D
    pub between : List E
    pub added : List E
    -- the value was started with the start that the caller knows
    pub begun : before.start ≡ Some start
    -- the entries that came since the caller last looked belong to other callers
    pub others : NoneOf owner before.number between
    -- the call appended one entry of its caller, or none
    pub adds : Adds owner before.number added
    -- the history is what the caller had seen, what came since, and the call's own entry
    pub seen : after.seen ≡ (before.seen ++ between) ++ added
    -- the reply is the reply of the value as it was just before that entry
    pub answer : answers start (before.seen ++ between) before.number ask reply after.seen
    -- the history so far has exactly those entries of the caller that it added, in their order
    pub mine : own_entries owner after.seen before.number ≡ before.mine ++ added
    -- nothing else of what the caller knows changed
    pub same : after ≡ record before { seen = after.seen; mine = before.mine ++ added }
