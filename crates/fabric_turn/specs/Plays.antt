-- What each step says of itself, of the seat before it, the number found and the seat after it. A seat has a view
-- and the values that are out with it. Only the steps inside this crate cite these definitions.
use Rattle.std.specs.Prelude.{◌≡◌, ◌≢◌, ℕ, ◌%◌, ◌^◌, List, [], ◌∷◌, ◌++◌, Some}
use Rattle.atomic_table.specs.Table.{Me, Step}
use Rattle.fabric_turn.specs.declared.view.View.{View}
use Rattle.fabric_turn.specs.declared.view.Stage.TheVariants.{Idle, Waits, Serves}
use Rattle.fabric_turn.specs.History.{Extends, own_entries, NoneOf}
use Rattle.fabric_turn.specs.Seats.{longer_of, compared_view}

module _ {E D : Type 0} where
  -- the view after the seat has drawn this ticket
  abbrev pub waiting_view : ℕ → View E D → View E D
  waiting_view ticket view = record view { stage = Waits ticket }

  -- the view once the turn has come, with this history seen
  abbrev pub serving_view : ℕ → List E → View E D → View E D
  serving_view ticket history view = record view { stage = Serves ticket; seen = history }

  -- the view once the turn is over, with this history seen, in which these are the seat's own entries
  abbrev pub resting_view : List E → List E → View E D → View E D
  resting_view history mine view = record view { stage = Idle; seen = history; mine = mine }

module _ {S E D : Type 0} where
  -- a ticket was drawn: the number found is that ticket modulo 2^64
  abbrev pub Draws : Step S → Me S (View E D) → ℕ → Me S (View E D) → Type 0
  Draws step me found after =
      (ticket : ℕ) × (found ≡ ticket % 2 ^ 64) × (after ≡ (waiting_view ticket me.0, me.1))

module _ {S E D : Type 0} (history : S → List E) (start_of : S → D) (owner : E → ℕ) where
  -- The turn of a ticket has come: the value is out with the seat, which sees the whole history. Only entries of
  -- other callers are new in it.
  abbrev pub GainsTurn : ℕ → Me S (View E D) → Me S (View E D) → Type 0
  GainsTurn ticket me after =
      (book : S) × (between : List E)
      × (after ≡ (serving_view ticket (history book) me.0, (0, book) ∷ me.1))
      × (history book ≡ me.0.seen ++ between) × NoneOf owner me.0.number between
      × (me.0.start ≡ Some (start_of book)) × (own_entries owner me.0.seen me.0.number ≡ me.0.mine)

  -- a seat that waits and finds its ticket gains the turn; otherwise nothing changes
  abbrev pub Looks : Step S → Me S (View E D) → ℕ → Me S (View E D) → Type 0
  Looks step me found after =
      (ticket : ℕ) → me.0.stage ≡ Waits ticket
      → (found ≡ ticket % 2 ^ 64 → GainsTurn ticket me after) × (found ≢ ticket % 2 ^ 64 → after ≡ me)

module _ {S E D : Type 0} (history : S → List E) (owner : E → ℕ) where
  -- the value that was out is given back, and the seat has seen its history
  abbrev pub PassesTurn : Step S → Me S (View E D) → ℕ → Me S (View E D) → Type 0
  PassesTurn step me found after =
      (book : S) → me.1 ≡ (0, book) ∷ []
      → after ≡ (resting_view (history book) (own_entries owner (history book) me.0.number) me.0, [])

module _ {S E D : Type 0} (owner : E → ℕ) where
  -- the longer of the two histories extends both, and has no more entries of the caller than it added
  abbrev pub Compares : Step S → Me S (View E D) → ℕ → Me S (View E D) → Type 0
  Compares step me found after =
      (after ≡ (compared_view me.0, me.1)) × Extends me.0.seen (longer_of me.0.seen me.0.heard)
      × Extends me.0.heard (longer_of me.0.seen me.0.heard)
      × (own_entries owner (longer_of me.0.seen me.0.heard) me.0.number ≡ me.0.mine)
