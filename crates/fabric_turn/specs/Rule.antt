-- The rule of the ticket lock. Word 0 has the tickets drawn and word 1 the turns served, both modulo 2^64. The slot
-- has the value. Public calls cite only `first_view` and `HasNumber`.
use Rattle.std.specs.Prelude.{◌≡◌, ℕ, ◌+◌, ◌-◌, ◌%◌, ◌^◌, ◌<◌, ◌≤◌, Bool, true, false, List, [], ◌∷◌, ◌++◌}
use Rattle.std.specs.Prelude.{◌⊎◌, length, slice_index, Some}
use mathlib.Core.Option.{some}
use lib.ListN.{get_elem?}
use Rattle.atomic_table.specs.Table.{State}
use Rattle.fabric_turn.specs.declared.view.View.{View}
use Rattle.fabric_turn.specs.declared.view.Ended.{Ended}
use Rattle.fabric_turn.specs.declared.view.Stage.{Stage}
use Rattle.fabric_turn.specs.declared.view.Stage.TheVariants.{Spent, Idle, Waits, Serves}
use Rattle.fabric_turn.specs.History.{own_entries}

-- the sum of a function over a list
abbrev pub total_by : {A : Type 0} → (A → ℕ) → List A → ℕ
total_by measure [] = 0
total_by measure (item ∷ items) = measure item + total_by measure items

-- the seat was not joined into another one
abbrev pub is_live : Stage → Bool
is_live Spent = false
is_live Idle = true
is_live (Waits ticket) = true
is_live (Serves ticket) = true

-- the number of tickets that a seat has
abbrev pub tickets_at : Stage → ℕ
tickets_at Spent = 0
tickets_at Idle = 0
tickets_at (Waits ticket) = 1
tickets_at (Serves ticket) = 1

-- the number of caller numbers, or 0 if the seat was joined into another one
abbrev pub numbers_at : Stage → ℕ → ℕ
numbers_at Spent count = 0
numbers_at Idle count = count
numbers_at (Waits ticket) count = count
numbers_at (Serves ticket) count = count

module _ {E D : Type 0} where
  -- the number of tickets that the view has
  abbrev pub tickets_of : View E D → ℕ
  tickets_of view = tickets_at view.stage

  -- the number of caller numbers that the view has: its own, those to give, and the ended
  abbrev pub numbers_of : View E D → ℕ
  numbers_of view = numbers_at view.stage (1 + (view.callers - view.next) + length view.ended)

  -- what the first seat knows: it has number 0 and can give all others, and nothing has happened yet
  abbrev pub first_view : ℕ → D → View E D
  first_view callers start = record {
    stage = Idle;
    number = 0;
    next = 1;
    callers = callers;
    start = Some start;
    seen = [];
    mine = [];
    ended = [];
    heard = [];
  }

  -- the number is the view's own, one that it can give, or an ended one's
  abbrev pub HasNumber : View E D → ℕ → Type 0
  HasNumber view number =
      (number ≡ view.number) ⊎ (view.next ≤ number)
      ⊎ ((index : ℕ) × (ended : Ended E) × (get_elem? view.ended index ≡ some ended)
      × (ended.number ≡ number))

-- The roles of a caller's number: a seat's own, one that a seat can give, and ended.
abbrev pub acting : ℕ
acting = 0

abbrev pub spare : ℕ
spare = 1

abbrev pub over : ℕ
over = 2

module _ {E : Type 0} (drawn served : ℕ) (log : List E) (holder : ℕ → ℕ) (index : ℕ) (seen : List E) where
  -- A ticket that a view has is at least the one served and below the next to be drawn, and no other view has it.
  -- At the turn it is the one that is served, and the whole history was seen.
  abbrev pub HoldsTicket : Stage → Type 0
  HoldsTicket Spent = Unit {0}
  HoldsTicket Idle = Unit {0}
  HoldsTicket (Waits ticket) = (served ≤ ticket) × (ticket < drawn) × (holder ticket ≡ index)
  HoldsTicket (Serves ticket) = (ticket ≡ served) × (ticket < drawn) × (holder ticket ≡ index) × (seen ≡ log)

module _ {S E D : Type 0} (history : S → List E) (start_of : S → D) (owner : E → ℕ) (callers : ℕ) (start : D)
  where
    -- only the view at `index` has these numbers: its own, those from `next` on that it can give, and ended ones
    pub record HasPlaces (log : List E) (place : ℕ → ℕ × ℕ) (index number next : ℕ) (ended : List (Ended E))
        : Type 0 where
      pub limit : next ≤ callers
      pub acts : place number ≡ (index, acting)
      pub spares : (other : ℕ) → next ≤ other → other < callers → place other ≡ (index, spare)
      pub ends :
          (at : ℕ) (one : Ended E) → get_elem? ended at ≡ some one
          → (place one.number ≡ (index, over)) × (own_entries owner log one.number ≡ one.mine)

    -- the caller's entries were all seen, and what was seen, and what a seat that is joined to it had seen, are
    -- beginnings of the history
    pub record HasSeen (log seen heard : List E) (number : ℕ) (mine : List E) : Type 0 where
      pub saw : own_entries owner seen number ≡ mine
      pub rest : List E
      pub prefix : seen ++ rest ≡ log
      pub heard_rest : List E
      pub heard_prefix : heard ++ heard_rest ≡ log

    -- What holds of the view at `index`, if it is not spent. `log` is the history, and `place` says of each
    -- caller's number which view has it, and in what role.
    pub record IsSeated (log : List E) (place : ℕ → ℕ × ℕ) (index : ℕ) (view : View E D) : Type 0 where
      pub begun : view.start ≡ Some start
      pub bound : view.callers ≡ callers
      pub below : view.number < callers
      pub made : own_entries owner log view.number ≡ view.mine
      pub places : HasPlaces log place index view.number view.next view.ended
      pub open places use {limit, acts, spares, ends}
      pub sight : HasSeen log view.seen view.heard view.number view.mine
      pub open sight use {saw, rest, prefix, heard_rest, heard_prefix}

    -- what holds of the words, the views and the value of a ticket lock
    pub record IsKept (state : State S (View E D)) : Type 0 where
      -- tickets drawn and turns passed on, counted without bound, and the history
      pub drawn : ℕ
      pub served : ℕ
      pub log : List E
      -- which view has a ticket; which view has a caller's number, and in what role
      pub holder : ℕ → ℕ
      pub place : ℕ → ℕ × ℕ
      pub two : length state.words ≡ 2
      pub tickets : slice_index state.words 0 ≡ drawn % 2 ^ 64
      pub serving : slice_index state.words 1 ≡ served % 2 ^ 64
      pub few : callers < 2 ^ 32
      -- each ticket that is not served yet is out with a view, and the views have all numbers
      pub counted : total_by tickets_of state.views + served ≡ drawn
      pub numbered : total_by numbers_of state.views ≡ callers
      -- a number that was not given has no entry; neither has a number that does not exist
      pub fresh : (number : ℕ) → (place number).1 ≡ spare → own_entries owner log number ≡ []
      pub beyond : (number : ℕ) → callers ≤ number → own_entries owner log number ≡ []
      pub seated :
          (index : ℕ) (view : View E D) → get_elem? state.views index ≡ some view → is_live view.stage ≡ true
          → IsSeated log place index view
      pub ticketed :
          (index : ℕ) (view : View E D) → get_elem? state.views index ≡ some view
          → HoldsTicket drawn served log holder index view.seen view.stage
      -- each number belongs to some view, and some view has seen the whole history
      pub covers :
          (number : ℕ) → number < callers
          → (index : ℕ) × (view : View E D) × (get_elem? state.views index ≡ some view)
          × (is_live view.stage ≡ true) × HasNumber view number
      pub latest :
          (index : ℕ) × (view : View E D) × (get_elem? state.views index ≡ some view)
          × (is_live view.stage ≡ true) × ((view.seen ≡ log) ⊎ (view.heard ≡ log))
      -- the value is in the slot and represents the history, or a view has the turn
      pub slot :
          ((held : S) × (get_elem? state.homes 0 ≡ some (some held)) × (history held ≡ log)
          × (start_of held ≡ start))
          ⊎ ((index : ℕ) × (view : View E D) × (ticket : ℕ) × (get_elem? state.views index ≡ some view)
          × (view.stage ≡ Serves ticket))
