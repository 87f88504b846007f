-- What is told of the events of a caller, as a history goes on.

use Rattle.std.specs.Prelude.{◌≡◌, ◌+◌, ◌==◌, ℕ, filter, List, [], ◌∷◌, ◌++◌, cond, length, Bool, true, false, refl}
use Rattle.std.proofs.Common.{sym, ◌∙◌, ap, append_assoc, arith, eq-eqb}
use Rattle.std.proofs.lemmas.List.{append-nil}
use Rattle.an_base.specs.declared.event.Event.{Event}
use Rattle.net_script.specs.Scripts.{ScriptOf}
use Rattle.net_world.specs.Accounts.{AccountOf, account_of, gathered, loaded_rows, placed_lines}
use Rattle.net_world.specs.Histories.{owner_of}
use Rattle.net_world.specs.World.{WorldOf, after_all, begun, step, world_after}

module _ {A : Type 0} (give : WorldOf → Event → List A) (caller : ℕ) where
  -- behind what the events before give
  pub gathered-append : (w : WorldOf) (h more : List Event)
      → gathered give caller w (h ++ more) ≡ gathered give caller w h ++ gathered give caller (after_all h w) more
  gathered-append w [] more = refl
  gathered-append w (e ∷ h) more =
      let here : List A = cond (owner_of e == caller) (give w e) [] in
      ap (λ (xs : List A). here ++ xs) (gathered-append (step w e) h more)
      ∙ sym (append_assoc here (gathered give caller (step w e) h) (gathered give caller (after_all h (step w e)) more))

  -- nothing where none is the caller's
  pub gathered-none : (w : WorldOf) (more : List Event) → filter (λ e. owner_of e == caller) more ≡ [] → gathered give caller w more ≡ []
  gathered-none w [] none = refl
  gathered-none w (e ∷ more) none = by (owner_of e == caller) none (gathered-none (step w e) more) where
    by : (b : Bool) → cond b (e ∷ filter (λ x. owner_of x == caller) more) (filter (λ x. owner_of x == caller) more) ≡ []
        → (filter (λ x. owner_of x == caller) more ≡ [] → gathered give caller (step w e) more ≡ []) → cond b (give w e) [] ++ gathered give caller (step w e) more ≡ []
    by true none rest = absurd (let no : length (e ∷ filter (λ x. owner_of x == caller) more) ≡ 0 = ap (length {A = Event}) none in omega (arith, no))
    by false none rest = rest none

  -- one event of the caller
  pub gathered-one : (w : WorldOf) (e : Event) → owner_of e ≡ caller → gathered give caller w (e ∷ []) ≡ give w e
  gathered-one w e own = ap (λ (b : Bool). cond b (give w e) [] ++ []) (eq-eqb (owner_of e) caller own) ∙ append-nil (give w e)

  -- the same from the beginning on
  pub gathered_stays : (script : ScriptOf) (h more : List Event) → filter (λ e. owner_of e == caller) more ≡ []
      → gathered give caller (begun script) (h ++ more) ≡ gathered give caller (begun script) h
  gathered_stays script h more none =
      gathered-append (begun script) h more
      ∙ ap (λ (xs : List A). gathered give caller (begun script) h ++ xs) (gathered-none (after_all h (begun script)) more none)
      ∙ append-nil (gathered give caller (begun script) h)

  pub gathered_next : (script : ScriptOf) (h : List Event) (e : Event) → owner_of e ≡ caller
      → gathered give caller (begun script) (h ++ e ∷ []) ≡ gathered give caller (begun script) h ++ give (world_after script h) e
  unfolding world_after
  gathered_next script h e own =
      gathered-append (begun script) h (e ∷ [])
      ∙ ap (λ (xs : List A). gathered give caller (begun script) h ++ xs) (gathered-one (after_all h (begun script)) e own)

-- the account of a caller: as it was after events of others, and behind it what is told of one of its own
pub account_stays : (script : ScriptOf) (caller : ℕ) (h more : List Event) → filter (λ e. owner_of e == caller) more ≡ []
    → account_of script caller (h ++ more) ≡ account_of script caller h
account_stays script caller h more none =
    ap (λ lines. record { lines = lines; rows = gathered loaded_rows caller (begun script) (h ++ more) }) (gathered_stays placed_lines caller script h more none)
    ∙ ap (λ rows. record { lines = gathered placed_lines caller (begun script) h; rows = rows }) (gathered_stays loaded_rows caller script h more none)

pub account_next : (script : ScriptOf) (caller : ℕ) (h : List Event) (e : Event) → owner_of e ≡ caller
    → account_of script caller (h ++ e ∷ []) ≡ record {
      lines = (account_of script caller h).lines ++ placed_lines (world_after script h) e;
      rows = (account_of script caller h).rows ++ loaded_rows (world_after script h) e;
    }
account_next script caller h e own =
    ap (λ lines. record { lines = lines; rows = gathered loaded_rows caller (begun script) (h ++ e ∷ []) }) (gathered_next placed_lines caller script h e own)
    ∙ ap (λ rows. record { lines = gathered placed_lines caller (begun script) h ++ placed_lines (world_after script h) e; rows = rows }) (gathered_next loaded_rows caller script h e own)
