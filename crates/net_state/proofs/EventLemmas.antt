-- Events that are the same by number are one event.

use Rattle.std.specs.Prelude.{◌≡◌, ◌==◌, ℕ, List, slice_index_or, true, refl, if◌then◌else◌}
use Rattle.std.proofs.Common.{sym, ◌∙◌, ap}
use Rattle.std.proofs.lemmas.Map.Lookups.{exact_bytes}
use Rattle.std.specs.Ordering.{nat_cmp}
use Rattle.std.specs.Cmp.Lexicographic.{slice_cmp}
use Rattle.an_base.specs.declared.event.Event.{Event}
use Rattle.an_base.specs.declared.event.Event.TheVariants.{Tick, Clock, Take, Handle, Load, Fail, Repair, Lose, Again, Swap, Noise, Send, Move, Restart}
use Rattle.net_state.specs.Lawful.{event_code, is_same_event}
use Rattle.common_values.proofs.OrderingLemmas.{equal_is}

-- the event of a kind with these fields
event_by : ℕ → ℕ → ℕ → ℕ → Event
event_by k x y z =
    if k == 0 then Tick else if k == 1 then Clock x else if k == 2 then Take x y else if k == 3 then Handle x else if k == 4 then Load x
    else if k == 5 then Fail x y else if k == 6 then Repair x y else if k == 7 then Lose x y z else if k == 8 then Again x y z
    else if k == 9 then Swap x y z else if k == 10 then Noise x y z else if k == 11 then Send x y else if k == 12 then Move x else Restart x

event_of : List ℕ → Event
event_of xs = event_by (slice_index_or xs 0 0) (slice_index_or xs 1 0) (slice_index_or xs 2 0) (slice_index_or xs 3 0)

back : (e : Event) → event_of (event_code e) ≡ e
unfolding event_of event_by
back Tick = refl
back (Clock s) = refl
back (Take s p) = refl
back (Handle s) = refl
back (Load s) = refl
back (Fail s p) = refl
back (Repair s p) = refl
back (Lose s p n) = refl
back (Again s p n) = refl
back (Swap s p n) = refl
back (Noise s p n) = refl
back (Send h g) = refl
back (Move k) = refl
back (Restart s) = refl

-- events that are the same are one
pub same_event : (a b : Event) → is_same_event a b ≡ true → a ≡ b
same_event a b same =
    sym (back a) ∙ ap event_of (exact_bytes (event_code a) (event_code b) (equal_is (slice_cmp nat_cmp (event_code a) (event_code b)) same)) ∙ back b
