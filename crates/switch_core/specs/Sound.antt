-- The invariant of a switch: bounds that keep its numbers far from their limits, and how its links follow from its
-- ports.

use Rattle.std.specs.Prelude.{◌≡◌, ◌==◌, ℕ, zero, suc, ◌+◌, ◌*◌, ◌<◌, ◌≤◌, List, map, sum, filter, length, None, false, true, is_some, if◌then◌else◌}
use Rattle.an_base.specs.Values.{PeerAt}
use Rattle.an_base.specs.declared.frame.Frame.{Frame}
use Rattle.an_base.specs.declared.frame.Frame.TheVariants.{Carry, Ack, Probe, Reply}
use Rattle.an_base.specs.declared.limits.TheConstants.{MOST_NUMBER}
use Rattle.ordered_link.specs.Receiving.{Receiving, last}
use Rattle.port_monitor.specs.Histories.{externals}
use Rattle.switch_core.specs.Switch.{SwitchOf, port_of, good_links, good_peer, finish_of}

-- the number of bodies held, among the given number of body numbers from `number` on
abbrev pub held_from : ℕ → ℕ → Receiving → ℕ
held_from zero number receiving = 0
held_from (suc more) number receiving =
    (if is_some (receiving.held number) then 1 else 0) + held_from more (suc number) receiving

-- the number of bodies held, among the eight numbers after the last accepted one
abbrev pub held_count : Receiving → ℕ
held_count receiving = held_from 8 (last receiving + 1) receiving

-- the number of bodies held at all external ports
abbrev pub all_held : (ℕ → Receiving) → ℕ
all_held receivings = sum (map (λ port. held_count (receivings port)) externals)

-- the links at a port
abbrev pub links_at : ℕ → List PeerAt → List PeerAt
links_at port links = filter (λ link. link.port == port) links

-- the number of bodies in a frame
abbrev pub carries : Frame → ℕ
carries (Carry carry) = 1
carries (Ack epoch from to number) = 0
carries (Probe from nonce) = 0
carries (Reply from to nonce) = 0

-- the number of bodies in the new epoch, if `before` came before and `now` come now; those of an earlier epoch do not
-- count
abbrev pub counted : ℕ → ℕ → ℕ → ℕ → ℕ
counted old_epoch new_epoch before now = if new_epoch == old_epoch then before + now else now

-- the invariant of a switch after `works` clock events and frames, `carried` of them with a body in its epoch
pub record IsSoundBy (works carried : ℕ) (switch : SwitchOf) : Type 0 where
  -- its card has its life, and its number is 1 to 126
  pub me : switch.card.me ≡ switch.life
  pub least : 1 ≤ switch.number
  pub most : switch.number ≤ MOST_NUMBER
  -- the links of its card are its good links, at most one at each port; before it joins an epoch it has none
  pub one_link : (port : ℕ) → length (links_at port switch.card.links) ≤ 1
  pub links : switch.spent ≡ false → switch.card.links ≡ good_links switch
  pub unjoined : switch.joined ≡ false → switch.spent ≡ false → (port : ℕ) → good_peer switch port ≡ None
  -- if a load is due, it has finished
  pub due : switch.load_due ≡ true → is_some (finish_of switch) ≡ true
  -- at most one probe has gone out per clock event, and at most eight bodies are outstanding at each port
  pub probes : (port : ℕ) → (port_of switch port).far.nonce ≤ works
  pub windows : (port : ℕ) → length (switch.sendings port).sent ≤ 8
  -- no body is held more than eight numbers ahead, and every body that was accepted or is held came in a frame
  pub near : (port number : ℕ) → last (switch.receivings port) + 8 < number
      → (switch.receivings port).held number ≡ None
  pub came : switch.joined ≡ true → length switch.log + all_held switch.receivings ≤ carried
  -- at each port, at most 1 + 4 n bodies were pushed, where n is the number of bodies that were accepted
  pub pushed : (port : ℕ) → length (switch.sendings port).pushed ≤ 1 + 4 * length switch.log

-- the invariant of a switch after `works` clock events and frames, which can all have had a body
abbrev pub IsSound : ℕ → SwitchOf → Type 0
IsSound works = IsSoundBy works works
