-- What a switch does with a frame, a clock event or a load: what it becomes, and the frames that go out, in
-- order.

use Rattle.std.specs.Prelude.{ℕ, suc, zero, ◌-◌, ◌==◌, ◌&&◌, ◌||◌, nat_lt, not, List, [], ◌∷◌, ◌++◌, map, slice_index_or, Option, Some, None, is_some, Bool, true, false, if◌then◌else◌}
use Rattle.std.specs.List.{flat_map}
use Rattle.std.specs.Ordering.{is_eq}
use Rattle.std.specs.Cmp.Lexicographic.{slice_cmp}
use Rattle.an_base.specs.Values.{EndId, PeerAt}
use Rattle.an_base.specs.Order.{link_cmp}
use Rattle.an_base.specs.Frames.{CarryOf}
use Rattle.an_base.specs.declared.body.Body.{Body}
use Rattle.an_base.specs.declared.frame.Frame.{Frame}
use Rattle.an_base.specs.declared.frame.Frame.TheVariants.{Carry, Ack, Probe, Reply}
use Rattle.an_base.specs.declared.port.Sample.{Sample}
use Rattle.an_base.specs.declared.port.Sample.TheVariants as sample
use Rattle.connectivity.specs.Connections.{is_same_end}
use Rattle.port_monitor.specs.Ports.{probe_of, reply_to}
use Rattle.port_monitor.specs.Histories.{Sampled, Replied, with_happening, externals}
use Rattle.ordered_link.specs.Sending.{Sending, unused, push, sent_by_push, acknowledge, sent_by_ack, next_to_send, send_again, send_next, is_outstanding, due}
use Rattle.ordered_link.specs.Receiving.{untouched, last, verdict, received, accepted_by, is_acknowledged}
use Rattle.ordered_link.specs.Session.{Numbered, put_out}
use Rattle.epoch_core.specs.Log.{CardOf, OnPort, Log}
use Rattle.epoch_core.specs.Epoch.{finish, adds}
use Rattle.switch_core.specs.Switch.{SwitchOf, at_port, card_of, end_at, port_of, good_links, counts}

-- a frame, and the port on which it goes out
pub record Sent : Type 0 where
  pub port : ℕ
  pub frame : Frame

-- what a switch becomes, and the frames that go out, in order
pub record Step : Type 0 where
  pub switch : SwitchOf
  pub frames : List Sent

-- the step without any effect
abbrev pub still : SwitchOf → Step
still switch = record { switch = switch; frames = [] }

-- one step after another
abbrev pub after : Step → Step → Step
after first next = record { switch = next.switch; frames = first.frames ++ next.frames }

-- the other end of the link at a port, among the links with which the epoch was joined
abbrev pub peer_among : List PeerAt → ℕ → Option EndId
peer_among [] port = None
peer_among (link ∷ links) port = if link.port == port then Some link.peer else peer_among links port

-- a body of the session at `port`, on its way to `peer`
abbrev pub carried_to : SwitchOf → ℕ → EndId → Numbered → Sent
carried_to switch port peer item =
    record {
      port = port;
      frame = Carry (record {
        epoch = switch.epoch;
        from = end_at switch port;
        to = peer;
        number = item.number;
        body = item.body;
      });
    }

-- the step that makes `sending` the sender at `port`, and sends these bodies to its peer
abbrev pub sends_on : ℕ → EndId → Sending → List Numbered → SwitchOf → Step
sends_on port peer sending items switch =
    record {
      switch = record switch { sendings = at_port port sending switch.sendings };
      frames = map (carried_to switch port peer) items;
    }

-- the step that pushes a body in the session of its port, and sends it at once if the window permits; a port without
-- a link has no session
abbrev pub pushed_to : Option EndId → OnPort → SwitchOf → Step
pushed_to None item switch = still switch
pushed_to (Some peer) item switch =
    sends_on item.port peer (push item.body switch.tick (switch.sendings item.port))
    (put_out (push item.body switch.tick (switch.sendings item.port))
    (sent_by_push item.body (switch.sendings item.port)))
    switch

-- the step that pushes a body in the session of its port
abbrev pub pushed : OnPort → SwitchOf → Step
pushed item switch = pushed_to (peer_among switch.card.links item.port) item switch

-- the step that pushes bodies, in order
abbrev pub all_pushed : List OnPort → SwitchOf → Step
all_pushed [] switch = still switch
all_pushed (item ∷ items) switch = after (pushed item switch) (all_pushed items (pushed item switch).switch)

-- the switch that has joined an epoch with its current good links: the sessions restart, and a load that was due is
-- due no more; a life without links finishes at once, which makes a load due
abbrev pub begun : ℕ → SwitchOf → SwitchOf
begun epoch switch =
    record switch {
      epoch = epoch;
      joined = true;
      card = card_of switch.life switch.number (good_links switch);
      log = [];
      sendings = λ port. unused;
      receivings = λ port. untouched;
      load_due = is_some (finish (card_of switch.life switch.number (good_links switch)) []);
    }

-- the step that joins an epoch, and pushes what the life adds before any body is accepted
abbrev pub joins : ℕ → SwitchOf → Step
joins epoch switch = all_pushed (adds (begun epoch switch).card []) (begun epoch switch)

-- the acknowledgement of all bodies up to `number`, on its way to `peer`
abbrev pub ack_to : SwitchOf → ℕ → EndId → ℕ → Sent
ack_to switch port peer number =
    record { port = port; frame = Ack switch.epoch (end_at switch port) peer number }

-- the log after the bodies are accepted on `port`, one after another
abbrev pub log_with : ℕ → List Body → Log → Log
log_with port [] log = log
log_with port (body ∷ bodies) log = log_with port bodies (record { port = port; body = body } ∷ log)

-- the bodies that are added when the bodies are accepted on `port`, one after another
abbrev pub all_added : CardOf → ℕ → List Body → Log → List OnPort
all_added card port [] log = []
all_added card port (body ∷ bodies) log =
    adds card (record { port = port; body = body } ∷ log)
    ++ all_added card port bodies (record { port = port; body = body } ∷ log)

-- whether the life has finished by what was accepted between two logs
abbrev pub finishes_by : CardOf → Log → Log → Bool
finishes_by card before log = not (is_some (finish card before)) && is_some (finish card log)

-- the switch after it has accepted the bodies on `port`; if the life finishes by them, a load is due
abbrev pub accepts : ℕ → List Body → SwitchOf → SwitchOf
accepts port bodies switch =
    record switch {
      log = log_with port bodies switch.log;
      load_due = switch.load_due || finishes_by switch.card switch.log (log_with port bodies switch.log);
    }

-- the switch after body `number` of the current epoch came on `port`
abbrev pub receives : ℕ → ℕ → Body → SwitchOf → SwitchOf
receives port number body switch =
    accepts port (accepted_by number body (switch.receivings port))
    (record switch {
      receivings = at_port port (received number body (switch.receivings port)) switch.receivings;
    })

-- the acknowledgement of all bodies accepted so far, including those accepted when body `number` came; none if that
-- is too far ahead
abbrev pub acks : ℕ → EndId → ℕ → Body → SwitchOf → List Sent
acks port peer number body switch =
    if is_acknowledged (verdict number body (switch.receivings port))
    then ack_to switch port peer (last (received number body (switch.receivings port))) ∷ []
    else []

-- the step for body `number` of the current epoch: the acknowledgement goes out, and then what the accepted bodies add
abbrev pub answers_body : ℕ → EndId → ℕ → Body → SwitchOf → Step
answers_body port peer number body switch =
    after (record { switch = switch; frames = acks port peer number body switch })
    (all_pushed (all_added switch.card port (accepted_by number body (switch.receivings port)) switch.log)
    (receives port number body switch))

-- the step for a body: if its epoch is higher the switch joins that epoch first, and if it is lower nothing happens
abbrev pub on_carry : ℕ → CarryOf → SwitchOf → Step
on_carry port carry switch =
    if nat_lt switch.epoch carry.epoch
    then after (joins carry.epoch switch)
    (answers_body port carry.from carry.number carry.body (joins carry.epoch switch).switch)
    else if carry.epoch == switch.epoch then answers_body port carry.from carry.number carry.body switch
    else still switch

-- the step that sends the first waiting body of a session, if the window permits
abbrev pub sends_next : ℕ → EndId → SwitchOf → Step
sends_next port peer switch =
    sends_on port peer (send_next switch.tick (switch.sendings port))
    (put_out (send_next switch.tick (switch.sendings port)) (next_to_send (switch.sendings port))) switch

-- the step that sends waiting bodies of a session, up to a given number, as far as the window permits
abbrev pub fills : ℕ → ℕ → EndId → SwitchOf → Step
fills zero port peer switch = still switch
fills (suc most) port peer switch =
    after (sends_next port peer switch) (fills most port peer (sends_next port peer switch).switch)

-- the step that acknowledges the bodies up to `number`, and sends the first waiting one
abbrev pub acknowledges : ℕ → EndId → ℕ → SwitchOf → Step
acknowledges port peer number switch =
    sends_on port peer (acknowledge number switch.tick (switch.sendings port))
    (put_out (acknowledge number switch.tick (switch.sendings port))
    (sent_by_ack number (switch.sendings port)))
    switch

-- the step for an acknowledgement: waiting bodies go out until the window is full; if it is of another epoch, or body
-- `number` is not outstanding, nothing happens
abbrev pub on_ack : ℕ → EndId → ℕ → ℕ → SwitchOf → Step
on_ack port peer epoch number switch =
    if epoch == switch.epoch && is_outstanding number (switch.sendings port)
    then after (acknowledges port peer number switch)
    (fills 7 port peer (acknowledges port peer number switch).switch)
    else still switch

-- the answer to a probe, if there is one, on its way out on `port`
abbrev pub answer_out : ℕ → Option Frame → List Sent
answer_out port None = []
answer_out port (Some frame) = record { port = port; frame = frame } ∷ []

-- the step for a frame that comes on `port`
abbrev pub framed : ℕ → Frame → SwitchOf → Step
framed port (Carry carry) switch =
    if counts switch port carry.from carry.to then on_carry port carry switch else still switch
framed port (Ack epoch from to number) switch =
    if counts switch port from to then on_ack port from epoch number switch else still switch
framed port (Probe from nonce) switch =
    record {
      switch = switch;
      frames = answer_out port (reply_to (end_at switch port) from nonce (port_of switch port));
    }
framed port (Reply from to nonce) switch =
    if is_same_end to (end_at switch port)
    then still (record switch { ports = with_happening port (Replied from nonce) switch.ports })
    else still switch

-- the sample of `port`
abbrev pub sample_at : List Sample → ℕ → Sample
sample_at samples port = slice_index_or samples (port - 1) sample.Down

-- the switch after its ports were sampled at tick `now`
abbrev pub sampled_by : ℕ → List Sample → SwitchOf → SwitchOf
sampled_by now samples switch =
    record switch { tick = now; ports = λ port. Sampled (sample_at samples port) ∷ switch.ports port }

-- probe `nonce` of `port`, if there is one
abbrev pub probe_out : SwitchOf → ℕ → Option ℕ → List Sent
probe_out switch port None = []
probe_out switch port (Some nonce) = record { port = port; frame = Probe (end_at switch port) nonce } ∷ []

-- the last probe of `port`, if the port probes its far end
abbrev pub probes_at : SwitchOf → ℕ → List Sent
probes_at switch port = probe_out switch port (probe_of (port_of switch port))

-- the last probes of all ports, in ascending order of port
abbrev pub probes : SwitchOf → List Sent
probes switch = flat_map (probes_at switch) externals

-- the step that sends outstanding body `number` again on a link
abbrev pub sends_again : PeerAt → ℕ → SwitchOf → Step
sends_again link number switch =
    sends_on link.port link.peer (send_again number switch.tick (switch.sendings link.port))
    (put_out (switch.sendings link.port) (Some number)) switch

-- the step that sends these outstanding bodies again on a link
abbrev pub all_again : PeerAt → List ℕ → SwitchOf → Step
all_again link [] switch = still switch
all_again link (number ∷ numbers) switch =
    after (sends_again link number switch) (all_again link numbers (sends_again link number switch).switch)

-- the step that sends again, on a link, the bodies that are due, in ascending order of number
abbrev pub resends_on : PeerAt → SwitchOf → Step
resends_on link switch = all_again link (due switch.tick (switch.sendings link.port)) switch

-- the step that sends again, on each of these links, the bodies that are due
abbrev pub all_resent : List PeerAt → SwitchOf → Step
all_resent [] switch = still switch
all_resent (link ∷ links) switch =
    after (resends_on link switch) (all_resent links (resends_on link switch).switch)

-- whether two lists of links are equal
abbrev pub are_same_links : List PeerAt → List PeerAt → Bool
are_same_links links others = is_eq (slice_cmp link_cmp links others)

-- whether a change is due at a clock event: the life has not joined its epoch, or the good links changed
abbrev pub is_change_due : SwitchOf → SwitchOf → Bool
is_change_due before switch =
    not before.joined || not (are_same_links (good_links before) (good_links switch))

-- the last epoch, 2^64 - 1
abbrev pub last_epoch : ℕ
last_epoch = 18446744073709551615

-- whether a change is due for which no epoch is left
abbrev pub is_spent_by : SwitchOf → SwitchOf → Bool
is_spent_by before switch = is_change_due before switch && (switch.epoch == last_epoch)

-- the step after the probes: the switch joins the next epoch, if a change is due, or sends again what is due
abbrev pub goes_on : SwitchOf → SwitchOf → Step
goes_on before switch =
    if is_change_due before switch
    then joins (suc switch.epoch) switch
    else all_resent switch.card.links switch

-- the step from `before` for a clock event after which the ports are those of `switch`; if no epoch is left for a
-- change that is due, no frame goes out, and the epochs are spent
abbrev pub clocked_to : SwitchOf → SwitchOf → Step
clocked_to before switch =
    if is_spent_by before switch then still (record switch { spent = true })
    else after (record { switch = switch; frames = probes switch }) (goes_on before switch)

-- the step for a clock event at tick `now`, with the hardware's samples of the external ports, in ascending order
abbrev pub clocked : ℕ → List Sample → SwitchOf → Step
clocked now samples switch = clocked_to switch (sampled_by now samples switch)

-- the switch after it has loaded the table for its topology; it proposes the table's number from then on
abbrev pub loaded : ℕ → SwitchOf → SwitchOf
loaded number switch = record switch { number = number; load_due = false }
