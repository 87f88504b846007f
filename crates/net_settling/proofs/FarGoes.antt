-- The switch at the far end handles what it has in hand: the direction into it goes on.

use Rattle.std.specs.Prelude.{◌≡◌, ◌⊎◌, ◌==◌, ◌&&◌, ◌<◌, ◌≤◌, ℕ, nat_lt, not, List, cond, Option, Some, None, Bool, true, false, refl}
use Rattle.std.specs.Option.{option_map_or}
use Rattle.std.proofs.Common.{true≢false, sym, ◌∙◌, ap, subst, inl, inr, arith}
use Rattle.std.proofs.lemmas.Bool.{false≢true, cases_lt, cases_eq, eqb-true, le-ltb, and_parts}
use Rattle.an_base.specs.Values.{EndId}
use Rattle.an_base.specs.Frames.{CarryOf}
use Rattle.an_base.specs.declared.event.Event.{Event}
use Rattle.an_base.specs.declared.event.Event.TheVariants.{Handle}
use Rattle.an_base.specs.declared.frame.Frame.{Frame}
use Rattle.an_base.specs.declared.frame.Frame.TheVariants.{Carry, Ack, Probe, Reply}
use Rattle.an_base.specs.declared.port.Sample.{Sample}
use Rattle.connectivity.specs.Connections.{is_end, is_same_end}
use Rattle.connectivity.proofs.EndLemmas.{is_end_is, same_end_is}
use Rattle.net_script.specs.Scripts.{ScriptOf}
use Rattle.frame_codec.specs.Reading.{frame_of}
use Rattle.frame_codec.specs.Spelling.{spelling}
use Rattle.frame_codec.proofs.Decoding.{frame_again}
use Rattle.link_settling.proofs.Basics.{same_end}
use Rattle.ordered_link.specs.Sending.{unused}
use Rattle.ordered_link.specs.Receiving.{Receiving, untouched, is_acknowledged, received, verdict}
use Rattle.ordered_link.specs.Receiving as receiving
use Rattle.link_settling.specs.Directions.{Direction, Stay, passes, drops, ignores, far_joins, receives}
use Rattle.topo_report.proofs.Members.{In}
use Rattle.epoch_game.proofs.Basics.{none_some, some_same}
use Rattle.switch_core.specs.Switch.{SwitchOf, counts, end_at}
use Rattle.switch_core.specs.Steps.{Sent, Step, clocked, framed, is_spent_by, peer_among, sampled_by, still}
use Rattle.switch_core.proofs.LinkLemmas.{counted}
use Rattle.switch_core.proofs.SessionLemmas.{at_other_port, at_the_port}
use Rattle.net_state.proofs.LawfulLemmas.{lawful_is}
use Rattle.net_state.proofs.ReadyLemmas.{handle_ready}
use Rattle.net_state.specs.declared.hand.Hand.{Hand}
use Rattle.net_state.specs.declared.hand.Hand.TheVariants as hand
use Rattle.net_state.specs.Fabric.{station, held_bytes, is_empty}
use Rattle.net_world.specs.World.{WorldOf, effect, handled, handles_bytes, world_after}
use Rattle.net_world.specs.Sound.{HandFits}
use Rattle.net_game.proofs.EachLemmas.{each_in}
use Rattle.net_game.proofs.RangedFrames.{IsOut}
use Rattle.net_settling.specs.Views.{LinkOf, turned, here, there, end_here, end_there, is_session, is_such, is_some_under_way, is_carry, is_ack, is_received_here, way}
use Rattle.net_settling.proofs.AckFrames.{ack_for, is_an_ack}
use Rattle.net_settling.proofs.FarSteps.{IsFarJoin, IsFarStep, above_ack, far_above, far_ack, far_clock, far_present, far_probe, far_reply, far_still, present_ack}
use Rattle.net_settling.proofs.Late.{IsAnswer, answer_of, carry_counts, carry_up, counted_link}
use Rattle.net_settling.proofs.Linked.{link_turned, up_turned}
use Rattle.net_settling.proofs.Passing.{sent_comes}
use Rattle.net_settling.proofs.SenderGoes.{behind_none, tick_handle}
use Rattle.net_settling.proofs.SenderHandles.{ack_itself, ack_number, hand_fits, held_under, spent_then, works_after}
use Rattle.net_settling.proofs.SenderSteps.{BodyKind, above, body_kind, lower_is, nothing, present, uncounted_is}
use Rattle.net_settling.proofs.SenderWays.{ack_to, carry_test, carry_to, late_now}
use Rattle.net_settling.proofs.Sents.{handled_frames}
use Rattle.net_settling.proofs.Told.{held_joined, joined_low}
use Rattle.net_settling.proofs.Under.{such_frame, way_such}
use Rattle.net_settling.proofs.Viewed.{handled_clock, handled_elsewhere, handled_frame, handled_switch, keeps_such, other_switch, same_handle, same_port, such_is}
use Rattle.net_settling.proofs.WayParts.{GoesOn, IsEvent, SentSuch, base_after, directed, one_step, only_from, such_from}

-- what is handled is no body of the present session, and no acknowledgement of it goes out
abbrev NoneCome : WorldOf → LinkOf → Type 0
NoneCome w l = (n : ℕ) → (station w.fabric l.far_place).hand ≡ hand.Frame l.far_port → is_such (is_carry (here w l).epoch (end_here w l) (end_there w l) n) (held_bytes w.fabric l.far_place) ≡ true → ⊥

abbrev NoneGone : WorldOf → LinkOf → Type 0
NoneGone w l = (n : ℕ) (x : Sent) → In x (handled l.far_place w).frames → x.port ≡ l.far_port → is_ack (here w l).epoch (end_there w l) (end_here w l) n x.frame ≡ true → ⊥

pub record IsFarEnd (w v : WorldOf) (l : LinkOf) : Type 0 where
  pub near : here v l ≡ here w l
  pub life : (there v l).life ≡ (there w l).life
  pub far : there v l ≡ (handled l.far_place w).switch

far_ends : (script : ScriptOf) (h : List Event) (l : LinkOf) → IsEvent script h (Handle l.far_place) l → (handled l.far_place (world_after script h)).switch.life ≡ (there (world_after script h) l).life → IsFarEnd (world_after script h) (effect (Handle l.far_place) (world_after script h)) l
far_ends script h l k life =
    let w = world_after script h in
    record { near = other_switch l.far_place l.place w k.apart; life = ap (λ (u : SwitchOf). u.life) (handled_switch l.far_place w) ∙ life; far = handled_switch l.far_place w }

carry_is : (w v : WorldOf) (l : LinkOf) (n : ℕ) (x : WorldOf) → IsFarEnd w v l → is_some_under_way (is_carry (here v l).epoch (end_here v l) (end_there v l) n) x l ≡ is_some_under_way (is_carry (here w l).epoch (end_here w l) (end_there w l) n) x l
carry_is w v l n x k = λ i. is_some_under_way (is_carry (k.near i).epoch (end_at (k.near i) l.port) (record { life = k.life i; port = l.far_port }) n) x l

ack_is : (w v : WorldOf) (l : LinkOf) (n : ℕ) (x : WorldOf) → IsFarEnd w v l → is_some_under_way (is_ack (here v l).epoch (end_there v l) (end_here v l) n) x (turned l) ≡ is_some_under_way (is_ack (here w l).epoch (end_there w l) (end_here w l) n) x (turned l)
ack_is w v l n x k = λ i. is_some_under_way (is_ack (k.near i).epoch (record { life = k.life i; port = l.far_port }) (end_at (k.near i) l.port) n) x (turned l)

far_parts : (script : ScriptOf) (h : List Event) (l : LinkOf) → IsEvent script h (Handle l.far_place) l → IsFarEnd (world_after script h) (effect (Handle l.far_place) (world_after script h)) l → (far : ℕ) (r : Receiving) → (there (effect (Handle l.far_place) (world_after script h)) l).epoch ≡ far → (way (effect (Handle l.far_place) (world_after script h)) l).receiving ≡ r
    → way (effect (Handle l.far_place) (world_after script h)) l ≡ record (way (world_after script h) l) { far_epoch = far; receiving = r; carry = (way (effect (Handle l.far_place) (world_after script h)) l).carry; ack = (way (effect (Handle l.far_place) (world_after script h)) l).ack }
far_parts script h l k ends far r epoch came =
    let w = world_after script h in
    let v = effect (Handle l.far_place) w in
    let d = way w l in
    directed (way v l) d.now d.late d.epoch far d.sending r (tick_handle l.far_place w) (ap (λ b. cond b 3 4) (handled_elsewhere w l.far_place l.place k.apart)) (ap (λ (u : SwitchOf). u.epoch) ends.near) epoch
    (λ i. cond (is_end (peer_among (ends.near i).card.links l.port) (record { life = ends.life i; port = l.far_port })) ((ends.near i).sendings l.port) unused) came

-- what stays under way
carry_back : (script : ScriptOf) (h : List Event) (l : LinkOf) → IsEvent script h (Handle l.far_place) l → IsFarEnd (world_after script h) (effect (Handle l.far_place) (world_after script h)) l → (n : ℕ) → (way (effect (Handle l.far_place) (world_after script h)) l).carry n ≡ true → (way (world_after script h) l).carry n ≡ true
carry_back script h l k ends n found =
    let w = world_after script h in
    let v = effect (Handle l.far_place) w in
    only_from (is_carry (here w l).epoch (end_here w l) (end_there w l) n) script h (Handle l.far_place) l k.kept k.link k.lawful (λ e. k.apart (sym (same_handle l.far_place l.place e))) (sym (carry_is w v l n v ends) ∙ found)

carry_kept : (script : ScriptOf) (h : List Event) (l : LinkOf) → IsEvent script h (Handle l.far_place) l → IsFarEnd (world_after script h) (effect (Handle l.far_place) (world_after script h)) l → (n : ℕ) → (way (world_after script h) l).carry n ≡ true
    → ((way (effect (Handle l.far_place) (world_after script h)) l).carry n ≡ true) ⊎ (((station (world_after script h).fabric l.far_place).hand ≡ hand.Frame l.far_port) × (is_such (is_carry (here (world_after script h) l).epoch (end_here (world_after script h) l) (end_there (world_after script h) l) n) (held_bytes (world_after script h).fabric l.far_place) ≡ true))
carry_kept script h l k ends n found =
    let w = world_after script h in
    let v = effect (Handle l.far_place) w in
    elim (keeps_such (is_carry (here w l).epoch (end_here w l) (end_there w l) n) script h (Handle l.far_place) l k.kept k.link k.lawful refl (λ e. cc) found)
    [ inl stays ↦ inl (carry_is w v l n v ends ∙ stays) | inr held ↦ inr (held.1, held.2) ]

carries_stay : (script : ScriptOf) (h : List Event) (l : LinkOf) → IsEvent script h (Handle l.far_place) l → IsFarEnd (world_after script h) (effect (Handle l.far_place) (world_after script h)) l → NoneCome (world_after script h) l → Stay (way (world_after script h) l).carry (way (effect (Handle l.far_place) (world_after script h)) l).carry
carries_stay script h l k ends none = record {
  no_others = λ n found. carry_back script h l k ends n found;
  stay = λ n found. elim (carry_kept script h l k ends n found) [ inl stays ↦ stays | inr held ↦ absurd (none n held.0 held.1) ];
}

ack_kept : (script : ScriptOf) (h : List Event) (l : LinkOf) → IsEvent script h (Handle l.far_place) l → IsFarEnd (world_after script h) (effect (Handle l.far_place) (world_after script h)) l → (n : ℕ) → (way (world_after script h) l).ack n ≡ true → (way (effect (Handle l.far_place) (world_after script h)) l).ack n ≡ true
ack_kept script h l k ends n found =
    let w = world_after script h in
    let v = effect (Handle l.far_place) w in
    elim (keeps_such (is_ack (here w l).epoch (end_there w l) (end_here w l) n) script h (Handle l.far_place) (turned l) k.kept (link_turned script l k.link) k.lawful refl (λ e. cc) found)
    [ inl stays ↦ ack_is w v l n v ends ∙ stays | inr held ↦ absurd (k.apart (sym (same_handle l.far_place l.place held.0))) ]

ack_from : (script : ScriptOf) (h : List Event) (l : LinkOf) → IsEvent script h (Handle l.far_place) l → IsFarEnd (world_after script h) (effect (Handle l.far_place) (world_after script h)) l → (n : ℕ) → (way (effect (Handle l.far_place) (world_after script h)) l).ack n ≡ true
    → ((way (world_after script h) l).ack n ≡ true) ⊎ SentSuch (is_ack (here (world_after script h) l).epoch (end_there (world_after script h) l) (end_here (world_after script h) l) n) (world_after script h) (Handle l.far_place) (turned l)
ack_from script h l k ends n found =
    let w = world_after script h in
    let v = effect (Handle l.far_place) w in
    such_from (is_ack (here w l).epoch (end_there w l) (end_here w l) n) script h (Handle l.far_place) (turned l) k.kept (link_turned script l k.link) k.lawful (sym (ack_is w v l n v ends) ∙ found)

acks_stay : (script : ScriptOf) (h : List Event) (l : LinkOf) → IsEvent script h (Handle l.far_place) l → IsFarEnd (world_after script h) (effect (Handle l.far_place) (world_after script h)) l → NoneGone (world_after script h) l → Stay (way (world_after script h) l).ack (way (effect (Handle l.far_place) (world_after script h)) l).ack
acks_stay script h l k ends none = record {
  no_others = λ n found. elim (ack_from script h l k ends n found) [ inl old ↦ old | inr new ↦ absurd (none n new.sent new.among new.port new.found) ];
  stay = λ n found. ack_kept script h l k ends n found;
}

-- nothing that counts happens
abbrev WayAfter : ScriptOf → List Event → LinkOf → Direction
WayAfter script h l = way (effect (Handle l.far_place) (world_after script h)) l

far_passes : (script : ScriptOf) (h : List Event) (l : LinkOf) → IsEvent script h (Handle l.far_place) l → IsFarEnd (world_after script h) (effect (Handle l.far_place) (world_after script h)) l
    → (WayAfter script h l).far_epoch ≡ (way (world_after script h) l).far_epoch → (WayAfter script h l).receiving ≡ (way (world_after script h) l).receiving → NoneCome (world_after script h) l → NoneGone (world_after script h) l → GoesOn script h (Handle l.far_place) l
far_passes script h l k ends epoch came none_come none_gone =
    let d = way (world_after script h) l in
    one_step script h (Handle l.far_place) l (passes (record {
      is = far_parts script h l k ends d.far_epoch d.receiving epoch came;
      carries = carries_stay script h l k ends none_come;
      acks = acks_stay script h l k ends none_gone;
    }))

joins_far : (script : ScriptOf) (h : List Event) (l : LinkOf) → IsEvent script h (Handle l.far_place) l → IsFarEnd (world_after script h) (effect (Handle l.far_place) (world_after script h)) l
    → (way (world_after script h) l).far_epoch < (WayAfter script h l).far_epoch → (WayAfter script h l).receiving ≡ untouched → NoneCome (world_after script h) l → NoneGone (world_after script h) l → GoesOn script h (Handle l.far_place) l
joins_far script h l k ends greater came none_come none_gone =
    one_step script h (Handle l.far_place) l (far_joins (record {
      greater = greater;
      is = far_parts script h l k ends (WayAfter script h l).far_epoch untouched refl came;
      carries = carries_stay script h l k ends none_come;
      ack = (acks_stay script h l k ends none_gone).no_others;
    }))

-- what was received, by its parts
received_by : (s : Bool) (a b : ℕ) (x y : Receiving) → x ≡ y → cond (s && not (nat_lt a b)) x untouched ≡ cond (s && not (nat_lt a b)) y untouched
received_by s a b x y same = ap (λ r. cond (s && not (nat_lt a b)) r untouched) same

none_received : (b : Bool) → cond b untouched untouched ≡ untouched
none_received true = refl
none_received false = refl

session_then : (w v : WorldOf) (l : LinkOf) → IsFarEnd w v l → (there v l).card ≡ (there w l).card → is_session v (turned l) ≡ is_session w (turned l)
session_then w v l ends card = λ i. is_end (peer_among (card i).links l.far_port) (end_at (ends.near i) l.port)

far_step_goes : (script : ScriptOf) (h : List Event) (l : LinkOf) (st : Step) → IsEvent script h (Handle l.far_place) l → handled l.far_place (world_after script h) ≡ st → IsFarStep (there (world_after script h) l) l.far_port st → NoneCome (world_after script h) l → NoneGone (world_after script h) l → GoesOn script h (Handle l.far_place) l
far_step_goes script h l st k st_is step none_come none_gone =
    let w = world_after script h in
    let v = effect (Handle l.far_place) w in
    let ends = far_ends script h l k (ap (λ (x : Step). x.switch.life) st_is ∙ step.life) in
    let own : there v l ≡ st.switch = ends.far ∙ ap (λ (x : Step). x.switch) st_is in
    let epoch = ap (λ (u : SwitchOf). u.epoch) own ∙ step.epoch in
    let card = ap (λ (u : SwitchOf). u.card) own ∙ step.card in
    let came = ap (λ (u : SwitchOf). u.receivings l.far_port) own ∙ step.receivings in
    far_passes script h l k ends epoch (λ i. cond (session_then w v l ends card i && not (nat_lt (epoch i) (ends.near i).epoch)) (came i) untouched) none_come none_gone

far_join_goes : (script : ScriptOf) (h : List Event) (l : LinkOf) (st : Step) → IsEvent script h (Handle l.far_place) l → handled l.far_place (world_after script h) ≡ st → IsFarJoin (there (world_after script h) l) l.far_port st → NoneCome (world_after script h) l → NoneGone (world_after script h) l → GoesOn script h (Handle l.far_place) l
far_join_goes script h l st k st_is step none_come none_gone =
    let w = world_after script h in
    let v = effect (Handle l.far_place) w in
    let ends = far_ends script h l k (ap (λ (x : Step). x.switch.life) st_is ∙ step.life) in
    let own : there v l ≡ st.switch = ends.far ∙ ap (λ (x : Step). x.switch) st_is in
    let epoch = ap (λ (u : SwitchOf). u.epoch) own in
    let greater = step.greater in
    let now : (there w l).epoch < (there v l).epoch = omega (arith, epoch, greater) in
    joins_far script h l k ends now
    (ap (λ r. cond (is_received_here v l) r untouched) (ap (λ (u : SwitchOf). u.receivings l.far_port) own ∙ step.receivings) ∙ none_received (is_received_here v l)) none_come none_gone

carry_same : (c f : CarryOf) → ◌≡◌ {A = Frame} (Carry c) (Carry f) → c ≡ f
carry_same c f e = cc

carry_number : (epoch n : ℕ) (from to : EndId) (f : CarryOf) → is_carry epoch from to n (Carry f) ≡ true → f.number ≡ n
carry_number epoch n from to f found = eqb-true f.number n (and_parts ((f.epoch == epoch) && is_same_end f.from from && is_same_end f.to to) (f.number == n) found).1

-- where what was in hand is no body
no_answer : (script : ScriptOf) (h : List Event) (l : LinkOf) → ((a : Sent) → IsAnswer (world_after script h) l.far_place a → ⊥) → NoneGone (world_after script h) l
no_answer script h l none n x i port found =
    let w = world_after script h in
    none x (answer_of l.far_place w x i (ap is_an_ack (ack_to (here w l).epoch (end_there w l) (end_here w l) n x.frame found)))

other_goes : (script : ScriptOf) (h : List Event) (l : LinkOf) (r : ℕ) (f : Frame) → IsEvent script h (Handle l.far_place) l → (station (world_after script h).fabric l.far_place).hand ≡ hand.Frame r → frame_of (held_bytes (world_after script h).fabric l.far_place) ≡ Some f → handled l.far_place (world_after script h) ≡ framed r f (there (world_after script h) l)
    → IsFarStep (there (world_after script h) l) l.far_port (framed r f (there (world_after script h) l)) → ((c : CarryOf) → f ≡ Carry c → ⊥) → GoesOn script h (Handle l.far_place) l
other_goes script h l r f k is read st_is step no_body =
    let w = world_after script h in
    far_step_goes script h l (framed r f (there w l)) k st_is step
    (λ n at found. let c = carry_to (here w l).epoch (end_here w l) (end_there w l) n f (such_is (is_carry (here w l).epoch (end_here w l) (end_there w l) n) (held_bytes w.fabric l.far_place) f read found) in no_body c.carry c.frame_is)
    (no_answer script h l (λ x a. no_body a.body (some_same f (Carry a.body) (sym read ∙ a.read))))

-- A body that comes by the port of this link, by its parts
back_event : (script : ScriptOf) (h : List Event) (l : LinkOf) → IsEvent script h (Handle l.far_place) l → IsEvent script h (Handle l.far_place) (turned l)
back_event script h l k = record { kept = k.kept; unpaced = k.unpaced; lawful = k.lawful; works = k.works; works_on = k.works_on; link = link_turned script l k.link; apart = λ e. k.apart (sym e) }

untouched_where : (x : WorldOf) (l : LinkOf) → (is_session x (turned l) ≡ false) ⊎ ((there x l).epoch < (here x l).epoch) → (way x l).receiving ≡ untouched
untouched_where x l (inl none) = ap (λ b. cond (b && not (nat_lt (there x l).epoch (here x l).epoch)) ((there x l).receivings l.far_port) untouched) none
untouched_where x l (inr low) = behind_none (is_session x (turned l)) (there x l).epoch (here x l).epoch ((there x l).receivings l.far_port) low

-- that of the session of the present
pub record Comes (script : ScriptOf) (h : List Event) (l : LinkOf) (f : CarryOf) (r : Receiving) : Type 0 where
  pub ends : IsFarEnd (world_after script h) (effect (Handle l.far_place) (world_after script h)) l
  pub epoch : (there (effect (Handle l.far_place) (world_after script h)) l).epoch ≡ (here (world_after script h) l).epoch
  pub not_ahead : (there (world_after script h) l).epoch ≤ (here (world_after script h) l).epoch
  pub old : (way (world_after script h) l).receiving ≡ r
  pub new : (way (effect (Handle l.far_place) (world_after script h)) l).receiving ≡ received f.number f.body r
  pub answer : (x : Sent) (a : Rattle.net_settling.proofs.AckFrames.IsAckFor l.far_port f (there (world_after script h) l) x) → a.came ≡ r
  pub out : is_acknowledged (verdict f.number f.body r) ≡ true → In (ack_for l.far_port f (there (world_after script h) l) r) (handled l.far_place (world_after script h)).frames

comes_goes : (script : ScriptOf) (h : List Event) (l : LinkOf) (f : CarryOf) (r : Receiving) → IsEvent script h (Handle l.far_place) l → (station (world_after script h).fabric l.far_place).hand ≡ hand.Frame l.far_port → frame_of (held_bytes (world_after script h).fabric l.far_place) ≡ Some (Carry f)
    → f.epoch ≡ (here (world_after script h) l).epoch → f.from ≡ end_here (world_after script h) l → f.to ≡ end_there (world_after script h) l → Comes script h l f r → GoesOn script h (Handle l.far_place) l
comes_goes script h l f r k is read epoch_is from_is to_is c =
    one_step script h (Handle l.far_place) l (receives f.number f.body (record {
      there = under;
      not_ahead = c.not_ahead;
      is = far_parts script h l k c.ends (here w l).epoch (received f.number f.body (way w l).receiving) c.epoch (c.new ∙ ap (received f.number f.body) (sym c.old));
      carry = λ n found. carry_back script h l k c.ends n found;
      carry_on = λ n found. elim (carry_kept script h l k c.ends n found)
          [ inl stays ↦ inl stays | inr held ↦ inr (sym (carry_number (here w l).epoch n (end_here w l) (end_there w l) f (such_is (is_carry (here w l).epoch (end_here w l) (end_there w l) n) (held_bytes w.fabric l.far_place) (Carry f) read held.1))) ];
      put = λ late acknowledged. subst (λ x. (way v l).ack (receiving.last (received f.number f.body x)) ≡ true) (sym c.old) (put late (subst (λ x. is_acknowledged (verdict f.number f.body x) ≡ true) c.old acknowledged));
      ack = λ n found. elim (ack_from script h l k c.ends n found) [ inl old ↦ inl old | inr new ↦ inr (number n new) ];
      ack_on = λ n found. ack_kept script h l k c.ends n found;
    }))
  where
    w : WorldOf
    w = world_after script h

    v : WorldOf
    v = effect (Handle l.far_place) w

    u : SwitchOf
    u = there w l

    under : (way w l).carry f.number ≡ true
    under = held_under script h l (is_carry (here w l).epoch (end_here w l) (end_there w l) f.number) (Carry f) k.kept k.link.there.node_below is read (carry_test (here w l).epoch (end_here w l) (end_there w l) f.number f epoch_is from_is to_is refl)

    put : base_after script h (Handle l.far_place) ≤ w.fabric.tick → is_acknowledged (verdict f.number f.body r) ≡ true → (way v l).ack (receiving.last (received f.number f.body r)) ≡ true
    put late acknowledged =
        let now = late_now script h (Handle l.far_place) l k (tick_handle l.far_place w) late in
        let up = carry_up script h l (here w l).epoch f.number (end_here w l) (end_there w l) now.before k.link under in
        let x = ack_for l.far_port f u r in
        let among = c.out acknowledged in
        let comes = sent_comes script k.kept h (turned l) x (link_turned script l k.link) now.calm (up_turned script k.kept h l k.link up) among refl in
        let spelled = each_in IsOut (handled l.far_place w).frames x (handled_frames script k.kept h l.far_place k.link.there.node_below k.lawful) among in
        let m = receiving.last (received f.number f.body r) in
        ack_is w v l m v c.ends
        ∙ way_such (is_ack (here w l).epoch (end_there w l) (end_here w l) m) v (turned l) (spelling x.frame) comes
        (such_frame (is_ack (here w l).epoch (end_there w l) (end_here w l) m) (spelling x.frame) x.frame (frame_again x.frame spelled.frame_is)
        ((λ i. is_ack (here w l).epoch (end_there w l) (end_here w l) m (Ack (epoch_is i) (end_there w l) (from_is i) m)) ∙ ack_itself (here w l).epoch m (end_there w l) (end_here w l)))

    number : (n : ℕ) → SentSuch (is_ack (here w l).epoch (end_there w l) (end_here w l) n) w (Handle l.far_place) (turned l) → n ≡ receiving.last (received f.number f.body (way w l).receiving)
    number n new =
        let a = answer_of l.far_place w new.sent new.among (ap is_an_ack (ack_to (here w l).epoch (end_there w l) (end_here w l) n new.sent.frame new.found)) in
        let port : a.port ≡ l.far_port = same_port (station w.fabric l.far_place).hand a.port l.far_port a.hand_is is in
        let body : a.body ≡ f = carry_same a.body f (some_same (Carry a.body) (Carry f) (sym a.read ∙ read)) in
        let ack = subst (λ (z : ℕ × CarryOf). Rattle.net_settling.proofs.AckFrames.IsAckFor z.0 z.1 u new.sent) (λ i. (port i, body i)) a.ack in
        let test = sym (ap (λ (x : Sent). is_ack (here w l).epoch (end_there w l) (end_here w l) n x.frame) ack.is) ∙ new.found in
        sym (ack_number (here w l).epoch f.epoch n (receiving.last (received f.number f.body ack.came)) (end_there w l) (end_here w l) (end_at u l.far_port) f.from test)
        ∙ ap (λ x. receiving.last (received f.number f.body x)) (c.answer new.sent ack ∙ sym c.old)

body_comes : (script : ScriptOf) (h : List Event) (l : LinkOf) (f : CarryOf) → IsEvent script h (Handle l.far_place) l → (station (world_after script h).fabric l.far_place).hand ≡ hand.Frame l.far_port → frame_of (held_bytes (world_after script h).fabric l.far_place) ≡ Some (Carry f)
    → handled l.far_place (world_after script h) ≡ framed l.far_port (Carry f) (there (world_after script h) l) → f.epoch ≡ (here (world_after script h) l).epoch → f.from ≡ end_here (world_after script h) l → f.to ≡ end_there (world_after script h) l → GoesOn script h (Handle l.far_place) l
body_comes script h l f k is read st_is epoch_is from_is to_is = by_count (counts u l.far_port f.from f.to) refl
  where
    w : WorldOf
    w = world_after script h

    v : WorldOf
    v = effect (Handle l.far_place) w

    u : SwitchOf
    u = there w l

    base : ℕ
    base = base_after script h (Handle l.far_place)

    e : ℕ
    e = (here w l).epoch

    fits : HandFits w.fabric.tick (station w.fabric l.far_place).clock u (hand.Frame l.far_port)
    fits = hand_fits script h (turned l) (back_event script h l k) (hand.Frame l.far_port) is

    under : (way w l).carry f.number ≡ true
    under = held_under script h l (is_carry e (end_here w l) (end_there w l) f.number) (Carry f) k.kept k.link.there.node_below is read (carry_test e (end_here w l) (end_there w l) f.number f epoch_is from_is to_is refl)

    still_gone : handled l.far_place w ≡ still u → NoneGone w l
    still_gone stays n x i port found = absurd (subst (λ (s : Step). In x s.frames) stays i)

    still_ends : handled l.far_place w ≡ still u → IsFarEnd w v l
    still_ends stays = far_ends script h l k (ap (λ (x : Step). x.switch.life) stays)

    still_way : (stays : handled l.far_place w ≡ still u) → way v l ≡ record (way w l) { carry = (way v l).carry; ack = (way v l).ack }
    still_way stays =
        let ends = still_ends stays in
        let own : there v l ≡ u = ends.far ∙ ap (λ (x : Step). x.switch) stays in
        far_parts script h l k ends u.epoch (way w l).receiving (ap (λ (x : SwitchOf). x.epoch) own)
        (λ i. cond (is_end (peer_among (own i).card.links l.far_port) (end_at (ends.near i) l.port) && not (nat_lt (own i).epoch (ends.near i).epoch)) ((own i).receivings l.far_port) untouched)

    drop : handled l.far_place w ≡ still u → counts u l.far_port f.from f.to ≡ false → (w.fabric.tick < base) ⊎ (base ≤ w.fabric.tick) → GoesOn script h (Handle l.far_place) l
    drop stays none (inl early) =
        one_step script h (Handle l.far_place) l (drops (record {
          early = early;
          is = still_way stays;
          carry = λ n found. carry_back script h l k (still_ends stays) n found;
          ack = (acks_stay script h l k (still_ends stays) (still_gone stays)).no_others;
        }))
    drop stays none (inr late) =
        let now = late_now script h (Handle l.far_place) l k (tick_handle l.far_place w) late in
        absurd (true≢false (sym (carry_counts script h l e f.number (end_here w l) (end_there w l) now.before k.link k.apart under) ∙ (λ i. counts u l.far_port (sym from_is i) (sym to_is i)) ∙ none))

    ignore : handled l.far_place w ≡ still u → e < u.epoch → GoesOn script h (Handle l.far_place) l
    ignore stays ahead =
        one_step script h (Handle l.far_place) l (ignores (record {
          ahead = ahead;
          is = still_way stays;
          carry = λ n found. carry_back script h l k (still_ends stays) n found;
          acks = acks_stay script h l k (still_ends stays) (still_gone stays);
        }))

    -- the session of the far end is with this end
    linked : counts u l.far_port f.from f.to ≡ true → peer_among u.card.links l.far_port ≡ Some (end_here w l)
    linked is_counted = counted_link script k.kept h l.far_place l.far_port f.from f.to k.link.there.node_below k.link.there.own_port_least k.link.there.own_port_most fits.3 is_counted ∙ ap Some from_is

    received_here : (x : WorldOf) → is_session x (turned l) ≡ true → (here x l).epoch ≤ (there x l).epoch → (way x l).receiving ≡ (there x l).receivings l.far_port
    received_here x session most = (λ i. cond (session i && not (le-ltb (there x l).epoch (here x l).epoch most i)) ((there x l).receivings l.far_port) untouched)

    present_goes : counts u l.far_port f.from f.to ≡ true → f.epoch ≡ u.epoch → GoesOn script h (Handle l.far_place) l
    present_goes is_counted same =
        let p = far_present u l.far_port l.far_port f is_counted same in
        let ends = far_ends script h l k (ap (λ (x : Step). x.switch.life) st_is ∙ p.life) in
        let own : there v l ≡ (framed l.far_port (Carry f) u).switch = ends.far ∙ ap (λ (x : Step). x.switch) st_is in
        let epoch : (there v l).epoch ≡ u.epoch = ap (λ (x : SwitchOf). x.epoch) own ∙ p.epoch in
        let back : is_session w (turned l) ≡ true = ap (λ o. is_end o (end_here w l)) (linked is_counted) ∙ same_end (end_here w l) in
        let back_then : is_session v (turned l) ≡ true = session_then w v l ends (ap (λ (x : SwitchOf). x.card) own ∙ p.card) ∙ back in
        let here_epoch : (here v l).epoch ≡ e = ap (λ (x : SwitchOf). x.epoch) ends.near in
        comes_goes script h l f (u.receivings l.far_port) k is read epoch_is from_is to_is (record {
          ends = ends;
          epoch = epoch ∙ sym same ∙ epoch_is;
          not_ahead = omega (arith, same, epoch_is);
          old = received_here w back (omega (arith, same, epoch_is));
          new = received_here v back_then (omega (arith, same, epoch_is, epoch, here_epoch)) ∙ ap (λ (x : SwitchOf). x.receivings l.far_port) own ∙ p.receivings ∙ at_the_port l.far_port (received f.number f.body (u.receivings l.far_port)) u.receivings;
          answer = λ x a. a.same same;
          out = λ acknowledged. subst (λ (x : Step). In (ack_for l.far_port f u (u.receivings l.far_port)) x.frames) (sym st_is) (present_ack u l.far_port f is_counted same acknowledged);
        })

    above_goes : counts u l.far_port f.from f.to ≡ true → u.epoch < f.epoch → GoesOn script h (Handle l.far_place) l
    above_goes is_counted greater =
        let a = far_above u l.far_port l.far_port f k.link.there.own_port_least k.link.there.own_port_most is_counted greater in
        let ends = far_ends script h l k (ap (λ (x : Step). x.switch.life) st_is ∙ a.life) in
        let own : there v l ≡ (framed l.far_port (Carry f) u).switch = ends.far ∙ ap (λ (x : Step). x.switch) st_is in
        let epoch : (there v l).epoch ≡ f.epoch = ap (λ (x : SwitchOf). x.epoch) own ∙ a.epoch in
        let here_epoch : (here v l).epoch ≡ e = ap (λ (x : SwitchOf). x.epoch) ends.near in
        let back_then : is_session v (turned l) ≡ true =
        (λ i. is_end (peer_among (own i).card.links l.far_port) (end_at (ends.near i) l.port))
        ∙ ap (λ o. is_end o (end_here w l)) (a.links ∙ (counted u l.far_port f.from f.to is_counted).0 ∙ ap Some from_is) ∙ same_end (end_here w l)
        in
        comes_goes script h l f untouched k is read epoch_is from_is to_is (record {
          ends = ends;
          epoch = epoch ∙ epoch_is;
          not_ahead = omega (arith, greater, epoch_is);
          old = untouched_where w l (inr (omega (arith, greater, epoch_is)));
          new = received_here v back_then (omega (arith, epoch_is, epoch, here_epoch)) ∙ ap (λ (x : SwitchOf). x.receivings l.far_port) own ∙ a.receivings ∙ at_the_port l.far_port (received f.number f.body untouched) (λ p. untouched);
          answer = λ x ack. ack.greater greater;
          out = λ acknowledged. subst (λ (x : Step). In (ack_for l.far_port f u untouched) x.frames) (sym st_is) (above_ack u l.far_port f is_counted greater acknowledged);
        })

    by_epoch : counts u l.far_port f.from f.to ≡ true → (f.epoch < u.epoch) ⊎ (u.epoch ≤ f.epoch) → (u.epoch < f.epoch) ⊎ (f.epoch ≤ u.epoch) → GoesOn script h (Handle l.far_place) l
    by_epoch is_counted (inl low) high = ignore (st_is ∙ lower_is l.far_port f u low) (omega (arith, low, epoch_is))
    by_epoch is_counted (inr low) (inl high) = above_goes is_counted high
    by_epoch is_counted (inr low) (inr high) = present_goes is_counted (omega (arith, low, high))

    by_count : (b : Bool) → counts u l.far_port f.from f.to ≡ b → GoesOn script h (Handle l.far_place) l
    by_count false none = drop (st_is ∙ uncounted_is l.far_port f u none) none (cases_lt w.fabric.tick base)
    by_count true is_counted = by_epoch is_counted (cases_lt f.epoch u.epoch) (cases_lt u.epoch f.epoch)

-- one of another session
body_other : (script : ScriptOf) (h : List Event) (l : LinkOf) (f : CarryOf) → IsEvent script h (Handle l.far_place) l → (station (world_after script h).fabric l.far_place).hand ≡ hand.Frame l.far_port → frame_of (held_bytes (world_after script h).fabric l.far_place) ≡ Some (Carry f)
    → handled l.far_place (world_after script h) ≡ framed l.far_port (Carry f) (there (world_after script h) l) → is_carry (here (world_after script h) l).epoch (end_here (world_after script h) l) (end_there (world_after script h) l) f.number (Carry f) ≡ false → GoesOn script h (Handle l.far_place) l
body_other script h l f k is read st_is other = by (body_kind l.far_port f u)
  where
    w : WorldOf
    w = world_after script h

    v : WorldOf
    v = effect (Handle l.far_place) w

    u : SwitchOf
    u = there w l

    e : ℕ
    e = (here w l).epoch

    fits : HandFits w.fabric.tick (station w.fabric l.far_place).clock u (hand.Frame l.far_port)
    fits = hand_fits script h (turned l) (back_event script h l k) (hand.Frame l.far_port) is

    no_test : (c : CarryOf) → c ≡ f → c.epoch ≡ e → c.from ≡ end_here w l → c.to ≡ end_there w l → ⊥
    no_test c same epoch from to = true≢false (sym (carry_test e (end_here w l) (end_there w l) c.number c epoch from to refl) ∙ ap (λ (x : CarryOf). is_carry e (end_here w l) (end_there w l) x.number (Carry x)) same ∙ other)

    none_come : NoneCome w l
    none_come n at found =
        let c = carry_to e (end_here w l) (end_there w l) n (Carry f) (such_is (is_carry e (end_here w l) (end_there w l) n) (held_bytes w.fabric l.far_place) (Carry f) read found) in
        no_test c.carry (carry_same c.carry f (sym c.frame_is)) c.epoch_is c.from_is c.to_is

    none_gone : NoneGone w l
    none_gone n x i at found =
        let a = answer_of l.far_place w x i (ap is_an_ack (ack_to e (end_there w l) (end_here w l) n x.frame found)) in
        let port : a.port ≡ l.far_port = same_port (station w.fabric l.far_place).hand a.port l.far_port a.hand_is is in
        let test = sym (ap (λ (y : Sent). is_ack e (end_there w l) (end_here w l) n y.frame) a.ack.is) ∙ found in
        let m = receiving.last (received a.body.number a.body.body a.ack.came) in
        let p = and_parts ((a.body.epoch == e) && is_same_end (end_at u a.port) (end_there w l) && is_same_end a.body.from (end_here w l)) (m == n) test in
        let q = and_parts ((a.body.epoch == e) && is_same_end (end_at u a.port) (end_there w l)) (is_same_end a.body.from (end_here w l)) p.0 in
        let r = and_parts (a.body.epoch == e) (is_same_end (end_at u a.port) (end_there w l)) q.0 in
        no_test a.body (carry_same a.body f (some_same (Carry a.body) (Carry f) (sym a.read ∙ read))) (eqb-true a.body.epoch e r.0) (same_end_is a.body.from (end_here w l) q.1)
        ((counted u a.port a.body.from a.body.to a.ack.counted).1 ∙ ap (end_at u) port)

    -- the far end has no session with this end, or this end has joined a greater epoch
    apart_by : counts u l.far_port f.from f.to ≡ true → (b : Bool) → is_session w (turned l) ≡ b → (is_session w (turned l) ≡ false) ⊎ (f.epoch < e)
    apart_by is_counted false none = inl none
    apart_by is_counted true session =
        let linked = counted_link script k.kept h l.far_place l.far_port f.from f.to k.link.there.node_below k.link.there.own_port_least k.link.there.own_port_most fits.3 is_counted in
        let from_is : f.from ≡ end_here w l = some_same f.from (end_here w l) (sym linked ∙ is_end_is (peer_among u.card.links l.far_port) (end_here w l) session) in
        let to_is : f.to ≡ end_there w l = (counted u l.far_port f.from f.to is_counted).1 in
        let low = joined_low script k.kept h l.place f.epoch f.from.life k.link.here.node_below (ap (λ (z : EndId). z.life) from_is) (held_joined script k.kept h l.far_place f read) in
        elim (cases_lt f.epoch e) [ inl below ↦ inr below | inr high ↦ absurd (no_test f refl (omega (arith, low, high)) from_is to_is) ]

    by : BodyKind l.far_port f u → GoesOn script h (Handle l.far_place) l
    by (nothing stays why) = far_step_goes script h l (still u) k (st_is ∙ stays) (far_still u l.far_port) none_come none_gone
    by (present is_counted same) =
        let p = far_present u l.far_port l.far_port f is_counted same in
        let ends = far_ends script h l k (ap (λ (x : Step). x.switch.life) st_is ∙ p.life) in
        let own : there v l ≡ (framed l.far_port (Carry f) u).switch = ends.far ∙ ap (λ (x : Step). x.switch) st_is in
        let epoch : (there v l).epoch ≡ u.epoch = ap (λ (x : SwitchOf). x.epoch) own ∙ p.epoch in
        let here_epoch : (here v l).epoch ≡ e = ap (λ (x : SwitchOf). x.epoch) ends.near in
        let session = session_then w v l ends (ap (λ (x : SwitchOf). x.card) own ∙ p.card) in
        let now = apart_by is_counted (is_session w (turned l)) refl in
        let before : (way w l).receiving ≡ untouched = untouched_where w l (elim now [ inl none ↦ inl none | inr low ↦ inr (omega (arith, low, same)) ]) in
        let then : (way v l).receiving ≡ untouched = untouched_where v l (elim now [ inl none ↦ inl (session ∙ none) | inr low ↦ inr (omega (arith, low, same, epoch, here_epoch)) ]) in
        far_passes script h l k ends epoch (then ∙ sym before) none_come none_gone
    by (above is_counted greater) =
        let a = far_above u l.far_port l.far_port f k.link.there.own_port_least k.link.there.own_port_most is_counted greater in
        let ends = far_ends script h l k (ap (λ (x : Step). x.switch.life) st_is ∙ a.life) in
        let own : there v l ≡ (framed l.far_port (Carry f) u).switch = ends.far ∙ ap (λ (x : Step). x.switch) st_is in
        let epoch : (there v l).epoch ≡ f.epoch = ap (λ (x : SwitchOf). x.epoch) own ∙ a.epoch in
        let here_epoch : (here v l).epoch ≡ e = ap (λ (x : SwitchOf). x.epoch) ends.near in
        let linked = counted_link script k.kept h l.far_place l.far_port f.from f.to k.link.there.node_below k.link.there.own_port_least k.link.there.own_port_most fits.3 is_counted in
        let session : is_session v (turned l) ≡ is_session w (turned l) =
        (λ i. is_end (peer_among (own i).card.links l.far_port) (end_at (ends.near i) l.port)) ∙ ap (λ o. is_end o (end_here w l)) (a.links ∙ (counted u l.far_port f.from f.to is_counted).0 ∙ sym linked)
        in
        let now : (there w l).epoch < (there v l).epoch = omega (arith, epoch, greater) in
        joins_far script h l k ends now
        (untouched_where v l (elim (apart_by is_counted (is_session w (turned l)) refl) [ inl none ↦ inl (session ∙ none) | inr low ↦ inr (omega (arith, low, epoch, here_epoch)) ])) none_come none_gone

-- one that comes by another port
body_elsewhere : (script : ScriptOf) (h : List Event) (l : LinkOf) (r : ℕ) (f : CarryOf) → IsEvent script h (Handle l.far_place) l → (station (world_after script h).fabric l.far_place).hand ≡ hand.Frame r → (r ≡ l.far_port → ⊥)
    → handled l.far_place (world_after script h) ≡ framed r (Carry f) (there (world_after script h) l) → GoesOn script h (Handle l.far_place) l
body_elsewhere script h l r f k is other st_is = by (body_kind r f u)
  where
    w : WorldOf
    w = world_after script h

    u : SwitchOf
    u = there w l

    none_come : NoneCome w l
    none_come n at found = other (same_port (station w.fabric l.far_place).hand r l.far_port is at)

    none_gone : NoneGone w l
    none_gone n x i at found =
        let a = answer_of l.far_place w x i (ap is_an_ack (ack_to (here w l).epoch (end_there w l) (end_here w l) n x.frame found)) in
        other (same_port (station w.fabric l.far_place).hand r a.port is a.hand_is ∙ sym (ap (λ (y : Sent). y.port) a.ack.is) ∙ at)

    by : BodyKind r f u → GoesOn script h (Handle l.far_place) l
    by (nothing stays why) = far_step_goes script h l (still u) k (st_is ∙ stays) (far_still u l.far_port) none_come none_gone
    by (present is_counted same) =
        let p = far_present u l.far_port r f is_counted same in
        far_step_goes script h l (framed r (Carry f) u) k st_is (record {
          life = p.life;
          epoch = p.epoch;
          card = p.card;
          receivings = p.receivings ∙ at_other_port r l.far_port (received f.number f.body (u.receivings r)) u.receivings (λ e. other (sym e));
        }) none_come none_gone
    by (above is_counted greater) =
        let a = far_above u l.far_port r f k.link.there.own_port_least k.link.there.own_port_most is_counted greater in
        let epoch = a.epoch in
        far_join_goes script h l (framed r (Carry f) u) k st_is (record {
          life = a.life;
          greater = omega (arith, epoch, greater);
          receivings = a.receivings ∙ at_other_port r l.far_port (received f.number f.body untouched) (λ p. untouched) (λ e. other (sym e));
        }) none_come none_gone

frame_goes : (script : ScriptOf) (h : List Event) (l : LinkOf) (r : ℕ) (f : Frame) → IsEvent script h (Handle l.far_place) l → (station (world_after script h).fabric l.far_place).hand ≡ hand.Frame r → frame_of (held_bytes (world_after script h).fabric l.far_place) ≡ Some f
    → handled l.far_place (world_after script h) ≡ framed r f (there (world_after script h) l) → GoesOn script h (Handle l.far_place) l
frame_goes script h l r (Carry f) k is read st_is = by (cases_eq r l.far_port)
  where
    w : WorldOf
    w = world_after script h

    u : SwitchOf
    u = there w l

    by_test : r ≡ l.far_port → (b : Bool) → is_carry (here w l).epoch (end_here w l) (end_there w l) f.number (Carry f) ≡ b → GoesOn script h (Handle l.far_place) l
    by_test same false other = body_other script h l f k (is ∙ ap hand.Frame same) read (st_is ∙ ap (λ p. framed p (Carry f) u) same) other
    by_test same true found =
        let a = and_parts ((f.epoch == (here w l).epoch) && is_same_end f.from (end_here w l) && is_same_end f.to (end_there w l)) (f.number == f.number) found in
        let b = and_parts ((f.epoch == (here w l).epoch) && is_same_end f.from (end_here w l)) (is_same_end f.to (end_there w l)) a.0 in
        let d = and_parts (f.epoch == (here w l).epoch) (is_same_end f.from (end_here w l)) b.0 in
        body_comes script h l f k (is ∙ ap hand.Frame same) read (st_is ∙ ap (λ p. framed p (Carry f) u) same) (eqb-true f.epoch (here w l).epoch d.0) (same_end_is f.from (end_here w l) d.1) (same_end_is f.to (end_there w l) b.1)

    by : (r ≡ l.far_port) ⊎ (r ≡ l.far_port → ⊥) → GoesOn script h (Handle l.far_place) l
    by (inl same) = by_test same (is_carry (here w l).epoch (end_here w l) (end_there w l) f.number (Carry f)) refl
    by (inr other) = body_elsewhere script h l r f k is other st_is
frame_goes script h l r (Ack epoch from to n) k is read st_is = other_goes script h l r (Ack epoch from to n) k is read st_is (far_ack l.far_port r epoch n from to (there (world_after script h) l)) (λ c e. cc)
frame_goes script h l r (Probe from nonce) k is read st_is = other_goes script h l r (Probe from nonce) k is read st_is (far_probe l.far_port r nonce from (there (world_after script h) l)) (λ c e. cc)
frame_goes script h l r (Reply from to nonce) k is read st_is = other_goes script h l r (Reply from to nonce) k is read st_is (far_reply l.far_port r nonce from to (there (world_after script h) l)) (λ c e. cc)

-- So whatever the far end has in hand, the direction into it goes on.
pub there_goes : (script : ScriptOf) (h : List Event) (l : LinkOf) → IsEvent script h (Handle l.far_place) l → GoesOn script h (Handle l.far_place) l
there_goes script h l k = by (station w.fabric l.far_place).hand refl
  where
    w : WorldOf
    w = world_after script h

    u : SwitchOf
    u = there w l

    by_bytes : (r : ℕ) → (station w.fabric l.far_place).hand ≡ hand.Frame r → (o : Option Frame) → frame_of (held_bytes w.fabric l.far_place) ≡ o → GoesOn script h (Handle l.far_place) l
    by_bytes r is None read =
        far_step_goes script h l (still u) k (handled_frame l.far_place r w is ∙ ap (λ o. handles_bytes r o u) read) (far_still u l.far_port)
        (λ n at found. false≢true (sym (ap (λ o. option_map_or (is_carry (here w l).epoch (end_here w l) (end_there w l) n) o false) read) ∙ found))
        (no_answer script h l (λ x a. none_some (sym read ∙ a.read)))
    by_bytes r is (Some f) read = frame_goes script h l r f k is read (handled_frame l.far_place r w is ∙ ap (λ o. handles_bytes r o u) read)

    by_clock : (n : ℕ) (samples : List Sample) → (station w.fabric l.far_place).hand ≡ hand.Clock n samples → (b : Bool) → is_spent_by u (sampled_by n samples u) ≡ b → GoesOn script h (Handle l.far_place) l
    by_clock n samples is true spent = absurd (true≢false (sym (spent_then n samples u spent) ∙ sym (ap (λ (x : Step). x.switch.spent) (handled_clock l.far_place n samples w is)) ∙ works_after script h (turned l) (back_event script h l k)))
    by_clock n samples is false works =
        let none_come : NoneCome w l = λ m at found. let e = sym is ∙ at in cc in
        let none_gone : NoneGone w l = no_answer script h l (λ x a. let e = sym is ∙ a.hand_is in cc) in
        elim (far_clock n l.far_port samples u works) [
          | inl step ↦ far_step_goes script h l (clocked n samples u) k (handled_clock l.far_place n samples w is) step none_come none_gone
          | inr step ↦ far_join_goes script h l (clocked n samples u) k (handled_clock l.far_place n samples w is) step none_come none_gone
        ]

    by : (x : Hand) → (station w.fabric l.far_place).hand ≡ x → GoesOn script h (Handle l.far_place) l
    by hand.Empty is = absurd (true≢false (sym (handle_ready w.fabric l.far_place (lawful_is w.fabric (Handle l.far_place) k.lawful).ready).1 ∙ ap (λ (x : Hand). not (is_empty x)) is))
    by (hand.Clock n samples) is = by_clock n samples is (is_spent_by u (sampled_by n samples u)) refl
    by (hand.Frame r) is = by_bytes r is (frame_of (held_bytes w.fabric l.far_place)) refl
