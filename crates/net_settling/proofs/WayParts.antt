-- What an event does to one direction of a link, by parts: the events but for the handling of a switch at an end.

use Rattle.std.specs.Prelude.{◌≡◌, ◌⊎◌, ◌+◌, ◌==◌, ◌&&◌, ◌||◌, ℕ, suc, nat_lt, not, List, [], ◌∷◌, ◌++◌, cond, Option, Some, None, Bool, true, false, refl}
use Rattle.std.proofs.Common.{sym, ◌∙◌, ap, subst, inl, inr, arith}
use Rattle.std.proofs.lemmas.Bool.{false≢true, eqb-true}
use Rattle.an_base.specs.Values.{TopoOf}
use Rattle.an_base.specs.declared.event.Event.{Event}
use Rattle.an_base.specs.declared.event.Event.TheVariants.{Tick, Handle, Load, Restart}
use Rattle.an_base.specs.declared.frame.Frame.{Frame}
use Rattle.connectivity.specs.Connections.{is_end}
use Rattle.net_script.specs.Scripts.{ScriptOf, IsScript}
use Rattle.frame_codec.specs.Reading.{frame_of}
use Rattle.frame_codec.proofs.Decoding.{frame_again}
use Rattle.ordered_link.specs.Sending.{Sending, unused}
use Rattle.ordered_link.specs.Receiving.{Receiving, untouched}
use Rattle.link_settling.specs.Directions.{Direction, Run, Step, ticks, passes, drops, then_step}
use Rattle.topo_report.proofs.Members.{In}
use Rattle.epoch_game.proofs.Basics.{none_some, some_same}
use Rattle.switch_core.specs.Switch.{SwitchOf, finish_of}
use Rattle.switch_core.specs.Steps.{Sent, loaded, peer_among}
use Rattle.table_build.specs.Made.{number_in}
use Rattle.net_state.specs.Fabric.{is_some_spent}
use Rattle.net_state.specs.Lawful.{is_lawful}
use Rattle.net_world.specs.World.{WorldOf, effect, handled, loads_with, world_after}
use Rattle.net_game.proofs.EachLemmas.{each_in}
use Rattle.net_game.proofs.RangedFrames.{IsOut}
use Rattle.net_settling.specs.Disturbances.{is_either, is_of_script, loses}
use Rattle.net_settling.specs.Views.{LinkOf, turned, here, there, end_here, end_there, has_clocked, is_such, is_some_under_way, is_carry, is_ack, under_way_to, way}
use Rattle.net_settling.proofs.Calm.{disturbed_now, last}
use Rattle.net_settling.proofs.CutLinks.{all_clocked, none_clocked, none_under}
use Rattle.net_settling.proofs.Incoming.{IsNew, way_from}
use Rattle.net_settling.proofs.Linked.{IsLinkOf, link_turned}
use Rattle.net_settling.proofs.Senders.{at_tick}
use Rattle.net_settling.proofs.Sents.{handled_frames}
use Rattle.net_settling.proofs.Times.{ticked}
use Rattle.net_settling.proofs.Under.{frame_such, such_way, way_such}
use Rattle.net_settling.proofs.Viewed.{aside_of, handled_elsewhere, keeps_such, other_switch, same_handle}

-- An event, between two different switches, without a spent one
pub record IsEvent (script : ScriptOf) (h : List Event) (e : Event) (l : LinkOf) : Type 0 where
  pub kept : IsScript script
  pub unpaced : script.pace ≡ None
  pub lawful : is_lawful (world_after script h).fabric e ≡ true
  pub works : is_some_spent (world_after script h).fabric ≡ false
  pub works_on : is_some_spent (effect e (world_after script h)).fabric ≡ false
  pub link : IsLinkOf script l
  pub apart : l.place ≡ l.far_place → ⊥

-- the run after an event is from its base on
abbrev pub base_after : ScriptOf → List Event → Event → ℕ
base_after script h e = last script (h ++ e ∷ []) + 259

abbrev pub GoesOn : ScriptOf → List Event → Event → LinkOf → Type 0
GoesOn script h e l = (start : Direction) → Run (base_after script h e) start (way (world_after script h) l) → Run (base_after script h e) start (way (effect e (world_after script h)) l)

pub one_step : (script : ScriptOf) (h : List Event) (e : Event) (l : LinkOf) → Step (base_after script h e) (way (world_after script h) l) (way (effect e (world_after script h)) l) → GoesOn script h e l
one_step script h e l step start run = then_step start (way (world_after script h) l) (way (effect e (world_after script h)) l) run step

-- a direction by its parts
pub directed : (d : Direction) (now late epoch far : ℕ) (t : Sending) (r : Receiving) → d.now ≡ now → d.late ≡ late → d.epoch ≡ epoch → d.far_epoch ≡ far → d.sending ≡ t → d.receiving ≡ r
    → d ≡ record { now = now; late = late; epoch = epoch; far_epoch = far; sending = t; receiving = r; carry = d.carry; ack = d.ack }
directed d now late epoch far t r en el ee ef et er = λ i. record { now = en i; late = el i; epoch = ee i; far_epoch = ef i; sending = et i; receiving = er i; carry = d.carry; ack = d.ack }

-- Frames of a kind: what is under way was so, or went out; and stays so, but for the one that is handled.
pub record SentSuch (test : Frame → Bool) (w : WorldOf) (e : Event) (l : LinkOf) : Type 0 where
  pub event : e ≡ Handle l.place
  pub sent : Sent
  pub among : In sent (handled l.place w).frames
  pub port : sent.port ≡ l.port
  pub found : test sent.frame ≡ true

pub such_from : (test : Frame → Bool) (script : ScriptOf) (h : List Event) (e : Event) (l : LinkOf) → IsScript script → IsLinkOf script l → is_lawful (world_after script h).fabric e ≡ true
    → is_some_under_way test (effect e (world_after script h)) l ≡ true → (is_some_under_way test (world_after script h) l ≡ true) ⊎ SentSuch test (world_after script h) e l
such_from test script h e l kept is lawful found = by (way_from script kept h e l k.0 is lawful k.1)
  where
    w : WorldOf
    w = world_after script h

    k : (b : List ℕ) × In b (under_way_to (effect e w).fabric l.far_place l.far_port) × (is_such test b ≡ true)
    k = such_way test (effect e w) l found

    new : IsNew w e l k.0 → SentSuch test w e l
    new (inl none) = let f = frame_such test k.0 k.2 in absurd (none_some (sym none ∙ f.1))
    new (inr out) =
        let f = frame_such test k.0 k.2 in
        let lawful_here : is_lawful w.fabric (Handle l.place) ≡ true = subst (λ x. is_lawful w.fabric x ≡ true) out.event lawful in
        let is_out = each_in IsOut (handled l.place w).frames out.sent (handled_frames script kept h l.place is.here.node_below lawful_here) out.among in
        let same : out.sent.frame ≡ f.0 = some_same out.sent.frame f.0 (sym (frame_again out.sent.frame is_out.frame_is) ∙ ap frame_of (sym out.bytes) ∙ f.1) in
        record { event = out.event; sent = out.sent; among = out.among; port = out.port; found = ap test same ∙ f.2 }

    by : In k.0 (under_way_to w.fabric l.far_place l.far_port) ⊎ IsNew w e l k.0 → (is_some_under_way test w l ≡ true) ⊎ SentSuch test w e l
    by (inl i) = inl (way_such test w l k.0 i k.2)
    by (inr n) = inr (new n)

pub only_from : (test : Frame → Bool) (script : ScriptOf) (h : List Event) (e : Event) (l : LinkOf) → IsScript script → IsLinkOf script l → is_lawful (world_after script h).fabric e ≡ true → (e ≡ Handle l.place → ⊥)
    → is_some_under_way test (effect e (world_after script h)) l ≡ true → is_some_under_way test (world_after script h) l ≡ true
only_from test script h e l kept is lawful other found = elim (such_from test script h e l kept is lawful found) [ inl old ↦ old | inr new ↦ absurd (other new.event) ]

pub on_still : (test : Frame → Bool) (script : ScriptOf) (h : List Event) (e : Event) (l : LinkOf) → IsScript script → IsLinkOf script l → is_lawful (world_after script h).fabric e ≡ true → is_of_script e ≡ false → (e ≡ Tick → ⊥) → (e ≡ Handle l.far_place → ⊥)
    → is_some_under_way test (world_after script h) l ≡ true → is_some_under_way test (effect e (world_after script h)) l ≡ true
on_still test script h e l kept is lawful quiet no_tick other found = elim (keeps_such test script h e l kept is lawful quiet no_tick found) [ inl stays ↦ stays | inr held ↦ absurd (other held.0) ]

-- What an event leaves of the sessions of a switch
pub record IsLeft (u v : SwitchOf) : Type 0 where
  pub life : v.life ≡ u.life
  pub epoch : v.epoch ≡ u.epoch
  pub card : v.card ≡ u.card
  pub sendings : v.sendings ≡ u.sendings
  pub receivings : v.receivings ≡ u.receivings

pub left : (u : SwitchOf) → IsLeft u u
left u = record { life = refl; epoch = refl; card = refl; sendings = refl; receivings = refl }

loads_left : (o : Option TopoOf) (t s : ℕ) (w : WorldOf) → IsLeft (w.switches s) ((loads_with o t w).switches s)
loads_left None t s w = left (w.switches s)
loads_left (Some topo) t s w = by (s == t) refl
  where
    by : (b : Bool) → (s == t) ≡ b → IsLeft (w.switches s) (cond b (loaded (number_in topo (w.switches t).life) (w.switches t)) (w.switches s))
    by true is = subst (λ n. IsLeft (w.switches n) (loaded (number_in topo (w.switches t).life) (w.switches t))) (sym (eqb-true s t is)) (record { life = refl; epoch = refl; card = refl; sendings = refl; receivings = refl })
    by false is = left (w.switches s)

pub all_left : (e : Event) (w : WorldOf) (s : ℕ) → ((t : ℕ) → e ≡ Handle t → ⊥) → ((t : ℕ) → e ≡ Restart t → ⊥) → IsLeft (w.switches s) ((effect e w).switches s)
unfolding effect
all_left (Handle t) w s no_handle no_restart = absurd (no_handle t refl)
all_left (Restart t) w s no_handle no_restart = absurd (no_restart t refl)
all_left (Load t) w s no_handle no_restart = loads_left (finish_of (w.switches t)) t s w
all_left e w s no_handle no_restart = left (w.switches s)

-- the direction where both switches are left so
way_same : (w v : WorldOf) (l : LinkOf) (now late : ℕ) → IsLeft (here w l) (here v l) → IsLeft (there w l) (there v l) → v.fabric.tick ≡ now → (way v l).late ≡ late
    → way v l ≡ record { now = now; late = late; epoch = (way w l).epoch; far_epoch = (way w l).far_epoch; sending = (way w l).sending; receiving = (way w l).receiving; carry = (way v l).carry; ack = (way v l).ack }
way_same w v l now late a b en el =
    directed (way v l) now late (way w l).epoch (way w l).far_epoch (way w l).sending (way w l).receiving en el a.epoch b.epoch
    (λ i. cond (is_end (peer_among (a.card i).links l.port) (record { life = b.life i; port = l.far_port })) (a.sendings i l.port) unused)
    (λ i. cond (is_end (peer_among (b.card i).links l.far_port) (record { life = a.life i; port = l.port }) && not (nat_lt (b.epoch i) (a.epoch i))) (b.receivings i l.far_port) untouched)

-- and the tests for its frames
carry_same : (w v : WorldOf) (l : LinkOf) (k : ℕ) → IsLeft (here w l) (here v l) → IsLeft (there w l) (there v l) → (x : WorldOf) → is_some_under_way (is_carry (here v l).epoch (end_here v l) (end_there v l) k) x l ≡ is_some_under_way (is_carry (here w l).epoch (end_here w l) (end_there w l) k) x l
carry_same w v l k a b x = λ i. is_some_under_way (is_carry (a.epoch i) (record { life = a.life i; port = l.port }) (record { life = b.life i; port = l.far_port }) k) x l

ack_same : (w v : WorldOf) (l : LinkOf) (n : ℕ) → IsLeft (here w l) (here v l) → IsLeft (there w l) (there v l) → (x : WorldOf) → is_some_under_way (is_ack (here v l).epoch (end_there v l) (end_here v l) n) x (turned l) ≡ is_some_under_way (is_ack (here w l).epoch (end_there w l) (end_here w l) n) x (turned l)
ack_same w v l n a b x = λ i. is_some_under_way (is_ack (a.epoch i) (record { life = b.life i; port = l.far_port }) (record { life = a.life i; port = l.port }) n) x (turned l)

-- A tick: nothing was under way, and nothing is
pub ticked_under : (test : Frame → Bool) (w : WorldOf) (l : LinkOf) → is_some_under_way test (effect Tick w) l ≡ is_some_under_way test w l
unfolding effect
ticked_under test w l = refl

pub tick_goes : (script : ScriptOf) (h : List Event) (l : LinkOf) → IsEvent script h Tick l → GoesOn script h Tick l
tick_goes script h l k =
    let w = world_after script h in
    let v = effect Tick w in
    let at = at_tick script k.kept k.unpaced h k.lawful in
    let back = link_turned script l k.link in
    let a = all_left Tick w l.place (λ t e. cc) (λ t e. cc) in
    let b = all_left Tick w l.far_place (λ t e. cc) (λ t e. cc) in
    let now : v.fabric.tick ≡ suc w.fabric.tick = let t = (ticked w).0 in omega (arith, t) in
    one_step script h Tick l (ticks (record {
      before = ap (λ b. cond b 3 4) (all_clocked script k.kept h l.place at k.link.here.node_below);
      is = way_same w v l (suc w.fabric.tick) 4 a b now (ap (λ b. cond b 3 4) (none_clocked script k.kept h l.place k.link.here.node_below));
      carries = record {
        no_others = λ n found. absurd (false≢true (sym (ticked_under (is_carry (here v l).epoch (end_here v l) (end_there v l) n) w l ∙ none_under (is_carry (here v l).epoch (end_here v l) (end_there v l) n) script h l at k.link) ∙ found));
        stay = λ n found. absurd (false≢true (sym (none_under (is_carry (here w l).epoch (end_here w l) (end_there w l) n) script h l at k.link) ∙ found));
      };
      acks = record {
        no_others = λ n found. absurd (false≢true (sym (ticked_under (is_ack (here v l).epoch (end_there v l) (end_here v l) n) w (turned l) ∙ none_under (is_ack (here v l).epoch (end_there v l) (end_here v l) n) script h (turned l) at back) ∙ found));
        stay = λ n found. absurd (false≢true (sym (none_under (is_ack (here w l).epoch (end_there w l) (end_here w l) n) script h (turned l) at back) ∙ found));
      };
      no_carry = λ n found. false≢true (sym (none_under (is_carry (here w l).epoch (end_here w l) (end_there w l) n) script h l at k.link) ∙ found);
      no_ack = λ n found. false≢true (sym (none_under (is_ack (here w l).epoch (end_there w l) (end_here w l) n) script h (turned l) at back) ∙ found);
    }))

-- an event after which both switches are left so, of neither end's handling, and no command
left_goes : (script : ScriptOf) (h : List Event) (e : Event) (l : LinkOf) → IsEvent script h e l → is_of_script e ≡ false → (e ≡ Tick → ⊥) → (e ≡ Handle l.place → ⊥) → (e ≡ Handle l.far_place → ⊥) → IsLeft (here (world_after script h) l) (here (effect e (world_after script h)) l) → IsLeft (there (world_after script h) l) (there (effect e (world_after script h)) l)
    → (effect e (world_after script h)).fabric.tick ≡ (world_after script h).fabric.tick → has_clocked (effect e (world_after script h)).fabric l.place ≡ has_clocked (world_after script h).fabric l.place → GoesOn script h e l
left_goes script h e l k quiet no_tick not_here not_there a b tick clocked =
    let w = world_after script h in
    let v = effect e w in
    let back = link_turned script l k.link in
    one_step script h e l (passes (record {
      is = way_same w v l w.fabric.tick (way w l).late a b tick (ap (λ b. cond b 3 4) clocked);
      carries = record {
        no_others = λ n found. only_from (is_carry (here w l).epoch (end_here w l) (end_there w l) n) script h e l k.kept k.link k.lawful not_here (sym (carry_same w v l n a b v) ∙ found);
        stay = λ n found. carry_same w v l n a b v ∙ on_still (is_carry (here w l).epoch (end_here w l) (end_there w l) n) script h e l k.kept k.link k.lawful quiet no_tick not_there found;
      };
      acks = record {
        no_others = λ n found. only_from (is_ack (here w l).epoch (end_there w l) (end_here w l) n) script h e (turned l) k.kept back k.lawful not_there (sym (ack_same w v l n a b v) ∙ found);
        stay = λ n found. ack_same w v l n a b v ∙ on_still (is_ack (here w l).epoch (end_there w l) (end_here w l) n) script h e (turned l) k.kept back k.lawful quiet no_tick not_here found;
      };
    }))

-- a clock is taken in hand, a frame is taken, a table is loaded, a packet moves
pub aside_goes : (script : ScriptOf) (h : List Event) (e : Event) (l : LinkOf) → IsEvent script h e l → is_of_script e ≡ false → (e ≡ Tick → ⊥) → ((s : ℕ) → e ≡ Handle s → ⊥) → ((s : ℕ) → e ≡ Restart s → ⊥) → (effect e (world_after script h)).fabric.tick ≡ (world_after script h).fabric.tick → GoesOn script h e l
aside_goes script h e l k quiet no_tick no_handle no_restart tick =
    let w = world_after script h in
    left_goes script h e l k quiet no_tick (no_handle l.place) (no_handle l.far_place) (all_left e w l.place no_handle no_restart) (all_left e w l.far_place no_handle no_restart) tick ((aside_of script k.kept h e k.lawful quiet no_tick no_handle).clocked l.place)

-- a switch at neither end handles what it has in hand
handled_left : (s t : ℕ) (w : WorldOf) → (t ≡ s → ⊥) → IsLeft (w.switches t) ((effect (Handle s) w).switches t)
handled_left s t w other = subst (IsLeft (w.switches t)) (sym (other_switch s t w other)) (left (w.switches t))

pub elsewhere_goes : (script : ScriptOf) (h : List Event) (s : ℕ) (l : LinkOf) → IsEvent script h (Handle s) l → (l.place ≡ s → ⊥) → (l.far_place ≡ s → ⊥) → (effect (Handle s) (world_after script h)).fabric.tick ≡ (world_after script h).fabric.tick → GoesOn script h (Handle s) l
elsewhere_goes script h s l k not_here not_there tick =
    let w = world_after script h in
    left_goes script h (Handle s) l k refl (λ e. cc) (λ e. not_here (sym (same_handle s l.place e))) (λ e. not_there (sym (same_handle s l.far_place e))) (handled_left s l.place w not_here) (handled_left s l.far_place w not_there) tick (handled_elsewhere w s l.place not_here)

-- A command but a restart: frames may be dropped.
command_now : (script : ScriptOf) (h : List Event) (e : Event) → is_lawful (world_after script h).fabric e ≡ true → is_of_script e ≡ true → last script (h ++ e ∷ []) ≡ (world_after script h).fabric.tick
command_now script h e lawful command =
    let w = world_after script h in
    disturbed_now script h e (ap (λ b. b && (is_of_script e || loses is_either w e)) lawful ∙ ap (λ b. b || loses is_either w e) command)

pub command_goes : (script : ScriptOf) (h : List Event) (e : Event) (l : LinkOf) → IsEvent script h e l → is_of_script e ≡ true → (e ≡ Handle l.place → ⊥) → (e ≡ Handle l.far_place → ⊥) → IsLeft (here (world_after script h) l) (here (effect e (world_after script h)) l) → IsLeft (there (world_after script h) l) (there (effect e (world_after script h)) l)
    → (effect e (world_after script h)).fabric.tick ≡ (world_after script h).fabric.tick → has_clocked (effect e (world_after script h)).fabric l.place ≡ has_clocked (world_after script h).fabric l.place → GoesOn script h e l
command_goes script h e l k command not_here not_there a b tick clocked =
    let w = world_after script h in
    let v = effect e w in
    let back = link_turned script l k.link in
    let now = command_now script h e k.lawful command in
    one_step script h e l (drops (record {
      early = omega (arith, now);
      is = way_same w v l w.fabric.tick (way w l).late a b tick (ap (λ b. cond b 3 4) clocked);
      carry = λ n found. only_from (is_carry (here w l).epoch (end_here w l) (end_there w l) n) script h e l k.kept k.link k.lawful not_here (sym (carry_same w v l n a b v) ∙ found);
      ack = λ n found. only_from (is_ack (here w l).epoch (end_there w l) (end_here w l) n) script h e (turned l) k.kept back k.lawful not_there (sym (ack_same w v l n a b v) ∙ found);
    }))
