-- The switch at this end handles what it has in hand: the direction in which it sends goes on.

use Rattle.std.specs.Prelude.{◌≡◌, ◌⊎◌, ◌&&◌, ◌<◌, ◌≤◌, ℕ, nat_lt, not, List, [], cond, Some, Bool, true, false, refl}
use Rattle.std.proofs.Common.{sym, ◌∙◌, ap, subst, inl, inr, arith}
use Rattle.std.proofs.lemmas.Bool.{false≢true, le-ltb, lt-ltb}
use Rattle.an_base.specs.Values.{EndId}
use Rattle.an_base.specs.declared.event.Event.{Event}
use Rattle.an_base.specs.declared.event.Event.TheVariants.{Handle}
use Rattle.connectivity.specs.Connections.{is_end}
use Rattle.connectivity.proofs.EndLemmas.{is_end_is}
use Rattle.net_script.specs.Scripts.{ScriptOf, IsScript}
use Rattle.frame_codec.specs.Spelling.{spelling}
use Rattle.frame_codec.proofs.Decoding.{frame_again}
use Rattle.ordered_link.specs.Sending.{Sending, unused}
use Rattle.ordered_link.specs.Receiving.{Receiving, untouched}
use Rattle.link_settling.specs.Directions.{Direction, Joins, Run, SendsAll, Stay, IsOneOf, clocked, joins, then_step}
use Rattle.link_settling.specs.Moves.{Moves, carried_by, resting}
use Rattle.link_settling.proofs.MovesRun.{run_of_moves}
use Rattle.topo_report.proofs.Members.{In}
use Rattle.wire_set.specs.WireState.{wire_at, place, hand_of}
use Rattle.epoch_game.proofs.Basics.{some_same}
use Rattle.switch_core.specs.Switch.{SwitchOf, end_at}
use Rattle.switch_core.specs.Steps.{peer_among}
use Rattle.net_state.specs.Fabric.{station}
use Rattle.net_world.specs.World.{WorldOf, effect, handled, world_after}
use Rattle.net_game.proofs.EachLemmas.{each_in}
use Rattle.net_game.proofs.RangedFrames.{IsOut}
use Rattle.net_settling.specs.Views.{LinkOf, turned, here, there, end_here, end_there, came_by, is_session, is_some_under_way, is_carry, is_ack, under_way_to, way}
use Rattle.net_settling.proofs.Flights.{On}
use Rattle.net_settling.proofs.Linked.{IsLinkOf, link_turned}
use Rattle.net_settling.proofs.Passing.{sent_comes}
use Rattle.net_settling.proofs.SenderSteps.{one_of_from}
use Rattle.net_settling.proofs.SenderWays.{after_is, carried_out, carry_test, here_is, late_now, number_out, session_out, session_up, there_is}
use Rattle.net_settling.proofs.Sents.{handled_frames}
use Rattle.net_settling.proofs.Told.{ack_joined, carry_joined, joined_low}
use Rattle.net_settling.proofs.Under.{frame_such, such_frame, such_way, way_parts, way_such}
use Rattle.net_settling.proofs.Viewed.{keeps_such, same_handle}
use Rattle.net_settling.proofs.WayParts.{GoesOn, IsEvent, SentSuch, base_after, directed, only_from, such_from}

pub tick_handle : (s : ℕ) (w : WorldOf) → (effect (Handle s) w).fabric.tick ≡ w.fabric.tick
unfolding effect
tick_handle s w = refl

-- the bodies that go out in the session with the far end
abbrev pub goes_by : WorldOf → LinkOf → Bool → List ℕ
goes_by w l session = cond session (carried_by l.port (handled l.place w).frames) []

pub out_one : (script : ScriptOf) (h : List Event) (l : LinkOf) (n : ℕ) → IsEvent script h (Handle l.place) l → (v : WorldOf) → v ≡ effect (Handle l.place) (world_after script h)
    → SentSuch (is_carry (here v l).epoch (end_here v l) (end_there v l) n) (world_after script h) (Handle l.place) l → IsOneOf n (goes_by (world_after script h) l (is_session v l))
out_one script h l n k v same sent =
    let w = world_after script h in
    let x = effect (Handle l.place) w in
    subst (λ (y : WorldOf). SentSuch (is_carry (here y l).epoch (end_here y l) (end_there y l) n) w (Handle l.place) l → IsOneOf n (goes_by w l (is_session y l))) (sym same)
    (λ out. subst (λ b. IsOneOf n (goes_by w l b)) (sym (session_out script k.kept h l (here x l).epoch n (end_here x l) k.link k.lawful out)) (number_out w (Handle l.place) l (here x l).epoch n (end_here x l) (end_there x l) out)) sent

-- so late each of them is under way
pub put_one : (script : ScriptOf) (h : List Event) (l : LinkOf) (n : ℕ) → IsEvent script h (Handle l.place) l → base_after script h (Handle l.place) ≤ (world_after script h).fabric.tick
    → IsOneOf n (goes_by (world_after script h) l (is_session (effect (Handle l.place) (world_after script h)) l))
    → is_some_under_way (is_carry (here (effect (Handle l.place) (world_after script h)) l).epoch (end_here (effect (Handle l.place) (world_after script h)) l) (end_there (effect (Handle l.place) (world_after script h)) l) n) (effect (Handle l.place) (world_after script h)) l ≡ true
put_one script h l n k late one = by (is_session v l) refl one
  where
    w : WorldOf
    w = world_after script h

    v : WorldOf
    v = effect (Handle l.place) w

    by : (b : Bool) → is_session v l ≡ b → IsOneOf n (goes_by w l b) → is_some_under_way (is_carry (here v l).epoch (end_here v l) (end_there v l) n) v l ≡ true
    by false session none = absurd none
    by true session found =
        let body = one_of_from l.port (handled l.place w).frames n found in
        let now = late_now script h (Handle l.place) l k (tick_handle l.place w) late in
        let up = session_up script h (Handle l.place) l k now session in
        let comes = sent_comes script k.kept h l body.sent k.link now.calm up body.among body.port_is in
        let out = carried_out script k.kept h l.place body.sent body.carry k.link.here.node_below k.lawful body.among body.frame_is in
        let own = here_is w l in
        let spelled = each_in IsOut (handled l.place w).frames body.sent (handled_frames script k.kept h l.place k.link.here.node_below k.lawful) body.among in
        let to : body.carry.to ≡ end_there v l = some_same body.carry.to (end_there v l)
        (sym out.to ∙ (λ i. peer_among (sym own i).card.links (body.port_is i)) ∙ is_end_is (peer_among (here v l).card.links l.port) (end_there v l) session)
        in
        way_such (is_carry (here v l).epoch (end_here v l) (end_there v l) n) v l (spelling body.sent.frame) comes
        (such_frame (is_carry (here v l).epoch (end_here v l) (end_there v l) n) (spelling body.sent.frame) body.sent.frame (frame_again body.sent.frame spelled.frame_is)
        (ap (is_carry (here v l).epoch (end_here v l) (end_there v l) n) body.frame_is
        ∙ carry_test (here v l).epoch (end_here v l) (end_there v l) n body.carry (out.epoch ∙ sym (ap (λ (u : SwitchOf). u.epoch) own)) (out.from ∙ (λ i. end_at (sym own i) (body.port_is i))) to body.number))

-- The switch goes on in its epoch
pub record IsSame (script : ScriptOf) (h : List Event) (l : LinkOf) : Type 0 where
  pub life : (handled l.place (world_after script h)).switch.life ≡ (here (world_after script h) l).life
  pub epoch : (handled l.place (world_after script h)).switch.epoch ≡ (here (world_after script h) l).epoch
  pub card : (handled l.place (world_after script h)).switch.card ≡ (here (world_after script h) l).card

pub record IsSameEnd (w v : WorldOf) (l : LinkOf) : Type 0 where
  pub life : (here v l).life ≡ (here w l).life
  pub epoch : (here v l).epoch ≡ (here w l).epoch
  pub card : (here v l).card ≡ (here w l).card
  pub far : there v l ≡ there w l

pub same_ends : (script : ScriptOf) (h : List Event) (l : LinkOf) → IsEvent script h (Handle l.place) l → IsSame script h l → IsSameEnd (world_after script h) (effect (Handle l.place) (world_after script h)) l
same_ends script h l k same =
    let w = world_after script h in
    let own = here_is w l in
    record {
      life = ap (λ (u : SwitchOf). u.life) own ∙ same.life;
      epoch = ap (λ (u : SwitchOf). u.epoch) own ∙ same.epoch;
      card = ap (λ (u : SwitchOf). u.card) own ∙ same.card;
      far = there_is w l k.apart;
    }

pub carry_is : (w v : WorldOf) (l : LinkOf) (n : ℕ) (x : WorldOf) → IsSameEnd w v l → is_some_under_way (is_carry (here v l).epoch (end_here v l) (end_there v l) n) x l ≡ is_some_under_way (is_carry (here w l).epoch (end_here w l) (end_there w l) n) x l
carry_is w v l n x k = λ i. is_some_under_way (is_carry (k.epoch i) (record { life = k.life i; port = l.port }) (record { life = (k.far i).life; port = l.far_port }) n) x l

pub ack_is : (w v : WorldOf) (l : LinkOf) (n : ℕ) (x : WorldOf) → IsSameEnd w v l → is_some_under_way (is_ack (here v l).epoch (end_there v l) (end_here v l) n) x (turned l) ≡ is_some_under_way (is_ack (here w l).epoch (end_there w l) (end_here w l) n) x (turned l)
ack_is w v l n x k = λ i. is_some_under_way (is_ack (k.epoch i) (record { life = (k.far i).life; port = l.far_port }) (record { life = k.life i; port = l.port }) n) x (turned l)

pub session_same : (w v : WorldOf) (l : LinkOf) → IsSameEnd w v l → is_session v l ≡ is_session w l
session_same w v l k = λ i. is_end (peer_among (k.card i).links l.port) (record { life = (k.far i).life; port = l.far_port })

pub receiving_same : (w v : WorldOf) (l : LinkOf) → IsSameEnd w v l → (way v l).receiving ≡ (way w l).receiving
receiving_same w v l k = λ i. cond (is_end (peer_among (k.far i).card.links l.far_port) (record { life = k.life i; port = l.port }) && not (nat_lt (k.far i).epoch (k.epoch i))) ((k.far i).receivings l.far_port) untouched

same_by : (w v : WorldOf) (l : LinkOf) → IsSameEnd w v l → v.fabric.tick ≡ w.fabric.tick → (late : ℕ)
    → record (way v l) { late = late } ≡ record (way w l) { late = late; sending = (way v l).sending; carry = (way v l).carry; ack = (way v l).ack }
same_by w v l k tick late =
    directed (record (way v l) { late = late }) w.fabric.tick late (way w l).epoch (way w l).far_epoch (way v l).sending (way w l).receiving tick refl k.epoch (ap (λ (u : SwitchOf). u.epoch) k.far) refl (receiving_same w v l k)

moves_by : (now : ℕ) (s t : Sending) (ks : List ℕ) (b c : Bool) → b ≡ c → (c ≡ true → Moves now s ks t) → Moves now (cond c s unused) (cond b ks []) (cond b t unused)
moves_by now s t ks b true same m = subst (λ x. Moves now s (cond x ks []) (cond x t unused)) (sym same) (m refl)
moves_by now s t ks b false same m = subst (λ x. Moves now unused (cond x ks []) (cond x t unused)) (sym same) (resting unused)

pub same_goes : (script : ScriptOf) (h : List Event) (l : LinkOf) → IsEvent script h (Handle l.place) l → IsSame script h l
    → (is_session (world_after script h) l ≡ true → Moves (world_after script h).fabric.tick ((here (world_after script h) l).sendings l.port) (carried_by l.port (handled l.place (world_after script h)).frames) ((handled l.place (world_after script h)).switch.sendings l.port))
    → Stay (way (world_after script h) l).ack (way (effect (Handle l.place) (world_after script h)) l).ack → (start : Direction) → Run (base_after script h (Handle l.place)) start (way (world_after script h) l)
    → Run (base_after script h (Handle l.place)) start (record (way (effect (Handle l.place) (world_after script h)) l) { late = (way (world_after script h) l).late })
same_goes script h l k same moves stay start run =
    let w = world_after script h in
    let v = effect (Handle l.place) w in
    let base = base_after script h (Handle l.place) in
    let d = way w l in
    let next = record (way v l) { late = d.late } in
    let ends = same_ends script h l k same in
    let own = here_is w l in
    let ks = goes_by w l (is_session v l) in
    let all : SendsAll base ks (way v l).sending d next = record {
      is = same_by w v l ends (tick_handle l.place w) d.late;
      carry = λ n found. elim (such_from (is_carry (here v l).epoch (end_here v l) (end_there v l) n) script h (Handle l.place) l k.kept k.link k.lawful found)
          [ inl old ↦ inl (sym (carry_is w v l n w ends) ∙ old) | inr new ↦ inr (out_one script h l n k v refl new) ];
      carry_on = λ n found. elim (keeps_such (is_carry (here w l).epoch (end_here w l) (end_there w l) n) script h (Handle l.place) l k.kept k.link k.lawful refl (λ e. cc) found)
          [ inl stays ↦ carry_is w v l n v ends ∙ stays | inr held ↦ absurd (k.apart (same_handle l.place l.far_place held.0)) ];
      put = λ late n one. put_one script h l n k late one;
      acks = stay;
    } in
    run_of_moves base start d next ks (way v l).sending run
    (subst (λ (u : SwitchOf). Moves w.fabric.tick d.sending ks (cond (is_session v l) (u.sendings l.port) unused)) (sym own)
    (moves_by w.fabric.tick ((here w l).sendings l.port) ((handled l.place w).switch.sendings l.port) (carried_by l.port (handled l.place w).frames) (is_session v l) (is_session w l) (session_same w v l ends) moves)) all

-- It joins a greater epoch.
pub record IsJoin (script : ScriptOf) (h : List Event) (l : LinkOf) : Type 0 where
  pub life : (handled l.place (world_after script h)).switch.life ≡ (here (world_after script h) l).life
  pub greater : (here (world_after script h) l).epoch < (handled l.place (world_after script h)).switch.epoch
  pub moves : Moves (world_after script h).fabric.tick unused (carried_by l.port (handled l.place (world_after script h)).frames) ((handled l.place (world_after script h)).switch.sendings l.port)

pub under_wire : (script : ScriptOf) (h : List Event) (t q : ℕ) (b : List ℕ) → In b (under_way_to (world_after script h).fabric t q) → (queue : ℕ) × In b (wire_at (world_after script h).fabric.wires queue)
under_wire script h t q b i = by (way_parts w.fabric t q b i)
  where
    w : WorldOf
    w = world_after script h

    by : On (place t q) b w.fabric.wires ⊎ ((came_by q (station w.fabric t).hand ≡ true) × In b (hand_of w.fabric.wires t)) → (queue : ℕ) × In b (wire_at w.fabric.wires queue)
    by (inl on) = (place t q, on)
    by (inr held) = (place t 0, held.1)

none_ahead_carry : (script : ScriptOf) (h : List Event) (l : LinkOf) (epoch n : ℕ) (from to : EndId) → IsScript script → IsLinkOf script l → from.life ≡ (here (world_after script h) l).life → (here (world_after script h) l).epoch < epoch → is_some_under_way (is_carry epoch from to n) (world_after script h) l ≡ true → ⊥
none_ahead_carry script h l epoch n from to kept is life above found =
    let w = world_after script h in
    let x = such_way (is_carry epoch from to n) w l found in
    let f = frame_such (is_carry epoch from to n) x.0 x.2 in
    let c = Rattle.net_settling.proofs.SenderWays.carry_to epoch from to n f.0 f.2 in
    let at = under_wire script h l.far_place l.far_port x.0 x.1 in
    let joined = carry_joined script kept h at.0 x.0 c.carry at.1 (f.1 ∙ ap Some c.frame_is) in
    let low = joined_low script kept h l.place c.carry.epoch c.carry.from.life is.here.node_below (ap (λ (z : EndId). z.life) c.from_is ∙ life) joined in
    let e = c.epoch_is in
    omega (arith, low, e, above)

none_ahead_ack : (script : ScriptOf) (h : List Event) (l : LinkOf) (epoch n : ℕ) (from to : EndId) → IsScript script → IsLinkOf script l → to.life ≡ (here (world_after script h) l).life → (here (world_after script h) l).epoch < epoch → is_some_under_way (is_ack epoch from to n) (world_after script h) (turned l) ≡ true → ⊥
none_ahead_ack script h l epoch n from to kept is life above found =
    let w = world_after script h in
    let x = such_way (is_ack epoch from to n) w (turned l) found in
    let f = frame_such (is_ack epoch from to n) x.0 x.2 in
    let at = under_wire script h l.place l.port x.0 x.1 in
    let joined = ack_joined script kept h at.0 x.0 epoch n from to at.1 (f.1 ∙ ap Some (Rattle.net_settling.proofs.SenderWays.ack_to epoch from to n f.0 f.2)) in
    let low = joined_low script kept h l.place epoch to.life is.here.node_below life joined in
    omega (arith, low, above)

pub behind_none : (s : Bool) (a b : ℕ) (r : Receiving) → a < b → cond (s && not (nat_lt a b)) r untouched ≡ untouched
behind_none true a b r low = ap (λ x. cond (not x) r untouched) (lt-ltb a b low)
behind_none false a b r low = refl

there_same : (s : Bool) (a b c : ℕ) (r : Receiving) → b ≤ a → c ≤ a → cond (s && not (nat_lt a b)) r untouched ≡ cond (s && not (nat_lt a c)) r untouched
there_same s a b c r low less = ap (λ x. cond (s && not x) r untouched) (le-ltb a b low ∙ sym (le-ltb a c less))

-- where the session begins anew
abbrev mid : WorldOf → LinkOf → ℕ → Direction
mid v l late = record (way v l) { late = late; sending = unused; carry = λ n. false }

mid_clocked : (base : ℕ) (v : WorldOf) (l : LinkOf) (old late : ℕ) (start : Direction) → (late ≡ old) ⊎ (late ≡ 3) → Run base start (mid v l old) → Run base start (mid v l late)
mid_clocked base v l old late start (inl same) run = subst (λ n. Run base start (mid v l n)) (sym same) run
mid_clocked base v l old late start (inr three) run =
    subst (λ n. Run base start (mid v l n)) (sym three)
    (then_step start (mid v l old) (mid v l 3) run
    (clocked (record { is = refl; done = λ n above most. absurd (omega (arith, above, most)); carries = record { no_others = λ n f. f; stay = λ n f. f }; acks = record { no_others = λ n f. f; stay = λ n f. f } })))

pub join_goes : (script : ScriptOf) (h : List Event) (l : LinkOf) → IsEvent script h (Handle l.place) l → IsJoin script h l → ((way (effect (Handle l.place) (world_after script h)) l).late ≡ (way (world_after script h) l).late) ⊎ ((way (effect (Handle l.place) (world_after script h)) l).late ≡ 3) → GoesOn script h (Handle l.place) l
join_goes script h l k join late start run =
    run_of_moves base start (mid v l (way v l).late) (way v l) ks (way v l).sending (mid_clocked base v l d.late (way v l).late start late (then_step start d (mid v l d.late) run (joins first)))
    (subst (λ (u : SwitchOf). Moves v.fabric.tick unused ks (cond (is_session v l) (u.sendings l.port) unused)) (sym own)
    (subst (λ n. Moves n unused ks (cond (is_session v l) ((handled l.place w).switch.sendings l.port) unused)) (sym (tick_handle l.place w)) (by_session (is_session v l)))) all
  where
    w : WorldOf
    w = world_after script h

    v : WorldOf
    v = effect (Handle l.place) w

    base : ℕ
    base = base_after script h (Handle l.place)

    d : Direction
    d = way w l

    own : here v l ≡ (handled l.place w).switch
    own = here_is w l

    far : there v l ≡ there w l
    far = there_is w l k.apart

    life : (here v l).life ≡ (here w l).life
    life = ap (λ (u : SwitchOf). u.life) own ∙ join.life

    greater : (here w l).epoch < (here v l).epoch
    greater = let e = ap (λ (u : SwitchOf). u.epoch) own in let g = join.greater in omega (arith, e, g)

    far_epoch : (there v l).epoch ≡ (there w l).epoch
    far_epoch = ap (λ (u : SwitchOf). u.epoch) far

    ks : List ℕ
    ks = goes_by w l (is_session v l)

    receives_far : (way v l).receiving ≡ cond (is_session v (turned l) && not (nat_lt (there w l).epoch (here v l).epoch)) ((there w l).receivings l.far_port) untouched
    receives_far = λ i. cond (is_session v (turned l) && not (nat_lt (far i).epoch (here v l).epoch)) ((far i).receivings l.far_port) untouched

    session_back : is_session v (turned l) ≡ is_session w (turned l)
    session_back = λ i. is_end (peer_among (far i).card.links l.far_port) (record { life = life i; port = l.port })

    least_by : (here v l).epoch ≤ (there w l).epoch → (here w l).epoch ≤ (there w l).epoch
    least_by most = let g = greater in omega (arith, most, g)

    first : Joins d (mid v l d.late)
    first = record {
      greater = greater;
      is = directed (mid v l d.late) d.now d.late (here v l).epoch d.far_epoch unused (way v l).receiving (tick_handle l.place w) refl refl far_epoch refl refl;
      behind = λ low. receives_far ∙ behind_none (is_session v (turned l)) (there w l).epoch (here v l).epoch ((there w l).receivings l.far_port) low;
      there = λ most. receives_far
          ∙ there_same (is_session v (turned l)) (there w l).epoch (here v l).epoch (here w l).epoch ((there w l).receivings l.far_port) most (least_by most)
          ∙ ap (λ s. cond (s && not (nat_lt (there w l).epoch (here w l).epoch)) ((there w l).receivings l.far_port) untouched) session_back;
      no_carry = λ n found. false≢true found;
      ack = λ n found. absurd (none_ahead_ack script h l (here v l).epoch n (end_there v l) (end_here v l) k.kept k.link life greater
          (only_from (is_ack (here v l).epoch (end_there v l) (end_here v l) n) script h (Handle l.place) (turned l) k.kept (link_turned script l k.link) k.lawful (λ e. k.apart (same_handle l.place l.far_place e)) found));
    }

    all : SendsAll base ks (way v l).sending (mid v l (way v l).late) (way v l)
    all = record {
      is = refl;
      carry = λ n found. elim (such_from (is_carry (here v l).epoch (end_here v l) (end_there v l) n) script h (Handle l.place) l k.kept k.link k.lawful found)
          [ inl old ↦ absurd (none_ahead_carry script h l (here v l).epoch n (end_here v l) (end_there v l) k.kept k.link life greater old) | inr new ↦ inr (out_one script h l n k v refl new) ];
      carry_on = λ n found. absurd (false≢true found);
      put = λ late n one. put_one script h l n k (subst (λ m. base ≤ m) (tick_handle l.place w) late) one;
      acks = record { no_others = λ n f. f; stay = λ n f. f };
    }

    by_session : (b : Bool) → Moves w.fabric.tick unused (goes_by w l b) (cond b ((handled l.place w).switch.sendings l.port) unused)
    by_session true = join.moves
    by_session false = resting unused
