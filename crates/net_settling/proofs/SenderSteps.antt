-- What a step of a switch is for the session at one of its ports: it goes on in it, it begins anew, or a body of it
-- is acknowledged.

use Rattle.std.specs.Prelude.{◌≡◌, ◌≢◌, ◌⊎◌, ◌==◌, ◌&&◌, ◌<◌, ◌≤◌, ℕ, suc, List, [], ◌∷◌, ◌++◌, cond, Option, Some, None, Bool, true, false, refl}
use Rattle.std.proofs.Common.{true≢false, sym, ◌∙◌, ap, subst, inl, inr, arith}
use Rattle.std.proofs.lemmas.Bool.{false≢true, cases_eq, cases_Bool, eqb-true, ltb-true, ltb-false, and_parts}
use Rattle.an_base.specs.Values.{EndId}
use Rattle.an_base.specs.Frames.{CarryOf}
use Rattle.an_base.specs.declared.frame.Frame.{Frame}
use Rattle.an_base.specs.declared.frame.Frame.TheVariants.{Carry, Ack, Probe, Reply}
use Rattle.an_base.specs.declared.port.Sample.{Sample}
use Rattle.connectivity.specs.Connections.{is_same_end}
use Rattle.ordered_link.specs.Sending.{unused}
use Rattle.ordered_link.specs.Receiving.{accepted_by}
use Rattle.epoch_core.specs.Epoch.{adds}
use Rattle.port_monitor.specs.Ports.{reply_to, speaks}
use Rattle.port_monitor.specs.Histories.{Replied, with_happening}
use Rattle.link_settling.specs.Moves.{IsFilled, Moves, carried_by, number_of, resting}
use Rattle.link_settling.specs.Directions.{IsOneOf}
use Rattle.link_settling.proofs.Steps.{ack_others, carry_greater, carry_same, clock_joins, clock_same, joined_clock, same_clock}
use Rattle.switch_core.specs.Switch.{SwitchOf, counts, end_at, port_of}
use Rattle.switch_core.specs.Steps.{Sent, Step, after, all_added, all_resent, answer_out, answers_body, begun, clocked, framed, is_change_due, is_spent_by, joins, last_epoch, on_ack, on_carry, receives, sampled_by, still}
use Rattle.switch_core.proofs.WindowLemmas.{OnlySends, all_pushed_few, all_resent_few, on_ack_few}
use Rattle.topo_report.proofs.Members.{In}

-- it goes on in its session
pub record IsSameStep (u : SwitchOf) (now port : ℕ) (st : Step) : Type 0 where
  pub life : st.switch.life ≡ u.life
  pub epoch : st.switch.epoch ≡ u.epoch
  pub card : st.switch.card ≡ u.card
  pub moves : IsFilled (u.sendings port) → Moves now (u.sendings port) (carried_by port st.frames) (st.switch.sendings port)

-- it joins a greater epoch, in which its session begins anew
pub record IsJoinStep (u : SwitchOf) (now port : ℕ) (st : Step) : Type 0 where
  pub life : st.switch.life ≡ u.life
  pub greater : u.epoch < st.switch.epoch
  pub moves : Moves now unused (carried_by port st.frames) (st.switch.sendings port)

same_only : (u v : SwitchOf) → OnlySends u v → (v.life ≡ u.life) × (v.epoch ≡ u.epoch) × (v.card ≡ u.card)
same_only u v only = (ap (λ (x : SwitchOf). x.life) only, ap (λ (x : SwitchOf). x.epoch) only, ap (λ (x : SwitchOf). x.card) only)

pub still_step : (u : SwitchOf) (now port : ℕ) → IsSameStep u now port (still u)
still_step u now port = record { life = refl; epoch = refl; card = refl; moves = λ _. resting (u.sendings port) }

unused_filled : IsFilled unused
unused_filled = record { within = omega arith; window = omega arith; full = λ _. omega arith }

-- a clock
pub clock_goes_on : (now port : ℕ) (samples : List Sample) (u : SwitchOf) → is_change_due u (sampled_by now samples u) ≡ false → IsSameStep u now port (clocked now samples u)
clock_goes_on now port samples u none =
    let x = sampled_by now samples u in
    let same = same_clock now samples u none in
    let only = same_only x (all_resent u.card.links x).switch (all_resent_few u.card.links x).only in
    record {
      life = ap (λ (st : Step). st.switch.life) same ∙ only.0;
      epoch = ap (λ (st : Step). st.switch.epoch) same ∙ only.1;
      card = ap (λ (st : Step). st.switch.card) same ∙ only.2;
      moves = (clock_same port now samples u none).moves;
    }

joined_is : (epoch : ℕ) (u : SwitchOf) → ((joins epoch u).switch.life ≡ u.life) × ((joins epoch u).switch.epoch ≡ epoch)
joined_is epoch u = let only = same_only (begun epoch u) (joins epoch u).switch (all_pushed_few (adds (begun epoch u).card []) (begun epoch u)).only in (only.0, only.1)

pub clock_begins : (now port : ℕ) (samples : List Sample) (u : SwitchOf) → is_change_due u (sampled_by now samples u) ≡ true → u.epoch ≢ last_epoch → IsJoinStep u now port (clocked now samples u)
clock_begins now port samples u due left =
    let x = sampled_by now samples u in
    let same = joined_clock now samples u due left in
    let joined = joined_is (suc u.epoch) x in
    let epoch : (clocked now samples u).switch.epoch ≡ suc u.epoch = ap (λ (st : Step). st.switch.epoch) same ∙ joined.1 in
    record {
      life = ap (λ (st : Step). st.switch.life) same ∙ joined.0;
      greater = omega (arith, epoch);
      moves = (clock_joins port now samples u due left).moves unused_filled;
    }

pub clock_kind : (now port : ℕ) (samples : List Sample) (u : SwitchOf) → is_spent_by u (sampled_by now samples u) ≡ false → IsSameStep u now port (clocked now samples u) ⊎ IsJoinStep u now port (clocked now samples u)
clock_kind now port samples u works = by (is_change_due u (sampled_by now samples u)) refl
  where
    by : (b : Bool) → is_change_due u (sampled_by now samples u) ≡ b → IsSameStep u now port (clocked now samples u) ⊎ IsJoinStep u now port (clocked now samples u)
    by false none = inl (clock_goes_on now port samples u none)
    by true due = inr (clock_begins now port samples u due (λ last. true≢false (sym (ap (λ b. b && (u.epoch == last_epoch)) due ∙ Rattle.std.proofs.Common.eq-eqb u.epoch last_epoch last) ∙ works)))

-- where the frame that goes out has no body
reply_none : (port q : ℕ) (o : Option Frame) → ((f : Frame) → o ≡ Some f → number_of f ≡ []) → carried_by port (answer_out q o) ≡ []
reply_none port q None none = refl
reply_none port q (Some f) none = by (q == port)
  where
    by : (b : Bool) → cond b (number_of f) [] ++ [] ≡ []
    by true = ap (λ xs. xs ++ []) (none f refl)
    by false = refl

reply_numbers : (me from : EndId) (nonce : ℕ) (b : Bool) (f : Frame) → cond b (Some (Reply me from nonce)) None ≡ Some f → number_of f ≡ []
reply_numbers me from nonce true f is = sym (ap number_of (Rattle.epoch_game.proofs.Basics.some_same (Reply me from nonce) f is))
reply_numbers me from nonce false f is = absurd (Rattle.epoch_game.proofs.Basics.none_some is)

pub probe_kind : (now port q nonce : ℕ) (from : EndId) (u : SwitchOf) → IsSameStep u now port (framed q (Probe from nonce) u)
probe_kind now port q nonce from u = record {
  life = refl;
  epoch = refl;
  card = refl;
  moves = λ _. subst (λ ks. Moves now (u.sendings port) ks (u.sendings port)) (sym (reply_none port q (reply_to (end_at u q) from nonce (port_of u q)) (reply_numbers (end_at u q) from nonce (speaks (port_of u q).phase)))) (resting (u.sendings port));
}

pub reply_kind : (now port q nonce : ℕ) (from to : EndId) (u : SwitchOf) → IsSameStep u now port (framed q (Reply from to nonce) u)
reply_kind now port q nonce from to u = by (is_same_end to (end_at u q))
  where
    by : (b : Bool) → IsSameStep u now port (cond b (still (record u { ports = with_happening q (Replied from nonce) u.ports })) (still u))
    by true = record { life = refl; epoch = refl; card = refl; moves = λ _. resting (u.sendings port) }
    by false = still_step u now port

-- a body: by the port q
pub answers_only : (q k : ℕ) (peer : EndId) (body : _) (u : SwitchOf) → ((answers_body q peer k body u).switch.life ≡ u.life) × ((answers_body q peer k body u).switch.epoch ≡ u.epoch) × ((answers_body q peer k body u).switch.card ≡ u.card)
answers_only q k peer body u =
    same_only (receives q k body u) (answers_body q peer k body u).switch (all_pushed_few (all_added u.card q (accepted_by k body (u.receivings q)) u.log) (receives q k body u)).only

counted_is : (q : ℕ) (f : CarryOf) (u : SwitchOf) → counts u q f.from f.to ≡ true → framed q (Carry f) u ≡ on_carry q f u
counted_is q f u counted = ap (λ b. cond b (on_carry q f u) (still u)) counted

pub same_is : (q : ℕ) (f : CarryOf) (u : SwitchOf) → counts u q f.from f.to ≡ true → f.epoch ≡ u.epoch → framed q (Carry f) u ≡ answers_body q f.from f.number f.body u
same_is q f u counted same =
    counted_is q f u counted
    ∙ ap (λ b. cond b (after (joins f.epoch u) (answers_body q f.from f.number f.body (joins f.epoch u).switch)) (cond (f.epoch == u.epoch) (answers_body q f.from f.number f.body u) (still u))) (Rattle.std.proofs.lemmas.Bool.le-ltb u.epoch f.epoch (omega (arith, same)))
    ∙ ap (λ b. cond b (answers_body q f.from f.number f.body u) (still u)) (Rattle.std.proofs.Common.eq-eqb f.epoch u.epoch same)

pub greater_is : (q : ℕ) (f : CarryOf) (u : SwitchOf) → counts u q f.from f.to ≡ true → u.epoch < f.epoch → framed q (Carry f) u ≡ after (joins f.epoch u) (answers_body q f.from f.number f.body (joins f.epoch u).switch)
greater_is q f u counted above =
    counted_is q f u counted
    ∙ ap (λ b. cond b (after (joins f.epoch u) (answers_body q f.from f.number f.body (joins f.epoch u).switch)) (cond (f.epoch == u.epoch) (answers_body q f.from f.number f.body u) (still u))) (Rattle.std.proofs.lemmas.Bool.lt-ltb u.epoch f.epoch above)

pub lower_is : (q : ℕ) (f : CarryOf) (u : SwitchOf) → f.epoch < u.epoch → framed q (Carry f) u ≡ still u
lower_is q f u below = by (counts u q f.from f.to)
  where
    rest : on_carry q f u ≡ still u
    rest =
        ap (λ b. cond b (after (joins f.epoch u) (answers_body q f.from f.number f.body (joins f.epoch u).switch)) (cond (f.epoch == u.epoch) (answers_body q f.from f.number f.body u) (still u))) (Rattle.std.proofs.lemmas.Bool.le-ltb u.epoch f.epoch (omega (arith, below)))
        ∙ ap (λ b. cond b (answers_body q f.from f.number f.body u) (still u)) (Rattle.std.proofs.Common.ne_eqb f.epoch u.epoch (λ e. omega (arith, e, below)))

    by : (b : Bool) → cond b (on_carry q f u) (still u) ≡ still u
    by true = rest
    by false = refl

pub uncounted_is : (q : ℕ) (f : CarryOf) (u : SwitchOf) → counts u q f.from f.to ≡ false → framed q (Carry f) u ≡ still u
uncounted_is q f u not_counted = ap (λ b. cond b (on_carry q f u) (still u)) not_counted

-- what a body does, by its epoch
pub data BodyKind (q : ℕ) (f : CarryOf) (u : SwitchOf) : Type 0 where
  nothing : framed q (Carry f) u ≡ still u → (counts u q f.from f.to ≡ false) ⊎ (f.epoch < u.epoch) → BodyKind q f u
  present : counts u q f.from f.to ≡ true → f.epoch ≡ u.epoch → BodyKind q f u
  above : counts u q f.from f.to ≡ true → u.epoch < f.epoch → BodyKind q f u

pub body_kind : (q : ℕ) (f : CarryOf) (u : SwitchOf) → BodyKind q f u
body_kind q f u = by (counts u q f.from f.to) refl (Rattle.std.proofs.lemmas.Bool.cases_lt f.epoch u.epoch) (Rattle.std.proofs.lemmas.Bool.cases_lt u.epoch f.epoch)
  where
    by : (b : Bool) → counts u q f.from f.to ≡ b → (f.epoch < u.epoch) ⊎ (u.epoch ≤ f.epoch) → (u.epoch < f.epoch) ⊎ (f.epoch ≤ u.epoch) → BodyKind q f u
    by false is low high = nothing (uncounted_is q f u is) (inl is)
    by true is (inl low) high = nothing (lower_is q f u low) (inr low)
    by true is (inr low) (inl high) = above is high
    by true is (inr low) (inr high) = present is (omega (arith, low, high))

pub body_goes_on : (now port q : ℕ) (f : CarryOf) (u : SwitchOf) → u.tick ≡ now → counts u q f.from f.to ≡ true → f.epoch ≡ u.epoch → IsSameStep u now port (framed q (Carry f) u)
body_goes_on now port q f u tick counted same =
    let is = same_is q f u counted same in
    let only = answers_only q f.number f.from f.body u in
    record {
      life = ap (λ (st : Step). st.switch.life) is ∙ only.0;
      epoch = ap (λ (st : Step). st.switch.epoch) is ∙ only.1;
      card = ap (λ (st : Step). st.switch.card) is ∙ only.2;
      moves = λ filled. subst (λ n. Moves n (u.sendings port) (carried_by port (framed q (Carry f) u).frames) ((framed q (Carry f) u).switch.sendings port)) tick ((carry_same port q f u counted same).moves filled);
    }

pub body_begins : (now port q : ℕ) (f : CarryOf) (u : SwitchOf) → u.tick ≡ now → counts u q f.from f.to ≡ true → u.epoch < f.epoch → (IsJoinStep u now port (framed q (Carry f) u)) × ((framed q (Carry f) u).switch.epoch ≡ f.epoch)
body_begins now port q f u tick counted greater =
    let is = greater_is q f u counted greater in
    let j = joins f.epoch u in
    let joined = joined_is f.epoch u in
    let only = answers_only q f.number f.from f.body j.switch in
    let epoch : (framed q (Carry f) u).switch.epoch ≡ f.epoch = ap (λ (st : Step). st.switch.epoch) is ∙ only.1 ∙ joined.1 in (
      record {
        life = ap (λ (st : Step). st.switch.life) is ∙ only.0 ∙ joined.0;
        greater = omega (arith, epoch, greater);
        moves = subst (λ n. Moves n unused (carried_by port (framed q (Carry f) u).frames) ((framed q (Carry f) u).switch.sendings port)) tick ((carry_greater port q f u counted greater).moves unused_filled);
      },
      epoch,
    )

-- an acknowledgement at another port, or one that is nothing
pub ack_elsewhere : (now port q epoch n : ℕ) (from to : EndId) (u : SwitchOf) → u.tick ≡ now → port ≢ q → IsSameStep u now port (framed q (Ack epoch from to n) u)
ack_elsewhere now port q epoch n from to u tick other =
    let is = by (counts u q from to) in
    record {
      life = is.0;
      epoch = is.1;
      card = is.2;
      moves = λ filled. subst (λ m. Moves m (u.sendings port) (carried_by port (framed q (Ack epoch from to n) u).frames) ((framed q (Ack epoch from to n) u).switch.sendings port)) tick ((ack_others port q epoch n from to u other).moves filled);
    }
  where
    by : (b : Bool) → ((cond b (on_ack q from epoch n u) (still u)).switch.life ≡ u.life) × ((cond b (on_ack q from epoch n u) (still u)).switch.epoch ≡ u.epoch) × ((cond b (on_ack q from epoch n u) (still u)).switch.card ≡ u.card)
    by true = same_only u (on_ack q from epoch n u).switch (on_ack_few q epoch n from u).only
    by false = (refl, refl, refl)

-- the bodies that go out by a port are those of their numbers
one_left : (n : ℕ) (xs ys : List ℕ) → IsOneOf n xs → IsOneOf n (xs ++ ys)
one_left n [] ys one = absurd one
one_left n (x ∷ xs) ys (inl is) = inl is
one_left n (x ∷ xs) ys (inr one) = inr (one_left n xs ys one)

one_right : (n : ℕ) (xs ys : List ℕ) → IsOneOf n ys → IsOneOf n (xs ++ ys)
one_right n [] ys one = one
one_right n (x ∷ xs) ys one = inr (one_right n xs ys one)

one_parts : (n : ℕ) (xs ys : List ℕ) → IsOneOf n (xs ++ ys) → IsOneOf n xs ⊎ IsOneOf n ys
one_parts n [] ys one = inr one
one_parts n (x ∷ xs) ys (inl is) = inl (inl is)
one_parts n (x ∷ xs) ys (inr one) = elim (one_parts n xs ys one) [ inl a ↦ inl (inr a) | inr b ↦ inr b ]

pub one_of_in : (port : ℕ) (xs : List Sent) (x : Sent) (f : CarryOf) → In x xs → x.port ≡ port → x.frame ≡ Carry f → IsOneOf f.number (carried_by port xs)
one_of_in port [] x f i at is = absurd i
one_of_in port (y ∷ ys) x f (inl same) at is =
    one_left f.number (cond (y.port == port) (number_of y.frame) []) (carried_by port ys)
    (subst (IsOneOf f.number) (sym (ap (λ b. cond b (number_of y.frame) []) (Rattle.std.proofs.Common.eq-eqb y.port port (ap (λ (z : Sent). z.port) (sym same) ∙ at)) ∙ ap number_of (ap (λ (z : Sent). z.frame) (sym same) ∙ is))) (inl refl))
one_of_in port (y ∷ ys) x f (inr i) at is = one_right f.number (cond (y.port == port) (number_of y.frame) []) (carried_by port ys) (one_of_in port ys x f i at is)

pub record IsBodyOf (port : ℕ) (xs : List Sent) (n : ℕ) : Type 0 where
  pub sent : Sent
  pub among : In sent xs
  pub port_is : sent.port ≡ port
  pub carry : CarryOf
  pub frame_is : sent.frame ≡ Carry carry
  pub number : carry.number ≡ n

pub one_of_from : (port : ℕ) (xs : List Sent) (n : ℕ) → IsOneOf n (carried_by port xs) → IsBodyOf port xs n
one_of_from port [] n one = absurd one
one_of_from port (y ∷ ys) n one = by (λ o. one_of_from port ys n o) (one_parts n (cond (y.port == port) (number_of y.frame) []) (carried_by port ys) one)
  where
    later : IsBodyOf port ys n → IsBodyOf port (y ∷ ys) n
    later k = record { sent = k.sent; among = inr k.among; port_is = k.port_is; carry = k.carry; frame_is = k.frame_is; number = k.number }

    by_frame : y.port ≡ port → (f : Frame) → y.frame ≡ f → IsOneOf n (number_of f) → IsBodyOf port (y ∷ ys) n
    by_frame at (Carry f) is (inl same) = record { sent = y; among = inl refl; port_is = at; carry = f; frame_is = is; number = same }
    by_frame at (Carry f) is (inr none) = absurd none
    by_frame at (Ack e from to k) is o = absurd o
    by_frame at (Probe from nonce) is o = absurd o
    by_frame at (Reply from to nonce) is o = absurd o

    by_port : (b : Bool) → (y.port == port) ≡ b → IsOneOf n (cond b (number_of y.frame) []) → IsBodyOf port (y ∷ ys) n
    by_port true at o = by_frame (eqb-true y.port port at) y.frame refl o
    by_port false at o = absurd o

    by : (IsOneOf n (carried_by port ys) → IsBodyOf port ys n) → IsOneOf n (cond (y.port == port) (number_of y.frame) []) ⊎ IsOneOf n (carried_by port ys) → IsBodyOf port (y ∷ ys) n
    by rest (inl o) = by_port (y.port == port) refl o
    by rest (inr o) = later (rest o)
