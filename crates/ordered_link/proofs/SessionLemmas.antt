use Rattle.std.proofs.Common.{◌≡◌, ◌∙◌, sym, ap, subst, refl, ℕ, zero, suc, ◌+◌, ◌-◌, ◌≤◌, List, [], ◌∷◌, ◌++◌, length, arith, Option, Some, None, Bool, true, false, cond, slice_get, append_assoc, ◌⊎◌, inl, inr, nat_le, ◌==◌, nat_lt, eqb-true, append-nil}
use Rattle.std.proofs.lemmas.List.{length_push}
use Rattle.std.proofs.lemmas.Bool.{ltb-true, and_parts}
use Rattle.std.proofs.lemmas.Option.{none-some, same_Some, cond_some}
use Rattle.an_base.specs.declared.body.Body.{Body}
use Rattle.common_values.proofs.ListLemmas.{get_front}
use Rattle.ordered_link.specs.Sending.{Sending, highest, may_send, next_to_send, send_next, is_waiting, with_pushed, push, sent_by_push, is_outstanding, forget, acknowledge, sent_by_ack, send_again}
use Rattle.ordered_link.specs.Receiving.{Receiving, last, come, hold, accept, has_come, follow_with}
use Rattle.ordered_link.specs.Session.{Session, Numbered, IsFrontOf, Event, numbered, put_out, sends, body_comes, ack_comes, happens, run, start}
use Rattle.ordered_link.specs.Session.Event.{Push, More, Send_again, Body_comes, Follow, Answer, Ack_comes}
use Rattle.common_values.proofs.TestLemmas.{by_choice}

-- the body with this number, from 1, is this one
pub record IsBody (pushed : List Body) (k : ℕ) (body : Body) : Type 0 where
  pub least : 1 ≤ k
  pub there : slice_get pushed (k - 1) ≡ Some body

abbrev AreBodies : List Body → List Numbered → Type 0
AreBodies pushed xs = (i : ℕ) (x : Numbered) → slice_get xs i ≡ Some x → IsBody pushed x.number x.body

-- What holds at any time: the accepted bodies are a front of those pushed, each body that is held or on a wire is the pushed one of its number, and no acknowledgement is above the last accepted one
pub record IsSound (w : Session) : Type 0 where
  pub order : IsFrontOf w.receiving.accepted w.sending.pushed
  pub held : (k : ℕ) (b : Body) → w.receiving.held k ≡ Some b → IsBody w.sending.pushed k b
  pub bodies : (i : ℕ) (x : Numbered) → slice_get w.bodies i ≡ Some x → IsBody w.sending.pushed x.number x.body
  pub acks : (i n : ℕ) → slice_get w.acks i ≡ Some n → n ≤ last w.receiving
  pub acked : w.sending.acked ≤ last w.receiving

chosen : {A : Type 0} (b : Bool) (x y z : A) → cond b x y ≡ z → ((b ≡ true) × (x ≡ z)) ⊎ (y ≡ z)
chosen true x y z h = inl (refl, h)
chosen false x y z h = inr h

get_behind : {X : Type 0} (xs ys : List X) → slice_get (xs ++ ys) (length xs) ≡ slice_get ys 0
get_behind [] ys = refl
get_behind (x ∷ xs) ys = get_behind xs ys

front_next : (accepted rest : List Body) (b : Body) → slice_get rest 0 ≡ Some b → IsFrontOf (accepted ++ b ∷ []) (accepted ++ rest)
front_next accepted [] b h = absurd (none-some b h)
front_next accepted (y ∷ rest) b h = (rest, append_assoc accepted (b ∷ []) rest ∙ ap (λ z. accepted ++ z ∷ rest) (sym (same_Some y b h)))

-- one more body is accepted
front_more : (accepted pushed : List Body) (b : Body) → IsFrontOf accepted pushed → slice_get pushed (length accepted) ≡ Some b → IsFrontOf (accepted ++ b ∷ []) pushed
front_more accepted pushed b front next =
    subst (λ l. IsFrontOf (accepted ++ b ∷ []) l) front.1
    (front_next accepted front.0 b (sym (get_behind accepted front.0) ∙ ap (λ l. slice_get l (length accepted)) front.1 ∙ next))

-- bodies stay when more are pushed
pub body_more : (pushed more : List Body) (k : ℕ) (b : Body) → IsBody pushed k b → IsBody (pushed ++ more) k b
body_more pushed more k b h = record { least = h.least; there = get_front pushed more (k - 1) b h.there }

-- a body keeps its number where more stands behind
pub body_front : (pushed whole : List Body) (k : ℕ) (b : Body) → IsFrontOf pushed whole → IsBody pushed k b → IsBody whole k b
body_front pushed whole k b front is = subst (λ (l : List Body). IsBody l k b) front.1 (body_more pushed front.0 k b is)

-- fronts
pub front_itself : (xs : List Body) → IsFrontOf xs xs
front_itself xs = ([], append-nil xs)

pub front_same : (xs ys : List Body) → ys ≡ xs → IsFrontOf xs ys
front_same xs ys is = ([], append-nil xs ∙ sym is)

pub front_trans : (xs ys zs : List Body) → IsFrontOf xs ys → IsFrontOf ys zs → IsFrontOf xs zs
front_trans xs ys zs f g = (f.0 ++ g.0, sym (append_assoc xs f.0 g.0) ∙ ap (λ (r : List Body). r ++ g.0) f.1 ∙ g.1)

front_longer : (accepted pushed more : List Body) → IsFrontOf accepted pushed → IsFrontOf accepted (pushed ++ more)
front_longer accepted pushed more front = (front.0 ++ more, sym (append_assoc accepted front.0 more) ∙ ap (λ l. l ++ more) front.1)

-- what goes out is the pushed body of its number
numbered_are : (pushed : List Body) (k : ℕ) (o : Option Body) (xs : List Numbered) → 1 ≤ k → slice_get pushed (k - 1) ≡ o → AreBodies pushed xs → AreBodies pushed (numbered k o ++ xs)
numbered_are pushed k None xs least there are i x h = are i x h
numbered_are pushed k (Some b) xs least there are zero x h = subst (λ (y : Numbered). IsBody pushed y.number y.body) (same_Some _ x h) (record { least = least; there = there })
numbered_are pushed k (Some b) xs least there are (suc i) x h = are i x h

put_out_are : (s : Sending) (number : Option ℕ) (xs : List Numbered) → ((k : ℕ) → number ≡ Some k → 1 ≤ k) → AreBodies s.pushed xs → AreBodies s.pushed (put_out s number ++ xs)
put_out_are s None xs least are i x h = are i x h
put_out_are s (Some k) xs least are i x h = numbered_are s.pushed k (slice_get s.pushed (k - 1)) xs (least k refl) refl are i x h

-- the sender did something, and more may be pushed
sound_sends : (w : Session) (s : Sending) (number : Option ℕ) (more : List Body) → IsSound w → s.pushed ≡ w.sending.pushed ++ more → s.acked ≤ last w.receiving → ((k : ℕ) → number ≡ Some k → 1 ≤ k) → IsSound (sends s number w)
sound_sends w s number more sound pushed acked least =
    record {
      order = subst (λ l. IsFrontOf w.receiving.accepted l) (sym pushed) (front_longer w.receiving.accepted w.sending.pushed more sound.order);
      held = λ k b h. still k b (sound.held k b h);
      bodies = put_out_are s number w.bodies least (λ i x h. still x.number x.body (sound.bodies i x h));
      acks = sound.acks;
      acked = acked;
    }
  where
    still : (k : ℕ) (b : Body) → IsBody w.sending.pushed k b → IsBody s.pushed k b
    still k b is = subst (λ l. IsBody l k b) (sym pushed) (body_more w.sending.pushed more k b is)

pub next_least : (s : Sending) (k : ℕ) → next_to_send s ≡ Some k → 1 ≤ k
next_least s k h = let e = (cond_some (may_send s) (highest s + 1) k h).1 in omega (arith, e)

-- sending the next body changes neither what was pushed nor what is acknowledged
pub sent_pushed : (now : ℕ) (s : Sending) → (send_next now s).pushed ≡ s.pushed
sent_pushed now s = by_choice (λ (z : Sending). z.pushed ≡ s.pushed) (may_send s) _ s (λ _. refl) (λ _. refl)

pub sent_acked : (now : ℕ) (s : Sending) → (send_next now s).acked ≡ s.acked
sent_acked now s = by_choice (λ (z : Sending). z.acked ≡ s.acked) (may_send s) _ s (λ _. refl) (λ _. refl)

pub push_pushed : (b : Body) (now : ℕ) (s : Sending) → (push b now s).pushed ≡ s.pushed ++ b ∷ []
push_pushed b now s = by_choice (λ (z : Sending). z.pushed ≡ s.pushed ++ b ∷ []) (is_waiting s) _ _ (λ _. refl) (λ _. sent_pushed now (with_pushed b s))

pub push_acked : (b : Body) (now : ℕ) (s : Sending) → (push b now s).acked ≡ s.acked
push_acked b now s = by_choice (λ (z : Sending). z.acked ≡ s.acked) (is_waiting s) _ _ (λ _. refl) (λ _. sent_acked now (with_pushed b s))

pub push_least : (b : Body) (s : Sending) (k : ℕ) → sent_by_push b s ≡ Some k → 1 ≤ k
push_least b s k = by_choice (λ (o : Option ℕ). o ≡ Some k → 1 ≤ k) (is_waiting s) _ _ (λ _ h. absurd (none-some k h)) (λ _ h. next_least (with_pushed b s) k h)

pub ack_pushed : (n now : ℕ) (s : Sending) → (acknowledge n now s).pushed ≡ s.pushed
ack_pushed n now s = by_choice (λ (z : Sending). z.pushed ≡ s.pushed) (is_outstanding n s) _ s (λ _. sent_pushed now (forget n s)) (λ _. refl)

ack_acked : (n now most : ℕ) (s : Sending) → n ≤ most → s.acked ≤ most → (acknowledge n now s).acked ≤ most
ack_acked n now most s new old = by_choice (λ (z : Sending). z.acked ≤ most) (is_outstanding n s) _ s (λ _. subst (λ a. a ≤ most) (sym (sent_acked now (forget n s))) new) (λ _. old)

pub ack_least : (n : ℕ) (s : Sending) (k : ℕ) → sent_by_ack n s ≡ Some k → 1 ≤ k
ack_least n s k = by_choice (λ (o : Option ℕ). o ≡ Some k → 1 ≤ k) (is_outstanding n s) _ _ (λ _ h. next_least (forget n s) k h) (λ _ h. absurd (none-some k h))

-- the wanted body is accepted
sound_accept : (w : Session) (b : Body) → IsSound w → slice_get w.sending.pushed (last w.receiving) ≡ Some b → IsSound (record w { receiving = accept b w.receiving })
sound_accept w b sound next =
    record {
      order = front_more w.receiving.accepted w.sending.pushed b sound.order next;
      held = sound.held;
      bodies = sound.bodies;
      acks = λ i n h. let le = sound.acks i n h in omega (arith, le, longer);
      acked = omega (arith, sound.acked, longer);
    }
  where
    longer : length (w.receiving.accepted ++ b ∷ []) ≡ length w.receiving.accepted + 1
    longer = length_push w.receiving.accepted b

-- a place is filled with the body of its number, or emptied
sound_hold : (w : Session) (k : ℕ) (o : Option Body) → IsSound w → ((b : Body) → o ≡ Some b → IsBody w.sending.pushed k b) → IsSound (record w { receiving = hold k o w.receiving })
sound_hold w k o sound new =
    record {
      order = sound.order;
      held = λ j b h. filled j b (chosen (j == k) o (w.receiving.held j) (Some b) h);
      bodies = sound.bodies;
      acks = sound.acks;
      acked = sound.acked;
    }
  where
    filled : (j : ℕ) (b : Body) → (((j == k) ≡ true) × (o ≡ Some b)) ⊎ (w.receiving.held j ≡ Some b) → IsBody w.sending.pushed j b
    filled j b (inl h) = subst (λ i. IsBody w.sending.pushed i b) (sym (eqb-true j k h.0)) (new b h.1)
    filled j b (inr h) = sound.held j b h

sound_come : (w : Session) (k : ℕ) (b : Body) → IsSound w → IsBody w.sending.pushed k b → IsSound (record w { receiving = come k b w.receiving })
sound_come w k b sound is =
    by_choice P (has_come k r) r _ (λ _. sound) (λ _.
    by_choice P (k == last r + 1) (accept b r) _ (λ wanted. sound_accept w b sound (place wanted)) (λ _.
    by_choice P (nat_le k (last r + 8)) (hold k (Some b) r) r (λ _. sound_hold w k (Some b) sound (λ c h. subst (λ d. IsBody w.sending.pushed k d) (same_Some b c h) is)) (λ _. sound)))
  where
    r : Receiving
    r = w.receiving

    P : Receiving → Type 0
    P z = IsSound (record w { receiving = z })

    place : (k == last r + 1) ≡ true → slice_get w.sending.pushed (last r) ≡ Some b
    place wanted = subst (λ i. slice_get w.sending.pushed i ≡ Some b) (let e = eqb-true k (last r + 1) wanted in omega (arith, e)) is.there

sound_follow : (w : Session) (o : Option Body) → w.receiving.held (last w.receiving + 1) ≡ o → IsSound w → IsSound (record w { receiving = follow_with o w.receiving })
sound_follow w None held sound = sound
sound_follow w (Some b) held sound =
    sound_hold (record w { receiving = accept b w.receiving }) (last w.receiving + 1) None
    (sound_accept w b sound (subst (λ i. slice_get w.sending.pushed i ≡ Some b) (omega arith) (sound.held (last w.receiving + 1) b held).there))
    (λ c h. absurd (none-some c h))

sound_body : (w : Session) (i : ℕ) (o : Option Numbered) → slice_get w.bodies i ≡ o → IsSound w → IsSound (body_comes o w)
sound_body w i None at sound = sound
sound_body w i (Some x) at sound = sound_come w x.number x.body sound (sound.bodies i x at)

sound_ack : (w : Session) (i : ℕ) (o : Option ℕ) (now : ℕ) → slice_get w.acks i ≡ o → IsSound w → IsSound (ack_comes o now w)
sound_ack w i None now at sound = sound
sound_ack w i (Some n) now at sound =
    sound_sends w (acknowledge n now w.sending) (sent_by_ack n w.sending) [] sound
    (ack_pushed n now w.sending ∙ sym (append-nil w.sending.pushed))
    (ack_acked n now (last w.receiving) w.sending (sound.acks i n at) sound.acked)
    (ack_least n w.sending)

sound_answer : (w : Session) → IsSound w → IsSound (record w { acks = last w.receiving ∷ w.acks })
sound_answer w sound = record { order = sound.order; held = sound.held; bodies = sound.bodies; acks = answered; acked = sound.acked }
  where
    answered : (i n : ℕ) → slice_get (last w.receiving ∷ w.acks) i ≡ Some n → n ≤ last w.receiving
    answered zero n h = let e = same_Some (last w.receiving) n h in omega (arith, e)
    answered (suc i) n h = sound.acks i n h

sound_again : (w : Session) (k now : ℕ) → is_outstanding k w.sending ≡ true → IsSound w → IsSound (sends (send_again k now w.sending) (Some k) w)
sound_again w k now out sound =
    sound_sends w (send_again k now w.sending) (Some k) [] sound (sym (append-nil w.sending.pushed)) sound.acked
    (λ j h. let e = same_Some k j h in let f = ltb-true w.sending.acked k (and_parts (nat_lt w.sending.acked k) (nat_le k (highest w.sending)) out).0 in omega (arith, e, f))

-- one thing happens
pub sound_happens : (e : Event) (w : Session) → IsSound w → IsSound (happens e w)
sound_happens (Push b now) w sound =
    sound_sends w (push b now w.sending) (sent_by_push b w.sending) (b ∷ []) sound (push_pushed b now w.sending)
    (subst (λ a. a ≤ last w.receiving) (sym (push_acked b now w.sending)) sound.acked) (push_least b w.sending)
sound_happens (More now) w sound =
    sound_sends w (send_next now w.sending) (next_to_send w.sending) [] sound (sent_pushed now w.sending ∙ sym (append-nil w.sending.pushed))
    (subst (λ a. a ≤ last w.receiving) (sym (sent_acked now w.sending)) sound.acked) (next_least w.sending)
sound_happens (Send_again k now) w sound = by_choice IsSound (is_outstanding k w.sending) _ w (λ out. sound_again w k now out sound) (λ _. sound)
sound_happens (Body_comes which) w sound = sound_body w which (slice_get w.bodies which) refl sound
sound_happens Follow w sound = sound_follow w (w.receiving.held (last w.receiving + 1)) refl sound
sound_happens Answer w sound = sound_answer w sound
sound_happens (Ack_comes which now) w sound = sound_ack w which (slice_get w.acks which) now refl sound

-- a whole schedule
pub sound_run : (events : List Event) (w : Session) → IsSound w → IsSound (run events w)
sound_run [] w sound = sound
sound_run (e ∷ es) w sound = sound_run es (happens e w) (sound_happens e w sound)

pub sound_start : IsSound start
sound_start = record { order = ([], refl); held = λ k b h. absurd (none-some b h); bodies = λ i x h. absurd (none-some x h); acks = λ i n h. absurd (none-some n h); acked = omega arith }
