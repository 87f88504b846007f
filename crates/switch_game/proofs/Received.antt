use Rattle.std.proofs.Common.{◌≡◌, ◌∙◌, sym, ap, refl, subst, ℕ, zero, suc, ◌+◌, ◌≤◌, ◌==◌, nat_le, arith, List, [], ◌∷◌, ◌++◌, length, length-append, drop, slice_get, Option, Some, None, cond}
use Rattle.std.proofs.Math.Seq.{drop-append_seam}
use Rattle.std.proofs.lemmas.Bool.{cond_both}
use Rattle.std.proofs.lemmas.Option.{none-some, same_Some}
use Rattle.an_base.specs.declared.body.Body.{Body}
use Rattle.ordered_link.specs.declared.receiver.Verdict.{Verdict}
use Rattle.ordered_link.specs.declared.receiver.Verdict.TheVariants as verdict
use Rattle.ordered_link.specs.Sending.{unused}
use Rattle.ordered_link.specs.Receiving.{Receiving, accept, come, follow, follow_with, has_come, hold, last, verdict, accepted_by, after_verdict, follow_all, received}
use Rattle.ordered_link.specs.Session.{IsFrontOf, Numbered, Session}
use Rattle.ordered_link.specs.Session.Event.{Body_comes, Follow}
use Rattle.ordered_link.proofs.SessionLemmas.{IsBody, IsSound, sound_happens, front_itself, front_trans}

-- what was accepted stays in front of what is
abbrev IsLonger : Receiving → Receiving → Type 0
IsLonger a b = IsFrontOf a.accepted b.accepted

accept_longer : (body : Body) (r : Receiving) → IsLonger r (accept body r)
accept_longer body r = (body ∷ [], refl)

follow_longer : (o : Option Body) (r : Receiving) → IsLonger r (follow_with o r)
follow_longer None r = front_itself r.accepted
follow_longer (Some body) r = (body ∷ [], refl)

follow_all_longer : (n : ℕ) (r : Receiving) → IsLonger r (follow_all n r)
follow_all_longer zero r = front_itself r.accepted
follow_all_longer (suc n) r =
    front_trans r.accepted (follow r).accepted (follow_all n (follow r)).accepted (follow_longer (r.held (last r + 1)) r) (follow_all_longer n (follow r))

come_longer : (k : ℕ) (body : Body) (r : Receiving) → IsLonger r (come k body r)
come_longer k body r =
    let held = cond (nat_le k (last r + 8)) (hold k (Some body) r) r in
    cond_both (has_come k r) r (cond (k == last r + 1) (accept body r) held) (IsLonger r) (λ _. front_itself r.accepted)
    (λ _. cond_both (k == last r + 1) (accept body r) held (IsLonger r) (λ _. accept_longer body r)
    (λ _. cond_both (nat_le k (last r + 8)) (hold k (Some body) r) r (IsLonger r) (λ _. front_itself r.accepted) (λ _. front_itself r.accepted)))

verdict_longer : (v : Verdict) (a b : Receiving) → IsLonger a b → IsLonger a (after_verdict v b)
verdict_longer (verdict.Accepted body) a b so_far = front_trans a.accepted b.accepted (follow_all 7 b).accepted so_far (follow_all_longer 7 b)
verdict_longer (verdict.Held wanted got) a b so_far = so_far
verdict_longer (verdict.Repeat last) a b so_far = so_far
verdict_longer (verdict.Ahead wanted got) a b so_far = so_far

received_longer : (k : ℕ) (body : Body) (r : Receiving) → IsLonger r (received k body r)
received_longer k body r = verdict_longer (verdict k body r) r (come k body r) (come_longer k body r)

pub front_length : (xs ys : List Body) → IsFrontOf xs ys → length xs ≤ length ys
front_length xs ys f = let e = ap length f.1 in let g = length-append xs f.0 in omega (arith, e, g)

pub received_more : (k : ℕ) (body : Body) (r : Receiving) → last r ≤ last (received k body r)
received_more k body r = front_length r.accepted (received k body r).accepted (received_longer k body r)

-- what is accepted by a body that comes is what is accepted behind that of before
pub received_splits : (k : ℕ) (body : Body) (r : Receiving) → (received k body r).accepted ≡ r.accepted ++ accepted_by k body r
received_splits k body r =
    let f = received_longer k body r in
    sym f.1 ∙ ap (λ (l : List Body). r.accepted ++ l) (sym (drop-append_seam r.accepted f.0) ∙ ap (drop (last r)) f.1)

-- What came is of this stream: what was accepted is a front of it, and each held body has its number there
pub record HasCome (stream : List Body) (r : Receiving) : Type 0 where
  pub order : IsFrontOf r.accepted stream
  pub held : (k : ℕ) (b : Body) → r.held k ≡ Some b → IsBody stream k b

-- a session with this stream, of which one body is under way
abbrev session : List Body → Receiving → ℕ → Body → Session
session stream r k body = record { sending = record unused { pushed = stream }; receiving = r; bodies = record { number = k; body = body } ∷ []; acks = [] }

begins_sound : (stream : List Body) (r : Receiving) (k : ℕ) (body : Body) → HasCome stream r → IsBody stream k body → IsSound (session stream r k body)
begins_sound stream r k body come is = record {
  order = come.order;
  held = come.held;
  bodies = there;
  acks = λ i n h. absurd (none-some n h);
  acked = omega arith;
}
  where
    there : (i : ℕ) (x : Numbered) → slice_get (session stream r k body).bodies i ≡ Some x → IsBody stream x.number x.body
    there zero x h = subst (λ (y : Numbered). IsBody stream y.number y.body) (same_Some _ x h) is
    there (suc i) x h = absurd (none-some x h)

follows_sound : (n : ℕ) (w : Session) → IsSound w → IsSound (record w { receiving = follow_all n w.receiving })
follows_sound zero w sound = sound
follows_sound (suc n) w sound = follows_sound n (record w { receiving = follow w.receiving }) (sound_happens Follow w sound)

verdict_sound : (v : Verdict) (w : Session) → IsSound w → IsSound (record w { receiving = after_verdict v w.receiving })
verdict_sound (verdict.Accepted body) w sound = follows_sound 7 w sound
verdict_sound (verdict.Held wanted got) w sound = sound
verdict_sound (verdict.Repeat last) w sound = sound
verdict_sound (verdict.Ahead wanted got) w sound = sound

-- so it is with one more that comes
pub received_come : (stream : List Body) (k : ℕ) (body : Body) (r : Receiving) → HasCome stream r → IsBody stream k body → HasCome stream (received k body r)
received_come stream k body r come is =
    let w = session stream r k body in
    let came = sound_happens (Body_comes 0) w (begins_sound stream r k body come is) in
    let all = verdict_sound (verdict k body r) (record w { receiving = Rattle.ordered_link.specs.Receiving.come k body r }) came in
    record { order = all.order; held = all.held }
