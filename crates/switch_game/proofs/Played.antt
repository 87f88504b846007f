use Rattle.std.proofs.Common.{◌≡◌, ◌∙◌, sym, ap, refl, subst, ℕ, ◌≤◌, arith, List, [], ◌∷◌, ◌++◌, length, Some, is_some, Bool, true, false, cond, not, ◌&&◌, ◌⊎◌, inl, inr}
use Rattle.std.proofs.lemmas.Option.{none-some}
use Rattle.std.specs.Ordering.{is_eq}
use Rattle.an_base.specs.Values.{EndId, LifeId}
use Rattle.an_base.specs.Order.{life_cmp}
use Rattle.an_base.specs.Frames.{CarryOf}
use Rattle.an_base.specs.declared.body.Body.{Body}
use Rattle.an_base.specs.declared.frame.Frame.{Frame}
use Rattle.an_base.specs.declared.frame.Frame.TheVariants.{Carry, Ack, Probe, Reply}
use Rattle.an_base.proofs.LifeLemmas.{same_life}
use Rattle.ordered_link.specs.Session.{IsFrontOf}
use Rattle.ordered_link.proofs.SessionLemmas.{IsBody, body_front}
use Rattle.epoch_core.specs.Log.{CardOf, Log, on_port}
use Rattle.epoch_game.specs.Slice.{Earlier, Node, link_at}
use Rattle.epoch_game.specs.Streams.{HasGrown}
use Rattle.epoch_game.specs.Game.{Game, Play, begins, slice}
use Rattle.epoch_game.proofs.Nodes.{life_ne}
use Rattle.epoch_game.proofs.GameLemmas.{later_run}
use Rattle.epoch_game.proofs.StreamLemmas.{has_grown}
use Rattle.switch_core.specs.Switch.{SwitchOf, finish_of}
use Rattle.switch_core.specs.Steps.{Sent, Step, after, peer_among}
use Rattle.switch_core.proofs.SendsLemmas.{AreSentBy}
use Rattle.switch_core.specs.Going.{IsAckedBy, IsCarriedBy, IsFrameOf}
use Rattle.switch_game.specs.Network.{with_switch}
use Rattle.switch_game.specs.Playing.{Agrees, node_of}
use Rattle.switch_game.proofs.Streams.{count_grows, stream, stream_grows}
use Rattle.switch_game.proofs.Links.{same_link}
use Rattle.switch_game.proofs.Moves.{IsElsewhere, play_trans}
use Rattle.switch_game.proofs.Own.{IsOwn}

-- the far end of a port has joined, and names it back
pub record NamesBack (g : Game) (x : LifeId) (c : CardOf) (e p : ℕ) : Type 0 where
  pub far : EndId
  pub named : link_at p c.links ≡ Some far
  pub node : Node
  pub joined : g.nodes far.life e ≡ Some node
  pub back : link_at far.port node.card.links ≡ Some (record { life = x; port = p })

-- a body of the stream that comes in by a port, whose far end has joined and names it back
pub record ComesIn (g : Game) (x : LifeId) (c : CardOf) (e p k : ℕ) (b : Body) : Type 0 where
  pub there : NamesBack g x c e p
  pub open there use {far, named, node, joined, back}
  pub body : IsBody (stream node.card far.port node.log) k b

-- the far end of a port has joined, names it back, and has accepted so many bodies from there
pub record IsHeard (g : Game) (x : LifeId) (c : CardOf) (e q n : ℕ) : Type 0 where
  pub there : NamesBack g x c e q
  pub open there use {far, named, node, joined, back}
  pub few : n ≤ length (on_port far.port node.log)

-- A frame that was sent is true: a body is that of its number in the stream of its sender
pub record IsCarriedIn (g : Game) (f : CarryOf) : Type 0 where
  pub node : Node
  pub joined : g.nodes f.from.life f.epoch ≡ Some node
  pub to : link_at f.from.port node.card.links ≡ Some f.to
  pub body : IsBody (stream node.card f.from.port node.log) f.number f.body

-- and an acknowledgement is of no more than its sender accepted
pub record IsAckedIn (g : Game) (e : ℕ) (from to : EndId) (n : ℕ) : Type 0 where
  pub node : Node
  pub joined : g.nodes from.life e ≡ Some node
  pub to_is : link_at from.port node.card.links ≡ Some to
  pub few : n ≤ length (on_port from.port node.log)

abbrev pub IsTold : Game → Frame → Type 0
IsTold g (Carry f) = IsCarriedIn g f
IsTold g (Ack e from to n) = IsAckedIn g e from to n
IsTold g (Probe from nonce) = Unit {0}
IsTold g (Reply from to nonce) = Unit {0}

abbrev pub AreTold : Game → List Sent → Type 0
AreTold g [] = Unit {0}
AreTold g (x ∷ xs) = IsTold g x.frame × AreTold g xs

-- what is acknowledged on a port was accepted at its far end
abbrev pub IsCounted : Game → LifeId → SwitchOf → ℕ → Type 0
IsCounted g x s q = ((s.sendings q).acked ≡ 0) ⊎ IsHeard g x s.card s.epoch q (s.sendings q).acked

-- the switch of x plays its part in the game
pub record IsPart (g : Game) (x : LifeId) (s : SwitchOf) : Type 0 where
  pub own : IsOwn x s
  pub agrees : Agrees x s g
  pub held : (p k : ℕ) (b : Body) → (s.receivings p).held k ≡ Some b → ComesIn g x s.card s.epoch p k b
  pub acked : (q : ℕ) → IsCounted g x s q

-- and so do all
pub record IsPlayed (lives : List LifeId) (first : LifeId → ℕ) (switches : LifeId → SwitchOf) (g : Game) : Type 0 where
  pub play : Play lives (begins first) g
  pub parts : (x : LifeId) → IsPart g x (switches x)

-- All of it lasts, whatever is played
grown : (lives : List LifeId) (first : LifeId → ℕ) (g h : Game) (x : LifeId) (e : ℕ) (n : Node) → Play lives (begins first) g → Play lives g h → g.nodes x e ≡ Some n → HasGrown (slice e h) x n
grown lives first g h x e n play more sx = has_grown lives (slice e g) (slice e h) x n (later_run lives first g h e play more) sx

stream_later : (a b : CardOf) (q : ℕ) (h l : Log) → b ≡ a → Earlier h l → IsFrontOf (stream a q h) (stream b q l)
stream_later a b q h l same e = subst (λ (c : CardOf). IsFrontOf (stream a q h) (stream c q l)) (sym same) (stream_grows a q h l e)

back_later : (lives : List LifeId) (first : LifeId → ℕ) (g h : Game) (x : LifeId) (c : CardOf) (e p : ℕ) → Play lives (begins first) g → Play lives g h → NamesBack g x c e p → NamesBack h x c e p
back_later lives first g h x c e p play more w =
    let n = grown lives first g h w.far.life e w.node play more w.joined in
    let back = ap (λ (d : CardOf). link_at w.far.port d.links) n.card ∙ w.back in
    record { far = w.far; named = w.named; node = n.node; joined = n.joined; back = back }

-- what came of a body stays so as the game goes on
pub held_later : (lives : List LifeId) (first : LifeId → ℕ) (g h : Game) (x : LifeId) (c : CardOf) (e p k : ℕ) (b : Body) → Play lives (begins first) g → Play lives g h → ComesIn g x c e p k b → ComesIn h x c e p k b
unfolding back_later grown
held_later lives first g h x c e p k b play more w =
    let n = grown lives first g h w.far.life e w.node play more w.joined in
    record {
      there = back_later lives first g h x c e p play more w.there;
      body = body_front (stream w.node.card w.far.port w.node.log) (stream n.node.card w.far.port n.node.log) k b (stream_later w.node.card n.node.card w.far.port w.node.log n.node.log n.card n.log) w.body;
    }

heard_later : (lives : List LifeId) (first : LifeId → ℕ) (g h : Game) (x : LifeId) (c : CardOf) (e q m : ℕ) → Play lives (begins first) g → Play lives g h → IsHeard g x c e q m → IsHeard h x c e q m
unfolding back_later grown
heard_later lives first g h x c e q m play more w =
    let n = grown lives first g h w.far.life e w.node play more w.joined in
    let longer = count_grows w.far.port w.node.log n.node.log n.log in
    record { there = back_later lives first g h x c e q play more w.there; few = omega (arith, w.few, longer) }

pub counted_later : (lives : List LifeId) (first : LifeId → ℕ) (g h : Game) (x : LifeId) (c : CardOf) (e q m : ℕ) → Play lives (begins first) g → Play lives g h → (m ≡ 0) ⊎ IsHeard g x c e q m → (m ≡ 0) ⊎ IsHeard h x c e q m
counted_later lives first g h x c e q m play more (inl none) = inl none
counted_later lives first g h x c e q m play more (inr w) = inr (heard_later lives first g h x c e q m play more w)

pub told_later : (lives : List LifeId) (first : LifeId → ℕ) (g h : Game) (frame : Frame) → Play lives (begins first) g → Play lives g h → IsTold g frame → IsTold h frame
told_later lives first g h (Carry f) play more w =
    let n = grown lives first g h f.from.life f.epoch w.node play more w.joined in
    record {
      node = n.node;
      joined = n.joined;
      to = ap (λ (d : CardOf). link_at f.from.port d.links) n.card ∙ w.to;
      body = body_front (stream w.node.card f.from.port w.node.log) (stream n.node.card f.from.port n.node.log) f.number f.body (stream_later w.node.card n.node.card f.from.port w.node.log n.node.log n.card n.log) w.body;
    }
told_later lives first g h (Ack e from to m) play more w =
    let n = grown lives first g h from.life e w.node play more w.joined in
    let longer = count_grows from.port w.node.log n.node.log n.log in
    record { node = n.node; joined = n.joined; to_is = ap (λ (d : CardOf). link_at from.port d.links) n.card ∙ w.to_is; few = omega (arith, w.few, longer) }
told_later lives first g h (Probe from nonce) play more w = tt
told_later lives first g h (Reply from to nonce) play more w = tt

pub all_later : (lives : List LifeId) (first : LifeId → ℕ) (g h : Game) (xs : List Sent) → Play lives (begins first) g → Play lives g h → AreTold g xs → AreTold h xs
all_later lives first g h [] play more w = tt
all_later lives first g h (x ∷ xs) play more w = (told_later lives first g h x.frame play more w.0, all_later lives first g h xs play more w.1)

pub told_append : (g : Game) (xs ys : List Sent) → AreTold g xs → AreTold g ys → AreTold g (xs ++ ys)
told_append g [] ys a b = b
told_append g (x ∷ xs) ys a b = (a.0, told_append g xs ys a.1 b)

-- What goes out is true
carried_told : (b : Bool) (x : LifeId) (t : SwitchOf) (h : Game) (p : ℕ) (f : CarryOf) → t.joined ≡ b → IsOwn x t → Agrees x t h → IsCarriedBy t p f → IsCarriedIn h f
carried_told false x t h p f not_joined own agrees s = absurd (none-some f.to (sym (ap (λ ls. peer_among ls p) (own.no_links not_joined)) ∙ s.to))
carried_told true x t h p f joined own agrees s =
    let port : f.from.port ≡ p = ap (λ (d : EndId). d.port) s.from in
    let all = own.pushed joined p (ap is_some s.to) in
    record {
      node = node_of t;
      joined = ap (λ (d : EndId). h.nodes d.life f.epoch) s.from ∙ ap (λ (l : LifeId). h.nodes l f.epoch) own.life ∙ ap (h.nodes x) s.epoch ∙ agrees.joined joined;
      to = ap (λ (q : ℕ). link_at q t.card.links) port ∙ sym (same_link t.card.links p) ∙ s.to;
      body = subst (λ (q : ℕ). IsBody (stream t.card q t.log) f.number f.body) (sym port) (subst (λ (l : List Body). IsBody l f.number f.body) all (record { least = s.least; there = s.body }));
    }

acked_told : (b : Bool) (x : LifeId) (t : SwitchOf) (h : Game) (p e : ℕ) (from to : EndId) (n : ℕ) → t.joined ≡ b → IsOwn x t → Agrees x t h → IsAckedBy t p e from to n → IsAckedIn h e from to n
acked_told false x t h p e from to n not_joined own agrees s = absurd (none-some to (sym (ap (λ ls. peer_among ls p) (own.no_links not_joined)) ∙ s.to_is))
acked_told true x t h p e from to n joined own agrees s =
    let port : from.port ≡ p = ap (λ (d : EndId). d.port) s.from_is in
    let all : length (t.receivings p).accepted ≡ length (on_port from.port t.log) =
    ap length (own.accepted p) ∙ Rattle.std.proofs.lemmas.List.length-reverse (on_port p t.log) ∙ ap (λ (q : ℕ). length (on_port q t.log)) (sym port) in
    record {
      node = node_of t;
      joined = ap (λ (d : EndId). h.nodes d.life e) s.from_is ∙ ap (λ (l : LifeId). h.nodes l e) own.life ∙ ap (h.nodes x) s.epoch_is ∙ agrees.joined joined;
      to_is = ap (λ (q : ℕ). link_at q t.card.links) port ∙ sym (same_link t.card.links p) ∙ s.to_is;
      few = omega (arith, s.few, all);
    }

sent_told : (x : LifeId) (t : SwitchOf) (h : Game) (p : ℕ) (frame : Frame) → IsOwn x t → Agrees x t h → IsFrameOf t p frame → IsTold h frame
sent_told x t h p (Carry f) own agrees s = carried_told t.joined x t h p f refl own agrees s
sent_told x t h p (Ack e from to n) own agrees s = acked_told t.joined x t h p e from to n refl own agrees s
sent_told x t h p (Probe from nonce) own agrees s = tt
sent_told x t h p (Reply from to nonce) own agrees s = tt

pub all_told : (x : LifeId) (t : SwitchOf) (h : Game) (xs : List Sent) → IsOwn x t → Agrees x t h → AreSentBy t xs → AreTold h xs
all_told x t h [] own agrees s = tt
all_told x t h (y ∷ ys) own agrees s = (sent_told x t h y.port y.frame own agrees s.0, all_told x t h ys own agrees s.1)

-- One life takes its part anew, and the others keep theirs
part_later : (lives : List LifeId) (first : LifeId → ℕ) (g h : Game) (x y : LifeId) (s : SwitchOf) → Play lives (begins first) g → Play lives g h → IsElsewhere x g h → (x ≡ y → ⊥) → IsPart g y s → IsPart h y s
part_later lives first g h x y s play more else ne part = record {
  own = part.own;
  agrees =
      let a = part.agrees in
      record {
        present = else.present y ne ∙ a.present;
        joined = λ is. else.nodes y s.epoch ne ∙ a.joined is;
        unjoined = λ e is. else.nodes y e ne ∙ a.unjoined e is;
        load_due = a.load_due ∙ ap (λ (b : Bool). is_some (finish_of s) && not b) (sym (else.loaded y s.epoch ne));
      };
  held = λ p k b is. held_later lives first g h y s.card s.epoch p k b play more (part.held p k b is);
  acked = λ q. counted_later lives first g h y s.card s.epoch q (s.sendings q).acked play more (part.acked q);
}

switch_cases : (switches : LifeId → SwitchOf) (x y : LifeId) (t : SwitchOf) (P : LifeId → SwitchOf → Type 0) → P x t → ((x ≡ y → ⊥) → P y (switches y)) → P y (with_switch switches x t y)
switch_cases switches x y t P here else = by (is_eq (life_cmp x y)) refl
  where
    by : (b : Bool) → is_eq (life_cmp x y) ≡ b → P y (cond b t (switches y))
    by true is = subst (λ (z : LifeId). P z t) (same_life x y is) here
    by false is = else (life_ne x y is)

pub takes_part : (lives : List LifeId) (first : LifeId → ℕ) (switches : LifeId → SwitchOf) (g h : Game) (x : LifeId) (t : SwitchOf) → IsPlayed lives first switches g → Play lives g h → IsElsewhere x g h → IsPart h x t
    → IsPlayed lives first (with_switch switches x t) h
takes_part lives first switches g h x t played more else part = record {
  play = play_trans lives (begins first) g h played.play more;
  parts = λ y. switch_cases switches x y t (IsPart h) part (λ ne. part_later lives first g h x y (switches y) played.play more else ne (played.parts y));
}

-- a step of x is these moves, and what goes out by it is true
pub record Plays (lives : List LifeId) (first : LifeId → ℕ) (switches : LifeId → SwitchOf) (x : LifeId) (step : Step) (g h : Game) : Type 0 where
  pub play : Play lives g h
  pub played : IsPlayed lives first (with_switch switches x step.switch) h
  pub told : AreTold h step.frames

pub plays_part : (lives : List LifeId) (first : LifeId → ℕ) (switches : LifeId → SwitchOf) (x : LifeId) (step : Step) (g h : Game) → IsPlayed lives first switches g → Play lives g h → IsElsewhere x g h → IsPart h x step.switch → AreSentBy step.switch step.frames
    → Plays lives first switches x step g h
plays_part lives first switches x step g h played more else part sent = record {
  play = more;
  played = takes_part lives first switches g h x step.switch played more else part;
  told = all_told x step.switch h step.frames part.own part.agrees sent;
}

-- one step after another
twice : (switches : LifeId → SwitchOf) (x : LifeId) (s t : SwitchOf) (y : LifeId) → with_switch (with_switch switches x s) x t y ≡ with_switch switches x t y
twice switches x s t y = by (is_eq (life_cmp x y))
  where
    by : (b : Bool) → cond b t (cond b s (switches y)) ≡ cond b t (switches y)
    by true = refl
    by false = refl

pub plays_then : (lives : List LifeId) (first : LifeId → ℕ) (switches : LifeId → SwitchOf) (x : LifeId) (a b : Step) (f g h : Game) → Play lives (begins first) f → Plays lives first switches x a f g → Plays lives first (with_switch switches x a.switch) x b g h
    → Plays lives first switches x (after a b) f h
plays_then lives first switches x a b f g h play one two = record {
  play = play_trans lives f g h one.play two.play;
  played = subst (λ (sw : LifeId → SwitchOf). IsPlayed lives first sw h) (λ i y. twice switches x a.switch b.switch y i) two.played;
  told = told_append h a.frames b.frames (all_later lives first g h a.frames one.played.play two.play one.told) two.told;
}
