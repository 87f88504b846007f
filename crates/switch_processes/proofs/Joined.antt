-- Who is in an epoch of the game has joined it in its process.

use Rattle.std.proofs.Common.{◌≡◌, ◌∙◌, sym, ap, refl, subst, ℕ, ◌==◌, List, [], ◌∷◌, Some, ◌⊎◌, inl, inr, Bool, true, false, cond}
use Rattle.std.specs.Prelude.{nat_lt}
use Rattle.std.proofs.lemmas.Option.{none-some}
use Rattle.an_base.specs.Values.{LifeId}
use Rattle.an_base.specs.Frames.{CarryOf}
use Rattle.an_base.specs.declared.body.Body.{Body}
use Rattle.an_base.specs.declared.frame.Frame.{Frame}
use Rattle.an_base.specs.declared.frame.Frame.TheVariants.{Carry, Ack, Probe, Reply}
use Rattle.ordered_link.specs.Receiving.{accepted_by}
use Rattle.epoch_core.specs.Log.{CardOf, Log}
use Rattle.epoch_game.specs.Slice.{Earlier, Node}
use Rattle.epoch_game.specs.Game.{Game, after_accept, after_join, with_node_in}
use Rattle.epoch_game.proofs.Lists.{earlier_itself, earlier_trans}
use Rattle.epoch_game.proofs.GameLemmas.{node_in}
use Rattle.switch_core.specs.Switch.{SwitchOf, counts}
use Rattle.switch_core.specs.Steps.{clocked, joins}
use Rattle.switch_game.specs.Network.{PowerOn, all_accepted, body_moves, carry_moves, frame_moves}
use Rattle.switch_game.specs.Playing.{Agrees}
use Rattle.switch_game.proofs.Moves.{present_here}
use Rattle.switch_game.proofs.Laws.{agrees}
use Rattle.switch_processes.specs.Processes.{Call, Clocks, HasJoined, Hears, Loads}
use Rattle.switch_processes.specs.Orders.{CallOf, call_moves, calls_of, game_after, network_after}
use Rattle.switch_processes.proofs.Ordered.{AllHappen, calls_more, same_switch}

-- a life is in an epoch of the game
abbrev pub IsIn : Game → LifeId → ℕ → Type 0
IsIn g x e = (n : Node) × (g.nodes x e ≡ Some n)

-- by these moves of a life it alone comes into an epoch, its present one
abbrev PutsIn : LifeId → Game → Game → Type 0
PutsIn x g h = (y : LifeId) (f : ℕ) → IsIn h y f → ((x ≡ y) × (f ≡ h.present x)) ⊎ IsIn g y f

pub put_cases : (g : Game) (e : ℕ) (x : LifeId) (n : Node) (y : LifeId) (f : ℕ) (m : Node) → with_node_in g e x n y f ≡ Some m → ((x ≡ y) × (e ≡ f)) ⊎ IsIn g y f
put_cases g e x n y f m is = elim (node_in g e x n y f m is) [ inl w ↦ inl (w.1, w.0) | inr was ↦ inr (m, was) ]

same_puts : (x : LifeId) (g : Game) → PutsIn x g g
same_puts x g y f i = inr i

join_puts : (x : LifeId) (g : Game) (e : ℕ) (c : CardOf) → PutsIn x g (after_join g x e c)
join_puts x g e c y f i = by (put_cases g e x (record { card = c; log = [] }) y f i.0 i.1)
  where
    by : ((x ≡ y) × (e ≡ f)) ⊎ IsIn g y f → ((x ≡ y) × (f ≡ (after_join g x e c).present x)) ⊎ IsIn g y f
    by (inl w) = inl (w.0, sym w.1 ∙ sym (present_here g x e))
    by (inr was) = inr was

accept_puts : (x : LifeId) (g : Game) (n : Node) (p : ℕ) (b : Body) → PutsIn x g (after_accept g x n p b)
accept_puts x g n p b y f i = by (put_cases g (g.present x) x (record { card = n.card; log = record { port = p; body = b } ∷ n.log }) y f i.0 i.1)
  where
    by : ((x ≡ y) × (g.present x ≡ f)) ⊎ IsIn g y f → ((x ≡ y) × (f ≡ g.present x)) ⊎ IsIn g y f
    by (inl w) = inl (w.0, sym w.1)
    by (inr was) = inr was

then_puts : (x : LifeId) (g h k : Game) → PutsIn x g h → PutsIn x h k → k.present x ≡ h.present x → PutsIn x g k
then_puts x g h k one two same y f i = by (two y f i)
  where
    before : ((x ≡ y) × (f ≡ h.present x)) ⊎ IsIn g y f → ((x ≡ y) × (f ≡ k.present x)) ⊎ IsIn g y f
    before (inl w) = inl (w.0, w.1 ∙ sym same)
    before (inr was) = inr was

    by : ((x ≡ y) × (f ≡ k.present x)) ⊎ IsIn h y f → ((x ≡ y) × (f ≡ k.present x)) ⊎ IsIn g y f
    by (inl w) = inl w
    by (inr was) = before (one y f was)

all_put : (x : LifeId) (p : ℕ) (bodies : List Body) (c : CardOf) (log : Log) (g : Game) → PutsIn x g (all_accepted x p bodies c log g) × ((all_accepted x p bodies c log g).present x ≡ g.present x)
all_put x p [] c log g = (same_puts x g, refl)
all_put x p (b ∷ bodies) c log g =
    let next = after_accept g x (record { card = c; log = log }) p b in
    let rest = all_put x p bodies c (record { port = p; body = b } ∷ log) next in
    (then_puts x g next (all_accepted x p bodies c (record { port = p; body = b } ∷ log) next) (accept_puts x g (record { card = c; log = log }) p b) rest.0 rest.1, rest.1)

if_puts : (x : LifeId) (g : Game) (b : Bool) (h k : Game) → PutsIn x g h → PutsIn x g k → PutsIn x g (cond b h k)
if_puts x g true h k one other = one
if_puts x g false h k one other = other

body_puts : (x : LifeId) (p n : ℕ) (body : Body) (s : SwitchOf) (g : Game) → PutsIn x g (body_moves x p n body s g) × ((body_moves x p n body s g).present x ≡ g.present x)
body_puts x p n body s g = all_put x p (accepted_by n body (s.receivings p)) s.card s.log g

joined_puts : (x : LifeId) (p : ℕ) (carry : CarryOf) (t : SwitchOf) (g : Game) → PutsIn x g (body_moves x p carry.number carry.body t (after_join g x carry.epoch t.card))
joined_puts x p carry t g =
    let next = after_join g x carry.epoch t.card in
    let rest = body_puts x p carry.number carry.body t next in
    then_puts x g next (body_moves x p carry.number carry.body t next) (join_puts x g carry.epoch t.card) rest.0 rest.1

carry_puts : (x : LifeId) (p : ℕ) (carry : CarryOf) (s : SwitchOf) (g : Game) → PutsIn x g (carry_moves x p carry s g)
carry_puts x p carry s g =
    let t = (joins carry.epoch s).switch in
    let now = body_moves x p carry.number carry.body s g in
    if_puts x g (nat_lt s.epoch carry.epoch) (body_moves x p carry.number carry.body t (after_join g x carry.epoch t.card)) (cond (carry.epoch == s.epoch) now g) (joined_puts x p carry t g)
    (if_puts x g (carry.epoch == s.epoch) now g (body_puts x p carry.number carry.body s g).0 (same_puts x g))

frame_puts : (x : LifeId) (p : ℕ) (frame : Frame) (s : SwitchOf) (g : Game) → PutsIn x g (frame_moves x p frame s g)
frame_puts x p (Carry carry) s g = if_puts x g (counts s p carry.from carry.to) (carry_moves x p carry s g) g (carry_puts x p carry s g) (same_puts x g)
frame_puts x p (Ack e from to n) s g = same_puts x g
frame_puts x p (Probe from nonce) s g = same_puts x g
frame_puts x p (Reply from to nonce) s g = same_puts x g

call_puts : (x : LifeId) (c : Call) (s : SwitchOf) (g : Game) → PutsIn x g (call_moves x c s g)
call_puts x (Clocks now samples) s g =
    let t = (clocked now samples s).switch in
    if_puts x g (s.epoch == t.epoch) g (after_join g x t.epoch t.card) (same_puts x g) (join_puts x g t.epoch t.card)
call_puts x (Hears port frame) s g = frame_puts x port frame s g
call_puts x (Loads number) s g = same_puts x g

-- at some moment of the order the switch of a life has joined the epoch
record WasJoined (on : PowerOn) (order : List CallOf) (x : LifeId) (e : ℕ) : Type 0 where
  past : List CallOf
  earlier : Earlier past order
  joined : ((network_after on past).switches x).joined ≡ true
  epoch_is : ((network_after on past).switches x).epoch ≡ e

-- a life is in its present epoch only if its switch has joined it
joined_now : (on : PowerOn) (order : List CallOf) (x : LifeId) (e : ℕ) → Agrees x ((network_after on order).switches x) (game_after on order) → e ≡ (game_after on order).present x → IsIn (game_after on order) x e → WasJoined on order x e
joined_now on order x e a at i = by s.joined refl
  where
    s : SwitchOf
    s = (network_after on order).switches x

    by : (b : Bool) → s.joined ≡ b → WasJoined on order x e
    by true is = record { past = order; earlier = earlier_itself order; joined = is; epoch_is = sym (at ∙ a.present) }
    by false is = absurd (none-some i.0 (sym (a.unjoined e is) ∙ i.1))

was_joined : (lives : List LifeId) (on : PowerOn) (order : List CallOf) → AllHappen lives on order → (x : LifeId) (e : ℕ) → IsIn (game_after on order) x e → WasJoined on order x e
was_joined lives on [] happens x e i = absurd (none-some i.0 i.1)
was_joined lives on (one ∷ order) happens x e i = by (was_joined lives on order (λ past low. happens past (inr low)) x e) (call_puts one.life one.call ((network_after on order).switches one.life) (game_after on order) x e i)
  where
    h : Game
    h = game_after on (one ∷ order)

    by : (IsIn (game_after on order) x e → WasJoined on order x e) → ((one.life ≡ x) × (e ≡ h.present one.life)) ⊎ IsIn (game_after on order) x e → WasJoined on (one ∷ order) x e
    by before (inl w) = joined_now on (one ∷ order) x e (agrees lives on (network_after on (one ∷ order)) h x (happens (one ∷ order) (inl refl))) (w.1 ∙ ap h.present w.0) i
    by before (inr was) = let r = before was in record { past = r.past; earlier = inr r.earlier; joined = r.joined; epoch_is = r.epoch_is }

calls_grow : (order past : List CallOf) → Earlier past order → (x : LifeId) → Earlier (calls_of x past) (calls_of x order)
calls_grow [] past is x = subst (λ (o : List CallOf). Earlier (calls_of x o) []) (sym is) refl
calls_grow (one ∷ order) past (inl is) x = subst (λ (o : List CallOf). Earlier (calls_of x o) (calls_of x (one ∷ order))) (sym is) (earlier_itself (calls_of x (one ∷ order)))
calls_grow (one ∷ order) past (inr low) x = earlier_trans (calls_of x past) (calls_of x order) (calls_of x (one ∷ order)) (calls_grow order past low x) (calls_more one order x)

pub has_joined : (lives : List LifeId) (on : PowerOn) (did : LifeId → List Call) (order : List CallOf) → ((x : LifeId) → calls_of x order ≡ did x) → AllHappen lives on order → (x : LifeId) (e : ℕ) (n : Node) → (game_after on order).nodes x e ≡ Some n → HasJoined on did x e
has_joined lives on did order calls happens x e n is =
    let w = was_joined lives on order happens x e (n, is) in
    let same = same_switch on w.past x in
    record {
      moment = calls_of x w.past;
      earlier = subst (Earlier (calls_of x w.past)) (calls x) (calls_grow order w.past w.earlier x);
      joined = ap (λ (s : SwitchOf). s.joined) (sym same) ∙ w.joined;
      epoch_is = ap (λ (s : SwitchOf). s.epoch) (sym same) ∙ w.epoch_is;
    }
