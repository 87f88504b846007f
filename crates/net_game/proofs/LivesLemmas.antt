-- The lives of a script are few, and what the embedding asks of the world is so.

use Rattle.std.specs.Prelude.{◌≡◌, ◌≢◌, ◌⊎◌, ◌+◌, ◌++◌, ◌==◌, ◌<◌, ◌≤◌, ℕ, zero, suc, List, [], ◌∷◌, length, cond, take, Contains, Bool, true, false, refl}
use Rattle.std.specs.List.{sum_by}
use Rattle.std.proofs.Common.{sym, ap, subst, inl, inr, arith, ne_eqb, length-append}
use Rattle.std.proofs.lemmas.Bool.{cases_eq}
use Rattle.std.proofs.lemmas.List.Elements.{Contains-append_left, Contains-append_right, Contains-push}
use Rattle.std.proofs.lemmas.List.Sums.{sum_by-cons, sum_by-take-le}
use Rattle.an_base.specs.Values.{LifeId}
use Rattle.an_base.specs.declared.event.Event.{Event}
use Rattle.an_base.specs.declared.event.Event.TheVariants.{Restart}
use Rattle.net_script.specs.declared.command.Command.{Command}
use Rattle.net_script.specs.Commands.{is_restart}
use Rattle.net_script.specs.Scripts.{ScriptOf, IsScript, restarts_of}
use Rattle.net_world.specs.Sound.{is_restart_at, restarts_at}
use Rattle.net_state.specs.Fabric.{life_of}
use Rattle.net_world.specs.World.{world_after}
use Rattle.net_world.proofs.LawLemmas.{world_is_sound}
use Rattle.net_world.proofs.BootLemmas.{boot_most}
use Rattle.net_world.proofs.SoundLemmas.{world_sound}
use Rattle.net_game.proofs.Firm.{places, IsWorked, AreFirm}
use Rattle.net_game.specs.Lives.{lives_at, lives_below, all_lives}

abbrev one_if : Bool → ℕ
one_if b = cond b 1 0

-- the sum of f over the numbers below n
abbrev sum_below : (ℕ → ℕ) → ℕ → ℕ
sum_below f zero = 0
sum_below f (suc n) = sum_below f n + f n

none_below : (n : ℕ) → sum_below (λ s. 0) n ≡ 0
none_below zero = refl
none_below (suc n) = let h = none_below n in omega (arith, h)

-- one number is among them once at most
not_below : (t n : ℕ) → n ≤ t → sum_below (λ s. one_if (s == t)) n ≡ 0
not_below t zero low = refl
not_below t (suc n) low =
    let h = not_below t n (omega (arith, low)) in
    let apart : n ≢ t = λ same. omega (arith, low, same) in
    let none : one_if (n == t) ≡ 0 = ap one_if (ne_eqb n t apart) in
    omega (arith, h, none)

one_most : (b : Bool) → one_if b ≤ 1
one_most true = omega arith
one_most false = omega arith

once_below : (t n : ℕ) → sum_below (λ s. one_if (s == t)) n ≤ 1
once_below t zero = omega arith
once_below t (suc n) = by (once_below t n) (cases_eq n t) where
  by : sum_below (λ s. one_if (s == t)) n ≤ 1 → (n ≡ t) ⊎ (n ≡ t → ⊥) → sum_below (λ s. one_if (s == t)) n + one_if (n == t) ≤ 1
  by h (inl same) =
      let before = not_below t n (omega (arith, same)) in
      let one = one_most (n == t) in
      omega (arith, before, one)
  by h (inr other) =
      let none : one_if (n == t) ≡ 0 = ap one_if (ne_eqb n t other) in
      omega (arith, h, none)

-- so an event restarts one switch at most
none_most : (n m : ℕ) → sum_below (λ s. 0) n ≤ m
none_most n m = let h = none_below n in omega (arith, h)

event_below : (e : Event) (n : ℕ) → sum_below (λ s. one_if (is_restart_at s e)) n ≤ one_if (is_restart e)
event_below (Restart t) n = once_below t n
event_below e n = none_most n 0

-- the restarts of all switches are those of the script
cons_below : (c : Command) (cs : List Command) (n : ℕ) → sum_below (λ s. restarts_at s (c ∷ cs)) n ≡ sum_below (λ s. one_if (is_restart_at s c.event)) n + sum_below (λ s. restarts_at s cs) n
cons_below c cs zero = refl
cons_below c cs (suc n) =
    let h = cons_below c cs n in
    let here : restarts_at n (c ∷ cs) ≡ one_if (is_restart_at n c.event) + restarts_at n cs = sum_by-cons (λ (x : Command). one_if (is_restart_at n x.event)) c cs in
    omega (arith, h, here)

restarts_below : (cs : List Command) (n : ℕ) → sum_below (λ s. restarts_at s cs) n ≤ sum_by (λ (c : Command). one_if (is_restart c.event)) cs
restarts_below [] n = none_most n 0
restarts_below (c ∷ cs) n =
    let h = restarts_below cs n in
    let one = event_below c.event n in
    let parts = cons_below c cs n in
    let all = sum_by-cons (λ (x : Command). one_if (is_restart x.event)) c cs in
    omega (arith, h, one, parts, all)

length_at : (script : ScriptOf) (s n : ℕ) → length (lives_at script s n) ≡ n
length_at script s zero = refl
length_at script s (suc n) =
    let long = length-append (lives_at script s n) (life_of script s (suc n) ∷ []) in
    let h = length_at script s n in
    omega (arith, long, h)

length_below : (script : ScriptOf) (n : ℕ) → length (lives_below script n) ≡ n + sum_below (λ s. restarts_at s script.commands) n
length_below script zero = refl
length_below script (suc n) =
    let here = lives_at script n (suc (restarts_at n script.commands)) in
    let long = length-append (lives_below script n) here in
    let h = length_below script n in
    let last = length_at script n (suc (restarts_at n script.commands)) in
    omega (arith, long, h, last)

-- a script has 126 lives at most
pub lives_few : (script : ScriptOf) → IsScript script → length (all_lives script) ≤ 126
unfolding restarts_of
lives_few script kept =
    let long = length_below script (places script) in
    let restarts = restarts_below script.commands (places script) in
    let most : length script.wires.switches + sum_by (λ (c : Command). one_if (is_restart c.event)) script.commands ≤ 126 = kept.lives in
    omega (arith, long, restarts, most)

-- each life of a switch is among them
has_life : (script : ScriptOf) (s b n : ℕ) → 1 ≤ b → b ≤ n → Contains (lives_at script s n) (life_of script s b)
has_life script s b zero least most = absurd (omega (arith, least, most))
has_life script s b (suc n) least most = by (λ less. has_life script s b n least less) (cases_eq b (suc n)) where
  by : (b ≤ n → Contains (lives_at script s n) (life_of script s b)) → (b ≡ suc n) ⊎ (b ≡ suc n → ⊥) → Contains (lives_at script s n ++ life_of script s (suc n) ∷ []) (life_of script s b)
  by earlier (inl same) = subst (λ k. Contains (lives_at script s n ++ life_of script s (suc n) ∷ []) (life_of script s k)) (sym same) (Contains-push (lives_at script s n) (life_of script s (suc n)))
  by earlier (inr other) = Contains-append_left (lives_at script s n) (life_of script s (suc n) ∷ []) (life_of script s b) (earlier (omega (arith, most, other)))

has_below : (script : ScriptOf) (s n : ℕ) (x : LifeId) → s < n → Contains (lives_at script s (suc (restarts_at s script.commands))) x → Contains (lives_below script n) x
has_below script s zero x below h = absurd (omega (arith, below))
has_below script s (suc n) x below h = by (λ less. has_below script s n x less h) (cases_eq s n) where
  by : (s < n → Contains (lives_below script n) x) → (s ≡ n) ⊎ (s ≡ n → ⊥) → Contains (lives_below script n ++ lives_at script n (suc (restarts_at n script.commands))) x
  by earlier (inl same) = Contains-append_right (lives_below script n) (lives_at script n (suc (restarts_at n script.commands))) x
      (subst (λ k. Contains (lives_at script k (suc (restarts_at k script.commands))) x) same h)
  by earlier (inr other) = Contains-append_left (lives_below script n) (lives_at script n (suc (restarts_at n script.commands))) x
      (earlier (omega (arith, below, other)))

pub present : (script : ScriptOf) → IsScript script → (h : List Event) (s : ℕ) → s < places script → Contains (all_lives script) ((world_after script h).switches s).life
present script kept h s below =
    let w = world_after script h in
    let sound = world_is_sound script kept h in
    let place = sound.places s below in
    let boot = sound.boots s in
    let part : restarts_at s (take w.fabric.done script.commands) ≤ restarts_at s script.commands = sum_by-take-le (λ (c : Command). cond (is_restart_at s c.event) 1 0) script.commands w.fabric.done in
    subst (Contains (all_lives script)) (sym place.life)
    (has_below script s (places script) (life_of script s (w.switches s).life.boot) below
    (has_life script s (w.switches s).life.boot (suc (restarts_at s script.commands)) place.boot (omega (arith, boot, part))))

boot_few : (script : ScriptOf) → IsScript script → (h : List Event) (s : ℕ) → ((world_after script h).switches s).life.boot ≤ 127
boot_few script kept h s =
    let most = boot_most script h s in
    let few = kept.lives in
    omega (arith, most, few)

worked : (script : ScriptOf) → IsScript script → (h : List Event) (s : ℕ) → s < places script → IsWorked ((world_after script h).switches s)
worked script kept h s below =
    let fits = (world_is_sound script kept h).fits in
    let room = fits.room in
    let most = fits.script.limits.events_most in
    record { works = (world_after script h).fabric.events; few = omega (arith, room, most); sound = world_sound script kept h s below }

-- and what the embedding asks of the world is so
pub firm : (script : ScriptOf) → IsScript script → AreFirm script (all_lives script)
firm script kept h =
    let sound = world_is_sound script kept h in
    record {
      note = λ s below. (sound.places s below).note;
      spent = λ s below. (sound.places s below).spent;
      among = present script kept h;
      boot = λ s below. let most = boot_few script kept h s in ((sound.places s below).boot, omega (arith, most));
      sound = worked script kept h;
    }
