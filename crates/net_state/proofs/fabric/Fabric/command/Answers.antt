use Rattle.std.specs.Prelude.{◌≡◌, ◌≤◌, ℕ, List, length, replicate, take, true, false, refl}
use Rattle.std.proofs.Common.{◌∙◌, sym, ap, subst}
use Rattle.std.proofs.lemmas.List.{take-replicate, length-replicate}
use Rattle.an_base.specs.declared.event.Event.{Event}
use Rattle.an_base.specs.declared.event.Event.TheVariants.{Tick, Clock, Take, Handle, Load, Move, Restart, Fail, Repair, Lose, Again, Swap, Noise, Send}
use Rattle.net_graph.specs.Wires.{Wires}
use Rattle.net_script.specs.Commands.{IsCommandEvent, is_restart}
use Rattle.wire_set.specs.declared.side.Put.{Put}
use Rattle.wire_set.specs.WireState.{WiresOf, place, put_into, what_becomes, wire_out}
use Rattle.net_state.specs.Effects.{noise, noise_out, on_wires}
use Rattle.net_state.specs.Fabric.{FabricOf}
use Rattle.net_state.specs.Fits.{Fits}
use Rattle.net_state.specs.Kept.{fabric_of_all}
use Rattle.net_state.specs.Lawful.{is_lawful}
use Rattle.net_state.specs.Lines.{loss_line}
use Rattle.net_state.proofs.FitsLemmas.{fail_fits, repair_fits, lose_fits, again_fits, swap_fits, noise_fits}
use Rattle.net_state.proofs.LawfulLemmas.{command_fits, command_is, lawful_in}
use Rattle.net_state.proofs.StepLemmas.{fail_used, repair_used, lose_linked, again_linked, swap_linked, noise_change, noise_linked}
use Rattle.net_state.proofs.fabric.Fabric.command.Goals as goal

-- an event that is lawful in what contracts see of a fabric is so in the fabric, by its name
lawful_as : {f view : FabricOf} {e named : Event} → f ≡ view → e ≡ named → is_lawful view e ≡ true → is_lawful f named ≡ true
lawful_as {f} {view} {e} {named} same is lawful = lawful_in named same (subst (λ (x : Event). is_lawful view x ≡ true) is lawful)

-- these bytes are put on the wire
abbrev with_bytes : ℕ → ℕ → List ℕ → FabricOf → FabricOf
with_bytes s port bytes f = on_wires (λ (w : WiresOf). put_into (place s port) (wire_out f.wires s port) bytes w) f

noise_is : (n : ℕ) → n ≤ 64 → take n (replicate 64 0) ≡ noise n
noise_is n most = take-replicate n 64 0 most

some_noise : (n : ℕ) → 1 ≤ n → n ≤ 64 → 1 ≤ length {A = ℕ} (take n (replicate 64 0))
some_noise n least most = subst (λ (bytes : List ℕ). 1 ≤ length bytes) (sym (noise_is n most)) (subst (λ (k : ℕ). 1 ≤ k) (sym (length-replicate {A = ℕ} n 0)) least)

noise_there : (f : FabricOf) (s port n : ℕ) → n ≤ 64 → Fits (on_wires (noise_out s port n) f) → Fits (with_bytes s port (take n (replicate 64 0)) f)
noise_there f s port n most fits = subst (λ (bytes : List ℕ). Fits (with_bytes s port bytes f)) (sym (noise_is n most)) fits

noise_same : (f : FabricOf) (s port n : ℕ) → n ≤ 64 → with_bytes s port (take n (replicate 64 0)) f ≡ on_wires (noise_out s port n) f
noise_same f s port n most = ap (λ (bytes : List ℕ). with_bytes s port bytes f) (noise_is n most)

-- no other event is a command
no_other : (wires : Wires) (e : Event) → IsCommandEvent wires e → is_restart e ≡ false → ((a b : ℕ) → e ≡ Send a b → ⊥) → ((a b : ℕ) → e ≡ Fail a b → ⊥) → ((a b : ℕ) → e ≡ Repair a b → ⊥)
    → ((a b n : ℕ) → e ≡ Lose a b n → ⊥) → ((a b n : ℕ) → e ≡ Again a b n → ⊥) → ((a b n : ℕ) → e ≡ Swap a b n → ⊥) → ((a b n : ℕ) → e ≡ Noise a b n → ⊥) → ⊥
no_other wires (Fail a b) is other send fail repair lose again swap noise = fail a b refl
no_other wires (Repair a b) is other send fail repair lose again swap noise = repair a b refl
no_other wires (Lose a b n) is other send fail repair lose again swap noise = lose a b n refl
no_other wires (Again a b n) is other send fail repair lose again swap noise = again a b n refl
no_other wires (Swap a b n) is other send fail repair lose again swap noise = swap a b n refl
no_other wires (Noise a b n) is other send fail repair lose again swap noise = noise a b n refl
no_other wires (Send a b) is other send fail repair lose again swap noise = send a b refl
no_other wires (Restart a) is other send fail repair lose again swap noise = absurd (cc)
no_other wires Tick is other send fail repair lose again swap noise = is
no_other wires (Clock a) is other send fail repair lose again swap noise = is
no_other wires (Take a b) is other send fail repair lose again swap noise = is
no_other wires (Handle a) is other send fail repair lose again swap noise = is
no_other wires (Load a) is other send fail repair lose again swap noise = is
no_other wires (Move a) is other send fail repair lose again swap noise = is

pub fail-dropped-requires : goal.fail-dropped-requires
fail-dropped-requires c = fail_used _ c.in-Fail.s c.in-Fail.port c.self.invariant.fits (lawful_as c.self.view_is c.in-Fail.is c.requires.lawful)

pub invariant_of-self : goal.invariant_of-self
invariant_of-self c = rw (c.fail-dropped.ensures.failed, c.command.ensures) (record { fits = fail_fits _ c.in-Fail.s c.in-Fail.port c.self.invariant.fits (lawful_as c.self.view_is c.in-Fail.is c.requires.lawful); most = c.self.invariant.most })

pub repair-requires : goal.repair-requires
repair-requires c = repair_used _ c.in-Repair.s c.in-Repair.port c.self.invariant.fits (lawful_as c.self.view_is c.in-Repair.is c.requires.lawful)

pub invariant_of-self-in-Repair : goal.invariant_of-self-in-Repair
invariant_of-self-in-Repair c = rw (c.repair.ensures, c.command.ensures) (record { fits = repair_fits _ c.in-Repair.s c.in-Repair.port c.self.invariant.fits (lawful_as c.self.view_is c.in-Repair.is c.requires.lawful); most = c.self.invariant.most })

pub lose-requires : goal.lose-requires
lose-requires c = lose_linked _ c.in-Lose.s c.in-Lose.port c.in-Lose.n c.self.invariant.fits (lawful_as c.self.view_is c.in-Lose.is c.requires.lawful)

pub invariant_of-self-in-Lose : goal.invariant_of-self-in-Lose
invariant_of-self-in-Lose c = rw (c.lose.ensures, c.command.ensures) (record { fits = lose_fits _ c.in-Lose.s c.in-Lose.port c.in-Lose.n c.self.invariant.fits (lawful_as c.self.view_is c.in-Lose.is c.requires.lawful); most = c.self.invariant.most })

pub again-requires : goal.again-requires
again-requires c = again_linked _ c.in-Again.s c.in-Again.port c.in-Again.n c.self.invariant.fits (lawful_as c.self.view_is c.in-Again.is c.requires.lawful)

pub invariant_of-self-in-Again : goal.invariant_of-self-in-Again
invariant_of-self-in-Again c = rw (c.again.ensures, c.command.ensures) (record { fits = again_fits _ c.in-Again.s c.in-Again.port c.in-Again.n c.self.invariant.fits (lawful_as c.self.view_is c.in-Again.is c.requires.lawful); most = c.self.invariant.most })

pub swap-requires : goal.swap-requires
swap-requires c = swap_linked _ c.in-Swap.s c.in-Swap.port c.in-Swap.n c.self.invariant.fits (lawful_as c.self.view_is c.in-Swap.is c.requires.lawful)

pub invariant_of-self-in-Swap : goal.invariant_of-self-in-Swap
invariant_of-self-in-Swap c = rw (c.swap.ensures, c.command.ensures) (record { fits = swap_fits _ c.in-Swap.s c.in-Swap.port c.in-Swap.n c.self.invariant.fits (lawful_as c.self.view_is c.in-Swap.is c.requires.lawful); most = c.self.invariant.most })

pub shared_ref_as_front-put : goal.shared_ref_as_front-put
shared_ref_as_front-put c = (noise_change _ c.in-Noise.s c.in-Noise.port c.in-Noise.n c.self.invariant.fits (lawful_as c.self.view_is c.in-Noise.is c.requires.lawful)).count_most

pub put-put-requires-clause-link : goal.put-put-requires-clause-link
put-put-requires-clause-link c = noise_linked _ c.in-Noise.s c.in-Noise.port c.in-Noise.n c.self.invariant.fits (lawful_as c.self.view_is c.in-Noise.is c.requires.lawful)

pub put-put-requires-clause-least : goal.put-put-requires-clause-least
put-put-requires-clause-least c =
    let change = noise_change _ c.in-Noise.s c.in-Noise.port c.in-Noise.n c.self.invariant.fits (lawful_as c.self.view_is c.in-Noise.is c.requires.lawful) in
    some_noise c.in-Noise.n change.count_least change.count_most

pub invariant_of-self-in-Noise : goal.invariant_of-self-in-Noise
invariant_of-self-in-Noise c =
    let f = fabric_of_all c.self.inside.plan c.self.inside.wires c.self.inside.stations c.self.inside.traffic c.self.inside.sent c.self.inside.past in
    let lawful = lawful_as c.self.view_is c.in-Noise.is c.requires.lawful in
    let most = (noise_change f c.in-Noise.s c.in-Noise.port c.in-Noise.n c.self.invariant.fits lawful).count_most in
    let there = noise_there f c.in-Noise.s c.in-Noise.port c.in-Noise.n most (noise_fits f c.in-Noise.s c.in-Noise.port c.in-Noise.n c.self.invariant.fits lawful) in
    rw (c.put-put.ensures.put, c.command.ensures) (record { fits = there; most = c.self.invariant.most })

pub returns-in-Noise-clause-done : goal.returns-in-Noise-clause-done
returns-in-Noise-clause-done c =
    let f = fabric_of_all c.self.inside.plan c.self.inside.wires c.self.inside.stations c.self.inside.traffic c.self.inside.sent c.self.inside.past in
    let lawful = lawful_as c.self.view_is c.in-Noise.is c.requires.lawful in
    let most = (noise_change f c.in-Noise.s c.in-Noise.port c.in-Noise.n c.self.invariant.fits lawful).count_most in
    rw (c.put-put.ensures.put, c.command.ensures, c.in-Noise.is, ← c.self.view_is) (noise_same f c.in-Noise.s c.in-Noise.port c.in-Noise.n most)

pub returns-in-Noise-clause-told : goal.returns-in-Noise-clause-told
returns-in-Noise-clause-told c =
    let f = fabric_of_all c.self.inside.plan c.self.inside.wires c.self.inside.stations c.self.inside.traffic c.self.inside.sent c.self.inside.past in
    let lawful = lawful_as c.self.view_is c.in-Noise.is c.requires.lawful in
    let most = (noise_change f c.in-Noise.s c.in-Noise.port c.in-Noise.n c.self.invariant.fits lawful).count_most in
    let s = c.in-Noise.s in
    let port = c.in-Noise.port in
    let what = c.put-put.ensures.what ∙ ap (λ (bytes : List ℕ). what_becomes (place s port) (wire_out f.wires s port) bytes f.wires) (noise_is c.in-Noise.n most) in
    let told = c.loss_line.ensures ∙ ap (λ (x : Put). loss_line s port x) what in
    rw (c.in-Noise.is, ← c.self.view_is) told

pub unreachable-requires : goal.unreachable-requires
unreachable-requires c =
    let event = command_fits c.args.self.now c.args.event.now (subst (λ (f : FabricOf). Fits f) c.self.view_is c.self.invariant.fits).script (command_is c.args.self.now c.args.event.now c.requires.command) in
    no_other c.args.self.now.script.wires c.args.event.now event c.requires.other
    c.in_default.not-Send c.in_default-event.not-Fail c.in_default-event.not-Repair c.in_default-event.not-Lose c.in_default-event.not-Again c.in_default-event.not-Swap c.in_default-event.not-Noise
