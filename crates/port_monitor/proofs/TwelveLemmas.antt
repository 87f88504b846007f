use Rattle.std.proofs.Common.{◌≡◌, ◌∙◌, sym, ap, refl, ℕ, zero, suc, ◌-◌, ◌<◌, arith, List, map, length, slice_get, Some}
use Rattle.std.specs.Option.{option_map}
use Rattle.std.proofs.lemmas.Option.{slice_get-map, get_or_from_slice_get}
use Rattle.std.proofs.lemmas.List.{ext_get_or}
use Rattle.an_base.specs.Values.{LifeId, PeerAt}
use Rattle.port_monitor.specs.declared.monitor.Monitor.{Monitor}
use Rattle.port_monitor.specs.declared.port.Port.{Port}
use Rattle.port_monitor.specs.Ports.{links_from}
use Rattle.port_monitor.specs.Histories.{History, IsAfter, externals, links_after, port_after}

-- the external port at a place
external_at : (i : ℕ) → i < 12 → slice_get externals i ≡ Some (suc i)
external_at zero low = refl
external_at (suc zero) low = refl
external_at (suc (suc zero)) low = refl
external_at (suc (suc (suc zero))) low = refl
external_at (suc (suc (suc (suc zero)))) low = refl
external_at (suc (suc (suc (suc (suc zero))))) low = refl
external_at (suc (suc (suc (suc (suc (suc zero)))))) low = refl
external_at (suc (suc (suc (suc (suc (suc (suc zero))))))) low = refl
external_at (suc (suc (suc (suc (suc (suc (suc (suc zero)))))))) low = refl
external_at (suc (suc (suc (suc (suc (suc (suc (suc (suc zero))))))))) low = refl
external_at (suc (suc (suc (suc (suc (suc (suc (suc (suc (suc zero)))))))))) low = refl
external_at (suc (suc (suc (suc (suc (suc (suc (suc (suc (suc (suc zero))))))))))) low = refl
external_at (suc (suc (suc (suc (suc (suc (suc (suc (suc (suc (suc (suc i)))))))))))) low = absurd (omega (arith, low))

-- the port of this number after what happened there
abbrev pub after_at : LifeId → (ℕ → History) → ℕ → Port
after_at life histories port = port_after (record { life = life; port = port }) (histories port)

-- the port at a place
port_at : (m : Monitor) (histories : ℕ → History) (i : ℕ) → i < 12 → IsAfter m histories → slice_get m.ports i ≡ Some (after_at m.life histories (suc i))
port_at m histories i low after =
    let place : i ≡ suc i - 1 = omega arith in
    ap (slice_get m.ports) place ∙ after.ports (suc i) (omega arith) (omega (arith, low))

-- the good links are those of all twelve
pub links_are : (m : Monitor) (histories : ℕ → History) (links : List PeerAt) → length m.ports ≡ 12 → IsAfter m histories → links ≡ links_from 1 m.ports → links ≡ links_after m.life histories
links_are m histories links count after is =
    let f = after_at m.life histories in
    is ∙ ap (links_from 1) (ext_get_or (f 1) m.ports (map f externals) count (λ i within.
    let low : i < 12 = omega (arith, count, within) in
    get_or_from_slice_get m.ports i (f (suc i)) (f 1) (port_at m histories i low after)
    ∙ sym (get_or_from_slice_get (map f externals) i (f (suc i)) (f 1) (slice_get-map f externals i ∙ ap (option_map f) (external_at i low)))))
