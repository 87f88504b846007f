-- A packet that is under way makes a hop, which is told.

use Rattle.std.specs.Prelude.{◌≡◌, ◌==◌, ◌∷◌, ℕ, List, [], cond, Option, Some, None, is_some, Bool, true, false, refl}
use Rattle.std.specs.Option.{option_map, option_map_or}
use Rattle.std.proofs.Common.{sym, ◌∙◌, ap, true≢false}
use Rattle.std.proofs.lemmas.Bool.{eqb-true}
use Rattle.std.proofs.lemmas.Option.{none-some, some_pair_parts}
use Rattle.an_base.specs.declared.event.Event.TheVariants.{Move}
use Rattle.host_traffic.specs.Packets.{PacketOf, packet_of, place_now}
use Rattle.host_traffic.specs.declared.hop.Hop.{Hop}
use Rattle.net_state.specs.Effects.{hop_of}
use Rattle.net_state.specs.Fabric.{FabricOf}
use Rattle.net_state.specs.Lawful.{is_lawful}
use Rattle.net_state.specs.Lines.{epoch_in_use, hop_line, move_lines}
use Rattle.net_state.specs.declared.line.Line.{Line}
use Rattle.net_state.proofs.LawfulLemmas.{lawful_is}

-- the packet that is found has the number that was looked for
pub found_number : (k : ℕ) (xs : List PacketOf) (x : PacketOf) → packet_of k xs ≡ Some x → x.packet ≡ k
found_number k [] x is = absurd (true≢false (sym (ap is_some is)))
found_number k (y ∷ ys) x is = by (y.packet == k) refl is (found_number k ys x) where
  by : (b : Bool) → (y.packet == k) ≡ b → cond b (Some y) (packet_of k ys) ≡ Some x → (packet_of k ys ≡ Some x → x.packet ≡ k) → x.packet ≡ k
  by true same found rest = ap (λ (o : Option PacketOf). option_map_or (λ (z : PacketOf). z.packet) o 0) (sym found) ∙ eqb-true y.packet k same
  by false differs found rest = rest found

-- where it may make a hop there is one
pub packet_some : (f : FabricOf) (number : ℕ) → is_lawful f (Move number) ≡ true → is_some (option_map place_now (packet_of number f.packets)) ≡ true
packet_some f number lawful = by (packet_of number f.packets) (lawful_is f (Move number) lawful).ready where
  by : (o : Option PacketOf) → is_some o ≡ true → is_some (option_map place_now o) ≡ true
  by None is = absurd (true≢false (sym is))
  by (Some p) is = refl

-- what is told of a hop from where the packet is
pub hop_told : (f : FabricOf) (number s entry epoch : ℕ) (h : Hop) → option_map place_now (packet_of number f.packets) ≡ Some (s, entry) → Some h ≡ option_map (hop_of f) (packet_of number f.packets) → epoch ≡ epoch_in_use f s
    → hop_line number s epoch entry h ∷ [] ≡ move_lines (packet_of number f.packets) f
hop_told f number s entry epoch h at hops epoch_is = by (packet_of number f.packets) refl at hops where
  by : (o : Option PacketOf) → packet_of number f.packets ≡ o → option_map place_now o ≡ Some (s, entry) → Some h ≡ option_map (hop_of f) o → hop_line number s epoch entry h ∷ [] ≡ move_lines o f
  by None found there made = absurd (none-some (s, entry) there)
  by (Some p) found there made =
      let place = some_pair_parts p.at s p.entry entry there in
      let number_is : p.packet ≡ number = found_number number f.packets p found in
      let same : h ≡ hop_of f p = cc in
      let line : hop_line number s epoch entry h ≡ hop_line p.packet p.at (epoch_in_use f p.at) p.entry (hop_of f p) =
      ap (λ (k : ℕ). hop_line k s epoch entry h) (sym number_is) ∙ ap (λ (n : ℕ). hop_line p.packet s n entry h) epoch_is
      ∙ ap (λ (k : ℕ). hop_line p.packet k (epoch_in_use f k) entry h) (sym place.0) ∙ ap (λ (k : ℕ). hop_line p.packet p.at (epoch_in_use f p.at) k h) (sym place.1)
      ∙ ap (hop_line p.packet p.at (epoch_in_use f p.at) p.entry) same in
      ap (λ (x : Line). x ∷ []) line
