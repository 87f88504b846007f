-- Packets by rising number.

use Rattle.std.specs.Prelude.{◌≡◌, ◌<◌, nat_lt, List, [], ◌∷◌, ◌++◌, filter, cond, All, Bool, true, false, refl}
use Rattle.std.proofs.Common.{◌∙◌, ap, arith}
use Rattle.std.proofs.lemmas.Bool.{lt-ltb, le-ltb}
use Rattle.std.proofs.lemmas.List.Elements.{All-head, All-tail}
use Rattle.host_traffic.specs.Packets.{PacketOf, with_new}

-- where all pass, and where none does
filter_all : (p : PacketOf → Bool) (xs : List PacketOf) → All (λ x. p x ≡ true) xs → filter p xs ≡ xs
filter_all p [] all = refl
filter_all p (x ∷ xs) all =
    ap (λ b. cond b (x ∷ filter p xs) (filter p xs)) (All-head (λ y. p y ≡ true) x xs all) ∙ ap (λ (ys : List PacketOf). x ∷ ys) (filter_all p xs (All-tail (λ y. p y ≡ true) x xs all))

filter_none : (p : PacketOf → Bool) (xs : List PacketOf) → All (λ x. p x ≡ false) xs → filter p xs ≡ []
filter_none p [] all = refl
filter_none p (x ∷ xs) all =
    ap (λ b. cond b (x ∷ filter p xs) (filter p xs)) (All-head (λ y. p y ≡ false) x xs all) ∙ filter_none p xs (All-tail (λ y. p y ≡ false) x xs all)

-- a new packet of the highest number comes last
pub new_last : (new : PacketOf) (packets : List PacketOf) → All (λ (packet : PacketOf). packet.packet < new.packet) packets → with_new new packets ≡ packets ++ new ∷ []
new_last new packets low =
    let all = filter_all (λ (packet : PacketOf). nat_lt packet.packet new.packet) packets (λ k d below. lt-ltb _ new.packet (low k d below)) in
    let none = filter_none (λ (packet : PacketOf). nat_lt new.packet packet.packet) packets (λ k d below. let lt = low k d below in le-ltb new.packet _ (omega (arith, lt))) in
    ap (λ (ps : List PacketOf). ps ++ new ∷ filter (λ (packet : PacketOf). nat_lt new.packet packet.packet) packets) all ∙ ap (λ (ps : List PacketOf). packets ++ new ∷ ps) none
