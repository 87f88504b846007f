-- The peer of a port among the links that are left.
use Rattle.std.proofs.Common.{◌≡◌, ◌≢◌, ◌∙◌, sym, ap, ℕ, suc, ◌+◌, ◌<◌, ◌==◌, List, ◌∷◌, length, drop, get_or, add-one, Some, cond}
use Rattle.std.proofs.Math.Seq.{drop-cons}
use Rattle.std.proofs.lemmas.Bool.{eq-eqb, ne_eqb}
use Rattle.an_base.specs.Values.{PeerAt}
use Rattle.switch_core.specs.Steps.{peer_among}

first_of : (ls : List PeerAt) (i port : ℕ) (l : PeerAt) → i < length ls → l ≡ get_or ls i l → peer_among (drop i ls) port ≡ cond (l.port == port) (Some l.peer) (peer_among (drop (suc i) ls) port)
first_of ls i port l low is =
    ap (λ ks. peer_among ks port) (drop-cons ls i l low) ∙ ap (λ (k : PeerAt). peer_among (k ∷ drop (suc i) ls) port) (sym is)

-- the first link to come has the port
pub peer_here : (ls : List PeerAt) (i port : ℕ) (l : PeerAt) → i < length ls → l ≡ get_or ls i l → l.port ≡ port → peer_among (drop i ls) port ≡ Some l.peer
peer_here ls i port l low is same = first_of ls i port l low is ∙ ap (λ b. cond b (Some l.peer) (peer_among (drop (suc i) ls) port)) (eq-eqb l.port port same)

-- or has another
pub peer_later : (ls : List PeerAt) (i port : ℕ) (l : PeerAt) → i < length ls → l ≡ get_or ls i l → l.port ≢ port → peer_among (drop i ls) port ≡ peer_among (drop (i + 1) ls) port
peer_later ls i port l low is other =
    first_of ls i port l low is ∙ ap (λ b. cond b (Some l.peer) (peer_among (drop (suc i) ls) port)) (ne_eqb l.port port other)
    ∙ ap (λ n. peer_among (drop n ls) port) (sym (add-one i))
