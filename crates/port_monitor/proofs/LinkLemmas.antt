use Rattle.std.proofs.Common.{◌≡◌, ◌∙◌, sym, ap, ℕ, suc, ◌+◌, ◌<◌, ◌≤◌, List, [], ◌∷◌, ◌++◌, length, take, arith, All, Option, Some, None, append_assoc, append-nil, get_or, length-append, length-take}
use Rattle.std.proofs.Math.Seq.{take-suc}
use Rattle.std.proofs.lemmas.List.Elements.{All-append, All-nil, All-replicate}
use Rattle.an_base.specs.Values.{EndId, PeerAt}
use Rattle.port_monitor.specs.declared.port.Port.{Port}
use Rattle.port_monitor.specs.Ports.{good_peer_by, link_to, links_from}

-- the links with those of one more port
links_push : (n : ℕ) (ps : List Port) (p : Port) → links_from n (ps ++ p ∷ []) ≡ links_from n ps ++ link_to (n + length ps) (good_peer_by p.phase p.far.conn)
links_push n [] p = append-nil (link_to n (good_peer_by p.phase p.far.conn)) ∙ ap (λ k. link_to k (good_peer_by p.phase p.far.conn)) (omega arith)
links_push n (q ∷ ps) p =
    ap (λ l. link_to n (good_peer_by q.phase q.far.conn) ++ l) (links_push (suc n) ps p ∙ ap (λ k. links_from (suc n) ps ++ link_to k (good_peer_by p.phase p.far.conn)) (omega arith))
    ∙ sym (append_assoc (link_to n (good_peer_by q.phase q.far.conn)) (links_from (suc n) ps) (link_to (n + suc (length ps)) (good_peer_by p.phase p.far.conn)))

-- one turn of the loop over the ports
pub links_more : (ps : List Port) (i : ℕ) (d : Port) → i < length ps → links_from 1 (take (i + 1) ps) ≡ links_from 1 (take i ps) ++ link_to (i + 1) (good_peer_by (get_or ps i d).phase (get_or ps i d).far.conn)
links_more ps i d below =
    ap (links_from 1) (ap (λ n. take n ps) {x = i + 1} {y = suc i} (omega arith) ∙ take-suc ps i d below)
    ∙ links_push 1 (take i ps) (get_or ps i d)
    ∙ ap (λ k. links_from 1 (take i ps) ++ link_to k (good_peer_by (get_or ps i d).phase (get_or ps i d).far.conn)) (let e = length-take i ps in omega (arith, e, below))

linked_below : (port : ℕ) (peer : Option EndId) → All (λ k. k.port ≤ port) (link_to port peer)
linked_below port None = All-nil (λ k. k.port ≤ port)
linked_below port (Some peer) = All-replicate (λ k. k.port ≤ port) 1 (record { port = port; peer = peer }) (omega arith)

linked_few : (port : ℕ) (peer : Option EndId) → length (link_to port peer) ≤ 1
linked_few port None = omega arith
linked_few port (Some peer) = omega arith

-- the links stay below the next port
pub below_more : (links : List PeerAt) (i : ℕ) (peer : Option EndId) → All (λ k. k.port ≤ i) links → All (λ k. k.port ≤ i + 1) (links ++ link_to (i + 1) peer)
below_more links i peer below = All-append (λ k. k.port ≤ i + 1) links (link_to (i + 1) peer) (λ k d h. let b = below k d h in omega (arith, b)) (linked_below (i + 1) peer)

-- and are no more than the ports
pub few_more : (links : List PeerAt) (i : ℕ) (peer : Option EndId) → length links ≤ i → length (links ++ link_to (i + 1) peer) ≤ i + 1
few_more links i peer few = let e = length-append links (link_to (i + 1) peer) in let f = linked_few (i + 1) peer in omega (arith, e, f, few)
