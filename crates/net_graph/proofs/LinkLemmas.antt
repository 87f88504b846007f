use Rattle.std.proofs.Common.{◌≡◌, ◌≢◌, ◌∙◌, sym, ap, subst, refl, ℕ, ◌+◌, ◌<◌, List, [], ◌∷◌, ◌++◌, Some, arith, length, length-append, Contains, inl, inr}
use Rattle.std.proofs.lemmas.List.Elements.{All-nil, All-push, All-weaker, Contains-append_left, Contains-push}
use Rattle.std.proofs.lemmas.List.Quantifiers.{all_pairs_push}
use Rattle.std.proofs.lemmas.Bool.{cases_eq}
use Rattle.std.proofs.lemmas.Option.{same_Some}
use Rattle.an_base.specs.Values.{PeerAt}
use Rattle.an_base.specs.Tree.{Network}
use Rattle.net_graph.specs.Wires.{Wires, IsWired, network}
use Rattle.net_graph.specs.Entry.{LeadsOut, AreLinks, AreLinksBelow}
use Rattle.net_graph.proofs.FarLemmas.{far_range}

-- a port that leads to no other node adds no link
pub no_link : (g : Network) (x port : ℕ) (links : List PeerAt) → AreLinksBelow g x port links → ((y q : ℕ) → y ≢ x → g.far x port ≡ Some (y, q) → ⊥) → AreLinksBelow g x (port + 1) links
no_link g x port links so_far none = record {
  rising = so_far.rising;
  each = so_far.each;
  below = All-weaker (λ l. l.port < port) (λ l. l.port < port + 1) (λ l low. omega arith) links so_far.below;
  whole = λ p y q low other e. elim (cases_eq p port) [
    | inl same ↦ absurd (none y q other (ap (g.far x) (sym same) ∙ e))
    | inr less ↦ so_far.whole p y q (omega arith) other e
  ];
  few = let h = so_far.few in omega arith;
}

-- a port that leads to another node adds its link
pub one_link : (g : Network) (x port y q : ℕ) (links : List PeerAt) → AreLinksBelow g x port links → y ≢ x → g.far x port ≡ Some (y, q) → AreLinksBelow g x (port + 1) (links ++ record { port = port; peer = record { life = g.life y; port = q } } ∷ [])
one_link g x port y q links so_far other e = record {
  rising = all_pairs_push (λ a b. a.port < b.port) links link so_far.rising so_far.below;
  each = All-push (LeadsOut g x) links link so_far.each (y, other, e, refl);
  below = All-push (λ l. l.port < port + 1) links link (All-weaker (λ l. l.port < port) (λ l. l.port < port + 1) (λ l low. omega arith) links so_far.below) (omega arith);
  whole = λ p z o low different f. elim (cases_eq p port) [
    | inl same ↦ (let both : ◌≡◌ {A = ℕ × ℕ} (z, o) (y, q) = same_Some (z, o) (y, q) (sym f ∙ ap (g.far x) same ∙ e) in
        subst (λ (l : PeerAt). Contains (links ++ link ∷ []) l)
        (ap (λ (n : ℕ). link_at n y q) (sym same) ∙ ap (λ (b : ℕ × ℕ). link_at p b.0 b.1) (sym both)) (Contains-push links link))
    | inr less ↦ Contains-append_left links (link ∷ []) (link_at p z o) (so_far.whole p z o (omega arith) different f)
  ];
  few = let h = so_far.few in omega (arith, length-append links (link ∷ []));
}
  where
    link_at : ℕ → ℕ → ℕ → PeerAt
    link_at p z o = record { port = p; peer = record { life = g.life z; port = o } }

    link : PeerAt
    link = link_at port y q

-- at first there is none
pub no_links : (w : Wires) (x : ℕ) → IsWired w → AreLinksBelow (network w) x 1 []
no_links w x wired = record {
  rising = λ i j d lt low. absurd (omega arith);
  each = All-nil (LeadsOut (network w) x);
  below = All-nil (λ l. l.port < 1);
  whole = λ p y q low other e. absurd (let r = far_range (length w.switches) w.links x p y q wired.links e in omega arith);
  few = omega arith;
}

-- after the last port all are there
pub all_links : (w : Wires) (x : ℕ) (links : List PeerAt) → IsWired w → AreLinksBelow (network w) x 13 links → AreLinks (network w) x links
all_links w x links wired so_far = record {
  rising = so_far.rising;
  each = so_far.each;
  whole = λ p y q other e. let r = far_range (length w.switches) w.links x p y q wired.links e in so_far.whole p y q (omega arith) other e;
}
