use Rattle.std.proofs.Common.{◌≡◌, ◌≢◌, ◌∙◌, sym, ap, refl, ℕ, suc, ◌==◌, cond, List, [], ◌∷◌, Option, Some, None, Bool, true, false, not, is_some, ◌&&◌, ◌||◌, eqb, arith}
use Rattle.std.proofs.lemmas.Bool.{eq-eqb, false≢true, ne_eqb}
use Rattle.std.proofs.lemmas.Bool.Decides.{nat_tests}
use Rattle.std.specs.Cmp.Lexicographic.{pointwise, slice_cmp}
use Rattle.std.specs.declared.cmp.Ordering.{Ordering}
use Rattle.std.specs.declared.cmp.Ordering.TheVariants.{Less, Equal, Greater}
use Rattle.std.specs.Ordering.{is_eq, ordering_then}
use Rattle.an_base.specs.Values.{PeerAt}
use Rattle.an_base.specs.Order.{link_cmp}
use Rattle.an_base.specs.declared.port.Sample.{Sample}
use Rattle.port_monitor.specs.Histories.{History, IsAfter, links_after}
use Rattle.switch_core.specs.declared.control.Control.{Control}
use Rattle.epoch_core.specs.Log.{CardOf, Log}
use Rattle.epoch_core.specs.StandsFor.{CoreOf}
use Rattle.switch_core.specs.Switch.{SwitchOf, good_links}
use Rattle.switch_core.specs.Steps.{after, all_resent, are_same_links, clocked_to, goes_on, is_change_due, is_spent_by, joins, last_epoch, probes, sampled_by, still}
use Rattle.switch_core.specs.Stands.{HasJoined, Stands}

-- the test of two links
abbrev pub is_same_link : PeerAt → PeerAt → Bool
is_same_link a b = eqb a.peer.life.uid b.peer.life.uid && (eqb a.peer.life.boot b.peer.life.boot && (eqb a.port b.port && eqb a.peer.port b.peer.port))

-- one comparison after another tells equal where both do
both_equal : (o p : Ordering) → is_eq (ordering_then o p) ≡ is_eq o && is_eq p
both_equal Less p = refl
both_equal Equal p = refl
both_equal Greater p = refl

link_test : (a b : PeerAt) → is_same_link a b ≡ is_eq (link_cmp a b)
link_test a b = grind (arith, nat_tests)

-- the test of two lists of links
pub links_test : (xs ys : List PeerAt) → pointwise is_same_link xs ys ≡ are_same_links xs ys
links_test [] [] = refl
links_test [] (y ∷ ys) = refl
links_test (x ∷ xs) [] = refl
links_test (x ∷ xs) (y ∷ ys) =
    ap (λ b. b && pointwise is_same_link xs ys) (link_test x y) ∙ ap (λ b. is_eq (link_cmp x y) && b) (links_test xs ys) ∙ sym (both_equal (link_cmp x y) (slice_cmp link_cmp xs ys))

-- what is kept of an epoch is there where one was joined
pub joined_some : (core : Option CoreOf) (joined : Bool) (card : CardOf) (log : Log) → is_some core ≡ true → HasJoined core joined card log → joined ≡ true
joined_some (Some core) joined card log some has = has.0
joined_some None joined card log some has = absurd (false≢true some)

-- a change is due where the links are others
pub links_changed : (core : Option CoreOf) (joined : Bool) (card : CardOf) (log : Log) (xs ys zs : List PeerAt) → is_some core ≡ true → HasJoined core joined card log → ys ≡ zs → not (pointwise is_same_link xs ys) ≡ (not joined || not (are_same_links xs zs))
links_changed core joined card log xs ys zs some has same =
    ap not (links_test xs ys) ∙ ap (λ ls. not (are_same_links xs ls)) same ∙ ap (λ b. not b || not (are_same_links xs zs)) (sym (joined_some core joined card log some has))

-- a clock that makes no change due
pub unchanged : (before s : SwitchOf) → is_change_due before s ≡ false → (is_spent_by before s ≡ false) × (clocked_to before s ≡ after (record { switch = s; frames = probes s }) (all_resent s.card.links s))
unchanged before s same = (
  ap (λ b. b && (s.epoch == last_epoch)) same,
  ap (λ b. cond (b && (s.epoch == last_epoch)) (still (record s { spent = true })) (after (record { switch = s; frames = probes s }) (cond b (joins (suc s.epoch) s) (all_resent s.card.links s)))) same,
)

-- one that makes a change due, where no epoch is left
pub spent_now : (before s : SwitchOf) → is_change_due before s ≡ true → s.epoch ≡ last_epoch → (is_spent_by before s ≡ true) × (clocked_to before s ≡ still (record s { spent = true }))
spent_now before s due is_last =
    let e : is_spent_by before s ≡ true = ap (λ b. b && (s.epoch == last_epoch)) due ∙ eq-eqb s.epoch last_epoch is_last in
    (e, ap (λ b. cond b (still (record s { spent = true })) (after (record { switch = s; frames = probes s }) (goes_on before s))) e)

-- and where one is left
pub changed : (before s : SwitchOf) → is_change_due before s ≡ true → s.epoch ≢ last_epoch → (is_spent_by before s ≡ false) × (clocked_to before s ≡ after (record { switch = s; frames = probes s }) (joins (suc s.epoch) s))
changed before s due other =
    let e : is_spent_by before s ≡ false = ap (λ b. b && (s.epoch == last_epoch)) due ∙ ne_eqb s.epoch last_epoch other in (
      e,
      ap (λ b. cond b (still (record s { spent = true })) (after (record { switch = s; frames = probes s }) (goes_on before s))) e
          ∙ ap (λ b. after (record { switch = s; frames = probes s }) (cond b (joins (suc s.epoch) s) (all_resent s.card.links s))) due,
    )

-- what is told of the links before and now is whether a change is due
pub change_told : (c d : Control) (now : ℕ) (samples : List Sample) (s : SwitchOf) (links : List PeerAt) (due : Bool) → Stands c s → ((histories : ℕ → History) → IsAfter c.monitor histories → links ≡ links_after c.monitor.life histories)
    → ((t : SwitchOf) → Stands d t → due ≡ (not t.joined || not (are_same_links links (good_links t)))) → Stands d (sampled_by now samples s) → due ≡ is_change_due s (sampled_by now samples s)
change_told c d now samples s links due stands linked told next =
    told (sampled_by now samples s) next
    ∙ ap (λ ls. not s.joined || not (are_same_links ls (good_links (sampled_by now samples s)))) (linked s.ports stands.ports ∙ ap (λ l. links_after l s.ports) stands.monitor)

-- the epochs of the switch are spent
pub stands_spent : (c : Control) (s : SwitchOf) → Stands c s → Stands (record c { spent = true }) (record s { spent = true })
stands_spent c s stands = assumption stands
