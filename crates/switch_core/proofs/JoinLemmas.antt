use Rattle.std.proofs.Common.{◌≡◌, ◌∙◌, ap, refl, ℕ, List, [], ◌++◌, Option, Some, None, Bool, true, is_some, option_copied, Bor}
use Rattle.an_base.specs.Values.{LifeId, PeerAt, TopoOf}
use Rattle.port_monitor.specs.Histories.{History, IsAfter, links_after}
use Rattle.ordered_link.specs.Sending.{unused}
use Rattle.ordered_link.specs.Receiving.{untouched}
use Rattle.epoch_core.specs.Log.{Log, OnPort}
use Rattle.epoch_core.specs.Epoch.{adds, finish}
use Rattle.epoch_core.specs.StandsFor.{CoreOf, StandsFor}
use Rattle.switch_core.specs.declared.control.Control.{Control}
use Rattle.switch_core.specs.declared.session.Sessions.{Sessions}
use Rattle.switch_core.specs.Switch.{SwitchOf, card_of, good_links}
use Rattle.switch_core.specs.Steps.{begun}
use Rattle.switch_core.specs.Sessions.{AreSessions}
use Rattle.switch_core.specs.Stands.{HasJoined, Stands}

-- an option of a reference has a value where its copy has
some_copied : {A : Type 0} (o : Option (Bor A)) → is_some o ≡ is_some (option_copied o)
some_copied None = refl
some_copied (Some a) = refl

-- the epoch begins with what was joined
pub begun_stands : (c : Control) (s : SwitchOf) (epoch : ℕ) (core : CoreOf) (links : List PeerAt) (sessions : Sessions) (finished : Option (Bor TopoOf)) (due : Bool) → Stands c s
    → ((histories : ℕ → History) → IsAfter c.monitor histories → links ≡ links_after c.monitor.life histories)
    → core.card ≡ card_of c.life c.number links → StandsFor core [] → AreSessions sessions (λ port. unused) (λ port. untouched)
    → ((log : Log) → StandsFor core log → option_copied finished ≡ finish core.card log) → due ≡ is_some finished
    → Stands (record c { epoch = epoch; core = Some core; links = links; sessions = sessions; load_due = due }) (begun epoch s)
begun_stands c s epoch core links sessions finished due stands linked card is_core are has_finished due_is =
    let links_is : links ≡ good_links s = linked s.ports stands.ports ∙ ap (λ l. links_after l s.ports) stands.monitor in
    let card_is : core.card ≡ card_of s.life s.number (good_links s) =
    card ∙ ap (λ (l : LifeId). card_of l c.number links) stands.life ∙ ap (λ n. card_of s.life n links) stands.number ∙ ap (card_of s.life s.number) links_is in
    let joined : HasJoined (Some core) true (card_of s.life s.number (good_links s)) [] = (refl, record { stands = is_core; joined_with = card_is }) in
    let load_due = due_is ∙ some_copied finished ∙ ap is_some (has_finished [] is_core) ∙ ap (λ c. is_some (finish c [])) card_is in
    assumption (joined, links_is, are, load_due, stands)

-- what is sent on joining, where nothing was sent before
pub sends_of : (c : Control) (s : SwitchOf) (epoch : ℕ) (links : List PeerAt) (before sends : List OnPort) → Stands c s → ((histories : ℕ → History) → IsAfter c.monitor histories → links ≡ links_after c.monitor.life histories) → before ≡ [] → sends ≡ before ++ adds (card_of c.life c.number links) [] → sends ≡ adds (begun epoch s).card []
sends_of c s epoch links before sends stands linked none is =
    let links_is : links ≡ good_links s = linked s.ports stands.ports ∙ ap (λ l. links_after l s.ports) stands.monitor in
    is ∙ ap (λ (xs : List OnPort). xs ++ adds (card_of c.life c.number links) []) none
    ∙ ap (λ (l : LifeId). adds (card_of l c.number links) []) stands.life ∙ ap (λ n. adds (card_of s.life n links) []) stands.number ∙ ap (λ l. adds (card_of s.life s.number l) []) links_is
