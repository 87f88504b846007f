-- Tables in use are their switches' own, and none is older than one that was loaded.

use Rattle.std.specs.Prelude.{◌≡◌, ◌≤◌, ◌<◌, ℕ, List, length, Option, Some, IfSome, Bool, ◌⊎◌, ◌∷◌, None, cond, refl, Contains, Any}
use Rattle.std.proofs.Common.{sym, ◌∙◌, ap, subst, inl, inr, arith}
use Rattle.an_base.specs.Values.{LifeId, EntryOf, TopoOf}
use Rattle.an_base.specs.declared.event.Event.{Event}
use Rattle.net_script.specs.Scripts.{IsScript, ScriptOf}
use Rattle.table_build.specs.Tables.{IsTableOf}
use Rattle.switch_core.specs.Switch.{SwitchOf}
use Rattle.switch_core.specs.declared.switch.TableFor.{TableFor}
use Rattle.table_build.specs.Made.{table_of}
use Rattle.net_world.specs.Clauses.{AreOwnTables, FinishedAt, IsTopology, NoneIsOlder}
use Rattle.net_world.specs.Histories.{switch_after}
use Rattle.net_state.specs.Fabric.{station}
use Rattle.net_world.specs.Sound.{IsTableInUse}
use Rattle.net_world.specs.World.{world_after}
use Rattle.net_world.proofs.LawLemmas.{world_is_sound}
use Rattle.net_game.proofs.Firm.{places, AreFirm}
use Rattle.net_game.proofs.ClauseLemmas.{finished_now, topologies, topology_table, finished_in}
use Rattle.std.proofs.lemmas.Bool.{cases_lt}
use Rattle.an_base.specs.declared.event.Event.TheVariants.{Load}
use Rattle.epoch_core.specs.Epoch.{finish}
use Rattle.epoch_game.proofs.Basics.{none_some}
use Rattle.switch_game.proofs.Laws.{joined_by_lives}
use Rattle.switch_game.proofs.Members.{not_behind}
use Rattle.net_game.specs.Lives.{powered}
use Rattle.net_game.specs.Moves.{game_after}
use Rattle.net_game.proofs.EmbedLemmas.{embedded}
use Rattle.net_game.proofs.OutsideLemmas.{outside}

-- a table in use is that of what its switch has finished with
pub used_table : (script : ScriptOf) → IsScript script → (h : List Event) (s : ℕ) (t : TableFor) → s < places script → (station (world_after script h).fabric s).table ≡ Some t → IsTableInUse ((world_after script h).switches s) t
used_table script kept h s t low uses = subst (λ (o : Option TableFor). IfSome o (IsTableInUse ((world_after script h).switches s))) uses ((world_is_sound script kept h).tables s low)

pub used_epoch : (script : ScriptOf) → IsScript script → (h : List Event) (s : ℕ) (t : TableFor) → s < places script → (station (world_after script h).fabric s).table ≡ Some t → t.epoch ≡ ((world_after script h).switches s).epoch
used_epoch script kept h s t low uses = ap (λ (x : TableFor). x.epoch) (used_table script kept h s t low uses).table

pub own_tables : (script : ScriptOf) (lives : List LifeId) → length lives ≤ 126 → IsScript script → AreFirm script lives → (h : List Event) → AreOwnTables script h
own_tables script lives few kept firm h s t low uses =
    let u : SwitchOf = (world_after script h).switches s in
    let k = used_table script kept h s t low uses in
    let now : FinishedAt script h u.life u.epoch k.topo = finished_now script h k.topo s low k.finished in
    let is : IsTopology u.life k.topo = topologies script lives few kept firm h u.life u.epoch k.topo now in
    let any = ((world_is_sound script kept h).places s low).any in
    let same : t.table ≡ table_of k.topo script.any_routes u.life = ap (λ (x : TableFor). x.table) k.table ∙ ap (λ (b : Bool). table_of k.topo b u.life) any in (
      k.topo,
      subst (λ (n : ℕ). FinishedAt script h u.life n k.topo) (sym (ap (λ (x : TableFor). x.epoch) k.table)) now,
      subst (IsTableOf k.topo.entries k.topo.numbers script.any_routes u.life) (sym same) (topology_table u.life k.topo script.any_routes is),
    )

-- one of those that a property is of
any_is : (xs : List EntryOf) (life : LifeId) → Any (λ e. e.life ≡ life) xs → (d : EntryOf) × Contains xs d × (d.life ≡ life)
any_is xs life any = (any.1, (any.0, any.2, any.3), any.4)

pub none_is_older : (script : ScriptOf) (lives : List LifeId) → length lives ≤ 126 → IsScript script → AreFirm script lives → (h : List Event) → NoneIsOlder script h
none_is_older script lives few kept firm h before more s member topo t loaded low any uses = by (cases_lt s (places script))
  where
    by : (s < places script) ⊎ (places script ≤ s) → (switch_after script before s).epoch ≤ t.epoch
    by (inr past) = absurd (none_some (sym (ap (λ (b : Bool). cond b (finish (switch_after script before s).card (switch_after script before s).log) None) (outside script before s past)) ∙ loaded.finished))
    by (inl within) =
        let w = embedded script lives kept firm h in
        let u = switch_after script before s in
        let v = switch_after script h member in
        let f = finished_in script lives h w u.life u.epoch topo
        (record { before = before; later = Load s ∷ more; moment = loaded.parts; place = s; within = within; life_is = refl; epoch_is = refl; finished = loaded.finished }) in
        let d = any_is topo.entries v.life any in
        let has : Contains f.0.topology.entries d.0 = subst (λ (k : TopoOf). Contains k.entries d.0) (sym f.1) d.1 in
        let joined = joined_by_lives lives (powered script) w.network (game_after script h) u.epoch w.is_in.happens in
        let up = not_behind lives lives (powered script) w.network (game_after script h) u.life u.epoch f.0 d.0 few w.is_in.happens joined has in
        let there : w.network.switches d.0.life ≡ v = ap w.network.switches d.2 ∙ w.is_in.switches member low in
        let same = ap (λ (k : SwitchOf). k.epoch) there in
        let table = used_epoch script kept h member t low uses in
        omega (arith, up, same, table)
