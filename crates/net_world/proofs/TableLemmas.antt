-- A table in use is that of what the present life has finished with.

use Rattle.std.specs.Prelude.{◌≡◌, ◌==◌, ◌<◌, ℕ, suc, nat_lt, List, [], ◌∷◌, length, cond, Option, Some, None, IfSome, Bool, true, false, refl, if◌then◌else◌}
use Rattle.std.proofs.Common.{sym, ◌∙◌, ap, subst, arith}
use Rattle.std.proofs.lemmas.Bool.{cond_both, eqb-true, ltb-true}
use Rattle.std.proofs.lemmas.List.FromFn.{get_or-map-range_with_len}
use Rattle.an_base.specs.Values.{EndId, TopoOf}
use Rattle.an_base.specs.Frames.{CarryOf}
use Rattle.an_base.specs.declared.body.Body.{Body}
use Rattle.an_base.specs.declared.event.Event.{Event}
use Rattle.an_base.specs.declared.event.Event.TheVariants.{Clock, Take, Handle, Load, Restart}
use Rattle.an_base.specs.declared.frame.Frame.{Frame}
use Rattle.an_base.specs.declared.frame.Frame.TheVariants.{Carry, Ack, Probe, Reply}
use Rattle.an_base.specs.declared.port.Sample.{Sample}
use Rattle.connectivity.specs.Connections.{is_same_end}
use Rattle.port_monitor.specs.Histories.{Replied, with_happening}
use Rattle.net_script.specs.Scripts.{ScriptOf, IsScript}
use Rattle.epoch_core.specs.Log.{CardOf, Log}
use Rattle.std.specs.Option.{option_or}
use Rattle.epoch_core.specs.Epoch.{finish, finished_as_root, given_by}
use Rattle.frame_codec.specs.Reading.{frame_of}
use Rattle.switch_core.specs.Switch.{SwitchOf, counts, end_at, finish_of, note_of}
use Rattle.switch_core.specs.Steps.{Step, after, all_added, all_resent, answers_body, clocked, framed, goes_on, is_change_due, is_spent_by, joins, loaded, log_with, on_ack, on_carry, probes, receives, sampled_by, still}
use Rattle.switch_core.specs.declared.switch.TableFor.{TableFor}
use Rattle.switch_core.proofs.LawLemmas.{joins_epoch}
use Rattle.switch_core.proofs.WindowLemmas.{OnlySends, all_pushed_few, all_resent_few, on_ack_few}
use Rattle.net_state.specs.declared.hand.Hand.{Hand}
use Rattle.net_state.specs.declared.hand.Hand.TheVariants as hand
use Rattle.net_state.specs.Fabric.{station, held_bytes, vacant, StationOf}
use Rattle.net_state.specs.Effects.{kept_table}
use Rattle.net_state.specs.Lawful.{is_lawful}
use Rattle.table_build.specs.Made.{number_in, table_of}
use Rattle.net_world.specs.World.{WorldOf, effect, first_station, handled, handles, handles_bytes, loads_with, next_life, table_for, world_after}
use Rattle.net_world.specs.World.{begun as begun_world}
use Rattle.net_world.specs.Sound.{HasTable, IsTableInUse}
use Rattle.net_world.proofs.InductionLemmas.{always}
use Rattle.net_state.proofs.LawfulLemmas.{lawful_is}
use Rattle.net_world.proofs.StaysLemmas.{handles_stay}
use Rattle.net_state.proofs.ReadyLemmas.{set_one, handle_ready}
use Rattle.net_world.proofs.PlaceLemmas.{set_both, below_station, switch_below, handled_station, world_places}
use Rattle.ordered_link.specs.Receiving.{accepted_by}

-- In an epoch that goes on, what was finished with stays
abbrev pub Finishes : SwitchOf → SwitchOf → Type 0
Finishes old new = new.epoch ≡ old.epoch → (topo : TopoOf) → finish_of old ≡ Some topo → finish_of new ≡ Some topo

pub finish_more : (c : CardOf) (port : ℕ) (bodies : List Body) (log : Log) (topo : TopoOf) → finish c log ≡ Some topo → finish c (log_with port bodies log) ≡ Some topo
finish_more c port [] log topo is = is
finish_more c port (body ∷ bodies) log topo is =
    finish_more c port bodies (record { port = port; body = body } ∷ log) topo (ap (λ o. option_or o (option_or (finished_as_root c (record { port = port; body = body } ∷ log)) (given_by c.me body))) is)

if_joined : (b : Bool) (x y : Option TopoOf) (topo : TopoOf) → (x ≡ Some topo → y ≡ Some topo) → cond b x None ≡ Some topo → cond b y None ≡ Some topo
if_joined true x y topo more is = more is
if_joined false x y topo more is = is

only_finishes : (s u : SwitchOf) → OnlySends s u → (topo : TopoOf) → finish_of s ≡ Some topo → finish_of u ≡ Some topo
only_finishes s u only topo is = ap finish_of only ∙ is

body_finishes : (port k : ℕ) (peer : EndId) (body : Body) (s : SwitchOf) (topo : TopoOf) → finish_of s ≡ Some topo → finish_of (answers_body port peer k body s).switch ≡ Some topo
body_finishes port k peer body s topo is =
    only_finishes (receives port k body s) (answers_body port peer k body s).switch (all_pushed_few (all_added s.card port (accepted_by k body (s.receivings port)) s.log) (receives port k body s)).only topo
    (if_joined s.joined (finish s.card s.log) (finish s.card (log_with port (accepted_by k body (s.receivings port)) s.log)) topo
    (λ x. finish_more s.card port (accepted_by k body (s.receivings port)) s.log topo x) is)

body_epoch : (port k : ℕ) (peer : EndId) (body : Body) (s : SwitchOf) → (answers_body port peer k body s).switch.epoch ≡ s.epoch
body_epoch port k peer body s = ap (λ (u : SwitchOf). u.epoch) (all_pushed_few (all_added s.card port (accepted_by k body (s.receivings port)) s.log) (receives port k body s)).only

carry_finishes : (port : ℕ) (f : CarryOf) (s : SwitchOf) → Finishes s (on_carry port f s).switch
carry_finishes port f s =
    cond_both (nat_lt s.epoch f.epoch) (after (joins f.epoch s) (answers_body port f.from f.number f.body (joins f.epoch s).switch)) rest (λ (step : Step). Finishes s step.switch)
    (λ greater same topo is.
    let lt = ltb-true s.epoch f.epoch greater in
    let now : (answers_body port f.from f.number f.body (joins f.epoch s).switch).switch.epoch ≡ f.epoch = body_epoch port f.number f.from f.body (joins f.epoch s).switch ∙ joins_epoch f.epoch s in
    let less : f.epoch ≡ s.epoch = sym now ∙ same in
    absurd (omega (arith, lt, less)))
    (λ _. cond_both (f.epoch == s.epoch) (answers_body port f.from f.number f.body s) (still s) (λ (step : Step). Finishes s step.switch)
    (λ _ _ topo is. body_finishes port f.number f.from f.body s topo is) (λ _ _ topo is. is))
  where
    rest : Step
    rest = if f.epoch == s.epoch then answers_body port f.from f.number f.body s else still s

pub framed_finishes : (port : ℕ) (frame : Frame) (s : SwitchOf) → Finishes s (framed port frame s).switch
framed_finishes port (Carry f) s =
    cond_both (counts s port f.from f.to) (on_carry port f s) (still s) (λ (step : Step). Finishes s step.switch) (λ _. carry_finishes port f s) (λ _ _ topo is. is)
framed_finishes port (Ack epoch from to n) s =
    cond_both (counts s port from to) (on_ack port from epoch n s) (still s) (λ (step : Step). Finishes s step.switch)
    (λ _ _ topo is. only_finishes s (on_ack port from epoch n s).switch (on_ack_few port epoch n from s).only topo is) (λ _ _ topo is. is)
framed_finishes port (Probe from nonce) s = λ _ topo is. is
framed_finishes port (Reply from to nonce) s =
    cond_both (is_same_end to (end_at s port)) (still (record s { ports = with_happening port (Replied from nonce) s.ports })) (still s) (λ (step : Step). Finishes s step.switch)
    (λ _ _ topo is. is) (λ _ _ topo is. is)

goes_finishes : (before s : SwitchOf) → Finishes s (goes_on before s).switch
goes_finishes before s =
    cond_both (is_change_due before s) (joins (suc s.epoch) s) (all_resent s.card.links s) (λ (step : Step). Finishes s step.switch)
    (λ _ same topo is. let now : suc s.epoch ≡ s.epoch = sym (joins_epoch (suc s.epoch) s) ∙ same in absurd (omega (arith, now)))
    (λ _ _ topo is. only_finishes s (all_resent s.card.links s).switch (all_resent_few s.card.links s).only topo is)

pub clocked_finishes : (now : ℕ) (samples : List Sample) (s : SwitchOf) → Finishes s (clocked now samples s).switch
clocked_finishes now samples s =
    let u = sampled_by now samples s in
    cond_both (is_spent_by s u) (still (record u { spent = true })) (after (record { switch = u; frames = probes u }) (goes_on s u)) (λ (step : Step). Finishes s step.switch)
    (λ _ _ topo is. is) (λ _ same topo is. goes_finishes s u same topo is)

bytes_finish : (port : ℕ) (f : Option Frame) (s : SwitchOf) → Finishes s (handles_bytes port f s).switch
bytes_finish port None s = λ _ topo is. is
bytes_finish port (Some f) s = framed_finishes port f s

pub handles_finish : (h : Hand) (bytes : List ℕ) (s : SwitchOf) → Finishes s (handles h bytes s).switch
unfolding handles
handles_finish hand.Empty bytes s = λ _ topo is. is
handles_finish (hand.Clock now samples) bytes s = clocked_finishes now samples s
handles_finish (hand.Frame port) bytes s = bytes_finish port (frame_of bytes) s

-- so a table in use stays the one of that
same_table : (h : Hand) (bytes : List ℕ) (y : SwitchOf) (t : TableFor) → (handles h bytes y).switch.epoch ≡ y.epoch → IsTableInUse y t → IsTableInUse (handles h bytes y).switch t
same_table h bytes y t same use_of =
    let u = (handles h bytes y).switch in
    let done = handles_stay h bytes y in
    record {
      topo = use_of.topo;
      finished = handles_finish h bytes y same use_of.topo use_of.finished;
      table = use_of.table ∙ ap (λ e. record { epoch = e; table = table_of use_of.topo y.any y.life }) (sym same)
          ∙ ap (λ a. record { epoch = u.epoch; table = table_of use_of.topo a y.life }) (sym done.any) ∙ ap (λ l. record { epoch = u.epoch; table = table_of use_of.topo u.any l }) (sym done.life);
    }

abbrev no_table : Option TableFor
no_table = None

kept_in_use : (h : Hand) (bytes : List ℕ) (y : SwitchOf) (epoch : ℕ) (o : Option TableFor) → epoch ≡ y.epoch → IfSome o (IsTableInUse y)
    → IfSome (kept_table ((handles h bytes y).switch.epoch == epoch) o) (IsTableInUse (handles h bytes y).switch)
kept_in_use h bytes y epoch None shown use_of = by ((handles h bytes y).switch.epoch == epoch) where
  by : (b : Bool) → IfSome (cond b no_table no_table) (IsTableInUse (handles h bytes y).switch)
  by true = tt
  by false = tt
kept_in_use h bytes y epoch (Some t) shown use_of = by ((handles h bytes y).switch.epoch == epoch) refl where
  by : (b : Bool) → ((handles h bytes y).switch.epoch == epoch) ≡ b → IfSome (cond b (Some t) None) (IsTableInUse (handles h bytes y).switch)
  by true same = same_table h bytes y t (eqb-true (handles h bytes y).switch.epoch epoch same ∙ shown) use_of
  by false other = tt

abbrev UsesTable : StationOf → SwitchOf → Type 0
UsesTable x y = IfSome x.table (IsTableInUse y)

loads_use : (t s : ℕ) (topo : Option TopoOf) (w : WorldOf) → finish_of (w.switches t) ≡ topo → s < length w.fabric.stations → HasTable w s → HasTable (loads_with topo t w) s
loads_use t s None w is below there = there
loads_use t s (Some topo) w is below there =
    let n = number_in topo (w.switches t).life in
    set_both UsesTable w.fabric.stations w.switches t s (record (station w.fabric t) { table = Some (table_for topo (w.switches t)); note = note_of (loaded n (w.switches t)) }) (loaded n (w.switches t)) below
    (λ same. record { topo = topo; finished = is; table = refl })
    there

abbrev InUse : ScriptOf → WorldOf → Type 0
InUse script w = (s : ℕ) → s < length script.wires.switches → HasTable w s

table_step : (script : ScriptOf) → IsScript script → (h : List Event) (e : Event) → is_lawful (world_after script h).fabric e ≡ true → InUse script (world_after script h) → InUse script (effect e (world_after script h))
unfolding effect
table_step script kept h (Clock t) lawful before s below =
    let w = world_after script h in
    set_one (λ (x : StationOf). UsesTable x (w.switches s)) w.fabric.stations t s _ (below_station script h s below) (λ same. subst (λ (k : ℕ). UsesTable (station w.fabric k) (w.switches s)) same (before s below)) (before s below)
table_step script kept h (Take t p) lawful before s below =
    let w = world_after script h in
    set_one (λ (x : StationOf). UsesTable x (w.switches s)) w.fabric.stations t s _ (below_station script h s below) (λ same. subst (λ (k : ℕ). UsesTable (station w.fabric k) (w.switches s)) same (before s below)) (before s below)
table_step script kept h (Handle t) lawful before s below =
    let w = world_after script h in
    let is = switch_below script h t (handle_ready w.fabric t (lawful_is w.fabric (Handle t) lawful).ready).0 in
    set_both UsesTable w.fabric.stations w.switches t s (handled_station t w) (handled t w).switch (below_station script h s below)
    (λ _. kept_in_use (station w.fabric t).hand (held_bytes w.fabric t) (w.switches t) (station w.fabric t).note.epoch (station w.fabric t).table (ap (λ n. n.epoch) (world_places script kept h t is).note) (before t is))
    (before s below)
table_step script kept h (Load t) lawful before s below =
    let w = world_after script h in
    loads_use t s (finish_of (w.switches t)) w refl (below_station script h s below) (before s below)
table_step script kept h (Restart t) lawful before s below =
    let w = world_after script h in
    set_both UsesTable w.fabric.stations w.switches t s (record (station w.fabric t) { clock = w.fabric.tick; table = None; note = note_of (next_life t w); spent = false }) (next_life t w) (below_station script h s below) (λ _. tt) (before s below)
table_step script kept h e lawful before s below = before s below

first_use : (script : ScriptOf) → InUse script (begun_world script)
first_use script s below = subst (λ (x : StationOf). UsesTable x ((begun_world script).switches s)) (sym (get_or-map-range_with_len (first_station script) 0 (length script.wires.switches) s s vacant below (omega arith))) tt

-- a table in use is that of what the present life has finished with
pub world_tables : (script : ScriptOf) → IsScript script → (h : List Event) (s : ℕ) → s < length script.wires.switches → HasTable (world_after script h) s
world_tables script kept h = always script (InUse script) (first_use script) (table_step script kept) h
