-- An ask that was fit stays fit after events of others.

use Rattle.std.specs.Prelude.{◌≡◌, ◌≢◌, ◌+◌, ◌==◌, ℕ, not, slice_index_or, filter, List, [], ◌∷◌, ◌++◌, All, length, cond, Bool, true, false, refl}
use Rattle.std.specs.List.{AllByRecursion as ByRecursion}
use Rattle.std.proofs.Common.{sym, ◌∙◌, ap, subst, append_assoc, arith, true≢false, eq-eqb}
use Rattle.std.proofs.lemmas.List.{append-nil}
use Rattle.std.proofs.lemmas.List.Elements.{All-from_recursion, recursion_from_All}
use Rattle.an_base.specs.Ports.{NoteOf}
use Rattle.an_base.specs.declared.event.Event.{Event}
use Rattle.net_script.specs.Scripts.{ScriptOf, IsScript}
use Rattle.table_build.specs.Tables.{IsTableOf}
use Rattle.switch_core.specs.Bytes.{all_spelled}
use Rattle.switch_core.specs.Steps.{Step, loaded}
use Rattle.switch_core.specs.Switch.{SwitchOf, finish_of, note_of}
use Rattle.switch_core.specs.declared.switch.TableFor.{TableFor}
use Rattle.wire_set.specs.WireState.{hand_of}
use Rattle.net_world.specs.declared.ask.Done.{Done}
use Rattle.net_world.specs.declared.ask.Ask.{Ask}
use Rattle.net_world.specs.declared.ask.Ask.TheVariants as ask
use Rattle.net_state.specs.Fabric.{StationOf, station, held_bytes, is_empty}
use Rattle.net_world.specs.Histories.{owner_of}
use Rattle.net_world.specs.Turns.{is_noise, IsDone, IsToLoad, IsFit, MayAsk}
use Rattle.net_world.specs.World.{WorldOf, world_after, handled, handles}
use Rattle.net_world.proofs.ElsewhereLemmas.{AreSameAt, world_elsewhere}
use Rattle.net_world.proofs.HandLemmas.{hand_elsewhere, world_ports, lawful_port}
use Rattle.net_world.proofs.InductionLemmas.{kept_by}

-- what is in hand stays under events of other owners
hand_onward : (script : ScriptOf) → IsScript script → (s : ℕ) (h more : List Event) → ByRecursion (λ e. owner_of e ≢ s + 1) more
    → hand_of (world_after script (h ++ more)).fabric.wires s ≡ hand_of (world_after script h).fabric.wires s
hand_onward script kept s h [] others = ap (λ x. hand_of (world_after script x).fabric.wires s) (append-nil h)
hand_onward script kept s h (e ∷ more) others =
    let one : hand_of (world_after script (h ++ e ∷ [])).fabric.wires s ≡ hand_of (world_after script h).fabric.wires s =
    kept_by script (λ w. hand_of w.fabric.wires s ≡ hand_of (world_after script h).fabric.wires s) h e
    (λ lawful. hand_elsewhere e s (world_after script h) (world_ports script kept h) (lawful_port script kept h e lawful) others.0) refl in
    ap (λ x. hand_of (world_after script x).fabric.wires s) (sym (append_assoc h (e ∷ []) more)) ∙ hand_onward script kept s (h ++ e ∷ []) more others.1 ∙ one

pub world_hand_elsewhere : (script : ScriptOf) → IsScript script → (h more : List Event) (s : ℕ) → All (λ e. owner_of e ≢ s + 1) more
    → hand_of (world_after script (h ++ more)).fabric.wires s ≡ hand_of (world_after script h).fabric.wires s
world_hand_elsewhere script kept h more s others = hand_onward script kept s h more (recursion_from_All (λ e. owner_of e ≢ s + 1) more others)

-- events of which none is the caller's
filled : (x : Event) (xs : List Event) → x ∷ xs ≡ [] → ⊥
filled x xs is = let no : length (x ∷ xs) ≡ 0 = ap (length {A = Event}) is in omega (arith, no)

others_by : (c : ℕ) (more : List Event) → filter (λ e. owner_of e == c) more ≡ [] → ByRecursion (λ e. owner_of e ≢ c) more
others_by c [] none = tt
others_by c (e ∷ more) none = by (owner_of e == c) refl none (others_by c more) where
  by : (b : Bool) → (owner_of e == c) ≡ b → cond b (e ∷ filter (λ x. owner_of x == c) more) (filter (λ x. owner_of x == c) more) ≡ []
      → (filter (λ x. owner_of x == c) more ≡ [] → ByRecursion (λ x. owner_of x ≢ c) more) → ByRecursion (λ x. owner_of x ≢ c) (e ∷ more)
  by true is none rest = absurd (filled e (filter (λ x. owner_of x == c) more) none)
  by false is none rest = ((λ (same : owner_of e ≡ c). true≢false (sym (eq-eqb (owner_of e) c same) ∙ is)), rest none)

pub others_from_none : (c : ℕ) (more : List Event) → filter (λ e. owner_of e == c) more ≡ [] → All (λ e. owner_of e ≢ c) more
others_from_none c more none = All-from_recursion (λ e. owner_of e ≢ c) more (others_by c more none)

-- what came of what is in hand, and what is to be loaded, stay so where the station, the switch and the bytes are the same
pub handled_same : (w v : WorldOf) (s : ℕ) → AreSameAt s w v → hand_of v.fabric.wires s ≡ hand_of w.fabric.wires s → handled s v ≡ handled s w
handled_same w v s same bytes =
    ap (λ (x : StationOf). handles x.hand (held_bytes v.fabric s) (v.switches s)) same.place
    ∙ ap (λ xs. handles (station w.fabric s).hand (slice_index_or xs 0 []) (v.switches s)) bytes
    ∙ ap (handles (station w.fabric s).hand (held_bytes w.fabric s)) same.switch

pub done_stays : (w v : WorldOf) (s : ℕ) (d : Done) → AreSameAt s w v → hand_of v.fabric.wires s ≡ hand_of w.fabric.wires s → IsDone w s d → IsDone v s d
done_stays w v s d same bytes done =
    let e = handled_same w v s same bytes in
    let was = done.handled_is in
    record {
      handled_is = record {
        full = ap (λ (x : StationOf). not (is_empty x.hand)) same.place ∙ was.full;
        frames_are = was.frames_are ∙ ap (λ (x : Step). all_spelled x.frames) (sym e);
        note_is = was.note_is ∙ ap (λ (x : Step). note_of x.switch) (sym e);
        spent_is = was.spent_is ∙ ap (λ (x : Step). x.switch.spent) (sym e);
      };
      noframe = done.noframe ∙ sym (ap (λ (x : StationOf). is_noise x.hand (held_bytes v.fabric s)) same.place ∙ ap (λ xs. is_noise (station w.fabric s).hand (slice_index_or xs 0 [])) bytes);
    }

pub to_load_stays : (w v : WorldOf) (s : ℕ) (t : TableFor) (note : NoteOf) → AreSameAt s w v → IsToLoad w s t note → IsToLoad v s t note
to_load_stays w v s t note same h = record {
  empty = ap (λ (x : StationOf). not (is_empty x.hand)) same.place ∙ h.empty;
  due = ap (λ (x : StationOf). x.note.load_due) same.place ∙ h.due;
  topo = h.topo;
  finished = ap finish_of same.switch ∙ h.finished;
  graph = h.graph;
  numbers = h.numbers;
  as_many = h.as_many;
  epoch = h.epoch ∙ ap (λ (y : SwitchOf). y.epoch) (sym same.switch);
  table = subst (λ (y : SwitchOf). IsTableOf h.topo.entries h.topo.numbers y.any y.life t.table) (sym same.switch) h.table;
  note_is = h.note_is ∙ ap (λ (y : SwitchOf). note_of (loaded t.table.number y)) (sym same.switch);
}

-- An ask that may be made may still be made after events of others
others_of : (c s : ℕ) (more : List Event) → c ≡ s + 1 → filter (λ e. owner_of e == c) more ≡ [] → All (λ e. owner_of e ≢ s + 1) more
others_of c s more is none = subst (λ (n : ℕ). All (λ e. owner_of e ≢ n) more) is (others_from_none c more none)

may_stay : (script : ScriptOf) → IsScript script → (h : List Event) (c : ℕ) (a : Ask) (more : List Event) → MayAsk script h c a → filter (λ e. owner_of e == c) more ≡ [] → MayAsk script (h ++ more) c a
may_stay script kept h c (ask.Take s letter) more fit none =
    let same = world_elsewhere script h more s (others_of c s more fit.0.caller_is none) in
    (fit.0, ap (λ (x : StationOf). not (is_empty x.hand)) same.place ∙ fit.1)
may_stay script kept h c (ask.Put s parcel) more fit none =
    let others = others_of c s more fit.0.caller_is none in
    (fit.0, done_stays (world_after script h) (world_after script (h ++ more)) s parcel.value.done (world_elsewhere script h more s others) (world_hand_elsewhere script kept h more s others) fit.1, fit.2)
may_stay script kept h c (ask.Load s sheet) more fit none =
    let others = others_of c s more fit.0.caller_is none in
    (fit.0, to_load_stays (world_after script h) (world_after script (h ++ more)) s sheet.value.table sheet.value.note (world_elsewhere script h more s others) fit.1)
may_stay script kept h c (ask.Drive slip) more fit none = fit

pub fit_stays : (script : ScriptOf) (h : List Event) (c : ℕ) (a : Ask) (more : List Event) → IsFit script h c a → filter (λ e. owner_of e == c) more ≡ [] → IsFit script (h ++ more) c a
fit_stays script h c a more fit none = record { kept = fit.kept; may_ask = may_stay script fit.kept h c a more fit.may_ask none }
