-- What is told of the parts of an event is what is told of it.

use Rattle.std.specs.Prelude.{◌≡◌, ◌≢◌, ◌==◌, ◌++◌, ◌∷◌, ◌<◌, ◌≤◌, ◌-◌, ℕ, suc, not, slice_get, slice_index_or, ◌+◌, List, [], cond, Some, is_some, Bool, true, false, refl}
use Rattle.std.specs.List.{flat_map, range_with_len}
use Rattle.std.proofs.Common.{sym, ◌∙◌, ap, map, set, zero, append_assoc, arith, true≢false}
use Rattle.std.proofs.lemmas.Bool.{eq-eqb, eqb-false, eqb-true}
use Rattle.std.proofs.lemmas.List.{append-nil, get_or-set_other}
use Rattle.std.proofs.lemmas.Option.{get_or_from_slice_get}
use Rattle.std.proofs.lemmas.Grind.{flat_map-append}
use Rattle.common_values.proofs.ListLemmas.{range_more}
use Rattle.an_base.specs.Ports.{NoteOf, PortViewOf}
use Rattle.an_base.specs.declared.event.Event.{Event}
use Rattle.an_base.specs.declared.event.Event.TheVariants.{Tick, Clock, Take, Handle, Load, Fail, Repair, Lose, Again, Swap, Noise, Send, Move, Restart}
use Rattle.net_graph.specs.Wires.{Wires}
use Rattle.net_script.specs.Commands.{IsCommandEvent, is_restart}
use Rattle.frame_codec.specs.Reading.{frame_of}
use Rattle.port_monitor.specs.Histories.{externals}
use Rattle.switch_core.specs.Switch.{CameBy, SwitchOf, note_of, port_of, ports_of, view_of}
use Rattle.switch_core.proofs.NoteLemmas.{view_put}
use Rattle.net_state.specs.declared.hand.Hand.{Hand}
use Rattle.net_state.specs.declared.hand.Hand.TheVariants as hand
use Rattle.net_state.specs.PortStates.{state_code}
use Rattle.net_state.specs.Fabric.{no_view}
use Rattle.net_state.specs.declared.line.Line.{Line}
use Rattle.net_state.specs.declared.line.Line.TheVariants as line
use Rattle.net_state.specs.Lines.{command_lines}
use Rattle.net_world.specs.Lines.{lines_of, finish_lines, join_lines, no_frame_lines, port_line, shown_in, no_epoch_lines}
use Rattle.net_world.specs.Turns.{is_noise}
use Rattle.net_world.specs.World.{WorldOf}
use Rattle.fabric_book.specs.Told.{hand_lines, line_if, noise_lines}

-- bytes that are no frame
pub noise_is : (place : ℕ) (h : Hand) (bytes : List ℕ) → noise_lines place h (is_noise h bytes) ≡ no_frame_lines place h bytes
noise_is place hand.Empty bytes = refl
noise_is place (hand.Clock now samples) bytes = refl
noise_is place (hand.Frame port) bytes = by (is_some (frame_of bytes)) where
  by : (b : Bool) → cond (not b) (line.NoFrame place port ∷ []) [] ≡ cond b [] (line.NoFrame place port ∷ [])
  by true = refl
  by false = refl

-- all that is told of what was in hand, and then of the frames that were lost
pub handled_lines : (place : ℕ) (h : Hand) (bytes : List ℕ) (before after : SwitchOf) (lost lines : List Line)
    → (lines ++ hand_lines place h bytes before after) ++ lost
    ≡ lines ++ (flat_map (port_line place (note_of before) (note_of after)) externals ++ no_frame_lines place h bytes ++ join_lines place before after ++ no_epoch_lines place after ++ finish_lines place before after ++ lost)
handled_lines place h bytes before after lost lines = append_assoc lines (hand_lines place h bytes before after) lost

-- what is told in turn
pub told_all : (none ports noise all a b c d e : List Line) → ports ≡ none ++ a → noise ≡ ports ++ b → all ≡ noise ++ c ++ d ++ e → all ≡ none ++ (a ++ b ++ c ++ d ++ e)
told_all none ports noise all a b c d e one two three =
    let flat : ((((none ++ a) ++ b) ++ c) ++ d) ++ e ≡ none ++ ((((a ++ b) ++ c) ++ d) ++ e) = simp append_assoc in
    three ∙ ap (λ (xs : List Line). xs ++ c ++ d ++ e) (two ∙ ap (λ (xs : List Line). xs ++ b) one) ∙ flat

-- nothing of a tick and of a clock
pub tick_told : (w : WorldOf) (e : Event) (old : List Line) → e ≡ Tick → old ≡ old ++ lines_of w e
unfolding lines_of
tick_told w e old is = sym (ap (λ (x : Event). old ++ lines_of w x) is ∙ append-nil old)

pub clock_told : (w : WorldOf) (e : Event) (s : ℕ) (old : List Line) → e ≡ Clock s → old ≡ old ++ lines_of w e
unfolding lines_of
clock_told w e s old is = sym (ap (λ (x : Event). old ++ lines_of w x) is ∙ append-nil old)

pub restart_told : (w : WorldOf) (s : ℕ) (old lines : List Line) → lines ≡ old ++ line.Restarted s ∷ [] → lines ≡ old ++ lines_of w (Restart s)
unfolding lines_of
restart_told w s old lines told = told

-- a command but a restart
pub command_told : (wires : Wires) (w : WorldOf) (e : Event) → IsCommandEvent wires e → is_restart e ≡ false → command_lines e w.fabric ≡ lines_of w e
unfolding lines_of
command_told wires w (Fail s p) fits other = refl
command_told wires w (Repair s p) fits other = refl
command_told wires w (Lose s p n) fits other = refl
command_told wires w (Again s p n) fits other = refl
command_told wires w (Swap s p n) fits other = refl
command_told wires w (Noise s p n) fits other = refl
command_told wires w (Send from to) fits other = refl
command_told wires w (Restart s) fits other = absurd (true≢false other)
command_told wires w Tick fits other = absurd fits
command_told wires w (Clock s) fits other = absurd fits
command_told wires w (Take s p) fits other = absurd fits
command_told wires w (Handle s) fits other = absurd fits
command_told wires w (Load s) fits other = absurd fits
command_told wires w (Move k) fits other = absurd fits

-- one port more
port_line_is : (s port : ℕ) (before after : NoteOf) (x y : PortViewOf) (same : Bool) → Some x ≡ slice_get before.ports (port - 1) → Some y ≡ slice_get after.ports (port - 1) → same ≡ (state_code x.state == state_code y.state)
    → line_if (not same) (line.Port s port y.state y.peer) ≡ port_line s before after port
port_line_is s port before after x y same old new is =
    let before_is : slice_index_or before.ports (port - 1) no_view ≡ x = get_or_from_slice_get before.ports (port - 1) x no_view (sym old) in
    let after_is : slice_index_or after.ports (port - 1) no_view ≡ y = get_or_from_slice_get after.ports (port - 1) y no_view (sym new) in
    ap (λ b. line_if (not b) (line.Port s port y.state y.peer)) is ∙ by (state_code x.state == state_code y.state)
    ∙ ap (λ (v : PortViewOf). cond (state_code v.state == state_code y.state) [] (line.Port s port y.state y.peer ∷ [])) (sym before_is)
    ∙ ap (λ (v : PortViewOf). cond (state_code (slice_index_or before.ports (port - 1) no_view).state == state_code v.state) [] (line.Port s port v.state v.peer ∷ [])) (sym after_is)
  where
    by : (b : Bool) → line_if (not b) (line.Port s port y.state y.peer) ≡ cond b [] (line.Port s port y.state y.peer ∷ [])
    by true = refl
    by false = refl

pub ports_more : (s port : ℕ) (before after : NoteOf) (x y : PortViewOf) (same : Bool) (old lines more : List Line) → 1 ≤ port → Some x ≡ slice_get before.ports (port - 1) → Some y ≡ slice_get after.ports (port - 1)
    → same ≡ (state_code x.state == state_code y.state) → lines ≡ old ++ flat_map (port_line s before after) (range_with_len 1 (port - 1)) → more ≡ lines ++ line_if (not same) (line.Port s port y.state y.peer)
    → more ≡ old ++ flat_map (port_line s before after) (range_with_len 1 (port + 1 - 1))
ports_more s port before after x y same old lines more least old_is new_is is so_far next =
    let f = port_line s before after in
    let count : port + 1 - 1 ≡ (port - 1) + 1 = omega (arith, least) in
    let at : 1 + (port - 1) ≡ port = omega (arith, least) in
    let range : range_with_len 1 (port + 1 - 1) ≡ range_with_len 1 (port - 1) ++ port ∷ [] = ap (range_with_len 1) count ∙ range_more 1 (port - 1) ∙ ap (λ (k : ℕ). range_with_len 1 (port - 1) ++ k ∷ []) at in
    let all : flat_map f (range_with_len 1 (port + 1 - 1)) ≡ flat_map f (range_with_len 1 (port - 1)) ++ f port =
    ap (flat_map f) range ∙ flat_map-append f (range_with_len 1 (port - 1)) (port ∷ []) ∙ ap (λ (xs : List Line). flat_map f (range_with_len 1 (port - 1)) ++ xs) (append-nil (f port)) in
    next ∙ ap (λ (xs : List Line). xs ++ line_if (not same) (line.Port s port y.state y.peer)) so_far
    ∙ append_assoc old (flat_map f (range_with_len 1 (port - 1))) (line_if (not same) (line.Port s port y.state y.peer))
    ∙ ap (λ (xs : List Line). old ++ (flat_map f (range_with_len 1 (port - 1)) ++ xs)) (port_line_is s port before after x y same old_is new_is is)
    ∙ ap (λ (xs : List Line). old ++ xs) (sym all)

-- so past one of them alone of which there are some
none_past : (f : ℕ → List Line) (port from n : ℕ) → ((q : ℕ) → 1 ≤ q → q ≢ port → f q ≡ []) → 1 ≤ from → port < from → flat_map f (range_with_len from n) ≡ []
none_past f port from zero others least past = refl
none_past f port from (suc n) others least past =
    ap (λ (xs : List Line). xs ++ flat_map f (range_with_len (from + 1) n)) (others from least (λ same. omega (arith, past, same)))
    ∙ none_past f port (from + 1) n others (omega arith) (omega (arith, past))

-- only those of this one are there
only_one : (f : ℕ → List Line) (port from n : ℕ) → ((q : ℕ) → 1 ≤ q → q ≢ port → f q ≡ []) → 1 ≤ from → from ≤ port → port < from + n → flat_map f (range_with_len from n) ≡ f port
only_one f port from zero others least low high = absurd (omega (arith, low, high))
only_one f port from (suc n) others least low high = by (from == port) refl (λ other. only_one f port (from + 1) n others (omega arith) (omega (arith, low, other)) (omega (arith, high))) where
  rest : List Line
  rest = flat_map f (range_with_len (from + 1) n)

  by : (b : Bool) → b ≡ (from == port) → (from ≢ port → rest ≡ f port) → f from ++ rest ≡ f port
  by true test next =
      let same : from ≡ port = eqb-true from port (sym test) in
      ap (λ (q : ℕ). f q ++ rest) same ∙ ap (λ (xs : List Line). f port ++ xs) (none_past f port (from + 1) n others (omega arith) (omega (arith, same))) ∙ append-nil (f port)
  by false test next =
      let other : from ≢ port = eqb-false from port (sym test) in
      ap (λ (xs : List Line). xs ++ rest) (others from least other) ∙ next other

-- another port than that by which it came is shown as before
pub same_shown : (port q : ℕ) (x y : SwitchOf) → 1 ≤ port → port ≤ 12 → CameBy port x y → 1 ≤ q → q ≢ port → shown_in (note_of y) q ≡ shown_in (note_of x) q
same_shown port q x y least most came low other =
    let views = map view_of (ports_of x) in
    let view = view_of (port_of y port) in
    ap (λ (vs : List PortViewOf). slice_index_or vs (q - 1) no_view) (sym (view_put port x y views (set views (port - 1) view) view least most came refl refl refl))
    ∙ get_or-set_other views (port - 1) (q - 1) view no_view (λ same. other (omega (arith, same, low, least)))

-- so it has no line
no_line : (s port q : ℕ) (x y : SwitchOf) → 1 ≤ port → port ≤ 12 → CameBy port x y → 1 ≤ q → q ≢ port → port_line s (note_of x) (note_of y) q ≡ []
no_line s port q x y least most came low other =
    let old = shown_in (note_of x) q in
    ap (λ (v : PortViewOf). cond (state_code old.state == state_code v.state) [] (line.Port s q v.state v.peer ∷ [])) (same_shown port q x y least most came low other)
    ∙ ap (λ (b : Bool). cond b [] (line.Port s q old.state old.peer ∷ [])) (eq-eqb (state_code old.state) (state_code old.state) refl)

-- and what is told of this port is told of all
pub port_told : (s port : ℕ) (x y : SwitchOf) (before after : NoteOf) (u v : PortViewOf) (old lines : List Line) → 1 ≤ port → port ≤ 12 → CameBy port x y → before ≡ note_of x → after ≡ note_of y
    → Some u ≡ slice_get before.ports (port - 1) → Some v ≡ slice_get after.ports (port - 1) → lines ≡ old ++ line_if (not (state_code u.state == state_code v.state)) (line.Port s port v.state v.peer)
    → lines ≡ old ++ flat_map (port_line s (note_of x) (note_of y)) externals
port_told s port x y before after u v old lines least most came before_is after_is old_is new_is told =
    told
    ∙ ap (λ (xs : List Line). old ++ xs)
    (port_line_is s port before after u v (state_code u.state == state_code v.state) old_is new_is refl ∙ ap (λ (n : NoteOf). port_line s n after port) before_is ∙ ap (λ (n : NoteOf). port_line s (note_of x) n port) after_is
    ∙ sym (only_one (port_line s (note_of x) (note_of y)) port 1 12 (λ q low other. no_line s port q x y least most came low other) (omega arith) least (omega (arith, most))))
