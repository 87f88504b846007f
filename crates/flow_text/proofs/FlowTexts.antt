-- The text of what becomes of packets, line by line.
use Rattle.std.proofs.Common.{◌≡◌, ◌∙◌, sym, ap, subst, refl, ℕ, ◌+◌, ◌/◌, ◌%◌, ◌<◌, ◌≤◌, arith, List, [], ◌∷◌, ◌++◌, true, false, append-nil, length, length-append, get_or, take, map, All, Bool, cond}
use Rattle.std.specs.Int.{from_bool}
use Rattle.std.specs.Fmt.{decimal}
use Rattle.std.specs.Prelude.{count_by, sum_by}
use Rattle.std.specs.List.{flat_map, join_with_byte}
use Rattle.std.proofs.lemmas.List.{take_more, map-append, map_push}
use Rattle.std.proofs.lemmas.List.Elements.{All-nil, All-push}
use Rattle.std.proofs.lemmas.Fmt.{decimal_digit, decimal_step}
use Rattle.std.proofs.lemmas.List.Sums.{sum_by-append}
use Rattle.std.proofs.lemmas.Grind.{flat_map-append}
use Rattle.an_base.specs.Values.{EntryOf}
use Rattle.net_graph.specs.declared.wiring.SwitchAt.{SwitchAt}
use Rattle.net_graph.specs.Forest.{IsForest}
use Rattle.common_lines.specs.Lines.{line_text}
use Rattle.common_lines.proofs.FormTexts.{text_push, go_on}
use Rattle.net_script.specs.Scripts.{IsScript, ScriptOf}
use Rattle.flow_channels.specs.declared.went.Went.{Went}
use Rattle.flow_text.specs.declared.sent.Sent.{Sent}
use Rattle.flow_channels.specs.Flows.{FlowOf, left_of}
use Rattle.flow_channels.specs.Layout.{LayoutOf}
use Rattle.flow_channels.specs.Moves.{IsTurn, Turns}
use Rattle.flow_text.specs.Flows.{FlowLine, Ends, Local, Unjoined, end_line, entered_flow, entries_of, fate_lines, flow_text, flow_told, flow_words, FlowPart, IsFlowOf, IsFlowPart, is_out, layout_in, part_lines, start_of, went_line}
use Rattle.flow_text.specs.FlowRuns.{IsToldPart, IsToldRun}
use Rattle.flow_text.specs.Sends.{entering, homes_of, is_joined, is_local, numbers_in, sends_of}
use Rattle.flow_text.proofs.FlowArrivals.{all_arrive}
use Rattle.flow_text.proofs.FlowLaws.{never_more}
use Rattle.flow_text.proofs.FlowTurns.{IsRun, turns_push}

-- one line, as lines
pub one_line : (line : FlowLine) (base text : List ℕ) → text ≡ base ++ line_text (flow_words line) → text ≡ base ++ flow_told (line ∷ [])
one_line line base text is = is ∙ ap (λ (t : List ℕ). base ++ t) (sym (append-nil (line_text (flow_words line))))

-- a number of two digits, the first of which is 1
pub two_digits : (n : ℕ) → 10 ≤ n → n < 20 → decimal n ≡ 49 ∷ (38 + n) ∷ []
two_digits n ten few =
    let tens : n / 10 ≡ 1 = omega arith in
    let ones : 48 + n % 10 ≡ 38 + n = omega arith in
    decimal_step n ten (omega arith)
    ∙ ap (λ (front : List ℕ). front ++ (48 + n % 10) ∷ []) (ap decimal tens ∙ decimal_digit 1 (omega arith))
    ∙ ap (λ (end : ℕ). 49 ∷ end ∷ []) ones

-- a line makes a text longer
pub line_longer : (line : FlowLine) (text new : List ℕ) → new ≡ text ++ line_text (flow_words line) → length text + 1 ≤ length new
line_longer line text new is =
    let all : length new ≡ length text + length (line_text (flow_words line)) = ap (λ (t : List ℕ). length t) is ∙ length-append text (line_text (flow_words line)) in
    let one : 1 ≤ length (line_text (flow_words line)) = some_line (flow_words line) in
    omega arith
  where
    some_line : (ws : List (List ℕ)) → 1 ≤ length (line_text ws)
    some_line ws = let l = length-append (join_with_byte 32 ws) (10 ∷ []) in omega arith

-- the turns so far, with their lines behind a text and those that went out counted
pub record IsToldSoFar (layout : LayoutOf) (script : ScriptOf) (es : List EntryOf) (start now : FlowOf) (base text : List ℕ) (before out : ℕ) : Type 0 where
  pub moves : List Went
  pub turns : Turns layout start moves now
  pub text_is : text ≡ base ++ flow_told (map (went_line script es) moves)
  pub out_is : out ≡ before + count_by is_out moves

pub none_turned : (layout : LayoutOf) (script : ScriptOf) (es : List EntryOf) (start : FlowOf) (base : List ℕ) (before : ℕ) → IsToldSoFar layout script es start start base base before before
none_turned layout script es start base before = record { moves = []; turns = refl; text_is = sym (append-nil base); out_is = omega arith }

-- one turn more
pub one_turned : (layout : LayoutOf) (script : ScriptOf) (es : List EntryOf) (start now next : FlowOf) (base text new : List ℕ) (before out more : ℕ) (went : Went) → IsToldSoFar layout script es start now base text before out → IsTurn layout now went next → new ≡ text ++ line_text (flow_words (went_line script es went)) → more ≡ out + cond (is_out went) 1 0 → IsToldSoFar layout script es start next base new before more
one_turned layout script es start now next base text new before out more went so_far turn told counted =
    let line : Went → FlowLine = went_line script es in
    let ms = so_far.moves in
    let one : sum_by (λ (w : Went). cond (is_out w) 1 0) (went ∷ []) ≡ cond (is_out went) 1 0 = omega arith in
    let count : count_by is_out (ms ++ went ∷ []) ≡ count_by is_out ms + cond (is_out went) 1 0 = sum_by-append (λ (w : Went). cond (is_out w) 1 0) ms (went ∷ []) ∙ ap (λ (n : ℕ). count_by is_out ms + n) one in
    record {
      moves = ms ++ went ∷ [];
      turns = turns_push layout start now next ms went so_far.turns turn;
      text_is = text_push flow_words (map line ms) (line went) base text new so_far.text_is told
          ∙ ap (λ (ls : List FlowLine). base ++ flow_told ls) (sym (map_push line ms went));
      out_is = (let o = so_far.out_is in omega arith);
    }

-- a move that goes out is counted as one
pub byte_is : (b : Bool) → from_bool b ≡ cond b 1 0
byte_is true = refl
byte_is false = refl

pub byte_small : (b : Bool) (n : ℕ) → n ≡ from_bool b → n ≤ 1
byte_small true n is = omega arith
byte_small false n is = omega arith

-- until none is left
pub all_turned : (layout : LayoutOf) (script : ScriptOf) (es : List EntryOf) (start end : FlowOf) (base text : List ℕ) (before out : ℕ) → IsToldSoFar layout script es start end base text before out → left_of end ≡ 0 → IsToldRun layout script es start base text before out
all_turned layout script es start end base text before out told done = record {
  moves = told.moves;
  run = record { end = end; turns = told.turns; done = done };
  text_is = told.text_is;
  out_is = told.out_is;
}

-- the lines of one packet more
pub fates_told : (script : ScriptOf) (homes : List (List ℕ)) (sends : List Sent) (i : ℕ) (sent : Sent) (base text new : List ℕ) → i < length sends → sent ≡ get_or sends i sent → text ≡ base ++ flow_told (flat_map (fate_lines script homes) (take i sends)) → new ≡ text ++ flow_told (fate_lines script homes sent) → new ≡ base ++ flow_told (flat_map (fate_lines script homes) (take (i + 1) sends))
fates_told script homes sends i sent base text new low is so_far one =
    let lines : Sent → List FlowLine = fate_lines script homes in
    let front : take (i + 1) sends ≡ take i sends ++ sent ∷ [] = take_more sends i sent low ∙ ap (λ (s : Sent). take i sends ++ s ∷ []) (sym is) in
    go_on flow_words (flat_map lines (take i sends)) (lines sent) base text new so_far one
    ∙ ap (λ (ls : List FlowLine). base ++ flow_told ls) (sym (ap (flat_map lines) front ∙ flat_map-append lines (take i sends) (sent ∷ []) ∙ ap (λ (ls : List FlowLine). flat_map lines (take i sends) ++ ls) (append-nil (lines sent))))

-- the lines of a component whose packets ran, and how many moves go out behind those so far
pub part_done : (script : ScriptOf) (room : ℕ) (any : Bool) (es graph entries : List EntryOf) (switches : List SwitchAt) (home : List ℕ) (those sends : List Sent) (moves : List Went) (before out : ℕ) (text new : List ℕ) → any ≡ script.any_routes → graph ≡ es → entries ≡ es → switches ≡ script.wires.switches → home ≡ numbers_in switches es → those ≡ entering home sends → sends ≡ sends_of script → IsRun any room graph home those moves → new ≡ text ++ flow_told (map (went_line script entries) moves) → out ≡ before + count_by is_out moves
    → IsToldPart script room es text new before out
part_done script room any es graph entries switches home those sends moves before out text new any_is graph_is entries_is switches_are home_is those_are sends_are ran told counted =
    let run : IsRun script.any_routes room es home those moves = subst (λ (a : Bool). IsRun a room es home those moves) any_is (subst (λ (g : List EntryOf). IsRun any room g home those moves) graph_is ran) in
    let own : home ≡ numbers_in script.wires.switches es = home_is ∙ ap (λ (w : List SwitchAt). numbers_in w es) switches_are in
    let start : entered_flow home those ≡ start_of script es = ap (entered_flow home) (those_are ∙ ap (entering home) sends_are) ∙ ap (λ (h : List ℕ). entered_flow h (entering h (sends_of script))) own in
    let part : FlowPart = record { part = record { entries = es; tables = run.tables }; moves = moves; end = run.run.end } in record {
      part = part;
      entries_are = refl;
      is_part = record {
        tables = run.are;
        turns = subst (λ (f : FlowOf). Turns (layout_in room part.part) f moves run.run.end) start run.run.turns;
        done = run.run.done;
      };
      text_is = told ∙ ap (λ (e : List EntryOf). text ++ flow_told (map (went_line script e) moves)) entries_is;
      out_is = counted;
    }

-- what has been said of the components so far
pub record AreToldParts (script : ScriptOf) (room : ℕ) (forest : List (List EntryOf)) (base text : List ℕ) (out : ℕ) : Type 0 where
  pub parts : List FlowPart
  pub entries : map entries_of parts ≡ forest
  pub flows : All (IsFlowPart script room) parts
  pub text_is : text ≡ base ++ flow_told (flat_map (part_lines script) parts)
  pub out_is : out ≡ count_by is_out (flat_map (λ p. p.moves) parts)

pub none_told : (script : ScriptOf) (room : ℕ) (text : List ℕ) → AreToldParts script room [] text text 0
none_told script room text = record { parts = []; entries = refl; flows = All-nil (IsFlowPart script room); text_is = sym (append-nil text); out_is = refl }

-- one component more
pub parts_told : (script : ScriptOf) (room : ℕ) (forest : List (List EntryOf)) (i : ℕ) (es : List EntryOf) (base text new : List ℕ) (out more : ℕ) → i < length forest → es ≡ get_or forest i es → IsToldPart script room es text new out more → AreToldParts script room (take i forest) base text out → AreToldParts script room (take (i + 1) forest) base new more
parts_told script room forest i es base text new out more low at told so_far =
    let part = told.part in
    let lines : FlowPart → List FlowLine = part_lines script in
    let went : FlowPart → List Went = λ p. p.moves in
    let all = so_far.parts ++ part ∷ [] in
    record {
      parts = all;
      entries = map-append entries_of so_far.parts (part ∷ []) ∙ ap (λ (f : List (List EntryOf)). f ++ entries_of part ∷ []) so_far.entries ∙ ap (λ (e : List EntryOf). take i forest ++ e ∷ []) (told.entries_are ∙ at) ∙ sym (take_more forest i es low);
      flows = All-push (IsFlowPart script room) so_far.parts part so_far.flows told.is_part;
      text_is = go_on flow_words (flat_map lines so_far.parts) (lines part) base text new so_far.text_is told.text_is
          ∙ ap (λ (ls : List FlowLine). base ++ flow_told ls) (sym (flat_map-append lines so_far.parts (part ∷ []) ∙ ap (λ (ls : List FlowLine). flat_map lines so_far.parts ++ ls) (append-nil (lines part))));
      out_is = told.out_is ∙ ap (λ (n : ℕ). n + count_by is_out part.moves) so_far.out_is
          ∙ sym (ap (count_by is_out) (flat_map-append went so_far.parts (part ∷ []) ∙ ap (λ (ms : List Went). flat_map went so_far.parts ++ ms) (append-nil part.moves)) ∙ sum_by-append (λ (w : Went). cond (is_out w) 1 0) (flat_map went so_far.parts) part.moves);
    }

-- and the last line
pub flow_ended : (script : ScriptOf) (room : ℕ) (forest : List (List EntryOf)) (homes : List (List ℕ)) (sends : List Sent) (out : ℕ) (base text new : List ℕ) → IsScript script → 1 ≤ room → IsForest script.wires forest → homes ≡ homes_of script.wires.switches forest → sends ≡ sends_of script → base ≡ flow_told (flat_map (fate_lines script homes) sends) → AreToldParts script room forest base text out → ((moves : List Went) → out ≡ count_by is_out moves → new ≡ text ++ line_text (flow_words (end_line homes sends moves))) → IsFlowOf script room new
unfolding flow_text
flow_ended script room forest homes sends out base text new kept some trees homes_are sends_are fates told last =
    let parts = told.parts in
    let own_trees : IsForest script.wires (map entries_of parts) = subst (IsForest script.wires) (sym told.entries) trees in
    let moves : List Went = flat_map (λ p. p.moves) parts in
    let same : homes ≡ homes_of script.wires.switches (map entries_of parts) = homes_are ∙ ap (homes_of script.wires.switches) (sym told.entries) in
    let lines = flat_map (part_lines script) parts in
    let end : FlowLine = end_line homes sends moves in
    let rest : new ≡ base ++ flow_told (lines ++ end ∷ []) = text_push flow_words lines end base text new told.text_is (last moves told.out_is) in
    let all : new ≡ flow_told (flat_map (fate_lines script homes) sends ++ (lines ++ end ∷ [])) = go_on flow_words (flat_map (fate_lines script homes) sends) (lines ++ end ∷ []) [] base new fates rest in
    record {
      parts = parts;
      trees = own_trees;
      flows = told.flows;
      text_is = all
          ∙ ap (λ (hs : List (List ℕ)). flow_told (flat_map (fate_lines script hs) sends ++ (lines ++ end_line hs sends moves ∷ []))) same
          ∙ ap (λ (ss : List Sent). flow_told (flat_map (fate_lines script (homes_of script.wires.switches (map entries_of parts))) ss ++ (lines ++ end_line (homes_of script.wires.switches (map entries_of parts)) ss moves ∷ []))) sends_are;
      holds = never_more script room parts kept some own_trees told.flows;
      arrive = all_arrive script room parts kept some own_trees told.flows;
    }

-- by its counts
pub end_told : (a b c d a' b' c' d' : ℕ) (base text : List ℕ) → text ≡ base ++ line_text (flow_words (Ends a b c d)) → a ≡ a' → b ≡ b' → c ≡ c' → d ≡ d' → text ≡ base ++ line_text (flow_words (Ends a' b' c' d'))
end_told a b c d a' b' c' d' base text is a_is b_is c_is d_is =
    let told : ℕ → ℕ → ℕ → ℕ → List ℕ = λ w x y z. base ++ line_text (flow_words (Ends w x y z)) in
    is ∙ ap (λ (w : ℕ). told w b c d) a_is ∙ ap (λ (x : ℕ). told a' x c d) b_is ∙ ap (λ (y : ℕ). told a' b' y d) c_is ∙ ap (λ (z : ℕ). told a' b' c' z) d_is

-- THE LINE OF A PACKET THAT ENTERS NOWHERE

pub local_told : (script : ScriptOf) (homes : List (List ℕ)) (sent : Sent) (base text : List ℕ) → is_local sent ≡ true → text ≡ base ++ line_text (flow_words (Local sent.packet (get_or script.switch_names sent.from []))) → text ≡ base ++ flow_told (fate_lines script homes sent)
local_told script homes sent base text yes_local is =
    let line : FlowLine = Local sent.packet (get_or script.switch_names sent.from []) in
    let lines : fate_lines script homes sent ≡ line ∷ [] = rw yes_local refl in
    one_line line base text is ∙ ap (λ (ls : List FlowLine). base ++ flow_told ls) (sym lines)

pub joined_told : (script : ScriptOf) (homes : List (List ℕ)) (sent : Sent) (base : List ℕ) → is_local sent ≡ false → is_joined homes sent ≡ true → base ≡ base ++ flow_told (fate_lines script homes sent)
joined_told script homes sent base no_local yes_joined =
    let lines : fate_lines script homes sent ≡ [] = rw (no_local, yes_joined) refl in
    sym (append-nil base) ∙ ap (λ (ls : List FlowLine). base ++ flow_told ls) (sym lines)

pub unjoined_told : (script : ScriptOf) (homes : List (List ℕ)) (sent : Sent) (base text : List ℕ) → is_local sent ≡ false → is_joined homes sent ≡ false → text ≡ base ++ line_text (flow_words (Unjoined sent.packet)) → text ≡ base ++ flow_told (fate_lines script homes sent)
unjoined_told script homes sent base text no_local no_joined is =
    let line : FlowLine = Unjoined sent.packet in
    let lines : fate_lines script homes sent ≡ line ∷ [] = rw (no_local, no_joined) refl in
    one_line line base text is ∙ ap (λ (ls : List FlowLine). base ++ flow_told ls) (sym lines)
