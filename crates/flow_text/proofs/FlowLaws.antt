-- A script has one text of what becomes of its packets; all that enter arrive, and no channel ever has more than it
-- holds.
use Rattle.std.proofs.Common.{◌≡◌, ◌≢◌, ◌∙◌, sym, ap, subst, refl, ℕ, ◌≤◌, List, [], ◌∷◌, arith, length, get_or, map, All, AllPairs, Contains, inl, inr}
use Rattle.std.specs.Prelude.{fold}
use Rattle.std.proofs.lemmas.Simd.{map-map}
use Rattle.std.proofs.lemmas.List.Elements.{All-contains, All-head, All-map, All-tail, All-weaker}
use Rattle.an_base.specs.Values.{EntryOf}
use Rattle.common_values.proofs.ListLemmas.{AllPairs-head, AllPairs-tail}
use Rattle.common_values.proofs.MemberLemmas.{Contains-cons_cases, Contains-image}
use Rattle.net_graph.specs.Forest.{IsForest}
use Rattle.net_graph.proofs.OneForest.{one_forest_of}
use Rattle.net_script.specs.Scripts.{ScriptOf, IsScript}
use Rattle.switch_numbering.specs.Numbering.{numbering}
use Rattle.dep_check.specs.declared.channel.Channel.{Channel}
use Rattle.dep_check.specs.Tables.{IsSpot}
use Rattle.flow_channels.specs.declared.went.Went.{Went}
use Rattle.flow_channels.specs.Flows.{FlowOf, empty_flow, queue_at}
use Rattle.flow_channels.specs.Layout.{LayoutOf, IsWired}
use Rattle.flow_channels.specs.Moves.{Turns}
use Rattle.flow_channels.specs.Sound.{IsSound}
use Rattle.flow_channels.proofs.RunLaws.{one_run}
use Rattle.flow_channels.proofs.SoundLaws.{enter_sound, start_sound, turn_sound}
use Rattle.flow_channels.proofs.WiredLaws.{wired}
use Rattle.flow_text.specs.declared.sent.Sent.{Sent}
use Rattle.expect_text.specs.Expect.{AreTables, Part, all_rows}
use Rattle.flow_text.specs.Flows.{entries_of, flow_text, FlowPart, IsFlowOf, IsFlowPart, layout_in, start_of, with_entered}
use Rattle.flow_text.specs.Sends.{entering, number_at, numbers_in, sends_of}
use Rattle.flow_text.proofs.FlowSends.{may_enter}
use Rattle.expect_text.proofs.OneText.{one_parts}
use Rattle.expect_text.proofs.PartLemmas.{IsPart, are_parts}

-- THE START IS SOUND

-- who may enter one after another
record MayFollow (layout : LayoutOf) (home known : List ℕ) (sends : List Sent) : Type 0 where
  new : All (λ s. Contains known s.packet → ⊥) sends
  apart : AllPairs (λ a b. a.packet ≢ b.packet) sends
  from_in : All (λ s. Contains layout.numbers (number_at home s.from)) sends
  to_in : All (λ s. Contains layout.numbers (number_at home s.to)) sends
  others : All (λ s. number_at home s.from ≢ number_at home s.to) sends

may_rest : (layout : LayoutOf) (home known : List ℕ) (s : Sent) (sends : List Sent) → MayFollow layout home known (s ∷ sends) → MayFollow layout home (s.packet ∷ known) sends
may_rest layout home known s sends may =
    let later = AllPairs-head (λ a b. a.packet ≢ b.packet) s sends may.apart in
    let old = All-tail (λ t. Contains known t.packet → ⊥) s sends may.new in
    record {
      new = λ k d low has. elim (Contains-cons_cases s.packet (get_or sends k d).packet known has) [ inl same ↦ later k d low same | inr there ↦ old k d low there ];
      apart = AllPairs-tail (λ a b. a.packet ≢ b.packet) s sends may.apart;
      from_in = All-tail (λ t. Contains layout.numbers (number_at home t.from)) s sends may.from_in;
      to_in = All-tail (λ t. Contains layout.numbers (number_at home t.to)) s sends may.to_in;
      others = All-tail (λ t. number_at home t.from ≢ number_at home t.to) s sends may.others;
    }

entered_sound : (layout : LayoutOf) (home known : List ℕ) (sends : List Sent) (flow : FlowOf) → IsWired layout → MayFollow layout home known sends → IsSound layout known flow → (ks : List ℕ) × IsSound layout ks (fold (with_entered home) flow sends)
entered_sound layout home known [] flow wired may sound = (known, sound)
entered_sound layout home known (s ∷ sends) flow wired may sound =
    entered_sound layout home (s.packet ∷ known) sends (with_entered home flow s) wired (may_rest layout home known s sends may)
    (enter_sound layout wired known s.packet (number_at home s.from) (number_at home s.to) flow sound
    (All-head (λ t. Contains known t.packet → ⊥) s sends may.new)
    (All-head (λ t. Contains layout.numbers (number_at home t.from)) s sends may.from_in)
    (All-head (λ t. Contains layout.numbers (number_at home t.to)) s sends may.to_in)
    (All-head (λ t. number_at home t.from ≢ number_at home t.to) s sends may.others))

-- a part of a script, with its channels
pub record IsRunning (s : ScriptOf) (room : ℕ) (p : FlowPart) : Type 0 where
  pub wires : IsWired (layout_in room p.part)
  pub known : List ℕ
  pub sound : IsSound (layout_in room p.part) known (start_of s (entries_of p))

pub running : (s : ScriptOf) (room : ℕ) (p : FlowPart) → IsScript s → 1 ≤ room → IsPart s p.part → IsRunning s room p
running s room p kept some part =
    let es = entries_of p in
    let layout = layout_in room p.part in
    let home = numbers_in s.wires.switches es in
    let wires = wired es (numbering es) part.graph part.numbers part.count (all_rows p.part) room some in
    let may = may_enter s es kept part.numbers part.count in
    let sound = entered_sound layout home [] (entering home (sends_of s)) empty_flow wires (record {
      new = λ k d low has. (let none = has.1 in omega arith);
      apart = may.apart;
      from_in = may.from_in;
      to_in = may.to_in;
      others = may.others;
    }) (start_sound layout) in
    record { wires = wires; known = sound.0; sound = sound.1 }

-- the parts of a script
pub parts_of : (s : ScriptOf) (room : ℕ) (parts : List FlowPart) → IsScript s → IsForest s.wires (map entries_of parts) → All (IsFlowPart s room) parts → All (IsPart s) (map (λ p. p.part) parts)
parts_of s room parts kept trees flows =
    are_parts s (map (λ p. p.part) parts) kept (subst (IsForest s.wires) (sym (map-map (λ p. p.entries) (λ p. p.part) parts)) trees)
    (All-map (λ p. AreTables p.entries s.any_routes (length p.entries) p.tables) (λ p. p.part) parts (All-weaker (IsFlowPart s room) (λ p. AreTables (entries_of p) s.any_routes (length (entries_of p)) p.part.tables) (λ p is. is.tables) parts flows))

-- ONE TEXT

one_flow_part : (s : ScriptOf) (room : ℕ) (p q : FlowPart) → IsScript s → 1 ≤ room → IsPart s p.part → IsFlowPart s room p → IsFlowPart s room q → p.part ≡ q.part → p ≡ q
one_flow_part s room p q kept some part is_p is_q same =
    let run = running s room p kept some part in
    let layout = layout_in room p.part in
    let start = start_of s (entries_of p) in
    let turns : Turns layout start q.moves q.end = subst (λ (r : Part). Turns (layout_in room r) (start_of s r.entries) q.moves q.end) (sym same) is_q.turns in
    let one = one_run layout run.known p.moves q.moves start p.end q.end run.wires run.sound is_p.turns is_p.done turns is_q.done in
    let mk : Part → List Went → FlowOf → FlowPart = λ r ws f. record { part = r; moves = ws; end = f } in
    ap (λ (r : Part). mk r p.moves p.end) same ∙ ap (λ (ws : List Went). mk q.part ws p.end) one.0 ∙ ap (mk q.part q.moves) one.1

one_flow_parts : (s : ScriptOf) (room : ℕ) (ps qs : List FlowPart) → IsScript s → 1 ≤ room → All (IsPart s) (map (λ p. p.part) ps) → All (IsFlowPart s room) ps → All (IsFlowPart s room) qs → map (λ p. p.part) ps ≡ map (λ p. p.part) qs → ps ≡ qs
one_flow_parts s room [] [] kept some parts is_p is_q same = refl
one_flow_parts s room [] (q ∷ qs) kept some parts is_p is_q same = absurd (cc)
one_flow_parts s room (p ∷ ps) [] kept some parts is_p is_q same = absurd (cc)
one_flow_parts s room (p ∷ ps) (q ∷ qs) kept some parts is_p is_q same =
    let head : p.part ≡ q.part = cc in
    let tail : map (λ r. r.part) ps ≡ map (λ r. r.part) qs = cc in
    let P = IsFlowPart s room in
    ap (λ (r : FlowPart). r ∷ ps) (one_flow_part s room p q kept some (All-head (IsPart s) p.part (map (λ r. r.part) ps) parts) (All-head P p ps is_p) (All-head P q qs is_q) head)
    ∙ ap (λ (rs : List FlowPart). q ∷ rs) (one_flow_parts s room ps qs kept some (All-tail (IsPart s) p.part (map (λ r. r.part) ps) parts) (All-tail P p ps is_p) (All-tail P q qs is_q) tail)

pub one_flow_text : (s : ScriptOf) (room : ℕ) (text other : List ℕ) → IsScript s → 1 ≤ room → IsFlowOf s room text → IsFlowOf s room other → text ≡ other
one_flow_text s room text other kept some one two =
    let part : FlowPart → Part = λ p. p.part in
    let entries : Part → List EntryOf = λ p. p.entries in
    let forests = one_forest_of s.wires (map entries_of one.parts) (map entries_of two.parts) kept.wired one.trees two.trees in
    let ps = parts_of s room one.parts kept one.trees one.flows in
    let qs = parts_of s room two.parts kept two.trees two.flows in
    let same = one_parts s (map part one.parts) (map part two.parts) ps qs (map-map entries part one.parts ∙ forests ∙ sym (map-map entries part two.parts)) in
    one.text_is ∙ ap (flow_text s) (one_flow_parts s room one.parts two.parts kept some ps one.flows two.flows same) ∙ sym two.text_is

-- ROOM

turns_sound : (layout : LayoutOf) (known : List ℕ) (went : List Went) (old new : FlowOf) → IsWired layout → IsSound layout known old → Turns layout old went new → IsSound layout known new
turns_sound layout known [] old new wires sound same = subst (λ (f : FlowOf). IsSound layout known f) same sound
turns_sound layout known (one ∷ went) old new wires sound (next, turn, rest) =
    turns_sound layout known went next new wires (turn_sound layout wires known old next one sound turn) rest

-- so no channel ever has more than it holds
pub never_more : (s : ScriptOf) (room : ℕ) (parts : List FlowPart) → IsScript s → 1 ≤ room → IsForest s.wires (map entries_of parts) → All (IsFlowPart s room) parts → (p : FlowPart) (went : List Went) (flow : FlowOf) (channel : Channel) → Contains parts p → Turns (layout_in room p.part) (start_of s (entries_of p)) went flow → IsSpot channel → length (queue_at flow channel) ≤ room
never_more s room parts kept some trees flows p went flow channel has turns spot =
    let part = All-contains (IsPart s) (map (λ q. q.part) parts) p.part (parts_of s room parts kept trees flows) (Contains-image (λ q. q.part) parts p has) in
    let run = running s room p kept some part in
    (turns_sound (layout_in room p.part) run.known went (start_of s (entries_of p)) flow run.wires run.sound turns).room channel spot
