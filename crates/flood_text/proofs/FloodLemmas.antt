-- The text of broadcasts, line by line.
use Rattle.std.proofs.Common.{◌≡◌, ◌∙◌, sym, ap, subst, ℕ, ◌+◌, ◌<◌, List, [], ◌∷◌, ◌++◌, arith, length, length-append, length-take, append-nil, get_or, take, map, All, inl, inr}
use Rattle.std.specs.List.{flat_map, zip}
use Rattle.std.proofs.lemmas.Bool.{cases_eq}
use Rattle.std.proofs.lemmas.List.{take_more, map-append, get_or_default, get_or_push, get_or_append_left}
use Rattle.std.proofs.lemmas.List.Elements.{All-push}
use Rattle.std.proofs.lemmas.Grind.{flat_map-append}
use Rattle.an_base.specs.Values.{LifeId, EntryOf}
use Rattle.net_graph.specs.Wires.{Wires, IsWired}
use Rattle.net_graph.specs.Forest.{IsForest}
use Rattle.common_lines.specs.Lines.{line_text}
use Rattle.common_lines.proofs.FormTexts.{text_push, go_on}
use Rattle.net_script.specs.Scripts.{ScriptOf}
use Rattle.topo_graph.specs.Topology.{entry_at, life_at, nothing, IsTree}
use Rattle.broadcast_flood.specs.Floods.{IsBroadcast}
use Rattle.broadcast_flood.specs.declared.hop.FloodHop.{FloodHop}
use Rattle.flood_text.specs.Floods.{FloodLine, From, Goes, Copies, Last, line_words, flood_lines, member_lines, AreFloods, FloodPart, part_lines, lines_told, flood_text}
use Rattle.row_text.proofs.ComponentTree.{component_tree}
use Rattle.common_values.proofs.ListLemmas.{zip_push}

-- the components of a forest are trees
pub forest_trees : (wires : Wires) (forest : List (List EntryOf)) → IsWired wires → IsForest wires forest → All IsTree forest
forest_trees wires forest wired is = λ k d low.
    let component = is.components k d low in
    (component_tree wires component.0 (get_or forest k d) wired component.1).1

-- the lines of a broadcast, one after another
pub flood_told : (script : ScriptOf) (members : ℕ) (from : LifeId) (hops : List FloodHop) (t0 t1 t2 t3 : List ℕ) → t1 ≡ t0 ++ line_text (line_words script (From from)) → t2 ≡ t1 ++ lines_told script (map Goes hops) → t3 ≡ t2 ++ line_text (line_words script (Copies members)) → t3 ≡ t0 ++ lines_told script (flood_lines members from hops)
flood_told script members from hops t0 t1 t2 t3 one two three =
    let head : t1 ≡ t0 ++ lines_told script (From from ∷ []) = one ∙ ap (λ (t : List ℕ). t0 ++ t) (sym (append-nil (line_text (line_words script (From from))))) in
    let rest = text_push (line_words script) (map Goes hops) (Copies members) t1 t2 t3 two three in
    go_on (line_words script) (From from ∷ []) (map Goes hops ++ Copies members ∷ []) t0 t1 t3 head rest

-- the broadcasts of the members so far, with one more
pub floods_more : (entries : List EntryOf) (i : ℕ) (floods : List (List FloodHop)) (hops : List FloodHop) → AreFloods entries i floods → IsBroadcast entries (life_at entries i) hops → AreFloods entries (i + 1) (floods ++ hops ∷ [])
floods_more entries i floods hops so_far is = record {
  count = omega (arith, so_far.count, length-append floods (hops ∷ []));
  each = λ place low. elim (cases_eq place i) [
    | inl same ↦ subst (λ (hs : List FloodHop). IsBroadcast entries (life_at entries place) hs) (sym (get_or_push floods hops [] place (so_far.count ∙ sym same))) (subst (λ (p : ℕ). IsBroadcast entries (life_at entries p) hops) (sym same) is)
    | inr other ↦ subst (λ (hs : List FloodHop). IsBroadcast entries (life_at entries place) hs) (sym (get_or_append_left floods (hops ∷ []) [] place (omega (arith, so_far.count)))) (so_far.each place (omega arith))
  ];
}

-- the broadcast from the member that stands at a place
pub broadcast_at : (entries flood slice : List EntryOf) (i : ℕ) (entry : EntryOf) (from : LifeId) (hops : List FloodHop) → slice ≡ entries → flood ≡ entries → i < length slice → entry ≡ get_or slice i entry → from ≡ entry.life → IsBroadcast flood from hops → IsBroadcast entries (life_at entries i) hops
broadcast_at entries flood slice i entry from hops slice_is flood_is low at from_is is =
    let same : entry ≡ entry_at entries i = at ∙ get_or_default slice i entry nothing low ∙ ap (λ (es : List EntryOf). entry_at es i) slice_is in
    subst (λ (l : LifeId). IsBroadcast entries l hops) (from_is ∙ ap (λ (e : EntryOf). e.life) same) (subst (λ (es : List EntryOf). IsBroadcast es from hops) flood_is is)

-- their lines, with one more
lines_more : (entries : List EntryOf) (members i : ℕ) (floods : List (List FloodHop)) (entry : EntryOf) (hops : List FloodHop) → i < length entries → entry ≡ get_or entries i entry → length floods ≡ i → member_lines members (take (i + 1) entries) (floods ++ hops ∷ []) ≡ member_lines members (take i entries) floods ++ flood_lines members entry.life hops
lines_more entries members i floods entry hops low at count =
    let lines : EntryOf × List FloodHop → List FloodLine = λ flood. flood_lines members flood.0.life flood.1 in
    let pairs = zip (take i entries) floods in
    let front : take (i + 1) entries ≡ take i entries ++ entry ∷ [] = take_more entries i entry low ∙ ap (λ (e : EntryOf). take i entries ++ e ∷ []) (sym at) in
    let same : length (take i entries) ≡ length floods = omega (arith, length-take i entries) in
    ap (λ (es : List EntryOf). flat_map lines (zip es (floods ++ hops ∷ []))) front
    ∙ ap (flat_map lines) (zip_push (take i entries) floods entry hops same)
    ∙ flat_map-append lines pairs ((entry, hops) ∷ [])
    ∙ ap (λ (ls : List FloodLine). flat_map lines pairs ++ ls) (append-nil (lines (entry, hops)))

-- and their text
pub floods_told : (script : ScriptOf) (entries slice : List EntryOf) (members count i : ℕ) (floods : List (List FloodHop)) (entry : EntryOf) (from : LifeId) (hops passed : List FloodHop) (base text new : List ℕ) → slice ≡ entries → count ≡ members → passed ≡ hops → i < length slice → entry ≡ get_or slice i entry → from ≡ entry.life → length floods ≡ i → text ≡ base ++ lines_told script (member_lines members (take i entries) floods) → new ≡ text ++ lines_told script (flood_lines count from passed) → new ≡ base ++ lines_told script (member_lines members (take (i + 1) entries) (floods ++ hops ∷ []))
floods_told script entries slice members count i floods entry from hops passed base text new slice_is count_is passed_is low at from_is so_many so_far one =
    let within : i < length entries = subst (λ (es : List EntryOf). i < length es) slice_is low in
    let here : entry ≡ get_or entries i entry = subst (λ (es : List EntryOf). entry ≡ get_or es i entry) slice_is at in
    let lines : new ≡ text ++ lines_told script (flood_lines members entry.life hops) = one ∙ ap (λ (l : LifeId). text ++ lines_told script (flood_lines count l passed)) from_is ∙ ap (λ (n : ℕ). text ++ lines_told script (flood_lines n entry.life passed)) count_is ∙ ap (λ (hs : List FloodHop). text ++ lines_told script (flood_lines members entry.life hs)) passed_is in
    go_on (line_words script) (member_lines members (take i entries) floods) (flood_lines members entry.life hops) base text new so_far lines
    ∙ ap (λ (ls : List FloodLine). base ++ lines_told script ls) (sym (lines_more entries members i floods entry hops within here so_many))

-- one component more
pub flooded_more : (script : ScriptOf) (forest : List (List EntryOf)) (i : ℕ) (entries : List EntryOf) (floods : List (List FloodHop)) (parts : List FloodPart) (text new : List ℕ) → i < length forest → entries ≡ get_or forest i entries → AreFloods entries (length entries) floods → map (λ p. p.entries) parts ≡ take i forest → All (λ p. AreFloods p.entries (length p.entries) p.floods) parts → text ≡ lines_told script (flat_map part_lines parts) → new ≡ text ++ lines_told script (part_lines (record { entries = entries; floods = floods }))
    → (all : List FloodPart) × (map (λ p. p.entries) all ≡ take (i + 1) forest) × All (λ p. AreFloods p.entries (length p.entries) p.floods) all × (new ≡ lines_told script (flat_map part_lines all))
flooded_more script forest i entries floods parts text new low at are so_far each text_is one =
    let part : FloodPart = record { entries = entries; floods = floods } in
    let entries_of : FloodPart → List EntryOf = λ p. p.entries in
    let lines : flat_map part_lines (parts ++ part ∷ []) ≡ flat_map part_lines parts ++ part_lines part = flat_map-append part_lines parts (part ∷ []) ∙ ap (λ (ls : List FloodLine). flat_map part_lines parts ++ ls) (append-nil (part_lines part)) in (
      parts ++ part ∷ [],
      map-append entries_of parts (part ∷ []) ∙ ap (λ (f : List (List EntryOf)). f ++ entries ∷ []) so_far ∙ ap (λ (e : List EntryOf). take i forest ++ e ∷ []) at ∙ sym (take_more forest i entries low),
      All-push (λ p. AreFloods p.entries (length p.entries) p.floods) parts part each are,
      go_on (line_words script) (flat_map part_lines parts) (part_lines part) [] text new text_is one ∙ ap (lines_told script) (sym lines),
    )

-- and the last line
pub flood_ended : (script : ScriptOf) (parts : List FloodPart) (text new : List ℕ) → text ≡ lines_told script (flat_map part_lines parts) → new ≡ text ++ line_text (line_words script Last) → new ≡ flood_text script parts
unfolding flood_text
flood_ended script parts text new so_far last = text_push (line_words script) (flat_map part_lines parts) Last [] text new so_far last
