-- How long spellings are.
use Rattle.std.proofs.Common.{◌≡◌, ℕ, ◌*◌, ◌≤◌, Bool, true, false, List, [], ◌∷◌, ◌++◌, length, refl, arith}
use Rattle.std.specs.Prelude.{All}
use Rattle.std.specs.List.{flat_map}
use Rattle.std.proofs.lemmas.List.{length-append}
use Rattle.byteorder.specs.Numbers.{length-bytes_high_first}
use Rattle.an_base.specs.Values.{LifeId, EndId, Place, PeerAt, EntryOf}
use Rattle.an_base.specs.declared.body.Body.{Body}
use Rattle.an_base.specs.declared.body.Body.TheVariants.{Pos, Answer, Stable, Topo}
use Rattle.an_base.specs.declared.frame.Frame.{Frame}
use Rattle.an_base.specs.declared.frame.Frame.TheVariants.{Carry, Ack, Probe, Reply}
use Rattle.frame_codec.specs.Spelling.{number_bytes, life_bytes, end_bytes, truth_bytes, position_bytes, link_bytes, links_bytes, entry_bytes, entries_bytes, body_bytes, spelling}
use Rattle.frame_codec.specs.Frames.{IsEntry, AreEntries, IsBody, IsFrame}
use Rattle.std.proofs.lemmas.List.Elements.{All-head, All-tail}

number_length : (n x : ℕ) → length (number_bytes n x) ≡ n
unfolding number_bytes
number_length n x = length-bytes_high_first n x

life_length : (l : LifeId) → length (life_bytes l) ≡ 10
life_length l = omega (arith, length-append (number_bytes 6 l.uid) (number_bytes 4 l.boot), number_length 6 l.uid, number_length 4 l.boot)

end_length : (e : EndId) → length (end_bytes e) ≡ 11
end_length e = omega (arith, length-append (life_bytes e.life) (e.port ∷ []), life_length e.life)

truth_length : (t : Bool) → length (truth_bytes t) ≡ 1
truth_length true = refl
truth_length false = refl

position_length : (p : Place) → length (position_bytes p) ≡ 22
position_length p = omega (arith, length-append (life_bytes p.root ++ (p.level ∷ []) ++ life_bytes p.parent) (p.port ∷ []), length-append (life_bytes p.root ++ (p.level ∷ [])) (life_bytes p.parent), length-append (life_bytes p.root) (p.level ∷ []), life_length p.root, life_length p.parent)

link_length : (k : PeerAt) → length (link_bytes k) ≤ 12
link_length k = omega (arith, end_length k.peer)

-- so many spellings of at most so many bytes
links_length : (ks : List PeerAt) → length (flat_map link_bytes ks) ≤ 12 * length ks
links_length [] = omega arith
links_length (k ∷ ks) = omega (arith, link_length k, links_length ks, length-append (link_bytes k) (flat_map link_bytes ks))

entry_length : (e : EntryOf) → IsEntry e → length (entry_bytes e) ≤ 178
entry_length e h = omega (arith, h.links.most, links_length e.links, life_length e.life, position_length e.position, length-append (life_bytes e.life ++ position_bytes e.position ++ (e.proposed ∷ [])) (links_bytes e.links), length-append (life_bytes e.life ++ position_bytes e.position) (e.proposed ∷ []), length-append (life_bytes e.life) (position_bytes e.position))

each_length : (es : List EntryOf) → All IsEntry es → length (flat_map entry_bytes es) ≤ 178 * length es
each_length [] h = omega arith
each_length (e ∷ es) h = omega (arith, entry_length e (All-head IsEntry e es h), each_length es (All-tail IsEntry e es h), length-append (entry_bytes e) (flat_map entry_bytes es))

entries_length : (es : List EntryOf) → AreEntries es → length (entries_bytes es) ≤ 22429
entries_length es h = omega (arith, h.count.1, each_length es h.each)

body_length : (b : Body) → IsBody b → length (body_bytes b) ≤ 22556
body_length (Pos b) h = omega (arith, number_length 4 b.version, life_length b.root, truth_length b.to_parent, length-append (number_bytes 4 b.version ++ life_bytes b.root ++ (b.level ∷ [])) (truth_bytes b.to_parent), length-append (number_bytes 4 b.version ++ life_bytes b.root) (b.level ∷ []), length-append (number_bytes 4 b.version) (life_bytes b.root))
body_length (Answer b) h = omega (arith, number_length 4 b.version, truth_length b.to_parent, length-append (number_bytes 4 b.version) (truth_bytes b.to_parent))
body_length (Stable es) h = omega (arith, entries_length es h)
body_length (Topo b) h = omega (arith, entries_length b.entries h.entries, h.numbers.most, length-append (entries_bytes b.entries) b.numbers)

pub spelling_length : (f : Frame) → IsFrame f → length (spelling f) ≤ 22591
spelling_length (Carry f) h = omega (arith, body_length f.body h.body, number_length 8 f.epoch, end_length f.from, end_length f.to, number_length 4 f.number, length-append (number_bytes 8 f.epoch ++ end_bytes f.from ++ end_bytes f.to ++ number_bytes 4 f.number) (body_bytes f.body), length-append (number_bytes 8 f.epoch ++ end_bytes f.from ++ end_bytes f.to) (number_bytes 4 f.number), length-append (number_bytes 8 f.epoch ++ end_bytes f.from) (end_bytes f.to), length-append (number_bytes 8 f.epoch) (end_bytes f.from))
spelling_length (Ack epoch from to n) h = omega (arith, number_length 8 epoch, end_length from, end_length to, number_length 4 n, length-append (number_bytes 8 epoch ++ end_bytes from ++ end_bytes to) (number_bytes 4 n), length-append (number_bytes 8 epoch ++ end_bytes from) (end_bytes to), length-append (number_bytes 8 epoch) (end_bytes from))
spelling_length (Probe from nonce) h = omega (arith, number_length 8 nonce, end_length from, length-append (end_bytes from) (number_bytes 8 nonce))
spelling_length (Reply from to nonce) h = omega (arith, number_length 8 nonce, end_length from, end_length to, length-append (end_bytes from ++ end_bytes to) (number_bytes 8 nonce), length-append (end_bytes from) (end_bytes to))
