-- Each part of a frame, and each frame, is read as it is spelled.
use Rattle.std.proofs.Common.{◌≡◌, ℕ, zero, suc, ◌+◌, ◌^◌, ◌<◌, ◌≤◌, ◌==◌, Bool, true, false, cond, nat_lt, List, [], ◌∷◌, ◌++◌, length, take, drop, Option, Some, None, refl, sym, ap, subst, ◌∙◌, append_assoc, arith, inl, inr, ◌⊎◌}
use Rattle.std.specs.Prelude.{⊤}
use Rattle.std.proofs.lemmas.Bool.{ltb-false, le-ltb, eqb-true}
use Rattle.std.proofs.lemmas.Option.{cond_some, same_Some, some_pair_parts, none-some}
use Rattle.std.proofs.lemmas.List.{take_at, drop_at, take-append-drop, length-append, length-take}
use Rattle.an_base.specs.Values.{LifeId, EntryOf, TopoOf}
use Rattle.an_base.specs.Order.{LivesRise}
use Rattle.an_base.specs.Numbers.{AreNumbers}
use Rattle.an_base.specs.declared.body.Body.{Body}
use Rattle.an_base.specs.declared.body.Body.TheVariants.{Pos, Answer, Stable, Topo}
use Rattle.an_base.specs.declared.frame.Frame.{Frame}
use Rattle.an_base.specs.declared.frame.Frame.TheVariants.{Carry, Ack, Probe, Reply}
use Rattle.frame_codec.specs.Spelling.{number_bytes, life_bytes, end_bytes, truth_bytes, position_bytes, link_bytes, links_bytes, entry_bytes, entries_bytes, pos_bytes, answer_bytes, topo_bytes, body_bytes, carry_bytes, spelling}
use Rattle.frame_codec.specs.Frames.{IsWithin, IsCounted, IsLife, IsEnd, IsPosition, AreLinks, IsEntry, AreEntries, IsPos, IsTopo, IsBody, IsCarry, IsFrame}
use Rattle.frame_codec.specs.Reading.{At, ◌>>=◌, both, made, number_at, truth_at, life_of, life_at, end_of, end_at, position_of, position_at, link_of, link_above_at, links_from, links_at, entry_of, entry_at, is_above, entry_above_at, entries_from, entries_at, are_numbers, bytes_at, numbers_at, pos_of, pos_at, answer_of, answer_at, topo_of, topo_at, body_at, carry_of, carry_at, ack_of, ack_at, probe_of, probe_at, reply_of, reply_at, frame_at}
use Rattle.frame_codec.proofs.Readers.{IsBytes, IsBytes-after, IsReader, bind_some, cond_none, both_reads, made_reads, tested_reads, within_reads, wide4, wide6, wide8, number_reads, counted_reads, AreInTurn, list_reads, list_is, counted_list_reads}
use Rattle.frame_codec.proofs.Turns.{LinkAbove, EntryAbove, LifeAbove, lives_in_order, links_rise, links_in_turn, lives_rise, entries_in_turn, numbers_hold, numbers_pass}

pub life_reads : IsReader life_at life_bytes IsLife
unfolding life_at
life_reads = made_reads life_of (λ l. (l.uid, l.boot)) life_bytes IsLife (both_reads (number_reads 6 (2 ^ 48) wide6) counted_reads)
    (λ p h. refl) (λ p h. record { uid = h.0; boot = h.1 }) (λ l. refl) (λ l h. (h.uid, h.boot))

pub end_reads : IsReader end_at end_bytes IsEnd
unfolding end_at
end_reads = made_reads end_of (λ e. (e.life, e.port)) end_bytes IsEnd (both_reads life_reads (within_reads 1 12 (omega arith)))
    (λ p h. refl) (λ p h. record { life = h.0; port = h.1 }) (λ e. refl) (λ e h. (h.life, h.port))

truth_spelled : (b : ℕ) → IsWithin 0 1 b → b ∷ [] ≡ truth_bytes (b == 1)
truth_spelled zero h = refl
truth_spelled (suc zero) h = refl
truth_spelled (suc (suc b)) h = absurd (omega (arith, h.1))

truth_back : (t : Bool) → (cond t 1 0 == 1) ≡ t
truth_back true = refl
truth_back false = refl

truth_parts : (t : Bool) → IsWithin 0 1 (cond t 1 0)
truth_parts true = (omega arith, omega arith)
truth_parts false = (omega arith, omega arith)

pub truth_reads : IsReader truth_at truth_bytes (λ t. ⊤)
truth_reads = made_reads (λ b. b == 1) (λ t. cond t 1 0) truth_bytes (λ t. ⊤) (within_reads 0 1 (omega arith)) truth_spelled (λ b h. tt) truth_back (λ t h. truth_parts t)

pub position_reads : IsReader position_at position_bytes IsPosition
unfolding position_at
position_reads = made_reads position_of (λ p. (((p.root, p.level), p.parent), p.port)) position_bytes IsPosition (both_reads (both_reads (both_reads life_reads (within_reads 0 125 (omega arith))) life_reads) (within_reads 0 12 (omega arith)))
    (λ p h. refl) (λ p h. record { root = h.0.0.0; level = h.0.0.1; parent = h.0.1; port = h.1 }) (λ p. refl) (λ p h. (((h.root, h.level), h.parent), h.port))

pub link_above_reads : (above : ℕ) → IsReader (link_above_at above) link_bytes (LinkAbove above)
unfolding link_above_at
link_above_reads above = made_reads link_of (λ k. (k.port, k.peer)) link_bytes (LinkAbove above) (both_reads (within_reads (above + 1) 12 (omega arith)) end_reads)
    (λ p h. refl) (λ p h. record { port = h.0; peer = h.1 }) (λ k. refl) (λ k h. (h.port, h.peer))

pub links_reads : IsReader links_at links_bytes AreLinks
unfolding links_at
links_reads =
    let list = counted_list_reads 0 12 (omega arith) (links_from 0) link_bytes (AreInTurn LinkAbove (λ k. k.port) 0) (list_reads link_above_at (λ k. k.port) link_bytes LinkAbove link_above_reads 0) in
    record {
      takes = λ bytes ks rest fits e. let h = list.takes bytes ks rest fits e in (h.0, links_rise ks h.1.0 h.1.1);
      again = λ ks rest h. list.again ks rest ((omega arith, h.most), links_in_turn ks h);
    }

pub entry_reads : IsReader entry_at entry_bytes IsEntry
unfolding entry_at
entry_reads = made_reads entry_of (λ e. (((e.life, e.position), e.proposed), e.links)) entry_bytes IsEntry (both_reads (both_reads (both_reads life_reads position_reads) (within_reads 1 126 (omega arith))) links_reads)
    (λ p h. refl) (λ p h. record { life = h.0.0.0; position = h.0.0.1; proposed = h.0.1; links = h.1 }) (λ e. refl) (λ e h. (((h.life, h.position), h.proposed), h.links))

pub entry_above_reads : (above : Option LifeId) → IsReader (entry_above_at above) entry_bytes (EntryAbove above)
unfolding entry_above_at
entry_above_reads above = tested_reads (λ e. is_above above e.life) entry_at entry_bytes IsEntry (EntryAbove above) entry_reads (λ e h t. record { entry = h; low = t }) (λ e h. (h.entry, h.low))

above_holds : (above : Option LifeId) (bytes : List ℕ) (e : EntryOf) (rest : List ℕ) → entry_above_at above bytes ≡ Some (e, rest) → LifeAbove above e
unfolding entry_above_at
above_holds above bytes e rest h =
    let u = bind_some (entry_at bytes) (λ x. cond (is_above above x.0.life) (Some x) None) (e, rest) h in
    let g = cond_some (is_above above u.0.0.life) u.0 (e, rest) u.2 in
    subst (λ (z : EntryOf × List ℕ). LifeAbove above z.0) g.1 g.0

-- what entries are, whatever their bytes are
pub entries_are : (n : ℕ) (bytes : List ℕ) (es : List EntryOf) (rest : List ℕ) → entries_from None n bytes ≡ Some (es, rest) → (length es ≡ n) × LivesRise es
entries_are n bytes es rest h = let k = list_is entry_above_at (λ e. Some e.life) LifeAbove above_holds n None bytes es rest h in (k.0, lives_in_order es k.1)

pub entries_reads : IsReader entries_at entries_bytes AreEntries
unfolding entries_at
entries_reads =
    let list = counted_list_reads 1 126 (omega arith) (entries_from None) entry_bytes (AreInTurn EntryAbove (λ e. Some e.life) None) (list_reads entry_above_at (λ e. Some e.life) entry_bytes EntryAbove entry_above_reads None) in
    record {
      takes = λ bytes es rest fits e. let h = list.takes bytes es rest fits e in (h.0, lives_rise es h.1.0 h.1.1);
      again = λ es rest h. list.again es rest (h.count, entries_in_turn es h);
    }

pub pos_reads : IsReader pos_at pos_bytes IsPos
unfolding pos_at
pos_reads = made_reads pos_of (λ b. (((b.version, b.root), b.level), b.to_parent)) pos_bytes IsPos (both_reads (both_reads (both_reads counted_reads life_reads) (within_reads 0 125 (omega arith))) truth_reads)
    (λ p h. refl) (λ p h. record { version = h.0.0.0; root = h.0.0.1; level = h.0.1 }) (λ b. refl) (λ b h. (((h.version, h.root), h.level), tt))

pub answer_reads : IsReader answer_at answer_bytes (λ b. IsCounted b.version)
unfolding answer_at
answer_reads = made_reads answer_of (λ b. (b.version, b.to_parent)) answer_bytes (λ b. IsCounted b.version) (both_reads counted_reads truth_reads)
    (λ p h. refl) (λ p h. h.0) (λ b. refl) (λ b h. (h, tt))

-- ---- numbers

bytes_takes : (count : ℕ) (bytes xs rest : List ℕ) → IsBytes bytes → bytes_at count bytes ≡ Some (xs, rest) → (bytes ≡ xs ++ rest) × (length xs ≡ count)
bytes_takes count bytes xs rest fits e =
    let g = cond_none (nat_lt (length bytes) count) (take count bytes, drop count bytes) (xs, rest) e in
    let long : count ≤ length bytes = ltb-false _ _ g.0 in
    subst (λ (z : List ℕ × List ℕ). (bytes ≡ z.0 ++ z.1) × (length z.0 ≡ count)) g.1 (sym (take-append-drop count bytes), omega (arith, length-take count bytes))

bytes_again : (count : ℕ) (xs rest : List ℕ) → length xs ≡ count → bytes_at count (xs ++ rest) ≡ Some (xs, rest)
bytes_again count xs rest len =
    let long : nat_lt (length (xs ++ rest)) count ≡ false = le-ltb _ _ (omega (arith, length-append xs rest, len)) in
    rw (long, take_at xs rest count len, drop_at xs rest count len) refl

bytes_reads : (count : ℕ) → IsReader (bytes_at count) (λ xs. xs) (λ xs. length xs ≡ count)
bytes_reads count = record { takes = bytes_takes count; again = bytes_again count }

numbers_reads : (count : ℕ) → IsWithin 1 126 count → IsReader (numbers_at count) (λ xs. xs) (λ xs. (length xs ≡ count) × AreNumbers xs)
unfolding numbers_at
numbers_reads count within = tested_reads are_numbers (bytes_at count) (λ xs. xs) (λ xs. length xs ≡ count) (λ xs. (length xs ≡ count) × AreNumbers xs) (bytes_reads count)
    (λ xs len t. (len, numbers_hold xs (subst (IsWithin 1 126) (sym len) within) t)) (λ xs h. (h.0, numbers_pass xs h.1))

-- ---- topologies

topo_takes : (bytes : List ℕ) (b : TopoOf) (rest : List ℕ) → IsBytes bytes → topo_at bytes ≡ Some (b, rest) → (bytes ≡ topo_bytes b ++ rest) × IsTopo b
unfolding topo_at
topo_takes bytes b rest fits e =
    let u = bind_some (entries_at bytes) (λ es. numbers_at (length es.0) es.1 >>= λ ns. Some (topo_of es.0 ns.0, ns.1)) (b, rest) e in
    let v = bind_some (numbers_at (length u.0.0) u.0.1) (λ ns. Some (topo_of u.0.0 ns.0, ns.1)) (b, rest) u.2 in
    let h = entries_reads.takes bytes u.0.0 u.0.1 fits u.1 in
    let k = (numbers_reads (length u.0.0) h.1.count).takes u.0.1 v.0.0 v.0.1 (IsBytes-after (entries_bytes u.0.0) u.0.1 (subst IsBytes h.0 fits)) v.1 in
    let whole : bytes ≡ (entries_bytes u.0.0 ++ v.0.0) ++ v.0.1 = h.0 ∙ ap (λ (r : List ℕ). entries_bytes u.0.0 ++ r) k.0 ∙ sym (append_assoc (entries_bytes u.0.0) v.0.0 v.0.1) in
    subst (λ (z : TopoOf × List ℕ). (bytes ≡ topo_bytes z.0 ++ z.1) × IsTopo z.0) (same_Some (topo_of u.0.0 v.0.0, v.0.1) (b, rest) v.2) (whole, record { entries = h.1; numbers = k.1.1; as_many = sym k.1.0 })

topo_again : (b : TopoOf) (rest : List ℕ) → IsTopo b → topo_at (topo_bytes b ++ rest) ≡ Some (b, rest)
unfolding topo_at
topo_again b rest h =
    ap topo_at (append_assoc (entries_bytes b.entries) b.numbers rest) ∙ rw (entries_reads.again b.entries (b.numbers ++ rest) h.entries, (numbers_reads (length b.entries) h.entries.count).again b.numbers rest (sym h.as_many, h.numbers)) refl

topo_reads : IsReader topo_at topo_bytes IsTopo
topo_reads = record { takes = topo_takes; again = topo_again }

-- ---- kinds

-- one of two choices was made
chosen : {A : Type 0} (b : Bool) (x y z : A) → cond b x y ≡ z → ((b ≡ true) × (x ≡ z)) ⊎ ((b ≡ false) × (y ≡ z))
chosen true x y z e = inl (refl, e)
chosen false x y z e = inr (refl, e)

-- what was read where the value is of one kind
record IsOfKind {A B : Type 0} (C : A → B) (spell : A → List ℕ) (Is : A → Type 0) (bytes : List ℕ) (x : B) (rest : List ℕ) : Type 0 where
  value : A
  made_of : C value ≡ x
  parts : bytes ≡ spell value ++ rest
  holds : Is value

kind_takes : {A B : Type 0} (C : A → B) {a : At A} {spell : A → List ℕ} {Is : A → Type 0} → IsReader a spell Is → (bytes : List ℕ) (x : B) (rest : List ℕ) → IsBytes bytes → made C a bytes ≡ Some (x, rest) → IsOfKind C spell Is bytes x rest
kind_takes {A} {B} C {a} {spell} {Is} ra bytes x rest fits e =
    let u = bind_some (a bytes) (λ v. Some (C v.0, v.1)) (x, rest) e in
    let h = ra.takes bytes u.0.0 u.0.1 fits u.1 in
    let same = some_pair_parts (C u.0.0) x u.0.1 rest u.2 in
    record { value = u.0.0; made_of = same.0; parts = h.0 ∙ ap (λ (r : List ℕ). spell u.0.0 ++ r) same.1; holds = h.1 }

-- a kind byte in front
kind_whole : {A B : Type 0} (C : A → B) {spell : A → List ℕ} {Is : A → Type 0} (whole : B → List ℕ) (Q : B → Type 0) (c kind : ℕ) (bytes : List ℕ) (x : B) (rest : List ℕ) → (c == kind) ≡ true → ((v : A) → whole (C v) ≡ kind ∷ spell v) → ((v : A) → Is v → Q (C v)) → IsOfKind C spell Is bytes x rest → (c ∷ bytes ≡ whole x ++ rest) × Q x
kind_whole {A} {B} C {spell} {Is} whole Q c kind bytes x rest is spelled holds k =
    let same : c ≡ kind = eqb-true c kind is in
    subst (λ (y : B). (c ∷ bytes ≡ whole y ++ rest) × Q y) k.made_of (ap (λ (m : ℕ). m ∷ bytes) same ∙ ap (λ (r : List ℕ). kind ∷ r) k.parts ∙ ap (λ (r : List ℕ). r ++ rest) (sym (spelled k.value)), holds k.value k.holds)

body_takes : (bytes : List ℕ) (x : Body) (rest : List ℕ) → IsBytes bytes → body_at bytes ≡ Some (x, rest) → (bytes ≡ body_bytes x ++ rest) × IsBody x
unfolding body_at
body_takes [] x rest fits e = absurd cc
body_takes (c ∷ bytes) x rest fits e =
    let after : IsBytes bytes = λ i. fits (suc i) in
    elim (chosen (c == 1) (made Pos pos_at bytes) _ _ e) [
      | inl p ↦ kind_whole Pos body_bytes IsBody c 1 bytes x rest p.0 (λ v. refl) (λ v h. h) (kind_takes Pos pos_reads bytes x rest after p.1)
      | inr p ↦ elim (chosen (c == 2) (made Answer answer_at bytes) _ _ p.1) [
        | inl q ↦ kind_whole Answer body_bytes IsBody c 2 bytes x rest q.0 (λ v. refl) (λ v h. h) (kind_takes Answer answer_reads bytes x rest after q.1)
        | inr q ↦ elim (chosen (c == 3) (made Stable entries_at bytes) _ _ q.1) [
          | inl r ↦ kind_whole Stable body_bytes IsBody c 3 bytes x rest r.0 (λ v. refl) (λ v h. h) (kind_takes Stable entries_reads bytes x rest after r.1)
          | inr r ↦ elim (chosen (c == 4) (made Topo topo_at bytes) _ _ r.1) [
            | inl t ↦ kind_whole Topo body_bytes IsBody c 4 bytes x rest t.0 (λ v. refl) (λ v h. h) (kind_takes Topo topo_reads bytes x rest after t.1)
            | inr t ↦ absurd (none-some _ t.1)
          ]
        ]
      ]
    ]

body_again : (x : Body) (rest : List ℕ) → IsBody x → body_at (body_bytes x ++ rest) ≡ Some (x, rest)
unfolding body_at
body_again (Pos b) rest h = rw (pos_reads.again b rest h) refl
body_again (Answer b) rest h = rw (answer_reads.again b rest h) refl
body_again (Stable es) rest h = rw (entries_reads.again es rest h) refl
body_again (Topo b) rest h = rw (topo_reads.again b rest h) refl

body_reads : IsReader body_at body_bytes IsBody
body_reads = record { takes = body_takes; again = body_again }

carry_reads : IsReader carry_at carry_bytes IsCarry
unfolding carry_at
carry_reads = made_reads carry_of (λ f. ((((f.epoch, f.from), f.to), f.number), f.body)) carry_bytes IsCarry (both_reads (both_reads (both_reads (both_reads (number_reads 8 (2 ^ 64) wide8) end_reads) end_reads) counted_reads) body_reads)
    (λ p h. refl) (λ p h. record { epoch = h.0.0.0.0; from = h.0.0.0.1; to = h.0.0.1; number = h.0.1; body = h.1 }) (λ f. refl) (λ f h. ((((h.epoch, h.from), h.to), h.number), h.body))

ack_reads : IsReader (both (both (both (number_at 8) end_at) end_at) (number_at 4)) (λ p. number_bytes 8 p.0.0.0 ++ end_bytes p.0.0.1 ++ end_bytes p.0.1 ++ number_bytes 4 p.1) (λ p. (((p.0.0.0 < 2 ^ 64) × IsEnd p.0.0.1) × IsEnd p.0.1) × (p.1 < 2 ^ 32))
ack_reads = both_reads (both_reads (both_reads (number_reads 8 (2 ^ 64) wide8) end_reads) end_reads) (number_reads 4 (2 ^ 32) wide4)

probe_reads : IsReader (both end_at (number_at 8)) (λ p. end_bytes p.0 ++ number_bytes 8 p.1) (λ p. IsEnd p.0 × (p.1 < 2 ^ 64))
probe_reads = both_reads end_reads (number_reads 8 (2 ^ 64) wide8)

reply_reads : IsReader (both (both end_at end_at) (number_at 8)) (λ p. end_bytes p.0.0 ++ end_bytes p.0.1 ++ number_bytes 8 p.1) (λ p. (IsEnd p.0.0 × IsEnd p.0.1) × (p.1 < 2 ^ 64))
reply_reads = both_reads (both_reads end_reads end_reads) (number_reads 8 (2 ^ 64) wide8)

frame_takes : (bytes : List ℕ) (x : Frame) (rest : List ℕ) → IsBytes bytes → frame_at bytes ≡ Some (x, rest) → (bytes ≡ spelling x ++ rest) × IsFrame x
unfolding frame_at ack_at probe_at reply_at
frame_takes [] x rest fits e = absurd cc
frame_takes (c ∷ bytes) x rest fits e =
    let after : IsBytes bytes = λ i. fits (suc i) in
    elim (chosen (c == 1) (made Carry carry_at bytes) _ _ e) [
      | inl p ↦ kind_whole Carry spelling IsFrame c 1 bytes x rest p.0 (λ v. refl) (λ v h. h) (kind_takes Carry carry_reads bytes x rest after p.1)
      | inr p ↦ elim (chosen (c == 2) (ack_at bytes) _ _ p.1) [
        | inl q ↦ kind_whole ack_of spelling IsFrame c 2 bytes x rest q.0 (λ v. refl) (λ v h. (h.0.0.0, h.0.0.1, h.0.1, h.1)) (kind_takes ack_of ack_reads bytes x rest after q.1)
        | inr q ↦ elim (chosen (c == 3) (probe_at bytes) _ _ q.1) [
          | inl r ↦ kind_whole probe_of spelling IsFrame c 3 bytes x rest r.0 (λ v. refl) (λ v h. h) (kind_takes probe_of probe_reads bytes x rest after r.1)
          | inr r ↦ elim (chosen (c == 4) (reply_at bytes) _ _ r.1) [
            | inl t ↦ kind_whole reply_of spelling IsFrame c 4 bytes x rest t.0 (λ v. refl) (λ v h. (h.0.0, h.0.1, h.1)) (kind_takes reply_of reply_reads bytes x rest after t.1)
            | inr t ↦ absurd (none-some _ t.1)
          ]
        ]
      ]
    ]

frame_again : (x : Frame) (rest : List ℕ) → IsFrame x → frame_at (spelling x ++ rest) ≡ Some (x, rest)
unfolding frame_at ack_at probe_at reply_at
frame_again (Carry f) rest h = rw (carry_reads.again f rest h) refl
frame_again (Ack epoch from to n) rest h = rw (ack_reads.again (((epoch, from), to), n) rest (((h.0, h.1), h.2), h.3)) refl
frame_again (Probe from nonce) rest h = rw (probe_reads.again (from, nonce) rest h) refl
frame_again (Reply from to nonce) rest h = rw (reply_reads.again ((from, to), nonce) rest ((h.0, h.1), h.2)) refl

pub frame_reads : IsReader frame_at spelling IsFrame
frame_reads = record { takes = frame_takes; again = frame_again }
