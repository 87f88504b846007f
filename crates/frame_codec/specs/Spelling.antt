-- The one encoding (spelling) of each frame. Numbers start with their highest byte.
use Rattle.std.specs.Prelude.{ℕ, Bool, true, false, List, [], ◌∷◌, ◌++◌, length}
use Rattle.std.specs.List.{flat_map}
use Rattle.byteorder.specs.Endian.{big_bytes}
use Rattle.an_base.specs.Values.{LifeId, EndId, Place, PeerAt, EntryOf, PosOf, AnswerOf, TopoOf}
use Rattle.an_base.specs.Frames.{CarryOf}
use Rattle.an_base.specs.declared.body.Body.{Body}
use Rattle.an_base.specs.declared.body.Body.TheVariants.{Pos, Answer, Stable, Topo}
use Rattle.an_base.specs.declared.frame.Frame.{Frame}
use Rattle.an_base.specs.declared.frame.Frame.TheVariants.{Carry, Ack, Probe, Reply}
use Rattle.frame_codec.specs.declared.writing.CarryHead.{CarryHead}

-- the `count` lowest bytes of a number, highest first
unfoldable pub number_bytes : ℕ → ℕ → List ℕ
number_bytes count number = big_bytes count number

-- a life is 10 bytes: identifier 6, boot 4
abbrev pub life_bytes : LifeId → List ℕ
life_bytes life = number_bytes 6 life.uid ++ number_bytes 4 life.boot

-- an end is a life and a port byte
abbrev pub end_bytes : EndId → List ℕ
end_bytes end = life_bytes end.life ++ end.port ∷ []

-- a truth value is 01 or 00
abbrev pub truth_bytes : Bool → List ℕ
truth_bytes true = 1 ∷ []
truth_bytes false = 0 ∷ []

-- root 10, level 1, parent 10, parent port 1
abbrev pub position_bytes : Place → List ℕ
position_bytes place =
    life_bytes place.root ++ (place.level ∷ []) ++ life_bytes place.parent ++ place.port ∷ []

-- port 1, peer life 10, peer port 1
abbrev pub link_bytes : PeerAt → List ℕ
link_bytes link = (link.port ∷ []) ++ end_bytes link.peer

-- a count and that many links
abbrev pub links_bytes : List PeerAt → List ℕ
links_bytes links = length links ∷ flat_map link_bytes links

-- life 10, position 22, proposed number 1, links
abbrev pub entry_bytes : EntryOf → List ℕ
entry_bytes entry =
    life_bytes entry.life ++ position_bytes entry.position ++ (entry.proposed ∷ []) ++ links_bytes entry.links

-- a count and that many entries
abbrev pub entries_bytes : List EntryOf → List ℕ
entries_bytes entries = length entries ∷ flat_map entry_bytes entries

-- version 4, root 10, level 1, to_parent 1
abbrev pub pos_bytes : PosOf → List ℕ
pos_bytes told =
    number_bytes 4 told.version ++ life_bytes told.root ++ (told.level ∷ []) ++ truth_bytes told.to_parent

-- version 4, to_parent 1
abbrev pub answer_bytes : AnswerOf → List ℕ
answer_bytes answer = number_bytes 4 answer.version ++ truth_bytes answer.to_parent

-- entries, and a byte for the number of each
abbrev pub topo_bytes : TopoOf → List ℕ
topo_bytes topo = entries_bytes topo.entries ++ topo.numbers

-- a kind byte, and the content of this kind
abbrev pub body_bytes : Body → List ℕ
body_bytes (Pos told) = 1 ∷ pos_bytes told
body_bytes (Answer answer) = 2 ∷ answer_bytes answer
body_bytes (Stable entries) = 3 ∷ entries_bytes entries
body_bytes (Topo topo) = 4 ∷ topo_bytes topo

-- a body with what precedes it
abbrev pub carried : CarryHead → Body → CarryOf
carried head body =
    record { epoch = head.epoch; from = head.from; to = head.to; number = head.k; body = body }

-- epoch 8, from 11, to 11, number 4, body
abbrev pub carry_bytes : CarryOf → List ℕ
carry_bytes carry =
    number_bytes 8 carry.epoch ++ end_bytes carry.from ++ end_bytes carry.to
    ++ number_bytes 4 carry.number ++ body_bytes carry.body

-- a kind byte, and the content of this kind; nothing follows
abbrev pub spelling : Frame → List ℕ
spelling (Carry carry) = 1 ∷ carry_bytes carry
spelling (Ack epoch from to accepted) =
    2 ∷ number_bytes 8 epoch ++ end_bytes from ++ end_bytes to ++ number_bytes 4 accepted
spelling (Probe from nonce) = 3 ∷ end_bytes from ++ number_bytes 8 nonce
spelling (Reply from to nonce) = 4 ∷ end_bytes from ++ end_bytes to ++ number_bytes 8 nonce
