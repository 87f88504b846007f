-- What is on the wires was sent, or is no frame.

use Rattle.std.specs.Prelude.{◌≡◌, ◌⊎◌, ℕ, zero, suc, List, [], ◌∷◌, Some, None, refl}
use Rattle.std.proofs.Common.{sym, ◌∙◌, ap, subst, inl, inr}
use Rattle.an_base.specs.declared.frame.Frame.{Frame}
use Rattle.frame_codec.specs.Spelling.{spelling}
use Rattle.frame_codec.specs.Frames.{IsFrame}
use Rattle.frame_codec.specs.Reading.{frame_at, frame_of}
use Rattle.topo_report.proofs.Members.{In}
use Rattle.epoch_game.proofs.Basics.{some_same, none_some}
use Rattle.switch_core.specs.Steps.{Sent}
use Rattle.switch_core.specs.Bytes.{all_spelled}
use Rattle.switch_game.specs.Network.{frames_of}
use Rattle.net_state.specs.Effects.{noise}
use Rattle.frame_codec.proofs.Decoding.{frame_again}
use Rattle.net_game.proofs.EachLemmas.{Each}

-- no frame begins with 00, and none is empty
pub noise_none : (n : ℕ) → frame_of (noise n) ≡ None
unfolding frame_of frame_at
noise_none zero = refl
noise_none (suc n) = refl

pub empty_none : frame_of [] ≡ None
unfolding frame_of frame_at
empty_none = refl

-- What may be on a wire: the spelling of a frame that was sent, or what is no frame
pub record IsSpelled (sent : List Frame) (bytes : List ℕ) : Type 0 where
  pub frame : Frame
  pub is_frame : IsFrame frame
  pub was : In frame sent
  pub spelled : bytes ≡ spelling frame

abbrev pub IsKnown : List Frame → List ℕ → Type 0
IsKnown sent bytes = IsSpelled sent bytes ⊎ (frame_of bytes ≡ None)

-- so a frame that is read was sent
pub known_sent : (sent : List Frame) (bytes : List ℕ) (f : Frame) → IsKnown sent bytes → frame_of bytes ≡ Some f → In f sent
known_sent sent bytes f (inl k) is =
    let same : k.frame ≡ f = some_same k.frame f (sym (frame_again k.frame k.is_frame) ∙ ap frame_of (sym k.spelled) ∙ is) in
    subst (λ (x : Frame). In x sent) same k.was
known_sent sent bytes f (inr none) is = absurd (none_some (sym none ∙ is))

pub known_frame : (sent : List Frame) (bytes : List ℕ) (f : Frame) → IsKnown sent bytes → frame_of bytes ≡ Some f → IsFrame f
known_frame sent bytes f (inl k) is = subst IsFrame (some_same k.frame f (sym (frame_again k.frame k.is_frame) ∙ ap frame_of (sym k.spelled) ∙ is)) k.is_frame
known_frame sent bytes f (inr none) is = absurd (none_some (sym none ∙ is))

-- more may be sent
pub known_more : (sent more : List Frame) → ((f : Frame) → In f sent → In f more) → (bytes : List ℕ) → IsKnown sent bytes → IsKnown more bytes
known_more sent more up bytes (inl k) = inl (record { frame = k.frame; is_frame = k.is_frame; was = up k.frame k.was; spelled = k.spelled })
known_more sent more up bytes (inr none) = inr none

-- what goes out is known
pub known_out : (xs : List Sent) (sent : List Frame) → Each (λ x. IsFrame x.frame) xs → ((f : Frame) → In f (frames_of xs) → In f sent) → Each (λ b. IsKnown sent b.bytes) (all_spelled xs)
known_out [] sent all among = tt
known_out (x ∷ xs) sent all among = (inl (record { frame = x.frame; is_frame = all.0; was = among x.frame (inl refl); spelled = refl }), known_out xs sent all.1 (λ f i. among f (inr i)))
