-- What decoding gives, and the laws of spellings and of reading.
use Rattle.std.proofs.Common.{◌≡◌, ℕ, ◌==◌, cond, List, [], ◌++◌, length, Some, None, Result, Ok, Err, refl, sym, ap, subst, ◌∙◌, inl, inr, arith}
use Rattle.std.specs.Prelude.{IfOk, All, ◌<◌}
use Rattle.std.proofs.lemmas.Bool.{eqb-true, cases_lt}
use Rattle.std.proofs.lemmas.Option.{cond_some, some_pair_parts, none-some}
use Rattle.std.proofs.lemmas.List.{append-nil, nil_from_length, get_or_past}
use Rattle.an_base.specs.declared.frame.Frame.{Frame}
use Rattle.frame_codec.specs.declared.reading.DecodeRefusal.{DecodeRefusal}
use Rattle.frame_codec.specs.declared.reading.DecodeRefusal.TheVariants.{NotAFrame}
use Rattle.frame_codec.specs.Spelling.{spelling}
use Rattle.frame_codec.specs.Frames.{IsFrame, IsNoFrame}
use Rattle.frame_codec.specs.Reading.{frame_at, frame_of, GivesFrame}
use Rattle.frame_codec.proofs.Readers.{IsBytes, bind_some}
use Rattle.frame_codec.proofs.FrameReaders.{frame_reads}

pub frame_takes : (bytes : List ℕ) (f : Frame) → IsBytes bytes → frame_of bytes ≡ Some f → IsFrame f × (bytes ≡ spelling f)
unfolding frame_of
frame_takes bytes f fits e =
    let u = bind_some (frame_at bytes) (λ x. cond (length x.1 == 0) (Some x.0) None) f e in
    let g = cond_some (length u.0.1 == 0) u.0.0 f u.2 in
    let h = frame_reads.takes bytes u.0.0 u.0.1 fits u.1 in
    let nothing : u.0.1 ≡ [] = nil_from_length u.0.1 (eqb-true _ _ g.0) in
    subst (λ (y : Frame). IsFrame y × (bytes ≡ spelling y)) g.1 (h.1, h.0 ∙ ap (λ (r : List ℕ). spelling u.0.0 ++ r) nothing ∙ append-nil (spelling u.0.0))

pub frame_again : (f : Frame) → IsFrame f → frame_of (spelling f) ≡ Some f
unfolding frame_of
frame_again f h =
    let one : frame_at (spelling f) ≡ Some (f, []) = ap frame_at (sym (append-nil (spelling f))) ∙ frame_reads.again f [] h in
    rw one refl

pub is_found : (bytes : List ℕ) (r : Result Frame DecodeRefusal) → IsBytes bytes → GivesFrame bytes r → IfOk r (λ f. IsFrame f × (bytes ≡ spelling f))
is_found bytes (Ok f) fits h = frame_takes bytes f fits h
is_found bytes (Err e) fits h = tt

pub is_refused : (bytes : List ℕ) (r : Result Frame DecodeRefusal) → GivesFrame bytes r → r ≡ Err NotAFrame → IsNoFrame bytes
is_refused bytes r h e f is same =
    let none : frame_of bytes ≡ None = subst (GivesFrame bytes) e h in
    none-some f (sym none ∙ ap frame_of (sym same) ∙ frame_again f is)

-- two frames whose spellings begin the same bytes are one, and the same follows them
same_front : (f g : Frame) (x y : List ℕ) → IsFrame f → IsFrame g → spelling f ++ x ≡ spelling g ++ y → (f ≡ g) × (x ≡ y)
same_front f g x y is also e = some_pair_parts f g x y (sym (frame_reads.again f x is) ∙ ap frame_at e ∙ frame_reads.again g y also)

pub one_frame : (f g : Frame) → IsFrame f → IsFrame g → spelling f ≡ spelling g → f ≡ g
one_frame f g is also e = (same_front f g [] [] is also (ap (λ (r : List ℕ). r ++ []) e)).0

pub no_more : (f g : Frame) (more : List ℕ) → IsFrame f → IsFrame g → spelling f ++ more ≡ spelling g → more ≡ []
no_more f g more is also e = (same_front f g more [] is also (e ∙ sym (append-nil (spelling g)))).1

-- what the bytes of a list are, as a reader takes it
are_bytes : (bytes : List ℕ) → All (λ byte. byte < 256) bytes → IsBytes bytes
are_bytes bytes all i =
    elim (cases_lt i (length bytes)) [ inl below ↦ all i 0 below | inr past ↦ rw (get_or_past bytes i 0 past) (omega arith) ]

-- what is read is spelled by the bytes
pub read_is_spelled : (bytes : List ℕ) (frame : Frame) → All (λ byte. byte < 256) bytes → frame_of bytes ≡ Some frame → IsFrame frame × (bytes ≡ spelling frame)
read_is_spelled bytes frame all = frame_takes bytes frame (are_bytes bytes all)
