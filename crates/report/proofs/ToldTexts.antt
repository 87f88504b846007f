-- The lines of an event are made of pieces.
use Rattle.std.proofs.Common.{◌≡◌, ◌≢◌, ◌∙◌, sym, refl, ap, Option, ℕ, ◌+◌, ◌<◌, List, [], ◌∷◌, ◌++◌, length, append_assoc, append-nil, get_or, take}
use Rattle.std.specs.Fmt.{decimal}
use Rattle.std.specs.List.{flat_map}
use Rattle.std.proofs.lemmas.List.{flat_map_more, take_more}
use Rattle.std.proofs.lemmas.Grind.{flat_map-append}
use Rattle.an_base.specs.Values.{EndId, LifeId}
use Rattle.an_base.specs.declared.port.PortState.{PortState}
use Rattle.an_base.specs.declared.port.PortState.TheVariants as state
use Rattle.net_script.specs.Scripts.{ScriptOf}
use Rattle.net_state.specs.declared.line.Line.{Line}
use Rattle.net_state.specs.declared.line.Line.TheVariants as told
use Rattle.host_traffic.specs.declared.hop.DropCause.{DropCause}
use Rattle.report.specs.Events.{packet_words, peer_words, spaced, spaced_word}

-- no words
pub no_words : (text : List ℕ) → text ≡ text ++ spaced []
unfolding spaced
no_words text = sym (append-nil text)

-- a word behind a space
pub one_word : (t0 t1 t2 word : List ℕ) → t1 ≡ t0 ++ 32 ∷ [] → t2 ≡ t1 ++ word → t2 ≡ t0 ++ spaced (word ∷ [])
unfolding spaced
one_word t0 t1 t2 word one two =
    two ∙ ap (λ (t : List ℕ). t ++ word) one ∙ append_assoc t0 (32 ∷ []) word ∙ ap (λ (t : List ℕ). t0 ++ t) (sym (append-nil (32 ∷ word)))

-- words behind others
pub goes_on : (t0 t1 t2 : List ℕ) (some more : List (List ℕ)) → t1 ≡ t0 ++ spaced some → t2 ≡ t1 ++ spaced more → t2 ≡ t0 ++ spaced (some ++ more)
unfolding spaced
goes_on t0 t1 t2 some more one two =
    two ∙ ap (λ (t : List ℕ). t ++ spaced more) one ∙ append_assoc t0 (spaced some) (spaced more) ∙ ap (λ (t : List ℕ). t0 ++ t) (sym (flat_map-append spaced_word some more))

-- pieces in turn
pub three_pieces : (t0 t1 t2 t3 a b c : List ℕ) → t1 ≡ t0 ++ a → t2 ≡ t1 ++ b → t3 ≡ t2 ++ c → t3 ≡ t0 ++ ((a ++ b) ++ c)
three_pieces t0 t1 t2 t3 a b c one two three =
    three ∙ ap (λ (t : List ℕ). t ++ c) (two ∙ ap (λ (t : List ℕ). t ++ b) one) ∙ simp append_assoc

pub four_pieces : (t0 t1 t2 t3 t4 a b c d : List ℕ) → t1 ≡ t0 ++ a → t2 ≡ t1 ++ b → t3 ≡ t2 ++ c → t4 ≡ t3 ++ d → t4 ≡ t0 ++ (((a ++ b) ++ c) ++ d)
four_pieces t0 t1 t2 t3 t4 a b c d one two three four =
    four ∙ ap (λ (t : List ℕ). t ++ d) (three ∙ ap (λ (t : List ℕ). t ++ c) (two ∙ ap (λ (t : List ℕ). t ++ b) one)) ∙ simp append_assoc

-- one line more
pub told_more : (f : Line → List ℕ) (base text new : List ℕ) (lines : List Line) (place : ℕ) (line : Line) → place < length lines → line ≡ get_or lines place line → text ≡ base ++ flat_map f (take place lines) → new ≡ text ++ f line → new ≡ base ++ flat_map f (take (place + 1) lines)
told_more f base text new lines place line within at so_far one =
    one ∙ ap (λ (t : List ℕ). t ++ f line) so_far ∙ flat_map_more f base (take place lines) line
    ∙ ap (λ (ls : List Line). base ++ flat_map f ls) (ap (λ (l : Line). take place lines ++ l ∷ []) at ∙ sym (take_more lines place line within))

-- a number as it stands in another type
pub number_is : (t0 t1 : List ℕ) (n m : ℕ) → n ≡ m → t1 ≡ t0 ++ spaced (decimal n ∷ []) → t1 ≡ t0 ++ spaced (decimal m ∷ [])
number_is t0 t1 n m same is = is ∙ ap (λ (k : ℕ). t0 ++ spaced (decimal k ∷ [])) same

-- a word, and what stands at a switch, as they come out of calls
pub word_is : (t0 t1 word other : List ℕ) → word ≡ other → t1 ≡ t0 ++ spaced (word ∷ []) → t1 ≡ t0 ++ spaced (other ∷ [])
word_is t0 t1 word other same is = is ∙ ap (λ (w : List ℕ). t0 ++ spaced (w ∷ [])) same

pub at_is : (t0 t1 switch word : List ℕ) (n m : ℕ) → n ≡ m → t1 ≡ t0 ++ spaced (switch ∷ word ∷ decimal n ∷ []) → t1 ≡ t0 ++ spaced (switch ∷ word ∷ decimal m ∷ [])
at_is t0 t1 switch word n m same is = is ∙ ap (λ (k : ℕ). t0 ++ spaced (switch ∷ word ∷ decimal k ∷ [])) same

-- nothing is told of the other end of a port that is not good
pub no_peer : (script : ScriptOf) (shown : PortState) (peer : Option EndId) → shown ≢ state.Good → peer_words script shown peer ≡ []
no_peer script state.Dead peer other = refl
no_peer script state.Checking peer other = refl
no_peer script state.Host peer other = refl
no_peer script state.Who peer other = refl
no_peer script state.Loop peer other = refl
no_peer script state.Good peer other = absurd (other refl)

-- nor of a packet where something else is told
pub no_packet : (script : ScriptOf) (lives : List LifeId) (line : Line) → ((packet from to address : ℕ) → line ≢ told.Packet packet from to address) → ((packet from to : ℕ) (why : DropCause) → line ≢ told.Unsent packet from to why)
    → ((packet place epoch entry exit : ℕ) (host : Option ℕ) → line ≢ told.Moved packet place epoch entry exit host) → ((packet place : ℕ) (why : DropCause) → line ≢ told.Fell packet place why) → packet_words script lives line ≡ []
no_packet script lives (told.Packet packet from to address) sent unsent moved fell = absurd (sent packet from to address refl)
no_packet script lives (told.Unsent packet from to why) sent unsent moved fell = absurd (unsent packet from to why refl)
no_packet script lives (told.Moved packet place epoch entry exit host) sent unsent moved fell = absurd (moved packet place epoch entry exit host refl)
no_packet script lives (told.Fell packet place why) sent unsent moved fell = absurd (fell packet place why refl)
no_packet script lives other sent unsent moved fell = refl
