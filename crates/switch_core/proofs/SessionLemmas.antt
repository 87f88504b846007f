use Rattle.std.proofs.Common.{◌≡◌, ◌≢◌, ◌∙◌, sym, ap, ap₂, refl, subst, ℕ, suc, ◌-◌, ◌<◌, ◌≤◌, ◌==◌, arith, List, length, map, get_or, set, ext_get_or, slice_get, Option, Some, None, IfSome, All, Bool, true, false, cond}
use Rattle.std.proofs.lemmas.Option.{slice_get_read, get_or_from_slice_get, slice_get-get_or, slice_get_within, same_Some}
use Rattle.std.proofs.lemmas.List.{get_or-map, get_or-set_other, length-set}
use Rattle.std.proofs.lemmas.Bool.{eq-eqb, ne_eqb, eqb-true, eqb-false}
use Rattle.std.proofs.lemmas.Grind.{get_or-set_at}
use Rattle.std.proofs.lemmas.List.FromFn.{get_or-range_with_len}
use Rattle.std.proofs.lemmas.List.Elements.{All-get_or}
use Rattle.ordered_link.specs.Sending.{Sending, IsOut, unused}
use Rattle.ordered_link.specs.Receiving.{Receiving, untouched}
use Rattle.switch_core.specs.declared.session.Session.{Session}
use Rattle.switch_core.specs.declared.session.Sessions.{Sessions}
use Rattle.port_monitor.specs.Histories.{externals}
use Rattle.epoch_core.proofs.EpochLemmas.{map_same}
use Rattle.switch_core.specs.Switch.{at_port, is_unacked}
use Rattle.switch_core.specs.Sessions.{AreSessions, IsSessionOf, IsNew, IsOutAt, SendsBy, Sends, ReceivesBy, Receives}

-- of each port, from port 1, in a list of sessions
abbrev pub AreOf : List Session → (ℕ → Sending) → (ℕ → Receiving) → Type 0
AreOf xs sendings receivings = (i : ℕ) (session : Session) → slice_get xs i ≡ Some session → IsSessionOf session (sendings (suc i)) (receivings (suc i))

-- of each port, from port 1, whether some body that was pushed there is not acknowledged
abbrev pub unacked_at_each : (ℕ → Sending) → List Bool
unacked_at_each sendings = map (λ port. is_unacked (sendings port)) externals

-- the session that was read at a port
pub read_at : (xs ys : List Session) (i port : ℕ) (x : Session) → length ys ≡ 12 → 1 ≤ port → port ≤ 12 → i ≡ port - 1 → ys ≡ xs → x ≡ get_or ys i x → slice_get xs (port - 1) ≡ Some x
read_at xs ys i port x count least most place same is =
    ap (λ zs. slice_get zs (port - 1)) (sym same) ∙ ap (slice_get ys) (sym place) ∙ slice_get_read ys 12 i x (sym count) (omega arith) is

-- is that of the port's directions
pub session_at : (xs : List Session) (sendings : ℕ → Sending) (receivings : ℕ → Receiving) (port : ℕ) (x : Session) → 1 ≤ port → slice_get xs (port - 1) ≡ Some x → AreOf xs sendings receivings → IsSessionOf x (sendings port) (receivings port)
session_at xs sendings receivings port x least there are =
    let e : suc (port - 1) ≡ port = omega arith in
    subst (λ p. IsSessionOf x (sendings p) (receivings p)) e (are (port - 1) x there)

-- the value at a port, and at the others
pub at_the_port : {A : Type 0} (port : ℕ) (a : A) (f : ℕ → A) → at_port port a f port ≡ a
at_the_port port a f = ap (λ b. cond b a (f port)) (eq-eqb port port refl)

pub at_other_port : {A : Type 0} (port q : ℕ) (a : A) (f : ℕ → A) → q ≢ port → at_port port a f q ≡ f q
at_other_port port q a f other = ap (λ b. cond b a (f q)) (ne_eqb q port other)

-- one session changed
set_case : (xs : List Session) (port : ℕ) (y : Session) (sendings sendings' : ℕ → Sending) (receivings receivings' : ℕ → Receiving) (b : Bool) (i : ℕ) (session : Session) → b ≡ (i == port - 1) → 1 ≤ port → port - 1 < length xs
    → ((q : ℕ) → q ≢ port → (sendings' q ≡ sendings q) × (receivings' q ≡ receivings q))
    → IsSessionOf y (sendings' port) (receivings' port) → AreOf xs sendings receivings → slice_get (set xs (port - 1) y) i ≡ Some session → IsSessionOf session (sendings' (suc i)) (receivings' (suc i))
set_case xs port y se se' re re' true i session test least low others is are there =
    let place : i ≡ port - 1 = eqb-true i (port - 1) (sym test) in
    let found : y ≡ session = sym (get_or-set_at xs (port - 1) i y session place low) ∙ get_or_from_slice_get (set xs (port - 1) y) i session session there in
    let e : port ≡ suc i = omega arith in
    subst (λ x. IsSessionOf x (se' (suc i)) (re' (suc i))) found (subst (λ p. IsSessionOf y (se' p) (re' p)) e is)
set_case xs port y se se' re re' false i session test least low others is are there =
    let apart : i ≢ port - 1 = eqb-false i (port - 1) (sym test) in
    let other : suc i ≢ port = λ same. apart (omega arith) in
    let within : i < length xs = subst (λ n. i < n) (length-set xs (port - 1) y) (slice_get_within (set xs (port - 1) y) i session there) in
    let old : slice_get xs i ≡ Some session =
    slice_get-get_or xs i session within ∙ ap Some (sym (get_or-set_other xs (port - 1) i y session apart) ∙ get_or_from_slice_get (set xs (port - 1) y) i session session there) in
    let e = others (suc i) other in
    subst (λ x. IsSessionOf session (se' (suc i)) x) (sym e.1) (subst (λ x. IsSessionOf session x (re (suc i))) (sym e.0) (are i session old))

pub sessions_set : (xs : List Session) (port : ℕ) (y : Session) (sendings sendings' : ℕ → Sending) (receivings receivings' : ℕ → Receiving) → 1 ≤ port → port - 1 < length xs
    → ((q : ℕ) → q ≢ port → (sendings' q ≡ sendings q) × (receivings' q ≡ receivings q))
    → IsSessionOf y (sendings' port) (receivings' port) → AreOf xs sendings receivings → AreOf (set xs (port - 1) y) sendings' receivings'
sessions_set xs port y se se' re re' least low others is are i session there = set_case xs port y se se' re re' (i == port - 1) i session refl least low others is are there

-- the sender alone, or the receiver alone
pub sender_set : (xs : List Session) (port : ℕ) (y : Session) (sendings : ℕ → Sending) (receivings : ℕ → Receiving) (sending : Sending) → 1 ≤ port → port - 1 < length xs
    → IsSessionOf y sending (receivings port) → AreOf xs sendings receivings → AreOf (set xs (port - 1) y) (at_port port sending sendings) receivings
sender_set xs port y se re sending least low is are =
    sessions_set xs port y se (at_port port sending se) re re least low (λ q other. (at_other_port port q sending se other, refl))
    (subst (λ x. IsSessionOf y x (re port)) (sym (at_the_port port sending se)) is) are

pub receiver_set : (xs : List Session) (port : ℕ) (y : Session) (sendings : ℕ → Sending) (receivings : ℕ → Receiving) (receiving : Receiving) → 1 ≤ port → port - 1 < length xs
    → IsSessionOf y (sendings port) receiving → AreOf xs sendings receivings → AreOf (set xs (port - 1) y) sendings (at_port port receiving receivings)
receiver_set xs port y se re receiving least low is are =
    sessions_set xs port y se se re (at_port port receiving re) least low (λ q other. (refl, at_other_port port q receiving re other))
    (subst (λ x. IsSessionOf y (se port) x) (sym (at_the_port port receiving re)) is) are

-- new ones
new_ones : (xs : List Session) (sendings : ℕ → Sending) (receivings : ℕ → Receiving) → ((i : ℕ) → sendings i ≡ unused) → ((i : ℕ) → receivings i ≡ untouched) → All IsNew xs → AreOf xs sendings receivings
new_ones xs se re no_sending no_receiving new i session there =
    let is : IsNew session = subst IsNew (get_or_from_slice_get xs i session session there) (All-get_or IsNew xs i session (slice_get_within xs i session there) new) in
    subst (λ x. IsSessionOf session x (re (suc i))) (sym (no_sending (suc i))) (subst (λ x. IsSessionOf session unused x) (sym (no_receiving (suc i))) is)

-- the session at a port
pub found_at : (xs : List Session) (i port : ℕ) (x : Session) → length xs ≡ 12 → 1 ≤ port → port ≤ 12 → i ≡ port - 1 → slice_get xs (port - 1) ≡ Some (get_or xs i x)
found_at xs i port x count least most place = ap (slice_get xs) (sym place) ∙ slice_get-get_or xs i x (omega arith)

-- the ports stand in their order
pub port_at : (i : ℕ) → i < 12 → get_or externals i 0 ≡ suc i
port_at i low = get_or-range_with_len 1 12 i 0 low ∙ omega arith

-- what is so of each port, with the value of one of them put in its place
pub each_but : {A : Type 0} (f g : ℕ → A) (port : ℕ) → 1 ≤ port → port ≤ 12 → ((q : ℕ) → q ≢ port → g q ≡ f q) → set (map f externals) (port - 1) (g port) ≡ map g externals
each_but f g port least most others =
    let size = length-set (map f externals) (port - 1) (g port) in
    ext_get_or (g port) (set (map f externals) (port - 1) (g port)) (map g externals) size (λ i low. at_place i (omega (arith, low, size)) (i == port - 1) refl)
  where
    at_place : (i : ℕ) → i < 12 → (b : Bool) → b ≡ (i == port - 1) → get_or (set (map f externals) (port - 1) (g port)) i (g port) ≡ get_or (map g externals) i (g port)
    at_place i low true test =
        let place : i ≡ port - 1 = eqb-true i (port - 1) (sym test) in
        let here : port ≡ suc i = omega (arith, place) in
        get_or-set_at (map f externals) (port - 1) i (g port) (g port) place (omega arith) ∙ ap g (here ∙ sym (port_at i low)) ∙ sym (get_or-map g externals i 0 (g port) low)
    at_place i low false test =
        let apart : i ≢ port - 1 = eqb-false i (port - 1) (sym test) in
        let other : suc i ≢ port = λ same. apart (omega arith) in
        get_or-set_other (map f externals) (port - 1) i (g port) (g port) apart ∙ get_or-map f externals i 0 (g port) low ∙ ap f (port_at i low) ∙ sym (others (suc i) other) ∙ ap g (sym (port_at i low)) ∙ sym (get_or-map g externals i 0 (g port) low)

-- what is not acknowledged at one port and at the others
unacked_set : (bs : List Bool) (i port : ℕ) (b : Bool) (u : Sending) (t : ℕ → Sending) → 1 ≤ port → port ≤ 12 → i ≡ port - 1 → b ≡ is_unacked u → bs ≡ unacked_at_each t → set bs i b ≡ unacked_at_each (at_port port u t)
unacked_set bs i port b u t least most place is are =
    ap₂ (λ xs j. set xs j b) are place
    ∙ ap (set (unacked_at_each t) (port - 1)) (is ∙ ap is_unacked (sym (at_the_port port u t)))
    ∙ each_but (λ q. is_unacked (t q)) (λ q. is_unacked (at_port port u t q)) port least most (λ q other. ap is_unacked (at_other_port port q u t other))

-- nothing more and nothing less is acknowledged
same_unacked : (port q : ℕ) (u : Sending) (t : ℕ → Sending) (b : Bool) → b ≡ (q == port) → is_unacked u ≡ is_unacked (t port) → is_unacked (t q) ≡ is_unacked (cond b u (t q))
same_unacked port q u t true test same = ap (λ p. is_unacked (t p)) (eqb-true q port (sym test)) ∙ sym same
same_unacked port q u t false test same = refl

pub unacked_kept : (port : ℕ) (u : Sending) (t : ℕ → Sending) → is_unacked u ≡ is_unacked (t port) → unacked_at_each t ≡ unacked_at_each (at_port port u t)
unacked_kept port u t same = map_same (λ q. is_unacked (t q)) (λ q. is_unacked (at_port port u t q)) externals (λ q. same_unacked port q u t (q == port) refl same)

-- so of what each port sent and received that is the same
pub are_of_same : (sessions : Sessions) (t t' : ℕ → Sending) (r r' : ℕ → Receiving) → ((q : ℕ) → t q ≡ t' q) → ((q : ℕ) → r q ≡ r' q) → AreSessions sessions t r → AreSessions sessions t' r'
are_of_same sessions t t' r r' same_t same_r are i = (
  λ session there. subst (λ (x : Sending). IsSessionOf session x (r' (suc i))) (same_t (suc i)) (subst (λ (x : Receiving). IsSessionOf session (t (suc i)) x) (same_r (suc i)) ((are i).0 session there)),
  λ low. (are i).1 low ∙ ap (λ (x : Sending). Some (is_unacked x)) (same_t (suc i)),
)

-- the sessions and what is not acknowledged, each by itself
pub each_of : (sessions : Sessions) (t : ℕ → Sending) (r : ℕ → Receiving) → AreSessions sessions t r → AreOf sessions.items t r
each_of sessions t r are i session there = (are i).0 session there

pub unacked_of : (sessions : Sessions) (t : ℕ → Sending) (r : ℕ → Receiving) → length sessions.unacked ≡ 12 → AreSessions sessions t r → sessions.unacked ≡ unacked_at_each t
unacked_of sessions t r many are =
    ext_get_or false sessions.unacked (unacked_at_each t) many (λ i low.
    let within : i < 12 = omega (arith, low, many) in
    get_or_from_slice_get sessions.unacked i (is_unacked (t (suc i))) false ((are i).1 within)
    ∙ ap (λ q. is_unacked (t q)) (sym (port_at i within))
    ∙ sym (get_or-map (λ q. is_unacked (t q)) externals i 0 false within))

are_both : (xs : List Session) (bs : List Bool) (t : ℕ → Sending) (r : ℕ → Receiving) → AreOf xs t r → bs ≡ unacked_at_each t → AreSessions (record { items = xs; unacked = bs }) t r
are_both xs bs t r each flags i = (
  each i,
  λ low.
      ap (λ (l : List Bool). slice_get l i) flags
      ∙ slice_get-get_or (unacked_at_each t) i false low
      ∙ ap Some (get_or-map (λ q. is_unacked (t q)) externals i 0 false low ∙ ap (λ q. is_unacked (t q)) (port_at i low)),
)

-- new ones
pub new_sessions_are : (xs : List Session) (bs : List Bool) → All IsNew xs → bs ≡ unacked_at_each (λ port. unused) → AreSessions (record { items = xs; unacked = bs }) (λ port. unused) (λ port. untouched)
new_sessions_are xs bs new flags = are_both xs bs (λ port. unused) (λ port. untouched) (new_ones xs (λ port. unused) (λ port. untouched) (λ i. refl) (λ i. refl) new) flags

-- what is sent changes at one session and so at the port
changed_at : (xs : List Session) (i port : ℕ) (x y : Session) (change : Sending → Sending) → length xs ≡ 12 → 1 ≤ port → port ≤ 12 → i ≡ port - 1
    → ((t : Sending) (r : Receiving) → IsSessionOf (get_or xs i x) t r → IsSessionOf y (change t) r)
    → (t : ℕ → Sending) (r : ℕ → Receiving) → AreOf xs t r → AreOf (set xs i y) (at_port port (change (t port)) t) r
changed_at xs i port x y change count least most place by t r are =
    subst (λ j. AreOf (set xs j y) (at_port port (change (t port)) t) r) (sym place)
    (sender_set xs port y t r (change (t port)) least (omega arith) (by (t port) (r port) (session_at xs t r port (get_or xs i x) least (found_at xs i port x count least most place) are)) are)

-- and nothing is acknowledged by it
pub sends_again_at : (xs : List Session) (bs : List Bool) (i port : ℕ) (x y : Session) (change : Sending → Sending) → length xs ≡ 12 → length bs ≡ 12 → 1 ≤ port → port ≤ 12 → i ≡ port - 1
    → ((t : Sending) (r : Receiving) → IsSessionOf (get_or xs i x) t r → IsSessionOf y (change t) r) → ((t : Sending) → is_unacked (change t) ≡ is_unacked t)
    → (t : ℕ → Sending) (r : ℕ → Receiving) → AreSessions (record { items = xs; unacked = bs }) t r → AreSessions (record { items = set xs i y; unacked = bs }) (at_port port (change (t port)) t) r
sends_again_at xs bs i port x y change count many least most place by same t r are =
    are_both (set xs i y) bs (at_port port (change (t port)) t) r (changed_at xs i port x y change count least most place by t r (each_of (record { items = xs; unacked = bs }) t r are))
    (unacked_of (record { items = xs; unacked = bs }) t r many are ∙ unacked_kept port (change (t port)) t (same (t port)))

-- what is done at one session is done at the port
pub sends_at : (xs : List Session) (bs : List Bool) (i j port : ℕ) (x y : Session) (b : Bool) (number : Option ℕ) (change : Sending → Sending) (answer : Sending → Option ℕ) → length xs ≡ 12 → length bs ≡ 12 → 1 ≤ port → port ≤ 12 → i ≡ port - 1 → j ≡ port - 1
    → SendsBy change answer (get_or xs i x) y number → ((t : Sending) (r : Receiving) → IsSessionOf y t r → b ≡ is_unacked t)
    → Sends port change answer (record { items = xs; unacked = bs }) (record { items = set xs i y; unacked = set bs j b }) number
sends_at xs bs i j port x y b number change answer count many least most place beside by unacked t r are =
    let each = each_of (record { items = xs; unacked = bs }) t r are in
    let done = by (t port) (r port) (session_at xs t r port (get_or xs i x) least (found_at xs i port x count least most place) each) in (
      are_both (set xs i y) (set bs j b) (at_port port (change (t port)) t) r (changed_at xs i port x y change count least most place (λ a c is. (by a c is).0) t r each)
          (unacked_set bs j port b (change (t port)) t least most beside (unacked (change (t port)) (r port) done.0) (unacked_of (record { items = xs; unacked = bs }) t r many are)),
      done.1,
    )

pub sends_on_at : (xs : List Session) (bs : List Bool) (i port : ℕ) (x y : Session) (number : Option ℕ) (change : Sending → Sending) (answer : Sending → Option ℕ) → length xs ≡ 12 → length bs ≡ 12 → 1 ≤ port → port ≤ 12 → i ≡ port - 1
    → SendsBy change answer (get_or xs i x) y number → ((t : Sending) → is_unacked (change t) ≡ is_unacked t)
    → Sends port change answer (record { items = xs; unacked = bs }) (record { items = set xs i y; unacked = bs }) number
sends_on_at xs bs i port x y number change answer count many least most place by same t r are =
    let at = session_at xs t r port (get_or xs i x) least (found_at xs i port x count least most place) (each_of (record { items = xs; unacked = bs }) t r are) in
    (sends_again_at xs bs i port x y change count many least most place (λ a c is. (by a c is).0) same t r are, (by (t port) (r port) at).1)

pub receives_at : {A : Type 0} (xs : List Session) (bs : List Bool) (i port : ℕ) (x y : Session) (value : A) (change : Receiving → Receiving) (answer : Receiving → A) → length xs ≡ 12 → length bs ≡ 12 → 1 ≤ port → port ≤ 12 → i ≡ port - 1
    → ReceivesBy change answer (get_or xs i x) y value → Receives port change answer (record { items = xs; unacked = bs }) (record { items = set xs i y; unacked = bs }) value
receives_at xs bs i port x y value change answer count many least most place by t r are =
    let at = found_at xs i port x count least most place in
    let each = each_of (record { items = xs; unacked = bs }) t r are in
    let done = by (t port) (r port) (session_at xs t r port (get_or xs i x) least at each) in (
      are_both (set xs i y) bs t (at_port port (change (r port)) r)
          (subst (λ j. AreOf (set xs j y) t (at_port port (change (r port)) r)) (sym place) (receiver_set xs port y t r (change (r port)) least (omega arith) done.0 each)) (unacked_of (record { items = xs; unacked = bs }) t r many are),
      done.1,
    )

-- what is so of the session that was put at a port
put_at : (xs : List Session) (bs : List Bool) (i port : ℕ) (y : Session) (k : ℕ) → length xs ≡ 12 → 1 ≤ port → port ≤ 12 → i ≡ port - 1 → IsOut y.sender k → IsOutAt (record { items = set xs i y; unacked = bs }) port k
put_at xs bs i port y k count least most place out = (
  omega (arith, out.0),
  λ session there.
      let found : y ≡ session = sym (get_or-set_at xs i (port - 1) y session (sym place) (omega arith)) ∙ get_or_from_slice_get (set xs i y) (port - 1) session session there in
      subst (λ (s : Session). IsOut s.sender k) found out,
)

pub out_at : (number : Option ℕ) (xs : List Session) (bs : List Bool) (i port : ℕ) (y : Session) → length xs ≡ 12 → 1 ≤ port → port ≤ 12 → i ≡ port - 1 → IfSome number (IsOut y.sender) → IfSome number (IsOutAt (record { items = set xs i y; unacked = bs }) port)
out_at None xs bs i port y count least most place out = out
out_at (Some k) xs bs i port y count least most place out = put_at xs bs i port y k count least most place out

-- and of the one that is there
there_at : (xs : List Session) (bs : List Bool) (i port : ℕ) (x : Session) (k : ℕ) → length xs ≡ 12 → 1 ≤ port → port ≤ 12 → i ≡ port - 1 → IsOut (get_or xs i x).sender k → IsOutAt (record { items = xs; unacked = bs }) port k
there_at xs bs i port x k count least most place out = (
  omega (arith, out.0),
  λ session there.
      subst (λ (s : Session). IsOut s.sender k) (same_Some _ _ (sym (found_at xs i port x count least most place) ∙ there)) out,
)

pub read_out_at : (number : Option ℕ) (xs : List Session) (bs : List Bool) (i port : ℕ) (x : Session) → length xs ≡ 12 → 1 ≤ port → port ≤ 12 → i ≡ port - 1 → IfSome number (IsOut (get_or xs i x).sender) → IfSome number (IsOutAt (record { items = xs; unacked = bs }) port)
read_out_at None xs bs i port x count least most place out = out
read_out_at (Some k) xs bs i port x count least most place out = there_at xs bs i port x k count least most place out
