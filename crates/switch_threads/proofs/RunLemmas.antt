-- The seats of a run, through its rounds and when they are joined.

use Rattle.std.specs.Prelude.{◌≡◌, ◌+◌, ◌-◌, ◌<◌, ℕ, zero, suc, List, [], ◌∷◌, ◌++◌, All, drop, length, slice_index_or, take, Option, Some, None, IfSome, refl}
use mathlib.Core.Option.{some, some-ne-none}
use lib.ListN.{get_elem?}
use Rattle.std.proofs.Common.{sym, ◌∙◌, ap, subst, arith, append_assoc, inl, inr}
use Rattle.std.proofs.lemmas.List.{append-nil, length_push}
use Rattle.std.proofs.lemmas.Option.{same_Some}
use Rattle.std.proofs.Math.Seq.{take-append_seam}
use Rattle.an_base.specs.declared.event.Event.{Event}
use Rattle.net_script.specs.Scripts.{IsScript, ScriptOf}
use Rattle.net_state.specs.declared.ending.Ending.{Ending}
use Rattle.fabric_turn.specs.History.{Extends, own_entries}
use Rattle.fabric_turn.specs.Rule.{first_view}
use Rattle.fabric_turn.specs.Seats.{HasOneNumber, ended_caller, joined_view, new_view, remaining_view, unused_callers}
use Rattle.fabric_turn.specs.Turnstiles.{TurnstileId}
use Rattle.fabric_turn.specs.declared.view.Ended.{Ended}
use Rattle.fabric_turn.specs.declared.view.View.{View}
use Rattle.fabric_turn.proofs.Facts.{no-more, own_entries-append}
use Rattle.net_world.specs.Accounts.{AccountOf, account_of}
use Rattle.net_world.specs.Histories.{HistoryOf, IsLawful, IsLegal, end_of, owner_of}
use Rattle.net_world.proofs.AccountLemmas.{account_stays}
use Rattle.fabric_book.specs.Accounts.{AreAccounts, HasAccount, IsAccount}
use Rattle.fabric_book.specs.declared.account.Account.{Account}
use Rattle.switch_threads.specs.Runs.{AreToldBy, AreToldDown, AreWorkers, HasCalled, HasEntries, HasSeenMore, HaveCalled, IsSeatOf, IsToldAt, IsToldBy, SeatOf, callers_of, driver_seat, first_seat}
use Rattle.switch_threads.specs.Workers.{IsDriving}
use Rattle.switch_threads.proofs.EndLemmas.{told_extends}
use Rattle.switch_threads.proofs.TurnLemmas.{first_told}

-- the first seat of a turnstile with so many callers, and the same once its next number is another
abbrev opened_seat : TurnstileId → ScriptOf → ℕ → SeatOf
opened_seat turnstile script callers = (turnstile, first_view callers script)

abbrev given_seat : TurnstileId → ScriptOf → ℕ → SeatOf
given_seat turnstile script next = (turnstile, record (first_view (callers_of script) script) { next = next })

-- what a split gives
abbrev remaining_seat : SeatOf → SeatOf
remaining_seat seat = (seat.0, remaining_view seat.1)

abbrev new_seat : SeatOf → SeatOf
new_seat seat = (seat.0, new_view seat.1)

pub opened_first : (turnstile : TurnstileId) (script : ScriptOf) (book : HistoryOf) (callers : ℕ) (seat : SeatOf) → seat ≡ (turnstile, first_view callers book.script) → callers ≡ callers_of script
    → book ≡ record { script = script; events = [] } → seat ≡ first_seat turnstile script
opened_first turnstile script book callers seat is many begun =
    is ∙ ap (opened_seat turnstile book.script) many ∙ ap (λ (h : HistoryOf). opened_seat turnstile h.script (callers_of script)) begun

module _ (turnstile : TurnstileId) (script : ScriptOf) (s : ℕ) (seat : SeatOf) (is : seat ≡ (turnstile, record (first_view (callers_of script) script) { next = 1 + s })) where
  pub given_more : s < length script.wires.switches → seat.1.next < seat.1.callers
  given_more below =
      let next = ap (λ (x : SeatOf). x.1.next) is in
      let callers = ap (λ (x : SeatOf). x.1.callers) is in
      omega (arith, below, next, callers)

  pub given_first : (first : SeatOf) → first ≡ (seat.0, remaining_view seat.1) → first ≡ (turnstile, record (first_view (callers_of script) script) { next = 1 + (s + 1) })
  given_first first was =
      let more : 1 + s + 1 ≡ 1 + (s + 1) = omega arith in
      was ∙ ap remaining_seat is ∙ ap (given_seat turnstile script) more

  module _ (second : SeatOf) (was : second ≡ (seat.0, new_view seat.1)) where
    given_second : second ≡ new_seat (given_seat turnstile script (1 + s))
    given_second = was ∙ ap new_seat is

    pub given_begun : second.1.start ≡ Some script
    given_begun = ap (λ (x : SeatOf). x.1.start) given_second

    pub given_number : second.1.number ≡ s + 1
    given_number =
        let number = ap (λ (x : SeatOf). x.1.number) given_second in
        omega (arith, number)

    pub given_seen : second.1.seen ≡ []
    given_seen = ap (λ (x : SeatOf). x.1.seen) given_second

    pub given_mine : second.1.mine ≡ []
    given_mine = ap (λ (x : SeatOf). x.1.mine) given_second

    pub given_one : IsSeatOf turnstile script (s + 1) second
    given_one = record {
      turnstile_is = ap (λ (x : SeatOf). x.0) given_second;
      begun = given_begun;
      number_is = given_number;
      one = subst (λ (x : SeatOf). HasOneNumber (callers_of script) x.1) (sym given_second) (refl, refl, refl);
    }

-- calls, and more of them
pub called_then : (a b c : SeatOf) → HasCalled a b → HasCalled b c → HasCalled a c
called_then a b c one two =
    (two.0 ∙ one.0, two.1 ∙ ap (λ (v : View Event ScriptOf). record v { seen = c.1.seen; mine = c.1.mine }) one.1)

pub have_called_then : (xs ys zs : List SeatOf) → length ys ≡ length xs → HaveCalled xs ys → HaveCalled ys zs → HaveCalled xs zs
have_called_then xs ys zs long one two k d below =
    called_then (slice_index_or xs k d) (slice_index_or ys k d) (slice_index_or zs k d) (one k d below) (two k d (omega (arith, below, long)))

pub have_called_none : (xs : List SeatOf) → HaveCalled xs xs
have_called_none xs k d below = (refl, refl)

-- whose a seat is stays
pub one_stays : (turnstile : TurnstileId) (script : ScriptOf) (number : ℕ) (a b : SeatOf) → HasCalled a b → IsSeatOf turnstile script number a → IsSeatOf turnstile script number b
one_stays turnstile script number a b called is = record {
  turnstile_is = called.0 ∙ is.turnstile_is;
  begun = ap (λ (v : View Event ScriptOf). v.start) called.1 ∙ is.begun;
  number_is = ap (λ (v : View Event ScriptOf). v.number) called.1 ∙ is.number_is;
  one = (
    ap (λ (v : View Event ScriptOf). v.callers) called.1 ∙ is.one.0,
    ap (λ (v : View Event ScriptOf). v.next) called.1 ∙ is.one.1,
    ap (λ (v : View Event ScriptOf). v.ended) called.1 ∙ is.one.2,
  );
}

pub ones_stay : (turnstile : TurnstileId) (script : ScriptOf) (xs ys : List SeatOf) → length ys ≡ length xs → HaveCalled xs ys → AreWorkers turnstile script xs → AreWorkers turnstile script ys
ones_stay turnstile script xs ys long called all k d below =
    one_stays turnstile script (k + 1) (slice_index_or xs k d) (slice_index_or ys k d) (called k d (omega (arith, below, long))) (all k d (omega (arith, below, long)))

pub turnstiles_stay : (turnstile : TurnstileId) (xs ys : List SeatOf) → length ys ≡ length xs → HaveCalled xs ys → All (λ seat. seat.0 ≡ turnstile) xs → All (λ seat. seat.0 ≡ turnstile) ys
turnstiles_stay turnstile xs ys long called all k d below =
    (called k d (omega (arith, below, long))).0 ∙ all k d (omega (arith, below, long))

pub ones_have : (turnstile : TurnstileId) (script : ScriptOf) (xs : List SeatOf) → AreWorkers turnstile script xs → All (λ seat. seat.0 ≡ turnstile) xs
ones_have turnstile script xs all k d below = (all k d below).turnstile_is

-- what is so of each element at its place: one more, and one less
module _ {A : Type 0} where
  pub places-push : (P : ℕ → A → Type 0) (xs : List A) (x : A) → ((k : ℕ) (d : A) → k < length xs → P k (slice_index_or xs k d)) → P (length xs) x
      → (k : ℕ) (d : A) → k < length (xs ++ x ∷ []) → P k (slice_index_or (xs ++ x ∷ []) k d)
  places-push P [] x all here zero d below = here
  places-push P [] x all here (suc k) d below = absurd (omega (arith, below))
  places-push P (y ∷ ys) x all here zero d below = all zero d (omega arith)
  places-push P (y ∷ ys) x all here (suc k) d below =
      places-push (λ n. P (suc n)) ys x (λ n e under. all (suc n) e (omega (arith, under))) here k d (omega (arith, below))

  pub places-front : (P : ℕ → A → Type 0) (xs : List A) (x : A) → ((k : ℕ) (d : A) → k < length (xs ++ x ∷ []) → P k (slice_index_or (xs ++ x ∷ []) k d)) → (k : ℕ) (d : A) → k < length xs → P k (slice_index_or xs k d)
  places-front P [] x all k d below = absurd (omega (arith, below))
  places-front P (y ∷ ys) x all zero d below = all zero d (omega arith)
  places-front P (y ∷ ys) x all (suc k) d below =
      places-front (λ n. P (suc n)) ys x (λ n e under. all (suc n) e (omega (arith, under))) k d (omega (arith, below))

  pub places-last : (P : ℕ → A → Type 0) (xs : List A) (x : A) → ((k : ℕ) (d : A) → k < length (xs ++ x ∷ []) → P k (slice_index_or (xs ++ x ∷ []) k d)) → P (length xs) x
  places-last P [] x all = all zero x (omega arith)
  places-last P (y ∷ ys) x all = places-last (λ n. P (suc n)) ys x (λ n e under. all (suc n) e (omega (arith, under)))

  -- an element stays where it is, and one that is added is the last one
  pub there-append : (xs ys : List A) (k : ℕ) (x : A) → get_elem? xs k ≡ some x → get_elem? (xs ++ ys) k ≡ some x
  there-append [] ys k x at = absurd (some-ne-none x (sym at))
  there-append (y ∷ xs) ys zero x at = at
  there-append (y ∷ xs) ys (suc k) x at = there-append xs ys k x at

  pub there-last : (xs : List A) (x : A) → get_elem? (xs ++ x ∷ []) (length xs) ≡ some x
  there-last [] x = refl
  there-last (y ∷ xs) x = there-last xs x

-- the workers, with one more, and without the last one
pub workers_more : (turnstile : TurnstileId) (script : ScriptOf) (xs : List SeatOf) (x : SeatOf) → AreWorkers turnstile script xs → IsSeatOf turnstile script (length xs + 1) x → AreWorkers turnstile script (xs ++ x ∷ [])
workers_more turnstile script xs x all one = places-push (λ k. IsSeatOf turnstile script (k + 1)) xs x all one

pub workers_front : (turnstile : TurnstileId) (script : ScriptOf) (xs : List SeatOf) (x : SeatOf) → AreWorkers turnstile script (xs ++ x ∷ []) → AreWorkers turnstile script xs
workers_front turnstile script xs x all = places-front (λ k. IsSeatOf turnstile script (k + 1)) xs x all

pub worker_last : (turnstile : TurnstileId) (script : ScriptOf) (xs : List SeatOf) (x : SeatOf) → AreWorkers turnstile script (xs ++ x ∷ []) → IsSeatOf turnstile script (length xs + 1) x
worker_last turnstile script xs x all = places-last (λ k. IsSeatOf turnstile script (k + 1)) xs x all

-- a seat with one number was joined: that number alone is ended by it
pub one_ended : (callers : ℕ) (one other : View Event ScriptOf) → HasOneNumber callers other → (joined_view one other).ended ≡ one.ended ++ ended_caller other.number other.mine ∷ []
one_ended callers one other is =
    let next = is.1 in
    let all = is.0 in
    let none : other.callers - other.next ≡ 0 = omega (arith, next, all) in
    ap (λ (xs : List (Ended Event)). one.ended ++ ended_caller other.number other.mine ∷ xs)
    (ap (λ (xs : List (Ended Event)). xs ++ unused_callers other.next (other.callers - other.next)) is.2 ∙ ap (λ (n : ℕ). unused_callers other.next n) none)

pub one_more_ended : (callers : ℕ) (one other : View Event ScriptOf) → HasOneNumber callers other → length (joined_view one other).ended ≡ length one.ended + 1
one_more_ended callers one other is =
    ap (length {A = Ended Event}) (one_ended callers one other is) ∙ length_push one.ended (ended_caller other.number other.mine)

-- the workers, once the slice of them was given back
pub given_back : (old new : List SeatOf) (count : ℕ) → length new ≡ length old → count ≡ length old → take count (new ++ drop (length new) old) ≡ new
given_back old new count long many =
    ap (λ (n : ℕ). take n (new ++ drop (length new) old)) (many ∙ sym long) ∙ take-append_seam new (drop (length new) old)

-- histories that go on
pub extends_same : (h : List Event) → Extends h h
extends_same h = ([], sym (append-nil h))

pub extends_then : (a b c : List Event) → Extends a b → Extends b c → Extends a c
extends_then a b c one two =
    (one.0 ++ two.0, two.1 ∙ ap (λ (x : List Event). x ++ two.0) one.1 ∙ append_assoc a one.0 two.0)

-- the driver that has its first seat
pub first_driving : (turnstile : TurnstileId) (script : ScriptOf) (seat : SeatOf) (account : Account) → IsScript script → seat ≡ driver_seat turnstile script → IsAccount (record { lines = []; rows = [] }) account → IsDriving seat.1 None account
first_driving turnstile script seat account kept is none = record {
  script = script;
  kept = kept;
  begun = ap (λ (s : SeatOf). s.1.start) is;
  number = ap (λ (s : SeatOf). s.1.number) is;
  end_is = tt;
  told = first_told seat.1 script account (ap (λ (s : SeatOf). s.1.seen) is) (ap (λ (s : SeatOf). s.1.mine) is) none;
}

pub driver_one : (turnstile : TurnstileId) (script : ScriptOf) (seat : SeatOf) → seat ≡ driver_seat turnstile script → IsSeatOf turnstile script 0 seat
driver_one turnstile script seat is = record {
  turnstile_is = ap (λ (s : SeatOf). s.0) is;
  begun = ap (λ (s : SeatOf). s.1.start) is;
  number_is = ap (λ (s : SeatOf). s.1.number) is;
  one = subst (λ (s : SeatOf). HasOneNumber (callers_of script) s.1) (sym is) (refl, refl, refl);
}

-- what it was told is the end of whatever goes on from what it has seen
pub end_whole : (view : View Event ScriptOf) (end : Option Ending) (account : Account) (script : ScriptOf) (whole : List Event) → IsDriving view end account → view.start ≡ Some script → Extends view.seen whole
    → IfSome end (λ e. end_of script whole ≡ Some e)
end_whole view end account script whole is begun on =
    told_extends script view.seen whole end on (subst (λ (s : ScriptOf). IfSome end (λ e. end_of s view.seen ≡ Some e)) (same_Some is.script script (sym is.begun ∙ begun)) is.end_is)

-- Of a seat to which another was joined
module _ (script : ScriptOf) (one other new : View Event ScriptOf) (joined : new ≡ joined_view one other) where
  kept_ended : Extends one.ended new.ended
  kept_ended = (ended_caller other.number other.mine ∷ (other.ended ++ unused_callers other.next (other.callers - other.next)), ap (λ (v : View Event ScriptOf). v.ended) joined)

  -- what was told by those whom it had ended
  pub told_before : Extends one.seen new.seen → (number : ℕ) (account : Account) → IsToldBy script one number account → IsToldBy script new number account
  told_before on number account is = record {
    mine = is.mine;
    has = by is.has;
    seen = is.seen;
    on = extends_then is.seen one.seen new.seen is.on on;
    own = is.own;
    account_is = is.account_is;
  } where
    by : HasEntries one number is.mine → HasEntries new number is.mine
    by (inl own) = inl (own.0 ∙ sym (ap (λ (v : View Event ScriptOf). v.number) joined), own.1 ∙ sym (ap (λ (v : View Event ScriptOf). v.mine) joined))
    by (inr ended) =
        inr (ended.0, subst (λ (xs : List (Ended Event)). get_elem? xs ended.0 ≡ some (ended_caller number is.mine)) (sym kept_ended.1) (there-append one.ended kept_ended.0 ended.0 (ended_caller number is.mine) ended.1))

  -- and by the one that it ended by this
  pub told_now : (turnstile : TurnstileId) (callers : ℕ) (number : ℕ) (account : Account) → HasOneNumber callers other → other.number ≡ number → other.start ≡ Some script → Extends other.seen new.seen → IsToldAt (turnstile, other) account
      → IsToldBy script new number account
  told_now turnstile callers number account only number_is begun on told =
      let ended : new.ended ≡ one.ended ++ ended_caller other.number other.mine ∷ [] = ap (λ (v : View Event ScriptOf). v.ended) joined ∙ one_ended callers one other only in
      subst (λ (n : ℕ). IsToldBy script new n account) number_is
      (record {
        mine = other.mine;
        has = inr (length one.ended, subst (λ (xs : List (Ended Event)). get_elem? xs (length one.ended) ≡ some (ended_caller other.number other.mine)) (sym ended) (there-last one.ended (ended_caller other.number other.mine)));
        seen = other.seen;
        on = on;
        own = told.0;
        account_is = told.1 script begun;
      })

-- one more worker's account, the last one first
pub told_down : (script : ScriptOf) (one new : View Event ScriptOf) (downs : List Account) (account : Account) → ((number : ℕ) (a : Account) → IsToldBy script one number a → IsToldBy script new number a) → AreToldDown script one downs
    → IsToldBy script new (length script.wires.switches - length downs) account → AreToldDown script new (downs ++ account ∷ [])
told_down script one new downs account stays all is =
    places-push (λ k. IsToldBy script new (length script.wires.switches - k)) downs account
    (λ k d below. stays (length script.wires.switches - k) (slice_index_or downs k d) (all k d below)) is

-- the driver's, of a seat to which all others were joined
pub drivers_told : (script : ScriptOf) (turnstile : TurnstileId) (view whole : View Event ScriptOf) (account : Account) → view.start ≡ Some script → view.number ≡ 0 → HasSeenMore view whole → IsToldAt (turnstile, view) account → IsToldBy script whole 0 account
drivers_told script turnstile view whole account begun zeroth more told = record {
  mine = view.mine;
  has = inl (sym (more.number_is ∙ zeroth), sym more.mine_is);
  seen = view.seen;
  on = more.on;
  own = ap (own_entries owner_of view.seen) (sym zeroth) ∙ told.0;
  account_is = subst (λ (n : ℕ). HasAccount (account_of script n view.seen) account) zeroth (told.1 script begun);
}

-- all of them, the driver's last, and turned round
pub told_all : (script : ScriptOf) (view : View Event ScriptOf) (downs pushed all : List Account) (account : Account) → length downs ≡ length script.wires.switches → pushed ≡ downs ++ account ∷ [] → AreToldDown script view downs → IsToldBy script view 0 account
    → length all ≡ length pushed → ((k : ℕ) (d : Account) → k < length pushed → slice_index_or all k d ≡ slice_index_or pushed (length pushed - 1 - k) d) → AreToldBy script view all
told_all script view downs pushed all account many is were driver same turned = (same ∙ long ∙ callers, each) where
  count : ℕ
  count = length script.wires.switches

  long : length pushed ≡ length downs + 1
  long = ap (length {A = Account}) is ∙ length_push downs account

  callers : length downs + 1 ≡ callers_of script
  callers = ap (λ (n : ℕ). n + 1) many

  down : AreToldDown script view pushed
  down =
      let none : 0 ≡ count - length downs = omega (arith, many) in
      subst (AreToldDown script view) (sym is) (places-push (λ k. IsToldBy script view (count - k)) downs account were (subst (λ (n : ℕ). IsToldBy script view n account) none driver))

  each : (k : ℕ) (d : Account) → k < length all → IsToldBy script view k (slice_index_or all k d)
  each k d below =
      let at : k < length pushed = omega (arith, below, same) in
      let number : count - (length pushed - 1 - k) ≡ k = omega (arith, long, many, at) in
      subst (IsToldBy script view k) (sym (turned k d at))
      (subst (λ (n : ℕ). IsToldBy script view n (slice_index_or pushed (length pushed - 1 - k) d)) number (down (length pushed - 1 - k) d (omega (arith, at))))

-- the whole history has what a seat knows of each caller, so that nothing of it came behind what that has seen
module _ (script : ScriptOf) (view : View Event ScriptOf) (own : own_entries owner_of view.seen view.number ≡ view.mine)
    (ended : (k : ℕ) (x : Ended Event) → get_elem? view.ended k ≡ some x → own_entries owner_of view.seen x.number ≡ x.mine) where
  entries : (number : ℕ) (mine : List Event) → HasEntries view number mine → own_entries owner_of view.seen number ≡ mine
  entries number mine (inl is) = ap (own_entries owner_of view.seen) is.0 ∙ own ∙ sym is.1
  entries number mine (inr is) = ended is.0 (ended_caller number mine) is.1

  whole_account : (number : ℕ) (account : Account) → IsToldBy script view number account → HasAccount (account_of script number view.seen) account
  whole_account number account is =
      let more = is.on.0 in
      let all : own_entries owner_of is.seen number ++ own_entries owner_of more number ≡ own_entries owner_of is.seen number =
      sym (own_entries-append owner_of is.seen more number) ∙ sym (ap (λ (h : List Event). own_entries owner_of h number) is.on.1) ∙ entries number is.mine is.has ∙ sym is.own in
      let none = no-more (own_entries owner_of is.seen number) (own_entries owner_of more number) all in
      subst (λ (a : AccountOf). HasAccount a account) (sym (ap (account_of script number) is.on.1 ∙ account_stays script number is.seen more none)) is.account_is

  pub whole_accounts : (journal : List Event) (accounts : List Account) → journal ≡ view.seen → AreToldBy script view accounts → AreAccounts script journal accounts
  whole_accounts journal accounts all told =
      subst (λ (h : List Event). AreAccounts script h accounts) (sym all)
      (record { count = told.0; each = λ k below d. whole_account k (slice_index_or accounts k d) (told.1 k d below) })

-- the whole history has the end of what was seen
pub legal_is : (book : HistoryOf) (seen journal : List Event) (script : ScriptOf) (end : Ending) → book.events ≡ seen → book.script ≡ script → IsLawful book.script book.events → journal ≡ book.events → end_of script seen ≡ Some end
    → IsLegal script journal end
legal_is book seen journal script end events scripts lawful all ends = record {
  lawful = subst (λ (x : ScriptOf). IsLawful x journal) scripts (subst (λ (xs : List Event). IsLawful book.script xs) (sym all) lawful);
  ends = ap (end_of script) (all ∙ events) ∙ ends;
}
