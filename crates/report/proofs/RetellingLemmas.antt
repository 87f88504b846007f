-- A report is made of what each caller has told.
use Rattle.std.proofs.Common.{◌≡◌, ◌≢◌, ◌⊎◌, inl, inr, ◌∙◌, sym, ap, subst, refl, ℕ, ◌+◌, ◌==◌, ◌<◌, ◌≤◌, cond, List, [], ◌∷◌, ◌++◌, arith, length, map, append-nil, codes, slice_index_or, slice_set, get_or, take, drop, Bool, true, false, eq-eqb, ne_eqb, Result, Ok, Err, OnOk}
use Rattle.std.specs.List.{flat_map}
use Rattle.std.proofs.lemmas.Bool.{cases_eq}
use Rattle.std.proofs.lemmas.List.{flat_map_more, drop_more, get_or_default, get_or-map, get_or-set_same, get_or-set_other, length-map, length-set, take_more}
use Rattle.an_base.specs.Rows.{RowOf}
use Rattle.an_base.specs.declared.event.Event.{Event}
use Rattle.an_base.specs.declared.event.Event.TheVariants.{Clock, Take, Handle, Load, Restart}
use Rattle.net_script.specs.Scripts.{IsScript, ScriptOf}
use Rattle.net_state.specs.declared.ending.Ending.{Ending}
use Rattle.net_state.specs.Lawful.{is_lawful}
use Rattle.net_state.proofs.LawfulLemmas.{lawful_is}
use Rattle.net_state.proofs.ReadyLemmas.{clock_ready, handle_ready, load_ready, take_ready}
use Rattle.net_state.specs.declared.line.Line.{Line}
use Rattle.net_state.specs.declared.line.PlacedLine.{PlacedLine}
use Rattle.net_world.specs.Accounts.{AccountOf, account_of, gathered, loaded_rows, placed, placed_lines}
use Rattle.net_world.specs.Histories.{AreLawful, IsLegal, owner_of}
use Rattle.net_world.specs.Lines.{lines_of, rows_after}
use Rattle.net_world.specs.World.{WorldOf, step, world_after}
use Rattle.net_world.proofs.CountLemmas.{world_counts}
use Rattle.net_world.proofs.InductionLemmas.{world_first}
use Rattle.net_world.proofs.PlaceLemmas.{switch_below}
use Rattle.net_world.proofs.WorldLemmas.{world_after-event}
use Rattle.fabric_book.specs.declared.account.Account.{Account}
use Rattle.fabric_book.specs.Accounts.{AreAccounts, HasAccount}
use Rattle.report.specs.Events.{CourseOf, all_told, course_after, course_of, event_text}
use Rattle.report.specs.Retellings.{Comes, IsNotNext, IsRetelling, left_of, no_account, told_in}
use Rattle.report.proofs.CourseLemmas.{restart_below}
use Rattle.report.proofs.ReporterLemmas.{so_far_more}

-- THE LINES OF ONE EVENT

-- where lines end whose event is at a place
pub split_same : (place : ℕ) (xs ys : List Line) (a b : List PlacedLine) → placed place xs ++ a ≡ placed place ys ++ b → IsNotNext place a → IsNotNext place b → (xs ≡ ys) × (a ≡ b)
split_same place [] [] a b same last other = (refl, same)
split_same place [] (y ∷ ys) a b same last other = absurd (subst (IsNotNext place) same last refl)
split_same place (x ∷ xs) [] a b same last other = absurd (subst (IsNotNext place) (sym same) other refl)
split_same place (x ∷ xs) (y ∷ ys) a b same last other =
    let more = split_same place xs ys a b (ap (drop 1) same) last other in
    let head : x ≡ y = ap (λ (ls : List PlacedLine). (get_or ls 0 (record { event = place; line = x })).line) same in
    (ap (λ (l : Line). l ∷ xs) head ∙ ap (λ (ls : List Line). y ∷ ls) more.0, more.1)

-- So far these lines are told, and this is left.
pub record AreTold (place : ℕ) (told : Line → List ℕ) (old new : AccountOf) (text : List ℕ) (more : List ℕ) : Type 0 where
  pub done : List Line
  pub split : old.lines ≡ placed place done ++ new.lines
  pub rows : new.rows ≡ old.rows
  pub says : more ≡ text ++ flat_map told done

pub told_none : (place : ℕ) (told : Line → List ℕ) (old : AccountOf) (text : List ℕ) → AreTold place told old old text text
told_none place told old text = record { done = []; split = refl; rows = refl; says = sym (append-nil text) }

pub told_one : (place : ℕ) (told : Line → List ℕ) (old mid new : AccountOf) (text some more : List ℕ) (line : Line) → AreTold place told old mid text some
    → mid ≡ record new { lines = record { event = place; line = line } ∷ new.lines } → new.rows ≡ mid.rows → more ≡ some ++ told line → AreTold place told old new text more
told_one place told old mid new text some more line are is rows one = record {
  done = are.done ++ line ∷ [];
  split = are.split ∙ ap (λ (m : AccountOf). placed place are.done ++ m.lines) is ∙ sym (placed_more are.done new.lines);
  rows = rows ∙ are.rows;
  says = one ∙ ap (λ (t : List ℕ). t ++ told line) are.says ∙ flat_map_more told text are.done line;
} where
  placed_more : (xs : List Line) (ys : List PlacedLine) → placed place (xs ++ line ∷ []) ++ ys ≡ placed place xs ++ record { event = place; line = line } ∷ ys
  placed_more [] ys = refl
  placed_more (x ∷ xs) ys = ap (λ (ls : List PlacedLine). record { event = place; line = x } ∷ ls) (placed_more xs ys)

-- at last
pub told_left : (place : ℕ) (told : Line → List ℕ) (old new : AccountOf) (text some : List ℕ) (lines : List Line) (more : List PlacedLine) → AreTold place told old new text some → IsNotNext place new.lines
    → old.lines ≡ placed place lines ++ more → IsNotNext place more → new ≡ record old { lines = more }
told_left place told old new text some lines more are last split other =
    let same = split_same place are.done lines new.lines more (sym are.split ∙ split) last other in
    ap (λ ls. record { lines = ls; rows = new.rows }) same.1 ∙ ap (λ rs. record { lines = more; rows = rs }) are.rows

pub told_all : (place : ℕ) (told : Line → List ℕ) (old new : AccountOf) (text some : List ℕ) (lines : List Line) (more : List PlacedLine) → AreTold place told old new text some → IsNotNext place new.lines
    → old.lines ≡ placed place lines ++ more → IsNotNext place more → some ≡ text ++ flat_map told lines
told_all place told old new text some lines more are last split other =
    are.says ∙ ap (λ (ls : List Line). text ++ flat_map told ls) (split_same place are.done lines new.lines more (sym are.split ∙ split) last other).0

-- WHAT IS LEFT

-- what is told of later events is not of this one
later : (place count : ℕ) (own : Bool) (lines : List Line) (more : List PlacedLine) → place < count → IsNotNext place more → IsNotNext place (cond own (placed count lines) [] ++ more)
later place count false lines more past rest = rest
later place count true [] more past rest = rest
later place count true (l ∷ lines) more past rest = λ same. omega (arith, past, same)

pub not_next : (script : ScriptOf) → IsScript script → (h events : List Event) (caller place : ℕ) → place ≤ (world_after script h).fabric.events → AreLawful (world_after script h) events → IsNotNext place (gathered placed_lines caller (world_after script h) events)
not_next script kept h [] caller place past lawful = tt
not_next script kept h (e ∷ events) caller place past lawful =
    let w = world_after script h in
    let next = world_after-event script h e in
    let one = world_counts script kept h e lawful.0 in
    let more = not_next script kept (h ++ e ∷ []) events caller place (omega (arith, past, one)) (subst (λ (v : WorldOf). AreLawful v events) (sym next) lawful.1) in
    let count : (step w e).fabric.events ≡ w.fabric.events + 1 = ap (λ (v : WorldOf). v.fabric.events) (sym next) ∙ one in
    later place (step w e).fabric.events (owner_of e == caller) (lines_of w e) (gathered placed_lines caller (step w e) events) (omega (arith, past, count))
    (subst (λ (v : WorldOf). IsNotNext place (gathered placed_lines caller v events)) next more)

-- an event belongs to one of the callers
pub owner_below : (script : ScriptOf) → IsScript script → (h : List Event) (e : Event) → is_lawful (world_after script h).fabric e ≡ true → owner_of e < length script.wires.switches + 1
owner_below script kept h (Clock s) lawful =
    let f = (world_after script h).fabric in
    let below = switch_below script h s (clock_ready f s (lawful_is f (Clock s) lawful).ready).0 in omega (arith, below)
owner_below script kept h (Take s p) lawful =
    let f = (world_after script h).fabric in
    let below = switch_below script h s (take_ready f s p (lawful_is f (Take s p) lawful).ready).switch in omega (arith, below)
owner_below script kept h (Handle s) lawful =
    let f = (world_after script h).fabric in
    let below = switch_below script h s (handle_ready f s (lawful_is f (Handle s) lawful).ready).0 in omega (arith, below)
owner_below script kept h (Load s) lawful =
    let f = (world_after script h).fabric in
    let below = switch_below script h s (load_ready f s (lawful_is f (Load s) lawful).ready).0 in omega (arith, below)
owner_below script kept h (Restart s) lawful = let below = restart_below script kept h s lawful in omega (arith, below)
owner_below script kept h e lawful = omega arith

-- where the next event comes
module _ (script : ScriptOf) (before : List Event) (e : Event) (events : List Event) (course : CourseOf) (left : List AccountOf) (text : List ℕ) (is : IsRetelling script before (e ∷ events) course left text) where
  abbrev pub world : WorldOf
  world = world_after script before

  next : world_after script (before ++ e ∷ []) ≡ step world e
  next = world_after-event script before e

  pub comes : Comes script before e course
  comes = record { kept = is.kept; lawful = is.lawful.0; course_is = is.course_is }

  pub owner_within : owner_of e < length left
  owner_within = let below = owner_below script is.kept before e is.lawful.0 in let callers = is.callers in omega (arith, below, callers)

  -- what is left of the account of whose it is
  own_left : (account : AccountOf) → account ≡ slice_index_or left (owner_of e) account → account ≡ left_of world (e ∷ events) (owner_of e)
  own_left account at = at ∙ get_or_default left (owner_of e) account no_account owner_within ∙ is.left_are (owner_of e) owner_within

  own_part : {A : Type 0} (give : WorldOf → Event → List A) → gathered give (owner_of e) world (e ∷ events) ≡ give world e ++ gathered give (owner_of e) (step world e) events
  own_part give = ap (λ (b : Bool). cond b (give world e) [] ++ gathered give (owner_of e) (step world e) events) (eq-eqb (owner_of e) (owner_of e) refl)

  pub own_lines : (account : AccountOf) → account ≡ slice_index_or left (owner_of e) account → account.lines ≡ placed (course_after script (before ++ e ∷ [])).events (lines_of world e) ++ (left_of (step world e) events (owner_of e)).lines
  own_lines account at =
      ap (λ (a : AccountOf). a.lines) (own_left account at) ∙ own_part placed_lines
      ∙ ap (λ (v : WorldOf). placed v.fabric.events (lines_of world e) ++ gathered placed_lines (owner_of e) (step world e) events) (sym next)

  pub own_rows : (account : AccountOf) → account ≡ slice_index_or left (owner_of e) account → account.rows ≡ loaded_rows world e ++ (left_of (step world e) events (owner_of e)).rows
  own_rows account at = ap (λ (a : AccountOf). a.rows) (own_left account at) ∙ own_part loaded_rows

  pub others_later : IsNotNext (course_after script (before ++ e ∷ [])).events (left_of (step world e) events (owner_of e)).lines
  others_later =
      subst (λ (v : WorldOf). IsNotNext (course_after script (before ++ e ∷ [])).events (gathered placed_lines (owner_of e) v events)) next
      (not_next script is.kept (before ++ e ∷ []) events (owner_of e) (course_after script (before ++ e ∷ [])).events (omega arith) (subst (λ (v : WorldOf). AreLawful v events) (sym next) is.lawful.1))

  -- of the other accounts the same is left
  other_left : (caller : ℕ) → caller ≢ owner_of e → left_of world (e ∷ events) caller ≡ left_of (step world e) events caller
  other_left caller other =
      ap (λ (b : Bool). record {
        lines = cond b (placed_lines world e) [] ++ gathered placed_lines caller (step world e) events;
        rows = cond b (loaded_rows world e) [] ++ gathered loaded_rows caller (step world e) events;
      }) (ne_eqb (owner_of e) caller (λ same. other (sym same)))

  left_set : (caller : ℕ) → caller < length left → slice_index_or (slice_set left (owner_of e) (left_of (step world e) events (owner_of e))) caller no_account ≡ left_of (step world e) events caller
  left_set caller below = by (cases_eq caller (owner_of e)) where
    new : List AccountOf
    new = slice_set left (owner_of e) (left_of (step world e) events (owner_of e))

    by : (caller ≡ owner_of e) ⊎ (caller ≡ owner_of e → ⊥) → slice_index_or new caller no_account ≡ left_of (step world e) events caller
    by (inl same) =
        ap (λ (n : ℕ). slice_index_or new n no_account) same ∙ get_or-set_same left (owner_of e) (left_of (step world e) events (owner_of e)) no_account owner_within
        ∙ ap (left_of (step world e) events) (sym same)
    by (inr other) = get_or-set_other left (owner_of e) caller (left_of (step world e) events (owner_of e)) no_account other ∙ is.left_are caller below ∙ other_left caller other

  -- and its lines are told
  pub retold_one : (place : ℕ) (rows : List RowOf) (behind : CourseOf) (all : List AccountOf) (more : List ℕ) → place ≡ owner_of e → rows ≡ rows_after (step world e).fabric e → behind ≡ course_after script (before ++ e ∷ [])
      → all ≡ slice_set left place (left_of (step world e) events (owner_of e)) → more ≡ text ++ all_told script behind rows (lines_of world e) → IsRetelling script (before ++ e ∷ []) events behind all more
  unfolding event_text
  retold_one place rows behind all more at rows_are behind_is all_is told = record {
    kept = is.kept;
    lawful = subst (λ (v : WorldOf). AreLawful v events) (sym next) is.lawful.1;
    course_is = behind_is;
    callers = size ∙ is.callers;
    left_are = λ caller below. ap (λ (ls : List AccountOf). slice_index_or ls caller no_account) set ∙ left_set caller (subst (λ (n : ℕ). caller < n) size below) ∙ ap (λ (v : WorldOf). left_of v events caller) (sym next);
    says = so_far_more script before e text more is.says (told
        ∙ ap (λ (r : List RowOf). text ++ all_told script behind r (lines_of world e)) rows_are
        ∙ ap (λ (c : CourseOf). text ++ all_told script c (rows_after (step world e).fabric e) (lines_of world e)) (behind_is ∙ ap (λ (v : WorldOf). course_of v.fabric) next));
  } where
    set : all ≡ slice_set left (owner_of e) (left_of (step world e) events (owner_of e))
    set = all_is ∙ ap (λ (n : ℕ). slice_set left n (left_of (step world e) events (owner_of e))) at

    size : length all ≡ length left
    size = ap (length {A = AccountOf}) set ∙ length-set left (owner_of e) (left_of (step world e) events (owner_of e))

  -- as calls have it
  pub retold_next : {X E : Type 0} (result : Result X E) (place : ℕ) (account told new : AccountOf) (rows : List RowOf) (behind : CourseOf) (more : List ℕ) → place ≡ owner_of e → account ≡ slice_index_or left place account
      → ((w : WorldOf) (m : List (List RowOf)) → account.rows ≡ loaded_rows w e ++ m → (rows ≡ rows_after (step w e).fabric e) × (told ≡ record account { rows = m }))
      → behind ≡ course_after script (before ++ e ∷ [])
      → ((lines : List Line) (m : List PlacedLine) → told.lines ≡ placed behind.events lines ++ m → IsNotNext behind.events m → OnOk result (new ≡ record told { lines = m }))
      → ((lines : List Line) (m : List PlacedLine) → told.lines ≡ placed behind.events lines ++ m → IsNotNext behind.events m → OnOk result (more ≡ text ++ all_told script behind rows lines))
      → OnOk result (IsRetelling script (before ++ e ∷ []) events behind (slice_set left place new) more)
  retold_next result place account told new rows behind more at value rows_give behind_is lines_left lines_told =
      both result (lines_left (lines_of world e) rest.lines split last) (lines_told (lines_of world e) rest.lines split last)
    where
      rest : AccountOf
      rest = left_of (step world e) events (owner_of e)

      here : account ≡ slice_index_or left (owner_of e) account
      here = value ∙ ap (λ (n : ℕ). slice_index_or left n account) at

      given : (rows ≡ rows_after (step world e).fabric e) × (told ≡ record account { rows = rest.rows })
      given = rows_give world rest.rows (own_rows account here)

      split : told.lines ≡ placed behind.events (lines_of world e) ++ rest.lines
      split = ap (λ (a : AccountOf). a.lines) given.1 ∙ own_lines account here ∙ ap (λ (c : CourseOf). placed c.events (lines_of world e) ++ rest.lines) (sym behind_is)

      last : IsNotNext behind.events rest.lines
      last = subst (λ (c : CourseOf). IsNotNext c.events rest.lines) (sym behind_is) others_later

      both : {X E : Type 0} (result : Result X E) → OnOk result (new ≡ record told { lines = rest.lines }) → OnOk result (more ≡ text ++ all_told script behind rows (lines_of world e)) → OnOk result (IsRetelling script (before ++ e ∷ []) events behind (slice_set left place new) more)
      both (Ok x) is_left is_told = retold_one place rows behind (slice_set left place new) more at given.0 behind_is (ap (slice_set left place) (is_left ∙ ap (λ (a : AccountOf). record a { lines = rest.lines }) given.1)) is_told
      both (Err why) is_left is_told = tt

-- THE EVENTS OF A JOURNAL

-- before the next event, and behind it
pub at_event : (script own : ScriptOf) (journal : List Event) (k : ℕ) (event : Event) (course : CourseOf) (left : List AccountOf) (text : List ℕ) → own ≡ script → k < length journal → event ≡ get_or journal k event → IsRetelling script (take k journal) (drop k journal) course left text → IsRetelling own (take k journal) (event ∷ drop (k + 1) journal) course left text
at_event script own journal k event course left text same within at is =
    subst (λ (s : ScriptOf). IsRetelling s (take k journal) (event ∷ drop (k + 1) journal) course left text) (sym same)
    (subst (λ (es : List Event). IsRetelling script (take k journal) es course left text) (drop_more journal k event within ∙ ap (λ (e : Event). e ∷ drop (k + 1) journal) (sym at)) is)

pub past_event : (script own : ScriptOf) (journal : List Event) (k : ℕ) (event : Event) (course : CourseOf) (left : List AccountOf) (text : List ℕ) → own ≡ script → k < length journal → event ≡ get_or journal k event → IsRetelling own (take k journal ++ event ∷ []) (drop (k + 1) journal) course left text → IsRetelling script (take (k + 1) journal) (drop (k + 1) journal) course left text
past_event script own journal k event course left text same within at is =
    subst (λ (s : ScriptOf). IsRetelling s (take (k + 1) journal) (drop (k + 1) journal) course left text) same
    (subst (λ (es : List Event). IsRetelling own es (drop (k + 1) journal) course left text) (ap (λ (e : Event). take k journal ++ e ∷ []) at ∙ sym (take_more journal k event within)) is)

-- AT THE BEGINNING

told_as : (told : AccountOf) (account : Account) → HasAccount told account → told_in account ≡ told
told_as told account has = ap (λ ls. record { lines = ls; rows = map (λ rows. rows.items) account.rows.items }) has.lines_are ∙ ap (λ rs. record { lines = told.lines; rows = rs }) has.rows_are

all_at : (accounts : List Account) (caller : ℕ) (told : AccountOf) → caller < length accounts → ((account : Account) → HasAccount told (slice_index_or accounts caller account)) → slice_index_or (map told_in accounts) caller no_account ≡ told
all_at [] caller told below each = absurd (omega (arith, below))
all_at (account ∷ accounts) caller told below each =
    get_or-map told_in (account ∷ accounts) caller account no_account below ∙ told_as told (slice_index_or (account ∷ accounts) caller account) (each account)

pub retelling_first : (script : ScriptOf) (journal : List Event) (end : Ending) (accounts : List Account) (course : CourseOf) (left : List AccountOf) (text : List ℕ) → IsScript script → IsLegal script journal end → AreAccounts script journal accounts
    → course ≡ course_after script [] → left ≡ map told_in accounts → text ≡ codes "report 1\n" → IsRetelling script [] journal course left text
retelling_first script journal end accounts course left text kept legal are course_is left_is first = record {
  kept = kept;
  lawful = subst (λ (w : WorldOf). AreLawful w journal) (sym (world_first script)) legal.lawful;
  course_is = course_is;
  callers = size ∙ are.count;
  left_are = λ caller below.
      ap (λ (ls : List AccountOf). slice_index_or ls caller no_account) left_is
      ∙ all_at accounts caller (account_of script caller journal) (subst (λ (n : ℕ). caller < n) size below) (are.each caller (subst (λ (n : ℕ). caller < n) size below))
      ∙ ap (λ (w : WorldOf). left_of w journal caller) (sym (world_first script));
  says = first ∙ sym (append-nil (codes "report 1\n"));
} where
  size : length left ≡ length accounts
  size = ap (length {A = AccountOf}) left_is ∙ length-map accounts told_in
