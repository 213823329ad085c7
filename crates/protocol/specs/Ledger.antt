-- A ledger: what a list of calls and their answers says of transactions, and nothing else. It names a
-- transaction by the order in which ORDER entered it, never by the number that the site answered.
use Rattle.std.specs.Prelude.{ℕ, suc, Bool, true, false, cond, List, [], ◌∷◌, Some, None, Ok, Err, Option, Result, ◌==◌}
use Rattle.std.specs.List.{slice_get}
use Rattle.scripts.specs.Reading.{Part, read_script}
use Rattle.protocol.specs.Calls.{Answer, Refusal}
use Rattle.protocol.specs.Calls.Answer.{ordered, done, looked, timed_out, decided, voted, heard}
use Rattle.protocol.specs.Calls.Heard.{committed, rolled_back, discarded}
use Rattle.protocol.specs.Runs.{Call}
use Rattle.protocol.specs.Runs.Call.{ORDER, SEND, GET, EXPIRE, DECIDE, READY, DOWN, WORK, REPLY, HEAR}

pub data Fate : Type 0 where
  undecided : Fate
  to_commit : Fate
  to_abort : Fate

pub data Engagement : Type 0 where
  off : Engagement
  on : Engagement
  engaged : (entry : ℕ) → Engagement

-- a service committed or rolled back an entry
pub record Act : Type 0 where
  pub entry : ℕ
  pub commits : Bool

pub record Ledger : Type 0 where
  pub entered : ℕ
  pub parts : ℕ → List Part
  pub newest : ℕ → Option ℕ
  pub fate : ℕ → Fate
  -- the committed entries, the one decided last first
  pub line : List ℕ
  pub service : ℕ → Engagement
  pub noted : ℕ → ℕ → Option (List ℕ)
  pub acts : List Act

-- a table with one place changed
abbrev pub put_at : {X : Type 0} → (ℕ → X) → ℕ → X → ℕ → X
put_at table i x j = cond (j == i) x (table j)

abbrev pub blank : Ledger
blank = record {
  entered = 0;
  parts = λ _. [];
  newest = λ _. None;
  fate = λ _. undecided;
  line = [];
  service = λ _. off;
  noted = λ _ _. None;
  acts = [];
}

-- a new transaction, with the parts that its script gives
abbrev pub enter : ℕ → ℕ → List ℕ → Ledger → Ledger
enter services client script l =
    elim (read_script services script) [
      | Err _ ↦ l
      | Ok parts ↦ record {
        entered = suc l.entered;
        parts = put_at l.parts l.entered parts;
        newest = put_at l.newest client (Some l.entered);
        fate = l.fate;
        line = l.line;
        service = l.service;
        noted = l.noted;
        acts = l.acts;
      }
    ]

abbrev pub with_fate : ℕ → Bool → Ledger → Ledger
with_fate entry commits l = record {
  entered = l.entered;
  parts = l.parts;
  newest = l.newest;
  fate = put_at l.fate entry (cond commits to_commit to_abort);
  line = cond commits (entry ∷ l.line) l.line;
  service = l.service;
  noted = l.noted;
  acts = l.acts;
}

abbrev pub with_engagement : ℕ → Engagement → Ledger → Ledger
with_engagement v e l = record {
  entered = l.entered;
  parts = l.parts;
  newest = l.newest;
  fate = l.fate;
  line = l.line;
  service = put_at l.service v e;
  noted = l.noted;
  acts = l.acts;
}

abbrev pub with_act : ℕ → Bool → Ledger → Ledger
with_act entry commits l = record {
  entered = l.entered;
  parts = l.parts;
  newest = l.newest;
  fate = l.fate;
  line = l.line;
  service = l.service;
  noted = l.noted;
  acts = record { entry = entry; commits = commits } ∷ l.acts;
}

abbrev pub with_noted : ℕ → ℕ → List ℕ → Ledger → Ledger
with_noted entry part looks l = record {
  entered = l.entered;
  parts = l.parts;
  newest = l.newest;
  fate = l.fate;
  line = l.line;
  service = l.service;
  noted = put_at l.noted entry (put_at (l.noted entry) part (Some looks));
  acts = l.acts;
}

-- SEND engages the part's service, if it is on, with the client's newest transaction
abbrev pub engage : ℕ → ℕ → Ledger → Ledger
engage entry v l = elim (l.service v) [ on ↦ with_engagement v (engaged entry) l | off ↦ l | engaged _ ↦ l ]

abbrev pub sent : ℕ → ℕ → Ledger → Ledger
sent client part l =
    elim (l.newest client) [
      | None ↦ l
      | Some entry ↦ elim (slice_get (l.parts entry) part) [ None ↦ l | Some p ↦ engage entry p.service l ]
    ]

-- HEAR's 1 or 2: the service committed or rolled back what it is engaged with, and is off
abbrev pub ended : ℕ → Bool → Ledger → Ledger
ended v commits l =
    elim (l.service v) [ engaged entry ↦ with_engagement v off (with_act entry commits l) | off ↦ l | on ↦ l ]

-- what an accepted call adds; a refused one adds nothing
abbrev pub add_accepted : ℕ → Call → Answer → Ledger → Ledger
add_accepted services (ORDER client script) answer l = enter services client script l
add_accepted services (SEND client part) answer l = sent client part l
add_accepted services (GET client part room) answer l =
    elim answer [
      | looked looks ↦ elim (l.newest client) [ None ↦ l | Some entry ↦ with_noted entry part looks l ]
      | ordered _ ↦ l
      | done ↦ l
      | timed_out ↦ l
      | decided _ ↦ l
      | voted _ ↦ l
      | heard _ ↦ l
    ]
add_accepted services (EXPIRE client part) answer l = l
add_accepted services (DECIDE client wish) answer l =
    elim answer [
      | decided commits ↦ elim (l.newest client) [ None ↦ l | Some entry ↦ with_fate entry commits l ]
      | ordered _ ↦ l
      | done ↦ l
      | looked _ ↦ l
      | timed_out ↦ l
      | voted _ ↦ l
      | heard _ ↦ l
    ]
add_accepted services (READY v) answer l = with_engagement v on l
add_accepted services (DOWN v) answer l = with_engagement v off l
add_accepted services (WORK v) answer l = l
add_accepted services (REPLY v passed) answer l = l
add_accepted services (HEAR v n) answer l =
    elim answer [
      | heard what ↦ elim what [ committed ↦ ended v true l | rolled_back ↦ ended v false l | discarded ↦ l ]
      | ordered _ ↦ l
      | done ↦ l
      | looked _ ↦ l
      | timed_out ↦ l
      | decided _ ↦ l
      | voted _ ↦ l
    ]

abbrev pub add : ℕ → Call → Result Answer Refusal → Ledger → Ledger
add services call (Ok answer) l = add_accepted services call answer l
add services call (Err _) l = l
