-- What a store means, and what each operation does to that meaning.
use Rattle.std.specs.Prelude.{ℕ, ◌+◌, ◌≤◌, cond, not, ◌&&◌, [], length, is_some, Some, None, Ok, Err, Option, Result, nat_le}
use Rattle.stores.specs.declared.types.StoreRefusal.{StoreRefusal}
use Rattle.stores.specs.declared.types.StoreRefusal.TheVariants.{TrialClosed, TrialOpen, TooManyChanges, Full, KeyAbsent}
use Rattle.stores.specs.Pairs.{Pairs, find, insert, erase, Ascending}

-- an open trial: the working pairs, and how many changes led to them
pub record Trial : Type 0 where
  pub working : Pairs
  pub changes : ℕ

-- a store: its capacity, its committed pairs, and its trial if one is open
pub record StoreModel : Type 0 where
  pub capacity : ℕ
  pub committed : Pairs
  pub trial : Option Trial

-- what an operation comes to: its answer and the store after it
pub record Step (Answer : Type 0) : Type 0 where
  pub answer : Result Answer StoreRefusal
  pub next : StoreModel

-- a refused operation leaves the store as it was
abbrev pub refuse : {Answer : Type 0} → StoreRefusal → StoreModel → Step Answer
refuse why m = record { answer = Err why; next = m }

abbrev pub accept : StoreModel → Step (Unit {0})
accept m = record { answer = Ok tt; next = m }

-- the trial closed, with these pairs committed
abbrev pub with_committed : Pairs → StoreModel → StoreModel
with_committed pairs m = record { capacity = m.capacity; committed = pairs; trial = None }

-- the trial open, with these working pairs and changes
abbrev pub with_trial : Trial → StoreModel → StoreModel
with_trial t m = record { capacity = m.capacity; committed = m.committed; trial = Some t }

-- the pairs that Look reads
abbrev pub visible : StoreModel → Pairs
visible m = elim m.trial [ None ↦ m.committed | Some t ↦ t.working ]

-- the value under a key
abbrev pub look : ℕ → StoreModel → Option ℕ
look key m = find key (visible m)

-- Look as a step: it never refuses and never alters
abbrev pub look_step : ℕ → StoreModel → Step (Option ℕ)
look_step key m = record { answer = Ok (look key m); next = m }

-- a trial opened on the committed pairs, with no changes
abbrev pub begin_step : StoreModel → Step (Unit {0})
begin_step m =
    elim m.trial [
      | None ↦ accept (with_trial (record { working = m.committed; changes = 0 }) m)
      | Some _ ↦ refuse TrialOpen m
    ]

-- the most changes that one trial may make
abbrev pub change_limit : ℕ
change_limit = 8

-- a put in an open trial of a store with this capacity
abbrev pub put_in : ℕ → ℕ → ℕ → Trial → Result Trial StoreRefusal
put_in capacity key value t =
    cond (nat_le change_limit t.changes) (Err TooManyChanges)
    (cond (not (is_some (find key t.working)) && nat_le capacity (length t.working)) (Err Full)
    (Ok (record { working = insert key value t.working; changes = t.changes + 1 })))

-- a drop in an open trial
abbrev pub drop_in : ℕ → Trial → Result Trial StoreRefusal
drop_in key t =
    cond (nat_le change_limit t.changes) (Err TooManyChanges)
    (cond (is_some (find key t.working)) (Ok (record { working = erase key t.working; changes = t.changes + 1 })) (Err KeyAbsent))

-- the store after a change of its trial, where the change is accepted
abbrev pub changed : Result Trial StoreRefusal → StoreModel → Step (Unit {0})
changed (Ok t) m = accept (with_trial t m)
changed (Err why) m = refuse why m

-- a change of the open trial, refused where none is open
abbrev pub in_trial : (Trial → Result Trial StoreRefusal) → StoreModel → Step (Unit {0})
in_trial change m = elim m.trial [ None ↦ refuse TrialClosed m | Some t ↦ changed (change t) m ]

abbrev pub put_step : ℕ → ℕ → StoreModel → Step (Unit {0})
put_step key value m = in_trial (put_in m.capacity key value) m

abbrev pub drop_step : ℕ → StoreModel → Step (Unit {0})
drop_step key m = in_trial (drop_in key) m

-- the working pairs become the committed ones
abbrev pub commit_step : StoreModel → Step (Unit {0})
commit_step m = elim m.trial [ None ↦ refuse TrialClosed m | Some t ↦ accept (with_committed t.working m) ]

-- the committed pairs stay as they were
abbrev pub roll_back_step : StoreModel → Step (Unit {0})
roll_back_step m = elim m.trial [ None ↦ refuse TrialClosed m | Some _ ↦ accept (with_committed m.committed m) ]

-- one value for a key, and no more pairs than the capacity
pub record WithinCapacity (capacity : ℕ) (pairs : Pairs) : Type 0 where
  pub ascending : Ascending pairs
  pub few : length pairs ≤ capacity

abbrev pub SoundTrial : ℕ → Option Trial → Type 0
SoundTrial capacity None = Unit {0}
SoundTrial capacity (Some t) = WithinCapacity capacity t.working × (t.changes ≤ change_limit)

-- what holds of every store at any time
pub record Sound (m : StoreModel) : Type 0 where
  pub not_small : 8 ≤ m.capacity
  pub not_large : m.capacity ≤ 64
  pub committed_pairs : WithinCapacity m.capacity m.committed
  pub open_trial : SoundTrial m.capacity m.trial

-- a store as it is made
abbrev pub empty_store : ℕ → StoreModel
empty_store capacity = record { capacity = capacity; committed = []; trial = None }
