-- Laws of the operations on a store's meaning, for the layers above.
use Rattle.std.proofs.Common.{◌≡◌, ℕ, ◌+◌, ◌<◌, ◌≤◌, true, length, is_err, Some, None, Ok, Err, Option, Result, refl, arith}
use Rattle.std.proofs.lemmas.Bool.Decides.{nat_tests}
use Rattle.stores.specs.declared.types.StoreRefusal.{StoreRefusal}
use Rattle.stores.specs.Pairs.{Pairs, insert, erase}
use Rattle.stores.specs.Store.{StoreModel, Trial, Step, in_trial, changed, begin_step, commit_step, roll_back_step, put_in, drop_in, change_limit, SoundTrial, Sound}
use Rattle.stores.specs.Laws.{MapLaws, Lawful, StoreLaws}
use Rattle.stores.specs.Maps.{same_maps, find_insert, find_erase, find_erase_other, length_insert_old, ascending_erase, ascending_insert, length_insert, length_erase}

abbrev store : ℕ → Pairs → Option Trial → StoreModel
store capacity committed trial = record { capacity = capacity; committed = committed; trial = trial }

-- a change does not show once the trial is rolled back
back_store : (change : Trial → Result Trial StoreRefusal) (capacity : ℕ) (committed : Pairs) (o : Option Trial) → (roll_back_step (in_trial change (store capacity committed o)).next).next ≡ (roll_back_step (store capacity committed o)).next
back_store change capacity committed None = refl
back_store change capacity committed (Some t) = go (change t)
  where
    go : (r : Result Trial StoreRefusal) → (roll_back_step (changed r (store capacity committed (Some t))).next).next ≡ (roll_back_step (store capacity committed (Some t))).next
    go (Ok t') = refl
    go (Err why) = refl

pub change_back : (change : Trial → Result Trial StoreRefusal) (m : StoreModel) → (roll_back_step (in_trial change m).next).next ≡ (roll_back_step m).next
change_back change m = back_store change m.capacity m.committed m.trial

map_laws : MapLaws
map_laws = record {
  settled_by_find = same_maps;
  find_inserted = find_insert;
  find_erased = λ other key m a. (let here = find_erase key m a in let apart = find_erase_other other key m in grind (arith, nat_tests));
}

put_sound : (capacity key value : ℕ) (t t' : Trial) → SoundTrial capacity (Some t) → put_in capacity key value t ≡ Ok t' → SoundTrial capacity (Some t')
put_sound capacity key value t t' s e =
    let pairs : t'.working ≡ insert key value t.working = grind (arith, nat_tests) in
    let counted : t'.changes ≡ t.changes + 1 = grind (arith, nat_tests) in
    let limited : t.changes < change_limit = grind (arith, nat_tests) in
    let old = length_insert_old key value t.working s.0.ascending in
    let new = length_insert key value t.working in
    let held = s.0.few in
    let few : length (insert key value t.working) ≤ capacity = grind (arith, nat_tests) in
    (record { ascending = rw pairs (ascending_insert key value t.working s.0.ascending); few = rw pairs few }, omega arith)

drop_sound : (capacity key : ℕ) (t t' : Trial) → SoundTrial capacity (Some t) → drop_in key t ≡ Ok t' → SoundTrial capacity (Some t')
drop_sound capacity key t t' s e =
    let pairs : t'.working ≡ erase key t.working = grind (arith, nat_tests) in
    let counted : t'.changes ≡ t.changes + 1 = grind (arith, nat_tests) in
    let limited : t.changes < change_limit = grind (arith, nat_tests) in
    let fewer = length_erase key t.working in
    let held = s.0.few in
    (record { ascending = rw pairs (ascending_erase key t.working s.0.ascending); few = rw pairs (omega arith) }, omega arith)

-- a change of the trial is lawful if it keeps a trial sound
module _ (change : ℕ → Trial → Result Trial StoreRefusal) (sound : (capacity : ℕ) (t t' : Trial) → SoundTrial capacity (Some t) → change capacity t ≡ Ok t' → SoundTrial capacity (Some t')) where
  abbrev step : StoreModel → Step (Unit {0})
  step m = in_trial (change m.capacity) m

  changed_sound : (m : StoreModel) (t : Trial) (r : Result Trial StoreRefusal) → Sound m → SoundTrial m.capacity (Some t) → change m.capacity t ≡ r → Sound (changed r m).next
  changed_sound m t (Ok t') s st e = record { not_small = s.not_small; not_large = s.not_large; committed_pairs = s.committed_pairs; open_trial = sound m.capacity t t' st e }
  changed_sound m t (Err why) s st e = s

  in_trial_sound : (capacity : ℕ) (committed : Pairs) (o : Option Trial) → Sound (store capacity committed o) → Sound (step (store capacity committed o)).next
  in_trial_sound capacity committed None s = s
  in_trial_sound capacity committed (Some t) s = changed_sound (store capacity committed (Some t)) t (change capacity t) s s.open_trial refl

  changed_capacity : (m : StoreModel) (r : Result Trial StoreRefusal) → (changed r m).next.capacity ≡ m.capacity
  changed_capacity m (Ok t) = refl
  changed_capacity m (Err why) = refl

  in_trial_capacity : (capacity : ℕ) (committed : Pairs) (o : Option Trial) → (step (store capacity committed o)).next.capacity ≡ capacity
  in_trial_capacity capacity committed None = refl
  in_trial_capacity capacity committed (Some t) = changed_capacity (store capacity committed (Some t)) (change capacity t)

  changed_refused : (m : StoreModel) (r : Result Trial StoreRefusal) → is_err (changed r m).answer ≡ true → (changed r m).next ≡ m
  changed_refused m (Ok t) e = grind arith
  changed_refused m (Err why) e = refl

  in_trial_refused : (capacity : ℕ) (committed : Pairs) (o : Option Trial) → is_err (step (store capacity committed o)).answer ≡ true → (step (store capacity committed o)).next ≡ store capacity committed o
  in_trial_refused capacity committed None e = refl
  in_trial_refused capacity committed (Some t) e = changed_refused (store capacity committed (Some t)) (change capacity t) e

  change_lawful : Lawful step
  change_lawful = record {
    keeps_sound = λ m. in_trial_sound m.capacity m.committed m.trial;
    keeps_capacity = λ m. in_trial_capacity m.capacity m.committed m.trial;
    refused_alters_nothing = λ m. in_trial_refused m.capacity m.committed m.trial;
  }

begin_sound : (capacity : ℕ) (committed : Pairs) (o : Option Trial) → Sound (store capacity committed o) → Sound (begin_step (store capacity committed o)).next
begin_sound capacity committed None s = record { not_small = s.not_small; not_large = s.not_large; committed_pairs = s.committed_pairs; open_trial = (s.committed_pairs, omega arith) }
begin_sound capacity committed (Some t) s = s

begin_capacity : (capacity : ℕ) (committed : Pairs) (o : Option Trial) → (begin_step (store capacity committed o)).next.capacity ≡ capacity
begin_capacity capacity committed None = refl
begin_capacity capacity committed (Some t) = refl

begin_refused : (capacity : ℕ) (committed : Pairs) (o : Option Trial) → is_err (begin_step (store capacity committed o)).answer ≡ true → (begin_step (store capacity committed o)).next ≡ store capacity committed o
begin_refused capacity committed None e = grind arith
begin_refused capacity committed (Some t) e = refl

commit_sound : (capacity : ℕ) (committed : Pairs) (o : Option Trial) → Sound (store capacity committed o) → Sound (commit_step (store capacity committed o)).next
commit_sound capacity committed None s = s
commit_sound capacity committed (Some t) s = record { not_small = s.not_small; not_large = s.not_large; committed_pairs = s.open_trial.0; open_trial = tt }

commit_capacity : (capacity : ℕ) (committed : Pairs) (o : Option Trial) → (commit_step (store capacity committed o)).next.capacity ≡ capacity
commit_capacity capacity committed None = refl
commit_capacity capacity committed (Some t) = refl

commit_refused : (capacity : ℕ) (committed : Pairs) (o : Option Trial) → is_err (commit_step (store capacity committed o)).answer ≡ true → (commit_step (store capacity committed o)).next ≡ store capacity committed o
commit_refused capacity committed None e = refl
commit_refused capacity committed (Some t) e = grind arith

roll_back_sound : (capacity : ℕ) (committed : Pairs) (o : Option Trial) → Sound (store capacity committed o) → Sound (roll_back_step (store capacity committed o)).next
roll_back_sound capacity committed None s = s
roll_back_sound capacity committed (Some t) s = record { not_small = s.not_small; not_large = s.not_large; committed_pairs = s.committed_pairs; open_trial = tt }

roll_back_capacity : (capacity : ℕ) (committed : Pairs) (o : Option Trial) → (roll_back_step (store capacity committed o)).next.capacity ≡ capacity
roll_back_capacity capacity committed None = refl
roll_back_capacity capacity committed (Some t) = refl

roll_back_refused : (capacity : ℕ) (committed : Pairs) (o : Option Trial) → is_err (roll_back_step (store capacity committed o)).answer ≡ true → (roll_back_step (store capacity committed o)).next ≡ store capacity committed o
roll_back_refused capacity committed None e = refl
roll_back_refused capacity committed (Some t) e = grind arith

pub store_laws : StoreLaws
store_laws = record {
  maps = map_laws;
  begin_lawful = record {
    keeps_sound = λ m. begin_sound m.capacity m.committed m.trial;
    keeps_capacity = λ m. begin_capacity m.capacity m.committed m.trial;
    refused_alters_nothing = λ m. begin_refused m.capacity m.committed m.trial;
  };
  look_lawful = λ key. record { keeps_sound = λ m s. s; keeps_capacity = λ m. refl; refused_alters_nothing = λ m e. refl };
  put_lawful = λ key value. change_lawful (λ capacity. put_in capacity key value) (λ capacity. put_sound capacity key value);
  drop_lawful = λ key. change_lawful (λ _. drop_in key) (λ capacity. drop_sound capacity key);
  commit_lawful = record {
    keeps_sound = λ m. commit_sound m.capacity m.committed m.trial;
    keeps_capacity = λ m. commit_capacity m.capacity m.committed m.trial;
    refused_alters_nothing = λ m. commit_refused m.capacity m.committed m.trial;
  };
  roll_back_lawful = record {
    keeps_sound = λ m. roll_back_sound m.capacity m.committed m.trial;
    keeps_capacity = λ m. roll_back_capacity m.capacity m.committed m.trial;
    refused_alters_nothing = λ m. roll_back_refused m.capacity m.committed m.trial;
  };
}
