-- What follows from the definitions of a store, stated for a reader who wants to test them.
use Rattle.std.specs.Prelude.{◌≡◌, ℕ, true, cond, is_err, Some, None, ◌==◌}
use Rattle.stores.specs.Pairs.{Pairs, find, insert, erase, Ascending}
use Rattle.stores.specs.Store.{StoreModel, Step, Sound, begin_step, look_step, put_step, drop_step, commit_step, roll_back_step}

-- a list of pairs is a map: what is found under each key settles it
pub record MapLaws : Type 0 where
  pub settled_by_find : (m n : Pairs) → Ascending m → Ascending n → ((key : ℕ) → find key m ≡ find key n) → m ≡ n
  pub find_inserted : (other key value : ℕ) (m : Pairs) → find other (insert key value m) ≡ cond (other == key) (Some value) (find other m)
  pub find_erased : (other key : ℕ) (m : Pairs) → Ascending m → find other (erase key m) ≡ cond (other == key) None (find other m)

-- an operation keeps a store sound and its capacity, and alters nothing where it is refused
pub record Lawful {Answer : Type 0} (step : StoreModel → Step Answer) : Type 0 where
  pub keeps_sound : (m : StoreModel) → Sound m → Sound (step m).next
  pub keeps_capacity : (m : StoreModel) → (step m).next.capacity ≡ m.capacity
  pub refused_alters_nothing : (m : StoreModel) → is_err (step m).answer ≡ true → (step m).next ≡ m

pub record StoreLaws : Type 0 where
  pub maps : MapLaws
  pub begin_lawful : Lawful begin_step
  pub look_lawful : (key : ℕ) → Lawful (look_step key)
  pub put_lawful : (key value : ℕ) → Lawful (put_step key value)
  pub drop_lawful : (key : ℕ) → Lawful (drop_step key)
  pub commit_lawful : Lawful commit_step
  pub roll_back_lawful : Lawful roll_back_step
