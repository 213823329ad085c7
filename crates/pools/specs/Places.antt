-- What one place holds, and what a search for a place finds.
use Rattle.std.specs.Prelude.{◌≡◌, ℕ, ◌<◌, Bool, true, false, List, length, Some, None, Option, slice_index_or, slice_set}
use Rattle.pools.specs.Pools.{held, has_room, nth_fitting, without_nth}

-- place i holds the n-th oldest message that fits the party, and once it is cleared all others are left
pub record Stands {M P : Type 0} (meets : M → P → Bool) (party : P) (n : ℕ) (places : List (Option M)) (i : ℕ) : Type 0 where
  pub within : i < length places
  pub here : (d : Option M) → slice_index_or places i d ≡ nth_fitting meets party n (held places)
  pub some : (nth_fitting meets party n (held places) ≡ None) → ⊥
  pub others : held (slice_set places i None) ≡ without_nth meets party n (held places)

abbrev pub Found : {M P : Type 0} → (M → P → Bool) → P → ℕ → List (Option M) → Option ℕ → Type 0
Found meets party n places None = (nth_fitting meets party n (held places) ≡ None) × (held places ≡ without_nth meets party n (held places))
Found meets party n places (Some i) = Stands meets party n places i

-- place i is free
pub record Vacant {M : Type 0} (places : List (Option M)) (i : ℕ) : Type 0 where
  pub within : i < length places
  pub here : (d : Option M) → slice_index_or places i d ≡ None
  pub room : has_room (length places) (held places) ≡ true

abbrev pub Free : {M : Type 0} → List (Option M) → Option ℕ → Type 0
Free places None = has_room (length places) (held places) ≡ false
Free places (Some i) = Vacant places i
