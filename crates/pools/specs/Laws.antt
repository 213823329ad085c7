-- What putting and taking come to, whatever waits.
use Rattle.std.specs.Prelude.{◌≡◌, ℕ, ◌+◌, ◌≤◌, Bool, true, cond, List, ◌∷◌, ◌++◌, length, is_some, Some, None, Option}
use Rattle.pools.specs.Pools.{held, has_room, put_last, fitting, nth_fitting, without_nth}

-- m fits, n of those before it fit, and rest is those before it and those behind it
pub record Splits {M P : Type 0} (meets : M → P → Bool) (party : P) (n : ℕ) (ms : List M) (m : M) (rest : List M) : Type 0 where
  pub front : List M
  pub back : List M
  pub whole : ms ≡ front ++ (m ∷ back)
  pub others : rest ≡ front ++ back
  pub fits : meets m party ≡ true
  pub older : length (fitting meets party front) ≡ n

-- too few fit and all stay, or one is taken from between the others
abbrev pub Takes : {M P : Type 0} → (M → P → Bool) → P → ℕ → List M → Option M → List M → Type 0
Takes meets party n ms None rest = (length (fitting meets party ms) ≤ n) × (rest ≡ ms)
Takes meets party n ms (Some m) rest = Splits meets party n ms m rest

-- the laws that hold for every kind of message
pub record PoolLaws {M P : Type 0} (meets : M → P → Bool) : Type 0 where
  pub splits : (party : P) (n : ℕ) (ms : List M) → Takes meets party n ms (nth_fitting meets party n ms) (without_nth meets party n ms)
  pub one_less : (party : P) (n : ℕ) (ms : List M) (m : M) → nth_fitting meets party n ms ≡ Some m → length (without_nth meets party n ms) + 1 ≡ length ms
  pub one_more : (size : ℕ) (m : M) (ms : List M) → length (put_last size m ms) ≡ length ms + cond (has_room size ms) 1 0
  -- the place of what was taken can be used again
  pub freed : (party : P) (n size : ℕ) (ms : List M) → length ms ≤ size → is_some (nth_fitting meets party n ms) ≡ true → has_room size (without_nth meets party n ms) ≡ true
  pub fewer : (party : P) (ms : List M) → length (fitting meets party ms) ≤ length ms
  pub bounded : (places : List (Option M)) → length (held places) ≤ length places
