-- What a row of places means: the messages that wait in it, oldest first. All that is done to a pool is said of that list.
use Rattle.std.specs.Prelude.{ℕ, zero, suc, Bool, true, false, cond, List, [], ◌∷◌, ◌++◌, length, Some, None, Ok, Err, filter, Option, Result, nat_lt}
use Rattle.std.specs.List.{slice_get}
use Rattle.pools.specs.declared.Refusal.{Refusal}
use Rattle.pools.specs.declared.Refusal.TheVariants.{NoPlace}

-- the messages that wait, oldest first: a free place, wherever it stands, adds none
abbrev pub held : {M : Type 0} → List (Option M) → List M
held [] = []
held (None ∷ places) = held places
held (Some m ∷ places) = m ∷ held places

-- whether one more can wait, where there are `size` places
abbrev pub has_room : {M : Type 0} → ℕ → List M → Bool
has_room size ms = nat_lt (length ms) size

-- what `put` answers, if there is room and if not
abbrev pub put_answer : Bool → Result (Unit {0}) Refusal
put_answer true = Ok tt
put_answer false = Err NoPlace

-- those that wait once m was put: m is the youngest
abbrev pub put_last : {M : Type 0} → ℕ → M → List M → List M
put_last size m ms = cond (has_room size ms) (ms ++ (m ∷ [])) ms

-- those that fit a party
abbrev pub fitting : {M P : Type 0} → (M → P → Bool) → P → List M → List M
fitting meets party ms = filter (λ m. meets m party) ms

-- the n-th oldest, from 0, that fits a party
abbrev pub nth_fitting : {M P : Type 0} → (M → P → Bool) → P → ℕ → List M → Option M
nth_fitting meets party n ms = slice_get (fitting meets party ms) n

-- all but that one, in the order that they had
abbrev pub without_nth : {M P : Type 0} → (M → P → Bool) → P → ℕ → List M → List M
without_nth meets party n [] = []
without_nth meets party zero (m ∷ ms) = cond (meets m party) ms (m ∷ without_nth meets party zero ms)
without_nth meets party (suc n) (m ∷ ms) = m ∷ without_nth meets party (cond (meets m party) n (suc n)) ms
