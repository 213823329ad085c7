-- Pools: what is left once a message is taken, and what was taken, stood there; what is put in stands there last.
use Rattle.std.proofs.Common.{◌≡◌, ℕ, zero, suc, Bool, true, false, cond, List, [], ◌∷◌, ◌++◌, Some, refl, arith}
use Rattle.std.proofs.lemmas.Bool.{cond_both}
use Rattle.std.specs.List.{slice_get}
use Rattle.pools.specs.Pools.{nth_fitting, without_nth, put_last, has_room}
use Rattle.pools.proofs.Laws.{taking_splits}
use Rattle.protocol.proofs.Tables.{by_append, at_place}

-- the message stands in the pool
pub record Found {M : Type 0} (m : M) (ms : List M) : Type 0 where
  pub place : ℕ
  pub there : slice_get ms place ≡ Some m

found_behind : {M : Type 0} (m x : M) (ms : List M) → Found m ms → Found m (x ∷ ms)
found_behind m x ms f = record { place = suc f.place; there = f.there }

found_between : {M : Type 0} (m : M) (front back : List M) → Found m (front ++ (m ∷ back))
found_between m [] back = record { place = 0; there = refl }
found_between m (x ∷ front) back = found_behind m x (front ++ (m ∷ back)) (found_between m front back)

found_after : {M : Type 0} (m x : M) (rest ms : List M) → ((i : ℕ) → slice_get rest i ≡ Some m → Found m ms) → (j : ℕ) → slice_get (x ∷ rest) j ≡ Some m → Found m (x ∷ ms)
found_after m x rest ms each zero e = record { place = 0; there = e }
found_after m x rest ms each (suc j) e = found_behind m x ms (each j e)

module _ {M P : Type 0} (meets : M → P → Bool) (party : P) where
  pub taken_found : (n : ℕ) (m : M) (ms : List M) → nth_fitting meets party n ms ≡ Some m → Found m ms
  taken_found n m ms taken =
      let s = taking_splits meets party ms n m taken in
      rw s.whole (found_between m s.front s.back)

  pub taken_fits : (n : ℕ) (m : M) (ms : List M) → nth_fitting meets party n ms ≡ Some m → meets m party ≡ true
  taken_fits n m ms taken = (taking_splits meets party ms n m taken).fits

  pub left_found : (n : ℕ) (m : M) (ms : List M) (j : ℕ) → slice_get (without_nth meets party n ms) j ≡ Some m → Found m ms
  left_found n m [] j e = grind arith
  left_found zero m (x ∷ ms) j e = go (meets x party) (left_found zero m ms) e
    where
      go : (b : Bool) → ((i : ℕ) → slice_get (without_nth meets party zero ms) i ≡ Some m → Found m ms) → slice_get (cond b ms (x ∷ without_nth meets party zero ms)) j ≡ Some m → Found m (x ∷ ms)
      go true each f = record { place = suc j; there = f }
      go false each f = found_after m x (without_nth meets party zero ms) ms each j f
  left_found (suc n) m (x ∷ ms) j e = found_after m x (without_nth meets party (cond (meets x party) n (suc n)) ms) ms (left_found (cond (meets x party) n (suc n)) m ms) j e

-- what holds of the message put last and of the others holds of every one
pub by_last : {X : Type 0} (P : X → Type 0) (size : ℕ) (m : X) (xs : List X) → P m → ((j : ℕ) (x : X) → slice_get xs j ≡ Some x → P x) → (j : ℕ) (x : X) → slice_get (put_last size m xs) j ≡ Some x → P x
by_last P size m xs here others =
    cond_both (has_room size xs) _ _ (λ ys. (j : ℕ) (x : _) → slice_get ys j ≡ Some x → P x) (λ _. by_append P xs (m ∷ []) others (λ j x. at_place P (m ∷ []) j x (here, tt))) (λ _. others)
