-- Lists read by place: side by side, copies, joined, mapped, one place changed. And tables with one place changed.
use Rattle.std.proofs.Common.{◌≡◌, ℕ, zero, suc, ◌<◌, false, ◌≢◌, List, [], ◌∷◌, ◌++◌, map, length, set, replicate, is_some, Some, None, Option, sym, refl, ap, ◌∙◌, subst, ⊎_elim, arith}
use Rattle.std.proofs.lemmas.Bool.{cases_eq}
use Rattle.std.proofs.lemmas.Option.{none-some, same_Some, slice_get_within, slice_get_cases}
use Rattle.std.proofs.lemmas.Bool.Decides.{nat_tests}
use Rattle.std.specs.List.{slice_get, AllByRecursion}
use Rattle.banks.proofs.OneStore.{nth_set_same, nth_set_other}
use Rattle.protocol.specs.Ledger.{put_at}

pub is_none : {X : Type 0} (o : Option X) → is_some o ≡ false → o ≡ None
is_none None e = refl
is_none (Some x) e = cc

-- a list with no first is empty
pub first_none : {X : Type 0} (xs : List X) → slice_get xs 0 ≡ None → length xs ≡ 0
first_none [] e = refl
first_none (x ∷ xs) e = cc

-- something stands at each place below a list's length
pub nth_below : {X : Type 0} (xs : List X) (i : ℕ) → i < length xs → (x : X) × (slice_get xs i ≡ Some x)
nth_below xs i low = ⊎_elim (λ h. (h.0, h.2)) (λ h. absurd (omega (arith, h.0))) (slice_get_cases xs i).1

-- as long a list has something at each place that the other has
pub beside : {X Y : Type 0} (xs : List X) (ys : List Y) (i : ℕ) (x : X) → length xs ≡ length ys → slice_get xs i ≡ Some x → (y : Y) × (slice_get ys i ≡ Some y)
beside xs ys i x same e = nth_below ys i (omega (arith, slice_get_within xs i x e))

-- what stands among copies is one
pub copied : {X : Type 0} (n : ℕ) (a : X) (i : ℕ) (x : X) → slice_get (replicate n a) i ≡ Some x → x ≡ a
copied zero a i x e = absurd (none-some x e)
copied (suc n) a zero x e = cc
copied (suc n) a (suc i) x e = copied n a i x e

-- what holds at each place holds of all, and back
pub all_at : {X : Type 0} (P : X → Type 0) (xs : List X) → ((j : ℕ) (x : X) → slice_get xs j ≡ Some x → P x) → AllByRecursion P xs
all_at P [] each = tt
all_at P (x ∷ xs) each = (each 0 x refl, all_at P xs (λ j. each (suc j)))

pub at_place : {X : Type 0} (P : X → Type 0) (xs : List X) (j : ℕ) (x : X) → AllByRecursion P xs → slice_get xs j ≡ Some x → P x
at_place P [] j x all e = absurd (none-some x e)
at_place P (y ∷ xs) zero x all e = subst P (same_Some y x e) all.0
at_place P (y ∷ xs) (suc j) x all e = at_place P xs j x all.1 e

-- what holds of each of two lists holds of them joined
pub by_append : {X : Type 0} (P : X → Type 0) (xs ys : List X) → ((j : ℕ) (x : X) → slice_get xs j ≡ Some x → P x) → ((j : ℕ) (x : X) → slice_get ys j ≡ Some x → P x) → (j : ℕ) (x : X) → slice_get (xs ++ ys) j ≡ Some x → P x
by_append P [] ys front back j x e = back j x e
by_append P (z ∷ xs) ys front back zero x e = front 0 x e
by_append P (z ∷ xs) ys front back (suc j) x e = by_append P xs ys (λ i. front (suc i)) back j x e

-- what holds of each value of a function holds of each element of a list mapped by it
pub by_map : {X Y : Type 0} (P : Y → Type 0) (f : X → Y) (xs : List X) → ((x : X) → P (f x)) → (j : ℕ) (y : Y) → slice_get (map f xs) j ≡ Some y → P y
by_map P f [] each j y e = absurd (none-some y e)
by_map P f (x ∷ xs) each zero y e = subst P (same_Some (f x) y e) (each x)
by_map P f (x ∷ xs) each (suc j) y e = by_map P f xs each j y e

-- what holds of the changed place and of the others holds of every place
pub by_place : {X : Type 0} (P : ℕ → X → Type 0) (xs : List X) (i : ℕ) (old new : X) → slice_get xs i ≡ Some old → P i new → ((j : ℕ) (x : X) → j ≢ i → slice_get xs j ≡ Some x → P j x) → (j : ℕ) (x : X) → slice_get (set xs i new) j ≡ Some x → P j x
by_place P xs i old new there here others j x e = ⊎_elim same other (cases_eq j i)
  where
    same : j ≡ i → P j x
    same q =
        let value = same_Some new x (sym (nth_set_same xs i old new there) ∙ ap (slice_get (set xs i new)) (sym q) ∙ e) in
        rw q (rw (sym value) here)

    other : (j ≡ i → ⊥) → P j x
    other n = others j x n (sym (nth_set_other xs i j new n) ∙ e)

pub put_here : {X : Type 0} (table : ℕ → X) (i : ℕ) (x : X) → put_at table i x i ≡ x
put_here table i x = grind (arith, nat_tests)

pub put_there : {X : Type 0} (table : ℕ → X) (i j : ℕ) (x : X) → j ≢ i → put_at table i x j ≡ table j
put_there table i j x n = grind (arith, nat_tests)
