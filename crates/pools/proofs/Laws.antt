-- Laws of putting and taking, over the list of waiting messages alone.
use Rattle.std.proofs.Common.{◌≡◌, ℕ, zero, suc, ◌+◌, ◌≤◌, Bool, true, false, cond, List, [], ◌∷◌, ◌++◌, length, is_some, Some, None, Option, sym, refl, ap, ◌∙◌, arith, length-append}
use Rattle.std.proofs.lemmas.List.{length_push}
use Rattle.std.proofs.lemmas.List.Sums.{length-filter, count_by-le-length}
use Rattle.std.proofs.lemmas.Bool.{true≢false, false≢true, lt-ltb}
use Rattle.std.proofs.lemmas.Bool.Decides.{nat_tests}
use Rattle.std.specs.List.{slice_get}
use Rattle.pools.specs.Laws.{Splits, Takes, PoolLaws}
use Rattle.pools.proofs.Held.{held_le}
use Rattle.pools.specs.Pools.{has_room, put_last, fitting, nth_fitting, without_nth}

-- putting adds one, if there is room
pub length_put_last : {M : Type 0} (size : ℕ) (m : M) (ms : List M) → length (put_last size m ms) ≡ length ms + cond (has_room size ms) 1 0
length_put_last size m ms = let more = length_push ms m in grind (arith, nat_tests)

nth_none : {M : Type 0} (ms : List M) (n : ℕ) → slice_get ms n ≡ None → length ms ≤ n
nth_none [] n none = omega arith
nth_none (m ∷ ms) zero none = absurd (true≢false (ap is_some none))
nth_none (m ∷ ms) (suc n) none = omega (arith, nth_none ms n none)

module _ {M P : Type 0} (meets : M → P → Bool) (party : P) where
  -- no more fit than wait
  pub fitting_le : (ms : List M) → length (fitting meets party ms) ≤ length ms
  fitting_le ms = omega (arith, length-filter (λ m. meets m party) ms, count_by-le-length (λ m. meets m party) ms)

  -- the n-th oldest that fits is the one that fits and has n before it that fit
  pub nth_at : (front back : List M) (m : M) (n : ℕ) → meets m party ≡ true → length (fitting meets party front) ≡ n → nth_fitting meets party n (front ++ (m ∷ back)) ≡ Some m
  nth_at [] back m n fits older = grind (arith, nat_tests)
  nth_at (f ∷ front) back m zero fits older = let ih = nth_at front back m zero fits in grind (arith, nat_tests)
  nth_at (f ∷ front) back m (suc n) fits older =
      let fit = nth_at front back m n fits in
      let other = nth_at front back m (suc n) fits in
      grind (arith, nat_tests)

  pub without_at : (front back : List M) (m : M) (n : ℕ) → meets m party ≡ true → length (fitting meets party front) ≡ n → without_nth meets party n (front ++ (m ∷ back)) ≡ front ++ back
  without_at [] back m n fits older = grind (arith, nat_tests)
  without_at (f ∷ front) back m zero fits older = let ih = without_at front back m zero fits in grind (arith, nat_tests)
  without_at (f ∷ front) back m (suc n) fits older =
      let fit = without_at front back m n fits in
      let other = without_at front back m (suc n) fits in
      grind (arith, nat_tests)

  -- where there is none to take, all stay
  pub without_none : (ms : List M) (n : ℕ) → nth_fitting meets party n ms ≡ None → without_nth meets party n ms ≡ ms
  without_none [] n none = refl
  without_none (m ∷ ms) zero none = let ih = without_none ms zero in grind (arith, nat_tests)
  without_none (m ∷ ms) (suc n) none =
      let fit = without_none ms n in
      let other = without_none ms (suc n) in
      grind (arith, nat_tests)

  -- one more before all others
  behind : (x : M) (n k : ℕ) (ms : List M) (m : M) (rest more : List M) → k ≡ n + cond (meets x party) 1 0 → more ≡ x ∷ rest → Splits meets party n ms m rest → Splits meets party k (x ∷ ms) m more
  behind x n k ms m rest more count kept s = record {
    front = x ∷ s.front;
    back = s.back;
    whole = ap (λ l. x ∷ l) s.whole;
    others = kept ∙ ap (λ l. x ∷ l) s.others;
    fits = s.fits;
    older = let e = s.older in grind (arith, nat_tests);
  }

  step : (x : M) (ms : List M) (n : ℕ) (m : M) (b : Bool) → meets x party ≡ b → nth_fitting meets party n (x ∷ ms) ≡ Some m → ((k : ℕ) → nth_fitting meets party k ms ≡ Some m → Splits meets party k ms m (without_nth meets party k ms)) → Splits meets party n (x ∷ ms) m (without_nth meets party n (x ∷ ms))
  step x ms zero m true fit taken later =
      let same : x ≡ m = grind (arith, nat_tests) in
      record { front = []; back = ms; whole = cc; others = grind (arith, nat_tests); fits = cc; older = refl }
  step x ms (suc n) m true fit taken later =
      behind x n (suc n) ms m (without_nth meets party n ms) _ (grind (arith, nat_tests)) (grind (arith, nat_tests)) (later n (grind (arith, nat_tests)))
  step x ms zero m false fit taken later =
      behind x zero zero ms m (without_nth meets party zero ms) _ (grind (arith, nat_tests)) (grind (arith, nat_tests)) (later zero (grind (arith, nat_tests)))
  step x ms (suc n) m false fit taken later =
      behind x (suc n) (suc n) ms m (without_nth meets party (suc n) ms) _ (grind (arith, nat_tests)) (grind (arith, nat_tests)) (later (suc n) (grind (arith, nat_tests)))

  -- what is taken stood between those that stay
  pub taking_splits : (ms : List M) (n : ℕ) (m : M) → nth_fitting meets party n ms ≡ Some m → Splits meets party n ms m (without_nth meets party n ms)
  taking_splits [] n m taken = absurd (true≢false (ap is_some (sym taken)))
  taking_splits (x ∷ ms) n m taken = step x ms n m (meets x party) refl taken (λ k. taking_splits ms k m)

  -- taking removes one
  pub length_without : (ms : List M) (n : ℕ) (m : M) → nth_fitting meets party n ms ≡ Some m → length (without_nth meets party n ms) + 1 ≡ length ms
  length_without ms n m taken =
      let s = taking_splits ms n m taken in
      omega (arith, simp length-append at (ap length s.whole), simp length-append at (ap length s.others))

  takes : (n : ℕ) (ms : List M) (r : Option M) → nth_fitting meets party n ms ≡ r → Takes meets party n ms r (without_nth meets party n ms)
  takes n ms None none = (nth_none (fitting meets party ms) n none, without_none ms n none)
  takes n ms (Some m) taken = taking_splits ms n m taken

  frees : (n size : ℕ) (ms : List M) (r : Option M) → nth_fitting meets party n ms ≡ r → length ms ≤ size → is_some r ≡ true → has_room size (without_nth meets party n ms) ≡ true
  frees n size ms None none within some = absurd (false≢true some)
  frees n size ms (Some m) taken within some = lt-ltb _ size (omega (arith, within, length_without ms n m taken))

pub pool_laws : {M P : Type 0} (meets : M → P → Bool) → PoolLaws meets
pool_laws meets = record {
  splits = λ party n ms. takes meets party n ms _ refl;
  one_less = λ party n ms m. length_without meets party ms n m;
  one_more = length_put_last;
  freed = λ party n size ms. frees meets party n size ms _ refl;
  fewer = λ party. fitting_le meets party;
  bounded = held_le;
}
