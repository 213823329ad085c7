-- How many of a pool's messages fit a party, after one is put in and after one is taken out.
use Rattle.std.proofs.Common.{◌≡◌, ℕ, zero, suc, ◌+◌, ◌<◌, ◌≤◌, Bool, true, cond, List, [], ◌∷◌, ◌++◌, length, Some, refl, ap, ◌∙◌, arith, length-append, filter, get_or}
use Rattle.std.proofs.lemmas.List.Elements.{filter-append}
use Rattle.std.proofs.lemmas.List.Sums.{sum_by-cons, sum_by-le}
use Rattle.std.proofs.lemmas.Bool.Decides.{nat_tests}
use Rattle.std.proofs.lemmas.Option.{none-some, same_Some}
use Rattle.std.specs.List.{slice_get, sum_by}
use Rattle.pools.specs.Pools.{put_last, fitting, nth_fitting, without_nth}
use Rattle.pools.proofs.Laws.{taking_splits}

-- how many of these parties a message fits
abbrev pub met_by : {M P : Type 0} → (M → P → Bool) → M → List P → ℕ
met_by meets m ks = length (filter (meets m) ks)

module _ {M P : Type 0} (meets : M → P → Bool) where
  pub count_append : (k : P) (front back : List M) → length (fitting meets k (front ++ back)) ≡ length (fitting meets k front) + length (fitting meets k back)
  count_append k front back = ap length (filter-append (λ m. meets m k) front back) ∙ length-append _ _

  pub count_one : (k : P) (m : M) (ms : List M) → length (fitting meets k (m ∷ ms)) ≡ length (fitting meets k ms) + cond (meets m k) 1 0
  count_one k m ms = grind (arith, nat_tests)

  pub count_put : (k : P) (size : ℕ) (m : M) (ms : List M) → length ms < size → length (fitting meets k (put_last size m ms)) ≡ length (fitting meets k ms) + cond (meets m k) 1 0
  count_put k size m ms room =
      let more = count_append k ms (m ∷ []) in
      grind (arith, nat_tests)

  pub count_put_le : (k : P) (size : ℕ) (m : M) (ms : List M) → length (fitting meets k (put_last size m ms)) ≤ length (fitting meets k ms) + cond (meets m k) 1 0
  count_put_le k size m ms =
      let more = count_append k ms (m ∷ []) in
      grind (arith, nat_tests)

  pub count_taken : (k party : P) (n : ℕ) (m : M) (ms : List M) → nth_fitting meets party n ms ≡ Some m → length (fitting meets k (without_nth meets party n ms)) + cond (meets m k) 1 0 ≡ length (fitting meets k ms)
  count_taken k party n m ms taken =
      let s = taking_splits meets party ms n m taken in
      let whole = ap (λ l. length (fitting meets k l)) s.whole ∙ count_append k s.front (m ∷ s.back) in
      let others = ap (λ l. length (fitting meets k l)) s.others ∙ count_append k s.front s.back in
      let one = count_one k m s.back in
      omega arith

  -- taking adds none, and where one alone fits it leaves none that fits
  pub count_without : (k party : P) (ms : List M) → length (fitting meets k (without_nth meets party 0 ms)) ≤ length (fitting meets k ms)
  count_without k party [] = omega arith
  count_without k party (m ∷ ms) = let ih = count_without k party ms in grind (arith, nat_tests)

  pub without_one : (party : P) (ms : List M) → length (fitting meets party ms) ≤ 1 → length (fitting meets party (without_nth meets party 0 ms)) ≡ 0
  without_one party [] h = refl
  without_one party (m ∷ ms) h = let ih = without_one party ms in grind (arith, nat_tests)

  -- how many meetings there are between these parties and the messages
  abbrev meetings : List P → List M → ℕ
  meetings ks ms = sum_by (λ k. length (fitting meets k ms)) ks

  meetings_more : (ks : List P) (m : M) (ms : List M) → meetings ks (m ∷ ms) ≡ meetings ks ms + met_by meets m ks
  meetings_more [] m ms = refl
  meetings_more (k ∷ ks) m ms =
      let more = sum_by-cons (λ x. length (fitting meets x (m ∷ ms))) k ks in
      let was = sum_by-cons (λ x. length (fitting meets x ms)) k ks in
      let ih = meetings_more ks m ms in
      grind (arith, nat_tests)

  meetings_le : (ks : List P) (ms : List M) → ((k : P) → length (fitting meets k ms) ≤ 1) → meetings ks ms ≤ length ks
  meetings_le ks ms single = omega (arith, sum_by-le (λ k. length (fitting meets k ms)) 1 ks (λ i d _. single (get_or ks i d)))

  length_le_meetings : (ks : List P) (ms : List M) → ((i : ℕ) (m : M) → slice_get ms i ≡ Some m → 1 ≤ met_by meets m ks) → length ms ≤ meetings ks ms
  length_le_meetings ks [] met = omega arith
  length_le_meetings ks (m ∷ ms) met = omega (arith, length_le_meetings ks ms (λ i. met (suc i)), meetings_more ks m ms, met 0 m refl)

  -- where each message meets one of these parties, and each party one message at most, there are no more messages than parties
  pub no_more_than : (ks : List P) (ms : List M) → ((i : ℕ) (m : M) → slice_get ms i ≡ Some m → 1 ≤ met_by meets m ks) → ((k : P) → length (fitting meets k ms) ≤ 1) → length ms ≤ length ks
  no_more_than ks ms met single = omega (arith, length_le_meetings ks ms met, meetings_le ks ms single)

  -- a message of the pool that fits is counted
  pub counted : (k : P) (i : ℕ) (m : M) (ms : List M) → slice_get ms i ≡ Some m → meets m k ≡ true → 1 ≤ length (fitting meets k ms)
  counted k i m [] e fits = absurd (none-some m e)
  counted k zero m (x ∷ ms) e fits = rw (same_Some x m e, fits) (omega arith)
  counted k (suc i) m (x ∷ ms) e fits = let ih = counted k i m ms e fits in grind (arith, nat_tests)
