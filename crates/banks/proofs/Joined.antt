-- A step of two banks joined is the step of the bank to which the number leads.
use Rattle.std.proofs.Common.{◌≡◌, ℕ, zero, suc, ◌-◌, ◌<◌, ◌≤◌, List, [], ◌∷◌, ◌++◌, length, take, Some, None, Option, slice_set, sym, refl, ap, ◌∙◌, arith}
use Rattle.std.proofs.Math.Seq.{take-set-lt}
use Rattle.std.proofs.lemmas.List.{set-append_left, set-append_right}
use Rattle.std.proofs.lemmas.Bool.Decides.{nat_tests}
use Rattle.std.specs.List.{slice_get}
use Rattle.stores.specs.Store.{StoreModel, Step}
use Rattle.banks.specs.Bank.{BankModel, at_store, joined_stores}
use Rattle.banks.specs.Joined.{at_some, at_none}

-- a step on a bank is the step on a wider one that holds its store number k as its number n
pub step_within : {Answer : Type 0} (function : StoreModel → Step Answer) (k n : ℕ) (stores : BankModel) (widen : BankModel → BankModel) → slice_get (widen stores) n ≡ slice_get stores k → ((m : StoreModel) → slice_set (widen stores) n m ≡ widen (slice_set stores k m)) → at_store n function (widen stores) ≡ record { answer = (at_store k function stores).answer; next = widen (at_store k function stores).next }
step_within {Answer} function k n stores widen read written = go (slice_get stores k) refl
  where
    go : (o : Option StoreModel) → slice_get stores k ≡ o → at_store n function (widen stores) ≡ record { answer = (at_store k function stores).answer; next = widen (at_store k function stores).next }
    go None e = rw (at_none k function stores e) (at_none n function (widen stores) (read ∙ e))
    go (Some m) e = rw (at_some k function stores m e, ← written (function m).next) (at_some n function (widen stores) m (read ∙ e))

nth_take : {X : Type 0} (n i : ℕ) (xs : List X) → i < n → slice_get (take n xs) i ≡ slice_get xs i
nth_take zero i xs h = absurd (omega arith)
nth_take (suc n) i [] h = refl
nth_take (suc n) zero (x ∷ xs) h = refl
nth_take (suc n) (suc i) (x ∷ xs) h = nth_take n i xs (omega arith)

nth_append_left : {X : Type 0} (xs ys : List X) (i : ℕ) → i < length xs → slice_get (xs ++ ys) i ≡ slice_get xs i
nth_append_left [] ys i h = absurd (omega arith)
nth_append_left (x ∷ xs) ys zero h = refl
nth_append_left (x ∷ xs) ys (suc i) h = nth_append_left xs ys i (omega arith)

nth_append_right : {X : Type 0} (xs ys : List X) (i : ℕ) → length xs ≤ i → slice_get (xs ++ ys) i ≡ slice_get ys (i - length xs)
nth_append_right [] ys i h = ap (slice_get ys) (omega arith)
nth_append_right (x ∷ xs) ys zero h = absurd (omega arith)
nth_append_right (x ∷ xs) ys (suc i) h = nth_append_right xs ys i (omega arith) ∙ ap (slice_get ys) (omega arith)

module _ {Answer : Type 0} (function : StoreModel → Step Answer) (left right : BankModel) (n : ℕ) (few : n < 8) where
  module _ (within : n < length left) where
    on_left : at_store n function (joined_stores left right) ≡ record { answer = (at_store n function left).answer; next = joined_stores (at_store n function left).next right }
    on_left =
        step_within function n n left (λ ms. joined_stores ms right)
        (nth_take 8 n (left ++ right) few ∙ nth_append_left left right n within)
        (λ m. sym (take-set-lt 8 (left ++ right) n m few) ∙ ap (take 8) (set-append_left left right n m within))

    pub left_answer : (at_store n function (joined_stores left right)).answer ≡ (at_store n function left).answer
    left_answer = ap (λ r. r.answer) on_left

    pub left_next : (at_store n function (joined_stores left right)).next ≡ joined_stores (at_store n function left).next right
    left_next = ap (λ r. r.next) on_left

  module _ (past : length left ≤ n) where
    on_right : at_store n function (joined_stores left right) ≡ record { answer = (at_store (n - length left) function right).answer; next = joined_stores left (at_store (n - length left) function right).next }
    on_right =
        step_within function (n - length left) n right (λ ms. joined_stores left ms)
        (nth_take 8 n (left ++ right) few ∙ nth_append_right left right n past)
        (λ m. sym (take-set-lt 8 (left ++ right) n m few) ∙ ap (take 8) (set-append_right left right (length left) n m refl past))

    pub right_answer : (at_store n function (joined_stores left right)).answer ≡ (at_store (n - length left) function right).answer
    right_answer = ap (λ r. r.answer) on_right

    pub right_next : (at_store n function (joined_stores left right)).next ≡ joined_stores left (at_store (n - length left) function right).next
    right_next = ap (λ r. r.next) on_right

-- what a number comes to, by the bank to which it leads
pub ruleset joined = (nat_tests, left_answer, left_next, right_answer, right_next)
