-- A store function on the stores in turn: what each turn adds.
use Rattle.std.proofs.Common.{◌≡◌, ℕ, zero, suc, ◌+◌, ◌<◌, ◌≤◌, true, false, [], ◌∷◌, length, take, drop, set, is_err, Some, None, Ok, Err, Option, sym, refl, ap, ◌∙◌, ap₂, add-one, add-zero, zero-add, arith}
use Rattle.std.proofs.lemmas.List.{take_all}
use Rattle.std.specs.List.{slice_get}
use Rattle.stores.specs.Pairs.{Pairs}
use Rattle.stores.specs.Store.{StoreModel, Trial, Step, begin_step, roll_back_step}
use Rattle.banks.specs.Bank.{BankModel, at_store, from_store}
use Rattle.banks.specs.Sweeps.{each_store, first_stores, open_from, begun_answer, begun_stores}
use Rattle.banks.proofs.Joined.{step_within}

module _ {Answer : Type 0} (function : StoreModel → Step Answer) where
  at_cons : (n : ℕ) (m : StoreModel) (ms : BankModel) → at_store (suc n) function (m ∷ ms) ≡ record { answer = (at_store n function ms).answer; next = m ∷ (at_store n function ms).next }
  at_cons n m ms = step_within function n (suc n) ms (λ xs. m ∷ xs) refl (λ x. refl)

  turn : (n : ℕ) (ms : BankModel) → (at_store n function (first_stores function n ms)).next ≡ first_stores function (suc n) ms
  turn zero [] = refl
  turn zero (m ∷ ms) = refl
  turn (suc n) [] = refl
  turn (suc n) (m ∷ ms) = rw at_cons (ap (λ xs. (function m).next ∷ xs) (turn n ms))

  pub turn_more : (n : ℕ) (ms : BankModel) → (at_store n function (first_stores function n ms)).next ≡ first_stores function (n + 1) ms
  turn_more n ms = rw add-one (turn n ms)

  pub turn_all : (n : ℕ) (ms : BankModel) → length ms ≤ n → first_stores function n ms ≡ each_store function ms
  turn_all zero [] h = refl
  turn_all zero (m ∷ ms) h = absurd (omega arith)
  turn_all (suc n) [] h = refl
  turn_all (suc n) (m ∷ ms) h = ap (λ xs. (function m).next ∷ xs) (turn_all n ms (omega arith))

-- trials begun in the first i stores, none of which had one open
pub record Begun (i : ℕ) (ms current : BankModel) : Type 0 where
  pub begun : current ≡ first_stores begin_step i ms
  pub none_open : open_from 0 (take i ms) ≡ None

pub begun_none : (ms : BankModel) → Begun 0 ms ms
begun_none ms = record { begun = refl; none_open = refl }

-- a store's begin, by its trial: the way back, and what its answer tells of a list that it heads
module _ (capacity : ℕ) (committed : Pairs) where
  abbrev store : Option Trial → StoreModel
  store o = record { capacity = capacity; committed = committed; trial = o }

  begun_back : (o : Option Trial) → o ≡ None → (roll_back_step (begin_step (store o)).next).next ≡ store o
  begun_back None e = refl
  begun_back (Some t) e = grind arith

  head_refused : (o : Option Trial) (k : ℕ) (ms : BankModel) → is_err (from_store (begin_step (store o)).answer) ≡ true → (open_from k (store o ∷ ms) ≡ Some k) × ((begin_step (store o)).next ≡ store o)
  head_refused None k ms e = grind arith
  head_refused (Some t) k ms e = (refl, refl)

  head_accepted : (o : Option Trial) (k : ℕ) → is_err (from_store (begin_step (store o)).answer) ≡ false → open_from k (store o ∷ []) ≡ None
  head_accepted None k e = refl
  head_accepted (Some t) k e = grind arith

  closed_first : (o : Option Trial) (k : ℕ) (ms : BankModel) → open_from k (store o ∷ ms) ≡ None → (o ≡ None) × (open_from (suc k) ms ≡ None)
  closed_first None k ms e = (refl, e)
  closed_first (Some t) k ms e = grind arith

  past_closed : (o : Option Trial) (k : ℕ) (ms : BankModel) → o ≡ None → open_from k (store o ∷ ms) ≡ open_from (suc k) ms
  past_closed None k ms e = refl
  past_closed (Some t) k ms e = grind arith

-- none of the first stores has a trial open: begun and rolled back, they are as they were
back : (k i : ℕ) (ms : BankModel) → open_from k (take i ms) ≡ None → first_stores roll_back_step i (first_stores begin_step i ms) ≡ ms
back k zero ms e = refl
back k (suc i) [] e = refl
back k (suc i) (m ∷ ms) e =
    let closed = closed_first m.capacity m.committed m.trial k (take i ms) e in
    ap₂ (λ x xs. x ∷ xs) (begun_back m.capacity m.committed m.trial closed.0) (back (suc k) i ms closed.1)

-- so the lowest store with a trial open is looked for behind them
behind : (k i : ℕ) (ms : BankModel) → open_from k (take i ms) ≡ None → open_from k ms ≡ open_from (k + i) (drop i ms)
behind k zero ms e = rw add-zero refl
behind k (suc i) [] e = refl
behind k (suc i) (m ∷ ms) e =
    let closed = closed_first m.capacity m.committed m.trial k (take i ms) e in
    let counted : suc k + i ≡ k + suc i = omega arith in
    past_closed m.capacity m.committed m.trial k ms closed.0 ∙ behind (suc k) i ms closed.1 ∙ ap (λ n. open_from n (drop i ms)) counted

refused : (k i : ℕ) (ms : BankModel) → i < length ms → open_from k (take i ms) ≡ None → is_err (at_store i begin_step (first_stores begin_step i ms)).answer ≡ true → (open_from k ms ≡ Some (k + i)) × ((at_store i begin_step (first_stores begin_step i ms)).next ≡ first_stores begin_step i ms)
refused k i [] within none e = absurd (omega arith)
refused k zero (m ∷ ms) within none e =
    let head = head_refused m.capacity m.committed m.trial k ms e in (rw add-zero head.0, ap (λ x. x ∷ ms) head.1)
refused k (suc i) (m ∷ ms) within none e =
    let closed = closed_first m.capacity m.committed m.trial k (take i ms) none in
    let rest = refused (suc k) i ms (omega arith) closed.1 (rw at_cons at e) in
    (past_closed m.capacity m.committed m.trial k ms closed.0 ∙ rest.0 ∙ ap Some (omega arith), rw at_cons (ap (λ xs. (begin_step m).next ∷ xs) rest.1))

accepted : (k i : ℕ) (ms : BankModel) → open_from k (take i ms) ≡ None → is_err (at_store i begin_step (first_stores begin_step i ms)).answer ≡ false → open_from k (take (suc i) ms) ≡ None
accepted k i [] none e = refl
accepted k zero (m ∷ ms) none e = head_accepted m.capacity m.committed m.trial k e
accepted k (suc i) (m ∷ ms) none e =
    let closed = closed_first m.capacity m.committed m.trial k (take i ms) none in
    past_closed m.capacity m.committed m.trial k (take (suc i) ms) closed.0 ∙ accepted (suc k) i ms closed.1 (rw at_cons at e)

pub set_nth : (i : ℕ) (ms : BankModel) (m : StoreModel) → slice_get ms i ≡ Some m → set ms i m ≡ ms
set_nth i [] m e = refl
set_nth zero (x ∷ ms) m e = cc
set_nth (suc i) (x ∷ ms) m e = ap (λ xs. x ∷ xs) (set_nth i ms m e)

pub within_none : (i : ℕ) (ms : BankModel) → i < length ms → slice_get ms i ≡ None → ⊥
within_none i [] h e = omega arith
within_none zero (m ∷ ms) h e = grind arith
within_none (suc i) (m ∷ ms) h e = within_none i ms (omega arith) e

pub told_open : (ms : BankModel) (i : ℕ) → open_from 0 ms ≡ Some i → (begun_answer ms ≡ Err (record { service = i })) × (begun_stores ms ≡ ms)
told_open ms i e = (rw (e, begun_answer) refl, rw (e, begun_stores) refl)

module _ (i : ℕ) (ms current : BankModel) (so_far : Begun i ms current) where
  -- what was begun leads back, and an open trial is looked for behind it
  pub taken_back : first_stores roll_back_step i (first_stores begin_step i ms) ≡ ms
  taken_back = back 0 i ms so_far.none_open

  pub open_behind : open_from 0 ms ≡ open_from i (drop i ms)
  open_behind = behind 0 i ms so_far.none_open ∙ ap (λ k. open_from k (drop i ms)) (zero-add i)

  -- the store of this turn has a trial open
  pub refused_here : i < length ms → is_err (at_store i begin_step current).answer ≡ true → (open_from 0 ms ≡ Some i) × ((at_store i begin_step current).next ≡ current)
  refused_here within e =
      let here = refused 0 i ms within so_far.none_open (rw so_far.begun at e) in (rw zero-add at here.0, rw so_far.begun here.1)

  -- so the bank that the first ones are rolled back in is the one at entry
  pub begun_refused : (next : BankModel) → i < length ms → next ≡ (at_store i begin_step current).next → is_err (at_store i begin_step current).answer ≡ true → (begun_answer ms ≡ Err (record { service = i })) × (first_stores roll_back_step i next ≡ begun_stores ms)
  begun_refused next within step e =
      let here = refused_here within e in
      let told = told_open ms i here.0 in
      (told.0, ap (first_stores roll_back_step i) (step ∙ here.1 ∙ so_far.begun) ∙ taken_back ∙ sym told.1)

  pub begun_more : (next : BankModel) → next ≡ (at_store i begin_step current).next → is_err (at_store i begin_step current).answer ≡ false → Begun (i + 1) ms next
  begun_more next step e = record {
    begun = step ∙ rw so_far.begun (turn_more begin_step i ms);
    none_open = rw add-one (accepted 0 i ms so_far.none_open (rw so_far.begun at e));
  }

pub told_none : (i : ℕ) (ms current : BankModel) → Begun i ms current → length ms ≤ i → (begun_answer ms ≡ Ok tt) × (begun_stores ms ≡ current)
told_none i ms current so_far past =
    let none : open_from 0 ms ≡ None = rw (take_all i ms past) at so_far.none_open in
    (rw (none, begun_answer) refl, rw (none, begun_stores) (sym (so_far.begun ∙ turn_all begin_step i ms past)))

closed_back : (k : ℕ) (ms : BankModel) → open_from k ms ≡ None → each_store roll_back_step (each_store begin_step ms) ≡ ms
closed_back k [] e = refl
closed_back k (m ∷ ms) e =
    let closed = closed_first m.capacity m.committed m.trial k ms e in
    let head = begun_back m.capacity m.committed m.trial closed.0 in
    let tail = closed_back (suc k) ms closed.1 in
    ap₂ (λ x xs. x ∷ xs) head tail

-- trials begun in all stores and rolled back in all: the bank is as it was
pub all_back : (ms : BankModel) → begun_answer ms ≡ Ok tt → each_store roll_back_step (begun_stores ms) ≡ ms
all_back ms e = go (open_from 0 ms) refl
  where
    go : (o : Option ℕ) → open_from 0 ms ≡ o → each_store roll_back_step (begun_stores ms) ≡ ms
    go None none = ap (each_store roll_back_step) (rw (none, begun_stores) refl) ∙ closed_back 0 ms none
    go (Some i) some = let told = told_open ms i some in grind arith

-- a function that another one undoes makes no difference to it
pub each_after : {Answer Other : Type 0} (service : ℕ) (function : StoreModel → Step Answer) (other : StoreModel → Step Other) (ms : BankModel) → ((m : StoreModel) → (other (function m).next).next ≡ (other m).next) → each_store other (at_store service function ms).next ≡ each_store other ms
each_after service function other [] same = refl
each_after zero function other (m ∷ ms) same = ap (λ x. x ∷ each_store other ms) (same m)
each_after (suc service) function other (m ∷ ms) same =
    rw at_cons (ap (λ xs. (other m).next ∷ xs) (each_after service function other ms same))
