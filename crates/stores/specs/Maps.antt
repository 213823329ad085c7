-- The laws of find, insert and erase.
use Rattle.std.specs.Prelude.{◌≡◌, ℕ, suc, ◌<◌, ◌≤◌, true, cond, ◌≢◌, [], ◌∷◌, length, is_some, Some, None, ◌==◌, nat_lt, refl}
use Rattle.std.proofs.Common.{ap₂, arith}
use Rattle.std.proofs.lemmas.Bool.{cond_both, ltb-true, eqb-true}
use Rattle.std.proofs.lemmas.Bool.Decides.{nat_tests}
use Rattle.stores.specs.declared.types.Pair.{Pair}
use Rattle.stores.specs.Pairs.{Pairs, pair, find, insert, erase, Above, Ascending}

pub find_insert : (j k v : ℕ) (m : Pairs) → find j (insert k v m) ≡ cond (j == k) (Some v) (find j m)
find_insert j k v [] = refl
find_insert j k v (p ∷ ps) = let ih = find_insert j k v ps in grind (arith, nat_tests)

pub insert_same : (k v w : ℕ) (m : Pairs) → insert k v (insert k w m) ≡ insert k v m
insert_same k v w [] = grind (arith, nat_tests)
insert_same k v w (p ∷ ps) = let ih = insert_same k v w ps in grind (arith, nat_tests)

pub insert_comm : (k v j w : ℕ) (m : Pairs) → k ≢ j → insert k v (insert j w m) ≡ insert j w (insert k v m)
insert_comm k v j w [] n = grind (arith, nat_tests)
insert_comm k v j w (p ∷ ps) n = let ih = insert_comm k v j w ps n in grind (arith, nat_tests)

pub above_weaken : (a b : ℕ) (m : Pairs) → a < b → Above b m → Above a m
above_weaken a b [] l h = tt
above_weaken a b (p ∷ ps) l h = (omega arith, above_weaken a b ps l h.1)

pub above_find : (k : ℕ) (m : Pairs) → Above k m → find k m ≡ None
above_find k [] h = refl
above_find k (p ∷ ps) h = let ih = above_find k ps h.1 in grind (arith, nat_tests)

pub above_erase : (k : ℕ) (m : Pairs) → Above k m → erase k m ≡ m
above_erase k [] h = refl
above_erase k (p ∷ ps) h = let ih = above_erase k ps h.1 in grind (arith, nat_tests)

-- a new pair taken out again
pub erase_insert : (k v : ℕ) (m : Pairs) → Ascending m → find k m ≡ None → erase k (insert k v m) ≡ m
erase_insert k v [] a n = grind (arith, nat_tests)
erase_insert k v (p ∷ ps) a n =
    let ih = erase_insert k v ps a.1 in grind (arith, nat_tests)

pub insert_front : (k v : ℕ) (m : Pairs) → Above k m → insert k v m ≡ pair k v ∷ m
insert_front k v [] h = refl
insert_front k v (p ∷ ps) h = grind (arith, nat_tests)

pub erase_insert_other : (k v j : ℕ) (m : Pairs) → Ascending m → k ≢ j → erase j (insert k v m) ≡ insert k v (erase j m)
erase_insert_other k v j [] a n = grind (arith, nat_tests)
erase_insert_other k v j (p ∷ ps) a n =
    let ih = erase_insert_other k v j ps a.1 n in
    let front : k < p.key → insert k v ps ≡ pair k v ∷ ps = λ l. insert_front k v ps (above_weaken k p.key ps l a.0) in
    grind (arith, nat_tests)

pub length_insert_new : (k v : ℕ) (m : Pairs) → find k m ≡ None → length (insert k v m) ≡ suc (length m)
length_insert_new k v [] n = refl
length_insert_new k v (p ∷ ps) n = let ih = length_insert_new k v ps in grind (arith, nat_tests)

above_past : (k : ℕ) (p : Pair) (ps : Pairs) → k < p.key → Above p.key ps → find k (p ∷ ps) ≡ None
above_past k p ps l h = let rest = above_find k ps (above_weaken k p.key ps l h) in grind (arith, nat_tests)

pub length_insert_old : (k v : ℕ) (m : Pairs) → Ascending m → is_some (find k m) ≡ true → length (insert k v m) ≡ length m
length_insert_old k v [] a e = grind arith
length_insert_old k v (p ∷ ps) a e =
    let ih = length_insert_old k v ps a.1 in
    let before : k < p.key → find k (p ∷ ps) ≡ None = λ l. above_past k p ps l a.0 in
    grind (arith, nat_tests)

pub length_insert : (k v : ℕ) (m : Pairs) → length (insert k v m) ≤ suc (length m)
length_insert k v [] = omega arith
length_insert k v (p ∷ ps) = let ih = length_insert k v ps in grind (arith, nat_tests)

pub length_erase : (k : ℕ) (m : Pairs) → length (erase k m) ≤ length m
length_erase k [] = omega arith
length_erase k (p ∷ ps) = let ih = length_erase k ps in grind (arith, nat_tests)

pub find_erase_other : (j k : ℕ) (m : Pairs) → j ≢ k → find j (erase k m) ≡ find j m
find_erase_other j k [] n = refl
find_erase_other j k (p ∷ ps) n = let ih = find_erase_other j k ps n in grind (arith, nat_tests)

pub find_erase : (k : ℕ) (m : Pairs) → Ascending m → find k (erase k m) ≡ None
find_erase k [] a = refl
find_erase k (p ∷ ps) a =
    let ih = find_erase k ps a.1 in
    let gone : k ≡ p.key → find k ps ≡ None = λ e. above_find k ps (rw e a.0) in
    grind (arith, nat_tests)

above_erase_below : (b k : ℕ) (m : Pairs) → Above b m → Above b (erase k m)
above_erase_below b k [] h = tt
above_erase_below b k (p ∷ ps) h = cond_both (k == p.key) _ _ (Above b) (λ _. h.1) (λ _. (h.0, above_erase_below b k ps h.1))

pub ascending_erase : (k : ℕ) (m : Pairs) → Ascending m → Ascending (erase k m)
ascending_erase k [] a = tt
ascending_erase k (p ∷ ps) a = cond_both (k == p.key) _ _ Ascending (λ _. a.1) (λ _. (above_erase_below p.key k ps a.0, ascending_erase k ps a.1))

pub above_insert : (b k v : ℕ) (m : Pairs) → b < k → Above b m → Above b (insert k v m)
above_insert b k v [] l h = (l, tt)
above_insert b k v (p ∷ ps) l h =
    cond_both (nat_lt k p.key) _ _ (Above b) (λ _. (l, h))
    (λ _. cond_both (k == p.key) _ _ (Above b) (λ _. (l, h.1)) (λ _. (h.0, above_insert b k v ps l h.1)))

pub ascending_insert : (k v : ℕ) (m : Pairs) → Ascending m → Ascending (insert k v m)
ascending_insert k v [] a = (tt, tt)
ascending_insert k v (p ∷ ps) a =
    cond_both (nat_lt k p.key) _ _ Ascending
    (λ e. let l : k < p.key = ltb-true k p.key e in ((l, above_weaken k p.key ps l a.0), a))
    (λ e. cond_both (k == p.key) _ _ Ascending
    (λ f. (rw (eqb-true k p.key f) a.0, a.1))
    (λ f. let l : p.key < k = grind (arith, nat_tests) in (above_insert p.key k v ps l a.0, ascending_insert k v ps a.1)))

-- maps that answer every key alike are the same list
pub same_maps : (m n : Pairs) → Ascending m → Ascending n → ((k : ℕ) → find k m ≡ find k n) → m ≡ n
same_maps [] [] a b h = refl
same_maps [] (q ∷ qs) a b h = let e = h q.key in grind (arith, nat_tests)
same_maps (p ∷ ps) [] a b h = let e = h p.key in grind (arith, nat_tests)
same_maps (p ∷ ps) (q ∷ qs) a b h =
    let at_p = h p.key in
    let at_q = h q.key in
    let before : p.key < q.key → find p.key (q ∷ qs) ≡ None = λ l. above_past p.key q qs l b.0 in
    let after : q.key < p.key → find q.key (p ∷ ps) ≡ None = λ l. above_past q.key p ps l a.0 in
    let same_key : p.key ≡ q.key = grind (arith, nat_tests) in
    let same_value : p.value ≡ q.value = grind (arith, nat_tests) in
    let none_p = above_find p.key ps a.0 in
    let none_q = above_find q.key qs b.0 in
    let tails : (k : ℕ) → find k ps ≡ find k qs = λ k. (let e = h k in grind (arith, nat_tests)) in
    let rest = same_maps ps qs a.1 b.1 tails in
    let heads : p ≡ q = ap₂ pair same_key same_value in
    cc
