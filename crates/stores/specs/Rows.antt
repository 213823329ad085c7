-- What a write to a row of places does to the map that it keeps.
use Rattle.std.specs.Prelude.{◌≡◌, ℕ, zero, suc, ◌<◌, ◌≤◌, Bool, true, false, cond, not, ◌≢◌, [], ◌∷◌, length, is_some, Some, None, Option, slice_index_or, slice_set, refl}
use Rattle.std.specs.List.{position}
use Rattle.std.proofs.Common.{ap, sym, ◌∙◌, arith, lit≤}
use Rattle.std.proofs.lemmas.Bool.{and_parts, not-true}
use Rattle.std.proofs.lemmas.Bool.Decides.{nat_tests}
use Rattle.stores.specs.declared.types.Pair.{Pair}
use Rattle.stores.specs.Pairs.{pair, find, insert, erase, Ascending}
use Rattle.stores.specs.Places.{Places, holds, is_free, contents, distinct, no_room}
use Rattle.short_lists.specs.declared.short_list.ShortList.{ShortList}
use Rattle.short_lists.specs.Lengths.{listed_few}
use Rattle.stores.specs.declared.notes.Note.{Note}
use Rattle.stores.specs.declared.shadow.Draft.{Draft}
use Rattle.stores.specs.declared.shadow.ShadowStore.{ShadowStore}
use Rattle.stores.specs.declared.undo.UndoStore.{UndoStore}
use Rattle.stores.specs.Notes.{notes_of, rewound}
use Rattle.stores.specs.Rewinds.{length_rewound}
use Rattle.stores.specs.Shadow.{draft_of, shadow_model}
use Rattle.stores.specs.Undo.{noted_trial, undo_model}
use Rattle.stores.specs.Store.{Trial, WithinCapacity, SoundTrial, Sound}
use Rattle.stores.specs.Maps.{find_insert, find_erase_other, insert_same, insert_comm, erase_insert, erase_insert_other, length_insert, length_insert_new, ascending_insert}

-- the first place that passes a test, by recursion
abbrev pub later : Option ℕ → Option ℕ
later None = None
later (Some i) = Some (suc i)

abbrev pub first : (Option Pair → Bool) → Places → Option ℕ
first test [] = None
first test (p ∷ ps) = cond (test p) (Some 0) (later (first test ps))

pub position_is_first : (test : Option Pair → Bool) (ps : Places) → position test ps ≡ first test ps
position_is_first test [] = refl
position_is_first test (p ∷ ps) = let ih = position_is_first test ps in grind (arith, nat_tests)

pub contents_ascending : (ps : Places) → Ascending (contents ps)
contents_ascending [] = tt
contents_ascending (None ∷ ps) = contents_ascending ps
contents_ascending (Some p ∷ ps) = ascending_insert p.key p.value (contents ps) (contents_ascending ps)

-- the first place counted one further
later_some : (o : Option ℕ) (i : ℕ) → later o ≡ Some (suc i) → o ≡ Some i
later_some None i e = grind arith
later_some (Some j) i e = grind arith

later_zero : (o : Option ℕ) → later o ≢ Some 0
later_zero None e = let z : ◌≡◌ {A = ℕ} 0 1 = cc in omega arith
later_zero (Some j) e = grind arith

later_none : (o : Option ℕ) → later o ≡ None → o ≡ None
later_none None e = refl
later_none (Some j) e = grind arith

pub first_within : (test : Option Pair → Bool) (ps : Places) (i : ℕ) → first test ps ≡ Some i → i < length ps
first_within test [] i e = grind arith
first_within test (p ∷ ps) zero e = omega arith
first_within test (p ∷ ps) (suc i) e =
    let ih = first_within test ps i in
    let l = later_some (first test ps) i in grind (arith, nat_tests)

pub none_kept : (k : ℕ) (ps : Places) → first (holds k) ps ≡ None → find k (contents ps) ≡ None
none_kept k [] e = refl
none_kept k (None ∷ ps) e = none_kept k ps (later_none _ e)
none_kept k (Some p ∷ ps) e =
    let ih = none_kept k ps in
    let l = later_none (first (holds k) ps) in
    let f = find_insert k p.key p.value (contents ps) in grind (arith, nat_tests)

pub some_kept : (k : ℕ) (ps : Places) (i : ℕ) → first (holds k) ps ≡ Some i → is_some (find k (contents ps)) ≡ true
some_kept k [] i e = grind arith
some_kept k (None ∷ ps) zero e = absurd (later_zero _ e)
some_kept k (None ∷ ps) (suc i) e = some_kept k ps i (later_some _ _ e)
some_kept k (Some p ∷ ps) zero e =
    let l = later_zero (first (holds k) ps) in
    let f = find_insert k p.key p.value (contents ps) in grind (arith, nat_tests)
some_kept k (Some p ∷ ps) (suc i) e =
    let ih = some_kept k ps i in
    let l = later_some (first (holds k) ps) i in
    let f = find_insert k p.key p.value (contents ps) in grind (arith, nat_tests)

-- the value in the key's place
pub value_kept : (k : ℕ) (ps : Places) (i : ℕ) (p : Pair) → first (holds k) ps ≡ Some i → slice_index_or ps i None ≡ Some p → find k (contents ps) ≡ Some p.value
value_kept k [] i p e g = grind arith
value_kept k (None ∷ ps) zero p e g = absurd (later_zero _ e)
value_kept k (None ∷ ps) (suc i) p e g = value_kept k ps i p (later_some _ _ e) g
value_kept k (Some q ∷ ps) zero p e g =
    let l = later_zero (first (holds k) ps) in
    let f = find_insert k q.key q.value (contents ps) in
    let same : q ≡ p = cc in
    grind (arith, nat_tests)
value_kept k (Some q ∷ ps) (suc i) p e g =
    let ih = value_kept k ps i p in
    let l = later_some (first (holds k) ps) i in
    let f = find_insert k q.key q.value (contents ps) in grind (arith, nat_tests)

pub held_there : (k : ℕ) (ps : Places) (i : ℕ) → first (holds k) ps ≡ Some i → slice_index_or ps i None ≢ None
held_there k [] i e g = grind arith
held_there k (None ∷ ps) zero e g = later_zero _ e
held_there k (None ∷ ps) (suc i) e g = held_there k ps i (later_some _ _ e) g
held_there k (Some q ∷ ps) zero e g = grind arith
held_there k (Some q ∷ ps) (suc i) e g =
    let ih = held_there k ps i in
    let l = later_some (first (holds k) ps) i in grind (arith, nat_tests)

none_since : (o : Option ℕ) → is_some o ≡ false → o ≡ None
none_since None e = refl
none_since (Some v) e = grind arith

-- what distinct keys say of the first place and the others
apart : (p : Pair) (ps : Places) → distinct (Some p ∷ ps) ≡ true → (find p.key (contents ps) ≡ None) × (distinct ps ≡ true)
apart p ps d =
    let both = and_parts (not (is_some (find p.key (contents ps)))) (distinct ps) d in
    (none_since _ (not-true _ both.0), both.1)

apart_again : (p : Pair) (ps : Places) → find p.key (contents ps) ≡ None → distinct ps ≡ true → distinct (Some p ∷ ps) ≡ true
apart_again p ps n d = grind (arith, nat_tests)

-- a new value in the key's own place
pub contents_replace : (k v : ℕ) (ps : Places) (i : ℕ) → first (holds k) ps ≡ Some i → contents (slice_set ps i (Some (pair k v))) ≡ insert k v (contents ps)
contents_replace k v [] i e = grind arith
contents_replace k v (None ∷ ps) zero e = absurd (later_zero _ e)
contents_replace k v (None ∷ ps) (suc i) e = contents_replace k v ps i (later_some _ _ e)
contents_replace k v (Some p ∷ ps) zero e =
    let l = later_zero (first (holds k) ps) in
    let s = insert_same k v p.value (contents ps) in grind (arith, nat_tests)
contents_replace k v (Some p ∷ ps) (suc i) e =
    let l = later_some (first (holds k) ps) i in
    let ih = contents_replace k v ps i in
    let s = insert_comm k v p.key p.value (contents ps) in grind (arith, nat_tests)

-- a new key in a free place
pub contents_add : (k v : ℕ) (ps : Places) (i : ℕ) → first (holds k) ps ≡ None → first is_free ps ≡ Some i → contents (slice_set ps i (Some (pair k v))) ≡ insert k v (contents ps)
contents_add k v [] i n e = grind arith
contents_add k v (None ∷ ps) zero n e = refl
contents_add k v (None ∷ ps) (suc i) n e = grind arith
contents_add k v (Some p ∷ ps) zero n e = absurd (later_zero _ e)
contents_add k v (Some p ∷ ps) (suc i) n e =
    let l = later_some (first is_free ps) i e in
    let m = later_none (first (holds k) ps) in
    let ih = contents_add k v ps i in
    let s = insert_comm k v p.key p.value (contents ps) in grind (arith, nat_tests)

-- a key's place freed
pub contents_free : (k : ℕ) (ps : Places) (i : ℕ) → distinct ps ≡ true → first (holds k) ps ≡ Some i → contents (slice_set ps i None) ≡ erase k (contents ps)
contents_free k [] i d e = grind arith
contents_free k (None ∷ ps) zero d e = absurd (later_zero _ e)
contents_free k (None ∷ ps) (suc i) d e = contents_free k ps i d (later_some _ _ e)
contents_free k (Some p ∷ ps) zero d e =
    let l = later_zero (first (holds k) ps) in
    let s = erase_insert k p.value (contents ps) (contents_ascending ps) in
    let a = apart p ps d in
    grind (arith, nat_tests)
contents_free k (Some p ∷ ps) (suc i) d e =
    let l = later_some (first (holds k) ps) i in
    let ih = contents_free k ps i in
    let s = erase_insert_other p.key p.value k (contents ps) (contents_ascending ps) in
    let a = apart p ps d in
    grind (arith, nat_tests)

pub distinct_replace : (k v : ℕ) (ps : Places) (i : ℕ) → distinct ps ≡ true → first (holds k) ps ≡ Some i → distinct (slice_set ps i (Some (pair k v))) ≡ true
distinct_replace k v [] i d e = grind arith
distinct_replace k v (None ∷ ps) zero d e = absurd (later_zero _ e)
distinct_replace k v (None ∷ ps) (suc i) d e = distinct_replace k v ps i d (later_some _ _ e)
distinct_replace k v (Some p ∷ ps) zero d e =
    let l = later_zero (first (holds k) ps) in
    let a = apart p ps d in
    let same : k ≡ p.key = grind (arith, nat_tests) in
    apart_again (pair k v) ps (rw same a.0) a.1
distinct_replace k v (Some p ∷ ps) (suc i) d e =
    let a = apart p ps d in
    let other : p.key ≢ k = grind (arith, nat_tests) in
    let there : first (holds k) ps ≡ Some i = later_some (first (holds k) ps) i (grind (arith, nat_tests)) in
    let c = contents_replace k v ps i there in
    let f = find_insert p.key k v (contents ps) in
    apart_again p (slice_set ps i (Some (pair k v))) (grind (arith, nat_tests)) (distinct_replace k v ps i a.1 there)

pub distinct_add : (k v : ℕ) (ps : Places) (i : ℕ) → distinct ps ≡ true → first (holds k) ps ≡ None → first is_free ps ≡ Some i → distinct (slice_set ps i (Some (pair k v))) ≡ true
distinct_add k v [] i d n e = grind arith
distinct_add k v (None ∷ ps) zero d n e = apart_again (pair k v) ps (none_kept k ps (later_none _ n)) d
distinct_add k v (None ∷ ps) (suc i) d n e = grind arith
distinct_add k v (Some p ∷ ps) zero d n e = absurd (later_zero _ e)
distinct_add k v (Some p ∷ ps) (suc i) d n e =
    let a = apart p ps d in
    let other : p.key ≢ k = grind (arith, nat_tests) in
    let absent : first (holds k) ps ≡ None = later_none (first (holds k) ps) (grind (arith, nat_tests)) in
    let there = later_some (first is_free ps) i e in
    let c = contents_add k v ps i absent there in
    let f = find_insert p.key k v (contents ps) in
    apart_again p (slice_set ps i (Some (pair k v))) (grind (arith, nat_tests)) (distinct_add k v ps i a.1 absent there)

pub distinct_free : (k : ℕ) (ps : Places) (i : ℕ) → distinct ps ≡ true → first (holds k) ps ≡ Some i → distinct (slice_set ps i None) ≡ true
distinct_free k [] i d e = grind arith
distinct_free k (None ∷ ps) zero d e = absurd (later_zero _ e)
distinct_free k (None ∷ ps) (suc i) d e = distinct_free k ps i d (later_some _ _ e)
distinct_free k (Some p ∷ ps) zero d e = (apart p ps d).1
distinct_free k (Some p ∷ ps) (suc i) d e =
    let a = apart p ps d in
    let other : p.key ≢ k = grind (arith, nat_tests) in
    let there : first (holds k) ps ≡ Some i = later_some (first (holds k) ps) i (grind (arith, nat_tests)) in
    let c = contents_free k ps i a.1 there in
    let f = find_erase_other p.key k (contents ps) other in
    apart_again p (slice_set ps i None) (cc) (distinct_free k ps i a.1 there)

pub contents_few : (ps : Places) → length (contents ps) ≤ length ps
contents_few [] = omega arith
contents_few (None ∷ ps) = let ih = contents_few ps in omega arith
contents_few (Some p ∷ ps) = let ih = contents_few ps in omega (arith, length_insert p.key p.value (contents ps))

pub contents_fewer : (ps : Places) (i : ℕ) → first is_free ps ≡ Some i → length (contents ps) < length ps
contents_fewer [] i e = grind arith
contents_fewer (None ∷ ps) i e = let h = contents_few ps in omega arith
contents_fewer (Some p ∷ ps) zero e = absurd (later_zero _ e)
contents_fewer (Some p ∷ ps) (suc i) e =
    let ih = contents_fewer ps i (later_some _ _ e) in
    omega (arith, length_insert p.key p.value (contents ps))

pub contents_all : (ps : Places) → distinct ps ≡ true → first is_free ps ≡ None → length (contents ps) ≡ length ps
contents_all [] d e = refl
contents_all (None ∷ ps) d e = grind arith
contents_all (Some p ∷ ps) d e =
    let a = apart p ps d in
    let ih = contents_all ps a.1 (later_none _ e) in
    length_insert_new p.key p.value (contents ps) a.0 ∙ ap suc ih

-- a key is found among the places exactly if the map has it
pub found_by : (k : ℕ) (ps : Places) → is_some (first (holds k) ps) ≡ is_some (find k (contents ps))
found_by k ps = go (first (holds k) ps) refl
  where
    go : (o : Option ℕ) → first (holds k) ps ≡ o → is_some (first (holds k) ps) ≡ is_some (find k (contents ps))
    go None e = ap is_some e ∙ ap is_some (sym (none_kept k ps e))
    go (Some i) e = ap is_some e ∙ sym (some_kept k ps i e)

-- a place is free for a new key exactly if the pairs are fewer than the places
pub room_by : (k : ℕ) (ps : Places) → distinct ps ≡ true → first (holds k) ps ≡ None → is_some (first is_free ps) ≡ not (no_room k (length ps) (contents ps))
room_by k ps d e = go (first is_free ps) refl
  where
    absent : find k (contents ps) ≡ None
    absent = none_kept k ps e

    go : (o : Option ℕ) → first is_free ps ≡ o → is_some (first is_free ps) ≡ not (no_room k (length ps) (contents ps))
    go None n = let all = contents_all ps d n in let none = absent in grind (arith, nat_tests)
    go (Some i) n = let fewer = contents_fewer ps i n in let none = absent in grind (arith, nat_tests)

within_rows : (capacity : ℕ) (ps : Places) → length ps ≡ capacity → WithinCapacity capacity (contents ps)
within_rows capacity ps sized = record { ascending = contents_ascending ps; few = (let h = contents_few ps in omega arith) }

-- what holds of a store that keeps its committed pairs in a row as long as its capacity
pub sound_pairs : (capacity : ℕ) (committed : Places) (trial : Option Trial) → 8 ≤ capacity → capacity ≤ 64 → length committed ≡ capacity → SoundTrial capacity trial → Sound (record { capacity = capacity; committed = contents committed; trial = trial })
sound_pairs capacity committed trial low high sized open_trial =
    record { not_small = low; not_large = high; committed_pairs = within_rows capacity committed sized; open_trial = open_trial }

-- so it holds of both makes at any time
pub shadow_sound : (s : ShadowStore) → Sound (shadow_model s)
shadow_sound s = sound_pairs 16 s.committed.places (draft_of s.trial) (lit≤ tt) (lit≤ tt) s.committed.sized (draft_sound s.trial)
  where
    draft_sound : (d : Option Draft) → SoundTrial 16 (draft_of d)
    draft_sound None = tt
    draft_sound (Some d) = (within_rows 16 d.pairs.places d.pairs.sized, d.limited)

pub undo_sound : (s : UndoStore) → Sound (undo_model s)
undo_sound s =
    let before = rewound (notes_of s.trial) s.pairs.places in
    sound_pairs 32 before (noted_trial s.pairs.places s.trial) (lit≤ tt) (lit≤ tt) (length_rewound (notes_of s.trial) s.pairs.places ∙ s.pairs.sized) (noted_sound s.trial)
  where
    noted_sound : (notes : Option (ShortList Note 8)) → SoundTrial 32 (noted_trial s.pairs.places notes)
    noted_sound None = tt
    noted_sound (Some notes) = (within_rows 32 s.pairs.places s.pairs.sized, listed_few notes)
