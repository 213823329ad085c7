-- What a row of places answers, and what a write to it does to the map that it keeps.
use Rattle.std.proofs.Common.{◌≡◌, ℕ, zero, suc, ◌+◌, ◌<◌, true, not, [], length, set, replicate, is_some, Some, None, Ok, Option, slice_index_or, sym, refl, ap, ◌∙◌, arith}
use Rattle.std.proofs.lemmas.Bool.Decides.{nat_tests}
use Rattle.std.specs.List.{position}
use Rattle.std.specs.Option.{option_map}
use Rattle.stores.specs.declared.types.Pair.{Pair}
use Rattle.stores.specs.Pairs.{pair, find, insert, erase}
use Rattle.stores.specs.Places.{Places, holds, is_free, place_for, contents, distinct, no_room}
use Rattle.stores.specs.Store.{change_limit, put_in, drop_in}
use Rattle.stores.specs.Rows.{first, position_is_first, found_by, room_by, none_kept, value_kept, held_there, contents_replace, contents_add, contents_free, distinct_replace, distinct_add, distinct_free}

module _ (k : ℕ) (ps : Places) where
  pub held : is_some (position (holds k) ps) ≡ is_some (find k (contents ps))
  held = ap is_some (position_is_first (holds k) ps) ∙ found_by k ps

  pub absent : position (holds k) ps ≡ None → find k (contents ps) ≡ None
  absent e = none_kept k ps (sym (position_is_first (holds k) ps) ∙ e)

  pub present : (i : ℕ) → position (holds k) ps ≡ Some i → option_map (λ p. p.value) (slice_index_or ps i None) ≡ find k (contents ps)
  present i e = go (slice_index_or ps i None) refl
    where
      there : first (holds k) ps ≡ Some i
      there = sym (position_is_first (holds k) ps) ∙ e

      go : (o : Option Pair) → slice_index_or ps i None ≡ o → option_map (λ p. p.value) o ≡ find k (contents ps)
      go None is = absurd (held_there k ps i there is)
      go (Some p) is = sym (value_kept k ps i p there is)

module _ (k : ℕ) (ps : Places) (apart : distinct ps ≡ true) where
  -- a place is found for a key unless it is new and the places are full
  pub placed : is_some (place_for k ps) ≡ not (no_room k (length ps) (contents ps))
  placed = go (position (holds k) ps) refl
    where
      go : (o : Option ℕ) → position (holds k) ps ≡ o → is_some (place_for k ps) ≡ not (no_room k (length ps) (contents ps))
      go None e =
          let room = room_by k ps apart (sym (position_is_first (holds k) ps) ∙ e) in
          let free = position_is_first is_free ps in
          grind arith
      go (Some i) e = let h = held k ps in grind arith

  pub written : (v i : ℕ) → place_for k ps ≡ Some i → (contents (set ps i (Some (pair k v))) ≡ insert k v (contents ps)) × (distinct (set ps i (Some (pair k v))) ≡ true)
  written v i there = go (position (holds k) ps) refl
    where
      go : (o : Option ℕ) → position (holds k) ps ≡ o → (contents (set ps i (Some (pair k v))) ≡ insert k v (contents ps)) × (distinct (set ps i (Some (pair k v))) ≡ true)
      go None e =
          let none : first (holds k) ps ≡ None = sym (position_is_first (holds k) ps) ∙ e in
          let free : first is_free ps ≡ Some i = sym (position_is_first is_free ps) ∙ grind arith in
          (contents_add k v ps i none free, distinct_add k v ps i apart none free)
      go (Some j) e =
          let own : first (holds k) ps ≡ Some i = sym (position_is_first (holds k) ps) ∙ grind arith in
          (contents_replace k v ps i own, distinct_replace k v ps i apart own)

  pub freed : (i : ℕ) → position (holds k) ps ≡ Some i → (contents (set ps i None) ≡ erase k (contents ps)) × (distinct (set ps i None) ≡ true)
  freed i there =
      let own : first (holds k) ps ≡ Some i = sym (position_is_first (holds k) ps) ∙ there in
      (contents_free k ps i apart own, distinct_free k ps i apart own)

-- a write as a change of an open trial, in a row of any capacity
module _ (capacity k n : ℕ) (working : Places) (sized : length working ≡ capacity) (apart : distinct working ≡ true) (few : n < change_limit) where
  pub put_placed : (v i : ℕ) → place_for k working ≡ Some i → put_in capacity k v (record { working = contents working; changes = n }) ≡ Ok (record { working = contents (set working i (Some (pair k v))); changes = n + 1 })
  put_placed v i there =
      let fits : true ≡ not (no_room k capacity (contents working)) = ap is_some (sym there) ∙ rw (← sized) (placed k working apart) in
      let next = (written k working apart v i there).0 in
      grind (arith, nat_tests)

  pub drop_placed : (i : ℕ) → position (holds k) working ≡ Some i → drop_in k (record { working = contents working; changes = n }) ≡ Ok (record { working = contents (set working i None); changes = n + 1 })
  drop_placed i there =
      let found : true ≡ is_some (find k (contents working)) = ap is_some (sym there) ∙ held k working in
      let next = (freed k working apart i there).0 in
      grind (arith, nat_tests)

-- a row whose places are all free
pub contents_free_row : (n : ℕ) → contents (replicate n None) ≡ []
contents_free_row zero = refl
contents_free_row (suc n) = contents_free_row n

pub distinct_free_row : (n : ℕ) → distinct (replicate n None) ≡ true
distinct_free_row zero = refl
distinct_free_row (suc n) = distinct_free_row n
