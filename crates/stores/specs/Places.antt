-- Pairs kept in a row of places, in any order: how both makes of store keep theirs.
use Rattle.std.specs.Prelude.{ℕ, Bool, true, false, not, ◌&&◌, List, [], ◌∷◌, length, is_some, Some, None, Option, ◌==◌, nat_le}
use Rattle.std.specs.List.{position}
use Rattle.stores.specs.declared.types.Pair.{Pair}
use Rattle.stores.specs.Pairs.{Pairs, find, insert}

abbrev pub Places : Type 0
Places = List (Option Pair)

abbrev pub holds : ℕ → Option Pair → Bool
holds key None = false
holds key (Some p) = key == p.key

abbrev pub is_free : Option Pair → Bool
is_free place = not (is_some place)

-- the place for a key: its own, else the first free one
abbrev pub place_for : ℕ → Places → Option ℕ
place_for key ps = elim (position (holds key) ps) [ None ↦ position is_free ps | Some i ↦ Some i ]

-- the map that the places keep
abbrev pub contents : Places → Pairs
contents [] = []
contents (None ∷ ps) = contents ps
contents (Some p ∷ ps) = insert p.key p.value (contents ps)

-- the key is new and the pairs are as many as the places
abbrev pub no_room : ℕ → ℕ → Pairs → Bool
no_room key capacity pairs = not (is_some (find key pairs)) && nat_le capacity (length pairs)

-- no key has two places
abbrev pub distinct : Places → Bool
distinct [] = true
distinct (None ∷ ps) = distinct ps
distinct (Some p ∷ ps) = not (is_some (find p.key (contents ps))) && distinct ps
