-- A finite map from keys to values: a list of pairs, strictly ascending by key.
-- So a map has just one list, and `≡` on lists is equality of maps.
use Rattle.std.specs.Prelude.{ℕ, ◌<◌, cond, List, [], ◌∷◌, Some, None, Option, ◌==◌, nat_lt}
use Rattle.stores.specs.declared.types.Pair.{Pair}

abbrev pub Pairs : Type 0
Pairs = List Pair

abbrev pub pair : ℕ → ℕ → Pair
pair key value = record { key = key; value = value }

-- the value under a key
abbrev pub find : ℕ → Pairs → Option ℕ
find key [] = None
find key (p ∷ ps) = cond (key == p.key) (Some p.value) (find key ps)

-- the value set under a key, in the key's place
abbrev pub insert : ℕ → ℕ → Pairs → Pairs
insert key value [] = pair key value ∷ []
insert key value (p ∷ ps) =
    cond (nat_lt key p.key) (pair key value ∷ p ∷ ps)
    (cond (key == p.key) (pair key value ∷ ps) (p ∷ insert key value ps))

-- the pair with a key removed
abbrev pub erase : ℕ → Pairs → Pairs
erase key [] = []
erase key (p ∷ ps) = cond (key == p.key) ps (p ∷ erase key ps)

-- every key is above the given one
abbrev pub Above : ℕ → Pairs → Type 0
Above key [] = Unit {0}
Above key (p ∷ ps) = (key < p.key) × Above key ps

abbrev pub Ascending : Pairs → Type 0
Ascending [] = Unit {0}
Ascending (p ∷ ps) = Above p.key ps × Ascending ps
