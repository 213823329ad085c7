-- What waits in a part of a row, and in a row put together from parts.
use Rattle.std.proofs.Common.{◌≡◌, ◌≤◌, List, [], ◌∷◌, ◌++◌, length, Some, None, Option, refl, ap, arith}
use Rattle.pools.specs.Pools.{held}

pub held_append : {M : Type 0} (ps qs : List (Option M)) → held (ps ++ qs) ≡ held ps ++ held qs
held_append [] qs = refl
held_append (None ∷ ps) qs = held_append ps qs
held_append (Some m ∷ ps) qs = ap (λ ms. m ∷ ms) (held_append ps qs)

-- there are no more messages than places
pub held_le : {M : Type 0} (ps : List (Option M)) → length (held ps) ≤ length ps
held_le [] = omega arith
held_le (None ∷ ps) = omega (arith, held_le ps)
held_le (Some m ∷ ps) = omega (arith, held_le ps)
