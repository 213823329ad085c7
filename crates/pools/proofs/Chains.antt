-- What chains of iterators over a row of places count.
use Rattle.std.proofs.Common.{◌≡◌, Bool, List, [], ◌∷◌, length, is_some, Some, None, Option, refl, filter, arith}
use Rattle.std.proofs.lemmas.Bool.Decides.{nat_tests}
use Rattle.pools.specs.Pools.{held, fitting}
use Rattle.pools.proofs.OnePlace.{fits}

pub waiting : {M : Type 0} (ps : List (Option M)) → length (filter is_some ps) ≡ length (held ps)
waiting [] = refl
waiting (None ∷ ps) = waiting ps
waiting (Some m ∷ ps) = omega (arith, waiting ps)

module _ {M P : Type 0} (meets : M → P → Bool) (party : P) where
  pub waiting_for : (ps : List (Option M)) → length (filter (fits meets party) ps) ≡ length (fitting meets party (held ps))
  waiting_for [] = refl
  waiting_for (None ∷ ps) = waiting_for ps
  waiting_for (Some m ∷ ps) = let later = waiting_for ps in grind (arith, nat_tests)
