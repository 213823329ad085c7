-- What is past the n-th at first makes no difference later.
use Rattle.std.proofs.Common.{◌≡◌, ℕ, zero, suc, List, [], ◌∷◌, ◌++◌, take, refl, ap}

pub take_capped : {X : Type 0} (n : ℕ) (xs ys : List X) → take n (take n xs ++ ys) ≡ take n (xs ++ ys)
take_capped zero xs ys = refl
take_capped (suc n) [] ys = refl
take_capped (suc n) (x ∷ xs) ys = ap (λ zs. x ∷ zs) (take_capped n xs ys)
