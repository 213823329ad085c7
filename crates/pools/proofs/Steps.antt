-- One place more: what a loop over the row has passed.
use Rattle.std.proofs.Common.{◌≡◌, ℕ, ◌+◌, ◌<◌, Bool, true, false, cond, List, [], ◌∷◌, ◌++◌, length, get_or, take, Some, None, Option, sym, refl, ap, ◌∙◌, length-append}
use Rattle.std.proofs.lemmas.List.Elements.{filter-append}
use Rattle.std.proofs.lemmas.List.{take_more}
use Rattle.pools.specs.Pools.{held, fitting}
use Rattle.pools.proofs.OnePlace.{fits}
use Rattle.pools.proofs.Held.{held_append}

one_fitting : {M P : Type 0} (meets : M → P → Bool) (party : P) (p : Option M) → length (fitting meets party (held (p ∷ []))) ≡ cond (fits meets party p) 1 0
one_fitting meets party None = refl
one_fitting meets party (Some m) = elim (meets m party) as (λ b. length (cond b (m ∷ []) []) ≡ cond b 1 0) [ true ↦ refl | false ↦ refl ]

-- p is what the loop read at place i
module _ {M : Type 0} (ps : List (Option M)) (i : ℕ) (p : Option M) (within : i < length ps) (read : p ≡ get_or ps i p) where
  held_more : held (take (i + 1) ps) ≡ held (take i ps) ++ held (p ∷ [])
  held_more = ap held (take_more ps i p within ∙ ap (λ q. take i ps ++ (q ∷ [])) (sym read)) ∙ held_append (take i ps) (p ∷ [])

  pub fitting_more : {P : Type 0} (meets : M → P → Bool) (party : P) → length (fitting meets party (held (take (i + 1) ps))) ≡ length (fitting meets party (held (take i ps))) + cond (fits meets party p) 1 0
  fitting_more meets party =
      let front = held (take i ps) in
      ap (λ ms. length (fitting meets party ms)) held_more ∙ ap length (filter-append (λ m. meets m party) front (held (p ∷ []))) ∙ length-append (fitting meets party front) (fitting meets party (held (p ∷ []))) ∙ ap (λ k. length (fitting meets party front) + k) (one_fitting meets party p)
