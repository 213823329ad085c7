-- The numbers of causes and of looks.
use Rattle.std.specs.Prelude.{ℕ, List, ◌∷◌, Some, None, Option}
use Rattle.banks.specs.Refusals.{bank_refusal_number}
use Rattle.parts.specs.declared.votes.Cause.{Cause}
use Rattle.parts.specs.declared.votes.Cause.TheVariants.{ByBank, NotAsNeeded, SumTooLarge}

abbrev pub cause_number : Cause → ℕ
cause_number (ByBank why) = bank_refusal_number why
cause_number NotAsNeeded = 45
cause_number SumTooLarge = 46

-- what a LOOK gives: the value, or one above the largest value for absent
abbrev pub look_number : Option ℕ → ℕ
look_number (Some value) = value
look_number None = 4294967296

-- a look number in front, if there is one
abbrev pub with_look : Option ℕ → List ℕ → List ℕ
with_look None looks = looks
with_look (Some look) looks = look ∷ looks
