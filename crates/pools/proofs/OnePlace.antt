-- What a place holds, said of a party.
use Rattle.std.proofs.Common.{Bool, false, Some, None, Option}

module _ {M P : Type 0} (meets : M → P → Bool) (party : P) where
  -- a message that fits the party
  abbrev pub fits : Option M → Bool
  fits None = false
  fits (Some m) = meets m party
