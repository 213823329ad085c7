-- Two banks joined: where a number leads, and that they are a sound bank.
use Rattle.std.specs.Prelude.{◌≡◌, ℕ, ◌-◌, ◌++◌, nat_lt, if◌then◌else◌, Some, None, Ok, Err, Result, slice_set, refl}
use Rattle.std.proofs.Common.{arith, length-take, length-append}
use Rattle.std.proofs.ByRecursion.{All-take, All-append}
use Rattle.std.specs.List.{slice_get}
use Rattle.stores.specs.Store.{StoreModel, Step, Sound}
use Rattle.banks.specs.declared.both.Side.{Side}
use Rattle.banks.specs.declared.both.Side.TheVariants.{Left, Right}
use Rattle.banks.specs.declared.types.BankRefusal.{BankRefusal}
use Rattle.banks.specs.declared.types.BankRefusal.TheVariants.{NoSuchStore}
use Rattle.banks.specs.Bank.{BankModel, SoundBank, at_store, from_store, joined_stores}

-- where a number leads, in two banks joined of which the left one has this many stores
abbrev pub side_of : ℕ → ℕ → Result Side BankRefusal
side_of left service =
    if nat_lt service 8 then (if nat_lt service left then Ok (Left service) else Ok (Right (service - left))) else Err NoSuchStore

pub at_some : {Answer : Type 0} (service : ℕ) (function : StoreModel → Step Answer) (stores : BankModel) (m : StoreModel) → slice_get stores service ≡ Some m → at_store service function stores ≡ record { answer = from_store (function m).answer; next = slice_set stores service (function m).next }
at_some service function stores m e = rw (e, at_store) refl

pub at_none : {Answer : Type 0} (service : ℕ) (function : StoreModel → Step Answer) (stores : BankModel) → slice_get stores service ≡ None → at_store service function stores ≡ record { answer = Err NoSuchStore; next = stores }
at_none service function stores e = rw (e, at_store) refl

pub joined_sound : (left right : BankModel) → SoundBank left → SoundBank right → SoundBank (joined_stores left right)
joined_sound left right l r = record {
  not_empty = simp (length-take, length-append) (let a = l.not_empty in omega arith);
  not_many = simp length-take (omega arith);
  each = All-take Sound 8 (left ++ right) (All-append Sound left right l.each r.each);
}
