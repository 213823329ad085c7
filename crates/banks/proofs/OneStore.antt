-- One store alone is concerned by a function of a bank.
use Rattle.std.proofs.Common.{◌≡◌, ℕ, zero, suc, true, ◌≢◌, List, [], ◌∷◌, length, set, is_err, Some, None, Ok, Err, Option, Result, refl, ap, ◌∙◌, arith, length-set}
use Rattle.std.proofs.ByRecursion.{All-set}
use Rattle.std.proofs.lemmas.Option.{slice_get_past}
use Rattle.std.specs.List.{slice_get, AllByRecursion}
use Rattle.stores.specs.Laws.{Lawful}
use Rattle.stores.specs.Store.{StoreModel, Step, Sound}
use Rattle.stores.specs.declared.types.StoreRefusal.{StoreRefusal}
use Rattle.banks.specs.declared.types.BankRefusal.TheVariants.{NoSuchStore}
use Rattle.banks.specs.Bank.{BankModel, SoundBank, BankStep, at_store, from_store}
use Rattle.banks.specs.Laws.{BankLaws}
use Rattle.banks.specs.Joined.{at_some, at_none}
use Rattle.banks.proofs.Turns.{set_nth}

pub nth_set_same : {X : Type 0} (xs : List X) (i : ℕ) (x y : X) → slice_get xs i ≡ Some x → slice_get (set xs i y) i ≡ Some y
nth_set_same [] i x y e = grind arith
nth_set_same (z ∷ xs) zero x y e = refl
nth_set_same (z ∷ xs) (suc i) x y e = nth_set_same xs i x y e

pub nth_set_other : {X : Type 0} (xs : List X) (i j : ℕ) (y : X) → j ≢ i → slice_get (set xs i y) j ≡ slice_get xs j
nth_set_other [] i j y n = refl
nth_set_other (z ∷ xs) zero zero y n = absurd (n refl)
nth_set_other (z ∷ xs) zero (suc j) y n = refl
nth_set_other (z ∷ xs) (suc i) zero y n = refl
nth_set_other (z ∷ xs) (suc i) (suc j) y n = nth_set_other xs i j y (omega arith)

sound_nth : (i : ℕ) (ms : BankModel) (m : StoreModel) → slice_get ms i ≡ Some m → AllByRecursion Sound ms → Sound m
sound_nth i [] m e a = grind arith
sound_nth zero (x ∷ ms) m e a = let same : x ≡ m = cc in rw same at a.0
sound_nth (suc i) (x ∷ ms) m e a = sound_nth i ms m e a.1

is_err_from : (r : Result (Unit {0}) StoreRefusal) → is_err (from_store r) ≡ true → is_err r ≡ true
is_err_from (Ok u) e = grind arith
is_err_from (Err why) e = refl

module _ (service : ℕ) (function : StoreModel → Step (Unit {0})) (stores : BankModel) where
  -- what is true of a bank step where the store is there and where it is not
  by_store : (P : BankStep (Unit {0}) → Type 0) → ((m : StoreModel) → slice_get stores service ≡ Some m → P (record { answer = from_store (function m).answer; next = set stores service (function m).next })) → (slice_get stores service ≡ None → P (record { answer = Err NoSuchStore; next = stores })) → P (at_store service function stores)
  by_store P some none = go (slice_get stores service) refl
    where
      go : (o : Option StoreModel) → slice_get stores service ≡ o → P (at_store service function stores)
      go None e = rw (at_none service function stores e) (none e)
      go (Some m) e = rw (at_some service function stores m e) (some m e)

  count_stays : length (at_store service function stores).next ≡ length stores
  count_stays = by_store (λ r. length r.next ≡ length stores) (λ m e. length-set _ _ _) (λ e. refl)

  others_stay : (other : ℕ) → other ≢ service → slice_get (at_store service function stores).next other ≡ slice_get stores other
  others_stay other n = by_store (λ r. slice_get r.next other ≡ slice_get stores other) (λ m e. nth_set_other stores service other _ n) (λ e. refl)

  refused_alters_nothing : Lawful function → is_err (at_store service function stores).answer ≡ true → (at_store service function stores).next ≡ stores
  refused_alters_nothing lawful =
      by_store (λ r. is_err r.answer ≡ true → r.next ≡ stores)
      (λ m e refused. ap (set stores service) (lawful.refused_alters_nothing m (is_err_from (function m).answer refused)) ∙ set_nth service stores m e)
      (λ e refused. refl)

  keeps_sound : Lawful function → SoundBank stores → SoundBank (at_store service function stores).next
  keeps_sound lawful s =
      by_store (λ r. SoundBank r.next)
      (λ m e. record {
        not_empty = simp length-set s.not_empty;
        not_many = simp length-set s.not_many;
        each = All-set Sound stores service (function m).next (lawful.keeps_sound m (sound_nth service stores m e s.each)) s.each;
      })
      (λ e. s)

pub bank_laws : BankLaws
bank_laws = record {
  count_stays = count_stays;
  others_stay = λ service other function stores. others_stay service function stores other;
  answer_is_store's = λ service function stores m e. ap (λ r. r.answer) (at_some service function stores m e);
  next_is_store's = λ service function stores m e. ap (λ r. slice_get r.next service) (at_some service function stores m e) ∙ nth_set_same stores service m (function m).next e;
  no_such_store = λ service function stores past. at_none service function stores (slice_get_past stores service past);
  refused_alters_nothing = refused_alters_nothing;
  keeps_sound = keeps_sound;
}
