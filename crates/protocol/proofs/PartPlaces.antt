-- Parts by place: the open parts of a transaction beside its entry's parts, and parts on distinct services.
use Rattle.std.proofs.Common.{◌≡◌, ℕ, zero, suc, ◌+◌, true, ◌≢◌, ◌⊎◌, List, [], ◌∷◌, length, set, Some, Option, sym, refl, ap, ◌∙◌, inl, inr, arith}
use Rattle.std.proofs.lemmas.Bool.{cases_eq}
use Rattle.std.proofs.lemmas.Bool.Decides.{nat_tests}
use Rattle.std.proofs.lemmas.Option.{none-some, same_Some}
use Rattle.std.specs.List.{slice_get}
use Rattle.banks.specs.Bank.{BankModel}
use Rattle.scripts.specs.declared.types.Operation.{Operation}
use Rattle.scripts.specs.Reading.{Part}
use Rattle.parts.specs.declared.votes.Vote.TheVariants.{Yes}
use Rattle.protocol.specs.declared.types.PartState.{PartState}
use Rattle.protocol.specs.declared.types.PartState.TheVariants.{Unsent, Waiting, Replied, TimedOut}
use Rattle.protocol.specs.Calls.{all_replied, run_in_trial}
use Rattle.protocol.specs.Kept.{OpenParts}
use Rattle.protocol.specs.Site.{OpenPart}
use Rattle.protocol.proofs.Invariant.{AlikeParts, HasPart}
use Rattle.protocol.proofs.SingleFile.{Elsewhere, Apart, EachRight}
use Rattle.protocol.proofs.Tables.{beside, all_at}
use Rattle.protocol.proofs.Waiting.{in_state}

-- a script's parts do not tell states
pub alike_set : (parts : List OpenPart) (p : ℕ) (part : OpenPart) (state : PartState) (ps : List Part) → slice_get parts p ≡ Some part → AlikeParts parts ps → AlikeParts (set parts p (in_state state part)) ps
alike_set [] p part state ps e a = a
alike_set (o ∷ os) p part state [] e a = absurd a
alike_set (o ∷ os) zero part state (q ∷ ps) e a = let same = same_Some o part e in (ap (λ x. x.service) (sym same) ∙ a.0, ap (λ x. x.operations) (sym same) ∙ a.1, a.2)
alike_set (o ∷ os) (suc p) part state (q ∷ ps) e a = (a.0, a.1, alike_set os p part state ps e a.2)

-- an open part and the entry's part at its place
alike_long : (os : List OpenPart) (ps : List Part) → AlikeParts os ps → length os ≡ length ps
alike_long [] [] a = refl
alike_long [] (q ∷ ps) a = absurd a
alike_long (o ∷ os) [] a = absurd a
alike_long (o ∷ os) (q ∷ ps) a = ap suc (alike_long os ps a.2)

alike_at : (os : List OpenPart) (ps : List Part) (j : ℕ) (o : OpenPart) (p : Part) → AlikeParts os ps → slice_get os j ≡ Some o → slice_get ps j ≡ Some p → (p.service ≡ o.service) × (p.operations ≡ o.operations)
alike_at [] ps j o p a e f = absurd (none-some o e)
alike_at (x ∷ os) [] j o p a e f = absurd a
alike_at (x ∷ os) (y ∷ ps) zero o p a e f =
    let mine = same_Some x o e in
    let its = same_Some y p f in
    (ap (λ z. z.service) (sym its) ∙ sym a.0 ∙ ap (λ z. z.service) mine, ap (λ z. z.operations) (sym its) ∙ sym a.1 ∙ ap (λ z. z.operations) mine)
alike_at (x ∷ os) (y ∷ ps) (suc j) o p a e f = alike_at os ps j o p a.2 e f

pub entry_part : (os : List OpenPart) (ps : List Part) (j : ℕ) (o : OpenPart) → AlikeParts os ps → slice_get os j ≡ Some o → (p : Part) × (slice_get ps j ≡ Some p) × (p.service ≡ o.service) × (p.operations ≡ o.operations)
entry_part os ps j o a e =
    let (p, f) = beside os ps j o (alike_long os ps a) e in
    let (service, does) = alike_at os ps j o p a e f in
    (p, f, service, does)

pub open_part : (os : List OpenPart) (ps : List Part) (j : ℕ) (p : Part) → AlikeParts os ps → slice_get ps j ≡ Some p → (o : OpenPart) × (slice_get os j ≡ Some o) × (o.service ≡ p.service)
open_part os ps j p a f = let (o, e) = beside ps os j p (sym (alike_long os ps a)) f in (o, e, sym (alike_at os ps j o p a e f).0)

-- where all have replied each has
pub replied_at : (os : List OpenPart) (j : ℕ) (o : OpenPart) → all_replied os ≡ true → slice_get os j ≡ Some o → o.state ≡ Replied
replied_at [] j o all e = grind arith
replied_at (x ∷ os) j o all e = go x.state refl j e (λ i. replied_at os i o)
  where
    go : (state : PartState) → x.state ≡ state → (i : ℕ) → slice_get (x ∷ os) i ≡ Some o → ((k : ℕ) → all_replied os ≡ true → slice_get os k ≡ Some o → o.state ≡ Replied) → o.state ≡ Replied
    go Unsent f i e ih = grind (arith, nat_tests)
    go Waiting f i e ih = grind (arith, nat_tests)
    go Replied f zero e ih = ap (λ y. y.state) (sym (same_Some x o e)) ∙ f
    go Replied f (suc k) e ih = ih k (grind (arith, nat_tests)) e
    go TimedOut f i e ih = grind (arith, nat_tests)

-- no two parts are for one service
abbrev pub Distinct : List Part → Type 0
Distinct ps = (i j : ℕ) (p q : Part) → slice_get ps i ≡ Some p → slice_get ps j ≡ Some q → p.service ≡ q.service → i ≡ j

pub distinct_alike : (services : ℕ) (os : List OpenPart) (ps : List Part) → OpenParts services os → AlikeParts os ps → Distinct ps
distinct_alike services os ps o a i j p q e f same =
    let (x, here, like) = open_part os ps i p a e in
    let (y, there, alike) = open_part os ps j q a f in
    o.apart i j x y here there (like ∙ same ∙ sym alike)

pub apart_distinct : (ps : List Part) → Distinct ps → Apart ps
apart_distinct [] d = tt
apart_distinct (p ∷ ps) d = (
  all_at (λ q. q.service ≢ p.service) ps (λ j q e same. let z = d 0 (suc j) p q refl e (sym same) in omega arith),
  apart_distinct ps (λ i j q r e f same. let z = d (suc i) (suc j) q r e f same in omega arith),
)

pub each_right : (noted : ℕ → Option (List ℕ)) (i : ℕ) (ps : List Part) (stores : BankModel) → ((j k : ℕ) (p : Part) → k ≡ i + j → slice_get ps j ≡ Some p → ((run_in_trial p.service p.operations stores).vote ≡ Yes) × (noted k ≡ Some (run_in_trial p.service p.operations stores).looks)) → EachRight noted i ps stores
each_right noted i [] stores each = tt
each_right noted i (p ∷ ps) stores each =
    let here = each 0 i p (omega arith) refl in
    (here.0, here.1, each_right noted (suc i) ps stores (λ j k q e f. each (suc j) k q (omega arith) f))

-- a part for the service, or none
pub find_part : (v : ℕ) (ps : List Part) → ((operations : List Operation) × HasPart ps v operations) ⊎ Elsewhere v ps
find_part v [] = inr tt
find_part v (p ∷ ps) = go (cases_eq p.service v) (find_part v ps)
  where
    go : (p.service ≡ v) ⊎ (p.service ≡ v → ⊥) → ((operations : List Operation) × HasPart ps v operations) ⊎ Elsewhere v ps → ((operations : List Operation) × HasPart (p ∷ ps) v operations) ⊎ Elsewhere v (p ∷ ps)
    go (inl same) rest = inl (p.operations, record { place = 0; part = p; there = refl; service = same; does = refl })
    go (inr other) (inl (operations, h)) = inl (operations, record { place = suc h.place; part = h.part; there = h.there; service = h.service; does = h.does })
    go (inr other) (inr e) = inr (other, e)
