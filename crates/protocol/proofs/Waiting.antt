-- Which parts of an open transaction wait, before and after one of them changes its state.
use Rattle.std.proofs.Common.{◌≡◌, ℕ, zero, suc, Bool, true, false, ◌≢◌, List, [], ◌∷◌, set, Some, None, sym, refl, ap, ◌∙◌, arith, length-set}
use Rattle.std.proofs.lemmas.Bool.{ne_eqb, eq-eqb}
use Rattle.std.proofs.lemmas.Bool.Decides.{nat_tests}
use Rattle.std.proofs.lemmas.Option.{none-some, same_Some}
use Rattle.std.specs.List.{slice_get}
use Rattle.banks.proofs.OneStore.{nth_set_same}
use Rattle.protocol.specs.declared.types.PartState.{PartState}
use Rattle.protocol.specs.declared.types.PartState.TheVariants.{Unsent, Waiting, Replied, TimedOut}
use Rattle.protocol.specs.Site.{OpenPart}
use Rattle.protocol.specs.Calls.{waits_in, pending_from}
use Rattle.protocol.specs.Kept.{OpenParts}
use Rattle.protocol.proofs.Tables.{by_place}

-- whether a part in this state waits
abbrev pub waits : PartState → Bool
waits state = elim state [ Waiting ↦ true | Unsent ↦ false | Replied ↦ false | TimedOut ↦ false ]

abbrev pub in_state : PartState → OpenPart → OpenPart
in_state state part = record { service = part.service; operations = part.operations; state = state }

-- the first part for a service tells whether it waits
waits_here : (v : ℕ) (part : OpenPart) (parts : List OpenPart) → part.service ≡ v → waits_in v (part ∷ parts) ≡ waits part.state
waits_here v part parts here = rw (eq-eqb part.service v here) refl

waits_there : (v : ℕ) (part : OpenPart) (parts : List OpenPart) → part.service ≢ v → waits_in v (part ∷ parts) ≡ waits_in v parts
waits_there v part parts other = rw (ne_eqb part.service v other) refl

-- the parts behind the first
open_tail : (services : ℕ) (part : OpenPart) (parts : List OpenPart) → OpenParts services (part ∷ parts) → OpenParts services parts
open_tail services part parts o = record {
  few = let f = o.few in omega arith;
  known = λ p. o.known (suc p);
  apart = λ p q part' other e f same. let a = o.apart (suc p) (suc q) part' other e f same in omega arith;
}

-- in an open transaction the part for a service tells alone whether it waits
pub waits_at : (services : ℕ) (parts : List OpenPart) (p : ℕ) (part : OpenPart) → OpenParts services parts → slice_get parts p ≡ Some part → waits_in part.service parts ≡ waits part.state
waits_at services [] p part o e = absurd (none-some part e)
waits_at services (first ∷ parts) zero part o e = rw (same_Some first part e) (waits_here part.service part parts refl)
waits_at services (first ∷ parts) (suc p) part o e =
    waits_there part.service first parts (λ same. let a = o.apart 0 (suc p) first part refl e same in omega arith)
    ∙ waits_at services parts p part (open_tail services first parts o) e

-- a part that changes its state
module _ (services : ℕ) (parts : List OpenPart) (p : ℕ) (part : OpenPart) (state : PartState) (there : slice_get parts p ≡ Some part) where
  from_set : (q : ℕ) (other : OpenPart) → slice_get (set parts p (in_state state part)) q ≡ Some other → (before : OpenPart) × (slice_get parts q ≡ Some before) × (before.service ≡ other.service)
  from_set =
      by_place (λ q other. (before : OpenPart) × (slice_get parts q ≡ Some before) × (before.service ≡ other.service)) parts p part (in_state state part) there
      (part, there, refl) (λ q other _ e. (other, e, refl))

  pub open_set : OpenParts services parts → OpenParts services (set parts p (in_state state part))
  open_set o = record {
    few = rw length-set o.few;
    known = λ q other e. let (before, was, same) = from_set q other e in omega (arith, o.known q before was, same);
    apart = λ q r one other e f alike.
        let (before, was, same) = from_set q one e in
        let (behind, were, like) = from_set r other f in
        o.apart q r before behind was were (same ∙ alike ∙ sym like);
  }

  pub waits_after : OpenParts services parts → waits_in part.service (set parts p (in_state state part)) ≡ waits state
  waits_after o = waits_at services (set parts p (in_state state part)) p (in_state state part) (open_set o) (nth_set_same parts p part (in_state state part) there)

-- the others wait as they did
pub waits_other : (parts : List OpenPart) (p : ℕ) (part : OpenPart) (state : PartState) (v : ℕ) → slice_get parts p ≡ Some part → v ≢ part.service → waits_in v (set parts p (in_state state part)) ≡ waits_in v parts
waits_other [] p part state v e other = refl
waits_other (first ∷ parts) zero part state v e other =
    let same = ap (λ x. x.service) (same_Some first part e) in
    waits_there v (in_state state part) parts (λ s. other (sym s)) ∙ sym (waits_there v first parts (λ s. other (sym s ∙ same)))
waits_other (first ∷ parts) (suc p) part state v e other = let ih = waits_other parts p part state v e other in rw ih refl

-- where no part is pending none waits
pub none_waits : (i v : ℕ) (parts : List OpenPart) → pending_from i parts ≡ None → waits_in v parts ≡ false
none_waits i v [] e = refl
none_waits i v (part ∷ parts) e = go part.state refl (none_waits (suc i) v parts)
  where
    go : (state : PartState) → part.state ≡ state → (pending_from (suc i) parts ≡ None → waits_in v parts ≡ false) → waits_in v (part ∷ parts) ≡ false
    go Unsent f ih = grind (arith, nat_tests)
    go Waiting f ih = grind (arith, nat_tests)
    go Replied f ih = grind (arith, nat_tests)
    go TimedOut f ih = grind (arith, nat_tests)
