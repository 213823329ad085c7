-- The single-file run, part by part: a part concerns the store of its service alone.
use Rattle.std.proofs.Common.{◌≡◌, ℕ, zero, suc, ◌≢◌, List, [], ◌∷◌, set, Some, None, Ok, Err, Option, sym, refl, ap, ◌∙◌, arith, set-set}
use Rattle.std.specs.List.{slice_get, AllByRecursion}
use Rattle.std.proofs.ByRecursion.{All-weaker}
use Rattle.std.proofs.lemmas.Option.{none-some, same_Some}
use Rattle.stores.specs.Pairs.{Pairs}
use Rattle.stores.specs.Store.{StoreModel, Trial, begin_step, commit_step}
use Rattle.banks.specs.Bank.{BankModel, BankStep, at_store, from_store}
use Rattle.banks.specs.Joined.{at_some}
use Rattle.banks.proofs.OneStore.{nth_set_same, nth_set_other}
use Rattle.scripts.specs.declared.types.Operation.{Operation}
use Rattle.scripts.specs.Reading.{Part}
use Rattle.parts.specs.declared.votes.Vote.TheVariants.{Yes, No}
use Rattle.parts.specs.declared.votes.Cause.TheVariants.{ByBank}
use Rattle.parts.specs.Runs.{BankRun, PartRun, run_part, run_part_at}
use Rattle.protocol.specs.Calls.{run_in_trial}
use Rattle.protocol.specs.Law.{commit_part, commit_parts, PartsRight}
use Rattle.protocol.proofs.Tables.{all_at, at_place}

-- a part run in a trial begun on a store
abbrev pub tried : List Operation → StoreModel → PartRun
tried operations m = run_part operations (begin_step m).next

-- the store once that trial has committed
abbrev pub kept : List Operation → StoreModel → StoreModel
kept operations m = (commit_step (tried operations m).next).next

begin_accepted : (capacity : ℕ) (committed : Pairs) (o : Option Trial) → o ≡ None → (begin_step (record { capacity = capacity; committed = committed; trial = o })).answer ≡ Ok tt
begin_accepted capacity committed None e = refl
begin_accepted capacity committed (Some t) e = grind arith

module _ (v : ℕ) (operations : List Operation) (stores : BankModel) (m : StoreModel) (there : slice_get stores v ≡ Some m) (closed : m.trial ≡ None) where
  begun : at_store v begin_step stores ≡ record { answer = Ok tt; next = set stores v (begin_step m).next }
  begun =
      at_some v begin_step stores m there
      ∙ ap (λ a. record { answer = from_store a; next = set stores v (begin_step m).next }) (begin_accepted m.capacity m.committed m.trial closed)

  begun_there : slice_get (set stores v (begin_step m).next) v ≡ Some (begin_step m).next
  begun_there = nth_set_same stores v m (begin_step m).next there

  entered : run_in_trial v operations stores ≡ run_part_at v operations (set stores v (begin_step m).next)
  entered = ap from_step begun
    where
      from_step : BankStep (Unit {0}) → BankRun
      from_step r = elim r.answer [ Ok _ ↦ run_part_at v operations r.next | Err why ↦ record { vote = No 0 (ByBank why); looks = []; next = stores } ]

  pub in_trial_is : run_in_trial v operations stores ≡ record { vote = (tried operations m).vote; looks = (tried operations m).looks; next = set stores v (tried operations m).next }
  in_trial_is =
      entered
      ∙ rw (begun_there, run_part_at) (ap (λ ms. record { vote = (tried operations m).vote; looks = (tried operations m).looks; next = ms }) (set-set stores v (begin_step m).next (tried operations m).next))

  committed_is : (at_store v commit_step (run_in_trial v operations stores).next).next ≡ set stores v (kept operations m)
  committed_is =
      ap (λ r. (at_store v commit_step r.next).next) in_trial_is
      ∙ ap (λ r. r.next) (at_some v commit_step (set stores v (tried operations m).next) (tried operations m).next (nth_set_same stores v m (tried operations m).next there))
      ∙ set-set stores v (tried operations m).next (kept operations m)

-- the services of parts are pairwise distinct
abbrev pub Elsewhere : ℕ → List Part → Type 0
Elsewhere v ps = AllByRecursion (λ p. p.service ≢ v) ps

abbrev pub Apart : List Part → Type 0
Apart [] = Unit {0}
Apart (p ∷ ps) = Elsewhere p.service ps × Apart ps

-- a closed store stands there
pub record Closed (v : ℕ) (stores : BankModel) : Type 0 where
  pub store : StoreModel
  pub there : slice_get stores v ≡ Some store
  pub closed : store.trial ≡ None

commit_other : (p : Part) (stores : BankModel) → Closed p.service stores → (v : ℕ) → p.service ≢ v → slice_get (commit_part p stores) v ≡ slice_get stores v
commit_other p stores c v apart =
    ap (λ ms. slice_get ms v) (committed_is p.service p.operations stores c.store c.there c.closed) ∙ nth_set_other stores p.service v _ (λ e. apart (sym e))

-- a part's vote and look numbers depend on its store alone
same_run : (p : Part) (stores others : BankModel) → Closed p.service stores → slice_get others p.service ≡ slice_get stores p.service → ((run_in_trial p.service p.operations others).vote ≡ (run_in_trial p.service p.operations stores).vote) × ((run_in_trial p.service p.operations others).looks ≡ (run_in_trial p.service p.operations stores).looks)
same_run p stores others c e =
    let here = in_trial_is p.service p.operations stores c.store c.there c.closed in
    let there = in_trial_is p.service p.operations others c.store (e ∙ c.there) c.closed in
    (ap (λ r. r.vote) there ∙ sym (ap (λ r. r.vote) here), ap (λ r. r.looks) there ∙ sym (ap (λ r. r.looks) here))

-- every part, each run on the same stores, votes yes and was given its look numbers
abbrev pub EachRight : (ℕ → Option (List ℕ)) → ℕ → List Part → BankModel → Type 0
EachRight noted i [] stores = Unit {0}
EachRight noted i (p ∷ ps) stores =
    ((run_in_trial p.service p.operations stores).vote ≡ Yes)
    × (noted i ≡ Some (run_in_trial p.service p.operations stores).looks)
    × EachRight noted (suc i) ps stores

abbrev pub AllClosed : List Part → BankModel → Type 0
AllClosed ps stores = AllByRecursion (λ p. Closed p.service stores) ps

-- stores that agree on the services of the parts
abbrev Alike : List Part → BankModel → BankModel → Type 0
Alike ps stores others = AllByRecursion (λ p. slice_get others p.service ≡ slice_get stores p.service) ps

each_along : (noted : ℕ → Option (List ℕ)) (i : ℕ) (ps : List Part) (stores others : BankModel) → AllClosed ps stores → Alike ps stores others → EachRight noted i ps stores → EachRight noted i ps others
each_along noted i [] stores others c a r = tt
each_along noted i (p ∷ ps) stores others c a r =
    let same = same_run p stores others c.0 a.0 in
    (same.0 ∙ r.0, r.1 ∙ ap (λ looks. Some looks) (sym same.1), each_along noted (suc i) ps stores others c.1 a.1 r.2)

alike_after : (p : Part) (ps : List Part) (stores : BankModel) → Closed p.service stores → Elsewhere p.service ps → Alike ps stores (commit_part p stores)
alike_after p ps stores c e = All-weaker (λ q. q.service ≢ p.service) (λ q. slice_get (commit_part p stores) q.service ≡ slice_get stores q.service) (λ q other. commit_other p stores c q.service (λ same. other (sym same))) ps e

-- the first part's commit leaves the other parts' stores closed
closed_after : (p : Part) (ps : List Part) (stores : BankModel) → Apart (p ∷ ps) → AllClosed (p ∷ ps) stores → AllClosed ps (commit_part p stores)
closed_after p ps stores apart c =
    all_at (λ q. Closed q.service (commit_part p stores)) ps (λ j q e.
    let was = at_place (λ x. Closed x.service stores) ps j q c.1 e in
    record { store = was.store; there = at_place (λ x. slice_get (commit_part p stores) x.service ≡ slice_get stores x.service) ps j q (alike_after p ps stores c.0 apart.0) e ∙ was.there; closed = was.closed })

-- parts on distinct services do not disturb one another: run one after the other they are as right as each alone
pub parts_right : (noted : ℕ → Option (List ℕ)) (i : ℕ) (ps : List Part) (stores : BankModel) → Apart ps → AllClosed ps stores → EachRight noted i ps stores → PartsRight noted i ps stores
parts_right noted i [] stores apart c r = tt
parts_right noted i (p ∷ ps) stores apart c r =
    (r.0, r.1, parts_right noted (suc i) ps (commit_part p stores) apart.1 (closed_after p ps stores apart c) (each_along noted (suc i) ps stores (commit_part p stores) c.1 (alike_after p ps stores c.0 apart.0) r.2))

-- a service that no part is for keeps its store
pub commit_parts_elsewhere : (v : ℕ) (ps : List Part) (stores : BankModel) → Apart ps → AllClosed ps stores → Elsewhere v ps → slice_get (commit_parts ps stores) v ≡ slice_get stores v
commit_parts_elsewhere v [] stores apart c e = refl
commit_parts_elsewhere v (p ∷ ps) stores apart c e =
    commit_parts_elsewhere v ps (commit_part p stores) apart.1 (closed_after p ps stores apart c) e.1 ∙ commit_other p stores c.0 v e.0

-- the service of a part gets what the part leaves
pub commit_parts_there : (j : ℕ) (p : Part) (ps : List Part) (stores : BankModel) (m : StoreModel) → slice_get ps j ≡ Some p → slice_get stores p.service ≡ Some m → m.trial ≡ None → Apart ps → AllClosed ps stores → slice_get (commit_parts ps stores) p.service ≡ Some (kept p.operations m)
commit_parts_there j p [] stores m e there closed apart c = absurd (none-some p e)
commit_parts_there zero p (q ∷ ps) stores m e there closed apart c =
    let same = same_Some q p e in
    let elsewhere : Elsewhere p.service ps = rw same at apart.0 in
    commit_parts_elsewhere p.service ps (commit_part q stores) apart.1 (closed_after q ps stores apart c) elsewhere
    ∙ ap (λ x. slice_get (commit_part x stores) p.service) same
    ∙ ap (λ ms. slice_get ms p.service) (committed_is p.service p.operations stores m there closed)
    ∙ nth_set_same stores p.service m (kept p.operations m) there
commit_parts_there (suc j) p (q ∷ ps) stores m e there closed apart c =
    let alike = alike_after q ps stores c.0 apart.0 in
    commit_parts_there j p ps (commit_part q stores) m e (at_place (λ x. slice_get (commit_part q stores) x.service ≡ slice_get stores x.service) ps j p alike e ∙ there) closed apart.1 (closed_after q ps stores apart c)
