-- A part's run leaves its trial open, and the capacity and the committed pairs as they were: so its commit keeps what the trial shows.
use Rattle.std.proofs.Common.{◌≡◌, ℕ, suc, ◌+◌, ◌^◌, ltb, List, [], ◌∷◌, Some, None, Ok, Err, Option, Result, sym, refl, ap, ◌∙◌}
use Rattle.std.proofs.lemmas.Bool.{cond_both}
use Rattle.stores.specs.Pairs.{Pairs}
use Rattle.stores.specs.declared.types.StoreRefusal.{StoreRefusal}
use Rattle.stores.specs.Store.{StoreModel, Trial, look, visible, changed, put_in, drop_in, begin_step, commit_step, with_committed, roll_back_step}
use Rattle.scripts.specs.declared.types.Operation.{Operation}
use Rattle.scripts.specs.declared.types.Operation.TheVariants.{Look, Put, Need, Add, Drop}
use Rattle.parts.specs.Runs.{PartRun, run_operation, sum_put, run_from, Done}
use Rattle.protocol.specs.Law.{settled_by}
use Rattle.protocol.specs.Ledger.Fate.{to_commit, to_abort}
use Rattle.protocol.proofs.Guards.{by_result}
use Rattle.protocol.proofs.Invariant.{at_rest}
use Rattle.protocol.proofs.SingleFile.{tried, kept}

-- a store with an open trial
abbrev in_hand : ℕ → Pairs → Trial → StoreModel
in_hand capacity pairs t = record { capacity = capacity; committed = pairs; trial = Some t }

-- the store has its trial open, the capacity and the committed pairs as they were
abbrev StillOpen : ℕ → Pairs → StoreModel → Type 0
StillOpen capacity pairs m = (t : Trial) × (m ≡ in_hand capacity pairs t)

module _ (capacity : ℕ) (pairs : Pairs) where
  changed_open : (r : Result Trial StoreRefusal) (t : Trial) → StillOpen capacity pairs (changed r (in_hand capacity pairs t)).next
  changed_open (Ok u) t = (u, refl)
  changed_open (Err why) t = (t, refl)

  sum_open : (key value : ℕ) (o : Option ℕ) (t : Trial) → StillOpen capacity pairs (sum_put key value o (in_hand capacity pairs t)).next
  sum_open key value None t = (t, refl)
  sum_open key value (Some found) t =
      cond_both (ltb (found + value) (2 ^ 32)) _ _ (λ (d : Done). StillOpen capacity pairs d.next)
      (λ _. changed_open (put_in capacity key (found + value) t) t) (λ _. (t, refl))

  operation_open : (o : Operation) (t : Trial) → StillOpen capacity pairs (run_operation o (in_hand capacity pairs t)).next
  operation_open (Look key) t = (t, refl)
  operation_open (Put key value) t = changed_open (put_in capacity key value t) t
  operation_open (Need key value) t = (t, refl)
  operation_open (Add key value) t = sum_open key value (look key (in_hand capacity pairs t)) t
  operation_open (Drop key) t = changed_open (drop_in key t) t

  run_open : (i : ℕ) (os : List Operation) (t : Trial) → StillOpen capacity pairs (run_from i os (in_hand capacity pairs t)).next
  run_open i [] t = (t, refl)
  run_open i (o ∷ os) t =
      let (u, next) = operation_open o t in
      let (w, last) = run_open (suc i) os u in
      by_result (λ (r : PartRun). StillOpen capacity pairs r.next) (run_operation o (in_hand capacity pairs t)).answer _ _
      (λ _ _. (w, ap (λ m. (run_from (suc i) os m).next) next ∙ last)) (λ _ _. (u, next))

-- a store on which a trial is begun has one open, and so it has when a part was tried there
begin_open : (capacity : ℕ) (pairs : Pairs) (o : Option Trial) → StillOpen capacity pairs (begin_step (record { capacity = capacity; committed = pairs; trial = o })).next
begin_open capacity pairs None = (record { working = pairs; changes = 0 }, refl)
begin_open capacity pairs (Some t) = (t, refl)

tried_open : (operations : List Operation) (m : StoreModel) → StillOpen m.capacity m.committed (tried operations m).next
tried_open operations m =
    let (t, begun) = begin_open m.capacity m.committed m.trial in
    let (u, is) = run_open m.capacity m.committed 0 operations t in
    (u, ap (λ x. (run_from 0 operations x).next) begun ∙ is)

pub working_open : (operations : List Operation) (m : StoreModel) → m ≡ (tried operations (at_rest m)).next → (t : Trial) × (m.trial ≡ Some t)
working_open operations m working = let (t, is) = tried_open operations (at_rest m) in (t, ap (λ x. x.trial) (working ∙ is))

-- at rest it is as it was
pub tried_rest : (operations : List Operation) (m : StoreModel) → at_rest (tried operations m).next ≡ at_rest m
tried_rest operations m = ap at_rest (tried_open operations m).1

pub closed_rest : (m : StoreModel) → m.trial ≡ None → at_rest m ≡ m
closed_rest m closed = λ i. record { capacity = m.capacity; committed = m.committed; trial = sym closed i }

-- the two ends of an open trial leave what is settled by the decision
pub commit_settles : (m : StoreModel) (t : Trial) → m.trial ≡ Some t → (commit_step m).next ≡ with_committed (settled_by to_commit m) m
commit_settles m t is_open = rw (is_open, commit_step, visible) refl

pub roll_back_settles : (m : StoreModel) (t : Trial) → m.trial ≡ Some t → (roll_back_step m).next ≡ with_committed (settled_by to_abort m) m
roll_back_settles m t is_open = rw (is_open, roll_back_step) refl

-- a store that is what a part's run makes of its committed pairs: the trial's commit keeps what it shows
pub kept_shown : (operations : List Operation) (m : StoreModel) → m ≡ (tried operations (at_rest m)).next → kept operations (at_rest m) ≡ record { capacity = m.capacity; committed = visible m; trial = None }
kept_shown operations m working =
    let (t, is_open) = working_open operations m working in
    ap (λ x. (commit_step x).next) (sym working) ∙ commit_settles m t is_open
