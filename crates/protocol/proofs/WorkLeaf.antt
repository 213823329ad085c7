-- WORK keeps the invariant: the service that was given a request holds what the request's operations make of its store.
use Rattle.std.proofs.Common.{◌≡◌, ℕ, set, Some, None, sym, refl, ap, ◌∙◌, subst, arith}
use Rattle.std.proofs.lemmas.Bool.{eqb-true}
use Rattle.std.specs.List.{slice_get}
use Rattle.stores.specs.Store.{StoreModel}
use Rattle.banks.specs.Bank.{BankModel}
use Rattle.banks.proofs.OneStore.{nth_set_same, nth_set_other}
use Rattle.pools.specs.Pools.{nth_fitting, without_nth}
use Rattle.parts.specs.Runs.{BankRun}
use Rattle.protocol.specs.Calls.{run_in_trial, with_service, with_requests, with_stores}
use Rattle.protocol.specs.Law.{settled_by}
use Rattle.protocol.specs.Ledger.{Ledger, Fate}
use Rattle.protocol.specs.Ledger.Engagement.{engaged}
use Rattle.protocol.specs.Ledger.Fate.{undecided, to_commit, to_abort}
use Rattle.protocol.specs.Runs.Call.{WORK}
use Rattle.protocol.specs.Site.{Site, Transaction, Hold, Request, request_for}
use Rattle.protocol.specs.Site.Service.{given, holding}
use Rattle.protocol.specs.Kept.{Kept}
use Rattle.protocol.proofs.Guards.{by_work}
use Rattle.protocol.proofs.Invariant.{Inv, KeptAfter, Keeps, Given, Held, HasPart, at_rest, entries, named, settled_store}
use Rattle.protocol.proofs.OpenTrials.{tried_rest, closed_rest}
use Rattle.protocol.proofs.Phases.{moved}
use Rattle.protocol.proofs.SingleFile.{tried, in_trial_is}
use Rattle.protocol.proofs.Tables.{beside}
use Rattle.protocol.proofs.Taking.{taken_found, taken_fits, left_found}

-- an entry that is not to commit leaves its service the pairs at rest
unsettled_by : (f : Fate) (m : StoreModel) → (f ≡ to_commit → ⊥) → settled_by f m ≡ m.committed
unsettled_by undecided m unrun = refl
unsettled_by to_commit m unrun = absurd (unrun refl)
unsettled_by to_abort m unrun = refl

unsettled : (l : Ledger) (t : ℕ) (m : StoreModel) → (l.fate t ≡ to_commit → ⊥) → settled_store l (engaged t) m ≡ at_rest m
unsettled l t m unrun = ap (λ pairs. record { capacity = m.capacity; committed = pairs; trial = None }) (unsettled_by (l.fate t) m unrun)

-- a service that was given a request, and the request
module _ (start : BankModel) (s : Site) (l : Ledger) (N : ℕ → Transaction) (k : Kept s) (I : Inv start s l N) (v : ℕ) (r : Request) (m : StoreModel) (there : slice_get s.services v ≡ Some given) (stored : slice_get s.stores v ≡ Some m) (taken : nth_fitting request_for v 0 s.requests ≡ Some r) where
  -- the site once it has worked, by what its run came to
  abbrev worked_site : BankRun → Site
  worked_site run = with_stores run.next (with_requests (without_nth request_for v 0 s.requests) (with_service v (holding (record { transaction = named r.client r.number; vote = run.vote; looks = run.looks })) s))

  abbrev held_then : Hold
  held_then = record { transaction = named r.client r.number; vote = (tried r.operations m).vote; looks = (tried r.operations m).looks }

  abbrev store_then : StoreModel
  store_then = (tried r.operations m).next

  abbrev was_given : Given (entries N l) v (l.service v) m
  was_given = I.fits v given m there stored

  back : at_rest store_then ≡ m
  back = tried_rest r.operations m ∙ closed_rest m was_given.closed

  holds : Held (entries N l) v held_then (l.service v) store_then
  holds =
      let was = taken_found request_for v 0 r s.requests taken in
      let asked = I.asks was.place r was.there in
      let here : r.service ≡ v = eqb-true r.service v (taken_fits request_for v 0 r s.requests taken) in
      record {
        entry = asked.entry;
        operations = r.operations;
        is_engaged = ap l.service (sym here) ∙ asked.is_engaged;
        entered = asked.entered;
        name = asked.name;
        has_part = subst (λ x. HasPart (l.parts asked.entry) x r.operations) here asked.has_part;
        vote = ap (λ x. (tried r.operations x).vote) (sym back);
        looks = ap (λ x. (tried r.operations x).looks) (sym back);
        working = ap (λ x. (tried r.operations x).next) (sym back);
      }

  settles : settled_store l (l.service v) store_then ≡ settled_store l (l.service v) m
  settles =
      rw was_given.is_engaged
      (unsettled l was_given.entry store_then was_given.unrun ∙ tried_rest r.operations m ∙ sym (unsettled l was_given.entry m was_given.unrun))

  worked_keeps : Inv start (worked_site (run_in_trial v r.operations s.stores)) l N
  worked_keeps =
      subst (λ run. Inv start (worked_site run) l N) (sym (in_trial_is v r.operations s.stores m stored was_given.closed))
      (moved start s l N v (holding held_then) (without_nth request_for v 0 s.requests) s.decisions (set s.stores v store_then) l.service l.acts k I (record {
        old = given;
        was = m;
        now = store_then;
        there = there;
        store_was = stored;
        store_now = nth_set_same s.stores v m store_then stored;
        others_stay = λ u other. nth_set_other s.stores v u store_then other;
        others_engaged = λ u _. refl;
        not_awaited = λ c client ps hold _ _ phases _. grind arith;
        fits_now = holds;
        settles = settles;
        asked = λ j q e. let was = left_found request_for v 0 q s.requests j e in I.asks was.place q was.there;
        told = I.tells;
        done = I.done;
      }))

pub work_keeps : (v : ℕ) → Keeps (WORK v)
work_keeps v start s l N k I =
    by_work s (KeptAfter start s l (WORK v)) (λ _ _. (N, I)) v (λ r there taken.
    let (m, stored) = beside s.services s.stores v given k.services there in
    (N, worked_keeps start s l N k I v r m there stored taken))
