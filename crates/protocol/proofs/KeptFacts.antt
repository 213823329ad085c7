-- The kept facts of every run: they hold of an opened site, and every call keeps them, and the number of services.
use Rattle.std.proofs.Common.{◌≡◌, ℕ, zero, suc, ◌<◌, ◌≤◌, Bool, true, false, List, [], ◌∷◌, map, length, replicate, Some, None, sym, refl, ap, ◌∙◌, subst, arith, length-set}
use lib.ListN.{length-map, length-replicate}
use Rattle.std.proofs.lemmas.Bool.{and_right, cases_order}
use Rattle.std.proofs.lemmas.Option.{none-some, same_Some}
use Rattle.std.specs.List.{slice_get}
use Rattle.stores.specs.Store.{begin_step, commit_step, roll_back_step}
use Rattle.banks.specs.Bank.{BankModel, at_store}
use Rattle.banks.proofs.OneStore.{bank_laws}
use Rattle.pools.specs.Pools.{without_nth}
use Rattle.scripts.specs.declared.types.Operation.{Operation}
use Rattle.scripts.proofs.Lawful.{script_laws}
use Rattle.scripts.specs.Laws.{nth_part, LawfulParts}
use Rattle.scripts.specs.Reading.{Part}
use Rattle.parts.specs.Runs.{BankRun}
use Rattle.protocol.specs.declared.types.PartState.TheVariants.{Replied, TimedOut, Waiting}
use Rattle.protocol.specs.Site.{OpenPart, Client, Hold, Site, decision_for, opened_site, Slot}
use Rattle.protocol.specs.Site.Service.{down, ready, holding, promised}
use Rattle.protocol.specs.Calls.{Outcome, with_decisions, slot_of, unsent, run_in_trial, client_waits, ended, with_state, posted}
use Rattle.protocol.specs.Kept.{OpenParts, due, Kept, KeptLaws}
use Rattle.protocol.specs.Runs.{Call, perform, play}
use Rattle.protocol.specs.Runs.Call.{ORDER, SEND, GET, EXPIRE, DECIDE, READY, DOWN, WORK, REPLY, HEAR}
use Rattle.protocol.proofs.Effects.{kept_decisions, kept_stores, kept_phase, kept_served, kept_idle, kept_sent, sent_waits, unsent_none, kept_answered, kept_posted, kept_replied, replied_services, open_waits}
use Rattle.protocol.proofs.Guards.{by_option, by_result, by_posted, by_order, by_send, by_get, by_expire, by_decide, by_ready, by_down, by_work, by_reply, by_hear}
use Rattle.protocol.proofs.Room.{bounds}
use Rattle.protocol.proofs.Tables.{by_map}
use Rattle.protocol.proofs.Waiting.{none_waits}

-- a site as it is opened
due_down : (n v : ℕ) → due (slice_get (replicate n down) v) ≡ 0
due_down zero v = refl
due_down (suc n) zero = refl
due_down (suc n) (suc v) = due_down n v

pub idle_clients : (firsts : List ℕ) (c : ℕ) (k : Client) → slice_get (map (λ first. record { number = first; parts = None }) firsts) c ≡ Some k → k.parts ≡ None
idle_clients firsts = by_map (λ k. k.parts ≡ None) (λ first. record { number = first; parts = None }) firsts (λ _. refl)

pub kept_opened : (firsts : List ℕ) (stores : BankModel) → length firsts ≡ 8 → 1 ≤ length stores → length stores ≤ 8 → Kept (opened_site firsts stores)
kept_opened firsts stores eight some few = record {
  clients = length-map firsts _ ∙ eight;
  services = length-replicate (length stores) down ∙ sym (length-map stores _);
  some = rw length-replicate some;
  few = rw length-replicate few;
  parts = λ c client parts e f. absurd (none-some parts (sym (idle_clients firsts c client e) ∙ f));
  requests = λ v. sym (due_down (length stores) v);
  replies = λ slot. omega arith;
}

-- the parts of an accepted script, as they stand in a new transaction
unsent_at : (parts : List Part) (p : ℕ) (part : OpenPart) → slice_get (map unsent parts) p ≡ Some part → (p < length parts) × ((nth_part parts p).service ≡ part.service)
unsent_at [] p part e = absurd (none-some part e)
unsent_at (first ∷ parts) zero part e = (omega arith, ap (λ x. x.service) (same_Some (unsent first) part e))
unsent_at (first ∷ parts) (suc p) part e = let ih = unsent_at parts p part e in (omega arith, ih.1)

open_read : (services : ℕ) (parts : List Part) → LawfulParts services parts → OpenParts services (map unsent parts)
open_read services parts l = record {
  few = rw length-map l.few;
  known = λ p part e. let at = unsent_at parts p part e in omega (arith, (l.each p at.0).known, at.1);
  apart = λ p q part other e f same.
      let at = unsent_at parts p part e in
      let there = unsent_at parts q other f in
      let alike : (nth_part parts p).service ≡ (nth_part parts q).service = at.1 ∙ same ∙ sym there.1 in
      let before = λ (h : p < q). l.apart p q h there.0 alike in
      let behind = λ (h : q < p). l.apart q p h at.0 (sym alike) in
      omega (arith, cases_order p q);
}

-- the kept facts hold of the site that a call leaves, and it has as many services
abbrev pub After : Site → Outcome → Type 0
After s o = Kept o.next × (length o.next.services ≡ length s.services)

-- a run in a trial leaves as many stores
run_length : (v : ℕ) (operations : List Operation) (stores : BankModel) → length (run_in_trial v operations stores).next ≡ length stores
run_length v operations stores =
    by_result Same (at_store v begin_step stores).answer _ _
    (λ _ _. by_option Same (slice_get (at_store v begin_step stores).next v) _ _ (λ _. begun) (λ _ _. length-set _ _ _ ∙ begun))
    (λ _ _. refl)
  where
    Same : BankRun → Type 0
    Same r = length r.next ≡ length stores

    begun : length (at_store v begin_step stores).next ≡ length stores
    begun = bank_laws.count_stays v begin_step stores

posted_stay : (slot : Slot) (operations : List Operation) (s : Site) → length (posted slot operations s).services ≡ length s.services
posted_stay slot operations s = by_posted slot operations s (λ t. length t.services ≡ length s.services) refl (λ _. length-set _ _ _)

kept_ended : (v : ℕ) (hold : Hold) (commits : Bool) (s : Site) → slice_get s.services v ≡ Some (promised hold) → Kept s → After s (ended v commits s)
kept_ended v hold true s there k = (kept_phase v (promised hold) down _ there refl (kept_stores _ s (bank_laws.count_stays v commit_step s.stores) k), length-set _ _ _)
kept_ended v hold false s there k = (kept_phase v (promised hold) down _ there refl (kept_stores _ s (bank_laws.count_stays v roll_back_step s.stores) k), length-set _ _ _)

pub after_call : (call : Call) (s : Site) → Kept s → After s (perform call s)
after_call (ORDER c script) s k =
    by_order s (After s) (λ _ _. (k, refl)) c script (λ client parts there idle accepted.
    (kept_idle c client _ s there (λ v number. rw (idle, client_waits) (and_right _ false refl)) (λ opened e. subst (OpenParts (length s.services)) (same_Some _ opened e) (open_read _ parts (script_laws.accepted _ script parts accepted))) k, refl))
after_call (SEND c p) s k =
    by_send s (After s) (λ _ _. (k, refl)) c p (λ client parts part there is_open has is_unsent.
    (kept_posted (slot_of c client part) part.operations _ (sent_waits c p client parts part s there is_open has k) (unsent_none c p client parts part s there is_open has k is_unsent) (kept_sent c p client parts part s there is_open has k), posted_stay (slot_of c client part) part.operations (with_state c p Waiting client parts part s)))
after_call (GET c p room) s k =
    by_get s (After s) (λ _ _. (k, refl)) c p room (λ client parts part there is_open has _. (kept_answered c p client parts part s there is_open has k TimedOut refl, refl))
    (λ client parts part there is_open has _ _ _ _ _. (kept_answered c p client parts part s there is_open has k Replied refl, refl))
after_call (EXPIRE c p) s k =
    by_expire s (After s) (λ _ _. (k, refl)) c p (λ client parts part there is_open has _. (kept_answered c p client parts part s there is_open has k TimedOut refl, refl))
after_call (DECIDE c wish) s k =
    by_decide s (After s) (λ _ _. (k, refl)) c wish (λ client parts there is_open none.
    (kept_decisions _ _ (kept_idle c client _ s there (λ v number. open_waits client parts v number is_open ∙ and_right _ _ (none_waits 0 v parts none)) (λ opened e. absurd (none-some opened e)) k), refl))
after_call (READY v) s k = by_ready s (After s) (λ _ _. (k, refl)) v (λ there. (kept_phase v down ready s there refl k, length-set _ _ _))
after_call (DOWN v) s k = by_down s (After s) (λ _ _. (k, refl)) v (λ there. (kept_phase v ready down s there refl k, length-set _ _ _))
after_call (WORK v) s k =
    by_work s (After s) (λ _ _. (k, refl)) v (λ request there waits.
    (kept_stores _ _ (run_length v request.operations s.stores) (kept_served v _ request s there waits k), length-set _ _ _))
after_call (REPLY v passed) s k =
    by_reply s (After s) (λ _ _. (k, refl)) v passed (λ hold there.
    (kept_phase v (holding hold) (promised hold) _ (ap (λ services. slice_get services v) (replied_services _ _ s) ∙ there) refl (kept_replied _ _ s k), length-set _ _ _ ∙ ap length (replied_services _ _ s)))
after_call (HEAR v n) s k =
    by_hear s (After s) (λ _ _. (k, refl)) v n (λ _ _. (kept_decisions _ s k, refl))
    (λ hold d _ there _. kept_ended v hold d.commits (with_decisions (without_nth decision_for v n s.decisions) s) there (kept_decisions _ s k))

pub kept_call : (call : Call) (s : Site) → Kept s → Kept (perform call s).next
kept_call call s k = (after_call call s k).0

pub kept_played : (calls : List Call) (s : Site) → Kept s → Kept (play calls s).site
kept_played [] s k = k
kept_played (call ∷ calls) s k = kept_played calls (perform call s).next (kept_call call s k)

-- what every call of a site with the kept facts keeps holds after every list of calls
pub played_too : (Q : Site → Type 0) → ((call : Call) (s : Site) → Kept s → Q s → Q (perform call s).next) → (calls : List Call) (s : Site) → Kept s → Q s → Q (play calls s).site
played_too Q each [] s k q = q
played_too Q each (call ∷ calls) s k q = played_too Q each calls (perform call s).next (kept_call call s k) (each call s k q)

pub kept_laws : KeptLaws
kept_laws = record { opened = kept_opened; called = kept_call; played = kept_played; bounds = bounds }

-- after every run from an opening
pub kept_always : (firsts : List ℕ) (stores : BankModel) (calls : List Call) → length firsts ≡ 8 → 1 ≤ length stores → length stores ≤ 8 → Kept (play calls (opened_site firsts stores)).site
kept_always firsts stores calls eight some few = kept_played calls _ (kept_opened firsts stores eight some few)
