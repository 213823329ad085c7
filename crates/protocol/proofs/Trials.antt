-- A service's trial is open just while it holds what it has worked for: it holds of an opened site, and every call keeps it.
use Rattle.std.proofs.Common.{◌≡◌, ℕ, Bool, true, false, ◌≢◌, List, length, set, is_some, Some, None, Option, sym, refl, ap, ◌∙◌}
use Rattle.std.proofs.lemmas.Option.{same_Some}
use Rattle.std.specs.List.{slice_get}
use Rattle.stores.specs.Pairs.{Pairs}
use Rattle.stores.specs.Store.{StoreModel, Trial, Step, commit_step, roll_back_step}
use Rattle.banks.specs.Bank.{BankModel, at_store}
use Rattle.banks.proofs.OneStore.{bank_laws, nth_set_same, nth_set_other}
use Rattle.pools.specs.Pools.{without_nth}
use Rattle.scripts.specs.declared.types.Operation.{Operation}
use Rattle.protocol.specs.declared.types.PartState.TheVariants.{Waiting}
use Rattle.protocol.specs.Site.{Service, Hold, Site, decision_for, opened_site}
use Rattle.protocol.specs.Site.Service.{down, ready, given, holding, promised}
use Rattle.protocol.specs.Calls.{Outcome, with_service, with_decisions, with_state, slot_of, run_in_trial, ended}
use Rattle.protocol.specs.Kept.{Kept}
use Rattle.protocol.specs.Never.{held_slot}
use Rattle.protocol.specs.Runs.{Call, perform, play}
use Rattle.protocol.specs.Runs.Call.{ORDER, SEND, GET, EXPIRE, DECIDE, READY, DOWN, WORK, REPLY, HEAR}
use Rattle.protocol.proofs.EveryRun.{rolled_back, closed_stores}
use Rattle.protocol.proofs.Guards.{by_posted, by_replied, by_order, by_send, by_get, by_expire, by_decide, by_ready, by_down, by_work, by_reply, by_hear}
use Rattle.protocol.proofs.OpenTrials.{working_open, tried_rest, closed_rest}
use Rattle.protocol.proofs.KeptFacts.{played_too}
use Rattle.protocol.proofs.SingleFile.{tried, in_trial_is}
use Rattle.protocol.proofs.Tables.{is_none, beside, copied, by_place}

-- whether a service has worked and not yet heard
abbrev pub at_work : Service → Bool
at_work down = false
at_work ready = false
at_work given = false
at_work (holding _) = true
at_work (promised _) = true

abbrev TrialsAmong : List Service → BankModel → Type 0
TrialsAmong services stores = (v : ℕ) (x : Service) → slice_get services v ≡ Some x → (m : StoreModel) → slice_get stores v ≡ Some m → is_some m.trial ≡ at_work x

abbrev pub Trials : Site → Type 0
Trials s = TrialsAmong s.services s.stores

-- it holds of the site that a call leaves
abbrev After : Outcome → Type 0
After o = Trials o.next

-- a service in another phase, and its store with it
trials_moved : (v : ℕ) (old new : Service) (services : List Service) (stores then : BankModel) → slice_get services v ≡ Some old → ((m : StoreModel) → slice_get then v ≡ Some m → is_some m.trial ≡ at_work new) → ((u : ℕ) → u ≢ v → slice_get then u ≡ slice_get stores u) → TrialsAmong services stores → TrialsAmong (set services v new) then
trials_moved v old new services stores then there here others t =
    by_place (λ u x. (m : StoreModel) → slice_get then u ≡ Some m → is_some m.trial ≡ at_work x) services v old new there here
    (λ u x apart e m f. t u x e m (sym (others u apart) ∙ f))

trials_phase : (v : ℕ) (old new : Service) (services : List Service) (stores : BankModel) → slice_get services v ≡ Some old → at_work old ≡ at_work new → TrialsAmong services stores → TrialsAmong (set services v new) stores
trials_phase v old new services stores there same t = trials_moved v old new services stores stores there (λ m e. t v old there m e ∙ same) (λ u _. refl) t

-- a commit leaves the trial closed
commit_closed : (capacity : ℕ) (committed : Pairs) (o : Option Trial) → is_some (commit_step (record { capacity = capacity; committed = committed; trial = o })).next.trial ≡ false
commit_closed capacity committed None = refl
commit_closed capacity committed (Some t) = refl

-- a site as it is opened
pub trials_opened : (firsts : List ℕ) (stores : BankModel) → Trials (opened_site firsts stores)
trials_opened firsts stores v x e m f =
    ap is_some (closed_stores stores v m f) ∙ sym (ap at_work (copied (length stores) down v x e))

-- a service works: its trial is begun, and stays open
trials_worked : (v : ℕ) (hold : Hold) (operations : List Operation) (s : Site) → slice_get s.services v ≡ Some given → Kept s → Trials s → TrialsAmong (set s.services v (holding hold)) (run_in_trial v operations s.stores).next
trials_worked v hold operations s there k t =
    let (m, stored) = beside s.services s.stores v given k.services there in
    let closed = is_none m.trial (t v given there m stored) in
    let is = ap (λ r. r.next) (in_trial_is v operations s.stores m stored closed) in
    let (trial, is_open) = working_open operations (tried operations m).next (ap (λ x. (tried operations x).next) (sym (tried_rest operations m ∙ closed_rest m closed))) in
    trials_moved v given (holding hold) s.services s.stores _ there
    (λ n e.
    let same = same_Some n _ (sym e ∙ ap (λ l. slice_get l v) is ∙ nth_set_same s.stores v m (tried operations m).next stored) in
    ap (λ x. is_some x.trial) same ∙ ap is_some is_open)
    (λ u apart. ap (λ l. slice_get l u) is ∙ nth_set_other s.stores v u (tried operations m).next apart) t

-- a service ends what it held, and its trial is closed
trials_stepped : (v : ℕ) (old : Service) (step : StoreModel → Step (Unit {0})) (s : Site) → ((m : StoreModel) → is_some (step m).next.trial ≡ false) → slice_get s.services v ≡ Some old → length s.services ≡ length s.stores → Trials s → TrialsAmong (set s.services v down) (at_store v step s.stores).next
trials_stepped v old step s closes there size t =
    let (m, stored) = beside s.services s.stores v old size there in
    trials_moved v old down s.services s.stores _ there
    (λ n e.
    let same = same_Some n _ (sym e ∙ bank_laws.next_is_store's v step s.stores m stored) in
    ap (λ x. is_some x.trial) same ∙ closes m)
    (λ u apart. bank_laws.others_stay v u step s.stores apart) t

trials_ended : (v : ℕ) (hold : Hold) (commits : Bool) (s : Site) → slice_get s.services v ≡ Some (promised hold) → length s.services ≡ length s.stores → Trials s → After (ended v commits s)
trials_ended v hold true s = trials_stepped v (promised hold) commit_step s (λ m. commit_closed m.capacity m.committed m.trial)
trials_ended v hold false s = trials_stepped v (promised hold) roll_back_step s (λ m. ap is_some (rolled_back m.capacity m.committed m.trial))

pub trials_call : (call : Call) (s : Site) → Kept s → Trials s → Trials (perform call s).next
trials_call (ORDER c script) s k t = by_order s After (λ _ _. t) c script (λ _ _ _ _ _. t)
trials_call (SEND c p) s k t =
    by_send s After (λ _ _. t) c p (λ client parts part _ _ _ _.
    by_posted (slot_of c client part) part.operations (with_state c p Waiting client parts part s) Trials t (λ is_ready. trials_phase part.service ready given _ _ is_ready refl t))
trials_call (GET c p room) s k t = by_get s After (λ _ _. t) c p room (λ _ _ _ _ _ _ _. t) (λ _ _ _ _ _ _ _ _ _ _ _. t)
trials_call (EXPIRE c p) s k t = by_expire s After (λ _ _. t) c p (λ _ _ _ _ _ _ _. t)
trials_call (DECIDE c wish) s k t = by_decide s After (λ _ _. t) c wish (λ _ _ _ _ _. t)
trials_call (READY v) s k t = by_ready s After (λ _ _. t) v (λ there. trials_phase v down ready _ _ there refl t)
trials_call (DOWN v) s k t = by_down s After (λ _ _. t) v (λ there. trials_phase v ready down _ _ there refl t)
trials_call (WORK v) s k t = by_work s After (λ _ _. t) v (λ request there _. trials_worked v _ request.operations s there k t)
trials_call (REPLY v passed) s k t =
    by_reply s After (λ _ _. t) v passed (λ hold there.
    by_replied (held_slot v hold) _ s (λ next. Trials (with_service v (promised hold) next)) (trials_phase v (holding hold) (promised hold) _ _ there refl t)
    (λ _ _. trials_phase v (holding hold) (promised hold) _ _ there refl t))
trials_call (HEAR v n) s k t =
    by_hear s After (λ _ _. t) v n (λ _ _. t)
    (λ hold d _ there _. trials_ended v hold d.commits (with_decisions (without_nth decision_for v n s.decisions) s) there k.services t)

pub trials_played : (calls : List Call) (s : Site) → Kept s → Trials s → Trials (play calls s).site
trials_played = played_too Trials trials_call
