-- READY and DOWN keep the invariant: the service has nothing in hand.
use Rattle.std.proofs.Common.{◌≡◌, ℕ, Some, refl, arith}
use Rattle.std.specs.List.{slice_get}
use Rattle.stores.specs.Store.{StoreModel}
use Rattle.banks.specs.Bank.{BankModel}
use Rattle.protocol.specs.Calls.{with_service}
use Rattle.protocol.specs.Kept.{Kept}
use Rattle.protocol.specs.Ledger.{Ledger, Engagement, put_at, with_engagement}
use Rattle.protocol.specs.Ledger.Engagement.{off, on}
use Rattle.protocol.specs.Runs.Call.{READY, DOWN}
use Rattle.protocol.specs.Site.{Site, Transaction, Hold, Service}
use Rattle.protocol.specs.Site.Service.{down, ready, given, promised}
use Rattle.protocol.proofs.Guards.{by_ready, by_down}
use Rattle.protocol.proofs.Invariant.{entries, Fits, settled_store, Inv, KeptAfter, Keeps}
use Rattle.protocol.proofs.Phases.{asks_stay, phase_keeps}
use Rattle.protocol.proofs.Tables.{put_here, put_there}

-- a service with nothing in hand goes to a phase that fits wherever the old one did
idle_moved : (start : BankModel) (s : Site) (l : Ledger) (N : ℕ → Transaction) (v : ℕ) (old new : Service) (e : Engagement) → Kept s → Inv start s l N → slice_get s.services v ≡ Some old → (old ≡ given → ⊥) → ((hold : Hold) → old ≡ promised hold → ⊥) → ((m : StoreModel) → Fits (entries N l) v old (l.service v) m → Fits (entries N l) v new e m × (settled_store l e m ≡ settled_store l (l.service v) m)) → Inv start (with_service v new s) (with_engagement v e l) N
idle_moved start s l N v old new e k I there not_given not_promised fitting =
    phase_keeps start s l N v old new s.requests (put_at l.service v e) k I there not_promised (λ u other. put_there l.service v u e other)
    (λ m f. rw (put_here l.service v e) (fitting m f)) (asks_stay start s l N v old e k I there not_given)

pub ready_keeps : (v : ℕ) → Keeps (READY v)
ready_keeps v start s l N k I =
    by_ready s (KeptAfter start s l (READY v)) (λ _ _. (N, I)) v (λ there. (N, idle_moved start s l N v down ready on k I there (λ e. grind arith) (λ hold e. grind arith) (λ m f. ((refl, f.1), rw f.0 refl))))

pub down_keeps : (v : ℕ) → Keeps (DOWN v)
down_keeps v start s l N k I =
    by_down s (KeptAfter start s l (DOWN v)) (λ _ _. (N, I)) v (λ there. (N, idle_moved start s l N v ready down off k I there (λ e. grind arith) (λ hold e. grind arith) (λ m f. ((refl, f.1), rw f.0 refl))))
