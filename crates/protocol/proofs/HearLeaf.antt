-- HEAR keeps the invariant: a decision discarded changes nothing, one obeyed ends what its service holds.
use Rattle.std.proofs.Common.{◌≡◌, ℕ, Bool, true, false, List, ◌∷◌, Some, sym, refl, ap, ◌∙◌, arith}
use Rattle.std.proofs.lemmas.Bool.Decides.{nat_tests}
use Rattle.std.specs.List.{slice_get}
use Rattle.stores.specs.Store.{StoreModel, Trial, Step, with_committed, commit_step, roll_back_step}
use Rattle.banks.specs.Bank.{BankModel, at_store}
use Rattle.banks.proofs.OneStore.{bank_laws}
use Rattle.pools.specs.Pools.{nth_fitting, without_nth}
use Rattle.protocol.specs.Calls.{with_decisions, is_for, ended}
use Rattle.protocol.specs.Kept.{Kept}
use Rattle.protocol.specs.Law.{settled_by}
use Rattle.protocol.specs.Ledger.{Ledger, with_engagement, with_act, put_at}
use Rattle.protocol.specs.Ledger.Engagement.{off, engaged}
use Rattle.protocol.specs.Runs.Call.{HEAR}
use Rattle.protocol.specs.Site.{Site, Transaction, Hold, Decision, decision_for}
use Rattle.protocol.specs.Site.Service.{down, promised}
use Rattle.protocol.proofs.Guards.{by_hear}
use Rattle.protocol.proofs.Invariant.{named, fate_of, fate_decided, entries, Held, Decides, Inv, KeptAfter, Keeps}
use Rattle.protocol.proofs.OpenTrials.{working_open, commit_settles, roll_back_settles}
use Rattle.protocol.proofs.Phases.{moved_site, moved, asks_stay}
use Rattle.protocol.proofs.Pieces.{pools_keep}
use Rattle.protocol.proofs.Tables.{beside, put_here, put_there}
use Rattle.protocol.proofs.Taking.{taken_found, left_found}

same_name : (t : Transaction) (d : Decision) → is_for t d ≡ true → t ≡ named d.client d.number
same_name t d yes_for =
    let client : t.client ≡ d.client = grind (arith, nat_tests) in
    let number : t.number ≡ d.number = grind (arith, nat_tests) in
    λ i. record { client = client i; number = number i }

module _ (v n : ℕ) (start : BankModel) (s : Site) (l : Ledger) (N : ℕ → Transaction) (k : Kept s) (I : Inv start s l N) (d : Decision) (taken : nth_fitting decision_for v n s.decisions ≡ Some d) where
  -- the decisions that are left
  abbrev left : List Decision
  left = without_nth decision_for v n s.decisions

  left_told : (j : ℕ) (x : Decision) → slice_get left j ≡ Some x → Decides (entries N l) x
  left_told j x e = let was = left_found decision_for v n x s.decisions j e in I.tells was.place x was.there

  drops : Inv start (with_decisions left s) l N
  drops = pools_keep start s l N s.replies left I.says left_told I

  obeys : (hold : Hold) (b : Bool) (step : StoreModel → Step (Unit {0})) → slice_get s.services v ≡ Some (promised hold) → is_for hold.transaction d ≡ true → d.commits ≡ b → ((m : StoreModel) (t : Trial) → m.trial ≡ Some t → (step m).next ≡ with_committed (settled_by (fate_of b) m) m) → Inv start (moved_site s v down s.requests left (at_store v step s.stores).next) (Rattle.protocol.specs.Ledger.ended v b l) N
  obeys hold b step there is_its commits settles =
      let (m, stored) = beside s.services s.stores v (promised hold) k.services there in
      let held : Held (entries N l) v hold (l.service v) m = I.fits v (promised hold) m there stored in
      let was = taken_found decision_for v n d s.decisions taken in
      let decides = I.tells was.place d was.there in
      let same : decides.entry ≡ held.entry = I.unique decides.entry held.entry decides.entered held.entered (decides.name ∙ sym (same_name hold.transaction d is_its) ∙ sym held.name) in
      let fate : l.fate held.entry ≡ fate_of b = ap l.fate (sym same) ∙ decides.fate ∙ ap fate_of commits in
      let (t, is_open) = working_open held.operations m held.working in
      rw (held.is_engaged, Rattle.protocol.specs.Ledger.ended)
      (moved start s l N v down s.requests left (at_store v step s.stores).next (put_at l.service v off) (record { entry = held.entry; commits = b } ∷ l.acts) k I (record {
        old = promised hold;
        was = m;
        now = with_committed (settled_by (fate_of b) m) m;
        there = there;
        store_was = stored;
        store_now = bank_laws.next_is_store's v step s.stores m stored ∙ ap Some (settles m t is_open);
        others_stay = λ u other. bank_laws.others_stay v u step s.stores other;
        others_engaged = λ u other. put_there l.service v u off other;
        not_awaited = λ c client ps other is_there opened phases names.
            let o = I.opens c client ps is_there opened in
            let holds : hold ≡ other = cc in
            let alike : held.entry ≡ o.entry = I.unique held.entry o.entry held.entered o.entered (held.name ∙ ap (λ x. x.transaction) holds ∙ names ∙ sym o.name) in
            fate_decided b (sym fate ∙ ap l.fate alike ∙ o.pending);
        fits_now = (put_here l.service v off, refl);
        settles = rw (put_here l.service v off, held.is_engaged, fate) refl;
        asked = asks_stay start s l N v (promised hold) off k I there (λ e. grind arith);
        told = left_told;
        done = ((held.entered, fate), I.done);
      }))

pub hear_keeps : (v n : ℕ) → Keeps (HEAR v n)
hear_keeps v n start s l N k I =
    by_hear s (KeptAfter start s l (HEAR v n)) (λ _ _. (N, I)) v n (λ d taken. (N, drops v n start s l N k I d taken))
    (λ hold d taken there is_its. ends hold d taken there is_its d.commits refl)
  where
    ends : (hold : Hold) (d : Decision) → nth_fitting decision_for v n s.decisions ≡ Some d → slice_get s.services v ≡ Some (promised hold) → is_for hold.transaction d ≡ true → (b : Bool) → d.commits ≡ b → KeptAfter start s l (HEAR v n) (ended v b (with_decisions (without_nth decision_for v n s.decisions) s))
    ends hold d taken there is_its true commits = (N, obeys v n start s l N k I d taken hold true commit_step there is_its commits commit_settles)
    ends hold d taken there is_its false commits = (N, obeys v n start s l N k I d taken hold false roll_back_step there is_its commits roll_back_settles)
