-- The law of every run: it holds at the opening, every call keeps what it rests on, and it follows from that.
use Rattle.std.proofs.Common.{◌≡◌, ℕ, Bool, true, false, List, [], ◌∷◌, length, Some, None, Option, sym, refl, ap, ◌∙◌, subst, arith}
use lib.ListN.{length-replicate}
use Rattle.std.proofs.ByRecursion.{All-weaker}
use Rattle.std.proofs.lemmas.Option.{none-some}
use Rattle.std.specs.Option.{option_map}
use Rattle.std.specs.List.{slice_get}
use Rattle.stores.specs.Pairs.{Pairs}
use Rattle.stores.specs.Store.{StoreModel, Trial, roll_back_step}
use Rattle.banks.specs.Bank.{BankModel}
use Rattle.banks.specs.Sweeps.{each_store}
use Rattle.protocol.specs.Kept.{Kept}
use Rattle.protocol.specs.Law.{Law, LawOfEveryRun, Obeyed, tell, settled_pairs}
use Rattle.protocol.specs.Ledger.{Ledger, Engagement, Act, blank, add}
use Rattle.protocol.specs.Ledger.Fate.{to_commit, to_abort}
use Rattle.protocol.specs.Runs.{Call, perform}
use Rattle.protocol.specs.Runs.Call.{ORDER, SEND, GET, EXPIRE, DECIDE, READY, DOWN, WORK, REPLY, HEAR}
use Rattle.protocol.specs.Site.{Site, Transaction, opened_site}
use Rattle.protocol.specs.Site.Service.{down}
use Rattle.protocol.proofs.DecideLeaf.{decide_keeps}
use Rattle.protocol.proofs.GetLeaf.{get_keeps, expire_keeps}
use Rattle.protocol.proofs.HearLeaf.{hear_keeps}
use Rattle.protocol.proofs.Invariant.{Acted, Inv, Keeps, Fits, named, entries, settled_store, fate_of}
use Rattle.protocol.proofs.KeptFacts.{idle_clients, kept_opened, after_call}
use Rattle.protocol.proofs.OpenTrials.{closed_rest}
use Rattle.protocol.proofs.OrderLeaf.{order_keeps}
use Rattle.protocol.proofs.ReplyLeaf.{reply_keeps}
use Rattle.protocol.proofs.SendLeaf.{send_keeps}
use Rattle.protocol.proofs.ServiceLeaves.{ready_keeps, down_keeps}
use Rattle.protocol.proofs.Tables.{copied, by_map}
use Rattle.protocol.proofs.WorkLeaf.{work_keeps}

pub rolled_back : (capacity : ℕ) (committed : Pairs) (o : Option Trial) → (roll_back_step (record { capacity = capacity; committed = committed; trial = o })).next.trial ≡ None
rolled_back capacity committed None = refl
rolled_back capacity committed (Some t) = refl

pub closed_stores : (stores : BankModel) (v : ℕ) (m : StoreModel) → slice_get (each_store roll_back_step stores) v ≡ Some m → m.trial ≡ None
closed_stores stores = by_map (λ m. m.trial ≡ None) (λ m. (roll_back_step m).next) stores (λ m. rolled_back m.capacity m.committed m.trial)

-- closed stores are settled
settled_all : (stores : BankModel) → ((v : ℕ) (m : StoreModel) → slice_get stores v ≡ Some m → m.trial ≡ None) → (v : ℕ) → slice_get stores v ≡ option_map (settled_store blank (blank.service v)) (slice_get stores v)
settled_all stores closed v = go (slice_get stores v) refl
  where
    go : (o : Option StoreModel) → slice_get stores v ≡ o → o ≡ option_map (settled_store blank (blank.service v)) o
    go None e = refl
    go (Some m) e = ap Some (sym (closed_rest m (closed v m e)))

no_names : ℕ → Transaction
no_names t = named 0 0

opened_inv : (firsts : List ℕ) (stores : BankModel) → Inv (each_store roll_back_step stores) (opened_site firsts stores) blank no_names
opened_inv firsts stores = record {
  unique = λ t u below _ _. absurd (omega arith);
  pending_open = λ t k below _ _. absurd (omega arith);
  decided_past = λ t k below _ _. absurd (omega arith);
  fresh = λ t _. refl;
  opens = λ c k ps there is_open. absurd (none-some ps (sym (idle_clients firsts c k there) ∙ is_open));
  answered = λ c t p k ps part there is_open _ _ _. absurd (none-some ps (sym (idle_clients firsts c k there) ∙ is_open));
  fits = λ v x m phase store. subst (λ y. Fits (entries no_names blank) v y (blank.service v) m) (sym (copied (length stores) down v x phase)) (refl, closed_stores stores v m store);
  asks = λ j r e. absurd (none-some r e);
  says = λ j r looks e _. absurd (none-some r e);
  tells = λ j d e. absurd (none-some d e);
  done = tt;
  in_line = tt;
  right = tt;
  settled = settled_all (each_store roll_back_step stores) (closed_stores stores);
}

obeyed_act : (l : Ledger) (a : Act) → Acted l a → Obeyed l a
obeyed_act l a h = go a.commits refl
  where
    apart : to_abort ≡ to_commit → ⊥
    apart q = grind arith

    go : (b : Bool) → a.commits ≡ b → Obeyed l a
    go true e = rw (e, Obeyed) (h.1 ∙ ap fate_of e)
    go false e = rw (e, Obeyed) (λ committed. apart (sym (h.1 ∙ ap fate_of e) ∙ committed))

settled_mapped : (l : Ledger) (e : Engagement) (o : Option StoreModel) → option_map (λ m. m.committed) (option_map (settled_store l e) o) ≡ option_map (settled_pairs l e) o
settled_mapped l e None = refl
settled_mapped l e (Some m) = refl

law_from : (start : BankModel) (s : Site) (l : Ledger) (N : ℕ → Transaction) → Inv start s l N → Law start l s.stores
law_from start s l N I = record {
  obeyed = All-weaker (Acted l) (Obeyed l) (obeyed_act l) l.acts I.done;
  right = I.right;
  settled = λ v. ap (option_map (λ m. m.committed)) (I.settled v) ∙ settled_mapped l (l.service v) (slice_get s.stores v);
}

-- every call keeps the invariant
keeps : (call : Call) → Keeps call
keeps (ORDER c script) = order_keeps c script
keeps (SEND c p) = send_keeps c p
keeps (GET c p room) = get_keeps c p room
keeps (EXPIRE c p) = expire_keeps c p
keeps (DECIDE c wish) = decide_keeps c wish
keeps (READY v) = ready_keeps v
keeps (DOWN v) = down_keeps v
keeps (WORK v) = work_keeps v
keeps (REPLY v passed) = reply_keeps v passed
keeps (HEAR v n) = hear_keeps v n

told_law : (start : BankModel) (services : ℕ) (calls : List Call) (s : Site) (l : Ledger) (N : ℕ → Transaction) → length s.services ≡ services → Kept s → Inv start s l N → Law start (tell services calls s l).ledger (tell services calls s l).site.stores
told_law start services [] s l N size k I = law_from start s l N I
told_law start services (call ∷ calls) s l N size k I =
    let next = keeps call start s l N k I in
    let (kept, stays) = after_call call s k in
    told_law start services calls (perform call s).next (add services call (perform call s).answer l) next.0
    (stays ∙ size) kept (subst (λ n. Inv start (perform call s).next (add n call (perform call s).answer l) next.0) size next.1)

pub law_of_every_run : LawOfEveryRun
law_of_every_run firsts stores calls eight sound =
    told_law (each_store roll_back_step stores) (length stores) calls (opened_site firsts stores) blank no_names
    (length-replicate (length stores) down) (kept_opened firsts stores eight sound.not_empty sound.not_many) (opened_inv firsts stores)
