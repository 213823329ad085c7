-- DECIDE keeps the invariant: what it commits joins the single-file run, and what it aborts leaves no trace there.
use Rattle.std.proofs.Common.{◌≡◌, ℕ, ◌+◌, ◌<◌, Bool, true, false, ◌&&◌, ◌≢◌, ◌⊎◌, List, ◌∷◌, ◌++◌, length, set, is_some, Some, None, Option, sym, refl, ap, ◌∙◌, subst, inl, inr, arith}
use Rattle.std.proofs.ByRecursion.{All-weaker}
use Rattle.std.proofs.lemmas.Bool.{cases_eq, and_parts}
use Rattle.std.proofs.lemmas.Option.{none-some, same_Some}
use Rattle.std.specs.Option.{option_map}
use Rattle.std.specs.List.{slice_get, AllByRecursion}
use Rattle.stores.specs.Store.{StoreModel, visible}
use Rattle.banks.specs.Bank.{BankModel}
use Rattle.scripts.specs.declared.types.Operation.{Operation}
use Rattle.scripts.specs.Reading.{Part}
use Rattle.parts.specs.declared.votes.Vote.TheVariants.{Yes}
use Rattle.protocol.specs.declared.types.PartState.TheVariants.{Replied}
use Rattle.protocol.specs.Calls.{with_client, with_decisions, all_replied, decisions_of}
use Rattle.protocol.specs.Kept.{Kept}
use Rattle.protocol.specs.Law.{commit_parts, PartsRight, LineRight, single_file, settled_by, settled_pairs}
use Rattle.protocol.specs.Ledger.{Ledger, Engagement, put_at, with_fate, add_accepted}
use Rattle.protocol.specs.Ledger.Engagement.{off, on, engaged}
use Rattle.protocol.specs.Ledger.Fate.{undecided, to_commit, to_abort}
use Rattle.protocol.specs.Runs.Call.{DECIDE}
use Rattle.protocol.specs.Site.{Site, Client, OpenPart, Transaction, Hold, Service, Decision}
use Rattle.protocol.specs.Site.Service.{down, ready, given, holding, promised}
use Rattle.protocol.proofs.Guards.{by_decide}
use Rattle.protocol.proofs.Invariant.{Acted, Committed, named, at_rest, fate_of, fate_decided, HasPart, entries, Held, Fits, Open, PromisedYes, Noted, Decides, settled_store, Inv, KeptAfter, Keeps, Given}
use Rattle.protocol.proofs.LaterEntries.{Later, fits_later, open_later, asks_later, decides_later}
use Rattle.protocol.proofs.Lines.{SameEntry, same_entries, same_file, same_right, settled_still}
use Rattle.protocol.proofs.OpenTrials.{kept_shown}
use Rattle.protocol.proofs.PartPlaces.{open_part, replied_at, Distinct, distinct_alike, apart_distinct, each_right, find_part}
use Rattle.protocol.proofs.SingleFile.{tried, Elsewhere, Apart, Closed, AllClosed, EachRight, in_trial_is, parts_right, commit_parts_elsewhere, commit_parts_there}
use Rattle.protocol.proofs.Tables.{beside, all_at, by_append, by_place, put_here, put_there, at_place, by_map}

fate_commits : (commits : Bool) → fate_of commits ≡ to_commit → commits ≡ true
fate_commits true e = refl
fate_commits false e = grind arith

abbrev idle_next : Client → Client
idle_next client = record { number = client.number + 1; parts = None }

abbrev decided_site : ℕ → Client → List OpenPart → Bool → Site → Site
decided_site c client ps commits s = with_decisions (s.decisions ++ decisions_of c client.number commits ps) (with_client c (idle_next client) s)

-- a part that its client has an answer for: its service is promised for the entry, with a yes that its run gives
record AnsweredPart (s : Site) (l : Ledger) (t j : ℕ) (p : Part) : Type 0 where
  store : StoreModel
  stored : slice_get s.stores p.service ≡ Some store
  hold : Hold
  is_promised : slice_get s.services p.service ≡ Some (promised hold)
  is_engaged : l.service p.service ≡ engaged t
  vote : (tried p.operations (at_rest store)).vote ≡ Yes
  noted : l.noted t j ≡ Some (tried p.operations (at_rest store)).looks
  working : store ≡ (tried p.operations (at_rest store)).next

module _ (start : BankModel) (s : Site) (l : Ledger) (N : ℕ → Transaction) (k : Kept s) (I : Inv start s l N) (c : ℕ) (client : Client) (ps : List OpenPart) (there : slice_get s.clients c ≡ Some client) (is_open : client.parts ≡ Some ps) (opened : Open (entries N l) (l.newest c) c client.number ps) where
  abbrev t : ℕ
  t = opened.entry

  module _ (commits : Bool) where
    -- the single-file run does not see fates
    same_line : AllByRecursion (SameEntry l (with_fate t commits l)) l.line
    same_line = same_entries l (with_fate t commits l) l.line refl refl

    fate_there : (u : ℕ) → u ≢ t → put_at l.fate t (fate_of commits) u ≡ l.fate u
    fate_there u apart = put_there l.fate t u (fate_of commits) apart

    fate_here : put_at l.fate t (fate_of commits) t ≡ fate_of commits
    fate_here = put_here l.fate t (fate_of commits)

    later : Later (entries N l) (entries N (with_fate t commits l))
    later = record { more = omega arith; name = λ _ _. refl; parts = λ _ _. refl }

    -- a decided entry is another
    decided_apart : (u : ℕ) (b : Bool) → l.fate u ≡ fate_of b → u ≢ t
    decided_apart u b f same = fate_decided b (sym f ∙ ap l.fate same ∙ opened.pending)

    pending_after : (u : ℕ) (x : Client) → u < l.entered → slice_get (set s.clients c (idle_next client)) (N u).client ≡ Some x → put_at l.fate t (fate_of commits) u ≡ undecided → ((N u).number ≡ x.number) × (is_some x.parts ≡ true) × (l.newest (N u).client ≡ Some u)
    pending_after u x within e f =
        by_place (λ d y. (N u).client ≡ d → ((N u).number ≡ y.number) × (is_some y.parts ≡ true) × (l.newest (N u).client ≡ Some u)) s.clients c client (idle_next client) there
        (λ mine. absurd (other (same_Some u t (sym (I.pending_open u client within (ap (slice_get s.clients) mine ∙ there) was).2 ∙ ap l.newest mine ∙ opened.is_newest))))
        (λ d y _ at is. I.pending_open u y within (ap (slice_get s.clients) is ∙ at) was)
        (N u).client x e refl
      where
        other : u ≢ t
        other same = fate_decided commits (sym fate_here ∙ ap (put_at l.fate t (fate_of commits)) (sym same) ∙ f)

        was : l.fate u ≡ undecided
        was = sym (fate_there u other) ∙ f

    past_after : (u : ℕ) (x : Client) → u < l.entered → slice_get (set s.clients c (idle_next client)) (N u).client ≡ Some x → (put_at l.fate t (fate_of commits) u ≡ undecided → ⊥) → (N u).number < x.number
    past_after u x within e f =
        by_place (λ d y. (N u).client ≡ d → (N u).number < y.number) s.clients c client (idle_next client) there
        (λ mine. number mine (cases_eq u t))
        (λ d y other at is. I.decided_past u y within (ap (slice_get s.clients) is ∙ at) (λ g. f (fate_there u (λ same. other (sym is ∙ ap (λ z. z.client) (ap N same ∙ opened.name))) ∙ g)))
        (N u).client x e refl
      where
        number : (N u).client ≡ c → (u ≡ t) ⊎ (u ≡ t → ⊥) → (N u).number < client.number + 1
        number mine (inl same) = let its = ap (λ z. z.number) (ap N same ∙ opened.name) in omega arith
        number mine (inr apart) = let before = I.decided_past u client within (ap (slice_get s.clients) mine ∙ there) (λ g. f (fate_there u apart ∙ g)) in omega arith

    opens_after : (d : ℕ) (x : Client) (qs : List OpenPart) → slice_get (set s.clients c (idle_next client)) d ≡ Some x → x.parts ≡ Some qs → Open (entries N (with_fate t commits l)) (l.newest d) d x.number qs
    opens_after d x qs e = by_place (λ b y. (rs : List OpenPart) → y.parts ≡ Some rs → Open (entries N (with_fate t commits l)) (l.newest b) b y.number rs) s.clients c client (idle_next client) there (λ rs f. absurd (none-some rs f)) others d x e qs
      where
        others : (b : ℕ) (y : Client) → b ≢ c → slice_get s.clients b ≡ Some y → (rs : List OpenPart) → y.parts ≡ Some rs → Open (entries N (with_fate t commits l)) (l.newest b) b y.number rs
        others b y other f rs g =
            let o = I.opens b y rs f g in
            open_later later (l.newest b) b y.number rs o (fate_there o.entry (λ same. other (ap (λ z. z.client) (sym o.name ∙ ap N same ∙ opened.name))))

    answered_after : (d u p : ℕ) (x : Client) (qs : List OpenPart) (part : OpenPart) → slice_get (set s.clients c (idle_next client)) d ≡ Some x → x.parts ≡ Some qs → slice_get qs p ≡ Some part → part.state ≡ Replied → l.newest d ≡ Some u → Noted l.noted s.services u p (named d x.number) part
    answered_after d u p x qs part e =
        by_place (λ b y. y.parts ≡ Some qs → slice_get qs p ≡ Some part → part.state ≡ Replied → l.newest b ≡ Some u → Noted l.noted s.services u p (named b y.number) part)
        s.clients c client (idle_next client) there (λ f _ _ _. absurd (none-some qs f)) (λ b y other f g h i j. I.answered b u p y qs part f g h i j) d x e

    tells_after : (j : ℕ) (d : Decision) → slice_get (s.decisions ++ decisions_of c client.number commits ps) j ≡ Some d → Decides (entries N (with_fate t commits l)) d
    tells_after = by_append (Decides (entries N (with_fate t commits l))) s.decisions (decisions_of c client.number commits ps) told_before told_now
      where
        told_before : (j : ℕ) (d : Decision) → slice_get s.decisions j ≡ Some d → Decides (entries N (with_fate t commits l)) d
        told_before j d old =
            let was = I.tells j d old in
            decides_later later d was (fate_there was.entry (decided_apart was.entry d.commits was.fate))

        told_now : (j : ℕ) (d : Decision) → slice_get (decisions_of c client.number commits ps) j ≡ Some d → Decides (entries N (with_fate t commits l)) d
        told_now =
            by_map (Decides (entries N (with_fate t commits l))) (λ part. record { client = c; service = part.service; number = client.number; commits = commits }) ps
            (λ _. record { entry = t; entered = opened.entered; name = opened.name; fate = fate_here })

    done_after : AllByRecursion (Acted (with_fate t commits l)) l.acts
    done_after = All-weaker (Acted l) (Acted (with_fate t commits l)) (λ a h. (h.0, fate_there a.entry (decided_apart a.entry a.commits h.1) ∙ h.1)) l.acts I.done

    in_line_after : AllByRecursion (Committed (with_fate t commits l)) l.line
    in_line_after = All-weaker (Committed l) (Committed (with_fate t commits l)) (λ u h. (h.0, fate_there u (decided_apart u true h.1) ∙ h.1)) l.line I.in_line

    -- where the entry commits, none of its services is Given
    fits_after : (unrun : (v : ℕ) (operations : List Operation) → commits ≡ true → HasPart (l.parts t) v operations → slice_get s.services v ≡ Some given → ⊥) (v : ℕ) (x : Service) (m : StoreModel) → slice_get s.services v ≡ Some x → Fits (entries N l) v x (l.service v) m → Fits (entries N (with_fate t commits l)) v x (l.service v) m
    fits_after unrun v x m e = fits_later later v x (l.service v) m (λ g is_given committed. never g is_given committed (cases_eq g.entry t))
      where
        never : (g : Given (entries N l) v (l.service v) m) → x ≡ given → put_at l.fate t (fate_of commits) g.entry ≡ to_commit → (g.entry ≡ t) ⊎ (g.entry ≡ t → ⊥) → ⊥
        never g is_given committed (inl same) =
            unrun v g.operations (fate_commits commits (sym fate_here ∙ ap (put_at l.fate t (fate_of commits)) (sym same) ∙ committed))
            (subst (λ u. HasPart (l.parts u) v g.operations) same g.has_part) (e ∙ ap Some is_given)
        never g is_given committed (inr apart) = g.unrun (sym (fate_there g.entry apart) ∙ committed)

    -- what another entry than this one settles, it settles still
    settled_else : (e : Engagement) (m : StoreModel) → (e ≡ engaged t → ⊥) → settled_pairs (with_fate t commits l) e m ≡ settled_pairs l e m
    settled_else off m n = refl
    settled_else on m n = refl
    settled_else (engaged u) m n = ap (λ f. settled_by f m) (fate_there u (λ same. n (ap engaged same)))

    -- what the law says of the line, once it is known, makes the invariant
    after_decision : (unrun : (v : ℕ) (operations : List Operation) → commits ≡ true → HasPart (l.parts t) v operations → slice_get s.services v ≡ Some given → ⊥)
        → AllByRecursion (Committed (with_fate t commits l)) (with_fate t commits l).line
        → LineRight (with_fate t commits l) start (with_fate t commits l).line
        → ((v : ℕ) → slice_get (single_file (with_fate t commits l) start (with_fate t commits l).line) v ≡ option_map (settled_store (with_fate t commits l) (l.service v)) (slice_get s.stores v))
        → Inv start (decided_site c client ps commits s) (with_fate t commits l) N
    after_decision unrun in_line right settled = record {
      unique = I.unique;
      pending_open = pending_after;
      decided_past = past_after;
      fresh = λ u past. fate_there u (λ same. omega arith) ∙ I.fresh u past;
      opens = opens_after;
      answered = answered_after;
      fits = λ v x m e f. fits_after unrun v x m e (I.fits v x m e f);
      asks = λ j r e. asks_later later (l.service r.service) r (I.asks j r e);
      says = I.says;
      tells = tells_after;
      done = done_after;
      in_line = in_line;
      right = right;
      settled = settled;
    }

  -- ABORT: the line stays, and an undecided entry settled what an aborted one does
  settled_aborted : (e : Engagement) (m : StoreModel) → settled_pairs (with_fate t false l) e m ≡ settled_pairs l e m
  settled_aborted off m = refl
  settled_aborted on m = refl
  settled_aborted (engaged u) m = go (cases_eq u t)
    where
      go : (u ≡ t) ⊎ (u ≡ t → ⊥) → settled_pairs (with_fate t false l) (engaged u) m ≡ settled_pairs l (engaged u) m
      go (inl same) =
          ap (λ f. settled_by f m) (ap (put_at l.fate t to_abort) same ∙ fate_here false) ∙ sym (ap (λ f. settled_by f m) (ap l.fate same ∙ opened.pending))
      go (inr apart) = settled_else false (engaged u) m (λ e. let same : u ≡ t = cc in apart same)

  aborted : Inv start (decided_site c client ps false s) (with_fate t false l) N
  aborted =
      after_decision false (λ v operations e. grind arith) (in_line_after false) (same_right l (with_fate t false l) start l.line (same_line false) I.right)
      (λ v. settled_still l (with_fate t false l) start l.line (same_line false) v (l.service v) (slice_get s.stores v) (settled_aborted (l.service v)) (I.settled v))

  -- COMMIT: every part is answered
  distinct : Distinct (l.parts t)
  distinct = distinct_alike (length s.services) ps (l.parts t) (k.parts c client ps there is_open) opened.parts_alike

  apart : Apart (l.parts t)
  apart = apart_distinct (l.parts t) distinct

  -- what a service holds that promised the entry is the run of the entry's part
  promised_part : (j : ℕ) (p : Part) (looks : List ℕ) (m : StoreModel) (promise : PromisedYes s.services p.service (named c client.number) looks) → slice_get (l.parts t) j ≡ Some p → l.noted t j ≡ Some looks → slice_get s.stores p.service ≡ Some m → Held (entries N l) p.service promise.hold (l.service p.service) m → AnsweredPart s l t j p
  promised_part j p looks m promise e was_noted stored h = record {
    store = m;
    stored = stored;
    hold = promise.hold;
    is_promised = promise.there;
    is_engaged = h.is_engaged ∙ ap engaged same;
    vote = ap (λ os. (tried os (at_rest m)).vote) (sym does) ∙ sym h.vote ∙ promise.vote;
    noted = was_noted ∙ ap Some (sym promise.looks_are ∙ h.looks ∙ ap (λ os. (tried os (at_rest m)).looks) does);
    working = h.working ∙ ap (λ os. (tried os (at_rest m)).next) does;
  }
    where
      same : h.entry ≡ t
      same = I.unique h.entry t h.entered opened.entered (h.name ∙ promise.transaction ∙ sym opened.name)

      from : HasPart (l.parts t) p.service h.operations → h.operations ≡ p.operations
      from has =
          let place : has.place ≡ j = distinct has.place j has.part p has.there e has.service in
          let part = same_Some has.part p (sym has.there ∙ ap (slice_get (l.parts t)) place ∙ e) in
          sym has.does ∙ ap (λ x. x.operations) part

      does : h.operations ≡ p.operations
      does = from (subst (λ u. HasPart (l.parts u) p.service h.operations) same h.has_part)

  -- a service engaged with the entry has a part of it
  part_engaged : (v : ℕ) (x : Service) (m : StoreModel) → l.service v ≡ engaged t → Fits (entries N l) v x (l.service v) m → (operations : List Operation) × HasPart (l.parts t) v operations
  part_engaged v x m e f = in_phase x f
    where
      of_entry : (u : ℕ) (operations : List Operation) → l.service v ≡ engaged u → HasPart (l.parts u) v operations → (os : List Operation) × HasPart (l.parts t) v os
      of_entry u operations is has = let same : u ≡ t = cc in (operations, subst (λ w. HasPart (l.parts w) v operations) same has)

      in_phase : (y : Service) → Fits (entries N l) v y (l.service v) m → (os : List Operation) × HasPart (l.parts t) v os
      in_phase down g = grind arith
      in_phase ready g = grind arith
      in_phase given g = of_entry g.entry g.operations g.is_engaged g.has_part
      in_phase (holding hold) g = of_entry g.entry g.operations g.is_engaged g.has_part
      in_phase (promised hold) g = of_entry g.entry g.operations g.is_engaged g.has_part

  module _ (all : all_replied ps ≡ true) where
    answered_part : (j : ℕ) (p : Part) → slice_get (l.parts t) j ≡ Some p → AnsweredPart s l t j p
    answered_part j p e =
        let (o, here, like) = open_part ps (l.parts t) j p opened.parts_alike e in
        let (looks, was_noted, replied_there) = I.answered c t j client ps o there is_open here (replied_at ps j o all here) opened.is_newest in
        let promise : PromisedYes s.services p.service (named c client.number) looks = subst (λ v. PromisedYes s.services v (named c client.number) looks) like replied_there in
        let (m, stored) = beside s.services s.stores p.service (promised promise.hold) k.services promise.there in
        promised_part j p looks m promise e was_noted stored (I.fits p.service (promised promise.hold) m promise.there stored)

    never_given : (v : ℕ) (operations : List Operation) → true ≡ true → HasPart (l.parts t) v operations → slice_get s.services v ≡ Some given → ⊥
    never_given v operations _ has is_given =
        let a = answered_part has.place has.part has.there in
        let both : Some given ≡ Some (promised a.hold) = sym is_given ∙ ap (slice_get s.services) (sym has.service) ∙ a.is_promised in
        grind arith

    -- the single-file run so far left each part's service its committed pairs
    rested : (j : ℕ) (p : Part) (a : AnsweredPart s l t j p) → slice_get (single_file l start l.line) p.service ≡ Some (at_rest a.store)
    rested j p a =
        I.settled p.service
        ∙ ap (option_map (settled_store l (l.service p.service))) a.stored
        ∙ ap (λ x. Some (record { capacity = a.store.capacity; committed = x; trial = None })) (ap (λ e. settled_pairs l e a.store) a.is_engaged ∙ ap (λ f. settled_by f a.store) opened.pending)

    all_closed : AllClosed (l.parts t) (single_file l start l.line)
    all_closed = all_at (λ p. Closed p.service (single_file l start l.line)) (l.parts t) (λ j p e. let a = answered_part j p e in record { store = at_rest a.store; there = rested j p a; closed = refl })

    each_is_right : EachRight (l.noted t) 0 (l.parts t) (single_file l start l.line)
    each_is_right =
        each_right (l.noted t) 0 (l.parts t) (single_file l start l.line) (λ j i p same e.
        let a = answered_part j p e in
        let counted : i ≡ j = omega arith in
        let run = in_trial_is p.service p.operations (single_file l start l.line) (at_rest a.store) (rested j p a) refl in
        (ap (λ r. r.vote) run ∙ a.vote, ap (l.noted t) counted ∙ a.noted ∙ ap (λ r. Some r.looks) (sym run)))

    right_committed : LineRight (with_fate t true l) start (t ∷ l.line)
    right_committed = (
      subst (PartsRight (l.noted t) 0 (l.parts t)) (sym (same_file l (with_fate t true l) start l.line (same_line true))) (parts_right (l.noted t) 0 (l.parts t) (single_file l start l.line) apart all_closed each_is_right),
      same_right l (with_fate t true l) start l.line (same_line true) I.right,
    )

    settled_committed : (v : ℕ) → slice_get (commit_parts (l.parts t) (single_file l start l.line)) v ≡ option_map (settled_store (with_fate t true l) (l.service v)) (slice_get s.stores v)
    settled_committed v = go (find_part v (l.parts t))
      where
        elsewhere : Elsewhere v (l.parts t) → (o : Option StoreModel) → slice_get s.stores v ≡ o → option_map (settled_store l (l.service v)) o ≡ option_map (settled_store (with_fate t true l) (l.service v)) o
        elsewhere none None e = refl
        elsewhere none (Some m) e =
            let (x, serves) = beside s.stores s.services v m (sym k.services) e in
            ap (λ pairs. Some (record { capacity = m.capacity; committed = pairs; trial = None })) (sym (settled_else true (l.service v) m (λ is.
            let has = part_engaged v x m is (I.fits v x m serves e) in
            at_place (λ p. p.service ≢ v) (l.parts t) has.1.place has.1.part none has.1.there has.1.service)))

        go : ((operations : List Operation) × HasPart (l.parts t) v operations) ⊎ Elsewhere v (l.parts t) → slice_get (commit_parts (l.parts t) (single_file l start l.line)) v ≡ option_map (settled_store (with_fate t true l) (l.service v)) (slice_get s.stores v)
        go (inl (operations, has)) =
            let p = has.part in
            let a = answered_part has.place p has.there in
            let m = a.store in
            let now = commit_parts_there has.place p (l.parts t) (single_file l start l.line) (at_rest m) has.there (rested has.place p a) refl apart all_closed in
            let shown = kept_shown p.operations m a.working in
            let pairs : settled_pairs (with_fate t true l) (l.service p.service) m ≡ visible m = ap (λ e. settled_pairs (with_fate t true l) e m) a.is_engaged ∙ ap (λ f. settled_by f m) (fate_here true) in
            let is : slice_get (commit_parts (l.parts t) (single_file l start l.line)) p.service ≡ option_map (settled_store (with_fate t true l) (l.service p.service)) (slice_get s.stores p.service) =
            now ∙ ap Some shown
            ∙ ap (λ x. Some (record { capacity = m.capacity; committed = x; trial = None })) (sym pairs)
            ∙ ap (option_map (settled_store (with_fate t true l) (l.service p.service))) (sym a.stored) in
            subst (λ w. slice_get (commit_parts (l.parts t) (single_file l start l.line)) w ≡ option_map (settled_store (with_fate t true l) (l.service w)) (slice_get s.stores w)) has.service is
        go (inr none) = commit_parts_elsewhere v (l.parts t) (single_file l start l.line) apart all_closed none ∙ I.settled v ∙ elsewhere none (slice_get s.stores v) refl

    committed : Inv start (decided_site c client ps true s) (with_fate t true l) N
    committed =
        after_decision true never_given ((opened.entered, fate_here true), in_line_after true) right_committed
        (λ v. ap (λ ms. slice_get (commit_parts (l.parts t) ms) v) (same_file l (with_fate t true l) start l.line (same_line true)) ∙ settled_committed v)

  decided_either : (commits : Bool) → (commits ≡ true → all_replied ps ≡ true) → Inv start (decided_site c client ps commits s) (with_fate t commits l) N
  decided_either true all = committed (all refl)
  decided_either false all = aborted

pub decide_keeps : (c : ℕ) (wish : Bool) → Keeps (DECIDE c wish)
decide_keeps c wish start s l N k I =
    by_decide s (KeptAfter start s l (DECIDE c wish)) (λ _ _. (N, I)) c wish (λ client ps there is_open _.
    let opened = I.opens c client ps there is_open in
    (N, rw (opened.is_newest, add_accepted) (decided_either start s l N k I c client ps there is_open opened (wish && all_replied ps) (λ e. (and_parts wish (all_replied ps) e).1))))
