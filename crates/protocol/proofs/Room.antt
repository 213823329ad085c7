-- How many requests and replies can wait: the pools never run out of places.
use Rattle.std.proofs.Common.{◌≡◌, ℕ, zero, suc, ◌+◌, ◌*◌, ◌<◌, ◌≤◌, true, false, cond, eqb, ◌⊎◌, List, [], ◌∷◌, ◌++◌, map, length, set, Some, None, Option, refl, ap, subst, inl, inr, arith, length-append, length-set}
use lib.ListN.{length-map}
use Rattle.std.proofs.lemmas.List.FromFn.{length-range_with_len}
use Rattle.std.proofs.lemmas.Option.{slice_get_past}
use Rattle.std.proofs.lemmas.Bool.{cases_lt, cases_eq, cases_Bool, and_parts, eqb-true, eq-eqb, ne_eqb}
use Rattle.std.proofs.lemmas.Bool.Decides.{nat_tests}
use Rattle.std.specs.List.{range_with_len, slice_get}
use Rattle.banks.proofs.OneStore.{nth_set_same, nth_set_other}
use Rattle.pools.specs.Pools.{fitting}
use Rattle.protocol.specs.Site.{OpenPart, Client, Service, Request, Reply, Site, Slot, request_for, reply_for}
use Rattle.protocol.specs.Site.Service.{down, ready, given, holding, promised}
use Rattle.protocol.specs.Calls.{waits_in, client_waits, still_waits}
use Rattle.protocol.specs.Kept.{due, reply_slot, Kept, Bounds}
use Rattle.protocol.proofs.Counts.{count_append, count_one, met_by, no_more_than, counted}

met_counting : (r : Request) (a n : ℕ) → a ≤ r.service → r.service < a + n → 1 ≤ met_by request_for r (range_with_len a n)
met_counting r a zero low high = omega arith
met_counting r a (suc n) low high = let ih = met_counting r (a + 1) n in grind (arith, nat_tests)

due_le : (o : Option Service) → due o ≤ 1
due_le None = omega arith
due_le (Some down) = omega arith
due_le (Some ready) = omega arith
due_le (Some given) = omega arith
due_le (Some (holding hold)) = omega arith
due_le (Some (promised hold)) = omega arith

-- what is due once a service is in another phase
pub due_set : (services : List Service) (v u : ℕ) (old new : Service) → slice_get services v ≡ Some old → due (slice_get (set services v new) u) + cond (eqb u v) (due (Some old)) 0 ≡ due (slice_get services u) + cond (eqb u v) (due (Some new)) 0
due_set services v u old new there = go (cases_eq u v)
  where
    go : (u ≡ v) ⊎ (u ≡ v → ⊥) → due (slice_get (set services v new) u) + cond (eqb u v) (due (Some old)) 0 ≡ due (slice_get services u) + cond (eqb u v) (due (Some new)) 0
    go (inl here) =
        let now = ap due (nth_set_same services v old new there) in
        let was = ap due there in
        rw here (rw (eq-eqb v v refl) (omega arith))
    go (inr apart) = let now = ap due (nth_set_other services v u new apart) in rw (ne_eqb u v apart) (omega arith)

-- no more requests than services
requests_few : (services : List Service) (requests : List Request) → ((v : ℕ) → length (fitting request_for v requests) ≡ due (slice_get services v)) → length requests ≤ length services
requests_few services requests each =
    let few = no_more_than request_for (range_with_len 0 (length services)) requests met (λ v. omega (arith, each v, due_le (slice_get services v))) in
    omega (arith, few, length-range_with_len 0 (length services))
  where
    met : (i : ℕ) (r : Request) → slice_get requests i ≡ Some r → 1 ≤ met_by request_for r (range_with_len 0 (length services))
    met i r e = go (cases_lt r.service (length services))
      where
        go : (r.service < length services) ⊎ (length services ≤ r.service) → 1 ≤ met_by request_for r (range_with_len 0 (length services))
        go (inl there) = met_counting r 0 (length services) (omega arith) (omega arith)
        go (inr past) =
            let none = ap due (slice_get_past services r.service past) in
            let some = counted request_for r.service i r requests e (eq-eqb _ _ refl) in
            omega (arith, each r.service)

-- the parts of the open transactions of these clients, numbered from c
abbrev slots_of : ℕ → ℕ → Option (List OpenPart) → List Slot
slots_of c number None = []
slots_of c number (Some parts) = map (λ part. record { client = c; service = part.service; number = number }) parts

abbrev slots_from : ℕ → List Client → List Slot
slots_from c [] = []
slots_from c (client ∷ clients) = slots_of c client.number client.parts ++ slots_from (suc c) clients

met_parts : (r : Reply) (parts : List OpenPart) → waits_in r.service parts ≡ true → 1 ≤ met_by reply_for r (slots_of r.client r.number (Some parts))
met_parts r [] w = grind arith
met_parts r (part ∷ parts) w = let ih = met_parts r parts in grind (arith, nat_tests)

met_client : (r : Reply) (number : ℕ) (parts : Option (List OpenPart)) → client_waits r.service r.number (Some (record { number = number; parts = parts })) ≡ true → 1 ≤ met_by reply_for r (slots_of r.client number parts)
met_client r number None w = grind (arith, nat_tests)
met_client r number (Some parts) w =
    let both = and_parts (eqb number r.number) (waits_in r.service parts) w in
    let same : number ≡ r.number = eqb-true number r.number both.0 in
    rw same (met_parts r parts both.1)

met_clients : (r : Reply) (c i : ℕ) (clients : List Client) → r.client ≡ c + i → client_waits r.service r.number (slice_get clients i) ≡ true → 1 ≤ met_by reply_for r (slots_from c clients)
met_clients r c i [] e w = grind arith
met_clients r c zero (client ∷ clients) e w =
    let same : c ≡ r.client = omega arith in
    rw same (omega (arith, met_client r client.number client.parts w, count_append (λ slot (m : Reply). reply_for m slot) r (slots_of r.client client.number client.parts) (slots_from (suc r.client) clients)))
met_clients r c (suc i) (client ∷ clients) e w =
    omega (arith, met_clients r (suc c) i clients (omega arith) w, count_append (λ slot (m : Reply). reply_for m slot) r (slots_of c client.number client.parts) (slots_from (suc c) clients))

slots_of_few : (c number : ℕ) (o : Option (List OpenPart)) → ((parts : List OpenPart) → o ≡ Some parts → length parts ≤ 4) → length (slots_of c number o) ≤ 4
slots_of_few c number None few = omega arith
slots_of_few c number (Some parts) few = rw length-map (few parts refl)

slots_few : (c : ℕ) (clients : List Client) → ((i : ℕ) (client : Client) (parts : List OpenPart) → slice_get clients i ≡ Some client → client.parts ≡ Some parts → length parts ≤ 4) → length (slots_from c clients) ≤ 4 * length clients
slots_few c [] few = omega arith
slots_few c (client ∷ clients) few =
    omega (arith, slots_few (suc c) clients (λ i. few (suc i)), slots_of_few c client.number client.parts (λ parts e. few 0 client parts refl e), length-append (slots_of c client.number client.parts) (slots_from (suc c) clients))

met_slot : (r : Reply) → reply_for r (reply_slot r) ≡ true
met_slot r = grind (arith, nat_tests)

-- a reply fits just the part that it is for
pub same_slot : (r : Reply) (slot : Slot) → reply_for r slot ≡ true → reply_slot r ≡ slot
same_slot r slot fits =
    let client : r.client ≡ slot.client = grind (arith, nat_tests) in
    let service : r.service ≡ slot.service = grind (arith, nat_tests) in
    let number : r.number ≡ slot.number = grind (arith, nat_tests) in
    λ i. record { client = client i; service = service i; number = number i }

-- with one more reply, for a part that waits and has none, each part would still have one at most
pub one_more_reply : (s : Site) → Kept s → (r : Reply) → still_waits (reply_slot r) s ≡ true → length (fitting reply_for (reply_slot r) s.replies) ≡ 0 → (slot : Slot) → length (fitting reply_for slot s.replies) + cond (reply_for r slot) 1 0 ≤ cond (still_waits slot s) 1 0
one_more_reply s k r waiting none slot = go (cases_Bool (reply_for r slot))
  where
    go : (reply_for r slot ≡ true) ⊎ (reply_for r slot ≡ false) → length (fitting reply_for slot s.replies) + cond (reply_for r slot) 1 0 ≤ cond (still_waits slot s) 1 0
    go (inl fits) = subst (λ x. length (fitting reply_for x s.replies) + cond (reply_for r x) 1 0 ≤ cond (still_waits x s) 1 0) (same_slot r slot fits) (rw (met_slot r, waiting) (omega arith))
    go (inr apart) = rw apart (omega (arith, k.replies slot))

-- at most as many replies as there are parts, 4 for a client
module _ (clients : List Client) (replies : List Reply) (each : (slot : Slot) → length (fitting reply_for slot replies) ≤ cond (client_waits slot.service slot.number (slice_get clients slot.client)) 1 0) where
  reply_waits : (i : ℕ) (r : Reply) → slice_get replies i ≡ Some r → client_waits r.service r.number (slice_get clients r.client) ≡ true
  reply_waits i r e =
      let some = counted reply_for (reply_slot r) i r replies e (met_slot r) in
      let most = each (reply_slot r) in
      grind (arith, nat_tests)

  reply_one : (slot : Slot) → length (fitting reply_for slot replies) ≤ 1
  reply_one slot = grind (arith, nat_tests)

  replies_few : ((i : ℕ) (client : Client) (parts : List OpenPart) → slice_get clients i ≡ Some client → client.parts ≡ Some parts → length parts ≤ 4) → length replies ≤ 4 * length clients
  replies_few few =
      omega (arith, no_more_than reply_for (slots_from 0 clients) replies (λ i r e. met_clients r 0 r.client clients (omega arith) (reply_waits i r e)) reply_one, slots_few 0 clients few)

asked_given : (o : Option Service) → 1 ≤ due o → o ≡ Some given
asked_given None h = grind arith
asked_given (Some down) h = grind arith
asked_given (Some ready) h = grind arith
asked_given (Some given) h = refl
asked_given (Some (holding hold)) h = grind arith
asked_given (Some (promised hold)) h = grind arith

module _ (s : Site) (k : Kept s) where
  -- with one more request, its service would be Given
  request_room : (v : ℕ) → slice_get s.services v ≡ Some ready → length s.requests < 8
  request_room v there =
      let request : Request = record { client = 0; service = v; number = 0; operations = [] } in
      let more = requests_few (set s.services v given) (request ∷ s.requests) (λ u. let d = due_set s.services v u ready given there in grind (arith, nat_tests)) in
      omega (arith, more, length-set s.services v given, k.few)

  few_parts : (i : ℕ) (client : Client) (parts : List OpenPart) → slice_get s.clients i ≡ Some client → client.parts ≡ Some parts → length parts ≤ 4
  few_parts i client parts e f = (k.parts i client parts e f).few

  reply_room : (slot : Slot) → still_waits slot s ≡ true → length (fitting reply_for slot s.replies) ≡ 0 → length s.replies < 32
  reply_room slot waiting none =
      omega (arith, replies_few s.clients (r ∷ s.replies) (λ other. omega (arith, count_one reply_for other r s.replies, one_more_reply s k r waiting none other)) few_parts, k.clients)
    where
      r : Reply
      r = record { client = slot.client; service = slot.service; number = slot.number; looks = None }

  pub bounds : Bounds s
  bounds = record {
    asked = λ i r e. asked_given (slice_get s.services r.service) (omega (arith, counted request_for r.service i r s.requests e (eq-eqb r.service r.service refl), k.requests r.service));
    awaited = reply_waits s.clients s.replies k.replies;
    one_each = reply_one s.clients s.replies k.replies;
    requests_few = requests_few s.services s.requests k.requests;
    replies_few = omega (arith, replies_few s.clients s.replies k.replies few_parts, k.clients);
    request_room = request_room;
    reply_room = reply_room;
  }
