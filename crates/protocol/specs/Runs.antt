-- Calls as values, and lists of calls played one after the other.
use Rattle.std.specs.Prelude.{ℕ, Bool, List, [], ◌∷◌, Result}
use Rattle.protocol.specs.Calls.{Answer, Refusal, Outcome, order, send, get, expire, decide, make_ready, make_down, work, reply, hear}
use Rattle.protocol.specs.Site.{Site}

-- the ten calls with their arguments; GET has the room of the list that it may write
pub data Call : Type 0 where
  ORDER : (client : ℕ) (script : List ℕ) → Call
  SEND : (client part : ℕ) → Call
  GET : (client part room : ℕ) → Call
  EXPIRE : (client part : ℕ) → Call
  DECIDE : (client : ℕ) (wish : Bool) → Call
  READY : (service : ℕ) → Call
  DOWN : (service : ℕ) → Call
  WORK : (service : ℕ) → Call
  REPLY : (service : ℕ) (passed : Bool) → Call
  HEAR : (service n : ℕ) → Call

abbrev pub perform : Call → Site → Outcome
perform (ORDER client script) s = order client script s
perform (SEND client part) s = send client part s
perform (GET client part room) s = get client part room s
perform (EXPIRE client part) s = expire client part s
perform (DECIDE client wish) s = decide client wish s
perform (READY service) s = make_ready service s
perform (DOWN service) s = make_down service s
perform (WORK service) s = work service s
perform (REPLY service passed) s = reply service passed s
perform (HEAR service n) s = hear service n s

-- what a list of calls came to: the answers in their order, and the site afterwards
pub record Played : Type 0 where
  pub answers : List (Result Answer Refusal)
  pub site : Site

abbrev pub play : List Call → Site → Played
play [] s = record { answers = []; site = s }
play (call ∷ calls) s =
    let o = perform call s in
    let rest = play calls o.next in
    record { answers = o.answer ∷ rest.answers; site = rest.site }
