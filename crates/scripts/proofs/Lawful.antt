-- The laws of reading: what every command keeps holds of the parts of an accepted script.
use Rattle.std.proofs.Common.{◌≡◌, ℕ, zero, suc, ◌+◌, ◌-◌, ◌<◌, ◌≤◌, List, length, Ok, Err, Result, sym, refl, ap, subst, ⊎_elim, arith}
use Rattle.std.proofs.lemmas.Bool.{cases_lt}
use Rattle.std.proofs.lemmas.Bool.Decides.{nat_tests}
use Rattle.scripts.specs.declared.types.ScriptRefusal.{ScriptRefusal}
use Rattle.scripts.specs.Laws.{LawfulParts, ScriptLaws, nth_part}
use Rattle.scripts.specs.Reading.{Part, Progress, newest, start, end_script, read_command, read_from, read_script}
use Rattle.scripts.proofs.Kept.{Kept, kept_none, kept_in}
use Rattle.scripts.proofs.Rules.{came, refused_there}
use Rattle.scripts.proofs.Turns.{accepted, turns_enough, read_on, read_refused, read_ended}

-- what the laws say of an answer
abbrev Lawful : (services : ℕ) → List ℕ → Result (List Part) ScriptRefusal → Type 0
Lawful services bytes (Ok parts) = LawfulParts services parts
Lawful services bytes (Err refusal) = refusal.place ≤ length bytes

-- at the end the newest part has an operation too
filled_end : (services place : ℕ) (ps parts : List Part) → Kept services ps → end_script place ps ≡ Ok parts → LawfulParts services parts
filled_end services place ps parts kept ok =
    let same : ps ≡ parts = grind (arith, nat_tests) in
    let some : 1 ≤ length ps = grind (arith, nat_tests) in
    let last : 1 ≤ length (newest ps).operations = grind (arith, nat_tests) in
    let filled : (i : ℕ) → i < length ps → 1 ≤ length (nth_part ps i).operations = λ i h.
    let k = kept.filled i in
    let there = λ (e : i ≡ length ps - 1). ap (λ n. length (nth_part ps n).operations) e in
    let cases = cases_lt (i + 1) (length ps) in
    grind arith in
    subst (LawfulParts services) same (record {
      some = some;
      few = kept.few;
      each = λ i h. record { known = kept.known i h; some = filled i h; few = kept.short i h };
      apart = kept.apart;
    })

module _ (services : ℕ) (bytes : List ℕ) where
  lawful_end : (ps : List Part) (r : Result (List Part) ScriptRefusal) → Kept services ps → end_script (length bytes) ps ≡ r → Lawful services bytes r
  lawful_end ps (Ok parts) kept e = filled_end services (length bytes) ps parts kept e
  lawful_end ps (Err refusal) kept e = grind (arith, nat_tests)

  kept_on : (p q : Progress) → Kept services p.parts → read_command services bytes p ≡ Ok q → Kept services q.parts
  kept_on p q kept ok = let c = came services bytes p q ok in kept_in services p.at c.spelled.command p.parts q.parts kept c.into

  lawful_turn : (n : ℕ) (p : Progress) (o : Result Progress ScriptRefusal) → length bytes ≤ p.at + suc n → p.at < length bytes → read_command services bytes p ≡ o → ((q : Progress) → length bytes ≤ q.at + n → read_command services bytes p ≡ Ok q → Lawful services bytes (read_from n services bytes q)) → Lawful services bytes (read_from (suc n) services bytes p)
  lawful_turn n p (Err refusal) enough left e later =
      subst (Lawful services bytes) (sym (read_refused services bytes (suc n) p refusal enough left e)) (omega (arith, refused_there services bytes p refusal e))
  lawful_turn n p (Ok q) enough left e later =
      let still : length bytes ≤ q.at + n = omega (arith, (accepted services bytes p q e).more) in
      subst (Lawful services bytes) (sym (read_on services bytes (suc n) n p q enough still left e)) (later q still e)

  lawful_from : (n : ℕ) (p : Progress) → length bytes ≤ p.at + n → Kept services p.parts → Lawful services bytes (read_from n services bytes p)
  lawful_from zero p enough kept = lawful_end p.parts _ kept refl
  lawful_from (suc n) p enough kept =
      ⊎_elim (λ left. lawful_turn n p _ enough left refl (λ q still ok. lawful_from n q still (kept_on p q kept ok)))
      (λ over. lawful_end p.parts _ kept (sym (read_ended services bytes (suc n) p over)))
      (cases_lt p.at (length bytes))

pub script_laws : ScriptLaws
script_laws =
    let all : (services : ℕ) (bytes : List ℕ) → Lawful services bytes (read_script services bytes) = λ services bytes.
    lawful_from services bytes (length bytes) start (omega arith) (kept_none services) in
    record {
      accepted = λ services bytes parts ok. subst (Lawful services bytes) ok (all services bytes);
      enough = λ more services bytes. turns_enough services bytes (length bytes + more) (length bytes) start (omega arith) (omega arith);
      refused = λ services bytes refusal e. subst (Lawful services bytes) e (all services bytes);
    }
