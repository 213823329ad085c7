-- Reading goes on with each command, so that there are always turns enough for what is left.
use Rattle.std.proofs.Common.{◌≡◌, ℕ, zero, suc, ◌+◌, ◌-◌, ◌<◌, ◌≤◌, true, List, [], ◌∷◌, ◌++◌, length, get_or, Ok, Err, Result, refl, ap, ◌∙◌, arith}
use mathlib.Core.List.{map-append}
use lib.Seq.{map-set_same}
use Rattle.std.proofs.lemmas.Bool.Decides.{nat_tests}
use Rattle.scripts.specs.declared.commands.Command.{Command}
use Rattle.scripts.specs.declared.commands.Command.TheVariants.{Open, Act}
use Rattle.scripts.specs.declared.types.Operation.{Operation}
use Rattle.scripts.specs.declared.types.ScriptRefusal.{ScriptRefusal}
use Rattle.scripts.specs.declared.commands.Spelled.{Spelled}
use Rattle.scripts.specs.Cursors.{headings}
use Rattle.scripts.specs.Reading.{Part, Progress, none, newest, opened, with_newest, with_operation, take_in, read_command, read_from, end_script}
use Rattle.scripts.proofs.Rules.{Fair, fair, opens, acts, came}

-- what an accepted command leaves
pub record Accepted (bytes : List ℕ) (p q : Progress) : Type 0 where
  pub more : p.at + 1 < q.at
  pub within : q.at ≤ length bytes
  pub first : none p.parts ≡ true → get_or bytes p.at 0 ≡ 1
  pub opens : get_or bytes p.at 0 ≡ 1 → headings q.parts ≡ headings p.parts ++ ((get_or bytes (p.at + 1) 0, p.at) ∷ [])
  pub acts : (get_or bytes p.at 0 ≡ 1 → ⊥) → headings q.parts ≡ headings p.parts

opened_heads : (place service : ℕ) (ps parts : List Part) → parts ≡ ps ++ (opened service place ∷ []) → headings parts ≡ headings ps ++ ((service, place) ∷ [])
opened_heads place service ps parts pushed = ap headings pushed ∙ map-append (λ (p : Part). (p.service, p.place)) ps (opened service place ∷ [])

acted_heads : (operation : Operation) (ps parts : List Part) → parts ≡ with_newest operation ps → headings parts ≡ headings ps
acted_heads operation ps parts written =
    ap headings written ∙ map-set_same (λ (p : Part). (p.service, p.place)) ps (length ps - 1) (with_operation operation (newest ps)) (opened 0 0) (refl {a = ((newest ps).service, (newest ps).place)})

module _ (services : ℕ) (bytes : List ℕ) where
  taking : (p q : Progress) (s : Spelled) (o : Command) → Fair bytes p.at s → q.at ≡ s.end → s.command ≡ o → take_in services p.at o p.parts ≡ Ok q.parts → Accepted bytes p q
  taking p q s (Open service) f end is into =
      let code = f.opens service is in
      let heads = opened_heads p.at service p.parts q.parts (opens services service p.at p.parts q.parts into).pushed in
      record {
        more = omega (arith, f.more);
        within = omega (arith, f.within);
        first = λ _. code.0;
        opens = λ _. rw code.1 heads;
        acts = λ other. absurd (other code.0);
      }
  taking p q s (Act operation) f end is into =
      let a = acts services p.at operation p.parts q.parts into in
      record {
        more = omega (arith, f.more);
        within = omega (arith, f.within);
        first = λ first. absurd (let some = a.some in let z : ◌≡◌ {A = ℕ} 0 1 = grind (arith, nat_tests) in omega arith);
        opens = λ code. absurd (f.acts operation is code);
        acts = λ _. acted_heads operation p.parts q.parts a.written;
      }

  pub accepted : (p q : Progress) → read_command services bytes p ≡ Ok q → Accepted bytes p q
  accepted p q ok =
      let c = came services bytes p q ok in
      taking p q c.spelled c.spelled.command (fair bytes p.at c.spelled c.read) c.end refl c.into

  turn : (n m : ℕ) (p : Progress) (o : Result Progress ScriptRefusal) → read_command services bytes p ≡ o → ((q : Progress) → p.at + 1 < q.at → read_from n services bytes q ≡ read_from m services bytes q) → read_from (suc n) services bytes p ≡ read_from (suc m) services bytes p
  turn n m p (Err refusal) e later = grind (arith, nat_tests)
  turn n m p (Ok q) e later = let ih = later q (accepted p q e).more in grind (arith, nat_tests)

  -- with turns enough for what is left, more turns change nothing
  pub turns_enough : (n m : ℕ) (p : Progress) → length bytes ≤ p.at + n → length bytes ≤ p.at + m → read_from n services bytes p ≡ read_from m services bytes p
  turns_enough zero zero p h k = refl
  turns_enough zero (suc m) p h k = grind (arith, nat_tests)
  turns_enough (suc n) zero p h k = grind (arith, nat_tests)
  turns_enough (suc n) (suc m) p h k = turn n m p _ refl (λ q more. turns_enough n m q (omega arith) (omega arith))

  -- reading comes to what it comes to one command further
  pub read_on : (n m : ℕ) (p q : Progress) → length bytes ≤ p.at + n → length bytes ≤ q.at + m → p.at < length bytes → read_command services bytes p ≡ Ok q → read_from n services bytes p ≡ read_from m services bytes q
  read_on zero m p q h k left ok = absurd (omega arith)
  read_on (suc n) m p q h k left ok =
      let more = (accepted p q ok).more in
      let rest = turns_enough n m q (omega arith) k in
      grind (arith, nat_tests)

  pub read_refused : (n : ℕ) (p : Progress) (refusal : ScriptRefusal) → length bytes ≤ p.at + n → p.at < length bytes → read_command services bytes p ≡ Err refusal → read_from n services bytes p ≡ Err refusal
  read_refused zero p refusal h left e = absurd (omega arith)
  read_refused (suc n) p refusal h left e = grind (arith, nat_tests)

  pub read_ended : (n : ℕ) (p : Progress) → length bytes ≤ p.at → read_from n services bytes p ≡ end_script (length bytes) p.parts
  read_ended zero p h = refl
  read_ended (suc n) p h = grind (arith, nat_tests)
