-- What holds of the parts at every command, and that each command keeps it.
use Rattle.std.proofs.Common.{◌≡◌, ◌==◌, ℕ, ◌+◌, ◌-◌, ◌<◌, ◌≤◌, false, List, [], ◌∷◌, ◌++◌, length, set, Ok, sym, refl, ap, ◌∙◌, subst, arith, length-append, length-set}
use Rattle.std.proofs.lemmas.List.Folds.{list_any_at}
use Rattle.std.proofs.lemmas.Bool.{false≢true}
use Rattle.std.proofs.lemmas.Bool.Decides.{nat_tests}
use Rattle.std.proofs.lemmas.Grind.{common_steps}
use Rattle.scripts.specs.declared.commands.Command.{Command}
use Rattle.scripts.specs.declared.commands.Command.TheVariants.{Open, Act}
use Rattle.scripts.specs.Laws.{nth_part}
use Rattle.scripts.specs.Reading.{Part, named, newest, opened, with_operation, take_in}
use Rattle.scripts.proofs.Rules.{opens, acts}

-- all but the newest part have an operation
pub record Kept (services : ℕ) (ps : List Part) : Type 0 where
  pub few : length ps ≤ 4
  pub known : (i : ℕ) → i < length ps → (nth_part ps i).service < services
  pub short : (i : ℕ) → i < length ps → length (nth_part ps i).operations ≤ 8
  pub filled : (i : ℕ) → i + 1 < length ps → 1 ≤ length (nth_part ps i).operations
  pub apart : (i j : ℕ) → i < j → j < length ps → (nth_part ps i).service ≡ (nth_part ps j).service → ⊥

pub kept_none : (services : ℕ) → Kept services []
kept_none services = record {
  few = omega arith;
  known = λ i h. absurd (omega arith);
  short = λ i h. absurd (omega arith);
  filled = λ i h. absurd (omega arith);
  apart = λ i j h k. absurd (omega arith);
}

-- a service that is not named is no part's
not_named : (service : ℕ) (ps : List Part) (i : ℕ) → named service ps ≡ false → i < length ps → (nth_part ps i).service ≡ service → ⊥
not_named service ps i free h same =
    false≢true (sym free ∙ list_any_at (λ p. service == p.service) ps i (opened 0 0) h (grind (arith, nat_tests)))

kept_pushed : (services : ℕ) (ps : List Part) (p : Part) → Kept services ps → length ps < 4 → p.service < services → length p.operations ≤ 8 → (0 < length ps → 1 ≤ length (newest ps).operations) → ((i : ℕ) → i < length ps → (nth_part ps i).service ≡ p.service → ⊥) → Kept services (ps ++ (p ∷ []))
kept_pushed services ps p kept room known short filled free =
    let count : length (ps ++ (p ∷ [])) ≡ length ps + 1 = simp length-append refl in
    record {
      few = omega arith;
      known = λ i h. let k = kept.known i in grind (arith, common_steps);
      short = λ i h. let k = kept.short i in grind (arith, common_steps);
      filled = λ i h.
          let k = kept.filled i in
          let last = λ (there : i ≡ length ps - 1). ap (λ n. length (nth_part ps n).operations) there in
          grind (arith, common_steps);
      apart = λ i j h k same.
          let a = kept.apart i j h in
          let f = free i in
          grind (arith, common_steps);
    }

kept_written : (services : ℕ) (ps : List Part) (p : Part) → Kept services ps → 0 < length ps → p.service ≡ (newest ps).service → 1 ≤ length p.operations → length p.operations ≤ 8 → Kept services (set ps (length ps - 1) p)
kept_written services ps p kept some same filled short =
    let count = length-set ps (length ps - 1) p in
    let service : (i : ℕ) → i < length ps → (nth_part (set ps (length ps - 1) p) i).service ≡ (nth_part ps i).service = λ i h.
    let last = λ (there : i ≡ length ps - 1). ap (λ n. (nth_part ps n).service) there in
    grind (arith, common_steps) in
    record {
      few = omega (arith, kept.few);
      known = λ i h. let s = service i (omega arith) in let k = kept.known i (omega arith) in omega arith;
      short = λ i h. let k = kept.short i in grind (arith, common_steps);
      filled = λ i h. let k = kept.filled i in grind (arith, common_steps);
      apart = λ i j h k e. kept.apart i j h (omega arith) (sym (service i (omega arith)) ∙ e ∙ service j (omega arith));
    }

-- a command keeps it
pub kept_in : (services place : ℕ) (command : Command) (ps parts : List Part) → Kept services ps → take_in services place command ps ≡ Ok parts → Kept services parts
kept_in services place (Open service) ps parts kept into =
    let o = opens services service place ps parts into in
    subst (Kept services) (sym o.pushed)
    (kept_pushed services ps (opened service place) kept o.room o.known (omega arith) o.filled (λ i. not_named service ps i o.free))
kept_in services place (Act operation) ps parts kept into =
    let a = acts services place operation ps parts into in
    let more : length ((newest ps).operations ++ (operation ∷ [])) ≡ length (newest ps).operations + 1 = simp length-append refl in
    subst (Kept services) (sym a.written)
    (kept_written services ps (with_operation operation (newest ps)) kept a.some refl (omega arith) (omega (arith, a.room)))
