-- Some part passes the test exactly if the service is named among the parts' meanings.
use Rattle.std.proofs.Common.{rules, ◌≡◌, ◌||◌, ◌==◌, ℕ, List, map, refl, ap, ◌∙◌, tests}
use Rattle.std.specs.List.{list_any}
use Rattle.std.proofs.lemmas.List.Recursion.{same_from_clauses}
use Rattle.std.proofs.lemmas.Iterator.{YieldsList-from_slice}
use Rattle.std.proofs.lemmas.Iterator.Search.{any_from_yields_List}
use Rattle.scripts.specs.declared.bounded.ScriptPart.{ScriptPart}
use Rattle.scripts.specs.Lists.{part_of}
use Rattle.scripts.specs.Reading.{named}
use Rattle.scripts.proofs.bounded.Script.names.Goals as goal

named_any : (service : ℕ) (parts : List ScriptPart) → list_any (λ p. service == p.service) parts ≡ named service (map part_of parts)
named_any service parts =
    same_from_clauses (list_any (λ p. service == p.service)) (λ ps. named service (map part_of ps)) (λ p rest. service == p.service || rest) refl (λ _ _. refl) (λ _ _. refl) parts

pub returns : goal.returns
returns c =
    any_from_yields_List (λ p. c.args.service == p.service) _ _ c.any.result c.any.ensures.ran (YieldsList-from_slice c.as_slice.result.now cc) (λ x b q k. search (rules, tests)) ∙ named_any c.args.service c.as_slice.result.now ∙ ap (named c.args.service) c.as_slice.ensures
