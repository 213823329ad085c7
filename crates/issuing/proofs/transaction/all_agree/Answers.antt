use Rattle.std.proofs.Common.{arith, sym, ◌∙◌}
use Rattle.std.proofs.lemmas.Iterator.{YieldsList-from_slice}
use Rattle.std.proofs.lemmas.Iterator.Search.{all_from_yields_List}
use Rattle.std.proofs.lemmas.List.Folds.{list_all-map}
use Rattle.issuing.specs.Transaction.{says_yes, told_of}
use Rattle.issuing.proofs.transaction.all_agree.Goals as goal

pub returns : goal.returns
returns c =
    all_from_yields_List (λ r. says_yes (told_of r)) _ _ _ c.all.ensures.ran (YieldsList-from_slice c.args.told.now cc) (λ x b q k. grind arith)
    ∙ sym (list_all-map says_yes told_of c.args.told.now)
