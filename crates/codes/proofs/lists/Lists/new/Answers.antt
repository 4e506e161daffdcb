use Rattle.std.proofs.Common.{◌++◌, ◌∷◌, [], ap, ◌∙◌}
use Rattle.codes.proofs.Held.{empty_in}
use Rattle.codes.proofs.lists.Lists.new.Goals as goal

pub returns : goal.returns
returns c = empty_in _ (c.in_ok-push.ensures.items ∙ ap (λ s. s ++ 0 ∷ []) c.new-starts.ensures.items) c.new.ensures.items
