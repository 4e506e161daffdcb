use Rattle.std.proofs.lemmas.Result.{err_from_is_err_and}
use Rattle.std.proofs.Common.{◌≡◌, ◌++◌, ◌∷◌, [], length, vec_items, refl, ap, ◌∙◌, rules}
use Rattle.codes.proofs.Held.{same_in, closed_in}
use Rattle.codes.proofs.lists.Lists.close.Goals as goal

pub returns-in_err-push : goal.returns-in_err-push
returns-in_err-push c = let p = err_from_is_err_and c.from_residual-in_err-push.result c.from_residual-in_err-push.ensures.1 in rw p.1 (same_in c.args.self.now _ c.in_err-push.ensures.items refl)

pub returns : goal.returns
returns c =
    let end : c.in_ok-end.end ≡ length (vec_items c.args.self.now.items) = search rules in
    closed_in c.args.self.now _ (c.in_ok-push.ensures.items ∙ ap (λ n. vec_items c.args.self.now.starts ++ n ∷ []) end) refl
