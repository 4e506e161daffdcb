-- Answers at the same place of two lists.
use Rattle.std.proofs.Common.{◌≡◌, ℕ, ◌<◌, Bool, List, map, length, get_or, Decides, sym, ap, ◌∙◌}
use Rattle.std.proofs.lemmas.List.{get_or-map}

-- an item that was read, by what a map makes of it
read_mapped : {X Y : Type 0} (f : X → Y) (xs : List X) (k : ℕ) (x : X) (e : Y) → k < length xs → x ≡ get_or xs k x → get_or (map f xs) k e ≡ f x
read_mapped f xs k x e l h = get_or-map f xs k x e l ∙ ap f (sym h)

-- a test of two items that were read is one of what a map makes of them
pub both_decide : {X Y : Type 0} (f : X → Y) (P : Y → Y → Type 0) (xs ys : List X) (k : ℕ) (x y : X) (e : Y) (r : Bool) → k < length xs → k < length ys → x ≡ get_or xs k x → y ≡ get_or ys k y → Decides r (P (f x) (f y)) → Decides r (P (get_or (map f xs) k e) (get_or (map f ys) k e))
both_decide f P xs ys k x y e r l m hx hy d = rw (read_mapped f xs k x e l hx, read_mapped f ys k y e m hy) d
