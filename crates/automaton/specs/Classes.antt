-- "Machine words": class starts and classes.
use Rattle.std.specs.Prelude.{cond, List, [], ◌∷◌, ℕ, suc, pred, eqb, leb, ltb}
use Rattle.lists.specs.Lists.{count, fold, flat_map}
use Rattle.meaning.specs.Table.{Range, Table}

-- x put into a rising list, "without repeats"
abbrev pub insert : ℕ → List ℕ → List ℕ
insert x [] = x ∷ []
insert x (y ∷ ys) = let rest = insert x ys in cond (ltb x y) (x ∷ y ∷ ys) (cond (eqb x y) (y ∷ ys) (y ∷ rest))

-- "every range's lowest, and every highest + 1 up to 65535"
abbrev pub edges : Range → List ℕ
edges r = r.lowest ∷ cond (ltb r.highest 65535) (suc r.highest ∷ []) []

abbrev pub all_edges : Table → List ℕ
all_edges t = flat_map (λ g. flat_map (flat_map edges) g.ranges) t.rules

-- "Class starts are 0, every range's lowest, and every highest + 1 up to 65535, without repeats, rising"
unfoldable pub starts : Table → List ℕ
starts t = fold insert (0 ∷ []) (all_edges t)

-- "A character's class is that of the last start not above it": the class's number
unfoldable pub class_of : List ℕ → ℕ → ℕ
class_of ss c = pred (count (λ s. leb s c) ss)
