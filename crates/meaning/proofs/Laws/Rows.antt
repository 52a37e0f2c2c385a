-- Flat arrays as rows of one length: what stands in a row, and that changing a group sets numbers of its row.
-- Filling up is `pad` over any element; a store in a row is a store in the joined rows, past the rows before it.
use mathlib.Core.Bool.{cond, not}
use mathlib.Core.List.{List, [], ◌∷◌, ◌++◌, map}
use Rattle.std.specs.Prelude.{Option, None, Some}
use mathlib.Core.Path.{◌≡◌, refl, sym, ap, ap₂, subst, ◌∙◌}
use Prim.Native.Nat.{ℕ, zero, suc, pred, ◌+◌, ◌*◌, ◌≤◌, ◌<◌}
use native.Mathlib.Nat.{mul-zero, mul-suc, suc-mul, zero-mul, add_assoc, add_comm, suc-add, zero-add}
use native.Mathlib.Omega.{arith}
use lib.Dec.{T}
use lib.ListN.{length, get_or, set, length-append, length-set, get_or-append}
use lib.Seq.{get_or_at, set_at, set-append_left}
use Rattle.lists.specs.Lists.{flat_map, pad, Each, at_last, last_d, is_some, optional}
use Rattle.lists.proofs.Laws.Folds.{flat_map_append}
use Rattle.lists.proofs.Laws.Each.{each_append, each_front, each_back}
use Rattle.lists.proofs.Laws.Parts.{length_pad, get_d_pad, get_d_rows}
use Rattle.meaning.specs.Table.{Group, Table, every_character, groups, Mark}
use Rattle.meaning.specs.Reader.{change_latest}
use Rattle.meaning.specs.bridge.Flat.{rows}
use Rattle.meaning.proofs.Laws.Reading.{top}

-- the list cut, or filled up with d, to n
abbrev pub fill : {A : Type 0} → A → ℕ → List A → List A
fill d zero xs = []
fill d (suc n) [] = d ∷ fill d n []
fill d (suc n) (x ∷ xs) = x ∷ fill d n xs

pub pad_fill : (n : ℕ) (xs : List ℕ) → pad n xs ≡ fill 0 n xs
unfolding pad
pad_fill zero xs = refl
pad_fill (suc n) [] = ap (λ l. 0 ∷ l) (pad_fill n [])
pad_fill (suc n) (x ∷ xs) = ap (λ l. x ∷ l) (pad_fill n xs)

module _ {A : Type 0} (d : A) where
  pub length_fill : (n : ℕ) (xs : List A) → length (fill d n xs) ≡ n
  length_fill zero xs = refl
  length_fill (suc n) [] = ap suc (length_fill n [])
  length_fill (suc n) (x ∷ xs) = ap suc (length_fill n xs)

  pub fill_snoc : (n : ℕ) (xs : List A) (a : A) → length xs < n → fill d n (xs ++ (a ∷ [])) ≡ set (fill d n xs) (length xs) a
  fill_snoc zero xs a h = absurd (omega arith)
  fill_snoc (suc n) [] a h = refl
  fill_snoc (suc n) (x ∷ xs) a h = ap (λ l. x ∷ l) (fill_snoc n xs a (omega arith))

  -- the element after the last is the filling
  pub fill_after : (n : ℕ) (xs : List A) → get_or (fill d n xs) (length xs) d ≡ d
  fill_after zero [] = refl
  fill_after zero (x ∷ xs) = refl
  fill_after (suc n) [] = refl
  fill_after (suc n) (x ∷ xs) = fill_after n xs

  pub each_fill : (P : A → Type 0) (n : ℕ) (xs : List A) → P d → Each P xs → Each P (fill d n xs)
  each_fill P zero xs p a = tt
  each_fill P (suc n) [] p a = (p, each_fill P n [] p tt)
  each_fill P (suc n) (x ∷ xs) p a = (a.0, each_fill P n xs p a.1)

-- the last element changed, under a map
module _ {A B : Type 0} (d : B) (f : A → B) where
  pub fill_at_last : (F : A → A) (e : A) (n : ℕ) (xs : List A) → 1 ≤ length xs → length xs ≤ n →
      fill d n (map f (at_last F xs)) ≡ set (fill d n (map f xs)) (pred (length xs)) (f (F (last_d e xs)))
  fill_at_last F e n [] p h = absurd (omega arith)
  fill_at_last F e zero (x ∷ xs) p h = absurd (omega arith)
  fill_at_last F e (suc n) (x ∷ []) p h = refl
  fill_at_last F e (suc n) (x ∷ (y ∷ ys)) p h = ap (λ l. f x ∷ l) (fill_at_last F x n (y ∷ ys) (omega arith) (omega arith))

  pub fill_last : (e : A) (n : ℕ) (xs : List A) → 1 ≤ length xs → length xs ≤ n → get_or (fill d n (map f xs)) (pred (length xs)) d ≡ f (last_d e xs)
  fill_last e n [] p h = absurd (omega arith)
  fill_last e zero (x ∷ xs) p h = absurd (omega arith)
  fill_last e (suc n) (x ∷ []) p h = refl
  fill_last e (suc n) (x ∷ (y ∷ ys)) p h = fill_last x n (y ∷ ys) (omega arith) (omega arith)

pub map_append : {A B : Type 0} (f : A → B) (xs ys : List A) → map f (xs ++ ys) ≡ map f xs ++ map f ys
map_append f [] ys = refl
map_append f (x ∷ xs) ys = ap (λ l. f x ∷ l) (map_append f xs ys)

pub length-map : {A B : Type 0} (f : A → B) (xs : List A) → length (map f xs) ≡ length xs
length-map f [] = refl
length-map f (x ∷ xs) = ap suc (length-map f xs)

-- stores at places, each with its number, and the same places further on
abbrev pub stores : List ℕ → List (ℕ × ℕ) → List ℕ
stores l [] = l
stores l (c ∷ cs) = stores (set l c.0 c.1) cs

abbrev pub shift : ℕ → List (ℕ × ℕ) → List (ℕ × ℕ)
shift k [] = []
shift k (c ∷ cs) = (k + c.0, c.1) ∷ shift k cs

pub set_past : (xs ys : List ℕ) (i v : ℕ) → set (xs ++ ys) (length xs + i) v ≡ xs ++ set ys i v
set_past [] ys i v = ap (λ k. set ys k v) (zero-add i)
set_past (x ∷ xs) ys i v = ap (λ k. set (x ∷ (xs ++ ys)) k v) (suc-add (length xs) i) ∙ ap (λ l. x ∷ l) (set_past xs ys i v)

pub stores_past : (xs ys : List ℕ) (cs : List (ℕ × ℕ)) → stores (xs ++ ys) (shift (length xs) cs) ≡ xs ++ stores ys cs
stores_past xs ys [] = refl
stores_past xs ys (c ∷ cs) = ap (λ l. stores l (shift (length xs) cs)) (set_past xs ys c.0 c.1) ∙ stores_past xs (set ys c.0 c.1) cs

pub stores_within : (n : ℕ) (xs ys : List ℕ) (cs : List (ℕ × ℕ)) → length xs ≡ n → Each (λ c. c.0 < n) cs → stores (xs ++ ys) cs ≡ stores xs cs ++ ys
stores_within n xs ys [] e h = refl
stores_within n xs ys (c ∷ cs) e h =
    ap (λ l. stores l cs) (set-append_left xs ys c.0 c.1 (subst (λ m. c.0 < m) (sym e) h.0))
    ∙ stores_within n (set xs c.0 c.1) ys cs (length-set xs c.0 c.1 ∙ e) h.1

-- places below m are below k + m further on
pub each_shift : (k m n : ℕ) (cs : List (ℕ × ℕ)) → k + m ≤ n → Each (λ c. c.0 < m) cs → Each (λ c. c.0 < n) (shift k cs)
each_shift k m n [] l h = tt
each_shift k m n (c ∷ cs) l h = let below : c.0 < m = h.0 in (omega arith, each_shift k m n cs l h.1)

shift_none : (cs : List (ℕ × ℕ)) → shift 0 cs ≡ cs
shift_none [] = refl
shift_none (c ∷ cs) = λ i. (zero-add c.0 i, c.1) ∷ shift_none cs i

pub shift_more : (k m : ℕ) (cs : List (ℕ × ℕ)) → shift k (shift m cs) ≡ shift (k + m) cs
shift_more k m [] = refl
shift_more k m (c ∷ cs) = let e : k + (m + c.0) ≡ k + m + c.0 = sym (add_assoc k m c.0) in λ i. (e i, c.1) ∷ shift_more k m cs i

-- rows of n, joined
abbrev pub joined : ℕ → List (List ℕ) → List ℕ
joined n Rs = flat_map (λ r. pad n r) Rs

pub joined_set : (n : ℕ) (Rs : List (List ℕ)) (g : ℕ) (r : List ℕ) (cs : List (ℕ × ℕ)) → g < length Rs → Each (λ c. c.0 < n) cs →
    pad n r ≡ stores (pad n (get_or Rs g [])) cs → joined n (set Rs g r) ≡ stores (joined n Rs) (shift (n * g) cs)
joined_set n [] g r cs h k e = absurd (omega arith)
joined_set n (R ∷ Rs) zero r cs h k e =
    ap (λ l. l ++ joined n Rs) e
    ∙ sym (stores_within n (pad n R) (joined n Rs) cs (length_pad n R) k)
    ∙ ap (stores (pad n R ++ joined n Rs)) (sym (ap (λ m. shift m cs) (mul-zero n) ∙ shift_none cs))
joined_set n (R ∷ Rs) (suc g) r cs h k e =
    ap (λ l. pad n R ++ l) (joined_set n Rs g r cs (omega arith) k e)
    ∙ sym (stores_past (pad n R) (joined n Rs) (shift (n * g) cs))
    ∙ ap (stores (pad n R ++ joined n Rs)) (shift_more (length (pad n R)) (n * g) cs ∙ ap (λ m. shift m cs) (ap (λ m. m + n * g) (length_pad n R) ∙ add_comm n (n * g) ∙ sym (mul-suc n g)))

pad_front : (n m : ℕ) (xs ys : List ℕ) → pad (n + m) (pad n xs ++ ys) ≡ pad n xs ++ pad m ys
unfolding pad
pad_front zero m xs ys = ap (λ k. pad k ys) (zero-add m)
pad_front (suc n) m [] ys = ap (λ k. pad k (0 ∷ (pad n [] ++ ys))) (suc-add n m) ∙ ap (λ l. 0 ∷ l) (pad_front n m [] ys)
pad_front (suc n) m (x ∷ xs) ys = ap (λ k. pad k (x ∷ (pad n xs ++ ys))) (suc-add n m) ∙ ap (λ l. x ∷ l) (pad_front n m xs ys)

pub pad_none : (n m : ℕ) → pad (n + m) [] ≡ pad n [] ++ pad m []
unfolding pad
pad_none zero m = ap (λ k. pad k []) (zero-add m)
pad_none (suc n) m = ap (λ k. pad k []) (suc-add n m) ∙ ap (λ l. 0 ∷ l) (pad_none n m)

pub pad_pad : (n : ℕ) (xs : List ℕ) → pad n (pad n xs) ≡ pad n xs
unfolding pad
pad_pad zero xs = refl
pad_pad (suc n) [] = ap (λ l. 0 ∷ l) (pad_pad n [])
pad_pad (suc n) (x ∷ xs) = ap (λ l. x ∷ l) (pad_pad n xs)

-- k rows of n, those that are missing filled up
pub pad_rows : {A : Type 0} (f : A → List ℕ) (n k : ℕ) (xs : List A) →
    pad (k * n) (flat_map (λ x. pad n (f x)) xs) ≡ joined n (fill [] k (map f xs))
unfolding pad
pad_rows f n zero xs = ap (λ m. pad m (flat_map (λ x. pad n (f x)) xs)) (zero-mul n)
pad_rows f n (suc k) [] =
    ap (λ m. pad m []) (suc-mul k n ∙ add_comm (k * n) n) ∙ pad_none n (k * n) ∙ ap (λ l. pad n [] ++ l) (pad_rows f n k [])
pad_rows f n (suc k) (x ∷ xs) =
    ap (λ m. pad m (pad n (f x) ++ flat_map (λ x. pad n (f x)) xs)) (suc-mul k n ∙ add_comm (k * n) n)
    ∙ pad_front n (k * n) (f x) (flat_map (λ x. pad n (f x)) xs)
    ∙ ap (λ l. pad n (f x) ++ l) (pad_rows f n k xs)

-- the rows of a table

abbrev pub rows_of : (Group → List ℕ) → List Group → Option Group → List (List ℕ)
rows_of f rs d = fill [] 32 (map f rs) ++ fill [] 1 (map f (optional d))

pub rows_joined : (n : ℕ) (f : Group → List ℕ) (rs : List Group) (d : Option Group) (k : Mark) →
    rows n f (record { rules = rs; default = d; mark = k }) ≡ joined n (rows_of f rs d)
unfolding rows
rows_joined n f rs d k =
    ap₂ ◌++◌ (pad_rows f n 32 rs) (ap (λ m. pad m (flat_map (λ g. pad n (f g)) (optional d))) (omega (arith, suc-mul 0 n, zero-mul n)) ∙ pad_rows f n 1 (optional d))
    ∙ sym (flat_map_append (λ r. pad n r) (fill [] 32 (map f rs)) (fill [] 1 (map f (optional d))))

pub length_rows_of : (f : Group → List ℕ) (rs : List Group) (d : Option Group) → length (rows_of f rs d) ≡ 33
length_rows_of f rs d = length-append (fill [] 32 (map f rs)) (fill [] 1 (map f (optional d))) ∙ ap₂ ◌+◌ (length_fill [] 32 (map f rs)) (length_fill [] 1 (map f (optional d)))

pub length_rows : (n : ℕ) (f : Group → List ℕ) (t : Table) → length (rows n f t) ≡ 33 * n
unfolding rows
length_rows n f t = length-append (pad (32 * n) _) (pad n _) ∙ ap₂ ◌+◌ (length_pad (32 * n) _) (length_pad n _) ∙ omega arith

-- number j of row g
pub rows_at : (n : ℕ) (f : Group → List ℕ) (t : Table) (g j : ℕ) → g < 33 → j < n →
    get_or (rows n f t) (n * g + j) 0 ≡ get_or (get_or (rows_of f t.rules t.default) g []) j 0
rows_at n f t g j h k =
    ap (λ l. get_or l (n * g + j) 0) (rows_joined n f t.rules t.default t.mark)
    ∙ get_d_rows (λ r. pad n r) n (length_pad n) (rows_of f t.rules t.default) g j [] (subst (λ m. g < m) (sym (length_rows_of f t.rules t.default)) h) k
    ∙ get_d_pad n (get_or (rows_of f t.rules t.default) g []) j k

-- the row of a rule, and the default's

get_d_fill_map : {A : Type 0} (f : A → List ℕ) (n : ℕ) (xs : List A) (i : ℕ) (e : A) → i < length xs → length xs ≤ n → get_or (fill [] n (map f xs)) i [] ≡ f (get_or xs i e)
get_d_fill_map f n [] i e h k = absurd (omega arith)
get_d_fill_map f zero (x ∷ xs) i e h k = absurd (omega arith)
get_d_fill_map f (suc n) (x ∷ xs) zero e h k = refl
get_d_fill_map f (suc n) (x ∷ xs) (suc i) e h k = get_d_fill_map f n xs i e (omega arith) (omega arith)

rows_of_front : (f : Group → List ℕ) (rs : List Group) (d : Option Group) (r : ℕ) → r < 32 → get_or (rows_of f rs d) r [] ≡ get_or (fill [] 32 (map f rs)) r []
rows_of_front f rs d r h = get_or-append (fill [] 32 (map f rs)) (fill [] 1 (map f (optional d))) [] r (subst (λ m. r < m) (sym (length_fill [] 32 (map f rs))) h)

pub rows_of_rule : (f : Group → List ℕ) (rs : List Group) (d : Option Group) (r : ℕ) (e : Group) → length rs ≤ 32 → r < length rs → get_or (rows_of f rs d) r [] ≡ f (get_or rs r e)
rows_of_rule f rs d r e k h = rows_of_front f rs d r (omega arith) ∙ get_d_fill_map f 32 rs r e h k

pub rows_of_default : (f : Group → List ℕ) (rs : List Group) (g : Group) → get_or (rows_of f rs (Some g)) 32 [] ≡ f g
rows_of_default f rs g = get_or_at (fill [] 32 (map f rs)) (f g) [] [] 32 (length_fill [] 32 (map f rs))

pub rows_of_none : (f : Group → List ℕ) (rs : List Group) → get_or (rows_of f rs None) 32 [] ≡ []
rows_of_none f rs = get_or_at (fill [] 32 (map f rs)) [] [] [] 32 (length_fill [] 32 (map f rs))

-- where there is no rule yet
rows_of_next : (f : Group → List ℕ) (rs : List Group) (d : Option Group) → length rs < 32 → get_or (rows_of f rs d) (length rs) [] ≡ []
rows_of_next f rs d h =
    rows_of_front f rs d (length rs) h
    ∙ ap (λ m. get_or (fill [] 32 (map f rs)) m []) (sym (length-map f rs))
    ∙ fill_after [] 32 (map f rs)

-- P of each row, from P of each group's
pub each_rows_of : (P : List ℕ → Type 0) (f : Group → List ℕ) (t : Table) → P [] → Each (λ g. P (f g)) (groups t) → Each P (rows_of f t.rules t.default)
each_rows_of P f t p a =
    each_append P (fill [] 32 (map f t.rules)) (fill [] 1 (map f (optional t.default)))
    (each_fill [] P 32 (map f t.rules) p (each_map P f t.rules (each_front (λ g. P (f g)) t.rules (optional t.default) a)))
    (each_fill [] P 1 (map f (optional t.default)) p (each_map P f (optional t.default) (each_back (λ g. P (f g)) t.rules (optional t.default) a)))
  where
    each_map : (P : List ℕ → Type 0) (f : Group → List ℕ) (xs : List Group) → Each (λ g. P (f g)) xs → Each P (map f xs)
    each_map P f [] a = tt
    each_map P f (x ∷ xs) a = (a.0, each_map P f xs a.1)

each_joined : (P : ℕ → Type 0) (n : ℕ) (Rs : List (List ℕ)) → P 0 → Each (Each P) Rs → Each P (joined n Rs)
each_joined P n [] p a = tt
each_joined P n (R ∷ Rs) p a = each_append P (pad n R) (joined n Rs) (subst (Each P) (sym (pad_fill n R)) (each_fill 0 P n R p a.0)) (each_joined P n Rs p a.1)

-- P of each number, from P of each group's numbers
pub each_rows : (P : ℕ → Type 0) (n : ℕ) (f : Group → List ℕ) (t : Table) → P 0 → Each (λ g. Each P (f g)) (groups t) → Each P (rows n f t)
each_rows P n f t p a = subst (Each P) (sym (rows_joined n f t.rules t.default t.mark)) (each_joined P n (rows_of f t.rules t.default) p (each_rows_of (Each P) f t tt a))

-- a table changed

module _ (n : ℕ) (f : Group → List ℕ) (cs : List (ℕ × ℕ)) (inside : Each (λ c. c.0 < n) cs) (rs : List Group) (d : Option Group) (m m' : Mark) where
  changed : (rs' : List Group) (d' : Option Group) (g : ℕ) (r old : List ℕ) → g < 33 → rows_of f rs' d' ≡ set (rows_of f rs d) g r → get_or (rows_of f rs d) g [] ≡ old →
      pad n r ≡ stores (pad n old) cs → rows n f (record { rules = rs'; default = d'; mark = m' }) ≡ stores (rows n f (record { rules = rs; default = d; mark = m })) (shift (n * g) cs)
  changed rs' d' g r old h e o p =
      rows_joined n f rs' d' m'
      ∙ ap (joined n) e
      ∙ joined_set n (rows_of f rs d) g r cs (subst (λ m. g < m) (sym (length_rows_of f rs d)) h) inside (p ∙ ap (λ l. stores (pad n l) cs) (sym o))
      ∙ ap (λ l. stores l (shift (n * g) cs)) (sym (rows_joined n f rs d m))

  -- by one more rule
  pub rows_more : (g : Group) → length rs < 32 → pad n (f g) ≡ stores (pad n []) cs →
      rows n f (record { rules = rs ++ (g ∷ []); default = d; mark = m' }) ≡ stores (rows n f (record { rules = rs; default = d; mark = m })) (shift (n * length rs) cs)
  rows_more g h p =
      changed (rs ++ (g ∷ [])) d (length rs) (f g) [] (omega arith)
      (ap (λ l. l ++ fill [] 1 (map f (optional d)))
      (ap (fill [] 32) (map_append f rs (g ∷ [])) ∙ fill_snoc [] 32 (map f rs) (f g) (rw length-map h) ∙ ap (λ m. set (fill [] 32 (map f rs)) m (f g)) (length-map f rs))
      ∙ sym (set-append_left (fill [] 32 (map f rs)) (fill [] 1 (map f (optional d))) (length rs) (f g) (rw length_fill h)))
      (rows_of_next f rs d h) p

  -- by a default, where there was none
  pub rows_default : (g : Group) → T (not (is_some d)) → pad n (f g) ≡ stores (pad n []) cs →
      rows n f (record { rules = rs; default = Some g; mark = m' }) ≡ stores (rows n f (record { rules = rs; default = d; mark = m })) (shift (n * 32) cs)
  rows_default g t p = changed rs (Some g) 32 (f g) [] (omega arith) (at d) (empty d t) p
    where
      at : (d : Option Group) → rows_of f rs (Some g) ≡ set (rows_of f rs d) 32 (f g)
      at None = sym (set_at (fill [] 32 (map f rs)) [] [] (f g) 32 (length_fill [] 32 (map f rs)))
      at (Some x) = sym (set_at (fill [] 32 (map f rs)) (f x) [] (f g) 32 (length_fill [] 32 (map f rs)))

      empty : (d : Option Group) → T (not (is_some d)) → get_or (rows_of f rs d) 32 [] ≡ []
      empty None t = rows_of_none f rs
      empty (Some x) t = absurd t

-- a group read last is there, and its number
abbrev pub Grouped : List Group → Option Group → Type 0
Grouped rs None = 1 ≤ length rs
Grouped rs (Some g) = Unit {0}

abbrev pub number_of : List Group → Option Group → ℕ
number_of rs d = cond (is_some d) 32 (pred (length rs))

-- by a change of its last group
pub rows_latest : (n : ℕ) (f : Group → List ℕ) (cs : List (ℕ × ℕ)) (inside : Each (λ c. c.0 < n) cs) (rs : List Group) (d : Option Group) (m : Mark) (F : Group → Group) →
    length rs ≤ 32 → Grouped rs d → pad n (f (F (top rs d))) ≡ stores (pad n (f (top rs d))) cs →
    rows n f (change_latest F (record { rules = rs; default = d; mark = m })) ≡ stores (rows n f (record { rules = rs; default = d; mark = m })) (shift (n * number_of rs d) cs)
unfolding change_latest
rows_latest n f cs inside rs None m F h k p =
    changed n f cs inside rs None m m (at_last F rs) None (pred (length rs)) (f (F (top rs None))) (f (top rs None)) (omega arith)
    (ap (λ l. l ++ fill [] 1 (map f [])) (fill_at_last [] f F (every_character []) 32 rs k h)
    ∙ sym (set-append_left (fill [] 32 (map f rs)) ([] ∷ []) (pred (length rs)) (f (F (top rs None))) (rw length_fill (omega arith))))
    (rows_of_front f rs None (pred (length rs)) (omega arith) ∙ fill_last [] f (every_character []) 32 rs k h) p
rows_latest n f cs inside rs (Some g) m F h k p =
    changed n f cs inside rs (Some g) m m rs (Some (F g)) 32 (f (F g)) (f g) (omega arith)
    (sym (set_at (fill [] 32 (map f rs)) (f g) [] (f (F g)) 32 (length_fill [] 32 (map f rs))))
    (rows_of_default f rs g) p
