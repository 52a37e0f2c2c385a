-- Rules that fit an input along which an automaton reads: no shorter one fits, the least as long as what was read is chosen, or what fits is longer.
-- By what the state after a word tells of the rules that take the word whole.
use mathlib.Core.Bool.{Bool, true, false, true≢false}
use mathlib.Core.List.{List, [], ◌∷◌, ◌++◌, append_assoc, append-nil}
use mathlib.Core.Logic.{◌≢◌, ◌⊎◌, inl, inr}
use Rattle.std.specs.Prelude.{None, Some}
use mathlib.Core.Path.{◌≡◌, refl, sym, ap, subst, ◌∙◌}
use Prim.Native.Nat.{ℕ, zero, suc, ◌+◌, ◌-◌, ◌≤◌, ◌<◌}
use native.Mathlib.Decide.{ℕ_discrete}
use native.Mathlib.Omega.{arith}
use lib.Dec.{T}
use lib.ListN.{length, take, length-append}
use lib.Seq.{take-append_seam, take-append-add}
use Rattle.lists.proofs.Laws.Each.{each_front}
use Rattle.meaning.specs.Table.{Characters, Table, rule_at}
use Rattle.meaning.specs.Value.{fits_word}
use Rattle.meaning.proofs.Laws.Shape.{Shaped}
use Rattle.meaning.proofs.Laws.Groups.{rule_shaped}
use Rattle.meaning.proofs.Laws.Prefix.{fits_prefix, fits_prefix_front, fits_prefix_whole, fits_word_prefix}
use Rattle.meaning.proofs.Laws.Choice.{Fits, fits_room, Chosen, chosen_unique}
use Rattle.automaton.specs.Automaton.{Automaton}
use Rattle.automaton.proofs.Laws.Good.{after, after_snoc, after_inside, Leads, leads_snoc, Good, go_none, Least, Done, Free, Reads}

-- no rule that fits z is shorter than w
abbrev pub NoShorter : Table → List ℕ → List ℕ → Type 0
NoShorter t z w = (r : ℕ) → r < length t.rules → Fits t r z → length w ≤ (rule_at t r).size

module _ (t : Table) (s : Shaped t) (w v : List ℕ) where
  -- of rules as long as w, those that fit w and what follows take w whole
  pub word_whole : (r : ℕ) → r < length t.rules → (rule_at t r).size ≡ length w →
      fits_word (rule_at t r).ranges (take (rule_at t r).size (w ++ v)) ≡ fits_prefix (rule_at t r).ranges w
  word_whole r h p =
      let n : length (rule_at t r).ranges ≡ (rule_at t r).size = (rule_shaped t s r h).places in
      ap (fits_word (rule_at t r).ranges) (ap (λ m. take m (w ++ v)) p ∙ take-append_seam w v) ∙ fits_prefix_whole (rule_at t r).ranges w (n ∙ p)

  pub fit_done : (r : ℕ) → r < length t.rules → (rule_at t r).size ≡ length w → Fits t r (w ++ v) → Done t w r
  fit_done r h p f = record { rule = h; size = p; takes = subst T (word_whole r h p) f.match }

  pub done_fit : (r : ℕ) → Done t w r → ((rule_at t r).anchored ≡ true → (rule_at t r).size ≡ length (w ++ v)) → Fits t r (w ++ v)
  done_fit r d e = record { match = subst T (sym (word_whole r d.rule d.size)) d.takes; at-end = e }

  -- the least of the rules as long as w that fit is chosen, if no shorter one fits
  pub least_chosen : (r : ℕ) → Done t w r → Fits t r (w ++ v) → NoShorter t (w ++ v) w →
      ((k : ℕ) → k < length t.rules → (rule_at t k).size ≡ length w → Fits t k (w ++ v) → r ≤ k) →
      Chosen t (length t.rules) (w ++ v) (Some r)
  least_chosen r d f n l = (
    d.rule,
    f,
    λ k h g.
        let p : (rule_at t r).size ≡ length w = d.size in
        let i : length w ≤ (rule_at t k).size = n k h g in
        (omega arith, λ j. l k h (omega arith) g),
  )

-- At the end of the input w, where no shorter rule fits.

pub end_done : (t : Table) → Shaped t → (w : List ℕ) → NoShorter t (w ++ []) w → (k : ℕ) → k < length t.rules → Fits t k (w ++ []) → Done t w k
end_done t s w n k h f =
    let i : length w ≤ (rule_at t k).size = n k h f in
    let j : (rule_at t k).size ≤ length (w ++ []) = fits_room t k (w ++ []) s h f in
    let l : length (w ++ []) ≡ length w + 0 = length-append w [] in
    fit_done t s w [] k h (omega arith) f

-- the least rule that takes w whole is chosen, and where there is none, none is

pub end_chosen : (t : Table) → Shaped t → (w : List ℕ) (r : ℕ) → Least (Done t w) (suc r) → NoShorter t (w ++ []) w → Chosen t (length t.rules) (w ++ []) (Some r)
end_chosen t s w r l n =
    least_chosen t s w [] r l.0 (done_fit t s w [] r l.0 (λ a. l.0.size ∙ ap length (sym (append-nil w)))) n
    (λ k h p f. l.1 k (end_done t s w n k h f))

pub end_none : (t : Table) → Shaped t → (w : List ℕ) → Least (Done t w) 0 → NoShorter t (w ++ []) w → Chosen t (length t.rules) (w ++ []) None
end_none t s w l n = λ r h f. l r (end_done t s w n r h f)

-- Before a next character x, where no shorter rule fits.

module _ (t : Table) (s : Shaped t) (w : List ℕ) (x : ℕ) (u : List ℕ) where
  pub free_of : (k : ℕ) → k < length t.rules → (rule_at t k).size ≡ length w → Fits t k (w ++ x ∷ u) → Free t w k
  free_of k h p f = record { done = fit_done t s w (x ∷ u) k h p f; free = unless (rule_at t k).anchored refl }
    where
      unless : (a : Bool) → (rule_at t k).anchored ≡ a → a ≡ false
      unless false e = refl
      unless true e = let i : (rule_at t k).size ≡ length (w ++ x ∷ u) = f.at-end e in absurd (omega (arith, length-append w (x ∷ u)))

  -- the least that need not be at the end is chosen
  pub free_chosen : (r : ℕ) → Least (Free t w) (suc r) → NoShorter t (w ++ x ∷ u) w → Chosen t (length t.rules) (w ++ x ∷ u) (Some r)
  free_chosen r l n =
      least_chosen t s w (x ∷ u) r l.0.done (done_fit t s w (x ∷ u) r l.0.done (λ a. absurd (true≢false (sym a ∙ l.0.free)))) n
      (λ k h p f. l.1 k (free_of k h p f))

  -- if none is accepted, what fits is longer
  pub longer : Least (Free t w) 0 → NoShorter t (w ++ x ∷ u) w → NoShorter t (w ++ x ∷ u) (w ++ x ∷ [])
  longer l n k h f =
      let i : length w ≤ (rule_at t k).size = n k h f in
      let j : length (w ++ x ∷ []) ≡ length w + 1 = length-append w (x ∷ []) in
      elim (ℕ_discrete (rule_at t k).size (length w)) [
        | yes p ↦ absurd (l k (free_of k h p f))
        | no p ↦ omega arith
      ]

  -- what is longer and fits takes x too
  pub longer_takes : (k : ℕ) → length (w ++ x ∷ []) ≤ (rule_at t k).size → Fits t k (w ++ x ∷ u) →
      T (fits_prefix (rule_at t k).ranges (w ++ x ∷ []))
  longer_takes k i f =
      let ps = (rule_at t k).ranges in
      let v = w ++ x ∷ [] in
      let m = (rule_at t k).size - length v in
      let p : (rule_at t k).size ≡ length v + m = omega arith in
      let e : w ++ x ∷ u ≡ v ++ u = sym (append_assoc w (x ∷ []) u) in
      fits_prefix_front ps v (take m u)
      (rw (← take-append-add v u m, ← p, ← e) (fits_word_prefix ps (take (rule_at t k).size (w ++ x ∷ u)) f.match))

-- What the state after a word tells of the rules, whatever follows the word.

pub characters_front : (w v : List ℕ) → Characters (w ++ v) → Characters w
characters_front w v c = each_front (λ x. x < 65536) w v c

module _ (A : Automaton) (t : Table) (R : Reads A t) (w v : List ℕ) (c : Characters (w ++ v)) (l : Leads A 0 w) where
  pub accept_least : {g : ℕ} → A.accept (after A 0 w) ≡ g → Least (Free t w) g
  accept_least p = subst (Least (Free t w)) p (R.accept_is w (characters_front w v c) l)

  pub end_least : {g : ℕ} → A.accept_at_end (after A 0 w) ≡ g → Least (Done t w) g
  end_least p = subst (Least (Done t w)) p (R.end_is w (characters_front w v c) l)

-- Along a word that the automaton reads.

module _ (A : Automaton) (L n : ℕ) (G : Good A L n) (t : Table) (s : Shaped t) (R : Reads A t) where
  short_on : (w v u : List ℕ) → Characters (w ++ (v ++ u)) → Leads A 0 w → Leads A (after A 0 w) v → NoShorter t (w ++ (v ++ u)) w → NoShorter t (w ++ (v ++ u)) (w ++ v)
  short_on w [] u c l k m = rw (append-nil w) m
  short_on w (x ∷ v) u c l k m =
      let z = w ++ x ∷ [] in
      let e : z ++ (v ++ u) ≡ w ++ x ∷ (v ++ u) = append_assoc w (x ∷ []) (v ++ u) in
      let f : z ++ v ≡ w ++ x ∷ v = append_assoc w (x ∷ []) v in
      let q = after A 0 w in
      let no_go : A.accept q ≡ 0 = go_none A L n G q x (after_inside A L n G 0 w G.some_state) k.0 in
      let further : NoShorter t (w ++ x ∷ (v ++ u)) z = longer t s w x (v ++ u) (accept_least A t R w (x ∷ (v ++ u)) c l no_go) m in
      rw (e, f) at (short_on z v u (rw e c) (leads_snoc A 0 w x l k.0) (rw (after_snoc A 0 w x) k.1) (rw e further))

  -- no rule that fits is shorter than a word that leads on
  pub short_along : (w u : List ℕ) → Characters (w ++ u) → Leads A 0 w → NoShorter t (w ++ u) w
  unfolding after
  short_along w u c l = short_on [] w u c tt l (λ r h f. omega arith)

  -- a rule that is the choice is the end or the go of a state that is come to on the way
  abbrev Told : ℕ → Type 0
  Told r = (q : ℕ) × (q < n) × ((A.accept_at_end q ≡ suc r) ⊎ (A.accept q ≡ suc r))

  told_on : (r : ℕ) (w v : List ℕ) → Characters (w ++ v) → Leads A 0 w → Chosen t (length t.rules) (w ++ v) (Some r) → Told r
  told_on r w [] c l k = by_end (A.accept_at_end (after A 0 w)) refl
    where
      short : NoShorter t (w ++ []) w
      short = short_along w [] c l

      by_end : (g : ℕ) → A.accept_at_end (after A 0 w) ≡ g → Told r
      by_end zero p = absurd (end_none t s w (end_least A t R w [] c l p) short r k.0 k.1)
      by_end (suc e) p =
          let z : Some e ≡ Some r = chosen_unique t (length t.rules) (w ++ []) (Some e) (Some r) (end_chosen t s w e (end_least A t R w [] c l p) short) k in
          let y : e ≡ r = cc in
          (after A 0 w, after_inside A L n G 0 w G.some_state, inl (p ∙ ap suc y))
  told_on r w (x ∷ u) c l k =
      by_go (λ d. told_on r (w ++ x ∷ []) u (rw (append_assoc w (x ∷ []) u) c) (leads_snoc A 0 w x l d) (rw (append_assoc w (x ∷ []) u) k))
      (A.accept (after A 0 w)) refl (ℕ_discrete (A.target (after A 0 w) x) 0)
    where
      short : NoShorter t (w ++ x ∷ u) w
      short = short_along w (x ∷ u) c l

      z : List ℕ
      z = w ++ x ∷ []

      e : z ++ u ≡ w ++ x ∷ u
      e = append_assoc w (x ∷ []) u

      by_go : (A.target (after A 0 w) x ≢ 0 → Told r) → (g : ℕ) → A.accept (after A 0 w) ≡ g → Dec (A.target (after A 0 w) x ≡ 0) → Told r
      by_go on (suc g) p d =
          let y : Some g ≡ Some r = chosen_unique t (length t.rules) (w ++ x ∷ u) (Some g) (Some r) (free_chosen t s w x u g (accept_least A t R w (x ∷ u) c l p) short) k in
          let y' : g ≡ r = cc in
          (after A 0 w, after_inside A L n G 0 w G.some_state, inr (p ∙ ap suc y'))
      by_go on zero p (yes d) =
          let i = longer t s w x u (accept_least A t R w (x ∷ u) c l p) short r k.0 k.1 in
          absurd (R.dead w x (characters_front z u (rw e c)) l p d r k.0 (longer_takes t s w x u r i k.1))
      by_go on zero p (no d) = on d

  pub told_by : (r : ℕ) (z : List ℕ) → Characters z → Chosen t (length t.rules) z (Some r) → Told r
  told_by r z c k = told_on r [] z c tt k
