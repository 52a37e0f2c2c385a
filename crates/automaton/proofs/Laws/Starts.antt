-- After each range met the words from 6 are 0 and the starts met so far, rising, with zeros behind (request [3] of document 02).
-- A range adds its edges to the members and leaves the list rising, and the words hold the list; two rising lists of the same members are one.
use mathlib.Core.List.Memᴰ
use mathlib.Core.List.{List, [], ◌∷◌, ◌++◌, append-nil, append_assoc, Memᴰ}
use mathlib.Core.Logic.{inl, inr, ⊎_elim}
use mathlib.Core.Path.{◌≡◌, refl, sym, ap, subst, ◌∙◌}
use Prim.Native.Nat.{ℕ, ◌≤◌}
use native.Mathlib.Omega.{arith}
use lib.ListN.{length, take, drop, take-append-drop}
use Rattle.lists.specs.Lists.{flat_map}
use Rattle.lists.proofs.Laws.Folds.{fold_left_append}
use Rattle.meaning.specs.Table.{Range}
use Rattle.automaton.specs.Classes.{insert, edges}
use Rattle.automaton.specs.Layout.{word_count}
use Rattle.automaton.specs.Starts.{ranges_of, Gathering, holding, meet_range, meet_ranges, IsStart, StartsMet, InPlace, StartsInPlace}
use Rattle.automaton.proofs.Laws.Classes.{edge_met, met_edge}
use Rattle.automaton.proofs.Laws.Inserting.{insert_all, all_new, all_old, all_only, all_rising, rising_one}
use Rattle.automaton.proofs.Laws.Gathering.{Holds, range_holds, ranges_hold, ranges_same, ranges_then, zero_holds, starts_in_turn}

-- the starts met, one range more, and all of some ranges

met_zero : StartsMet [] (0 ∷ [])
met_zero = record {
  members = λ x. (λ m. inl (Memᴰ.eq_of_singleton m), λ s. ⊎_elim (λ e. Memᴰ.head e) (λ p. absurd (Memᴰ.not-nil p.1)) s);
  rising = (tt, tt);
}

met_next : (rs : List Range) (r : Range) (ss : List ℕ) → StartsMet rs ss → StartsMet (rs ++ r ∷ []) (insert_all (edges r) ss)
met_next rs r ss p = record { members = λ x. (to x, from x); rising = all_rising (edges r) ss p.rising }
  where
    to : (x : ℕ) → Memᴰ x (insert_all (edges r) ss) → IsStart (rs ++ r ∷ []) x
    to x m =
        ⊎_elim (λ e. inr (r, Memᴰ.append_right rs (Memᴰ.head refl), edge_met r x e))
        (λ o. ⊎_elim (λ e. inl e) (λ q. inr (q.0, Memᴰ.append_left (r ∷ []) q.1, q.2)) ((p.members x).0 o))
        (all_only (edges r) ss m)

    from : (x : ℕ) → IsStart (rs ++ r ∷ []) x → Memᴰ x (insert_all (edges r) ss)
    from x s =
        ⊎_elim (λ e. all_old (edges r) ss ((p.members x).1 (inl e)))
        (λ q. ⊎_elim (λ i. all_old (edges r) ss ((p.members x).1 (inr (q.0, i, q.2))))
        (λ i. all_new (edges r) ss (subst (λ k. Memᴰ x (edges k)) (Memᴰ.eq_of_singleton i) (met_edge q.0 x q.2)))
        (Memᴰ.append_cases rs q.1)) s

met_all : (qs rs : List Range) (ss : List ℕ) → StartsMet qs ss → StartsMet (qs ++ rs) (insert_all (flat_map edges rs) ss)
met_all qs [] ss p = subst (λ k. StartsMet k ss) (sym (append-nil qs)) p
met_all qs (r ∷ rs) ss p =
    subst (λ k. StartsMet k (insert_all (edges r ++ flat_map edges rs) ss)) (append_assoc qs (r ∷ []) rs)
    (subst (StartsMet ((qs ++ r ∷ []) ++ rs)) (sym (fold_left_append insert (edges r) (flat_map edges rs) ss))
    (met_all (qs ++ r ∷ []) rs (insert_all (edges r) ss) (met_next qs r ss p)))

-- starts met, and held by the words
in_place : {rs : List Range} {ss : List ℕ} {g : Gathering} → StartsMet rs ss → Holds ss g → InPlace rs g
in_place {rs} {ss} {g} p h = record { starts = ss; met = p; words = h.kept; count = h.number }

pub starts_in_place : StartsInPlace
starts_in_place = record {
  after_each = λ t w c r. let rs = take r (ranges_of t) in
      in_place (met_all [] rs (0 ∷ []) met_zero) (ranges_hold rs (holding w 1) (omega (arith, c.room)) (0 ∷ []) (zero_holds w c));
  on_the_way = λ rs r g. ap (λ k. meet_ranges k g) (sym (take-append-drop r rs)) ∙ ranges_then (take r rs) (drop r rs) g;
  one_more = λ rs r g room p.
      in_place (met_next rs r p.starts p.met) (range_holds r p.starts g (omega arith) (record { number = p.count; kept = p.words }));
  nowhere_else = λ rs g room. ranges_same rs g (omega arith);
  no_choice = λ rs a b p q. rising_one a b p.rising q.rising (λ x m. (q.members x).1 ((p.members x).0 m)) (λ x m. (p.members x).1 ((q.members x).0 m));
  compiled = λ t. subst (StartsMet (ranges_of t)) (sym (starts_in_turn t)) (met_all [] (ranges_of t) (0 ∷ []) met_zero);
}

-- one range more, by the code
pub still_in_place : (r : Range) (g : Gathering) {k : Gathering} → word_count ≤ length g.words → k ≡ meet_range r g →
    (rs : List Range) → InPlace rs g → InPlace (rs ++ r ∷ []) k
still_in_place r g room e rs p = subst (InPlace (rs ++ r ∷ [])) (sym e) (starts_in_place.one_more rs r g room p)
