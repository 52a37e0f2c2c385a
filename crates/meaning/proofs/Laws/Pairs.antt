-- What request [8] says of records, of Definition 7 and of E.
-- The choice where no rule fits is computed by the mode; what follows it is the conversion of the rest.
use mathlib.Core.Bool.{false, ◌&&◌, cond}
use mathlib.Core.List.{List, [], ◌∷◌, ◌++◌}
use mathlib.Core.Logic.{◌≢◌}
use Rattle.std.specs.Prelude.{Option, None, Some}
use mathlib.Core.Path.{◌≡◌, refl, sym, ap, subst, ◌∙◌}
use Prim.Native.Nat.{ℕ, ◌≤◌, ◌<◌}
use native.Mathlib.Omega.{arith}
use borrow.Author.Tests.{lt-leb}
use lib.Dec.{T, leb, leb→le}
use lib.ListN.{length, drop, length-append}
use lib.Seq.{take_at, drop_at}
use Rattle.lists.proofs.Laws.Tests.{of_T, test_eq, both, and_left, and_right}
use Rattle.meaning.specs.Refusal.{refused}
use Rattle.meaning.specs.Table.{Paired, Table, mode, present, least, first_units, second_units, is_first, is_second, is_pair, rule_at, group, default_number, pair_number, expansion}
use Rattle.meaning.specs.Record.{decode}
use Rattle.meaning.specs.Reader.{Reading, read_one}
use Rattle.meaning.specs.Meaning.{fits, best, starts_pair, or_default, choose, written, text_of, chosen, convert, meaning_text}
use Rattle.meaning.specs.Pairs.{default_with, NoneFits, Alone, Writes, PairsMeant}
use Rattle.meaning.proofs.Laws.Groups.{group_pair, default_size, least_le, written_pair}
use Rattle.meaning.proofs.Laws.Choice.{fits_facts, facts_fit, Chosen, best_chosen, choose_is, Numbered, plain, paired, choose_number}
use Rattle.meaning.proofs.Laws.Decoding.{refuses, decode_default}
use Rattle.meaning.proofs.Laws.Encoding.{read_default}
use Rattle.meaning.proofs.Laws.Described.{well_formed_shaped}
use Rattle.meaning.proofs.Laws.Writing.{convert_step}

-- where no rule fits, the mode chooses
none_fits : (t : Table) (rest : List ℕ) → mode t ≡ Paired → NoneFits t rest → choose t rest ≡ or_default Paired rest None
none_fits t rest m h = choose_is t rest None (λ r b f. h r b (facts_fit t r rest f)) ∙ ap (λ k. or_default k rest None) m

-- a choice of a group with as many characters as the word, which writes out for it
writes_first : (t : Table) (n : ℕ) (word out rest : List ℕ) → 1 ≤ length word → (group t n).size ≡ length word → choose t (word ++ rest) ≡ Some n →
    written (group t n) word ≡ out → Writes t n word out rest
unfolding convert text_of
writes_first t n word out rest l e c w =
    let first : convert t (word ++ rest) ≡ chosen (record { group = n; word = word }) (convert t rest) =
    convert_step t (word ++ rest) n (rw length-append (omega arith)) (omega arith) c
    ∙ ap (λ u. chosen (record { group = n; word = u }) (convert t (drop (group t n).size (word ++ rest)))) (take_at word rest (group t n).size (sym e))
    ∙ ap (λ u. chosen (record { group = n; word = word }) (convert t u)) (drop_at word rest (group t n).size (sym e)) in
    record {
      choice = first;
      text = ap (λ c. text_of (λ g v. written (group t g) v) c.log) first ∙ ap (λ u. u ++ meaning_text t rest) w;
    }

no_both : (x : ℕ) → T (is_first x) → T (is_second x) → ⊥
no_both x f s =
    let least : ℕ = second_units.lowest in
    let most : ℕ = first_units.highest in
    omega (arith, leb→le x most (and_right (leb first_units.lowest x) (leb x most) f), leb→le least x (and_left (leb least x) (leb x second_units.highest) s))

-- a unit that is alone starts no pair
starts_none : (x : ℕ) (rest : List ℕ) → Alone x rest → starts_pair (x ∷ rest) ≡ false
starts_none x [] h = refl
starts_none x (y ∷ rest) h =
    test_eq (is_pair x y) false (λ t. h y rest refl (and_left (is_first x) (is_second y) t) (and_right (is_first x) (is_second y) t)) (λ u. absurd u)

-- the choice is that among the rules where one fits
rule_first : (t : Table) (rest : List ℕ) (r : ℕ) → r < length t.rules → T (fits (rule_at t r) rest) →
    (n : ℕ) × (choose t rest ≡ Some n) × (n < length t.rules)
rule_first t rest r l f = from (best t (length t.rules) rest) (best_chosen t (length t.rules) rest)
  where
    from : (b : Option ℕ) → Chosen t (length t.rules) rest b → (n : ℕ) × (choose t rest ≡ Some n) × (n < length t.rules)
    from None c = absurd (c r l (fits_facts t r rest f))
    from (Some n) c = (n, choose_is t rest (Some n) c, c.0)

refuses_mark : (s : Reading) (m : ℕ) → 1 < m → read_one s (decode (default_with m)) ≡ refused 2
unfolding read_one
refuses_mark s m h = ap (read_one s) (decode_default m 0 0 0 0 0 0 ∙ sym (refuses 0 _ _ (lt-leb m 1 h)))

pub pairs_meant : PairsMeant
pairs_meant =
    record {
      carries = read_default;
      no_other = refuses_mark;
      apart = no_both;
      rules_first = rule_first;
      both = λ t m x y rest f g h.
          writes_first t pair_number (x ∷ y ∷ []) (x ∷ y ∷ []) rest (omega arith) (ap (λ k. k.size) (group_pair t))
          (none_fits t (x ∷ y ∷ rest) m h ∙ ap (λ b. Some (cond b pair_number default_number)) (of_T (is_first x && is_second y) (both (is_first x) (is_second y) f g)))
          (ap (λ k. written k (x ∷ y ∷ [])) (group_pair t) ∙ written_pair x y);
      alone = λ t W m x rest n h.
          writes_first t default_number (x ∷ []) _ rest (omega arith) (default_size t (well_formed_shaped t W) (ap present m))
          (none_fits t (x ∷ rest) m h ∙ ap (λ b. Some (cond b pair_number default_number)) (starts_none x rest n)) refl;
      unmarked = λ t W m rest e. no_pair t m rest (choose_number t (well_formed_shaped t W) rest pair_number e);
      at_least = λ t m. subst (λ k. least k ≤ expansion t) m (least_le t);
    }
  where
    no_pair : (t : Table) → mode t ≢ Paired → (rest : List ℕ) → Numbered t rest pair_number → ⊥
    no_pair t m rest (plain l) = omega arith
    no_pair t m rest (paired e p q) = m p
