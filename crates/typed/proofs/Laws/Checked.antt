-- Records fed one after another: the state at the end holds what the table check answers on all their bytes, the array that it leaves, and
-- where it took them all in the bytes at the start of the buffer. By recursion on the records, from any state on the way. Assumes nothing.
use mathlib.Core.List.{List, [], ◌∷◌, ◌++◌, append-nil, append_assoc}
use mathlib.Core.Path.{◌≡◌, refl, sym, ap, ap₂, subst, ◌∙◌}
use Prim.Native.Nat.{ℕ, suc, ◌+◌, ◌*◌, ◌/◌, ◌≤◌}
use native.Mathlib.Omega.{arith}
use borrow.Author.Tests.{le-leb}
use lib.ListN.{length, drop, length-append, length-drop}
use lib.Seq.{take_all, take_at, drop_at, take-append_seam, drop-append-add, drop-drop}
use Rattle.lists.specs.Lists.{Each, fold_left, pad}
use Rattle.lists.proofs.Laws.Parts.{flat}
use Rattle.meaning.specs.Refusal.{Outcome, refused, accepted}
use Rattle.meaning.specs.Direct.{over}
use Rattle.meaning.specs.Record.{decode}
use Rattle.meaning.specs.bridge.Flat.{loaded_size}
use Rattle.meaning.proofs.Laws.Refusal.{accepted_not}
use Rattle.rules.specs.bridge.Summary.{started, admitted, if_taken, Taken, take_on, take_records}
use Rattle.rules.specs.declared.reader.Reader.{Reader}
use Rattle.typed.specs.bridge.Stream.{State, put, tested, feed_to, feed, nothing_read}
use Rattle.typed.proofs.Laws.Feeding.{feed_idle, feed_tested}

-- records of eight bytes each
abbrev pub Eights : List (List ℕ) → Type 0
Eights cs = Each (λ c. length c ≡ 8) cs

-- the state after them, and the table check on bytes
abbrev pub fed_all : List (List ℕ) → List ℕ → ℕ → State
fed_all cs buffer lent = fold_left feed cs (nothing_read buffer lent)

abbrev pub check_of : List ℕ → Taken
check_of b = take_records (length b / 8) b started (pad loaded_size [])

-- a check that has refused takes none of them
pub fold_idle : (cs : List (List ℕ)) (s : State) (n : ℕ) → s.check ≡ refused n → fold_left feed cs s ≡ s
fold_idle [] s n e = refl
fold_idle (c ∷ cs) s n e = ap (fold_left feed cs) (feed_idle c s n e) ∙ fold_idle cs s n e

-- whether refusal 17 was met does not change

feed_fine : (c : List ℕ) (s : State) → (feed c s).fine ≡ s.fine
unfolding feed
feed_fine c s = by s.check
  where
    on : (o : Outcome Reader) (l : List ℕ) → (tested o c l s).fine ≡ s.fine
    on (refused n) l = refl
    on (accepted r) l = refl

    by : (o : Outcome Reader) → (feed_to o c s).fine ≡ s.fine
    by (refused n) = refl
    by (accepted r) = on (admitted r (decode c)) (if_taken r (decode c) s.loaded)

pub fold_fine : (cs : List (List ℕ)) (s : State) → (fold_left feed cs s).fine ≡ s.fine
fold_fine [] s = refl
fold_fine (c ∷ cs) s = fold_fine cs (feed c s) ∙ feed_fine c s

-- the loan does not change

feed_lent : (c : List ℕ) (s : State) → (feed c s).lent ≡ s.lent
unfolding feed
feed_lent c s = by s.check
  where
    on : (o : Outcome Reader) (l : List ℕ) → (tested o c l s).lent ≡ s.lent
    on (refused n) l = refl
    on (accepted r) l = refl

    by : (o : Outcome Reader) → (feed_to o c s).lent ≡ s.lent
    by (refused n) = refl
    by (accepted r) = on (admitted r (decode c)) (if_taken r (decode c) s.loaded)

pub fold_lent : (cs : List (List ℕ)) (s : State) → (fold_left feed cs s).lent ≡ s.lent
fold_lent [] s = refl
fold_lent (c ∷ cs) s = fold_lent cs (feed c s) ∙ feed_lent c s

-- the answer and the array

take_next : (n : ℕ) (c rest : List ℕ) (r : Reader) (l : List ℕ) → length c ≡ 8 →
    take_records (suc n) (c ++ rest) r l ≡ take_on (admitted r (decode c)) (if_taken r (decode c) l) (take_records n rest)
unfolding take_records
take_next n c rest r l h =
    ap₂ (λ x y. take_on (admitted r (decode x)) (if_taken r (decode x) l) (take_records n y)) (take_at c rest 8 h) (drop_at c rest 8 h)

abbrev Answers : State → Taken → Type 0
Answers s t = (s.check ≡ t.answer) × (s.loaded ≡ t.loaded)

answers_of : {s s' : State} {t t' : Taken} → s ≡ s' → t ≡ t' → Answers s' t' → Answers s t
answers_of p q a = (ap (λ x. x.check) p ∙ a.0 ∙ sym (ap (λ x. x.answer) q), ap (λ x. x.loaded) p ∙ a.1 ∙ sym (ap (λ x. x.loaded) q))

fold_taken : (cs : List (List ℕ)) (s : State) (r : Reader) → Eights cs → s.check ≡ accepted r →
    Answers (fold_left feed cs s) (take_records (length cs) (flat cs) r s.loaded)
unfolding take_records
fold_taken [] s r h e = (e, refl)
fold_taken (c ∷ cs) s r h e =
    answers_of (ap (fold_left feed cs) (feed_tested c s r e)) (take_next (length cs) c (flat cs) r s.loaded h.0)
    (on (λ t q. fold_taken cs t q h.1) (admitted r (decode c)) (if_taken r (decode c) s.loaded))
  where
    on : ((t : State) (q : Reader) → t.check ≡ accepted q → Answers (fold_left feed cs t) (take_records (length cs) (flat cs) q t.loaded)) →
        (o : Outcome Reader) (l : List ℕ) → Answers (fold_left feed cs (tested o c l s)) (take_on o l (take_records (length cs) (flat cs)))
    on more (refused n) l = answers_of (fold_idle cs (tested (refused n) c l s) n refl) refl (refl, refl)
    on more (accepted q) l = more (tested (accepted q) c l s) q refl

-- the bytes of the records done are counted, and stand at the buffer's start if they fit

record Written (done buffer : List ℕ) (s : State) : Type 0 where
  counted : s.count ≡ length done
  stored : length done ≤ length buffer → s.buffer ≡ over done buffer

put_over : (done c buffer : List ℕ) → length c ≡ 8 → length (done ++ c) ≤ length buffer → put (length done) c (over done buffer) ≡ over (done ++ c) buffer
unfolding put
put_over done c buffer h fits =
    let n : length (done ++ c) ≡ length done + 8 = length-append done c ∙ ap (λ k. length done + k) h in
    let rest = drop (length done) buffer in
    let room : length done + 8 ≤ length (over done buffer) = omega (arith, length-append done rest, length-drop (length done) buffer) in
    rw (le-leb (length done + 8) (length (over done buffer)) room)
    (ap₂ (λ x y. x ++ y)
    (ap₂ (λ x y. x ++ y) (take-append_seam done rest) (take_all 8 c (omega arith)))
    (drop-append-add done rest 8 ∙ drop-drop 8 (length done) buffer ∙ ap (λ k. drop k buffer) (sym n)))

put_written : (done c buffer : List ℕ) (s : State) (r : Reader) (l : List ℕ) → length c ≡ 8 → Written done buffer s →
    Written (done ++ c) buffer (tested (accepted r) c l s)
put_written done c buffer s r l h w =
    let n = length-append done c in
    let k = w.counted in
    record {
      counted = omega arith;
      stored = λ fits. ap₂ (λ i b. put i c b) k (w.stored (omega arith)) ∙ put_over done c buffer h fits;
    }

fold_written : (cs : List (List ℕ)) (s : State) (r : Reader) (done buffer : List ℕ) → Eights cs → Written done buffer s → (fold_left feed cs s).check ≡ accepted r →
    Written (done ++ flat cs) buffer (fold_left feed cs s)
fold_written [] s r done buffer h w e = subst (λ d. Written d buffer s) (sym (append-nil done)) w
fold_written (c ∷ cs) s r done buffer h w e =
    rw (← append_assoc done c (flat cs)) (fold_written cs (feed c s) r (done ++ c) buffer h.1 (by s.check refl) e)
  where
    on : (o : Outcome Reader) (l : List ℕ) → feed c s ≡ tested o c l s → Written (done ++ c) buffer (feed c s)
    on (refused n) l p = absurd (accepted_not r n (sym e ∙ ap (λ x. x.check) (ap (fold_left feed cs) p ∙ fold_idle cs (tested (refused n) c l s) n refl)))
    on (accepted q) l p = rw p (put_written done c buffer s q l h.0 w)

    by : (o : Outcome Reader) → s.check ≡ o → Written (done ++ c) buffer (feed c s)
    by (refused n) p = absurd (accepted_not r n (sym e ∙ ap (λ x. x.check) (fold_idle (c ∷ cs) s n p) ∙ p))
    by (accepted q) p = on (admitted q (decode c)) (if_taken q (decode c) s.loaded) (feed_tested c s q p)

eights : (cs : List (List ℕ)) → Eights cs → length (flat cs) ≡ 8 * length cs
eights [] h = refl
eights (c ∷ cs) h = let n = length-append c (flat cs) in let a = h.0 in let b = eights cs h.1 in omega arith

module _ (cs : List (List ℕ)) (h : Eights cs) (buffer : List ℕ) (lent : ℕ) where
  answers : Answers (fed_all cs buffer lent) (check_of (flat cs))
  answers =
      let e = eights cs h in
      let n : length (flat cs) / 8 ≡ length cs = omega arith in
      rw n (fold_taken cs (nothing_read buffer lent) started h refl)

  pub checked_answer : (fed_all cs buffer lent).check ≡ (check_of (flat cs)).answer
  checked_answer = answers.0

  pub checked_loaded : (fed_all cs buffer lent).loaded ≡ (check_of (flat cs)).loaded
  checked_loaded = answers.1

  module _ (r : Reader) (e : (fed_all cs buffer lent).check ≡ accepted r) where
    written : Written (flat cs) buffer (fed_all cs buffer lent)
    written = fold_written cs (nothing_read buffer lent) r [] buffer h (record { counted = refl; stored = λ _. refl }) e

    pub checked_count : (fed_all cs buffer lent).count ≡ length (flat cs)
    checked_count = written.counted

    pub checked_buffer : length (flat cs) ≤ length buffer → (fed_all cs buffer lent).buffer ≡ over (flat cs) buffer
    checked_buffer = written.stored
