-- Demands 1 and 2 for the table check and direct conversion: what is answered and left, and that exactly the tables that keep the rules are
-- accepted. The check accepts what it should by `Described`, `Readable` and `Seven`, and the text fits the buffer by `Length`.
use mathlib.Core.Bool.{not}
use mathlib.Core.List.{List, [], ◌∷◌, ◌++◌}
use mathlib.Core.Path.{◌≡◌, refl, sym, ap, subst, ◌∙◌}
use Prim.Native.Nat.{ℕ, ◌*◌, ◌≤◌, ◌<◌}
use native.Mathlib.Omega.{arith}
use lib.Dec.{T, T_not, eqb, eqb→eq, ltb, ltb→lt, nltb→le}
use lib.ListN.{length, drop, length-append, length-drop}
use lib.Seq.{take-append_seam, drop-append_seam}
use Rattle.lists.specs.Lists.{any}
use Rattle.lists.specs.Decide.{select}
use Rattle.lists.proofs.Laws.Tests.{not_not, or_cases, any_more, by_cases}
use Rattle.meaning.specs.Refusal.{Outcome, refused, accepted, and_then, RefusedBy}
use Rattle.meaning.specs.Table.{Table, expansion}
use Rattle.meaning.specs.Value.{SafeTable, safe}
use Rattle.meaning.specs.Reader.{read_rules, read_table}
use Rattle.meaning.specs.Meaning.{meaning_text}
use Rattle.meaning.specs.Direct.{limit, Converted, admitted, direct_by, direct, over}
use Rattle.meaning.specs.Records.{Bytes}
use Rattle.meaning.specs.Claims.{Keeps, CheckAccepts, CheckRefuses, ValuesTested, DirectAnswers, Lengths, DirectAccepts, DirectRefuses}
use Rattle.meaning.proofs.Laws.Refusal.{by_then, accepted_not, accepted_same, refused_same}
use Rattle.meaning.proofs.Laws.Seven.{safe_table, table_safe}
use Rattle.meaning.proofs.Laws.Reading.{record_refusals, read_filled, read_refused, read_shaped}
use Rattle.meaning.proofs.Laws.Described.{read_records_lem, read_well_formed}
use Rattle.meaning.proofs.Laws.Readable.{described_read}
use Rattle.meaning.proofs.Laws.Numbered.{rules_length, rules_unknown, rules_no_rule, rules_for_good}
use Rattle.meaning.proofs.Laws.Length.{text_short}

-- the table check

abbrev pub table_refusals : List ℕ
table_refusals = 1 ∷ 2 ∷ 3 ∷ 4 ∷ 5 ∷ 6 ∷ 7 ∷ []

failing_unsafe : (b : List ℕ) (t : Table) → read_rules b ≡ accepted t → T (not (safe t)) → SafeTable t → ⊥
failing_unsafe b t e n s = T_not (safe t) n (table_safe t (read_filled b t e) s)

-- what the check's answer says
abbrev Checked : List ℕ → Outcome Table → Type 0
Checked b (refused n) = T (any (eqb n) table_refusals) × (n ≡ 7 → (t : Table) × (read_rules b ≡ accepted t) × (SafeTable t → ⊥)) × (n ≤ 6 → read_rules b ≡ refused n)
Checked b (accepted t) = (read_rules b ≡ accepted t) × SafeTable t

checked : (b : List ℕ) → Checked b (read_table b)
unfolding read_table
checked b =
    by_then (Checked b) (read_rules b) (λ t. select ((not (safe t), refused 7) ∷ []) (accepted t))
    (λ n e.
    let few = read_refused b n e in
    (any_more (eqb n) record_refusals (7 ∷ []) few, λ k. absurd (subst (λ m. T (any (eqb m) record_refusals)) k few), λ _. e))
    (λ t e.
    by_cases (Checked b) _ (accepted t) (
      λ n. (tt, λ _. (t, e, failing_unsafe b t e n), λ k. absurd (omega arith)),
      λ n. (e, safe_table t (not_not (safe t) n)),
    ))

-- what an accepted table passed
pub table_rules : (b : List ℕ) (t : Table) → read_table b ≡ accepted t → read_rules b ≡ accepted t
table_rules b t e = (subst (Checked b) e (checked b)).0

pub table_values : (b : List ℕ) (t : Table) → read_table b ≡ accepted t → SafeTable t
table_values b t e = (subst (Checked b) e (checked b)).1

pub keeps_rules : (b : List ℕ) (t : Table) → Keeps b t → read_rules b ≡ accepted t
keeps_rules b t k = described_read b t k.records k.well_formed

pub keeps_read : (b : List ℕ) (t : Table) → Keeps b t → read_table b ≡ accepted t
unfolding read_table and_then
keeps_read b t k =
    let e = keeps_rules b t k in
    rw e (by_cases (λ o. o ≡ accepted t) ((not (safe t), refused 7) ∷ []) (accepted t) (λ n. absurd (failing_unsafe b t e n k.values), λ _. refl))

pub values_tested : ValuesTested
unfolding ValuesTested
values_tested b t r w = (safe_table t, table_safe t (read_filled b t (described_read b t r w)))

pub read_keeps : (b : List ℕ) (t : Table) → Bytes b → read_table b ≡ accepted t → Keeps b t
read_keeps b t y e =
    let r = table_rules b t e in
    record { records = read_records_lem b t y r; well_formed = read_well_formed b t y r; values = table_values b t e }

pub check_accepts : (b : List ℕ) → CheckAccepts b
check_accepts b =
    record {
      keeping = keeps_read b;
      accepting = λ y t. read_keeps b t y;
      one_table = λ t u k l. accepted_same t u (sym (keeps_read b t k) ∙ keeps_read b u l);
    }

pub table_refused : (b : List ℕ) (n : ℕ) → read_table b ≡ refused n → T (any (eqb n) table_refusals)
table_refused b n e = (subst (Checked b) e (checked b)).0

-- 1 to 6 are the reader's
pub rules_refused : (b : List ℕ) (n : ℕ) → read_table b ≡ refused n → n ≤ 6 → read_rules b ≡ refused n
rules_refused b n e l = (subst (Checked b) e (checked b)).2 l

pub refused_first : (b : List ℕ) (n : ℕ) → read_rules b ≡ refused n → read_table b ≡ refused n
unfolding read_table and_then
refused_first b n e = rw e refl

pub check_refuses : (b : List ℕ) → CheckRefuses b
check_refuses b =
    record {
      records = λ n e l t r w. accepted_not t n (sym (described_read b t r w) ∙ rules_refused b n e l);
      for_good = λ n e h more t r w. rules_for_good b n (rules_refused b n e (below n h)) h more t (described_read (b ++ more) t r w);
      whole = (λ e. (rules_length b).0 (rules_refused b 1 e (omega arith)), λ d. refused_first b 1 ((rules_length b).1 d));
      unknown = λ e. rules_unknown b (rules_refused b 2 e (omega arith));
      no_rule = λ y e. rules_no_rule b y (rules_refused b 5 e (omega arith));
      values = λ y e.
          let u = (subst (Checked b) e (checked b)).1 refl in
          (u.0, record { records = read_records_lem b u.0 y u.1; well_formed = read_well_formed b u.0 y u.1; unsafe = u.2 });
    }
  where
    below : (n : ℕ) → T (any (eqb n) (2 ∷ 3 ∷ 6 ∷ [])) → n ≤ 6
    below n h =
        or_cases (eqb n 2) _ h (λ u. omega (arith, eqb→eq n 2 u))
        (λ k. or_cases (eqb n 3) _ k (λ u. omega (arith, eqb→eq n 3 u)) (λ l. or_cases (eqb n 6) _ l (λ u. omega (arith, eqb→eq n 6 u)) (λ f. absurd f)))

-- admission

abbrev direct_refusals : List ℕ
direct_refusals = 1 ∷ 2 ∷ 3 ∷ 4 ∷ 5 ∷ 6 ∷ 7 ∷ 14 ∷ 15 ∷ []

-- why the number k was answered
record Why (b : List ℕ) (n room k : ℕ) : Type 0 where
  numbered : T (any (eqb k) direct_refusals)
  table : k ≤ 7 → read_table b ≡ refused k
  long : k ≡ 14 → limit < n
  no_room : k ≡ 15 → (t : Table) × (read_table b ≡ accepted t) × (room < expansion t * n)

abbrev Admitted : List ℕ → ℕ → ℕ → Outcome Table → Type 0
Admitted b n room (refused k) = Why b n room k
Admitted b n room (accepted t) = (read_table b ≡ accepted t) × (n ≤ limit) × (expansion t * n ≤ room)

admission : (b : List ℕ) (n room : ℕ) → Admitted b n room (admitted b n room)
unfolding admitted
admission b n room =
    by_then (Admitted b n room) (read_table b) (λ t. select ((ltb limit n, refused 14) ∷ (ltb room (expansion t * n), refused 15) ∷ []) (accepted t))
    (λ k e.
    let few = table_refused b k e in
    record {
      numbered = any_more (eqb k) table_refusals (14 ∷ 15 ∷ []) few;
      table = λ _. e;
      long = λ q. absurd (subst (λ m. T (any (eqb m) table_refusals)) q few);
      no_room = λ q. absurd (subst (λ m. T (any (eqb m) table_refusals)) q few);
    })
    (λ t e.
    by_cases (Admitted b n room) _ (accepted t) (
      λ u. record { numbered = tt; table = λ q. absurd (omega arith); long = λ _. ltb→lt limit n u; no_room = λ q. absurd (omega arith) },
      λ v. (
        λ u. record { numbered = tt; table = λ q. absurd (omega arith); long = λ q. absurd (omega arith); no_room = λ _. (t, e, ltb→lt room (expansion t * n) u) },
        λ u. (e, nltb→le limit n v, nltb→le room (expansion t * n) u),
      ),
    ))

keeping_admitted : (b : List ℕ) (n room : ℕ) (t : Table) → Keeps b t → n ≤ limit → expansion t * n ≤ room → admitted b n room ≡ accepted t
unfolding admitted and_then
keeping_admitted b n room t k l r =
    rw (keeps_read b t k) (by_cases (λ o. o ≡ accepted t) ((ltb limit n, refused 14) ∷ (ltb room (expansion t * n), refused 15) ∷ []) (accepted t) (
      λ u. let h = ltb→lt limit n u in absurd (omega arith),
      λ _. (λ u. let h = ltb→lt room (expansion t * n) u in absurd (omega arith), λ _. refl),
    ))

-- the buffer, with a text that fits at its start
pub over_whole : (text buffer : List ℕ) → length text ≤ length buffer → length (over text buffer) ≡ length buffer
over_whole text buffer h = rw (length-append, length-drop) (omega arith)

pub over_beyond : (text buffer : List ℕ) (n : ℕ) → n ≡ length text → drop n (over text buffer) ≡ drop n buffer
over_beyond text buffer n e = rw e (drop-append_seam text (drop (length text) buffer))

-- the answer, for what was admitted

module _ (b input buffer : List ℕ) where
  numbered_by : (o : Outcome Table) → Admitted b (length input) (length buffer) o →
      RefusedBy direct_refusals (direct_by o input buffer).answer
  numbered_by (refused k) h = h.numbered
  numbered_by (accepted t) h = tt

  unchanged_by : (o : Outcome Table) (n : ℕ) → (direct_by o input buffer).answer ≡ refused n → (direct_by o input buffer).output ≡ buffer
  unchanged_by (refused k) n e = refl
  unchanged_by (accepted t) n e = absurd (accepted_not _ n e)

  beyond_by : (o : Outcome Table) (a : Converted) → (direct_by o input buffer).answer ≡ accepted a →
      drop a.count (direct_by o input buffer).output ≡ drop a.count buffer
  beyond_by (refused k) a e = refl
  beyond_by (accepted t) a e =
      over_beyond (meaning_text t input) buffer a.count (sym (ap (λ c. c.count) (accepted_same _ a e)))

  whole_by : (o : Outcome Table) → Admitted b (length input) (length buffer) o → length (direct_by o input buffer).output ≡ length buffer
  whole_by (refused k) h = refl
  whole_by (accepted t) h =
      let room : expansion t * length input ≤ length buffer = h.2 in
      over_whole (meaning_text t input) buffer (omega (arith, text_short t (read_shaped b t (table_rules b t h.0)) input))

  accepting_by : (o : Outcome Table) (a : Converted) → Bytes b → Admitted b (length input) (length buffer) o → (direct_by o input buffer).answer ≡ accepted a →
      (t : Table) × Keeps b t × Lengths t input buffer
  accepting_by (refused k) a y h e = absurd (accepted_not a k (sym e))
  accepting_by (accepted t) a y h e = (t, read_keeps b t y h.0, record { short = h.1; room = h.2 })

  why : (o : Outcome Table) (k : ℕ) → Admitted b (length input) (length buffer) o → (direct_by o input buffer).answer ≡ refused k → Why b (length input) (length buffer) k
  why (refused m) k h e = subst (Why b (length input) (length buffer)) (refused_same m k e) h
  why (accepted t) k h e = absurd (accepted_not _ k e)

  pub direct_answers : DirectAnswers b input buffer
  unfolding direct
  direct_answers =
      let o = admitted b (length input) (length buffer) in
      let h = admission b (length input) (length buffer) in
      record { numbered = numbered_by o h; unchanged = unchanged_by o; beyond = beyond_by o; whole = whole_by o h }

  pub direct_accepts : DirectAccepts b input buffer
  unfolding direct
  direct_accepts =
      record {
        keeping = λ t k l.
            let e = keeping_admitted b (length input) (length buffer) t k l.short l.room in
            let text = meaning_text t input in
            record {
              count = length text;
              answer = rw e refl;
              counted = refl;
              text = rw e (take-append_seam text (drop (length text) buffer));
            };
        accepting = λ y a e. accepting_by (admitted b (length input) (length buffer)) a y (admission b (length input) (length buffer)) e;
      }

  pub direct_refuses : DirectRefuses b input buffer
  unfolding direct
  direct_refuses =
      let reason : (k : ℕ) → (direct b input buffer).answer ≡ refused k → Why b (length input) (length buffer) k =
      λ k. why (admitted b (length input) (length buffer)) k (admission b (length input) (length buffer)) in
      record {
        table = λ n e. (reason n e).table;
        long = λ e. (reason 14 e).long refl;
        room = λ y e. let u = (reason 15 e).no_room refl in (u.0, read_keeps b u.0 y u.1, u.2);
      }
