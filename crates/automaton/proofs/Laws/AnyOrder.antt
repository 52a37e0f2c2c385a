-- Request [7]'s sentence on compiling: tables that differ only in the order of terms compile to equal words, and are accepted alike.
-- They are read to the same table, or both are refused, and by whichever of 1 to 9 the words are zeros.
use mathlib.Core.Bool.{Bool, true, false, not}
use mathlib.Core.List.{List, [], ◌∷◌}
use mathlib.Core.Path.{◌≡◌, refl, subst}
use Prim.Native.Nat.{ℕ}
use lib.Dec.{T, eqb, ltb}
use lib.ListN.{length}
use Rattle.lists.specs.Lists.{any}
use Rattle.lists.specs.Decide.{select}
use Rattle.lists.proofs.Laws.Tests.{of_not, by_cases, ne→neqb}
use Rattle.meaning.specs.Refusal.{Outcome, refused, accepted, and_then}
use Rattle.meaning.specs.Table.{Table}
use Rattle.meaning.specs.Records.{Bytes}
use Rattle.meaning.specs.Reader.{read_table}
use Rattle.meaning.specs.AnyOrder.{DifferInTerms}
use Rattle.meaning.proofs.Laws.Refusal.{refused_not, by_then}
use Rattle.meaning.proofs.Laws.Direct.{table_refused}
use Rattle.meaning.proofs.Laws.AnyOrder.{Passes, then_passes, read_alike}
use Rattle.automaton.specs.Layout.{word_count}
use Rattle.automaton.specs.Compile.{CompileOutcome, small, compilable, compile_by, compile}
use Rattle.automaton.specs.AnyOrder.{CompiledAlike}

-- refused by another number than 10
abbrev NotTen : Outcome Table → Type 0
NotTen (refused n) = T (not (eqb n 10))
NotTen (accepted t) = Unit {0}

table_not_ten : (b : List ℕ) → NotTen (and_then (read_table b) small)
unfolding small
table_not_ten b =
    by_then NotTen (read_table b) small
    (λ n e. ne→neqb n 10 (λ i. subst (λ n. T (any (eqb n) (1 ∷ 2 ∷ 3 ∷ 4 ∷ 5 ∷ 6 ∷ 7 ∷ []))) i (table_refused b n e)))
    (λ t e. by_cases NotTen _ (accepted t) (λ _. tt, λ _. (λ _. tt, λ _. tt)))

-- the same words, and accepted where the first is
module _ (buffer : List ℕ) where
  abbrev Follows : CompileOutcome → CompileOutcome → Type 0
  Follows x y = (x.words ≡ y.words) × (x.answer ≡ accepted tt → y.answer ≡ accepted tt)

  follows : (o o' : Outcome Table) → NotTen o → NotTen o' → Passes o o' → Passes o' o → Follows (compile_by o buffer) (compile_by o' buffer)
  follows (accepted t) o' n m f g = rw (f t refl) (refl, λ k. k)
  follows (refused i) (accepted t) n m f g = absurd (refused_not i t (g t refl))
  follows (refused i) (refused j) n m f g = (rw (of_not (eqb i 10) n, of_not (eqb j 10) m) refl, λ k. absurd (refused_not i tt k))

  roomy : (o o' : Outcome Table) (x : Bool) → Follows (compile_by o buffer) (compile_by o' buffer) →
      Follows (compile_by (select ((x, refused 10) ∷ []) o) buffer) (compile_by (select ((x, refused 10) ∷ []) o') buffer)
  unfolding select
  roomy o o' true h = (refl, λ k. k)
  roomy o o' false h = h

  compiled_follows : (b c : List ℕ) → Bytes b → Bytes c → DifferInTerms b c → Follows (compile b buffer) (compile c buffer) × Follows (compile c buffer) (compile b buffer)
  unfolding compile compilable
  compiled_follows b c e e' d =
      let o = and_then (read_table b) small in
      let o' = and_then (read_table c) small in
      let alike = (read_alike b c e e' d).table in
      let there : Passes o o' = then_passes (read_table b) (read_table c) (λ t. (alike t).0) small in
      let back : Passes o' o = then_passes (read_table c) (read_table b) (λ t. (alike t).1) small in
      let short = ltb (length buffer) word_count in (
        roomy o o' short (follows o o' (table_not_ten b) (table_not_ten c) there back),
        roomy o' o short (follows o' o (table_not_ten c) (table_not_ten b) back there),
      )

-- TABLES THAT DIFFER ONLY IN THE ORDER OF TERMS COMPILE ALIKE.
pub compiled_alike : CompiledAlike
compiled_alike =
    record {
      words = λ b c buffer e e' d. (compiled_follows buffer b c e e' d).0.0;
      answer = λ b c buffer e e' d. let f = compiled_follows buffer b c e e' d in (f.0.1, f.1.1);
    }
