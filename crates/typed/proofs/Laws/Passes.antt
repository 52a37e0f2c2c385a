-- The two passes over a text: what the first answers says what the text and a lent buffer come to, and the second leaves the records.
-- By cases on the records of the text, and on whether they fit. Assumes nothing.
use mathlib.Core.Bool.{Bool, true, false}
use mathlib.Core.List.{List, [], ◌∷◌}
use mathlib.Core.Path.{◌≡◌, refl, sym, ap, subst, ◌∙◌}
use Prim.Native.Nat.{ℕ, ◌≤◌, ◌<◌}
use borrow.Author.Tests.{lt-ltb, le-ltb}
use lib.Dec.{ltb}
use lib.ListN.{length}
use Rattle.lists.specs.Decide.{select}
use Rattle.meaning.specs.Refusal.{Outcome, refused, accepted, and_then}
use Rattle.meaning.proofs.Laws.Refusal.{accepted_not, accepted_same, refused_same}
use Rattle.typed.specs.bridge.Outcome.{text_records, fitting, leaving, from_text}
use Rattle.typed.specs.bridge.Answers.{Written}
use Rattle.typed.proofs.Laws.Decided.{decision}

-- the first pass answers the length of the records, or the refusal
abbrev pub size_of : Outcome (List ℕ) → Outcome ℕ
size_of o = and_then o (λ b. accepted (length b))

pub size_refused : {o : Outcome (List ℕ)} {n : ℕ} → o ≡ refused n → refused n ≡ size_of o
unfolding and_then
size_refused e = rw e

pub size_accepted : {o : Outcome (List ℕ)} {b : List ℕ} {n : ℕ} → o ≡ accepted b → n ≡ length b → accepted n ≡ size_of o
unfolding and_then
size_accepted e q = rw (e, q)

refused_size : (o : Outcome (List ℕ)) (n : ℕ) → refused n ≡ size_of o → o ≡ refused n
unfolding and_then
refused_size (refused m) n e = ap refused (sym (refused_same n m e))
refused_size (accepted b) n e = absurd (accepted_not (length b) n (sym e))

accepted_size : (o : Outcome (List ℕ)) (n : ℕ) → accepted n ≡ size_of o → (b : List ℕ) × (o ≡ accepted b) × (n ≡ length b)
unfolding and_then
accepted_size (refused m) n e = absurd (accepted_not n m e)
accepted_size (accepted b) n e = (b, refl, accepted_same n (length b) e)

-- what the text and the buffer come to
module _ (text buffer : List ℕ) where
  abbrev ComesTo : Outcome ℕ → List ℕ → Type 0
  ComesTo answer table = (answer ≡ (from_text text buffer).answer) × (table ≡ (from_text text buffer).table)

  comes : (o : Outcome (List ℕ)) → decision text buffer ≡ o → ComesTo (leaving o buffer).answer (leaving o buffer).table
  unfolding from_text
  comes o e = (ap (λ x. (leaving x buffer).answer) (sym e), ap (λ x. (leaving x buffer).table) (sym e))

  pub comes_refused : (n : ℕ) → refused n ≡ size_of (text_records text) → ComesTo (refused n) buffer
  unfolding and_then
  comes_refused n e = comes (refused n) (rw (refused_size (text_records text) n e))

  -- the records, of which the first pass gave the length
  module _ (n : ℕ) (e : accepted n ≡ size_of (text_records text)) where
    abbrev b : List ℕ
    b = (accepted_size (text_records text) n e).0

    sized : n ≡ length b
    sized = (accepted_size (text_records text) n e).2

    decided : (f : Bool) → ltb (length buffer) (length b) ≡ f → decision text buffer ≡ select ((f, refused 15) ∷ []) (accepted b)
    unfolding and_then
    decided f q = ap (λ o. and_then o (fitting (length buffer))) (accepted_size (text_records text) n e).1 ∙ ap (λ x. select ((x, refused 15) ∷ []) (accepted b)) q

    pub comes_unfit : length buffer < n → ComesTo (refused 15) buffer
    unfolding select
    comes_unfit l = comes (refused 15) (decided true (lt-ltb (length buffer) (length b) (subst (λ k. length buffer < k) sized l)))

    pub comes_accepted : {after : List ℕ} → n ≤ length buffer → Written text buffer after → ComesTo (accepted n) after
    unfolding select
    comes_accepted l w =
        let fits : length b ≤ length buffer = subst (λ k. k ≤ length buffer) sized l in
        let k = comes (accepted b) (decided false (le-ltb (length buffer) (length b) fits)) in
        (ap accepted sized ∙ k.0, w b (accepted_size (text_records text) n e).1 fits ∙ k.1)
