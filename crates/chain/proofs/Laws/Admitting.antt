-- Refusals 11 to 15 and 18 of a chain in their order: what the first test that fails answers, and what is left past those that passed.
-- By one step of the decision list for each test.
use mathlib.Core.Bool.{true, false, not}
use mathlib.Core.List.{List, [], ◌∷◌}
use mathlib.Core.Path.{◌≡◌, sym, ap, ◌∙◌}
use Prim.Native.Nat.{ℕ, ◌+◌, ◌*◌, ◌≤◌, ◌<◌}
use borrow.Author.Tests.{lt-ltb, le-ltb}
use lib.Dec.{ltb}
use Rattle.lists.specs.Decide.{select}
use Rattle.meaning.specs.Refusal.{Outcome, refused, accepted}
use Rattle.meaning.specs.Direct.{limit}
use Rattle.automaton.specs.Sound.{sound, expansion_word}
use Rattle.reckoning.specs.Session.{Session, is_open, sound_session}
use Rattle.reckoning.specs.Chain.{admits_chain}
use Rattle.reckoning.proofs.Laws.Admitting.{select_first, select_next, select_none}
use Rattle.chain.specs.bridge.Both.{room_tests}

module _ (most₁ received₁ held₁ most₂ received₂ held₂ size middle room : ℕ) where
  abbrev least : ℕ
  least = most₁ * (held₁ + size)

  abbrev tested : Outcome (Unit {0})
  tested = room_tests most₁ received₁ held₁ most₂ received₂ held₂ size middle room

  pub first_long : limit < received₁ + size → refused 14 ≡ tested
  first_long h = sym (select_first _ _ _ (lt-ltb limit (received₁ + size) h))

  module _ (a : received₁ + size ≤ limit) where
    pub second_long : limit < received₂ + least → refused 14 ≡ tested
    second_long h = sym (select_next _ _ _ (le-ltb limit (received₁ + size) a) ∙ select_first _ _ _ (lt-ltb limit (received₂ + least) h))

    module _ (b : received₂ + least ≤ limit) where
      pub middle_short : middle < least → refused 18 ≡ tested
      middle_short h =
          sym (select_next _ _ _ (le-ltb limit (received₁ + size) a) ∙ select_next _ _ _ (le-ltb limit (received₂ + least) b)
          ∙ select_first _ _ _ (lt-ltb middle least h))

      module _ (c : least ≤ middle) where
        past_middle : tested ≡ select ((ltb room (most₂ * (held₂ + least)), refused 15) ∷ []) (accepted tt)
        past_middle =
            select_next _ _ _ (le-ltb limit (received₁ + size) a) ∙ select_next _ _ _ (le-ltb limit (received₂ + least) b)
            ∙ select_next _ _ _ (le-ltb middle least c)

        pub output_short : room < most₂ * (held₂ + least) → refused 15 ≡ tested
        output_short h = sym (past_middle ∙ select_first _ _ _ (lt-ltb room (most₂ * (held₂ + least)) h))

        pub has_room : most₂ * (held₂ + least) ≤ room → accepted tt ≡ tested
        has_room h = sym (past_middle ∙ select_next _ _ _ (le-ltb room (most₂ * (held₂ + least)) h) ∙ select_none (accepted tt))

module _ (w₁ w₂ : List ℕ) (s₁ s₂ : Session) (n middle room : ℕ) where
  abbrev admission : Outcome (Unit {0})
  admission = admits_chain w₁ w₂ s₁ s₂ n middle room

  pub first_words : sound w₁ ≡ false → refused 11 ≡ admission
  unfolding admits_chain
  first_words e = sym (select_first _ _ _ (ap not e))

  module _ (a : sound w₁ ≡ true) where
    pub second_words : sound w₂ ≡ false → refused 11 ≡ admission
    unfolding admits_chain
    second_words e = sym (select_next _ _ _ (ap not a) ∙ select_first _ _ _ (ap not e))

    module _ (b : sound w₂ ≡ true) where
      pub first_kept : sound_session w₁ s₁ ≡ false → refused 12 ≡ admission
      unfolding admits_chain
      first_kept e = sym (select_next _ _ _ (ap not a) ∙ select_next _ _ _ (ap not b) ∙ select_first _ _ _ (ap not e))

      module _ (c : sound_session w₁ s₁ ≡ true) where
        pub second_kept : sound_session w₂ s₂ ≡ false → refused 12 ≡ admission
        unfolding admits_chain
        second_kept e =
            sym (select_next _ _ _ (ap not a) ∙ select_next _ _ _ (ap not b) ∙ select_next _ _ _ (ap not c) ∙ select_first _ _ _ (ap not e))

        module _ (d : sound_session w₂ s₂ ≡ true) where
          pub first_ended : is_open s₁.status ≡ false → refused 13 ≡ admission
          unfolding admits_chain
          first_ended e =
              sym (select_next _ _ _ (ap not a) ∙ select_next _ _ _ (ap not b) ∙ select_next _ _ _ (ap not c) ∙ select_next _ _ _ (ap not d)
              ∙ select_first _ _ _ (ap not e))

          module _ (f : is_open s₁.status ≡ true) where
            pub second_ended : is_open s₂.status ≡ false → refused 13 ≡ admission
            unfolding admits_chain
            second_ended e =
                sym (select_next _ _ _ (ap not a) ∙ select_next _ _ _ (ap not b) ∙ select_next _ _ _ (ap not c) ∙ select_next _ _ _ (ap not d)
                ∙ select_next _ _ _ (ap not f) ∙ select_first _ _ _ (ap not e))

            pub both_open : is_open s₂.status ≡ true →
                room_tests (expansion_word w₁) s₁.received s₁.count (expansion_word w₂) s₂.received s₂.count n middle room ≡ admission
            unfolding admits_chain
            both_open e =
                sym (select_next _ _ _ (ap not a) ∙ select_next _ _ _ (ap not b) ∙ select_next _ _ _ (ap not c) ∙ select_next _ _ _ (ap not d)
                ∙ select_next _ _ _ (ap not f) ∙ select_next _ _ _ (ap not e))
