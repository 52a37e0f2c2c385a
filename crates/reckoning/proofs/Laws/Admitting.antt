-- Refusals 11 to 15 in their order: what the first test that fails answers, and what is left past those that passed.
-- By one step of the decision list for each test.
use mathlib.Core.Bool.{Bool, true, false, not}
use mathlib.Core.List.{List, [], ◌∷◌}
use mathlib.Core.Path.{◌≡◌, refl, sym, ap, ◌∙◌}
use Prim.Native.Nat.{ℕ, ◌+◌, ◌*◌, ◌≤◌, ◌<◌}
use borrow.Author.Tests.{lt-ltb, le-ltb}
use lib.Dec.{ltb}
use Rattle.lists.specs.Decide.{select}
use Rattle.meaning.specs.Refusal.{Outcome, refused, accepted}
use Rattle.meaning.specs.Direct.{limit}
use Rattle.automaton.specs.Sound.{sound, expansion_word}
use Rattle.reckoning.specs.Session.{Session, is_open, sound_session}
use Rattle.reckoning.specs.Calls.{admits}

-- a decision list, by its first test
pub select_first : {A : Type 0} {b : Bool} (x : A) (cs : List (Bool × A)) (a : A) → b ≡ true → select ((b, x) ∷ cs) a ≡ x
unfolding select
select_first x cs a e = rw e refl

pub select_next : {A : Type 0} {b : Bool} (x : A) (cs : List (Bool × A)) (a : A) → b ≡ false → select ((b, x) ∷ cs) a ≡ select cs a
unfolding select
select_next x cs a e = rw e refl

pub select_none : {A : Type 0} (a : A) → select [] a ≡ a
unfolding select
select_none a = refl

-- refusals 14 and 15, which an open session meets
abbrev pub room_tests : ℕ → ℕ → ℕ → ℕ → ℕ → Outcome (Unit {0})
room_tests most received held size room =
    select ((ltb limit (received + size), refused 14) ∷ (ltb room (most * (held + size)), refused 15) ∷ []) (accepted tt)

module _ (most received held size room : ℕ) where
  pub too_long : limit < received + size → refused 14 ≡ room_tests most received held size room
  too_long h = sym (select_first _ _ _ (lt-ltb limit (received + size) h))

  pub too_narrow : received + size ≤ limit → room < most * (held + size) → refused 15 ≡ room_tests most received held size room
  too_narrow h k = sym (select_next _ _ _ (le-ltb limit (received + size) h) ∙ select_first _ _ _ (lt-ltb room (most * (held + size)) k))

  pub has_room : received + size ≤ limit → most * (held + size) ≤ room → accepted tt ≡ room_tests most received held size room
  has_room h k =
      sym (select_next _ _ _ (le-ltb limit (received + size) h) ∙ select_next _ _ _ (le-ltb room (most * (held + size)) k) ∙ select_none (accepted tt))

module _ (w : List ℕ) (s : Session) (n room : ℕ) where
  pub words_unsound : sound w ≡ false → refused 11 ≡ admits w s n room
  unfolding admits
  words_unsound e = sym (select_first _ _ _ (ap not e))

  module _ (p : sound w ≡ true) where
    pub session_unsound : sound_session w s ≡ false → refused 12 ≡ admits w s n room
    unfolding admits
    session_unsound e = sym (select_next _ _ _ (ap not p) ∙ select_first _ _ _ (ap not e))

    module _ (q : sound_session w s ≡ true) where
      pub session_ended : is_open s.status ≡ false → refused 13 ≡ admits w s n room
      unfolding admits
      session_ended e = sym (select_next _ _ _ (ap not p) ∙ select_next _ _ _ (ap not q) ∙ select_first _ _ _ (ap not e))

      pub session_open : is_open s.status ≡ true → room_tests (expansion_word w) s.received s.count n room ≡ admits w s n room
      unfolding admits
      session_open e = sym (select_next _ _ _ (ap not p) ∙ select_next _ _ _ (ap not q) ∙ select_next _ _ _ (ap not e))
