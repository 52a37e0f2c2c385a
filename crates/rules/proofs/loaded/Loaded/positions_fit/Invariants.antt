-- `positions_fit` meets its contract. The invariant: the word fits where it fits from the position of the turn on.
-- Assumes nothing.
use Rattle.std.proofs.Common.{◌≡◌, ◌+◌, length}
use Rattle.lists.specs.Lists.{tab_from}
use Rattle.meaning.specs.Value.{fits_word}
use Rattle.meaning.specs.bridge.Flat.{ranges_at}
use Rattle.meaning.proofs.Laws.Choosing.{fits_from}
use Rattle.rules.proofs.loaded.Loaded.positions_fit.Given as goal

abbrev pub invariant-loop-p : goal.invariant-loop-p
invariant-loop-p l = let loaded = l.self.words.now in
    fits_word (tab_from 0 (length l.word) (λ q. ranges_at loaded (l.place + q))) l.word ≡ fits_from loaded l.place l.word l.p
