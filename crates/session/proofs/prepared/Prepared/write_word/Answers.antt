-- `prepared::Prepared::write_word` meets its contract: the rule takes as many characters as there are, from the piece or from a store that holds the text's.
-- Assumes nothing.
use mathlib.Core.Path.{◌≡◌, ap, ◌∙◌}
use mathlib.Core.List.{◌++◌}
use Prim.Native.Nat.{◌+◌, ◌-◌, ◌≤◌}
use native.Mathlib.Omega.{arith}
use lib.ListN.{length, take, drop, length-append, length-drop}
use lib.Seq.{length-take-le}
use Rattle.meaning.specs.Block.{at, block_output}
use Rattle.automaton.specs.Sound.{block_at}
use Rattle.session.proofs.Laws.Running.{gathered}
use Rattle.session.proofs.Laws.Reading.{piece_part}
use Rattle.session.specs.bridge.Running.{whole}
use Rattle.session.proofs.prepared.Prepared.write_word.Goals as goal
use Rattle.session.proofs.prepared.Prepared.write_word.Goals.{Start}

-- the text's place is one of the piece
inside : (s : Start) → s.args.from - length s.args.text.now.given.now ≤ length s.args.text.now.piece.now
inside s = omega (arith, s.requires.from_le_to.0, s.requires.from_le_to.1, length-append s.args.text.now.given.now s.args.text.now.piece.now)

pub write_rule-requires : goal.write_rule-requires
write_rule-requires c =
    let a = c.args in
    let p = c.requires.from_le_to in
    let n = a.from - length a.text.now.given.now in
    let rest = drop n a.text.now.piece.now in
    let size : length (take (length a.text.now.piece.now - n) rest) ≡ length a.text.now.piece.now - n =
    length-take-le (length a.text.now.piece.now - n) rest (omega (arith, length-drop n a.text.now.piece.now)) in
    let t = c.if-from-text.true in
    let all = length-append a.text.now.given.now a.text.now.piece.now in
    record {
      rule_number = c.requires.rule_bound.0;
      rule_bound = (omega (arith, p.2, p.3), c.requires.rule_bound.1);
      rule_in_bounds = omega (arith, p.0, p.1, p.3, size, t, all);
      rule_in_bounds_2 = c.requires.rule_in_bounds;
    }

pub returns-then-from-text : goal.returns-then-from-text
returns-then-from-text c =
    let a = c.args in
    let b = block_at a.self.now.machine.words.all.now a.rule.0 in
    let n = a.from - length a.text.now.given.now in
    let known = c.write_rule.ensures in
    let t = c.if-from-text.true in record {
      value = known.value;
      output_after = known.output_after ∙ ap (λ l. take a.count a.output.now ++ block_output b l ++ drop (a.count + at b 2) a.output.now)
          (ap (λ k. take k (take (length a.text.now.piece.now - n) (drop n a.text.now.piece.now))) c.requires.from_le_to.3
          ∙ piece_part a.text.now.given.now a.text.now.piece.now a.from (a.to - a.from) t);
    }

pub returns : goal.returns
returns c =
    let a = c.args in
    let b = block_at a.self.now.machine.words.all.now a.rule.0 in
    let known = c.write_rule-2.ensures in
    let e = c.requires.from_le_to.3 in record {
      value = known.value;
      output_after = known.output_after ∙ ap (λ l. take a.count a.output.now ++ block_output b l ++ drop (a.count + at b 2) a.output.now)
          (ap (λ n. take n c.gather.new.store) e
          ∙ gathered (whole a.text.now) _ _ a.from (a.to - a.from) (omega (arith, c.requires.from_le_to.0, c.requires.from_le_to.1)) c.gather.ensures);
    }
