-- What sound words say, and that the automaton read from them is good and short.
-- The test is taken apart into its clauses; a rule has K at least 1, so that no state of depth 0 accepts.
use mathlib.Core.Bool.{not, cond, false≢true}
use mathlib.Core.List.{List, [], ◌∷◌}
use mathlib.Core.Logic.{◌≢◌}
use mathlib.Core.Path.{◌≡◌, refl, sym, ap, subst, ◌∙◌}
use Prim.Native.Nat.{ℕ, suc, pred, ◌≤◌, ◌<◌}
use native.Mathlib.Decide.{ℕ_discrete}
use native.Mathlib.Omega.{arith}
use borrow.Author.Tests.{ne_eqb}
use lib.Dec.{T, eqb, leb→le, ltb→lt, eqb→eq}
use lib.ListN.{length, take, drop, length-drop}
use lib.Seq.{length-take-le}
use Rattle.lists.specs.Decide.{all_of}
use Rattle.lists.proofs.Laws.Tests.{not_not, implied, holds, below, of_cond, neqb→ne, ne→neqb, of_between}
use Rattle.lists.proofs.Laws.Sets.{length_tab}
use Rattle.meaning.specs.Table.{present, least, default_number, pair_number}
use Rattle.meaning.specs.Block.{at, block_output}
use Rattle.automaton.specs.Classes.{class_of}
use Rattle.automaton.specs.Layout.{word_count, classes_from}
use Rattle.automaton.specs.Sound.{class_count, longest_word, expansion_word, rule_count, state_count, depth_word, accept_at_end_word, accept_word, target_word, block_at, between, used, sound_entry, sound_header, sound_block, sound_blocks, names_rule, sound_target, sound_state, sound, word_mode, mode_at}
use Rattle.automaton.specs.Automaton.{from_words}
use Rattle.automaton.proofs.Laws.Good.{Good, Short}
use Rattle.automaton.proofs.Laws.Classes.{class_below}

-- the words that are no state's and no block's
pub record SoundHeader (w : List ℕ) : Type 0 where
  pub long : word_count ≤ length w
  pub some_state : 1 ≤ state_count w
  pub few_states : state_count w ≤ 256
  pub some_class : 1 ≤ class_count w
  pub few_classes : class_count w ≤ 64
  pub positive : 1 ≤ longest_word w
  pub longest : longest_word w ≤ 8
  pub expansion : expansion_word w ≤ 8
  pub some_rule : 1 ≤ rule_count w
  pub few_rules : rule_count w ≤ 32
  pub default : at w 5 ≤ 2
  pub at_least : least (mode_at w) ≤ expansion_word w

pub record SoundBlock (w : List ℕ) (g most : ℕ) : Type 0 where
  pub positive : 1 ≤ at (block_at w g) 0
  pub size : at (block_at w g) 0 ≤ most
  pub anchored : at (block_at w g) 1 ≤ 1
  pub outputs : at (block_at w g) 2 ≤ expansion_word w
  pub entries : (j : ℕ) → j < at (block_at w g) 2 → T (sound_entry (block_at w g) j)

-- n is the number, + 1, of a rule whose K is the depth
pub record Names (w : List ℕ) (depth n : ℕ) : Type 0 where
  pub known : n ≤ rule_count w
  pub size : at (block_at w (pred n)) 0 ≡ depth

-- q is a state that state s may lead to
pub record Follows (w : List ℕ) (s q : ℕ) : Type 0 where
  pub later : s < q
  pub below : q < state_count w
  pub deeper : depth_word w q ≡ suc (depth_word w s)
  pub no_accept : accept_word w s ≡ 0

pub record SoundState (w : List ℕ) (s : ℕ) : Type 0 where
  pub first : s ≡ 0 → depth_word w s ≡ 0
  pub shallow : depth_word w s ≤ longest_word w
  pub end : accept_at_end_word w s ≢ 0 → Names w (depth_word w s) (accept_at_end_word w s)
  pub accept : accept_word w s ≢ 0 → Names w (depth_word w s) (accept_word w s)
  pub accept_end : accept_word w s ≢ 0 → accept_at_end_word w s ≢ 0
  pub target : (k : ℕ) → k < class_count w → target_word w s k ≢ 0 → Follows w s (target_word w s k)

module _ (w : List ℕ) where
  names : (depth n : ℕ) → T (names_rule w depth n) → Names w depth n
  unfolding names_rule
  names depth n t =
      let h = holds _ t in
      record { known = leb→le n (rule_count w) h.0; size = eqb→eq (at (block_at w (pred n)) 0) depth h.1.0 }

  block : (g most anchored : ℕ) → anchored ≤ 1 → T (sound_block w g most anchored) → SoundBlock w g most
  unfolding sound_block
  block g most anchored a t =
      let b = block_at w g in
      let h = holds _ t in
      let size = of_between 1 most (at b 0) h.0 in
      let second : at b 1 ≤ anchored = leb→le (at b 1) anchored h.1.0 in
      record {
        positive = size.0;
        size = size.1;
        anchored = omega arith;
        outputs = leb→le (at b 2) (expansion_word w) h.1.1.0;
        entries = below (at b 2) (sound_entry b) h.1.1.1.0;
      }

  follows : (s q : ℕ) → T (all_of (not (used (accept_word w s)) ∷ sound_target w s q ∷ [])) → Follows w s q
  unfolding sound_target
  follows s q t =
      let h = holds _ t in
      let into = holds _ h.1.0 in
      record {
        later = ltb→lt s q into.0;
        below = ltb→lt q (state_count w) into.1.0;
        deeper = eqb→eq (depth_word w q) (suc (depth_word w s)) into.1.1.0;
        no_accept = eqb→eq (accept_word w s) 0 (not_not (eqb (accept_word w s) 0) h.0);
      }

  state : (s : ℕ) → T (sound_state w s) → SoundState w s
  unfolding sound_state
  state s t =
      let h = holds _ t in
      let depth = depth_word w s in
      let end = accept_at_end_word w s in
      let go = accept_word w s in
      let none = eqb s 0 in
      let deep = between 1 (longest_word w) depth in
      let goes : go ≢ 0 → _ = λ n. holds _ (implied (used go) _ h.1.1.0 (ne→neqb go 0 n)) in
      let shallow : T (cond none (eqb depth 0) deep) → depth ≤ longest_word w =
      of_cond (λ b. T b → depth ≤ longest_word w) none (eqb depth 0) deep (λ _ e. omega (arith, eqb→eq depth 0 e)) (λ _ b. (of_between 1 (longest_word w) depth b).1) in
      let first : s ≡ 0 → T (cond none (eqb depth 0) deep) → depth ≡ 0 =
      λ z. of_cond (λ b. T b → depth ≡ 0) none (eqb depth 0) deep (λ _ e. eqb→eq depth 0 e) (λ n. absurd (neqb→ne s 0 n z)) in
      record {
        first = λ z. first z h.0;
        shallow = shallow h.0;
        end = λ n. names depth end (implied (used end) _ h.1.0 (ne→neqb end 0 n));
        accept = λ n. names depth go (goes n).0;
        accept_end = λ n. neqb→ne end 0 (goes n).1.1.0;
        target = λ k b n. follows s (target_word w s k) (implied (used (target_word w s k)) _ (below (class_count w) _ h.1.1.1.0 k b) (ne→neqb (target_word w s k) 0 n));
      }

-- what the words of a rule or of the default write
pub block_written : (m : List ℕ) (g : ℕ) (u : List ℕ) → g < pair_number → (from_words m).write g u ≡ block_output (block_at m g) u
unfolding from_words
block_written m g u h = rw (ne_eqb g 33 (omega arith))

-- a block writes as many characters as it says
pub length_block_output : (b w : List ℕ) → length (block_output b w) ≡ at b 2
unfolding block_output
length_block_output b w = length_tab _ 0 (at b 2)

module _ (w : List ℕ) (sure : T (sound w)) where
  pub sound_header_lem : SoundHeader w
  unfolding sound sound_header
  sound_header_lem =
      let all = holds _ sure in
      let h = holds _ all.1.0 in
      let states = of_between 1 256 (state_count w) h.0 in
      let classes = of_between 1 64 (class_count w) h.1.0 in
      let longest = of_between 1 8 (longest_word w) h.1.1.0 in
      let rules = of_between 1 32 (rule_count w) h.1.1.1.1.0 in
      record {
        long = leb→le word_count (length w) all.0;
        some_state = states.0;
        few_states = states.1;
        some_class = classes.0;
        few_classes = classes.1;
        positive = longest.0;
        longest = longest.1;
        expansion = leb→le (expansion_word w) 8 h.1.1.1.0;
        some_rule = rules.0;
        few_rules = rules.1;
        default = leb→le (at w 5) 2 h.1.1.1.1.1.0;
        at_least = leb→le (least (mode_at w)) (expansion_word w) h.1.1.1.1.1.1.0;
      }

  pub sound_rule : (g : ℕ) → g < rule_count w → SoundBlock w g (longest_word w)
  unfolding sound sound_blocks
  sound_rule g b = block w g (longest_word w) 1 (omega arith) (below (rule_count w) _ (holds _ (holds _ sure).1.1.1.0).0 g b)

  pub sound_default : at w 5 ≢ 0 → SoundBlock w default_number 1
  unfolding sound sound_blocks
  sound_default e =
      block w default_number 1 0 (omega arith) (implied (used (at w 5)) _ (holds _ (holds _ sure).1.1.1.0).1.0 (ne→neqb (at w 5) 0 e))

  pub sound_state_lem : (s : ℕ) → s < state_count w → SoundState w s
  unfolding sound
  sound_state_lem s b = state w s (below (state_count w) _ (holds _ sure).1.1.1.1.0 s b)

  -- a character's class is below the class count
  pub sound_class : (c : ℕ) → class_of (take (class_count w) (drop classes_from w)) c < class_count w
  sound_class c =
      let h = sound_header_lem in
      let room : class_count w ≤ length (drop classes_from w) = omega (arith, length-drop classes_from w) in
      let whole = length-take-le (class_count w) (drop classes_from w) room in
      subst (λ n. class_of (take (class_count w) (drop classes_from w)) c < n) whole (class_below (take (class_count w) (drop classes_from w)) c (omega arith))

  -- a rule is named only where the depth is not 0
  named : (depth n : ℕ) → Names w depth n → n ≢ 0 → SoundBlock w (pred n) (longest_word w)
  named depth n a h = let k = a.known in sound_rule (pred n) (omega arith)

  none_at_0 : (depth n : ℕ) → depth ≡ 0 → (n ≢ 0 → Names w depth n) → n ≡ 0
  none_at_0 depth n z f =
      elim (ℕ_discrete n 0) [
        | yes e ↦ e
        | no h ↦ let a = f h in let p = (named depth n a h).positive in let s = a.size in absurd (omega arith)
      ]

  target_cases : (P : ℕ → Type 0) (q x : ℕ) → q < state_count w → P 0 → ((k : ℕ) → Follows w q k → P k) → P ((from_words w).target q x)
  unfolding from_words
  target_cases P q x b p f =
      let k = class_of (take (class_count w) (drop classes_from w)) x in
      elim (ℕ_discrete (target_word w q k) 0) [
        | yes e ↦ subst P (sym e) p
        | no h ↦ f (target_word w q k) ((sound_state_lem q b).target k (sound_class x) h)
      ]

  -- a target lies one deeper
  pub sound_deeper : (q x : ℕ) → q < state_count w → (from_words w).target q x ≢ 0 → depth_word w ((from_words w).target q x) ≡ suc (depth_word w q)
  sound_deeper q x b = target_cases (λ k. k ≢ 0 → depth_word w k ≡ suc (depth_word w q)) q x b (λ no0. absurd (no0 refl)) (λ k f _. f.deeper)

  pub sound_good : Good (from_words w) (longest_word w) (state_count w)
  unfolding from_words
  sound_good =
      let h = sound_header_lem in
      let zeroth = sound_state_lem 0 h.some_state in
      let n = state_count w in
      record {
        some_state = h.some_state;
        depth = depth_word w;
        depth_0 = zeroth.first refl;
        accept_0 = none_at_0 (depth_word w 0) (accept_word w 0) (zeroth.first refl) zeroth.accept;
        end_0 = none_at_0 (depth_word w 0) (accept_at_end_word w 0) (zeroth.first refl) zeroth.end;
        inside = λ q x b. target_cases (λ k. k < n) q x b h.some_state (λ k f. f.below);
        deeper = sound_deeper;
        shallow = λ q b. (sound_state_lem q b).shallow;
        no_way_on = λ q x b a. target_cases (λ k. k ≡ 0) q x b refl (λ k f. absurd (a f.no_accept));
      }

  pub sound_depth_lem : (q : ℕ) → sound_good.depth q ≡ depth_word w q
  unfolding sound_good
  sound_depth_lem q = refl

  outputs_short : (g most : ℕ) → g < pair_number → SoundBlock w g most → (u : List ℕ) → length ((from_words w).write g u) ≤ expansion_word w
  outputs_short g most b s u = rw (block_written w g u b, length_block_output) s.outputs

  named_short : (depth n r : ℕ) → (n ≢ 0 → Names w depth n) → n ≡ suc r → (u : List ℕ) → length ((from_words w).write r u) ≤ expansion_word w
  named_short depth n r f e =
      let h : n ≢ 0 = omega arith in
      let same : pred n ≡ r = omega arith in
      let known : n ≤ rule_count w = (f h).known in
      let few : rule_count w ≤ 32 = sound_header_lem.few_rules in
      subst (λ k. (u : List ℕ) → length ((from_words w).write k u) ≤ expansion_word w) same (outputs_short (pred n) (longest_word w) (omega arith) (named depth n (f h) h))

  pub sound_short : Short (from_words w) (expansion_word w) (state_count w)
  unfolding from_words
  sound_short =
      record {
        of_accept = λ q r b e. named_short (depth_word w q) (accept_word w q) r (sound_state_lem q b).accept e;
        of_end = λ q r b e. named_short (depth_word w q) (accept_at_end_word w q) r (sound_state_lem q b).end e;
        of_default = λ e. outputs_short default_number 1 (omega arith) (sound_default (λ z. false≢true (ap (λ n. present (word_mode n)) (sym z) ∙ e)));
        of_pair = λ e x y. let h : 1 ≤ expansion_word w = subst (λ m. least m ≤ expansion_word w) e sound_header_lem.at_least in omega arith;
      }

  pub sound_longest : longest_word w ≤ 8
  sound_longest = sound_header_lem.longest
